-- What the calls that add rows to a state leave.
use Rattle.std.specs.Prelude.{ℕ, ◌≡◌, ◌+◌, List, ◌∷◌, ◌++◌, [], Some, length, option_map, Result, IfErr, IfSome}
use Rattle.af_runs.specs.Runs.{queued_run, run_at}
use Rattle.af_runs.specs.declared.new_run.NewRun.{NewRun}
use Rattle.af_runs.specs.declared.run.Run.{Run}
use Rattle.af_sched.specs.State.{StateRows, dag_of}
use Rattle.af_sched.specs.declared.add_dag_fault.AddDagFault.{AddDagFault}
use Rattle.af_sched.specs.declared.add_dag_fault.AddDagFault.TheVariants.{OutOfMemory}

-- the DAG of a new run is there, and the run has one instance for each of its tasks
abbrev pub IsWholeNew : StateRows → NewRun → Type 0
IsWholeNew state new = option_map (λ row. length row.dag.tasks) (dag_of state.dags new.dag_id) ≡ Some (length new.instances)

-- the run of the later one's number, where there is one, has as many instances as the later one
abbrev pub HasAsManyInstances : List Run → Run → Type 0
HasAsManyInstances runs later = IfSome (run_at runs later.number) (λ run. length later.instances ≡ length run.instances)

-- a new run was added last, under this number
pub record AddsRun (old new : StateRows) (run : NewRun) (number : ℕ) : Type 0 where
  pub next_number : number ≡ old.next_run
  pub state : new ≡ record old { runs = old.runs ++ queued_run number run ∷ []; next_run = old.next_run + 1 }

-- the call succeeded, or a growth of memory was refused
abbrev pub IsOkOrOutOfMemory : {T : Type 0} → Result T AddDagFault → Type 0
IsOkOrOutOfMemory result = IfErr result (λ fault. fault ≡ OutOfMemory)
