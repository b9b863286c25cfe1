-- What the answers to the seven operations that read can show of DAGs that the user may not read, and of runs that the user may not read:
-- nothing (Airflow 2, "Access
-- Control": a user sees the DAGs that the user's roles let the user read; that runs may be hidden where their DAG is not is this product's
-- own rule). Two states are alike for a user if the user can't tell them apart; each operation that reads DAGs, tasks, runs or instances
-- has the same status and body on both.
use Rattle.std.specs.Prelude.{◌≡◌, ℕ, List, map, Bool, true, false, Option, Some, option_map, filter, not}
use Rattle.af_policy.specs.Grants.{readable, reads, shows_runs}
use Rattle.af_policy.specs.Identity.{bearer_of}
use Rattle.af_policy.specs.Rows.{PolicyRows}
use Rattle.af_runs.specs.declared.run.Run.{Run}
use Rattle.af_pool.specs.declared.pool.Pool.{Pool}
use Rattle.af_runs.specs.Runs.{is_of}
use Rattle.af_vars.specs.declared.variable.Variable.{Variable}
use Rattle.af_sched.specs.State.{StateRows, is_of_id}
use Rattle.af_sched.specs.declared.dag_row.DagRow.{DagRow}
use Rattle.af_ops.specs.declared.op.Op.{Op}
use Rattle.af_ops.specs.declared.op.Op.TheVariants as op
use Rattle.af_ops.specs.declared.shown_answer.Shown.{Shown}
use Rattle.af_ops.specs.declared.status.Status.{Status}
use Rattle.af_ops.specs.Listings.{read_rows}
use Rattle.af_ops.specs.Served.{answer_of}
use Rattle.af_ops.specs.Standings.{StandingRows}
use Rattle.af_ops.specs.Verdicts.{dag_ids, verdict}

-- ---- states that are alike for a user

-- a run with its instances, without its number
abbrev pub unnumbered : Run → Run
unnumbered run = record run { number = 0 }

-- the rows of the DAGs that may be read
abbrev pub dags_read : (List ℕ → Bool) → StateRows → List DagRow
dags_read reads state = read_rows reads (λ row. row.dag.dag_id) state.dags

-- the runs of the DAGs whose runs are shown, in their order, each with its instances and without its number
abbrev pub runs_read : (List ℕ → Bool) → StateRows → List Run
runs_read shows state = map unnumbered (read_rows shows (λ run. run.dag_id) state.runs)

-- Both states have the same rows of the DAGs that may be read, and the same runs of the DAGs whose runs are shown. Other DAGs and other runs,
-- run numbers, pools and variables may differ.
pub record Alike (reads shows : List ℕ → Bool) (state other : StateRows) : Type 0 where
  pub dags : dags_read reads state ≡ dags_read reads other
  pub runs : runs_read shows state ≡ runs_read shows other

-- both states are alike for a user, who is shown the runs of a DAG where the user may read the DAG and its runs
abbrev pub AlikeFor : PolicyRows → List ℕ → StateRows → StateRows → Type 0
AlikeFor policy user state other = Alike (reads policy user) (shows_runs (readable policy user)) state other

-- ---- answers that are the same

-- the seven operations that read DAGs, their tasks, runs or instances
abbrev pub reads_dags : Op → Bool
reads_dags (op.ListDags asked) = true
reads_dags (op.GetDag dag_id) = true
reads_dags (op.ListTasks dag_id) = true
reads_dags (op.ListRuns dag asked) = true
reads_dags (op.GetRun dag_id run_id) = true
reads_dags (op.ListInstances dag_id run_id asked) = true
reads_dags (op.GetInstance dag_id run_id task_id) = true
reads_dags _ = false

-- what of an answer is compared: all but the policy version and the number of entries, each of which has a header field of its own
abbrev pub status_and_body : Shown → Status × Option (List ℕ)
status_and_body shown = (shown.status, shown.body)

-- On states that are alike for the token's user, each of the seven is answered with the same status and the same body, whatever the
-- numbers of entries, their limits and the numbers of the policy version. A token that no user has gets the same answer on any two.
abbrev pub Blindness : Type 0
Blindness =
    (limit another : ℕ) (policy : PolicyRows) (standing other : StandingRows) (token : Option (List ℕ)) (asked : Op) (now : ℕ) → reads_dags asked ≡ true
    → ((user : List ℕ) → bearer_of policy token ≡ Some user → AlikeFor policy user standing.state other.state)
    → option_map status_and_body (answer_of asked standing.under (verdict limit policy standing token asked now))
    ≡ option_map status_and_body (answer_of asked other.under (verdict another policy other token asked now))

-- on states that are alike, the user may read the same DAGs
abbrev pub TheSameAreRead : Type 0
TheSameAreRead =
    (policy : PolicyRows) (user : List ℕ) (state other : StateRows) → AlikeFor policy user state other
    → filter (reads policy user) (dag_ids state) ≡ filter (reads policy user) (dag_ids other)

-- ---- which states are alike

-- the state without a DAG and its runs
abbrev pub without_dag : List ℕ → StateRows → StateRows
without_dag dag_id state = record state {
  dags = filter (λ row. not (is_of_id dag_id row)) state.dags;
  runs = filter (λ run. not (is_of dag_id run)) state.runs;
}

-- a state and the same state without a DAG that the user may not read are alike
abbrev pub HiddenMightBeAbsent : Type 0
HiddenMightBeAbsent =
    (policy : PolicyRows) (user dag_id : List ℕ) (state : StateRows) → reads policy user dag_id ≡ false → AlikeFor policy user state (without_dag dag_id state)

-- so a user who may not read a DAG is answered as if it were not there
abbrev pub HiddenIsAnsweredAsAbsent : Type 0
HiddenIsAnsweredAsAbsent =
    (limit : ℕ) (policy : PolicyRows) (standing : StandingRows) (token : Option (List ℕ)) (user dag_id : List ℕ) (asked : Op) (now : ℕ) → reads_dags asked ≡ true
    → bearer_of policy token ≡ Some user → reads policy user dag_id ≡ false
    → option_map status_and_body (answer_of asked standing.under (verdict limit policy standing token asked now))
    ≡ option_map status_and_body (answer_of asked standing.under (verdict limit policy (record standing { state = without_dag dag_id standing.state }) token asked now))

-- the state without the runs of a DAG, which is still there
abbrev pub without_runs : List ℕ → StateRows → StateRows
without_runs dag_id state = record state { runs = filter (λ run. not (is_of dag_id run)) state.runs }

-- a state and the same state without the runs of a DAG are alike for a user to whom these runs are not shown: the user may not read them, or
-- not the DAG
abbrev pub HiddenRunsMightBeAbsent : Type 0
HiddenRunsMightBeAbsent =
    (policy : PolicyRows) (user dag_id : List ℕ) (state : StateRows) → shows_runs (readable policy user) dag_id ≡ false → AlikeFor policy user state (without_runs dag_id state)

-- so a user to whom the runs of a DAG are not shown is answered as if it had none
abbrev pub HiddenRunsAreAnsweredAsAbsent : Type 0
HiddenRunsAreAnsweredAsAbsent =
    (limit : ℕ) (policy : PolicyRows) (standing : StandingRows) (token : Option (List ℕ)) (user dag_id : List ℕ) (asked : Op) (now : ℕ) → reads_dags asked ≡ true
    → bearer_of policy token ≡ Some user → shows_runs (readable policy user) dag_id ≡ false
    → option_map status_and_body (answer_of asked standing.under (verdict limit policy standing token asked now))
    ≡ option_map status_and_body (answer_of asked standing.under (verdict limit policy (record standing { state = without_runs dag_id standing.state }) token asked now))

-- a run under another number
abbrev pub renumbered : (Run → ℕ) → Run → Run
renumbered number run = record run { number = number run }

-- two states with the same DAGs and the same runs are alike, whatever the numbers of the runs, the next number, the pools and the variables
abbrev pub NumbersMightBeOthers : Type 0
NumbersMightBeOthers =
    (policy : PolicyRows) (user : List ℕ) (number : Run → ℕ) (next_run : ℕ) (pools : List Pool) (variables : List Variable) (state : StateRows)
    → AlikeFor policy user state (record { dags = state.dags; runs = map (renumbered number) state.runs; next_run = next_run; pools = pools; variables = variables })
