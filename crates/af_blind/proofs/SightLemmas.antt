-- The reader's sight of a state is the state cut down to what may be read; an operation does on a state what it does on the sight of it.
use Rattle.std.proofs.Common.{◌≡◌, ◌∙◌, refl, sym, ap, ap₂, ℕ, Bool, true, List, [], map, length}
use Rattle.std.specs.Prelude.{Option, Some, None, Result, Ok, Err, codes, ok_or, filter, option_and_then, option_map, slice_get, zip}
use Rattle.std.specs.Cmp.Lexicographic.{bytes_decides}
use Rattle.std.proofs.lemmas.Bool.{and_parts}
use Rattle.std.proofs.lemmas.List.{length-map}
use Rattle.std.proofs.lemmas.Simd.{map-map}
use Rattle.af_base.specs.Readings.{◌>>=◌}
use Rattle.serde_json.specs.Data.{Data}
use Rattle.af_graph.specs.Graph.{place_of, same_name}
use Rattle.af_graph.specs.declared.task_spec.TaskSpec.{TaskSpec}
use Rattle.af_listing.specs.Pages.{cut}
use Rattle.af_listing.specs.Windows.{Cut}
use Rattle.af_policy.specs.declared.bad_input.Parameter.{Parameter}
use Rattle.af_runs.specs.Runs.{is_of, is_run, run_of, runs_of}
use Rattle.af_runs.specs.declared.instance.Instance.{Instance}
use Rattle.af_runs.specs.declared.run.Run.{Run}
use Rattle.af_sched.specs.State.{StateRows, dag_of, is_of_id}
use Rattle.af_sched.specs.declared.dag_row.DagRow.{DagRow}
use Rattle.af_ops.specs.declared.answer.OpFault.{OpFault}
use Rattle.af_ops.specs.declared.answer.OpFault.TheVariants as fault
use Rattle.af_ops.specs.EffectParts.{Effect, dag_or, kept, run_or}
use Rattle.af_ops.specs.Effects.{all_runs, got_dag, got_instance, got_run, instance_at, instance_of, instances_data, listed_dags, listed_instances, listed_tasks, runs_data, runs_of_dag, tasks_data}
use Rattle.af_ops.specs.Endpoints.{both}
use Rattle.af_ops.specs.Fields.{listing_of}
use Rattle.af_ops.specs.Listings.{read_rows}
use Rattle.af_ops.specs.Rows.{InstanceTold}
use Rattle.af_ops.specs.Replies.{dag_data, instance_data, run_data}
use Rattle.af_blind.specs.Blindness.{Alike, dags_read, runs_read, unnumbered}
use Rattle.af_blind.proofs.KeptLemmas.{cut_map, filter_kept, filter_map, find_kept, find_map}

-- a state of these rows alone
abbrev state_of : List DagRow → List Run → StateRows
state_of dags runs = record { dags = dags; runs = runs; next_run = 0; pools = []; variables = [] }

-- what is left of a state for a reader: no number of a run, no pool and no variable
abbrev pub sight : (List ℕ → Bool) → (List ℕ → Bool) → StateRows → StateRows
sight reads shows state = state_of (dags_read reads state) (runs_read shows state)

pub one_sight : (reads shows : List ℕ → Bool) (state other : StateRows) → Alike reads shows state other → sight reads shows state ≡ sight reads shows other
one_sight reads shows state other alike = ap₂ state_of alike.dags alike.runs

-- ---- no reply has a run's number in it

abbrev dags_told : Cut → List DagRow → Data
dags_told window rows = listing_of (codes "dags") (map dag_data (cut window rows)) (length rows)

runs_told : (window : Cut) (runs : List Run) → runs_data window (map unnumbered runs) ≡ runs_data window runs
runs_told window runs =
    ap₂ (λ (rows : List Data) (total : ℕ). listing_of (codes "dag_runs") rows total)
    (ap (map run_data) (cut_map unnumbered (λ (run : Run). true) window runs) ∙ map-map run_data unnumbered (cut window runs))
    (length-map runs unnumbered)

abbrev told_at : Run → TaskSpec × Instance → InstanceTold
told_at run at = record { run = run; task = at.0; instance = at.1 }

-- a page of instances, each with its run
abbrev page_told : Cut → List TaskSpec → Run → Data
page_told window tasks run =
    listing_of (codes "task_instances") (map (λ at. instance_data (told_at run at)) (cut window (zip tasks run.instances))) (length (zip tasks run.instances))

instances_paged : (window : Cut) (tasks : List TaskSpec) (run : Run) → instances_data window tasks run ≡ page_told window tasks run
instances_paged window tasks run =
    ap₂ (λ (rows : List Data) (total : ℕ). listing_of (codes "task_instances") rows total)
    (ap (map instance_data) (cut_map (told_at run) (λ (it : InstanceTold). true) window (zip tasks run.instances)) ∙ map-map instance_data (told_at run) (cut window (zip tasks run.instances)))
    (length-map (zip tasks run.instances) (told_at run))

instances_unnumbered : (window : Cut) (row : DagRow) (run : Run) → ◌≡◌ {A = Result Effect OpFault} (Ok (kept (instances_data window row.dag.tasks run))) (Ok (kept (instances_data window row.dag.tasks (unnumbered run))))
instances_unnumbered window row run =
    ap (λ (data_of : Data). Ok (kept data_of)) (instances_paged window row.dag.tasks run ∙ sym (instances_paged window row.dag.tasks (unnumbered run)))

-- the reply to a request for the instance of a task
abbrev pub one_told : List ℕ → DagRow → Run → Result Effect OpFault
one_told task_id row run = ok_or (instance_of row.dag.tasks run task_id) fault.NoSuchTask >>= (λ told. Ok (kept (instance_data told)))

instance_unnumbered : (task_id : List ℕ) (row : DagRow) (run : Run) → one_told task_id row run ≡ one_told task_id row (unnumbered run)
instance_unnumbered task_id row run = at (place_of row.dag.tasks task_id)
  where
    by : (found : Option (TaskSpec × Instance)) → (ok_or (option_map (told_at run) found) fault.NoSuchTask >>= (λ told. Ok (kept (instance_data told)))) ≡ (ok_or (option_map (told_at (unnumbered run)) found) fault.NoSuchTask >>= (λ told. Ok (kept (instance_data told))))
    by None = refl
    by (Some it) = refl

    at : (place : Option ℕ) → (ok_or (option_and_then (instance_at row.dag.tasks run) place) fault.NoSuchTask >>= (λ told. Ok (kept (instance_data told)))) ≡ (ok_or (option_and_then (instance_at row.dag.tasks (unnumbered run)) place) fault.NoSuchTask >>= (λ told. Ok (kept (instance_data told))))
    at None = refl
    at (Some place) = by (both (slice_get row.dag.tasks place) (slice_get run.instances place))

-- the reply of a run that is looked up, its number left out or not
of_run : (tell : DagRow → Run → Result Effect OpFault) → ((row : DagRow) (run : Run) → tell row run ≡ tell row (unnumbered run)) → (dag : Option DagRow) (run : Option Run) → (ok_or dag fault.NoSuchDag >>= (λ row. ok_or run fault.NoSuchRun >>= (λ it. tell row it))) ≡ (ok_or dag fault.NoSuchDag >>= (λ row. ok_or (option_map unnumbered run) fault.NoSuchRun >>= (λ it. tell row it)))
of_run tell same None run = refl
of_run tell same (Some row) None = refl
of_run tell same (Some row) (Some run) = same row run

-- a test that an id passes is passed by an id that is the same
same_id : (test : List ℕ → Bool) (dag_id : List ℕ) → test dag_id ≡ true → (id : List ℕ) → same_name id dag_id ≡ true → test id ≡ true
same_id test dag_id here id is = ap test ((bytes_decides id dag_id).0 is) ∙ here

module _ (reads shows : List ℕ → Bool) (state : StateRows) where
  abbrev reads_row : DagRow → Bool
  reads_row row = reads row.dag.dag_id

  abbrev shows_run : Run → Bool
  shows_run run = shows run.dag_id

  -- ---- listings of all DAGs

  pub listed : (asked : Result Cut Parameter) → listed_dags reads state asked ≡ listed_dags reads (sight reads shows state) asked
  listed (Err parameter) = refl
  listed (Ok window) =
      ap (λ (rows : List DagRow). Ok (kept (dags_told window rows))) (filter_kept reads_row reads_row (λ row is. is) state.dags)

  -- the runs that may be read are those of the sight
  runs_again : read_rows shows (λ (run : Run). run.dag_id) (runs_read shows state) ≡ runs_read shows state
  runs_again =
      filter_map unnumbered shows_run (filter shows_run state.runs)
      ∙ ap (map unnumbered) (sym (filter_kept shows_run shows_run (λ run is. is) state.runs))

  pub all_listed : (asked : Result Cut Parameter) → all_runs shows state asked ≡ all_runs shows (sight reads shows state) asked
  all_listed (Err parameter) = refl
  all_listed (Ok window) =
      ap (λ (data_of : Data). Ok (kept data_of))
      (sym (runs_told window (read_rows shows (λ (run : Run). run.dag_id) state.runs)) ∙ ap (runs_data window) (sym runs_again))

  -- ---- one DAG, which may be read

  module _ (dag_id : List ℕ) (here : reads dag_id ≡ true) where
    dag_found : dag_of state.dags dag_id ≡ dag_of (dags_read reads state) dag_id
    dag_found = find_kept (is_of_id dag_id) reads_row (λ row is. same_id reads dag_id here row.dag.dag_id is) state.dags

    pub got : got_dag state dag_id ≡ got_dag (sight reads shows state) dag_id
    got = ap (λ (found : Option DagRow). ok_or found fault.NoSuchDag >>= (λ row. Ok (kept (dag_data row)))) dag_found

    pub tasks_listed : listed_tasks state dag_id ≡ listed_tasks (sight reads shows state) dag_id
    tasks_listed = ap (λ (found : Option DagRow). ok_or found fault.NoSuchDag >>= (λ row. Ok (kept (tasks_data row.dag.tasks)))) dag_found

    -- and so may its runs
    module _ (told : shows dag_id ≡ true) where
      run_found : (run_id : List ℕ) → option_map unnumbered (run_of state.runs dag_id run_id) ≡ run_of (runs_read shows state) dag_id run_id
      run_found run_id =
          ap (option_map unnumbered) (find_kept (is_run dag_id run_id) shows_run (λ run is. same_id shows dag_id told run.dag_id (and_parts (same_name run.dag_id dag_id) (same_name run.run_id run_id) is).0) state.runs)
          ∙ sym (find_map unnumbered (is_run dag_id run_id) (filter shows_run state.runs))

      runs_found : map unnumbered (runs_of state.runs dag_id) ≡ runs_of (runs_read shows state) dag_id
      runs_found =
          ap (map unnumbered) (filter_kept (is_of dag_id) shows_run (λ run is. same_id shows dag_id told run.dag_id is) state.runs)
          ∙ sym (filter_map unnumbered (is_of dag_id) (filter shows_run state.runs))

      pub runs_listed : (asked : Result Cut Parameter) → runs_of_dag state dag_id asked ≡ runs_of_dag (sight reads shows state) dag_id asked
      runs_listed (Err parameter) = refl
      runs_listed (Ok window) =
          ap₂ (λ (found : Option DagRow) (told : Data). ok_or found fault.NoSuchDag >>= (λ row. Ok (kept told))) dag_found
          (sym (runs_told window (runs_of state.runs dag_id)) ∙ ap (runs_data window) runs_found)

      -- the reply of one of its runs
      of_its_run : (tell : DagRow → Run → Result Effect OpFault) → ((row : DagRow) (run : Run) → tell row run ≡ tell row (unnumbered run)) → (run_id : List ℕ) → (dag_or state dag_id >>= (λ row. run_or state dag_id run_id >>= (λ run. tell row run))) ≡ (dag_or (sight reads shows state) dag_id >>= (λ row. run_or (sight reads shows state) dag_id run_id >>= (λ run. tell row run)))
      of_its_run tell same run_id =
          of_run tell same (dag_of state.dags dag_id) (run_of state.runs dag_id run_id)
          ∙ ap₂ (λ (dag : Option DagRow) (run : Option Run). ok_or dag fault.NoSuchDag >>= (λ row. ok_or run fault.NoSuchRun >>= (λ it. tell row it))) dag_found (run_found run_id)

      pub run_got : (run_id : List ℕ) → got_run state dag_id run_id ≡ got_run (sight reads shows state) dag_id run_id
      run_got run_id = of_its_run (λ row run. Ok (kept (run_data run))) (λ row run. refl) run_id

      pub instances_listed : (run_id : List ℕ) (asked : Result Cut Parameter) → listed_instances state dag_id run_id asked ≡ listed_instances (sight reads shows state) dag_id run_id asked
      instances_listed run_id (Err parameter) = refl
      instances_listed run_id (Ok window) = of_its_run (λ row run. Ok (kept (instances_data window row.dag.tasks run))) (instances_unnumbered window) run_id

      pub instance_got : (run_id task_id : List ℕ) → got_instance state dag_id run_id task_id ≡ got_instance (sight reads shows state) dag_id run_id task_id
      instance_got run_id task_id = of_its_run (one_told task_id) (instance_unnumbered task_id) run_id
