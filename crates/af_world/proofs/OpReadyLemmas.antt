-- A state that is ready stays so after every operation.
use Rattle.std.proofs.Common.{◌≡◌, ◌∙◌, ℕ, List, length, map, refl, sym, ap, subst, Bool, true, false, cond, not, ◌||◌}
use Rattle.std.specs.Prelude.{⊤, All, Option, Some, None, Result, Ok, Err, IfSome, nat_eq, nat_lt, ok_or, option_map, unwrap_or, ◌==◌}
use Rattle.std.specs.Cmp.Lexicographic.{bytes_decides, pointwise}
use Rattle.std.proofs.Math.ListN.{length-map}
use Rattle.af_base.specs.Readings.{◌>>=◌}
use Rattle.af_graph.specs.Schedules.{is_scheduled}
use Rattle.af_graph.specs.declared.schedule.Schedule.{Schedule}
use Rattle.af_graph.specs.declared.task_spec.TaskSpec.{TaskSpec}
use Rattle.af_policy.proofs.RemovalLemmas.{find-passes}
use Rattle.af_pool.specs.Pools as pools
use Rattle.af_pool.specs.declared.pool.Pool.{Pool}
use Rattle.af_runs.specs.Clears.{admits, are_left_by, cleared_run, run_after}
use Rattle.af_runs.specs.Instances.{new_instance}
use Rattle.af_runs.specs.Marks.{is_marked, marked_instance, marked_run}
use Rattle.af_runs.specs.Runs.{add_fault, is_run, runs_of}
use Rattle.af_runs.specs.declared.mark.Mark.{Mark}
use Rattle.af_runs.specs.declared.new_run.NewRun.{NewRun}
use Rattle.af_runs.specs.declared.run.Run.{Run}
use Rattle.af_runs.specs.declared.run_fault.RunFault.{RunFault}
use Rattle.af_runs.specs.declared.run_fault.RunFault.TheVariants as run_fault
use Rattle.af_runs.specs.declared.run_filter.RunFilter.{RunFilter}
use Rattle.af_runs.specs.declared.run_type.RunType.TheVariants as run_type
use Rattle.af_runs.specs.declared.selection.Selection.{Selection}
use Rattle.af_runs.proofs.MarkLemmas.{chosen_alone}
use Rattle.af_sched.specs.Backfills.{backfill_runs, backfilled, points_within}
use Rattle.af_sched.specs.State.{StateRows, dag_of, is_of_id, pools_of_row, with_paused}
use Rattle.af_sched.specs.declared.dag_row.DagRow.{DagRow}
use Rattle.af_vars.specs.Variables as variables
use Rattle.af_vars.specs.declared.variable.Variable.{Variable}
use Rattle.af_policy.specs.Grants.{Readable, shows_runs}
use Rattle.af_ops.specs.declared.answer.OpFault.{OpFault}
use Rattle.af_ops.specs.declared.answer.OpFault.TheVariants.{NoSchedule, NoSuchDag, NoSuchTask, TooMany}
use Rattle.af_ops.specs.declared.backfill.Backfill.{Backfill}
use Rattle.af_ops.specs.declared.clear.Clear.{Clear}
use Rattle.af_ops.specs.declared.op.Op.{Op}
use Rattle.af_ops.specs.declared.op.Op.TheVariants as op
use Rattle.af_ops.specs.declared.pool_op.PoolOp.{PoolOp}
use Rattle.af_ops.specs.declared.pool_op.PoolOp.TheVariants as pool
use Rattle.af_ops.specs.declared.trigger.Trigger.{Trigger}
use Rattle.af_ops.specs.declared.variable_op.VariableOp.{VariableOp}
use Rattle.af_ops.specs.declared.variable_op.VariableOp.TheVariants as variable
use Rattle.af_ops.specs.BackfillEffects.{backfilling, may_make, range_or, unless_too_many}
use Rattle.af_ops.specs.ClearEffects.{all_tasks, clearing, filter_of, known_run, known_tasks, one_run, selection_of}
use Rattle.af_ops.specs.EffectParts.{Effect, dag_or, input_or, kept, left_with, run_or, window_or}
use Rattle.af_ops.specs.Effects.{added_run, dags_data, deleting, differs, effect_of, free_by, free_id, id_or, instance_of, instances_data, marking, new_run, nothing_readable, pausing, runs_data, tasks_data, with_marked_run}
use Rattle.af_ops.specs.Listings.{read_rows}
use Rattle.af_ops.specs.PoolEffects.{pool_effect, pool_or, pools_data, settable, setting, told}
use Rattle.af_ops.specs.PoolEffects.{adding as adding_pool, unless_fault as unless_pool_fault}
use Rattle.af_ops.specs.Replies.{dag_data, instance_data, run_data, variable_data}
use Rattle.af_ops.specs.VariableEffects.{variable_effect, variable_or, variables_data, writing}
use Rattle.af_ops.specs.VariableEffects.{adding as adding_variable, unless_fault as unless_variable_fault}
use Rattle.af_audit.specs.Acts.{after_op, next_of}
use Rattle.af_world.specs.Ready.{IsReady}
use Rattle.af_world.proofs.DueReadyLemmas.{IsWholeFor, whole_due, with_all}
use Rattle.af_world.proofs.ReadyLemmas.{IsInPlace, ready_added, ready_dags, ready_fewer, ready_runs, some_in_place}

-- what an operation leaves, if it changes anything
abbrev Leaves : Result Effect OpFault → Type 0
Leaves (Ok effect) = IfSome effect.next IsReady
Leaves (Err why) = ⊤

bound : {X : Type 0} (read : Result X OpFault) (then : X → Result Effect OpFault) → ((x : X) → read ≡ Ok x → Leaves (then x)) → Leaves (read >>= then)
bound (Ok x) then each = each x refl
bound (Err why) then each = tt

one_of : (b : Bool) (next : StateRows) → IsReady next → IfSome (cond b (Some next) None) IsReady
one_of true next ready = ready
one_of false next ready = tt

other_of : (b : Bool) (next : StateRows) → IsReady next → IfSome (cond b None (Some next)) IsReady
other_of true next ready = tt
other_of false next ready = ready

found_ok : (found : Option DagRow) (row : DagRow) → ok_or found NoSuchDag ≡ Ok row → found ≡ Some row
found_ok (Some other) row is = (let same : other ≡ row = cc in ap Some same)
found_ok None row is = absurd (cc)

-- an id that may be given meets no fault
free_none : (asked run_id : List ℕ) (date : ℕ) (fault : Option RunFault) → free_by asked date fault ≡ Ok run_id → (fault ≡ None) × (asked ≡ run_id)
free_none asked run_id date None is = (let same : asked ≡ run_id = cc in (refl, same))
free_none asked run_id date (Some run_fault.RunExists) is = absurd (cc)
free_none asked run_id date (Some run_fault.DateTaken) is = absurd (cc)
free_none asked run_id date (Some run_fault.Full) is = absurd (cc)
free_none asked run_id date (Some run_fault.OutOfMemory) is = absurd (cc)

marked_in_place : (mark : Mark) (t : ℕ) → IsInPlace (marked_run mark t)
marked_in_place mark t = record { key = λ run. refl; long = λ run. length-map run.instances (marked_instance mark t) }

cleared_in_place : (selection : Selection) → IsInPlace (cleared_run selection)
cleared_in_place selection = record { key = λ run. refl; long = λ run. (chosen_alone selection run).count }

module _ (state : StateRows) (ready : IsReady state) where
  clear_leaves : (tasks : List TaskSpec) (asked : RunFilter) (selection : Selection) (dry_run : Bool) → Leaves (Ok (clearing state tasks asked selection dry_run))
  clear_leaves tasks asked selection dry_run =
      other_of (dry_run || are_left_by asked selection state.runs) (record state { runs = map (run_after asked selection) state.runs })
      (ready_runs state (run_after asked selection) (some_in_place (admits asked) (cleared_run selection) (cleared_in_place selection)) ready)

  paused_same : (is_paused : Bool) (row : DagRow) (b : Bool) → (cond b (record row { is_paused = is_paused }) row).dag ≡ row.dag
  paused_same is_paused row true = refl
  paused_same is_paused row false = refl

  ready_paused : (dag : List ℕ) (is_paused : Bool) → IsReady (record state { dags = with_paused state.dags dag is_paused })
  ready_paused dag is_paused =
      ready_dags state (λ row. cond (is_of_id dag row) (record row { is_paused = is_paused }) row) (λ row. paused_same is_paused row (is_of_id dag row)) ready

  ready_marked : (dag run : List ℕ) (mark : Mark) (t : ℕ) → IsReady (with_marked_run state dag run mark t)
  ready_marked dag run mark t =
      ready_runs state (λ other. cond (is_run dag run other) (marked_run mark t other) other) (some_in_place (is_run dag run) (marked_run mark t) (marked_in_place mark t)) ready

  ready_pools : (rows : List Pool) → IsReady (record state { pools = rows })
  ready_pools rows = record { is = record { rows = ready.is.rows; runs = ready.is.runs }; next = ready.next }

  ready_variables : (rows : List Variable) → IsReady (record state { variables = rows })
  ready_variables rows = record { is = record { rows = ready.is.rows; runs = ready.is.runs }; next = ready.next }

  pool_leaves : (it : PoolOp) → Leaves (pool_effect state it)
  pool_leaves (pool.List asked) = bound (window_or asked) (λ window. Ok (kept (pools_data window state))) (λ window is. tt)
  pool_leaves (pool.Add input) =
      bound (input_or input) (λ row. unless_pool_fault (pools.add_fault state.pools row.name row.slots) >>= (λ free. Ok (adding_pool state row)))
      (λ row is. bound (unless_pool_fault (pools.add_fault state.pools row.name row.slots)) (λ free. Ok (adding_pool state row)) (λ free none. ready_pools (pools.with_pool state.pools row)))
  pool_leaves (pool.Get name) = bound (pool_or state name) (λ row. Ok (kept (told state row))) (λ row is. tt)
  pool_leaves (pool.Change name input) =
      bound (input_or input) (λ slots. settable state name slots >>= (λ row. Ok (setting state name row slots)))
      (λ slots is. bound (settable state name slots) (λ row. Ok (setting state name row slots))
      (λ row found. other_of (row.slots == slots) (record state { pools = pools.with_slots state.pools name slots }) (ready_pools (pools.with_slots state.pools name slots))))
  pool_leaves (pool.Delete name) =
      bound (unless_pool_fault (pools.remove_fault pools_of_row state.dags state.pools name)) (λ free. Ok (left_with (record state { pools = pools.without_pool state.pools name })))
      (λ free none. ready_pools (pools.without_pool state.pools name))

  variable_leaves : (it : VariableOp) → Leaves (variable_effect state it)
  variable_leaves (variable.List asked) = bound (window_or asked) (λ window. Ok (kept (variables_data window state.variables))) (λ window is. tt)
  variable_leaves (variable.Add input) =
      bound (input_or input) (λ row. unless_variable_fault (variables.add_fault state.variables row.key) >>= (λ free. Ok (adding_variable state row)))
      (λ row is. bound (unless_variable_fault (variables.add_fault state.variables row.key)) (λ free. Ok (adding_variable state row)) (λ free none. ready_variables (variables.with_variable state.variables row)))
  variable_leaves (variable.Get key) = bound (variable_or state key) (λ row. Ok (kept (variable_data row))) (λ row is. tt)
  variable_leaves (variable.Change key input) =
      bound (input_or input) (λ value. variable_or state key >>= (λ row. Ok (writing state key row value)))
      (λ value is. bound (variable_or state key) (λ row. Ok (writing state key row value))
      (λ row found. other_of (pointwise nat_eq row.value value) (record state { variables = variables.with_value state.variables key value }) (ready_variables (variables.with_value state.variables key value))))
  variable_leaves (variable.Delete key) =
      bound (unless_variable_fault (variables.change_fault state.variables key)) (λ free. Ok (left_with (record state { variables = variables.without_variable state.variables key })))
      (λ free none. ready_variables (variables.without_variable state.variables key))

  -- of a DAG, and of a run of it
  with_dag : (dag : List ℕ) (then : DagRow → Result Effect OpFault) → ((row : DagRow) → dag_or state dag ≡ Ok row → Leaves (then row)) → Leaves (dag_or state dag >>= then)
  with_dag dag then each = bound (dag_or state dag) then each

  with_run_of : (dag run : List ℕ) (then : DagRow → Run → Result Effect OpFault) → ((row : DagRow) (it : Run) → Leaves (then row it)) → Leaves (dag_or state dag >>= (λ row. run_or state dag run >>= then row))
  with_run_of dag run then each =
      with_dag dag (λ row. run_or state dag run >>= then row) (λ row found. bound (run_or state dag run) (then row) (λ it there. each row it))

  -- a run is triggered
  abbrev triggers : List ℕ → ℕ → Trigger → Result Effect OpFault
  triggers dag t asked =
      dag_or state dag >>= (λ row. free_id state dag (id_or asked.dag_run_id (unwrap_or asked.logical_date t)) (unwrap_or asked.logical_date t) >>= (λ run_id. Ok (added_run state (new_run row dag run_id (unwrap_or asked.logical_date t)))))

  trigger_leaves : (dag : List ℕ) (t : ℕ) (asked : Trigger) → Leaves (triggers dag t asked)
  trigger_leaves dag t asked =
      let date : ℕ = unwrap_or asked.logical_date t in
      with_dag dag (λ row. free_id state dag (id_or asked.dag_run_id date) date >>= (λ run_id. Ok (added_run state (new_run row dag run_id date))))
      (λ row found. bound (free_id state dag (id_or asked.dag_run_id date) date) (λ run_id. Ok (added_run state (new_run row dag run_id date)))
      (λ run_id free. let may = free_none (id_or asked.dag_run_id date) run_id date (add_fault state.runs state.next_run dag (id_or asked.dag_run_id date) date) free in
      ready_added state (new_run row dag run_id date)
      (ap (option_map (λ (it : DagRow). length it.dag.tasks)) (found_ok (dag_of state.dags dag) row found) ∙ ap Some (sym (length-map row.dag.tasks new_instance)))
      (ap (λ (id : List ℕ). add_fault state.runs state.next_run dag id date) (sym may.1) ∙ may.0) ready))

  -- instances of a DAG's runs are cleared
  abbrev clears : List ℕ → Clear → Result Effect OpFault
  clears dag asked =
      dag_or state dag
      >>= (λ row. known_run state dag asked.dag_run_id >>= (λ run. known_tasks row.dag.tasks asked.task_ids >>= (λ tasks. Ok (clearing state row.dag.tasks (filter_of dag asked) (selection_of row.dag.tasks asked) asked.dry_run))))

  clears_leave : (dag : List ℕ) (asked : Clear) → Leaves (clears dag asked)
  clears_leave dag asked =
      with_dag dag (λ row. known_run state dag asked.dag_run_id >>= (λ run. known_tasks row.dag.tasks asked.task_ids >>= (λ tasks. Ok (clearing state row.dag.tasks (filter_of dag asked) (selection_of row.dag.tasks asked) asked.dry_run))))
      (λ row found. bound (known_run state dag asked.dag_run_id) (λ run. known_tasks row.dag.tasks asked.task_ids >>= (λ tasks. Ok (clearing state row.dag.tasks (filter_of dag asked) (selection_of row.dag.tasks asked) asked.dry_run)))
      (λ run there. bound (known_tasks row.dag.tasks asked.task_ids) (λ tasks. Ok (clearing state row.dag.tasks (filter_of dag asked) (selection_of row.dag.tasks asked) asked.dry_run))
      (λ tasks named. clear_leaves row.dag.tasks (filter_of dag asked) (selection_of row.dag.tasks asked) asked.dry_run)))

  -- runs are made for a range of dates: each has an instance for each task of its DAG
  few_whole : (b : Bool) (runs news : List NewRun) → All (IsWholeFor state.dags) runs → cond b (Ok runs) (Err TooMany) ≡ Ok news → All (IsWholeFor state.dags) news
  few_whole true runs news whole is = (let same : runs ≡ news = cc in subst (All (IsWholeFor state.dags)) same whole)
  few_whole false runs news whole is = absurd (cc)

  range_whole : (dag : List ℕ) (asked : Backfill) (news : List NewRun) → range_or state dag asked ≡ Ok news → All (IsWholeFor state.dags) news
  range_whole dag asked news is = of_dag (dag_of state.dags dag) refl is
    where
      of_row : (row : DagRow) → dag_of state.dags row.dag.dag_id ≡ Some row → (schedule : Option Schedule)
          → (ok_or schedule NoSchedule >>= (λ it. unless_too_many state row.dag.dag_id (backfill_runs row.dag (is_scheduled it) asked.start_date asked.end_date))) ≡ Ok news
          → All (IsWholeFor state.dags) news
      of_row row found None is = absurd (cc)
      of_row row found (Some it) is =
          let runs : List NewRun = backfill_runs row.dag (is_scheduled it) asked.start_date asked.end_date in
          few_whole (may_make state row.dag.dag_id runs) runs news (whole_due state.dags run_type.Backfill row (is_scheduled it) (points_within (is_scheduled it) asked.start_date asked.end_date) found) is

      of_dag : (row : Option DagRow) → dag_of state.dags dag ≡ row
          → (ok_or row NoSuchDag >>= (λ row. ok_or row.dag.schedule NoSchedule >>= (λ it. unless_too_many state row.dag.dag_id (backfill_runs row.dag (is_scheduled it) asked.start_date asked.end_date)))) ≡ Ok news
          → All (IsWholeFor state.dags) news
      of_dag None found is = absurd (cc)
      of_dag (Some row) found is =
          of_row row (ap (dag_of state.dags) ((bytes_decides row.dag.dag_id dag).0 (find-passes (is_of_id dag) state.dags row found)) ∙ found) row.dag.schedule is

  backfill_leaves : (dag : List ℕ) (asked : Backfill) → Leaves (range_or state dag asked >>= (λ news. Ok (backfilling state (backfilled state news))))
  backfill_leaves dag asked =
      bound (range_or state dag asked) (λ news. Ok (backfilling state (backfilled state news)))
      (λ news is. one_of (nat_lt (length state.runs) (length (backfilled state news).runs)) (backfilled state news) (with_all state.dags news state (range_whole dag asked news is) (ready, refl)).0)

  op_leaves : (readable : Readable) (asked : Op) (t : ℕ) → Leaves (effect_of readable state asked t)
  op_leaves readable op.Version t = tt
  op_leaves readable (op.ListDags asked) t = bound (window_or asked) (λ window. Ok (kept (dags_data readable.dags window state.dags))) (λ window is. tt)
  op_leaves readable (op.GetDag dag) t = with_dag dag (λ row. Ok (kept (dag_data row))) (λ row is. tt)
  op_leaves readable (op.PauseDag dag input) t =
      bound (input_or input) (λ is_paused. dag_or state dag >>= (λ row. Ok (pausing state dag row is_paused)))
      (λ is_paused is. with_dag dag (λ row. Ok (pausing state dag row is_paused)) (λ row found. one_of (differs row is_paused) (record state { dags = with_paused state.dags dag is_paused }) (ready_paused dag is_paused)))
  op_leaves readable (op.ListTasks dag) t = with_dag dag (λ row. Ok (kept (tasks_data row.dag.tasks))) (λ row is. tt)
  op_leaves readable (op.ListRuns None asked) t =
      bound (window_or asked) (λ window. Ok (kept (runs_data window (read_rows (shows_runs readable) (λ (run : Run). run.dag_id) state.runs)))) (λ window is. tt)
  op_leaves readable (op.ListRuns (Some dag) asked) t =
      bound (window_or asked) (λ window. dag_or state dag >>= (λ row. Ok (kept (runs_data window (runs_of state.runs dag)))))
      (λ window is. with_dag dag (λ row. Ok (kept (runs_data window (runs_of state.runs dag)))) (λ row found. tt))
  op_leaves readable (op.TriggerRun dag input) t = bound (input_or input) (triggers dag t) (λ asked is. trigger_leaves dag t asked)
  op_leaves readable (op.GetRun dag run) t = with_run_of dag run (λ row it. Ok (kept (run_data it))) (λ row it. tt)
  op_leaves readable (op.MarkRun dag run input) t =
      bound (input_or input) (λ mark. dag_or state dag >>= (λ row. run_or state dag run >>= (λ it. Ok (marking state dag run it mark t))))
      (λ mark is. with_run_of dag run (λ row it. Ok (marking state dag run it mark t)) (λ row it. other_of (is_marked mark it) (with_marked_run state dag run mark t) (ready_marked dag run mark t)))
  op_leaves readable (op.DeleteRun dag run) t =
      with_run_of dag run (λ row it. Ok (deleting state dag run)) (λ row it. ready_fewer state (λ other. not (is_run dag run other)) ready)
  op_leaves readable (op.ClearRun dag run input) t =
      bound (input_or input) (λ dry_run. dag_or state dag >>= (λ row. run_or state dag run >>= (λ it. Ok (clearing state row.dag.tasks (one_run dag run) (all_tasks row.dag.tasks) dry_run))))
      (λ dry_run is. with_run_of dag run (λ row it. Ok (clearing state row.dag.tasks (one_run dag run) (all_tasks row.dag.tasks) dry_run)) (λ row it. clear_leaves row.dag.tasks (one_run dag run) (all_tasks row.dag.tasks) dry_run))
  op_leaves readable (op.ListInstances dag run asked) t =
      bound (window_or asked) (λ window. dag_or state dag >>= (λ row. run_or state dag run >>= (λ it. Ok (kept (instances_data window row.dag.tasks it)))))
      (λ window is. with_run_of dag run (λ row it. Ok (kept (instances_data window row.dag.tasks it))) (λ row it. tt))
  op_leaves readable (op.GetInstance dag run task) t =
      with_run_of dag run (λ row it. ok_or (instance_of row.dag.tasks it task) NoSuchTask >>= (λ told. Ok (kept (instance_data told))))
      (λ row it. bound (ok_or (instance_of row.dag.tasks it task) NoSuchTask) (λ told. Ok (kept (instance_data told))) (λ told at. tt))
  op_leaves readable (op.ClearInstances dag input) t = bound (input_or input) (clears dag) (λ asked is. clears_leave dag asked)
  op_leaves readable (op.BackfillDag dag input) t =
      bound (input_or input) (λ asked. range_or state dag asked >>= (λ news. Ok (backfilling state (backfilled state news)))) (λ asked is. backfill_leaves dag asked)
  op_leaves readable (op.Pool it) t = pool_leaves it
  op_leaves readable (op.Variable it) t = variable_leaves it

  -- what it comes to
  left_by : (effect : Result Effect OpFault) → Leaves effect → IsReady (unwrap_or (next_of effect) state)
  left_by (Err why) leaves = ready
  left_by (Ok effect) leaves = of effect.next leaves
    where
      of : (next : Option StateRows) → IfSome next IsReady → IsReady (unwrap_or next state)
      of None none = ready
      of (Some next) is = is

  pub after_ready : (asked : Op) (t : ℕ) → IsReady (after_op asked t state)
  after_ready asked t = left_by (effect_of nothing_readable state asked t) (op_leaves nothing_readable asked t)
