-- The kinds of change that operations make to a state.
use Rattle.std.specs.Prelude.{ℕ, ◌+◌, [], ◌∷◌, ◌++◌, Bool, true, false, unwrap_or, Option, Some, None}
use Rattle.af_runs.specs.Clears.{with_cleared}
use Rattle.af_runs.specs.Marks.{with_marked}
use Rattle.af_runs.specs.Runs.{queued_run, without_run}
use Rattle.af_runs.specs.declared.mark.Mark.{Mark}
use Rattle.af_runs.specs.declared.new_run.NewRun.{NewRun}
use Rattle.af_runs.specs.declared.run_filter.RunFilter.{RunFilter}
use Rattle.af_runs.specs.declared.selection.Selection.{Selection}
use Rattle.af_pool.specs.Pools.{with_pool, with_slots, without_pool}
use Rattle.af_sched.specs.Plan.{applied}
use Rattle.af_sched.specs.State.{StateRows, with_paused}
use Rattle.af_vars.specs.Variables.{with_value, with_variable, without_variable}
use Rattle.af_ops.specs.declared.edit.Edit.{Edit}
use Rattle.af_ops.specs.declared.edit.Edit.TheVariants as edit

-- the state with a new run, queued, as the last one, under the next number, which no other run gets
abbrev pub with_run : StateRows → NewRun → StateRows
with_run state new = record state { runs = state.runs ++ queued_run state.next_run new ∷ []; next_run = state.next_run + 1 }

-- the state, the run of this number marked so at a moment
abbrev pub with_mark : StateRows → ℕ → Mark → ℕ → StateRows
with_mark state number mark at = record state { runs = with_marked state.runs number mark at }

-- the state, the chosen instances of the runs that a filter admits cleared
abbrev pub with_clear : StateRows → RunFilter → Selection → StateRows
with_clear state filter selection = record state { runs = with_cleared state.runs filter selection }

-- the state without the run of this number
abbrev pub without : StateRows → ℕ → StateRows
without state number = record state { runs = without_run state.runs number }

-- the state that an edit makes, or none where it is no change; a plan makes what it says of the state that it was made for
abbrev pub next_by : Edit → StateRows → Option StateRows
next_by edit.Nothing state = None
next_by (edit.DagPaused dag_id is_paused) state = Some (record state { dags = with_paused state.dags dag_id is_paused })
next_by (edit.RunAdded new) state = Some (with_run state new)
next_by (edit.RunMarked number mark at) state = Some (with_mark state number mark at)
next_by (edit.InstancesCleared filter selection) state = Some (with_clear state filter selection)
next_by (edit.RunRemoved number) state = Some (without state number)
next_by (edit.RunsPlanned plan) state = Some (applied plan state)
next_by (edit.PoolAdded name slots) state = Some (record state { pools = with_pool state.pools record { name = name; slots = slots } })
next_by (edit.PoolSet name slots) state = Some (record state { pools = with_slots state.pools name slots })
next_by (edit.PoolRemoved name) state = Some (record state { pools = without_pool state.pools name })
next_by (edit.VariableAdded variable) state = Some (record state { variables = with_variable state.variables variable })
next_by (edit.VariableSet key value) state = Some (record state { variables = with_value state.variables key value })
next_by (edit.VariableRemoved key) state = Some (record state { variables = without_variable state.variables key })

-- a state after an edit
abbrev pub edited : Edit → StateRows → StateRows
edited it state = unwrap_or (next_by it state) state

-- whether it is a change
abbrev pub is_edit : Edit → Bool
is_edit edit.Nothing = false
is_edit (edit.DagPaused dag_id is_paused) = true
is_edit (edit.RunAdded new) = true
is_edit (edit.RunMarked number mark at) = true
is_edit (edit.InstancesCleared filter selection) = true
is_edit (edit.RunRemoved number) = true
is_edit (edit.RunsPlanned plan) = true
is_edit (edit.PoolAdded name slots) = true
is_edit (edit.PoolSet name slots) = true
is_edit (edit.PoolRemoved name) = true
is_edit (edit.VariableAdded variable) = true
is_edit (edit.VariableSet key value) = true
is_edit (edit.VariableRemoved key) = true
