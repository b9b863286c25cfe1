-- Entries and changes at which the definitions of lines are read.
use Rattle.std.specs.Prelude.{ℕ, List, [], ◌∷◌, codes, true, Ok, None, Some}
use Rattle.af_ops.specs.declared.op.Op.TheVariants as op
use Rattle.af_ops.specs.declared.variable_op.VariableOp.TheVariants as variable
use Rattle.af_sched.specs.declared.outcome.Outcome.TheVariants as outcome
use Rattle.af_audit.specs.declared.act.Act.{Act}
use Rattle.af_audit.specs.declared.act.Act.TheVariants as act
use Rattle.af_audit.specs.declared.actor.Actor.{Actor}
use Rattle.af_audit.specs.declared.actor.Actor.TheVariants as actor
use Rattle.af_audit.specs.declared.entry.Entry.{Entry}
use Rattle.af_policy.specs.declared.change.Change.TheVariants.{AddUser, SetUser, SyncDag}
use Rattle.af_store.specs.declared.change_line.ChangeLine.{ChangeLine}

-- the first entry, made at the beginning of 1970 under the opening policy
abbrev pub first : Actor → Act → Entry
first who it = record { seq = 1; moment = 0; actor = who; version = 0; act = it }

abbrev pub tick : Entry
tick = first actor.Scheduler act.Tick

abbrev pub uma : Actor
uma = actor.User (codes "uma")

abbrev pub pause : Entry
pause = record { seq = 7; moment = 1_704_067_200_000_001; actor = uma; version = 2; act = act.Did (op.PauseDag (codes "etl") (Ok true)) }

abbrev pub trigger : Entry
trigger = first uma (act.Did (op.TriggerRun (codes "etl") (Ok (record { dag_run_id = None; logical_date = Some 5 }))))

-- a text with a quotation mark, a backslash and an end of line
abbrev pub odd_text : List ℕ
odd_text = 34 ∷ 92 ∷ 10 ∷ []

abbrev pub put_odd : Entry
put_odd = first uma (act.Did (op.Variable (variable.Add (Ok (record { key = codes "k"; value = odd_text })))))

abbrev pub report : Entry
report =
    first actor.Executor (act.Report (record { run_number = 3; dag_id = codes "etl"; run_id = codes "r"; task_id = codes "t"; try_number = 2 }) outcome.Failed)

-- what only reads has no line
abbrev pub reading : Entry
reading = first uma (act.Did (op.GetDag (codes "etl")))

abbrev pub tick_of_user : Entry
tick_of_user = first uma act.Tick

abbrev pub zeros : List ℕ
zeros =
    0 ∷ 0 ∷ 0 ∷ 0 ∷ 0 ∷ 0 ∷ 0 ∷ 0 ∷ 0 ∷ 0 ∷ 0 ∷ 0 ∷ 0 ∷ 0 ∷ 0 ∷ 0 ∷ 0 ∷ 0 ∷ 0 ∷ 0 ∷ 0 ∷ 0 ∷ 0 ∷ 0 ∷ 0 ∷ 0 ∷ 0 ∷ 0 ∷ 0 ∷ 0 ∷ 0 ∷ 171 ∷ []

abbrev pub user_added : ChangeLine
user_added = record { by = codes "audrey"; change = AddUser (record { name = codes "zed"; digest = zeros; roles = codes "Viewer" ∷ codes "Viewer" ∷ [] }) }

abbrev pub nothing_set : ChangeLine
nothing_set = record { by = codes "audrey"; change = SetUser (record { name = codes "zed"; digest = None; roles = None }) }

abbrev pub access_synced : ChangeLine
access_synced = record {
  by = codes "audrey";
  change = SyncDag (record { dag = codes "etl"; access = Some (record { role = codes "R"; actions = codes "can_read" ∷ []; runs = [] } ∷ []) });
}
