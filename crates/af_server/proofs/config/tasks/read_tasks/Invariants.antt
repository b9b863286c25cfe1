use Rattle.std.proofs.Common.{◌≡◌, drop, map}
use Rattle.af_base.specs.JsonValue.{view}
use Rattle.af_base.specs.Readings.{taking}
use Rattle.af_server.specs.Tasks.{no_tasks, task_taken}
use Rattle.af_server.proofs.config.tasks.read_tasks.Given as goal

-- the rows that are left decide the whole
abbrev pub invariant-loop-row : goal.invariant-loop-row
invariant-loop-row l =
    taking (task_taken l.pools l.dag_id) l.read (map view (drop l.row-index l.rows)) ≡ taking (task_taken l.pools l.dag_id) no_tasks (map view l.rows)
