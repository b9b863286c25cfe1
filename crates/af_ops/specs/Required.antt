-- What an operation requires of its user (Airflow 2, "Access Control": the permissions of each endpoint).
use Rattle.std.specs.Prelude.{ℕ, List, Option, Some, None, false, map}
use Rattle.af_role.specs.declared.need.Need.{Need}
use Rattle.af_ops.specs.declared.op.Op.{Op}
use Rattle.af_ops.specs.Endpoints.{dag_of, endpoint_of}
use Rattle.af_ops.specs.Table.{needs_of}

-- what the table requires at a DAG, or at its runs, is required for all DAGs where the operation names none
abbrev pub at_named : Option (List ℕ) → Need → Need
at_named None need = record need { at_dag = false }
at_named (Some dag_id) need = need

-- in the order in which it is tested
abbrev pub needs_for : Op → List Need
needs_for asked = map (at_named (dag_of asked)) (needs_of (endpoint_of asked))
