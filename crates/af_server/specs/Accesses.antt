-- The access control of the DAGs of a configuration, which is read after all DAGs, and what it makes of the policy: what a sync
-- of each DAG makes of it, in their order (Airflow 2, "Access Control", DAG-level permissions; the order of the faults is this
-- product's own rule).
use Rattle.std.specs.Prelude.{List, codes, Option, Some, None, Result, Ok, Err}
use Rattle.serde_json.specs.Data.{Data}
use Rattle.af_names.specs.Names.{id_grammar}
use Rattle.af_role.specs.declared.access.AccessRow.{AccessRow}
use Rattle.af_policy.specs.Rows.{PolicyRows}
use Rattle.af_policy.specs.Changes.{changed}
use Rattle.af_policy.specs.declared.change.Change.TheVariants.{SyncDag}
use Rattle.af_policy.specs.declared.change.DagAccess.{DagAccess}
use Rattle.af_policy.specs.declared.change_fault.ChangeFault.{ChangeFault}
use Rattle.af_ops.specs.AccessTexts.{access_in}
use Rattle.af_base.specs.Readings.{◌>>=◌, member_of}
use Rattle.af_server.specs.declared.reason.Reason.{Reason}
use Rattle.af_server.specs.declared.reason.Reason.TheVariants.{Name, Shape}
use Rattle.af_server.specs.Members.{name_in}
use Rattle.af_server.specs.Reasons.{change_reason}

-- none where it is absent: then all permissions stay
abbrev pub access_or : Option Data → Result (Option (List AccessRow)) Reason
access_or None = Ok None
access_or (Some value) = access_in Shape Name value >>= (λ rows. Ok (Some rows))

abbrev pub dag_access_in : Data → Result (Option (List AccessRow)) Reason
dag_access_in row = access_or (member_of (codes "access_control") row)

-- the policy after a change, or the reason why there is none
abbrev pub changed_or : Result PolicyRows ChangeFault → Result PolicyRows Reason
changed_or (Ok policy) = Ok policy
changed_or (Err fault) = Err (change_reason fault)

-- what roles may do on the DAG of a row
abbrev pub sync_in : Data → Result DagAccess Reason
sync_in row = do
  dag ← name_in id_grammar (codes "dag_id") row
  access ← dag_access_in row
  Ok (record { dag = dag; access = access })

-- the policy after a sync of the DAG of a row
abbrev pub access_taken : PolicyRows → Data → Result PolicyRows Reason
access_taken policy row = sync_in row >>= (λ sync. changed_or (changed policy (SyncDag sync)))
