-- What a request for event logs comes to on a ledger: who asks is the user of the token, who needs the permission to read audit
-- logs (Airflow 2, "Access Control"); what is told is a page of the entries. It changes nothing.
use Rattle.std.specs.Prelude.{ℕ, List, Bool, Option, Some, None, Result, Ok, Err}
use Rattle.serde_json.specs.Written.{compact_text}
use Rattle.af_listing.specs.Windows.{Cut}
use Rattle.af_role.specs.Pairs.{PairRow}
use Rattle.af_role.specs.declared.need.Need.{Need}
use Rattle.af_policy.specs.declared.bad_input.Parameter.{Parameter}
use Rattle.af_policy.specs.Rows.{PolicyRows}
use Rattle.af_policy.specs.Identity.{bearer_of}
use Rattle.af_policy.specs.Grants.{first_unmet, grants, reads_dag}
use Rattle.af_ops.specs.declared.answer.OpFault.TheVariants.{BadParameter}
use Rattle.af_ops.specs.declared.endpoint.Endpoint.TheVariants.{ListEntries}
use Rattle.af_ops.specs.declared.op.Op.{Op}
use Rattle.af_ops.specs.declared.op.Op.TheVariants as op
use Rattle.af_ops.specs.Table.{needs_of}
use Rattle.af_ops.specs.Verdicts.{Verdict, Stranger, Lacks, Refuses, Tells, dag_ids}
use Rattle.af_audit.specs.declared.entry.Entry.{Entry}
use Rattle.af_audit.specs.Ledgers.{LedgerRows}
use Rattle.af_audit.specs.Logs.{entries_data}

-- an operation that names nothing: a fault of a request for event logs is told as one of it
abbrev pub nameless : Op
nameless = op.Version

-- what the table of operations requires of who asks
abbrev pub log_needs : List Need
log_needs = needs_of ListEntries

-- the verdict by what is asked, for a reader of these DAGs: a page, or the first faulty parameter
abbrev pub entries_told : (List ℕ → Bool) → List Entry → Result Cut Parameter → Verdict
entries_told reads entries (Ok window) = Tells (Some (compact_text (entries_data reads window entries)))
entries_told reads entries (Err parameter) = Refuses (BadParameter parameter)

-- where a requirement is lacked, or none
abbrev pub entries_permitted : (PairRow → Bool) → LedgerRows → Result Cut Parameter → Option Need → Verdict
entries_permitted granted ledger asked (Some need) = Lacks need
entries_permitted granted ledger asked None = entries_told (reads_dag granted) ledger.audit.entries asked

-- for a user who is granted this
abbrev pub entries_granted : (PairRow → Bool) → LedgerRows → Result Cut Parameter → Verdict
entries_granted granted ledger asked =
    entries_permitted granted ledger asked (first_unmet granted None (dag_ids ledger.state) log_needs)

-- for the user behind a token, if there is one
abbrev pub entries_judged : PolicyRows → LedgerRows → Result Cut Parameter → Option (List ℕ) → Verdict
entries_judged policy ledger asked None = Stranger
entries_judged policy ledger asked (Some user) = entries_granted (grants policy user) ledger asked

abbrev pub entries_verdict : PolicyRows → LedgerRows → Option (List ℕ) → Result Cut Parameter → Verdict
entries_verdict policy ledger token asked = entries_judged policy ledger asked (bearer_of policy token)
