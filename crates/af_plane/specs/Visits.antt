-- What contracts see of a session, of the plane, and of a server for one thread (this product's own rule).
use Rattle.std.specs.Prelude.{ℕ, List, Bool, Option, Result}
use Rattle.af_word.specs.Places.{Sight}
use Rattle.af_tally.specs.Known.{Known}
use Rattle.af_policy.specs.declared.ask.Ask.{Ask}
use Rattle.af_policy.specs.declared.change_kind.ChangeKind.{ChangeKind}
use Rattle.af_policy.specs.declared.policy_read.PolicyRead.{PolicyRead}
use Rattle.af_sched.specs.declared.claim.Claim.{Claim}
use Rattle.af_sched.specs.declared.outcome.Outcome.{Outcome}
use Rattle.af_ops.specs.declared.call.Call.{Call}
use Rattle.af_ops.specs.declared.served.Served.{Served}
use Rattle.af_audit.specs.declared.audit_fault.AuditFault.{AuditFault}
use Rattle.af_audit.specs.declared.entry.Entry.{Entry}
use Rattle.af_audit.specs.declared.report_refusal.ReportRefusal.{ReportRefusal}
use Rattle.af_audit.specs.Ledgers.{LedgerRows}
use Rattle.af_board.specs.Marks.{Site}
use Rattle.af_plane.specs.declared.grounds.Grounds.{Grounds}

-- what one user of the plane has seen of the board and of the entries, and what its last answer rests on
pub record Visit : Type 0 where
  pub pass : Sight
  pub entries : Known Entry
  pub grounds : Grounds

-- What a session of a control holds, and all that it has done there. Of each kind it is in the order in which it was done: calls, and their
-- times, with their answers; ticks, claims and reports with what came of them; the outcomes and times of reports; and what it asked of the
-- policy, with the answers.
pub record SessionRows : Type 0 where
  pub visit : Visit
  pub calls : List (Call × Served)
  pub times : List (ℕ × Served)
  pub ticks : List (ℕ × Result Bool AuditFault)
  pub claims : List (ℕ × Result (Option Claim) AuditFault)
  pub reports : List (Claim × Result (Unit {0}) ReportRefusal)
  pub outcomes : List (Outcome × ℕ)
  pub mes : List (Unit {0} × Served)
  pub reads : List (PolicyRead × Served)
  pub changes : List (Ask × Served)
  pub unreads : List (ChangeKind × Served)

-- what the plane has seen of the board, which keeper its entries are of, and the state with the entries that made it
pub record PlaneRows : Type 0 where
  pub pass : Sight
  pub keeper : Known Entry
  pub ledger : LedgerRows

-- a board, and a plane over it
pub record PartsRows : Type 0 where
  pub board : Site
  pub plane : PlaneRows

-- a board, the plane, and a session over it
pub record SoloRows : Type 0 where
  pub site : Site
  pub plane : PlaneRows
  pub session : Visit
