-- What each step answers, if anything, and the world that it leaves (this product's own rule). A tick and a claim are relations, so
-- a step is one; all else is computed.
use Rattle.std.specs.Prelude.{◌≡◌, ℕ, Bool, Option, Some, None, ok_or}
use Rattle.af_sched.specs.declared.claim.Claim.{Claim}
use Rattle.af_audit.specs.declared.audit_fault.AuditFault.TheVariants.{HistoryFull}
use Rattle.af_audit.specs.Claimed.{IsClaimed}
use Rattle.af_audit.specs.Ticked.{IsTicked}
use Rattle.af_world.specs.declared.reporting.Reporting.{Reporting}
use Rattle.af_world.specs.declared.step.Step.{Step}
use Rattle.af_world.specs.declared.step.Step.TheVariants as step
use Rattle.af_world.specs.declared.try_report.TryReport.{TryReport}
use Rattle.af_world.specs.Acting.{acting}
use Rattle.af_world.specs.Moving.{Move, looking, move_of}
use Rattle.af_world.specs.Plane.{claim_told, left_by_report, report_told, reporting, tick_told}
use Rattle.af_world.specs.Publishing.{meeting, publishing}
use Rattle.af_world.specs.Worlds.{World}

-- ---- ticks, claims and reports: each ends every hold

-- a tick at a moment, that told whether it changed the state, or that there is no room for its entry
pub record Ticks (w : World) (t : ℕ) (move : Move) : Type 0 where
  pub told : Option Bool
  pub ticked : IsTicked t w.ledger move.next.ledger (ok_or told HistoryFull)
  pub answered : move.answer ≡ Some (tick_told move.next.ledger told)
  pub rest : move.next ≡ record w { ledger = move.next.ledger; holder = None }

-- a claim at a moment, that told what was claimed, if anything, or that there is no room for its entry
pub record ClaimsIn (w : World) (t : ℕ) (move : Move) : Type 0 where
  pub told : Option (Option Claim)
  pub claimed : IsClaimed t w.ledger move.next.ledger (ok_or told HistoryFull)
  pub answered : move.answer ≡ Some (claim_told move.next.ledger told)
  pub rest : move.next ≡ record w { ledger = move.next.ledger; holder = None }

-- a report at a moment
abbrev pub reports : World → TryReport → ℕ → Reporting → Move
reports w it t comes =
    move_of (Some (report_told (left_by_report w.ledger it.outcome t comes) comes))
    (record w { ledger = left_by_report w.ledger it.outcome t comes; holder = None })

-- ---- every step

abbrev pub Moves : World → Step → Move → Type 0
Moves w (step.Look session) move = move ≡ looking w session
Moves w (step.Act session token asked t) move = move ≡ acting w session token asked t
Moves w (step.Me session token asked) move = move ≡ meeting w session token asked
Moves w (step.Publish session at token asked) move = move ≡ publishing w session at token asked
Moves w (step.Tick t) move = Ticks w t move
Moves w (step.Claim t) move = ClaimsIn w t move
Moves w (step.Report it t) move = move ≡ reports w it t (reporting w.ledger it)
