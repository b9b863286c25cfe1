-- What a session of a control has done there once more, and nothing else beside it (this product's own rule).
use Rattle.std.specs.Prelude.{◌≡◌, ℕ, [], ◌∷◌, ◌++◌, Bool, Option, Result}
use Rattle.af_sched.specs.declared.claim.Claim.{Claim}
use Rattle.af_sched.specs.declared.outcome.Outcome.{Outcome}
use Rattle.af_ops.specs.declared.call.Call.{Call}
use Rattle.af_ops.specs.declared.policy_op.PolicyOp.{PolicyOp}
use Rattle.af_ops.specs.declared.policy_op.PolicyOp.TheVariants as asks
use Rattle.af_ops.specs.declared.served.Served.{Served}
use Rattle.af_audit.specs.declared.audit_fault.AuditFault.{AuditFault}
use Rattle.af_audit.specs.declared.report_refusal.ReportRefusal.{ReportRefusal}
use Rattle.af_plane.specs.declared.session_log.SessionLog.{SessionLog}
use Rattle.af_plane.specs.Visits.{Visit, SessionRows}

-- a session that holds this, and has done what its log says
abbrev pub rows_of : Visit → SessionLog → SessionRows
rows_of visit log = record { visit = visit; calls = log.calls.items; times = log.times.items; ticks = log.ticks.items; claims = log.claims.items; reports = log.reports.items; outcomes = log.outcomes.items; mes = log.mes.items; reads = log.reads.items; changes = log.changes.items; unreads = log.unreads.items }

-- a session that holds this and has done nothing yet
abbrev pub new_session : Visit → SessionRows
new_session visit = record { visit = visit; calls = []; times = []; ticks = []; claims = []; reports = []; outcomes = []; mes = []; reads = []; changes = []; unreads = [] }

-- its log is as before: no call, tick, claim, report or operation on the policy was added; it may have looked
abbrev pub HasDoneNothing : SessionRows → SessionRows → Type 0
HasDoneNothing was now = now ≡ record was { visit = now.visit }

-- it has called at a time, and was served this
abbrev pub HasCalled : SessionRows → Call → ℕ → Served → SessionRows → Type 0
HasCalled was asked at gave now =
    now ≡ record was { visit = now.visit; calls = was.calls ++ (asked, gave) ∷ []; times = was.times ++ (at, gave) ∷ [] }

-- it has ticked at a moment, and this came of it
abbrev pub HasTicked : SessionRows → ℕ → Result Bool AuditFault → SessionRows → Type 0
HasTicked was at told now = now ≡ record was { visit = now.visit; ticks = was.ticks ++ (at, told) ∷ [] }

-- it has claimed at a moment
abbrev pub HasClaimed : SessionRows → ℕ → Result (Option Claim) AuditFault → SessionRows → Type 0
HasClaimed was at told now = now ≡ record was { visit = now.visit; claims = was.claims ++ (at, told) ∷ [] }

-- it has reported this outcome of a claimed try at a time
abbrev pub HasReported : SessionRows → Claim → Outcome → ℕ → Result (Unit {0}) ReportRefusal → SessionRows → Type 0
HasReported was claim outcome at told now =
    now ≡ record was { visit = now.visit; reports = was.reports ++ (claim, told) ∷ []; outcomes = was.outcomes ++ (outcome, at) ∷ [] }

-- it has asked this of the policy, and was served this
abbrev pub HasAskedOnce : SessionRows → PolicyOp → Served → SessionRows → Type 0
HasAskedOnce was asks.Me gave now = now ≡ record was { visit = now.visit; mes = was.mes ++ (tt, gave) ∷ [] }
HasAskedOnce was (asks.Read asked) gave now = now ≡ record was { visit = now.visit; reads = was.reads ++ (asked, gave) ∷ [] }
HasAskedOnce was (asks.Change asked) gave now = now ≡ record was { visit = now.visit; changes = was.changes ++ (asked, gave) ∷ [] }
HasAskedOnce was (asks.Unread kind) gave now = now ≡ record was { visit = now.visit; unreads = was.unreads ++ (kind, gave) ∷ [] }
