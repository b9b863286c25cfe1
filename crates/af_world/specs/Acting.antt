-- What is asked of the plane: operations on the state, and event logs, decided under the policy of the plane's version (this
-- product's own rule).
use Rattle.std.specs.Prelude.{ℕ, List, Bool, not, ◌&&◌, Option, Some, None, Result, if◌then◌else◌}
use Rattle.af_listing.specs.Windows.{Cut}
use Rattle.af_policy.specs.declared.bad_input.Parameter.{Parameter}
use Rattle.af_policy.specs.Identity.{bearer_of}
use Rattle.af_policy.specs.Rows.{PolicyRows}
use Rattle.af_ops.specs.declared.call.Call.{Call}
use Rattle.af_ops.specs.declared.call.Call.TheVariants as call
use Rattle.af_ops.specs.declared.op.Op.{Op}
use Rattle.af_ops.specs.Endpoints.{endpoint_of}
use Rattle.af_ops.specs.Served.{answer_of}
use Rattle.af_ops.specs.Table.{is_open}
use Rattle.af_ops.specs.Verdicts.{Verdict}
use Rattle.af_audit.specs.Answered.{ledger_left, standing_of, verdict_on}
use Rattle.af_audit.specs.EventLogs.{entries_verdict, nameless}
use Rattle.af_audit.specs.Ledgers.{LedgerRows}
use Rattle.af_world.specs.Moving.{Move, move_of, stays}
use Rattle.af_world.specs.Worlds.{World, has_session, is_held, policy_at, sees_entries}

-- a verdict is told, as on this operation, and leaves this ledger; the session has then seen all entries, and nobody holds the plane
abbrev pub answers : World → ℕ → Op → LedgerRows → Verdict → Move
answers w session asked ledger it =
    move_of (answer_of asked (standing_of w.ledger).under it) (sees_entries (record w { ledger = ledger; holder = None }) session)

-- an operation
abbrev pub acted : World → ℕ → Option (List ℕ) → Op → ℕ → Option PolicyRows → Move
acted w session token asked t None = stays w
acted w session token asked t (Some policy) =
    answers w session asked (ledger_left (bearer_of policy token) asked t w.ledger (verdict_on policy w.ledger token asked t))
    (verdict_on policy w.ledger token asked t)

-- a page of the event logs
abbrev pub listed : World → ℕ → Option (List ℕ) → Result Cut Parameter → Option PolicyRows → Move
listed w session token window None = stays w
listed w session token window (Some policy) = answers w session nameless w.ledger (entries_verdict policy w.ledger token window)

-- the session is there and holds the plane
abbrev pub holds : World → ℕ → Bool
holds w session = has_session w session && is_held w.holder session

-- an open operation, which is decided under no policy, does not fit; nor does one on the policy
abbrev pub acting : World → ℕ → Option (List ℕ) → Call → ℕ → Move
acting w session token (call.State asked) t =
    if holds w session && not (is_open (endpoint_of asked)) then acted w session token asked t (policy_at w w.ledger.version) else stays w
acting w session token (call.Entries window) t =
    if holds w session then listed w session token window (policy_at w w.ledger.version) else stays w
acting w session token (call.Policy asked) t = stays w
