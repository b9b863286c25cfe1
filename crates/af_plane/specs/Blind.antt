-- What the plane answers about DAGs, tasks, runs and instances shows nothing of a DAG, or of runs, that the user may not read.
use Rattle.std.specs.Prelude.{◌≡◌, ℕ, List, true, Option, Some, None, option_map, ⊤}
use Rattle.af_policy.specs.Identity.{bearer_of}
use Rattle.af_policy.specs.Rows.{PolicyRows}
use Rattle.af_ops.specs.declared.call.Call.{Call}
use Rattle.af_ops.specs.declared.call.Call.TheVariants as call
use Rattle.af_ops.specs.declared.served.Served.{Served}
use Rattle.af_ops.specs.declared.served.Served.TheVariants as served
use Rattle.af_ops.specs.Served.{answer_of}
use Rattle.af_ops.specs.Standings.{StandingRows}
use Rattle.af_ops.specs.Verdicts.{verdict}
use Rattle.af_audit.specs.Ledgers.{LedgerRows}
use Rattle.af_blind.specs.Blindness.{AlikeFor, reads_dags, status_and_body}

-- If one of the seven operations that read DAGs, tasks, runs or instances is answered, then status and body of the answer are those of the
-- verdict on every state that the token's user can't tell from the ledger's. Of other operations, and without an answer, it says nothing.
abbrev pub TellsWhatIsRead : PolicyRows → LedgerRows → Option (List ℕ) → Call → ℕ → Option Served → Type 0
TellsWhatIsRead policy old token (call.State asked) t (Some (served.Shown shown)) =
    reads_dags asked ≡ true → (limit : ℕ) (other : StandingRows) → ((user : List ℕ) → bearer_of policy token ≡ Some user → AlikeFor policy user old.state other.state)
    → option_map status_and_body (answer_of asked other.under (verdict limit policy other token asked t)) ≡ Some (status_and_body shown)
TellsWhatIsRead policy old token (call.State asked) t (Some served.NothingDone) = ⊤
TellsWhatIsRead policy old token (call.State asked) t None = ⊤
TellsWhatIsRead policy old token (call.Entries window) t gave = ⊤
TellsWhatIsRead policy old token (call.Policy asked) t gave = ⊤
