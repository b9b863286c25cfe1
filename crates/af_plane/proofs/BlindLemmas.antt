-- Calls that read.
use Rattle.std.proofs.Common.{◌∙◌, sym, ap, ℕ, List}
use Rattle.std.specs.Prelude.{Option, Some, None, option_map}
use Rattle.af_blind.specs.Blindness.{status_and_body}
use Rattle.af_policy.specs.Rows.{PolicyRows}
use Rattle.af_ops.specs.declared.call.Call.{Call}
use Rattle.af_ops.specs.declared.call.Call.TheVariants as call
use Rattle.af_ops.specs.declared.served.Served.{Served}
use Rattle.af_ops.specs.declared.served.Served.TheVariants as served
use Rattle.af_audit.specs.Answered.{standing_of}
use Rattle.af_audit.specs.Ledgers.{LedgerRows}
use Rattle.af_plane.specs.Blind.{TellsWhatIsRead}
use Rattle.af_plane.specs.Planes.{Applies}
use Rattle.af_blind.proofs.VerdictLemmas.{blind}

pub tells_what_is_read : (policy : PolicyRows) (old new : LedgerRows) (token : Option (List ℕ)) (asked : Call) (t : ℕ) (gave : Option Served) → Applies policy old token asked t gave new → TellsWhatIsRead policy old token asked t gave
tells_what_is_read policy old new token (call.State asked) t (Some (served.Shown shown)) applies = λ is limit other alike.
    sym (blind old.audit.limit limit policy (standing_of old) other token asked t is alike)
    ∙ ap (option_map status_and_body) applies.0.0
tells_what_is_read policy old new token (call.State asked) t (Some served.NothingDone) applies = tt
tells_what_is_read policy old new token (call.State asked) t None applies = tt
tells_what_is_read policy old new token (call.Entries window) t gave applies = tt
tells_what_is_read policy old new token (call.Policy asked) t gave applies = tt
