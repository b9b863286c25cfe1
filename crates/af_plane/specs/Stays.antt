-- The calls of one session of a control, one after another, whatever other sessions, the scheduler and executors do between. No order of
-- theirs is needed to say what the session may count on (this product's own rule).
use Rattle.std.specs.Prelude.{◌≡◌, ◌+◌, ℕ, List, [], ◌∷◌, length}
use mathlib.Core.List.{IsPrefix}
use Rattle.af_ops.specs.declared.call.Call.{Call}
use Rattle.af_ops.specs.declared.call.Call.TheVariants as call
use Rattle.af_audit.specs.Ledgers.{Climb}
use Rattle.af_plane.specs.Administered.{HasAsked}
use Rattle.af_plane.specs.Events.{Exchange, named_in}
use Rattle.af_plane.specs.Names.{IsCall, Name}
use Rattle.af_plane.specs.Visits.{Visit}

-- a call of the session, on the plane or on the board, where its data live
abbrev pub CallsOn : Name → Visit → Exchange → Visit → Call → Type 0
CallsOn name was x now (call.State op) = IsCall name x.asked was x.served now
CallsOn name was x now (call.Entries window) = IsCall name x.asked was x.served now
CallsOn name was x now (call.Policy asked) = HasAsked name.site x.asked.token asked was x.served now

-- one call after another: each begins with what the one before it left the session
abbrev pub Calls : Name → Visit → List Exchange → Visit → Type 0
Calls name was [] now = now ≡ was
Calls name was (x ∷ xs) now = (mid : Visit) × (CallsOn name was x mid x.asked.call × Calls name mid xs now)

-- A session has gone on: it has still seen all versions and all entries that it had seen, and the versions that its answers name never fall,
-- and none is before the last that it had seen.
pub record HasGoneOn (was : Visit) (exchanges : List Exchange) (now : Visit) : Type 0 where
  pub versions : IsPrefix was.pass.places now.pass.places
  pub entries : IsPrefix was.entries.entries now.entries.entries
  pub names : (seen : ℕ) → length was.pass.places ≡ seen + 1 → Climb seen (named_in exchanges)
