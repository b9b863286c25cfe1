-- Entries that are handed to what takes them (this product's own rule).
use Rattle.std.specs.Prelude.{◌≡◌, List, [], ◌∷◌}
use mathlib.Core.List.{IsPrefix}
use Rattle.af_audit.specs.declared.entry.Entry.{Entry}
use Rattle.af_plane.specs.Logs.{HasDoneNothing}
use Rattle.af_plane.specs.Visits.{SessionRows}

-- a taker has taken these entries, one after another
abbrev pub TakesEach : {T : Type 0} → (T → Entry → T → Type 0) → List Entry → T → T → Type 0
TakesEach takes [] was now = now ≡ was
TakesEach {T} takes (entry ∷ entries) was now = (mid : T) × (takes was entry mid × TakesEach takes entries mid now)

-- A session was shown entries. They begin with those that it had seen, and it has done nothing.
pub record WasShown (was now : SessionRows) : Type 0 where
  pub nothing : HasDoneNothing was now
  pub alone : now.visit ≡ record was.visit { entries = now.visit.entries }
  pub longer : IsPrefix was.visit.entries.entries now.visit.entries.entries
