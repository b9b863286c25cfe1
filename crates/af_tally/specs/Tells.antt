-- What a step tells the seat that takes it, which sees no standing as a whole.
use Rattle.std.specs.Prelude.{◌≡◌, ◌≤◌, ◌⊎◌, ℕ, List, true, length, ◌++◌}
use mathlib.Core.List.{IsPrefix}
use Rattle.atomic_table.specs.Table.{Step, Me}
use Rattle.af_tally.specs.declared.view.View.{View}
use Rattle.af_tally.specs.Steps.{compared, keeping}

module _ {E : Type 0} where
  -- the entries were added to all that was seen
  abbrev pub Adds : List E → Step ℕ → Me ℕ (View E) → ℕ → Me ℕ (View E) → Type 0
  Adds entries s v found w = (w.0 ≡ keeping (v.0.seen ++ entries)) × (w.1 ≡ v.1)

  -- what the seat was told of begins what it has seen, if the seat is the keeper's or has seen at least as many entries as it was told of
  abbrev pub Compares : Step ℕ → Me ℕ (View E) → ℕ → Me ℕ (View E) → Type 0
  Compares s v found w =
      (w.0 ≡ compared v.0) × ((v.0.keeps ≡ true) ⊎ (length v.0.told ≤ length v.0.seen) → IsPrefix v.0.told v.0.seen) × (w.1 ≡ v.1)
