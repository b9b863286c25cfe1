-- What follows for every run of steps.
use Rattle.std.specs.Prelude.{◌≡◌, ℕ, ◌≤◌, ◌⊎◌, List, [], ◌∷◌, ◌++◌}
use mathlib.Core.List.{IsPrefix}
use Rattle.af_prefixes.specs.Beginnings.{Agree}
use Rattle.af_tally.specs.declared.view.View.{View}
use Rattle.af_tally.specs.Steps.{Standing, Kind, Does, Run, IsSeat, IsKept, add, load, split, join}

-- after any run of steps the word counts the list, the keeper has seen it whole, and what each other seat has seen begins it
abbrev pub EveryRunKeepsTheRule : Type 0 → Type 0
EveryRunKeepsTheRule E = (now : Standing E) → Run now → IsKept now

-- what a step of this kind adds to the list
abbrev pub added : {E : Type 0} → Kind E → List E
added (add seat entry) = entry ∷ []
added (load seat) = []
added (split seat) = []
added (join seat other) = []

-- only a record adds to the list, one entry, and no step lowers the word
abbrev pub NoStepFalls : Type 0 → Type 0
NoStepFalls E = (kind : Kind E) (was now : Standing E) → Does kind was now → (now.entries ≡ was.entries ++ added kind) × (was.word ≤ now.word)

-- two seats that have seen an entry of one number know one entry for it
abbrev pub SeatsAgree : Type 0 → Type 0
SeatsAgree E = (now : Standing E) (one other : ℕ) (v u : View E) → Run now → IsSeat now one v → IsSeat now other u → Agree v.seen u.seen

-- this seat's view may change: it takes the step, or a join takes it in
abbrev pub TakesPart : {E : Type 0} → Kind E → ℕ → Type 0
TakesPart (add seat entry) by = by ≡ seat
TakesPart (load seat) by = by ≡ seat
TakesPart (split seat) by = ⊥
TakesPart (join seat other) by = (by ≡ seat) ⊎ (by ≡ other)

-- a join that gives this seat up
abbrev pub GivesUp : {E : Type 0} → Kind E → ℕ → Type 0
GivesUp (add seat entry) by = ⊥
GivesUp (load seat) by = ⊥
GivesUp (split seat) by = ⊥
GivesUp (join seat other) by = by ≡ other

-- a seat that takes no part in a step keeps its view
abbrev pub OthersKeepTheirView : Type 0 → Type 0
OthersKeepTheirView E = (kind : Kind E) (was now : Standing E) (by : ℕ) (v : View E) → Does kind was now → ¬ TakesPart kind by → IsSeat was by v → IsSeat now by v

-- what a seat has seen it has still seen after a step, unless it was given up
abbrev pub NoSeatForgets : Type 0 → Type 0
NoSeatForgets E = (kind : Kind E) (was now : Standing E) (by : ℕ) (v w : View E) → Does kind was now → ¬ GivesUp kind by → IsSeat was by v → IsSeat now by w → IsPrefix v.seen w.seen
