-- What follows for every run of steps.
use Rattle.std.specs.Prelude.{◌≡◌, ℕ, ◌≤◌, ◌⊎◌}
use mathlib.Core.List.{IsPrefix}
use Rattle.af_prefixes.specs.Beginnings.{Agree}
use Rattle.af_word.specs.declared.view.View.{View}
use Rattle.af_word.specs.Steps.{Standing, Kind, Does, Run, IsSeat, IsKept, look, win, lose, split, join}

-- after any run of steps the word names the end of the list, and what each seat has seen begins it
abbrev pub EveryRunKeepsTheRule : Type 0
EveryRunKeepsTheRule = (first last : ℕ) (now : Standing) → Run first last now → IsKept first last now

-- after a step the list begins with what it was, and the word is no lower
abbrev pub NoStepFalls : Type 0
NoStepFalls = (first last : ℕ) (kind : Kind) (was now : Standing) → Run first last was → Does last kind was now → IsPrefix was.places now.places × (was.word ≤ now.word)

-- two seats that have seen one version know one place for it
abbrev pub SeatsKnowOnePlace : Type 0
SeatsKnowOnePlace = (first last : ℕ) (now : Standing) (one other : ℕ) (v u : View) → Run first last now → IsSeat now one v → IsSeat now other u → Agree v.seen u.seen

-- this seat's view may change: it takes the step, or a join takes it in
abbrev pub TakesPart : Kind → ℕ → Type 0
TakesPart (look seat) by = by ≡ seat
TakesPart (win seat place) by = by ≡ seat
TakesPart (lose seat) by = by ≡ seat
TakesPart (split seat) by = by ≡ seat
TakesPart (join seat other) by = (by ≡ seat) ⊎ (by ≡ other)

-- a join that gives this seat up
abbrev pub GivesUp : Kind → ℕ → Type 0
GivesUp (look seat) by = ⊥
GivesUp (win seat place) by = ⊥
GivesUp (lose seat) by = ⊥
GivesUp (split seat) by = ⊥
GivesUp (join seat other) by = by ≡ other

-- a seat that takes no part in a step keeps its view
abbrev pub OthersKeepTheirView : Type 0
OthersKeepTheirView = (last : ℕ) (kind : Kind) (was now : Standing) (by : ℕ) (v : View) → Does last kind was now → ¬ TakesPart kind by → IsSeat was by v → IsSeat now by v

-- what a seat has seen it has still seen after a step, unless it was given up
abbrev pub NoSeatForgets : Type 0
NoSeatForgets = (first last : ℕ) (kind : Kind) (was now : Standing) (by : ℕ) (v w : View) → Run first last was → Does last kind was now → ¬ GivesUp kind by → IsSeat was by v → IsSeat now by w → IsPrefix v.seen w.seen
