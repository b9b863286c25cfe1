-- What a call on a word does to the pass that makes it.
use Rattle.std.specs.Prelude.{◌≡◌, ℕ, ◌+◌, [], ◌∷◌, ◌++◌}
use mathlib.Core.List.{IsPrefix}
use Rattle.af_word.specs.Places.{Sight, Within}

-- it has gone on by so many steps and deeds, and is of the word that it was of: it has seen all that it had, and what may stand behind
pub record Advanced (steps deeds : ℕ) (old new : Sight) : Type 0 where
  pub word : new.word ≡ old.word
  pub longer : IsPrefix old.places new.places
  pub within : Within new.word.first new.word.last new.places
  pub stepped : new.steps ≡ old.steps + steps
  pub done : new.deeds ≡ old.deeds + deeds

-- it has looked: one step, and no deed
abbrev pub Looked : Sight → Sight → Type 0
Looked old new = Advanced 1 0 old new

-- it has published this place, by one step, which is a deed: the place stands behind all that it had seen, and it has seen no other since
abbrev pub Added : ℕ → Sight → Sight → Type 0
Added place old new = Advanced 1 1 old new × (new.places ≡ old.places ++ place ∷ [])
