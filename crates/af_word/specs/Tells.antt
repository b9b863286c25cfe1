-- What a step tells the seat that takes it, which sees no standing as a whole.
use Rattle.std.specs.Prelude.{◌≡◌, ℕ, ◌+◌, ◌%◌, ◌^◌, ◌==◌, [], ◌∷◌, ◌++◌, MatchBool}
use mathlib.Core.List.{IsPrefix}
use Rattle.atomic_table.specs.Table.{Step, Me}
use Rattle.af_prefixes.specs.Beginnings.{IsLonger}
use Rattle.af_word.specs.declared.view.View.{View}
use Rattle.af_word.specs.Places.{Names, Within}

-- the view has now seen a list whose end this word names, by one step more, and was told of none
pub record Now (v w : View) (found : ℕ) : Type 0 where
  pub first_is : w.first ≡ v.first
  pub last_is : w.last ≡ v.last
  pub told : w.told ≡ []
  pub counted : w.steps ≡ v.steps + 1
  pub within : Within v.first v.last w.seen
  pub names : Names found w.seen

-- a look: the list begins with all that was known, the word found names its end, and no deed was done
abbrev pub Looks : Step ℕ → Me ℕ View → ℕ → Me ℕ View → Type 0
Looks s v found w = Now v.0 w.0 found × IsPrefix v.0.seen w.0.seen × IsPrefix v.0.told w.0.seen × (w.1 ≡ v.1) × (w.0.deeds ≡ v.0.deeds)

-- an exchange: the list was what was seen, and one place was added, by a deed; or it was longer, and was seen
abbrev pub Publishes : Step ℕ → Me ℕ View → ℕ → Me ℕ View → Type 0
Publishes s v found w =
    (w.1 ≡ v.1)
    × MatchBool (found == s.first) (Now v.0 w.0 s.second × (w.0.seen ≡ v.0.seen ++ s.second % 2 ^ 32 ∷ []) × (w.0.deeds ≡ v.0.deeds + 1)) (Now v.0 w.0 found × IsLonger v.0.seen w.0.seen × (w.0.deeds ≡ v.0.deeds))
