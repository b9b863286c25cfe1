-- What holds of the values that lines hold: names are names of their kinds, digests have 32 bytes.
use Rattle.std.specs.Prelude.{◌≡◌, ℕ, List, [], ◌∷◌, length, Option, Some, None, Ok, ⊤}
use Rattle.hex.specs.Hex.{IsBytes}
use Rattle.af_names.specs.Names.{Grammar, named}

abbrev pub IsName : Grammar → List ℕ → Type 0
IsName grammar name = named grammar name ≡ Ok name

abbrev pub AreNames : Grammar → List (List ℕ) → Type 0
AreNames grammar [] = ⊤
AreNames grammar (name ∷ names) = IsName grammar name × AreNames grammar names

-- 32 bytes
pub record IsDigest (digest : List ℕ) : Type 0 where
  pub size : length digest ≡ 32
  pub bytes : IsBytes digest

-- what holds of a value, if there is one
abbrev pub IfThere : {X : Type 0} → (X → Type 0) → Option X → Type 0
IfThere holds None = ⊤
IfThere holds (Some x) = holds x
