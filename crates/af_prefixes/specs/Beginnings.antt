-- Lists that only grow, and their beginnings. `IsPrefix earlier later`: the second list begins with the first. These are this product's own words.
use Rattle.std.specs.Prelude.{◌≡◌, ℕ, ◌<◌, List, length, Some, slice_get}
use mathlib.Core.List.{IsPrefix}

-- the second list begins with the first, and goes on
abbrev pub IsLonger : {A : Type 0} → List A → List A → Type 0
IsLonger earlier later = IsPrefix earlier later × (length earlier < length later)

-- wherever both lists have an entry, it is the same one
abbrev pub Agree : {A : Type 0} → List A → List A → Type 0
Agree {A} one other = (at : ℕ) (x y : A) → slice_get one at ≡ Some x → slice_get other at ≡ Some y → x ≡ y
