-- What the code finds at the front of the bytes that it holds.
use Rattle.std.specs.Prelude.{◌+◌, cond, ◌≡◌, ◌≤◌, ℕ, List, [], ◌∷◌, ◌++◌, length, take, drop}
use Rattle.af_http.specs.Fronts.{Front, nothing, part, large, whole, front_of, is_large}
use Rattle.af_http.specs.Limits.{head_limit}
use Rattle.af_http.specs.declared.extent.Extent.{Extent}
use Rattle.af_http.specs.declared.extent.Extent.TheVariants.{Part, Large, Whole}

-- less than a head, in a text that begins with no empty line
abbrev pub open_front : List ℕ → Front
open_front [] = nothing
open_front (b ∷ bytes) = part

-- what the text begins with, and whatever follows it, where a head is whole
abbrev pub IsExtent : List ℕ → Extent → Type 0
IsExtent bytes Part = (front_of bytes ≡ open_front bytes) × (length bytes ≤ head_limit)
IsExtent bytes Large = front_of bytes ≡ large
IsExtent bytes (Whole n) =
    (n ≤ length bytes) × (n ≤ head_limit + 1) × ((tail : List ℕ) → front_of (bytes ++ tail) ≡ whole (take n bytes) (drop n bytes ++ tail))

-- a head of so many bytes, in so many lines
abbrev pub sized : ℕ → ℕ → Extent
sized at lines = cond (is_large at lines) Large (Whole at)
