-- The front of a text: the number that its first eight bytes spell, the first the greatest, with zeros for those that are not
-- there. Texts are in the order of their fronts, and where these are one, in that of all their bytes.
use Rattle.std.specs.Prelude.{ℕ, zero, suc, List, [], ◌∷◌}
use Rattle.std.specs.Slice.Scan.{big_endian}

-- the first n bytes, with zeros for those that are not there
abbrev pub padded : ℕ → List ℕ → List ℕ
padded zero bytes = []
padded (suc n) [] = 0 ∷ padded n []
padded (suc n) (b ∷ bytes) = b ∷ padded n bytes

abbrev pub front_of : List ℕ → ℕ
front_of bytes = big_endian 0 (padded 8 bytes)
