-- A list of places, one for each version from 0 on, and the word that names its end. This product's own rule.
use Rattle.std.specs.Prelude.{◌≡◌, ℕ, ◌+◌, ◌*◌, ◌/◌, ◌%◌, ◌^◌, ◌≤◌, List, length, Some, slice_get}
use Rattle.atomic_table.specs.Seated.{TableId}

-- the list ends at this version, with this place
pub record EndsAt (places : List ℕ) (version index : ℕ) : Type 0 where
  pub last : length places ≡ version + 1
  pub place : slice_get places version ≡ Some index

-- the word of a version and of the place that stands there
abbrev pub word_of : ℕ → ℕ → ℕ
word_of version place = version * 2 ^ 32 + place

-- the word names the end of the list
abbrev pub Names : ℕ → List ℕ → Type 0
Names word places = EndsAt places (word / 2 ^ 32) (word % 2 ^ 32)

-- the list begins with the word's first place, and ends at its last version at the latest
pub record Within (first last : ℕ) (places : List ℕ) : Type 0 where
  pub begins : slice_get places 0 ≡ Some first
  pub short : length places ≤ last + 1

-- which word it is: its table, its first place, and the last version that it takes
pub record WordId : Type 0 where
  pub table : TableId
  pub first : ℕ
  pub last : ℕ

-- What a pass has seen, and of which word. Its steps: how many looks and exchanges it took, those of the pass that it was split from
-- before that among them. Its deeds: how many places it has published and how many splits it has been through, on either side, those
-- of the pass that it was split from before that and of the passes that it has taken in among them. So a pass that has as many deeds
-- as before was not split, and neither it nor a copy of it has published.
pub record Sight : Type 0 where
  pub word : WordId
  pub places : List ℕ
  pub steps : ℕ
  pub deeds : ℕ
