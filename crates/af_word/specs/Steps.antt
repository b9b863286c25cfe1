-- The six kinds of atomic step on a version word: what each may do to the word, to its list of places, and to what the seats know.
-- The opening is the first; the five others stand under `Does`. This product's own rule.
use Rattle.std.specs.Prelude.{◌≡◌, ℕ, ◌+◌, ◌^◌, ◌<◌, ◌≤◌, List, [], ◌∷◌, ◌++◌, length, slice_set}
use mathlib.Core.Option.{some}
use mathlib.Core.List.{IsPrefix}
use lib.ListN.{get_elem?}
use Rattle.af_word.specs.declared.view.View.{View}
use Rattle.af_word.specs.Places.{Names, Within, word_of}

-- how things stand between two steps: the word, the one list of places whose end it names, and the view of each seat
pub record Standing : Type 0 where
  pub word : ℕ
  pub places : List ℕ
  pub views : List View

-- the seat of this number has this view
abbrev pub IsSeat : Standing → ℕ → View → Type 0
IsSeat s seat v = get_elem? s.views seat ≡ some v

-- a view of a word with this first place and this last version
abbrev pub sight : ℕ → ℕ → List ℕ → List ℕ → ℕ → ℕ → View
sight first last seen told steps deeds = record { first = first; last = last; seen = seen; told = told; steps = steps; deeds = deeds }

-- the view of a seat that sees this list by one step more, and was told of no other since
abbrev pub sees : View → List ℕ → View
sees v places = sight v.first v.last places [] (v.steps + 1) v.deeds

-- the view of a seat that has published the last place of this list by one step and one deed more, and was told of no other since
abbrev pub adds : View → List ℕ → View
adds v places = sight v.first v.last places [] (v.steps + 1) (v.deeds + 1)

-- the view of a seat after a split, and of the seat that was split from it, each by one deed more
abbrev pub parts : View → View
parts v = record v { deeds = v.deeds + 1 }

-- the view of a seat that is told of what another has seen and done, and keeps what it has seen itself
abbrev pub informed : View → View → View
informed v u = sight v.first v.last v.seen u.seen v.steps (v.deeds + u.deeds)

-- the view of a seat that was given up: it knows nothing
abbrev pub nobody : View
nobody = sight 0 0 [] [] 0 0

-- the opening: the list is the first place, which the word names at version 0, and the one seat has seen it without a step or a deed
abbrev pub opened : ℕ → ℕ → Standing
opened first last = record { word = first; places = first ∷ []; views = sight first last (first ∷ []) [] 0 0 ∷ [] }

-- after a look of this seat: it has seen the whole list, and the word, the list and all other views stay
abbrev pub looked : Standing → ℕ → View → Standing
looked s seat v = record s { views = slice_set s.views seat (sees v s.places) }

-- after a publishing of this seat: the list has one more place, the word names it, the seat has seen it, and all other views stay
abbrev pub published : Standing → ℕ → View → ℕ → Standing
published s seat v place = record {
  word = word_of (length s.places) place;
  places = s.places ++ place ∷ [];
  views = slice_set s.views seat (adds v (s.places ++ place ∷ []));
}

-- the kinds of step that follow an opening, each with the seat that takes it; a win has its place, and a join the seat that is given up
pub data Kind : Type 0 where
  look : ℕ → Kind
  win : ℕ → ℕ → Kind
  lose : ℕ → Kind
  split : ℕ → Kind
  join : ℕ → ℕ → Kind

-- what a step of each kind does
-- * look: a seat that was not given up sees the list
-- * win: a publishing where the list is the one that the seat had seen, and has not reached the last version
-- * lose: a publishing where the list is longer than the seat had seen; the seat sees it
-- * split: a new seat has the view of this one; the split is a deed of both, and all else stays
-- * join: a seat is told of what another had seen, and has its deeds too, and that one is given up; all else stays
abbrev pub Does : ℕ → Kind → Standing → Standing → Type 0
Does last (look seat) was now = (v : View) × IsSeat was seat v × (0 < length v.seen) × (now ≡ looked was seat v)
Does last (win seat place) was now = (v : View) × IsSeat was seat v × (v.seen ≡ was.places) × (length was.places ≤ last) × (place < 2 ^ 32) × (now ≡ published was seat v place)
Does last (lose seat) was now = (v : View) × IsSeat was seat v × (0 < length v.seen) × (length v.seen < length was.places) × (now ≡ looked was seat v)
Does last (split seat) was now = (v : View) × IsSeat was seat v × (now ≡ record was { views = slice_set was.views seat (parts v) ++ parts v ∷ [] })
Does last (join seat other) was now =
    (v : View) × (u : View) × IsSeat was seat v × IsSeat was other u × (¬ (other ≡ seat))
    × (now ≡ record was { views = slice_set (slice_set was.views seat (informed v u)) other nobody })

-- a standing that a run of steps leads to
pub data Run (first last : ℕ) : Standing → Type 0 where
  opening : first < 2 ^ 32 → Run first last (opened first last)
  further : (kind : Kind) (was now : Standing) → Run first last was → Does last kind was now → Run first last now

-- the rule of the word's table: a run of these steps leads to its one word and its views
pub record Ruled (first last : ℕ) (words : List ℕ) (views : List View) : Type 0 where
  pub word : ℕ
  pub places : List ℕ
  pub words_are : words ≡ word ∷ []
  pub run : Run first last (record { word = word; places = places; views = views })

-- what a seat has seen and was told of begins the list; who has seen something knows the first place and the last version
pub record Knows (first last : ℕ) (places : List ℕ) (v : View) : Type 0 where
  pub seen : IsPrefix v.seen places
  pub told : IsPrefix v.told places
  pub of : 0 < length v.seen → (v.first ≡ first) × (v.last ≡ last)

-- the word names the last entry of the list, which begins with the first place, is no longer than allowed, and begins with what each seat knows
pub record IsKept (first last : ℕ) (s : Standing) : Type 0 where
  pub within : Within first last s.places
  pub names : Names s.word s.places
  pub knows : (seat : ℕ) (v : View) → IsSeat s seat v → Knows first last s.places v
