-- The five kinds of atomic step on a tally: what each may do to the word, to its list of entries, and to what the seats know.
-- The opening is the first; the four others stand under `Does`. This product's own rule.
use Rattle.std.specs.Prelude.{◌≡◌, ℕ, ◌+◌, ◌^◌, ◌<◌, true, false, List, [], ◌∷◌, ◌++◌, length, slice_set}
use mathlib.Core.Option.{some}
use mathlib.Core.List.{IsPrefix}
use lib.ListN.{get_elem?}
use Rattle.af_tally.specs.declared.view.View.{View}

-- how things stand between two steps: the word, the one list of entries that it counts, and the view of each seat
pub record Standing (E : Type 0) : Type 0 where
  pub word : ℕ
  pub entries : List E
  pub views : List (View E)

-- the kinds of step that follow an opening, each with the seat that takes it; an addition has its entry, and a join the seat that is given up
pub data Kind (E : Type 0) : Type 0 where
  add : ℕ → E → Kind E
  load : ℕ → Kind E
  split : ℕ → Kind E
  join : ℕ → ℕ → Kind E

module _ {E : Type 0} where
  -- the seat of this number has this view
  abbrev pub IsSeat : Standing E → ℕ → View E → Type 0
  IsSeat s seat v = get_elem? s.views seat ≡ some v

  -- the keeper's view
  abbrev pub keeping : List E → View E
  keeping seen = record { keeps = true; seen = seen; told = [] }

  -- a witness's view
  abbrev pub witness : List E → View E
  witness seen = record { keeps = false; seen = seen; told = [] }

  -- the view of a witness that has seen as much
  abbrev pub copied : View E → View E
  copied v = witness v.seen

  -- the view of a seat that is told of what another has seen, and keeps what it has seen itself
  abbrev pub informed : View E → View E → View E
  informed v u = record { keeps = v.keeps; seen = v.seen; told = u.seen }

  -- the view of a seat that has compared what it was told of with what it has seen, and forgets the first
  abbrev pub compared : View E → View E
  compared v = record v { told = [] }

  -- the view of a seat that was given up: it knows nothing
  abbrev pub nobody : View E
  nobody = witness []

  -- the opening: no entry, which the word counts, and the one seat is the keeper's
  abbrev pub opened : Standing E
  opened = record { word = 0; entries = []; views = keeping [] ∷ [] }

  -- what a step of each kind does
  -- * add: the keeper records, that is, adds one entry to all that it has seen, and one to the word; all other views stay
  -- * load: a seat forgets what it was told of; all else stays
  -- * split: a new seat, a witness, has seen what this one has; all else stays
  -- * join: a seat is told of what another had seen, and that one is given up; all else stays
  abbrev pub Does : Kind E → Standing E → Standing E → Type 0
  Does (add seat entry) was now =
      (v : View E) × IsSeat was seat v × (v.keeps ≡ true) × (was.word + 1 < 2 ^ 32)
      × (now ≡ record { word = was.word + 1; entries = was.entries ++ entry ∷ []; views = slice_set was.views seat (keeping (v.seen ++ entry ∷ [])) })
  Does (load seat) was now = (v : View E) × IsSeat was seat v × (now ≡ record was { views = slice_set was.views seat (compared v) })
  Does (split seat) was now = (v : View E) × IsSeat was seat v × (now ≡ record was { views = was.views ++ copied v ∷ [] })
  Does (join seat other) was now =
      (v : View E) × (u : View E) × IsSeat was seat v × IsSeat was other u × (¬ (other ≡ seat))
      × (now ≡ record was { views = slice_set (slice_set was.views seat (informed v u)) other nobody })

  -- a standing that a run of steps leads to
  pub data Run : Standing E → Type 0 where
    opening : Run opened
    further : (kind : Kind E) (was now : Standing E) → Run was → Does kind was now → Run now

  -- the rule of the word's table: a run of these steps leads to its one word and its views
  pub record Ruled (words : List ℕ) (views : List (View E)) : Type 0 where
    pub word : ℕ
    pub entries : List E
    pub words_are : words ≡ word ∷ []
    pub run : Run (record { word = word; entries = entries; views = views })

  -- the keeper, seat 0, has seen the whole list, and what each other seat has seen and was told of begins it
  pub record Knows (entries : List E) (seat : ℕ) (v : View E) : Type 0 where
    pub keeps : v.keeps ≡ true → (seat ≡ 0) × (v.seen ≡ entries)
    pub seen : IsPrefix v.seen entries
    pub told : IsPrefix v.told entries

  -- the word counts the list, of which each seat knows what it should
  pub record IsKept (s : Standing E) : Type 0 where
    pub counts : s.word ≡ length s.entries
    pub knows : (seat : ℕ) (v : View E) → IsSeat s seat v → Knows s.entries seat v
