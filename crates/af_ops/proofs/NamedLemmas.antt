-- The rows of ids that are looked up one by one, where rows and ids ascend.
use Rattle.std.proofs.Common.{◌≡◌, ◌∙◌, refl, sym, ap, ap₂, ℕ, ◌+◌, ◌<◌, List, [], ◌∷◌, ◌++◌, map, length, get_or, take, Bool, false, cond, ◌||◌, Ordering, Less, Equal, Greater, nat_cmp}
use Rattle.std.specs.Prelude.{Option, Some, None, nat_eq}
use Rattle.std.specs.List.{AllByRecursion, cons_option, filter_map}
use Rattle.std.specs.List.Sorted.{IsStrictlySortedBy}
use Rattle.std.specs.Ordering.{is_eq, ordering_reverse}
use Rattle.std.specs.Cmp.Lexicographic.{slice_cmp, pointwise, nat_list_cmp_total, texts_ties}
use Rattle.std.proofs.lemmas.List.{take_more}
use Rattle.std.proofs.lemmas.List.Elements.{filter_map-append}
use Rattle.std.proofs.lemmas.Map.Keys.{sorted_head, sorted_tail}
use Rattle.af_base.specs.Ordered.{row_of}
use Rattle.af_policy.specs.Views.{is_named}
use Rattle.af_ops.specs.Listings.{read_rows}

-- what is found of one more key
pub found_more : {K X : Type 0} (look : K → Option X) (keys : List K) (i : ℕ) (key : K) (found : Option X) (was now : List X) → i < length keys → key ≡ get_or keys i key → found ≡ look key → was ≡ filter_map look (take i keys) → now ≡ was ++ cons_option found [] → now ≡ filter_map look (take (i + 1) keys)
found_more {K = K} {X = X} look keys i key found was now inside here looked before grown =
    grown
    ∙ ap₂ (λ (l : List X) (o : Option X). l ++ cons_option o []) before (looked ∙ ap look here)
    ∙ sym (filter_map-append look (take i keys) (get_or keys i key ∷ []))
    ∙ ap (filter_map look) (sym (take_more keys i key inside))

by_order : {P : Type 0} (k : Ordering) → (k ≡ Less → P) → (k ≡ Equal → P) → (k ≡ Greater → P) → P
by_order Less less equal greater = less refl
by_order Equal less equal greater = equal refl
by_order Greater less equal greater = greater refl

-- an id stands before each of these
abbrev Before : List ℕ → List (List ℕ) → Type 0
Before id ids = AllByRecursion (λ other. slice_cmp nat_cmp id other ≡ Less) ids

apart : (id other : List ℕ) → slice_cmp nat_cmp id other ≡ Less → pointwise nat_eq id other ≡ false
apart id other before = texts_ties id other ∙ ap is_eq before

turned : (id other : List ℕ) (k : Ordering) → slice_cmp nat_cmp id other ≡ k → slice_cmp nat_cmp other id ≡ ordering_reverse k
turned id other k is = nat_list_cmp_total.antisymm other id ∙ ap ordering_reverse is

behind : (id other : List ℕ) → slice_cmp nat_cmp id other ≡ Less → pointwise nat_eq other id ≡ false
behind id other before = texts_ties other id ∙ ap is_eq (turned id other Less before)

before_all : (id other : List ℕ) (ids : List (List ℕ)) → slice_cmp nat_cmp id other ≡ Less → Before other ids → Before id ids
before_all id other [] first rest = tt
before_all id other (next ∷ ids) first rest = (nat_list_cmp_total.trans id other next first rest.0, before_all id other ids first rest.1)

level_all : (id other : List ℕ) (ids : List (List ℕ)) → slice_cmp nat_cmp id other ≡ Equal → Before other ids → Before id ids
level_all id other [] level rest = tt
level_all id other (next ∷ ids) level rest = (nat_list_cmp_total.congr id other next level ∙ rest.0, level_all id other ids level rest.1)

-- an id before each of these is not among them
none_named : (id : List ℕ) (ids : List (List ℕ)) → Before id ids → is_named ids id ≡ false
none_named id [] before = refl
none_named id (other ∷ ids) before =
    ap₂ (λ (a b : Bool). a || b) (behind id other before.0) (none_named id ids before.1)

module _ {X : Type 0} (key_of : X → List ℕ) where
  none_found : (id : List ℕ) (rows : List X) → Before id (map key_of rows) → row_of key_of rows id ≡ None
  none_found id [] before = refl
  none_found id (row ∷ rows) before =
      ap (λ (b : Bool). cond b (Some row) (row_of key_of rows id)) (behind id (key_of row) before.0)
      ∙ none_found id rows before.1

  -- a row is not found by the ids behind its own
  found_past : (row : X) (rows : List X) (ids : List (List ℕ)) → Before (key_of row) ids → filter_map (row_of key_of (row ∷ rows)) ids ≡ filter_map (row_of key_of rows) ids
  found_past row rows [] before = refl
  found_past row rows (id ∷ ids) before =
      ap₂ (λ (b : Bool) (rest : List X). cons_option (cond b (Some row) (row_of key_of rows id)) rest) (apart (key_of row) id before.0) (found_past row rows ids before.1)

  -- one id more names none of the rows behind it
  named_past : (id : List ℕ) (ids : List (List ℕ)) (rows : List X) → Before id (map key_of rows) → read_rows (is_named (id ∷ ids)) key_of rows ≡ read_rows (is_named ids) key_of rows
  named_past id ids [] before = refl
  named_past id ids (row ∷ rows) before =
      ap₂ (λ (b : Bool) (rest : List X). cond (b || is_named ids (key_of row)) (row ∷ rest) rest) (apart id (key_of row) before.0) (named_past id ids rows before.1)

  none_read : (rows : List X) → read_rows (is_named []) key_of rows ≡ []
  none_read [] = refl
  none_read (row ∷ rows) = none_read rows

  abbrev Finds : List (List ℕ) → List X → Type 0
  Finds ids rows = IsStrictlySortedBy (slice_cmp nat_cmp) (map key_of rows) → filter_map (row_of key_of rows) ids ≡ read_rows (is_named ids) key_of rows

  found_at : (id : List ℕ) (ids : List (List ℕ)) → IsStrictlySortedBy (slice_cmp nat_cmp) (id ∷ ids) → ((rows : List X) → Finds ids rows) → (rows : List X) → Finds (id ∷ ids) rows
  found_at id ids order rest [] rise = rest [] rise
  found_at id ids order rest (row ∷ rows) rise =
      let key : List ℕ = key_of row in
      let ids_behind : Before id ids = sorted_head (slice_cmp nat_cmp) id ids order in
      let rows_behind : Before key (map key_of rows) = sorted_head (slice_cmp nat_cmp) key (map key_of rows) rise in
      let rows_rise : IsStrictlySortedBy (slice_cmp nat_cmp) (map key_of rows) = sorted_tail (slice_cmp nat_cmp) key (map key_of rows) rise in
      by_order (slice_cmp nat_cmp id key)
      (λ less.
      let before : Before id (map key_of (row ∷ rows)) = (less, before_all id key (map key_of rows) less rows_behind) in
      ap (λ (o : Option X). cons_option o (filter_map (row_of key_of (row ∷ rows)) ids)) (none_found id (row ∷ rows) before)
      ∙ rest (row ∷ rows) rise
      ∙ sym (named_past id ids (row ∷ rows) before))
      (λ level.
      let back : slice_cmp nat_cmp key id ≡ Equal = turned id key Equal level in
      ap₂ (λ (b : Bool) (l : List X). cons_option (cond b (Some row) (row_of key_of rows id)) l)
      (texts_ties key id ∙ ap is_eq back) (found_past row rows ids (level_all key id ids back ids_behind))
      ∙ ap (λ (l : List X). row ∷ l) (rest rows rows_rise ∙ sym (named_past id ids rows (level_all id key (map key_of rows) level rows_behind)))
      ∙ sym (ap (λ (b : Bool). cond (b || is_named ids key) (row ∷ read_rows (is_named (id ∷ ids)) key_of rows) (read_rows (is_named (id ∷ ids)) key_of rows)) (texts_ties id key ∙ ap is_eq level)))
      (λ more.
      let less : slice_cmp nat_cmp key id ≡ Less = turned id key Greater more in
      let before : Before key (id ∷ ids) = (less, before_all key id ids less ids_behind) in
      found_past row rows (id ∷ ids) before
      ∙ found_at id ids order rest rows rows_rise
      ∙ sym (ap (λ (b : Bool). cond b (row ∷ read_rows (is_named (id ∷ ids)) key_of rows) (read_rows (is_named (id ∷ ids)) key_of rows)) (none_named key (id ∷ ids) before)))

  -- the rows that are found for ids, one by one, are the rows that the ids name
  pub found_is_named : (ids : List (List ℕ)) (rows : List X) → IsStrictlySortedBy (slice_cmp nat_cmp) ids → Finds ids rows
  found_is_named [] rows order rise = sym (none_read rows)
  found_is_named (id ∷ ids) rows order rise =
      found_at id ids order (λ others. found_is_named ids others (sorted_tail (slice_cmp nat_cmp) id ids order)) rows rise

-- the rows that are read, where two readers read the same
pub read_same : {X : Type 0} (key_of : X → List ℕ) (rows : List X) (reads shows : List ℕ → Bool) → ((dag : List ℕ) → reads dag ≡ shows dag) → read_rows reads key_of rows ≡ read_rows shows key_of rows
read_same key_of rows reads shows same =
    let one : reads ≡ shows = λ i dag. same dag i in
    ap (λ (test : List ℕ → Bool). read_rows test key_of rows) one
