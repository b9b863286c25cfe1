-- Variables that are put in order before they are added.
use Rattle.std.proofs.Common.{◌≡◌, ◌∙◌, refl, sym, ap, subst, ℕ, List, [], ◌∷◌, ◌++◌, map, Bool, true, false, cond, is_some, ◌||◌, length, Ok, Err}
use Rattle.std.specs.Prelude.{Option, Some, filter, nat_le, ◌≤◌, ◌<◌}
use Rattle.std.specs.List.{AllByRecursion}
use Rattle.std.specs.List.Sorted.{IsStrictlySortedBy}
use Rattle.std.specs.Ordering.{nat_cmp, is_eq, match_ordering, ordering_reverse}
use Rattle.std.specs.declared.cmp.Ordering.{Ordering}
use Rattle.std.specs.declared.cmp.Ordering.TheVariants.{Less, Equal, Greater}
use Rattle.std.specs.Cmp.Lexicographic.{slice_cmp, nat_list_cmp_total, nat_list_eq_equiv, texts_ties}
use Rattle.std.specs.Map.{keys_of, lookup}
use Rattle.std.specs.BTreeMap.{insert_entry, is_at}
use Rattle.std.proofs.lemmas.Bool.{le-leb, lt-leb}
use Rattle.std.proofs.lemmas.List.{append-nil, append_assoc, length-map}
use Rattle.std.proofs.lemmas.Map.Lookups.{exact_bytes}
use Rattle.af_base.specs.Ordered.{comes_before}
use Rattle.af_vars.specs.declared.variable.Variable.{Variable}
use Rattle.af_vars.specs.Variables.{has_variable, key_of, most_variables, with_variable}
use Rattle.af_server.specs.declared.reason.Reason.TheVariants.{Duplicate, Limit}
use Rattle.af_server.specs.Drafts.{Draft}
use Rattle.af_server.specs.VariableRows.{entry_row, placed_variable, rows_of, with_each, with_variables}

abbrev by_bytes : List ℕ → List ℕ → Ordering
by_bytes = slice_cmp nat_cmp

-- ---- which keys there are

is_some-cond : {X : Type 0} (here : Bool) (x : X) (rest : Option X) → is_some (cond here (Some x) rest) ≡ (here || is_some rest)
is_some-cond true x rest = refl
is_some-cond false x rest = refl

-- a key is found exactly where a variable has it
pub is_some-entry : (key : List ℕ) (entries : List (List ℕ × List ℕ)) → is_some (lookup (is_at (by_bytes key)) entries) ≡ has_variable (rows_of entries) key
is_some-entry key [] = refl
is_some-entry key (e ∷ entries) =
    let same = sym (texts_ties key e.0) ∙ nat_list_eq_equiv.symm key e.0 in
    is_some-cond (is_eq (by_bytes key e.0)) e.1 (lookup (is_at (by_bytes key)) entries) ∙ (λ i. same i || is_some-entry key entries i)

-- ---- one entry more

-- what is above one key is above each below it
above_all : (key other : List ℕ) (keys : List (List ℕ)) → by_bytes key other ≡ Less → AllByRecursion (λ it. by_bytes other it ≡ Less) keys → AllByRecursion (λ it. by_bytes key it ≡ Less) keys
above_all key other [] less all = tt
above_all key other (it ∷ keys) less all = (nat_list_cmp_total.trans key other it less all.0, above_all key other keys less all.1)

above_same : (key other : List ℕ) (keys : List (List ℕ)) → by_bytes key other ≡ Equal → AllByRecursion (λ it. by_bytes other it ≡ Less) keys → AllByRecursion (λ it. by_bytes key it ≡ Less) keys
above_same key other [] same all = tt
above_same key other (it ∷ keys) same all = (nat_list_cmp_total.congr key other it same ∙ all.0, above_same key other keys same all.1)

-- how the other way round compares
turned : (key other : List ℕ) (o : Ordering) → by_bytes key other ≡ o → by_bytes other key ≡ ordering_reverse o
turned key other o at = nat_list_cmp_total.antisymm other key ∙ ap ordering_reverse at

module _ (key : List ℕ) where
  none_before : (entries : List (List ℕ × List ℕ)) → AllByRecursion (λ it. by_bytes key it ≡ Less) (keys_of entries) → filter (λ (other : Variable). comes_before other.key key) (rows_of entries) ≡ []
  none_before [] all = refl
  none_before (e ∷ entries) all = rw (turned key e.0 Less all.0) (none_before entries all.1)

  all_behind : (entries : List (List ℕ × List ℕ)) → AllByRecursion (λ it. by_bytes key it ≡ Less) (keys_of entries) → filter (λ (other : Variable). comes_before key other.key) (rows_of entries) ≡ rows_of entries
  all_behind [] all = refl
  all_behind (e ∷ entries) all = rw all.0 (ap (λ (rows : List Variable). entry_row e ∷ rows) (all_behind entries all.1))

-- what is put at its key among entries in order is the variable put at its place
pub rows_of-insert : (key value : List ℕ) (entries : List (List ℕ × List ℕ)) → IsStrictlySortedBy by_bytes (keys_of entries) → rows_of (insert_entry by_bytes entries key value) ≡ with_variable (rows_of entries) (entry_row (key, value))
unfolding IsStrictlySortedBy
rows_of-insert key value [] order = refl
rows_of-insert key value (e ∷ entries) order = step (by_bytes key e.0) refl (rows_of-insert key value entries order.1)
  where
    new : Variable
    new = entry_row (key, value)

    step : (o : Ordering) → by_bytes key e.0 ≡ o → rows_of (insert_entry by_bytes entries key value) ≡ with_variable (rows_of entries) new → rows_of (match_ordering o ((key, value) ∷ e ∷ entries) ((e.0, value) ∷ entries) (e ∷ insert_entry by_bytes entries key value)) ≡ with_variable (rows_of (e ∷ entries)) new
    step Less at later =
        let above : AllByRecursion (λ it. by_bytes key it ≡ Less) (keys_of (e ∷ entries)) = (at, above_all key e.0 (keys_of entries) at order.0) in
        (λ i. sym (none_before key (e ∷ entries) above) i ++ new ∷ sym (all_behind key (e ∷ entries) above) i)
    step Equal at later =
        let above : AllByRecursion (λ it. by_bytes key it ≡ Less) (keys_of entries) = above_same key e.0 (keys_of entries) at order.0 in
        rw (turned key e.0 Equal at, at) (
        ap (λ (name : List ℕ). entry_row (name, value) ∷ rows_of entries) (sym (exact_bytes key e.0 at))
        ∙ (λ i. sym (none_before key entries above) i ++ new ∷ sym (all_behind key entries above) i))
    step Greater at later = rw (turned key e.0 Greater at, at) (ap (λ (rows : List Variable). entry_row e ∷ rows) later)

-- ---- each added behind those before it

module _ (one : Variable) where
  all_before : (variables : List Variable) → AllByRecursion (λ it. by_bytes it one.key ≡ Less) (map key_of variables) → filter (λ (other : Variable). comes_before other.key one.key) variables ≡ variables
  all_before [] all = refl
  all_before (x ∷ variables) all = rw all.0 (ap (λ (rows : List Variable). x ∷ rows) (all_before variables all.1))

  none_behind : (variables : List Variable) → AllByRecursion (λ it. by_bytes it one.key ≡ Less) (map key_of variables) → filter (λ (other : Variable). comes_before one.key other.key) variables ≡ []
  none_behind [] all = refl
  none_behind (x ∷ variables) all = rw (turned x.key one.key Less all.0) (none_behind variables all.1)

  goes_last : (variables : List Variable) → AllByRecursion (λ it. by_bytes it one.key ≡ Less) (map key_of variables) → with_variable variables one ≡ variables ++ one ∷ []
  goes_last variables all = (λ i. all_before variables all i ++ one ∷ none_behind variables all i)

-- the first is below one that comes later
below_later : (key : List ℕ) (before : List Variable) (one : Variable) (after : List Variable) → AllByRecursion (λ it. by_bytes key it ≡ Less) (map key_of (before ++ one ∷ after)) → by_bytes key one.key ≡ Less
below_later key [] one after all = all.0
below_later key (x ∷ before) one after all = below_later key before one after all.1

all_below : (before : List Variable) (one : Variable) (after : List Variable) → IsStrictlySortedBy by_bytes (map key_of (before ++ one ∷ after)) → AllByRecursion (λ it. by_bytes it one.key ≡ Less) (map key_of before)
unfolding IsStrictlySortedBy
all_below [] one after order = tt
all_below (x ∷ before) one after order = (below_later x.key before one after order.0, all_below before one after order.1)

with_each-in_order : (before after : List Variable) → IsStrictlySortedBy by_bytes (map key_of (before ++ after)) → with_each before after ≡ before ++ after
with_each-in_order before [] order = sym (append-nil before)
with_each-in_order before (one ∷ after) order =
    ap (λ (rows : List Variable). with_each rows after) (goes_last one before (all_below before one after order))
    ∙ with_each-in_order (before ++ one ∷ []) after (subst (λ (rows : List Variable). IsStrictlySortedBy by_bytes (map key_of rows)) (sym (append_assoc before (one ∷ []) after)) order)
    ∙ append_assoc before (one ∷ []) after

keys_of-rows : (entries : List (List ℕ × List ℕ)) → map key_of (rows_of entries) ≡ keys_of entries
keys_of-rows [] = refl
keys_of-rows (e ∷ entries) = ap (λ (keys : List (List ℕ)). e.0 ∷ keys) (keys_of-rows entries)

-- the rows of entries in order, added one after another where there is none
pub with_each-rows : (entries : List (List ℕ × List ℕ)) → IsStrictlySortedBy by_bytes (keys_of entries) → with_each [] (rows_of entries) ≡ rows_of entries
with_each-rows entries order = with_each-in_order [] (rows_of entries) (subst (IsStrictlySortedBy by_bytes) (sym (keys_of-rows entries)) order)

-- ---- what becomes of one more

module _ (draft : Draft) (entries : List (List ℕ × List ℕ)) (variable : Variable) where
  pub found_there : has_variable (rows_of entries) variable.key ≡ true → placed_variable (with_variables draft (rows_of entries)) variable ≡ Err Duplicate
  found_there there = rw there refl

  module _ (absent : has_variable (rows_of entries) variable.key ≡ false) where
    pub is_full : most_variables ≤ length entries → placed_variable (with_variables draft (rows_of entries)) variable ≡ Err Limit
    is_full many =
        let full : nat_le most_variables (length (rows_of entries)) ≡ true = le-leb most_variables (length (rows_of entries)) (rw (length-map entries entry_row) many) in
        rw (absent, full) refl

    pub added : (more : List (List ℕ × List ℕ)) → length entries < most_variables → IsStrictlySortedBy by_bytes (keys_of entries) → more ≡ insert_entry by_bytes entries variable.key variable.value → placed_variable (with_variables draft (rows_of entries)) variable ≡ Ok (with_variables draft (rows_of more))
    added more few order is =
        let room : nat_le most_variables (length (rows_of entries)) ≡ false = lt-leb most_variables (length (rows_of entries)) (rw (length-map entries entry_row) few) in
        rw (absent, room) (ap (λ (rows : List Variable). Ok (with_variables draft rows)) (sym (ap rows_of is ∙ rows_of-insert variable.key variable.value entries order)))
