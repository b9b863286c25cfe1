-- Rows that have a key each: which is found after one was added, changed or taken out.
use Rattle.std.proofs.Common.{◌≡◌, ◌≢◌, refl, sym, ◌∙◌, ap, ℕ, List, [], ◌∷◌, Bool, true, false, cond, nat_eq, ◌⊎◌, inl, inr, not, ◌||◌, Ordering}
use Rattle.std.specs.Prelude.{Option, Some, None, is_some, option_map, find, filter}
use Rattle.std.specs.List.{list_any}
use Rattle.std.specs.Option.{option_or}
use Rattle.std.specs.Ordering.{nat_cmp, is_lt, is_eq, ordering_reverse}
use Rattle.std.specs.declared.cmp.Ordering.TheVariants.{Less, Equal, Greater}
use Rattle.std.specs.Cmp.Lexicographic.{pointwise, slice_cmp, nat_list_eq_equiv, nat_list_cmp_total, texts_ties, same_text}
use Rattle.std.proofs.lemmas.Bool.{cases_Bool}
use Rattle.std.proofs.lemmas.List.Folds.{find-append}
use Rattle.af_base.specs.Ordered.{comes_before, has_key, is_there, row_of, with_row, with_change, without_row}

none_some : {X : Type 0} {x : X} → None ≡ Some x → ⊥
none_some same = cc

some_same : {X : Type 0} {x y : X} → Some x ≡ Some y → x ≡ y
some_same is = cc

-- ---- what a test finds
module _ {X : Type 0} (test : X → Bool) where
  found_by : (b : Bool) (x : X) (xs : List X) → list_any test xs ≡ is_some (find test xs) → (b || list_any test xs) ≡ is_some (cond b (Some x) (find test xs))
  found_by true x xs rest = refl
  found_by false x xs rest = rest

  -- some row passes where one is found
  pub any_found : (xs : List X) → list_any test xs ≡ is_some (find test xs)
  any_found [] = refl
  any_found (x ∷ xs) = found_by (test x) x xs (any_found xs)

  -- what is found passes
  passes_by : (b : Bool) (x : X) (xs : List X) (found : X) → test x ≡ b → (find test xs ≡ Some found → test found ≡ true) → cond b (Some x) (find test xs) ≡ Some found → test found ≡ true
  passes_by true x xs found at rest is = ap test (sym (some_same is)) ∙ at
  passes_by false x xs found at rest is = rest is

  pub found_passes : (xs : List X) (found : X) → find test xs ≡ Some found → test found ≡ true
  found_passes [] found is = absurd (none_some is)
  found_passes (x ∷ xs) found is = passes_by (test x) x xs found refl (found_passes xs found) is

  -- a filter by what the test cannot tell apart keeps or loses what it finds
  never : (passes : Bool) → (passes ≡ true → false ≡ true) → passes ≡ false
  never false follows = refl
  never true follows = sym (follows refl)

  ever_not : (passes : Bool) → (passes ≡ true → true ≡ false) → passes ≡ false
  ever_not false follows = refl
  ever_not true follows = follows refl

  filter_step : (x : X) (kept xs : List X) (b passes : Bool) → (test x ≡ true → passes ≡ b) → find test kept ≡ cond b (find test xs) None → find test (cond passes (x ∷ kept) kept) ≡ cond b (find test (x ∷ xs)) None
  filter_step x kept xs true true agrees later = ap (λ (o : Option X). cond (test x) (Some x) o) later
  filter_step x kept xs true false agrees later = rw (never (test x) agrees) later
  filter_step x kept xs false true agrees later = rw (ever_not (test x) agrees) later
  filter_step x kept xs false false agrees later = later

  pub find-filter : (p : X → Bool) (b : Bool) → ((x : X) → test x ≡ true → p x ≡ b) → (xs : List X) → find test (filter p xs) ≡ cond b (find test xs) None
  find-filter p true agrees [] = refl
  find-filter p false agrees [] = refl
  find-filter p b agrees (x ∷ xs) = filter_step x (filter p xs) xs b (p x) (agrees x) (find-filter p b agrees xs)

none_of : {X : Type 0} (found : Option X) → is_some found ≡ false → found ≡ None
none_of None is = refl
none_of (Some x) is = cc

some_of : {X : Type 0} (found : Option X) → is_some found ≡ true → (x : X) × (found ≡ Some x)
some_of None is = absurd (cc)
some_of (Some x) is = (x, refl)

module _ {X : Type 0} (key_of : X → List ℕ) where
  -- ---- is there, is found
  pub none_there : (rows : List X) (key : List ℕ) → is_there key_of rows key ≡ false → row_of key_of rows key ≡ None
  none_there rows key is = none_of (row_of key_of rows key) (sym (any_found (has_key key_of key) rows) ∙ is)

  pub some_there : (rows : List X) (key : List ℕ) → is_there key_of rows key ≡ true → (row : X) × (row_of key_of rows key ≡ Some row)
  some_there rows key is = some_of (row_of key_of rows key) (sym (any_found (has_key key_of key) rows) ∙ is)

  -- the row that is found has the key
  pub found_key : (rows : List X) (key : List ℕ) (row : X) → row_of key_of rows key ≡ Some row → key_of row ≡ key
  found_key rows key row is = same_text (key_of row) key (sym (found_passes (has_key key_of key) rows row is))

  -- ---- a row is taken out
  module _ (rows : List X) (key other : List ℕ) where
    pub removed_found : row_of key_of (without_row key_of rows key) other ≡ cond (not (pointwise nat_eq key other)) (row_of key_of rows other) None
    removed_found =
        find-filter (has_key key_of other) (λ (row : X). not (has_key key_of key row)) (not (pointwise nat_eq key other))
        (λ row is. ap not (nat_list_eq_equiv.congr (key_of row) other key is ∙ nat_list_eq_equiv.symm other key)) rows

  -- ---- a row is changed, and keeps its key
  module _ (change : X → X) (keeps : (row : X) → key_of (change row) ≡ key_of row) (key other : List ℕ) where
    abbrev changed : List X → List X
    changed rows = with_change key_of change rows key

    neither : (b : Bool) → None ≡ cond b (option_map change None) None
    neither true = refl
    neither false = refl

    -- the first row is the one that is changed: it is the one sought exactly where the keys are one
    here_changed : (same : Bool) (one : X) (after before : Option X) → after ≡ cond same (option_map change before) before → cond same (Some (change one)) after ≡ cond same (option_map change (cond same (Some one) before)) (cond same (Some one) before)
    here_changed true one after before later = refl
    here_changed false one after before later = later

    -- the first row stays: where it is the one sought the keys are not one
    here_kept : (found same : Bool) (one : X) (after before : Option X) → (found ≡ true → same ≡ false) → after ≡ cond same (option_map change before) before → cond found (Some one) after ≡ cond same (option_map change (cond found (Some one) before)) (cond found (Some one) before)
    here_kept true same one after before apart later = rw (apart refl) refl
    here_kept false same one after before apart later = later

    changed_by : (b : Bool) (one : X) (rows : List X) → has_key key_of key one ≡ b → row_of key_of (changed rows) other ≡ cond (pointwise nat_eq key other) (option_map change (row_of key_of rows other)) (row_of key_of rows other)
        → row_of key_of (cond b (change one) one ∷ changed rows) other ≡ cond (pointwise nat_eq key other) (option_map change (row_of key_of (one ∷ rows) other)) (row_of key_of (one ∷ rows) other)
    changed_by true one rows is later =
        rw (keeps one, nat_list_eq_equiv.congr (key_of one) key other is) (here_changed (pointwise nat_eq key other) one (row_of key_of (changed rows) other) (row_of key_of rows other) later)
    changed_by false one rows is later =
        here_kept (has_key key_of other one) (pointwise nat_eq key other) one (row_of key_of (changed rows) other) (row_of key_of rows other)
        (λ sought. nat_list_eq_equiv.symm key other ∙ sym (nat_list_eq_equiv.congr (key_of one) other key sought) ∙ is) later

    pub changed_found : (rows : List X) → row_of key_of (changed rows) other ≡ cond (pointwise nat_eq key other) (option_map change (row_of key_of rows other)) (row_of key_of rows other)
    changed_found [] = neither (pointwise nat_eq key other)
    changed_found (one ∷ rows) = changed_by (has_key key_of key one) one rows refl (changed_found rows)

  -- ---- one more row
  module _ (rows : List X) (row : X) (key : List ℕ) where
    abbrev sought : Option X
    sought = row_of key_of rows key

    found_before : row_of key_of (filter (λ (other : X). comes_before (key_of other) (key_of row)) rows) key ≡ cond (comes_before key (key_of row)) sought None
    found_before =
        find-filter (has_key key_of key) (λ (other : X). comes_before (key_of other) (key_of row)) (comes_before key (key_of row))
        (λ other is. ap (λ (text : List ℕ). comes_before text (key_of row)) (same_text (key_of other) key (sym is))) rows

    found_after : row_of key_of (filter (λ (other : X). comes_before (key_of row) (key_of other)) rows) key ≡ cond (comes_before (key_of row) key) sought None
    found_after =
        find-filter (has_key key_of key) (λ (other : X). comes_before (key_of row) (key_of other)) (comes_before (key_of row) key)
        (λ other is. ap (λ (text : List ℕ). comes_before (key_of row) text) (same_text (key_of other) key (sym is))) rows

    found : row_of key_of (with_row key_of rows row) key ≡ option_or (cond (comes_before key (key_of row)) sought None) (cond (pointwise nat_eq (key_of row) key) (Some row) (cond (comes_before (key_of row) key) sought None))
    found =
        find-append (has_key key_of key) (filter (λ (other : X). comes_before (key_of other) (key_of row)) rows) (row ∷ filter (λ (other : X). comes_before (key_of row) (key_of other)) rows)
        ∙ (λ i. option_or (found_before i) (cond (pointwise nat_eq (key_of row) key) (Some row) (found_after i)))

    -- how the keys compare
    ties : is_eq (slice_cmp nat_cmp key (key_of row)) ≡ pointwise nat_eq (key_of row) key
    ties = sym (texts_ties key (key_of row)) ∙ nat_list_eq_equiv.symm key (key_of row)

    or_none : (it : Option X) → option_or it None ≡ it
    or_none None = refl
    or_none (Some x) = refl

    not_less : (r : Ordering) → is_eq r ≡ true → is_lt r ≡ false
    not_less Less is = sym is
    not_less Equal is = refl
    not_less Greater is = refl

    one_side : (r : Ordering) (it : Option X) → is_eq r ≡ false → option_or (cond (is_lt r) it None) (cond (is_lt (ordering_reverse r)) it None) ≡ it
    one_side Less it apart = or_none it
    one_side Equal it apart = absurd (cc)
    one_side Greater it apart = refl

    here_added : (before same after : Bool) (it : Option X) → same ≡ true → before ≡ false → option_or (cond before it None) (cond same (Some row) (cond after it None)) ≡ cond same (Some row) it
    here_added before same after it is none = rw (is, none) refl

    elsewhere : (r : Ordering) (same after : Bool) (it : Option X) → same ≡ false → is_eq r ≡ false → after ≡ is_lt (ordering_reverse r) → option_or (cond (is_lt r) it None) (cond same (Some row) (cond after it None)) ≡ cond same (Some row) it
    elsewhere r same after it differs apart is = rw (differs, is) (one_side r it apart)

    added : (pointwise nat_eq (key_of row) key ≡ true) ⊎ (pointwise nat_eq (key_of row) key ≡ false) → row_of key_of (with_row key_of rows row) key ≡ cond (pointwise nat_eq (key_of row) key) (Some row) sought
    added (inl is) =
        found
        ∙ here_added (comes_before key (key_of row)) (pointwise nat_eq (key_of row) key) (comes_before (key_of row) key) sought is (not_less (slice_cmp nat_cmp key (key_of row)) (ties ∙ is))
    added (inr differs) =
        found
        ∙ elsewhere (slice_cmp nat_cmp key (key_of row)) (pointwise nat_eq (key_of row) key) (comes_before (key_of row) key) sought differs (ties ∙ differs) (ap is_lt (nat_list_cmp_total.antisymm (key_of row) key))

    pub added_found : row_of key_of (with_row key_of rows row) key ≡ cond (pointwise nat_eq (key_of row) key) (Some row) sought
    added_found = added (cases_Bool (pointwise nat_eq (key_of row) key))

  -- ---- other rows than before
  -- an added row, none of whose key was there
  pub added_apart : (rows : List X) (row : X) → row_of key_of rows (key_of row) ≡ None → with_row key_of rows row ≢ rows
  added_apart rows row none same =
      let is = added_found rows row (key_of row) ∙ ap (λ (b : Bool). cond b (Some row) (row_of key_of rows (key_of row))) (nat_list_eq_equiv.refl (key_of row)) in
      none_some (sym none ∙ ap (λ (all : List X). row_of key_of all (key_of row)) (sym same) ∙ is)

  -- a row that was there and is taken out
  pub removed_apart : (rows : List X) (key : List ℕ) (row : X) → row_of key_of rows key ≡ Some row → without_row key_of rows key ≢ rows
  removed_apart rows key row found same =
      let is = removed_found rows key key ∙ ap (λ (b : Bool). cond (not b) (row_of key_of rows key) None) (nat_list_eq_equiv.refl key) in
      none_some (sym is ∙ ap (λ (all : List X). row_of key_of all key) same ∙ found)

  -- a row that was there and is another one
  pub changed_apart : (change : X → X) → ((row : X) → key_of (change row) ≡ key_of row) → (rows : List X) (key : List ℕ) (row : X) → row_of key_of rows key ≡ Some row → change row ≢ row → with_change key_of change rows key ≢ rows
  changed_apart change keeps rows key row found differ same =
      let is =
      changed_found change keeps key key rows
      ∙ ap (λ (b : Bool). cond b (option_map change (row_of key_of rows key)) (row_of key_of rows key)) (nat_list_eq_equiv.refl key)
      ∙ ap (option_map change) found in
      differ (some_same (sym is ∙ ap (λ (all : List X). row_of key_of all key) same ∙ found))
