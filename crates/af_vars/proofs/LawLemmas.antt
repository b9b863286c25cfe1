-- What is read of variables after one was added, changed or removed.
use Rattle.std.proofs.Common.{◌≡◌, refl, sym, ◌∙◌, ap, ℕ, List, [], ◌∷◌, Bool, true, false, cond, nat_eq, ◌⊎◌, inl, inr, Ordering}
use Rattle.std.specs.Prelude.{Option, Some, None, option_map, find, filter}
use Rattle.std.specs.Option.{option_or}
use Rattle.std.specs.Ordering.{nat_cmp, is_lt, is_eq, ordering_reverse}
use Rattle.std.specs.declared.cmp.Ordering.TheVariants.{Less, Equal, Greater}
use Rattle.std.specs.Cmp.Lexicographic.{pointwise, slice_cmp, nat_list_eq_equiv, nat_list_cmp_total, texts_ties, same_text}
use Rattle.std.proofs.lemmas.Bool.{cases_Bool}
use Rattle.std.proofs.lemmas.List.Folds.{find-append}
use Rattle.af_base.specs.Ordered.{comes_before, has_key}
use Rattle.af_vars.specs.declared.variable.Variable.{Variable}
use Rattle.af_vars.specs.Variables.{key_of, value_of, variable_of, with_variable, with_value, without_variable}
use Rattle.af_vars.specs.Laws.{TheAddedIsRead, TheLastTextIsRead, TheRemovedIsGone}

abbrev text_of : Option Variable → Option (List ℕ)
text_of found = option_map (λ variable. variable.value) found

neither : (b : Bool) → cond b (text_of None) (text_of None) ≡ text_of None
neither true = refl
neither false = refl

-- the first row is the one that is changed: it is the one sought exactly where the keys are one
here_changed : (same : Bool) (value : List ℕ) (one : Variable) (after before : Option Variable) → text_of after ≡ cond same (option_map (λ _. value) (text_of before)) (text_of before) → text_of (cond same (Some (record one { value = value })) after) ≡ cond same (option_map (λ _. value) (text_of (cond same (Some one) before))) (text_of (cond same (Some one) before))
here_changed true value one after before later = refl
here_changed false value one after before later = later

-- the first row stays: where it is the one sought the keys are not one
here_kept : (found same : Bool) (value : List ℕ) (one : Variable) (after before : Option Variable) → (found ≡ true → same ≡ false) → text_of after ≡ cond same (option_map (λ _. value) (text_of before)) (text_of before) → text_of (cond found (Some one) after) ≡ cond same (option_map (λ _. value) (text_of (cond found (Some one) before))) (text_of (cond found (Some one) before))
here_kept true same value one after before apart later = rw (apart refl) refl
here_kept false same value one after before apart later = later

-- a row of another key than the one that is changed is not sought where that one is
apart_from : (own key other : List ℕ) → pointwise nat_eq own key ≡ false → pointwise nat_eq own other ≡ true → pointwise nat_eq key other ≡ false
apart_from own key other differs is =
    nat_list_eq_equiv.symm key other ∙ sym (nat_list_eq_equiv.congr own other key is) ∙ differs

pub last_text_is_read : TheLastTextIsRead
last_text_is_read [] key value other = sym (neither (pointwise nat_eq key other))
last_text_is_read (one ∷ variables) key value other = by_key (cases_Bool (pointwise nat_eq one.key key)) (last_text_is_read variables key value other)
  where
    changed : List Variable → List Variable
    changed rows = with_value rows key value

    by_key : (pointwise nat_eq one.key key ≡ true) ⊎ (pointwise nat_eq one.key key ≡ false) → value_of (changed variables) other ≡ cond (pointwise nat_eq key other) (option_map (λ _. value) (value_of variables other)) (value_of variables other) → value_of (changed (one ∷ variables)) other ≡ cond (pointwise nat_eq key other) (option_map (λ _. value) (value_of (one ∷ variables) other)) (value_of (one ∷ variables) other)
    by_key (inl is) later =
        rw (is, nat_list_eq_equiv.congr one.key key other is) (here_changed (pointwise nat_eq key other) value one (variable_of (changed variables) other) (variable_of variables other) later)
    by_key (inr differs) later =
        rw differs (here_kept (pointwise nat_eq one.key other) (pointwise nat_eq key other) value one (variable_of (changed variables) other) (variable_of variables other) (apart_from one.key key other differs) later)

-- the first row goes
here_gone : (same : Bool) (one : Variable) (after before : Option Variable) → text_of after ≡ cond same None (text_of before) → text_of after ≡ cond same None (text_of (cond same (Some one) before))
here_gone true one after before later = later
here_gone false one after before later = later

-- the first row stays
here_left : (found same : Bool) (one : Variable) (after before : Option Variable) → (found ≡ true → same ≡ false) → text_of after ≡ cond same None (text_of before) → text_of (cond found (Some one) after) ≡ cond same None (text_of (cond found (Some one) before))
here_left true same one after before apart later = rw (apart refl) refl
here_left false same one after before apart later = later

pub removed_is_gone : TheRemovedIsGone
removed_is_gone [] key other = sym (neither (pointwise nat_eq key other))
removed_is_gone (one ∷ variables) key other = by_key (cases_Bool (pointwise nat_eq one.key key)) (removed_is_gone variables key other)
  where
    by_key : (pointwise nat_eq one.key key ≡ true) ⊎ (pointwise nat_eq one.key key ≡ false) → value_of (without_variable variables key) other ≡ cond (pointwise nat_eq key other) None (value_of variables other) → value_of (without_variable (one ∷ variables) key) other ≡ cond (pointwise nat_eq key other) None (value_of (one ∷ variables) other)
    by_key (inl is) later =
        rw (is, nat_list_eq_equiv.congr one.key key other is) (here_gone (pointwise nat_eq key other) one (variable_of (without_variable variables key) other) (variable_of variables other) later)
    by_key (inr differs) later =
        rw differs (here_left (pointwise nat_eq one.key other) (pointwise nat_eq key other) one (variable_of (without_variable variables key) other) (variable_of variables other) (apart_from one.key key other differs) later)

-- ---- one more variable
never : (passes : Bool) → (passes ≡ true → false ≡ true) → passes ≡ false
never false follows = refl
never true follows = sym (follows refl)

ever_not : (passes : Bool) → (passes ≡ true → true ≡ false) → passes ≡ false
ever_not false follows = refl
ever_not true follows = follows refl

-- a filter by what a test cannot tell apart keeps or loses what the test finds
module _ {X : Type 0} (test : X → Bool) where
  filter_step : (x : X) (kept xs : List X) (b passes : Bool) → (test x ≡ true → passes ≡ b) → find test kept ≡ cond b (find test xs) None → find test (cond passes (x ∷ kept) kept) ≡ cond b (find test (x ∷ xs)) None
  filter_step x kept xs true true agrees later = ap (λ (o : Option X). cond (test x) (Some x) o) later
  filter_step x kept xs true false agrees later = rw (never (test x) agrees) later
  filter_step x kept xs false true agrees later = rw (ever_not (test x) agrees) later
  filter_step x kept xs false false agrees later = later

  find-filter : (p : X → Bool) (b : Bool) → ((x : X) → test x ≡ true → p x ≡ b) → (xs : List X) → find test (filter p xs) ≡ cond b (find test xs) None
  find-filter p true agrees [] = refl
  find-filter p false agrees [] = refl
  find-filter p b agrees (x ∷ xs) = filter_step x (filter p xs) xs b (p x) (agrees x) (find-filter p b agrees xs)

or_none : {X : Type 0} (found : Option X) → option_or found None ≡ found
or_none None = refl
or_none (Some x) = refl

not_less : (r : Ordering) → is_eq r ≡ true → is_lt r ≡ false
not_less Less is = sym is
not_less Equal is = refl
not_less Greater is = refl

one_side : {X : Type 0} (r : Ordering) (found : Option X) → is_eq r ≡ false → option_or (cond (is_lt r) found None) (cond (is_lt (ordering_reverse r)) found None) ≡ found
one_side Less found apart = or_none found
one_side Equal found apart = absurd (cc)
one_side Greater found apart = refl

here_added : (before same after : Bool) (variable : Variable) (found : Option Variable) → same ≡ true → before ≡ false → text_of (option_or (cond before found None) (cond same (Some variable) (cond after found None))) ≡ cond same (Some variable.value) (text_of found)
here_added before same after variable found is none = rw (is, none) refl

elsewhere : (r : Ordering) (same after : Bool) (variable : Variable) (found : Option Variable) → same ≡ false → is_eq r ≡ false → after ≡ is_lt (ordering_reverse r) → text_of (option_or (cond (is_lt r) found None) (cond same (Some variable) (cond after found None))) ≡ cond same (Some variable.value) (text_of found)
elsewhere r same after variable found differs apart is = rw (differs, is) (ap (λ (o : Option Variable). text_of o) (one_side r found apart))

module _ (variables : List Variable) (variable : Variable) (key : List ℕ) where
  found_before : variable_of (filter (λ (other : Variable). comes_before other.key variable.key) variables) key ≡ cond (comes_before key variable.key) (variable_of variables key) None
  found_before =
      find-filter (has_key key_of key) (λ (other : Variable). comes_before other.key variable.key) (comes_before key variable.key)
      (λ other is. ap (λ (text : List ℕ). comes_before text variable.key) (same_text other.key key (sym is))) variables

  found_after : variable_of (filter (λ (other : Variable). comes_before variable.key other.key) variables) key ≡ cond (comes_before variable.key key) (variable_of variables key) None
  found_after =
      find-filter (has_key key_of key) (λ (other : Variable). comes_before variable.key other.key) (comes_before variable.key key)
      (λ other is. ap (λ (text : List ℕ). comes_before variable.key text) (same_text other.key key (sym is))) variables

  found : variable_of (with_variable variables variable) key ≡ option_or (cond (comes_before key variable.key) (variable_of variables key) None) (cond (pointwise nat_eq variable.key key) (Some variable) (cond (comes_before variable.key key) (variable_of variables key) None))
  found =
      find-append (has_key key_of key) (filter (λ (other : Variable). comes_before other.key variable.key) variables) (variable ∷ filter (λ (other : Variable). comes_before variable.key other.key) variables)
      ∙ (λ i. option_or (found_before i) (cond (pointwise nat_eq variable.key key) (Some variable) (found_after i)))

  -- how the keys compare
  ties : is_eq (slice_cmp nat_cmp key variable.key) ≡ pointwise nat_eq variable.key key
  ties = sym (texts_ties key variable.key) ∙ nat_list_eq_equiv.symm key variable.key

  added : (pointwise nat_eq variable.key key ≡ true) ⊎ (pointwise nat_eq variable.key key ≡ false) → value_of (with_variable variables variable) key ≡ cond (pointwise nat_eq variable.key key) (Some variable.value) (value_of variables key)
  added (inl is) =
      ap (λ (o : Option Variable). text_of o) found
      ∙ here_added (comes_before key variable.key) (pointwise nat_eq variable.key key) (comes_before variable.key key) variable (variable_of variables key) is (not_less (slice_cmp nat_cmp key variable.key) (ties ∙ is))
  added (inr differs) =
      ap (λ (o : Option Variable). text_of o) found
      ∙ elsewhere (slice_cmp nat_cmp key variable.key) (pointwise nat_eq variable.key key) (comes_before variable.key key) variable (variable_of variables key) differs (ties ∙ differs) (ap is_lt (nat_list_cmp_total.antisymm variable.key key))

pub added_is_read : TheAddedIsRead
added_is_read variables variable key = added variables variable key (cases_Bool (pointwise nat_eq variable.key key))
