-- What stands on the left and on the right of a row among rows that ascend.
use Rattle.std.proofs.Common.{◌≡◌, ℕ, suc, ◌+◌, List, [], ◌∷◌, ◌++◌, length, Bool, true, false, not, cond, Option, Some, None, is_some, refl, sym, ap, subst, ◌∙◌, map, arith}
use Rattle.std.specs.List.{filter, AllByRecursion}
use Rattle.std.specs.List.Sorted.{IsStrictlySortedBy}
use Rattle.std.specs.Option.{option_or}
use Rattle.std.specs.Ordering.{nat_cmp, is_eq, ordering_reverse, match_ordering}
use Rattle.std.specs.declared.cmp.Ordering.{Ordering}
use Rattle.std.specs.declared.cmp.Ordering.TheVariants.{Less, Equal, Greater}
use Rattle.std.specs.Cmp.Lexicographic.{slice_cmp, texts_ties}
use Rattle.std.proofs.lemmas.Cmp.{nat_list_cmp_total}
use Rattle.std.proofs.lemmas.List.{append_assoc}
use Rattle.std.proofs.lemmas.List.Folds.{find-append}
use Rattle.std.proofs.lemmas.List.Elements.{filter-append}
use Rattle.std.proofs.lemmas.Map.Lookups.{exact_bytes}
use Rattle.af_policy.specs.SharedRows.{Ascend, found, same_key, with_row, without}

-- ---- the order of texts

order : List ℕ → List ℕ → Ordering
order = slice_cmp nat_cmp

greater_from_less : (x y : List ℕ) → slice_cmp nat_cmp x y ≡ Less → slice_cmp nat_cmp y x ≡ Greater
greater_from_less x y e = nat_list_cmp_total.antisymm y x ∙ ap ordering_reverse e

less_from_greater : (x y : List ℕ) → slice_cmp nat_cmp x y ≡ Greater → slice_cmp nat_cmp y x ≡ Less
less_from_greater x y e = nat_list_cmp_total.antisymm y x ∙ ap ordering_reverse e

-- ---- facts of each element

all_imp : {X : Type 0} {P Q : X → Type 0} → ((x : X) → P x → Q x) → (xs : List X) → AllByRecursion P xs → AllByRecursion Q xs
all_imp f [] all = tt
all_imp f (x ∷ xs) all = (f x all.0, all_imp f xs all.1)

all_from_map : {X Y : Type 0} (P : Y → Type 0) (f : X → Y) (xs : List X) → AllByRecursion P (map f xs) → AllByRecursion (λ x. P (f x)) xs
all_from_map P f [] all = tt
all_from_map P f (x ∷ xs) all = (all.0, all_from_map P f xs all.1)

all_map : {X Y : Type 0} (P : Y → Type 0) (f : X → Y) (xs : List X) → AllByRecursion (λ x. P (f x)) xs → AllByRecursion P (map f xs)
all_map P f [] all = tt
all_map P f (x ∷ xs) all = (all.0, all_map P f xs all.1)

all_left : {X : Type 0} (P : X → Type 0) (xs ys : List X) → AllByRecursion P (xs ++ ys) → AllByRecursion P xs
all_left P [] ys all = tt
all_left P (x ∷ xs) ys all = (all.0, all_left P xs ys all.1)

all_right : {X : Type 0} (P : X → Type 0) (xs ys : List X) → AllByRecursion P (xs ++ ys) → AllByRecursion P ys
all_right P [] ys all = all
all_right P (x ∷ xs) ys all = all_right P xs ys all.1

all_append : {X : Type 0} (P : X → Type 0) (xs ys : List X) → AllByRecursion P xs → AllByRecursion P ys → AllByRecursion P (xs ++ ys)
all_append P [] ys all more = more
all_append P (x ∷ xs) ys all more = (all.0, all_append P xs ys all.1 more)

all_filter : {X : Type 0} (P : X → Type 0) (p : X → Bool) (xs : List X) → AllByRecursion P xs → AllByRecursion P (filter p xs)
all_filter P p [] all = tt
all_filter P p (x ∷ xs) all = step (p x) (all_filter P p xs all.1)
  where
    step : (b : Bool) → AllByRecursion P (filter p xs) → AllByRecursion P (cond b (x ∷ filter p xs) (filter p xs))
    step true later = (all.0, later)
    step false later = later

pub append_nil : {X : Type 0} (xs : List X) → xs ++ [] ≡ xs
append_nil [] = refl
append_nil (x ∷ xs) = ap (λ ys. x ∷ ys) (append_nil xs)

option_or-None : {X : Type 0} (o : Option X) → option_or o None ≡ o
option_or-None None = refl
option_or-None (Some x) = refl

pub none_from : {X : Type 0} (o : Option X) → is_some o ≡ false → o ≡ None
none_from None e = refl
none_from (Some x) e = cc

module _ {T : Type 0} (key : T → List ℕ) where
  -- ---- a row among rows that ascend

  pub record Stands (l : List T) (x : T) (r : List T) : Type 0 where
    pub left : Ascend key l
    pub below : AllByRecursion (λ y. slice_cmp nat_cmp (key y) (key x) ≡ Less) l
    pub above : AllByRecursion (λ y. slice_cmp nat_cmp (key x) (key y) ≡ Less) r
    pub right : Ascend key r

  pub stands : (l : List T) (x : T) (r : List T) → Ascend key (l ++ x ∷ r) → Stands l x r
  unfolding IsStrictlySortedBy
  stands [] x r s = record { left = tt; below = tt; above = all_from_map (λ k. slice_cmp nat_cmp (key x) k ≡ Less) key r s.0; right = s.1 }
  stands (y ∷ l) x r s =
      let later = stands l x r s.1
      in let all = all_from_map (λ k. slice_cmp nat_cmp (key y) k ≡ Less) key (l ++ x ∷ r) s.0
      in let rest = all_right (λ z. slice_cmp nat_cmp (key y) (key z) ≡ Less) l (x ∷ r) all
      in record {
        left = (all_map (λ k. slice_cmp nat_cmp (key y) k ≡ Less) key l (all_left (λ z. slice_cmp nat_cmp (key y) (key z) ≡ Less) l (x ∷ r) all), later.left);
        below = (rest.0, later.below);
        above = later.above;
        right = later.right;
      }

  pub ascend_front : (l r : List T) → Ascend key (l ++ r) → Ascend key l
  unfolding IsStrictlySortedBy
  ascend_front [] r s = tt
  ascend_front (y ∷ l) r s =
      let all = all_from_map (λ k. slice_cmp nat_cmp (key y) k ≡ Less) key (l ++ r) s.0
      in (all_map (λ k. slice_cmp nat_cmp (key y) k ≡ Less) key l (all_left (λ z. slice_cmp nat_cmp (key y) (key z) ≡ Less) l r all), ascend_front l r s.1)

  pub ascend_back : (l r : List T) → Ascend key (l ++ r) → Ascend key r
  unfolding IsStrictlySortedBy
  ascend_back [] r s = s
  ascend_back (y ∷ l) r s = ascend_back l r s.1

  -- no row has the key
  abbrev NoneHas : List ℕ → List T → Type 0
  NoneHas k rows = AllByRecursion (λ y. same_key k (key y) ≡ false) rows

  none_from_less : (k : List ℕ) (rows : List T) → AllByRecursion (λ y. slice_cmp nat_cmp k (key y) ≡ Less) rows → NoneHas k rows
  none_from_less k rows all = all_imp (λ y e. texts_ties k (key y) ∙ ap is_eq e) rows all

  none_from_greater : (k : List ℕ) (rows : List T) → AllByRecursion (λ y. slice_cmp nat_cmp (key y) k ≡ Less) rows → NoneHas k rows
  none_from_greater k rows all = all_imp (λ y e. texts_ties k (key y) ∙ ap is_eq (greater_from_less (key y) k e)) rows all

  find_none : (k : List ℕ) (rows : List T) → NoneHas k rows → found key rows k ≡ None
  find_none k [] none = refl
  find_none k (y ∷ rows) none = ap (λ b. cond b (Some y) (found key rows k)) none.0 ∙ find_none k rows none.1

  keeps_all : (k : List ℕ) (rows : List T) → NoneHas k rows → without key rows k ≡ rows
  keeps_all k [] none = refl
  keeps_all k (y ∷ rows) none = ap (λ b. cond (not b) (y ∷ without key rows k) (without key rows k)) none.0 ∙ ap (λ ys. y ∷ ys) (keeps_all k rows none.1)

  module _ (l : List T) (x : T) (r : List T) (s : Stands l x r) (k : List ℕ) where
    none_on_right : slice_cmp nat_cmp k (key x) ≡ Less → NoneHas k (x ∷ r)
    none_on_right e = none_from_less k (x ∷ r) (e, all_imp (λ y f. nat_list_cmp_total.trans k (key x) (key y) e f) r s.above)

    none_on_left : slice_cmp nat_cmp k (key x) ≡ Greater → NoneHas k l
    none_on_left e = none_from_greater k l (all_imp (λ y f. nat_list_cmp_total.trans (key y) (key x) k f (less_from_greater k (key x) e)) l s.below)

    none_before : slice_cmp nat_cmp k (key x) ≡ Equal → NoneHas k l
    none_before e = subst (λ n. NoneHas n l) (sym (exact_bytes k (key x) e)) (none_from_greater (key x) l s.below)

    none_behind : slice_cmp nat_cmp k (key x) ≡ Equal → NoneHas k r
    none_behind e = subst (λ n. NoneHas n r) (sym (exact_bytes k (key x) e)) (none_from_less (key x) r s.above)

    is_other : slice_cmp nat_cmp k (key x) ≡ Greater → same_key k (key x) ≡ false
    is_other e = texts_ties k (key x) ∙ ap is_eq e

    is_same : slice_cmp nat_cmp k (key x) ≡ Equal → same_key k (key x) ≡ true
    is_same e = texts_ties k (key x) ∙ ap is_eq e

    -- ---- the row of a key

    pub found_left : slice_cmp nat_cmp k (key x) ≡ Less → found key l k ≡ found key (l ++ x ∷ r) k
    found_left e = sym (find-append (λ row. same_key k (key row)) l (x ∷ r) ∙ ap (option_or (found key l k)) (find_none k (x ∷ r) (none_on_right e)) ∙ option_or-None (found key l k))

    pub found_here : slice_cmp nat_cmp k (key x) ≡ Equal → Some x ≡ found key (l ++ x ∷ r) k
    found_here e = sym (find-append (λ row. same_key k (key row)) l (x ∷ r) ∙ ap (λ o. option_or o (found key (x ∷ r) k)) (find_none k l (none_before e)) ∙ ap (λ b. cond b (Some x) (found key r k)) (is_same e))

    pub found_right : slice_cmp nat_cmp k (key x) ≡ Greater → found key r k ≡ found key (l ++ x ∷ r) k
    found_right e = sym (find-append (λ row. same_key k (key row)) l (x ∷ r) ∙ ap (λ o. option_or o (found key (x ∷ r) k)) (find_none k l (none_on_left e)) ∙ ap (λ b. cond b (Some x) (found key r k)) (is_other e))

    -- ---- the rows but for that of a key

    pub without_left : slice_cmp nat_cmp k (key x) ≡ Less → without key l k ++ x ∷ r ≡ without key (l ++ x ∷ r) k
    without_left e = sym (filter-append (λ row. not (same_key k (key row))) l (x ∷ r) ∙ ap (λ ys. without key l k ++ ys) (keeps_all k (x ∷ r) (none_on_right e)))

    pub without_here : slice_cmp nat_cmp k (key x) ≡ Equal → l ++ r ≡ without key (l ++ x ∷ r) k
    without_here e = sym (filter-append (λ row. not (same_key k (key row))) l (x ∷ r)
        ∙ (λ i. keeps_all k l (none_before e) i ++ cond (not (is_same e i)) (x ∷ without key r k) (without key r k))
        ∙ ap (λ ys. l ++ ys) (keeps_all k r (none_behind e)))

    pub without_right : slice_cmp nat_cmp k (key x) ≡ Greater → l ++ x ∷ without key r k ≡ without key (l ++ x ∷ r) k
    without_right e = sym (filter-append (λ row. not (same_key k (key row))) l (x ∷ r)
        ∙ (λ i. keeps_all k l (none_on_left e) i ++ cond (not (is_other e i)) (x ∷ without key r k) (without key r k)))

  -- rows that are cut at one of them
  module _ (rows low high : List T) (x : T) (above : List T) (is : rows ≡ low ++ high) (has : high ≡ x ∷ above) (s : Ascend key rows) where
    whole : rows ≡ low ++ x ∷ above
    whole = is ∙ ap (λ rs. low ++ rs) has

    cut : Stands low x above
    cut = stands low x above (subst (Ascend key) whole s)

    pub ascend_low : Ascend key low
    ascend_low = cut.left

    pub ascend_above : Ascend key above
    ascend_above = cut.right

    module _ (k : List ℕ) where
      pub found_low : slice_cmp nat_cmp k (key x) ≡ Less → found key low k ≡ found key rows k
      found_low e = found_left low x above cut k e ∙ ap (λ rs. found key rs k) (sym whole)

      pub found_at_cut : slice_cmp nat_cmp k (key x) ≡ Equal → Some x ≡ found key rows k
      found_at_cut e = found_here low x above cut k e ∙ ap (λ rs. found key rs k) (sym whole)

      pub found_above : slice_cmp nat_cmp k (key x) ≡ Greater → found key above k ≡ found key rows k
      found_above e = found_right low x above cut k e ∙ ap (λ rs. found key rs k) (sym whole)

  -- ---- one more row

  pub with_left : (row : T) (l : List T) (x : T) (r : List T) → slice_cmp nat_cmp (key row) (key x) ≡ Less → with_row key l row ++ x ∷ r ≡ with_row key (l ++ x ∷ r) row
  with_left row [] x r e = sym (ap (λ o. match_ordering o (row ∷ x ∷ r) (row ∷ r) (x ∷ with_row key r row)) e)
  with_left row (y ∷ l) x r e = step (slice_cmp nat_cmp (key row) (key y)) (with_left row l x r e)
    where
      step : (o : Ordering) → with_row key l row ++ x ∷ r ≡ with_row key (l ++ x ∷ r) row → match_ordering o (row ∷ y ∷ l) (row ∷ l) (y ∷ with_row key l row) ++ x ∷ r ≡ match_ordering o (row ∷ y ∷ l ++ x ∷ r) (row ∷ l ++ x ∷ r) (y ∷ with_row key (l ++ x ∷ r) row)
      step Less later = refl
      step Equal later = refl
      step Greater later = ap (λ ys. y ∷ ys) later

  -- rows that all stand before it stay in front
  pub with_past : (row : T) (l rest : List T) → AllByRecursion (λ y. slice_cmp nat_cmp (key y) (key row) ≡ Less) l → l ++ with_row key rest row ≡ with_row key (l ++ rest) row
  with_past row [] rest all = refl
  with_past row (y ∷ l) rest all = sym (ap (λ o. match_ordering o (row ∷ y ∷ l ++ rest) (row ∷ l ++ rest) (y ∷ with_row key (l ++ rest) row)) (greater_from_less (key y) (key row) all.0) ∙ ap (λ ys. y ∷ ys) (sym (with_past row l rest all.1)))

  -- rows that all stand behind it stay behind
  pub with_within : (row : T) (l rest : List T) → AllByRecursion (λ y. slice_cmp nat_cmp (key row) (key y) ≡ Less) rest → with_row key l row ++ rest ≡ with_row key (l ++ rest) row
  with_within row [] [] all = refl
  with_within row [] (x ∷ rest) all = sym (ap (λ o. match_ordering o (row ∷ x ∷ rest) (row ∷ rest) (x ∷ with_row key rest row)) all.0)
  with_within row (y ∷ l) rest all = step (slice_cmp nat_cmp (key row) (key y)) (with_within row l rest all)
    where
      step : (o : Ordering) → with_row key l row ++ rest ≡ with_row key (l ++ rest) row → match_ordering o (row ∷ y ∷ l) (row ∷ l) (y ∷ with_row key l row) ++ rest ≡ match_ordering o (row ∷ y ∷ l ++ rest) (row ∷ l ++ rest) (y ∷ with_row key (l ++ rest) row)
      step Less later = refl
      step Equal later = refl
      step Greater later = ap (λ ys. y ∷ ys) later

  pub without_same : (k : List ℕ) (rows : List T) (x : T) (xs : List T) → rows ≡ x ∷ xs → true ≡ same_key k (key x) → without key xs k ≡ without key rows k
  without_same k rows x xs is e = ap (λ b. cond (not b) (x ∷ without key xs k) (without key xs k)) e ∙ ap (λ rs. without key rs k) (sym is)

  pub without_other : (k : List ℕ) (rows : List T) (x : T) (xs : List T) → rows ≡ x ∷ xs → false ≡ same_key k (key x) → x ∷ without key xs k ≡ without key rows k
  without_other k rows x xs is e = ap (λ b. cond (not b) (x ∷ without key xs k) (without key xs k)) e ∙ ap (λ rs. without key rs k) (sym is)

  pub without_past : (k : List ℕ) (l rest : List T) → AllByRecursion (λ y. slice_cmp nat_cmp (key y) k ≡ Less) l → l ++ without key rest k ≡ without key (l ++ rest) k
  without_past k l rest all = sym (filter-append (λ row. not (same_key k (key row))) l rest ∙ ap (λ ys. ys ++ without key rest k) (keeps_all k l (none_from_greater k l all)))

  pub without_within : (k : List ℕ) (l rest : List T) → AllByRecursion (λ y. slice_cmp nat_cmp k (key y) ≡ Less) rest → without key l k ++ rest ≡ without key (l ++ rest) k
  without_within k l rest all = sym (filter-append (λ row. not (same_key k (key row))) l rest ∙ ap (λ ys. without key l k ++ ys) (keeps_all k rest (none_from_less k rest all)))

  -- a key above the last of some rows is above all of them; else it is below all that follow
  pub all_past : (k : List ℕ) (rows l : List T) (x : T) → rows ≡ l ++ x ∷ [] → Ascend key rows → slice_cmp nat_cmp k (key x) ≡ Greater → AllByRecursion (λ y. slice_cmp nat_cmp (key y) k ≡ Less) rows
  all_past k rows l x is s e =
      let at = stands l x [] (subst (Ascend key) is s)
      in subst (λ rs. AllByRecursion (λ y. slice_cmp nat_cmp (key y) k ≡ Less) rs) (sym is)
      (all_append (λ y. slice_cmp nat_cmp (key y) k ≡ Less) l (x ∷ [])
      (all_imp (λ y f. nat_list_cmp_total.trans (key y) (key x) k f (less_from_greater k (key x) e)) l at.below)
      (less_from_greater k (key x) e, tt))

  module _ (k : List ℕ) (rows l : List T) (x : T) (rest : List T) (is : rows ≡ l ++ x ∷ []) (s : Ascend key (rows ++ rest)) where
    last : Stands l x rest
    last = stands l x rest (subst (Ascend key) (append_assoc l (x ∷ []) rest) (subst (λ rs. Ascend key (rs ++ rest)) is s))

    pub all_behind_less : slice_cmp nat_cmp k (key x) ≡ Less → AllByRecursion (λ y. slice_cmp nat_cmp k (key y) ≡ Less) rest
    all_behind_less e = all_imp (λ y f. nat_list_cmp_total.trans k (key x) (key y) e f) rest last.above

    pub all_behind_equal : slice_cmp nat_cmp k (key x) ≡ Equal → AllByRecursion (λ y. slice_cmp nat_cmp k (key y) ≡ Less) rest
    all_behind_equal e = subst (λ n. AllByRecursion (λ y. slice_cmp nat_cmp n (key y) ≡ Less) rest) (sym (exact_bytes k (key x) e)) last.above

  module _ (row : T) (l : List T) (x : T) (r : List T) (s : Stands l x r) where
    pub with_here : slice_cmp nat_cmp (key row) (key x) ≡ Equal → l ++ row ∷ r ≡ with_row key (l ++ x ∷ r) row
    with_here e =
        ap (λ ys. l ++ ys) (sym (ap (λ o. match_ordering o (row ∷ x ∷ r) (row ∷ r) (x ∷ with_row key r row)) e))
        ∙ with_past row l (x ∷ r) (subst (λ n. AllByRecursion (λ y. slice_cmp nat_cmp (key y) n ≡ Less) l) (sym (exact_bytes (key row) (key x) e)) s.below)

    pub with_right : slice_cmp nat_cmp (key row) (key x) ≡ Greater → l ++ x ∷ with_row key r row ≡ with_row key (l ++ x ∷ r) row
    with_right e =
        ap (λ ys. l ++ ys) (sym (ap (λ o. match_ordering o (row ∷ x ∷ r) (row ∷ r) (x ∷ with_row key r row)) e))
        ∙ with_past row l (x ∷ r) (all_imp (λ y f. nat_list_cmp_total.trans (key y) (key x) (key row) f (less_from_greater (key row) (key x) e)) l s.below)

  -- one more row, where rows are cut at one of them
  module _ (rows low high : List T) (x : T) (above : List T) (is : rows ≡ low ++ high) (has : high ≡ x ∷ above) (s : Ascend key rows) (row : T) where
    with_whole : with_row key (low ++ x ∷ above) row ≡ with_row key rows row
    with_whole = ap (λ rs. with_row key rs row) (sym (whole rows low high x above is has s))

    pub with_low : slice_cmp nat_cmp (key row) (key x) ≡ Less → with_row key low row ++ high ≡ with_row key rows row
    with_low e = ap (λ rs. with_row key low row ++ rs) has ∙ with_left row low x above e ∙ with_whole

    pub with_at_cut : slice_cmp nat_cmp (key row) (key x) ≡ Equal → low ++ row ∷ above ≡ with_row key rows row
    with_at_cut e = with_here row low x above (cut rows low high x above is has s) e ∙ with_whole

    pub with_above : slice_cmp nat_cmp (key row) (key x) ≡ Greater → low ++ x ∷ with_row key above row ≡ with_row key rows row
    with_above e = with_right row low x above (cut rows low high x above is has s) e ∙ with_whole

  -- a row that is there already changes nothing
  pub with_itself : (row : T) (rows : List T) → Ascend key rows → found key rows (key row) ≡ Some row → with_row key rows row ≡ rows
  with_itself row [] s is = cc
  with_itself row (x ∷ xs) s is = step (slice_cmp nat_cmp (key row) (key x)) refl (with_itself row xs at.right)
    where
      at : Stands [] x xs
      at = stands [] x xs s

      step : (o : Ordering) → slice_cmp nat_cmp (key row) (key x) ≡ o → (found key xs (key row) ≡ Some row → with_row key xs row ≡ xs) → match_ordering o (row ∷ x ∷ xs) (row ∷ xs) (x ∷ with_row key xs row) ≡ x ∷ xs
      step Less e later =
          let none : None ≡ Some row = sym (find_none (key row) (x ∷ xs) (none_on_right [] x xs at (key row) e)) ∙ is
          in cc
      step Equal e later =
          let same : Some x ≡ Some row = ap (λ b. cond b (Some x) (found key xs (key row))) (sym (is_same [] x xs at (key row) e)) ∙ is
          in let one : row ≡ x = cc
          in ap (λ y. y ∷ xs) one
      step Greater e later = ap (λ ys. x ∷ ys) (later (ap (λ b. cond b (Some x) (found key xs (key row))) (sym (is_other [] x xs at (key row) e)) ∙ is))

  -- ---- the order stays

  all_with : (P : List ℕ → Type 0) (row : T) (rows : List T) → P (key row) → AllByRecursion P (map key rows) → AllByRecursion P (map key (with_row key rows row))
  all_with P row [] p all = (p, tt)
  all_with P row (x ∷ xs) p all = step (slice_cmp nat_cmp (key row) (key x)) (all_with P row xs p all.1)
    where
      step : (o : Ordering) → AllByRecursion P (map key (with_row key xs row)) → AllByRecursion P (map key (match_ordering o (row ∷ x ∷ xs) (row ∷ xs) (x ∷ with_row key xs row)))
      step Less later = (p, all)
      step Equal later = (p, all.1)
      step Greater later = (all.0, later)

  pub ascend_with : (row : T) (rows : List T) → Ascend key rows → Ascend key (with_row key rows row)
  unfolding IsStrictlySortedBy
  ascend_with row [] s = (tt, tt)
  ascend_with row (x ∷ xs) s = step (slice_cmp nat_cmp (key row) (key x)) refl (ascend_with row xs s.1)
    where
      step : (o : Ordering) → slice_cmp nat_cmp (key row) (key x) ≡ o → Ascend key (with_row key xs row) → Ascend key (match_ordering o (row ∷ x ∷ xs) (row ∷ xs) (x ∷ with_row key xs row))
      step Less e later = ((e, all_imp (λ k f. nat_list_cmp_total.trans (key row) (key x) k e f) (map key xs) s.0), s)
      step Equal e later = (subst (λ n. AllByRecursion (λ k. slice_cmp nat_cmp n k ≡ Less) (map key xs)) (sym (exact_bytes (key row) (key x) e)) s.0, s.1)
      step Greater e later = (all_with (λ k. slice_cmp nat_cmp (key x) k ≡ Less) row xs (less_from_greater (key row) (key x) e) s.0, later)

  all_without : (P : List ℕ → Type 0) (k : List ℕ) (rows : List T) → AllByRecursion P (map key rows) → AllByRecursion P (map key (without key rows k))
  all_without P k [] all = tt
  all_without P k (x ∷ xs) all = step (same_key k (key x)) (all_without P k xs all.1)
    where
      step : (b : Bool) → AllByRecursion P (map key (without key xs k)) → AllByRecursion P (map key (cond (not b) (x ∷ without key xs k) (without key xs k)))
      step true later = later
      step false later = (all.0, later)

  pub ascend_without : (k : List ℕ) (rows : List T) → Ascend key rows → Ascend key (without key rows k)
  unfolding IsStrictlySortedBy
  ascend_without k [] s = tt
  ascend_without k (x ∷ xs) s = step (same_key k (key x)) (ascend_without k xs s.1)
    where
      step : (b : Bool) → Ascend key (without key xs k) → Ascend key (cond (not b) (x ∷ without key xs k) (without key xs k))
      step true later = later
      step false later = (all_without (λ n. slice_cmp nat_cmp (key x) n ≡ Less) k xs s.0, later)

  -- ---- how many rows

  length_with_suc : (row : T) (rows : List T) → Ascend key rows → length (with_row key rows row) ≡ cond (is_some (found key rows (key row))) (length rows) (suc (length rows))
  length_with_suc row [] s = refl
  length_with_suc row (x ∷ xs) s = step (slice_cmp nat_cmp (key row) (key x)) refl (length_with_suc row xs at.right)
    where
      at : Stands [] x xs
      at = stands [] x xs s

      more : (b : Bool) (n : ℕ) → suc (cond b n (suc n)) ≡ cond b (suc n) (suc (suc n))
      more true n = refl
      more false n = refl

      step : (o : Ordering) → slice_cmp nat_cmp (key row) (key x) ≡ o → length (with_row key xs row) ≡ cond (is_some (found key xs (key row))) (length xs) (suc (length xs)) → length (match_ordering o (row ∷ x ∷ xs) (row ∷ xs) (x ∷ with_row key xs row)) ≡ cond (is_some (found key (x ∷ xs) (key row))) (suc (length xs)) (suc (suc (length xs)))
      step Less e later = ap (λ o. cond (is_some o) (suc (length xs)) (suc (suc (length xs)))) (sym (find_none (key row) (x ∷ xs) (none_on_right [] x xs at (key row) e)))
      step Equal e later = ap (λ b. cond (is_some (cond b (Some x) (found key xs (key row)))) (suc (length xs)) (suc (suc (length xs)))) (sym (is_same [] x xs at (key row) e))
      step Greater e later =
          ap suc later ∙ more (is_some (found key xs (key row))) (length xs)
          ∙ ap (λ b. cond (is_some (cond b (Some x) (found key xs (key row)))) (suc (length xs)) (suc (suc (length xs)))) (sym (is_other [] x xs at (key row) e))

  pub length_with : (row : T) (rows : List T) → Ascend key rows → length (with_row key rows row) ≡ cond (is_some (found key rows (key row))) (length rows) (length rows + 1)
  length_with row rows s =
      let one : suc (length rows) ≡ length rows + 1 = omega arith
      in length_with_suc row rows s ∙ ap (cond (is_some (found key rows (key row))) (length rows)) one

  pub none_without : (k : List ℕ) (rows : List T) → found key rows k ≡ None → without key rows k ≡ rows
  none_without k [] e = refl
  none_without k (x ∷ xs) e = step (same_key k (key x)) (none_without k xs) e
    where
      step : (b : Bool) → (found key xs k ≡ None → without key xs k ≡ xs) → cond b (Some x) (found key xs k) ≡ None → cond (not b) (x ∷ without key xs k) (without key xs k) ≡ x ∷ xs
      step true later e = cc
      step false later e = ap (λ ys. x ∷ ys) (later e)

  pub length_without : (k : List ℕ) (rows : List T) → Ascend key rows → is_some (found key rows k) ≡ true → suc (length (without key rows k)) ≡ length rows
  length_without k [] s e = cc
  length_without k (x ∷ xs) s e = step (slice_cmp nat_cmp k (key x)) refl (length_without k xs at.right)
    where
      at : Stands [] x xs
      at = stands [] x xs s

      step : (o : Ordering) → slice_cmp nat_cmp k (key x) ≡ o → (is_some (found key xs k) ≡ true → suc (length (without key xs k)) ≡ length xs) → suc (length (without key (x ∷ xs) k)) ≡ suc (length xs)
      step Less f later =
          let none : is_some (found key (x ∷ xs) k) ≡ false = ap is_some (find_none k (x ∷ xs) (none_on_right [] x xs at k f))
          in cc
      step Equal f later = ap (λ b. suc (length (cond (not b) (x ∷ without key xs k) (without key xs k)))) (is_same [] x xs at k f) ∙ ap (λ ys. suc (length ys)) (keeps_all k xs (none_behind [] x xs at k f))
      step Greater f later =
          ap (λ b. suc (length (cond (not b) (x ∷ without key xs k) (without key xs k)))) (is_other [] x xs at k f)
          ∙ ap suc (later (sym (ap (λ b. is_some (cond b (Some x) (found key xs k))) (is_other [] x xs at k f)) ∙ e))

  pub ascend_nil : Ascend key []
  unfolding IsStrictlySortedBy
  ascend_nil = tt
