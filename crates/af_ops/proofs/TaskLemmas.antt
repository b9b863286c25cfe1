-- Tasks and instances, place by place.
use Rattle.std.proofs.Common.{◌≡◌, ◌≤◌, ◌<◌, ◌+◌, ◌∙◌, ℕ, zero, suc, List, [], ◌∷◌, ◌++◌, length, get_or, take, map, refl, sym, ap, ap₂, subst, arith}
use Rattle.std.specs.Prelude.{zip}
use Rattle.std.specs.List.{enumerate_from}
use Rattle.std.proofs.lemmas.List.{get_or_past}
use Rattle.af_graph.specs.Graph.{downstream_of, downstream_rows}
use Rattle.af_graph.specs.declared.task_spec.TaskSpec.{TaskSpec}
use Rattle.af_graph.proofs.RowLemmas.{length-downstream_rows}

-- a place that no task has is upstream of nothing
pub no_row : (tasks seen : List TaskSpec) (place : ℕ) → seen ≡ tasks → length seen ≤ place → [] ≡ downstream_of tasks place
no_row tasks seen place is past =
    let rows : length (downstream_rows tasks) ≡ length seen = length-downstream_rows tasks ∙ ap length (sym is) in
    sym (get_or_past (downstream_rows tasks) place [] (omega (arith, past, rows)))

-- what stands at a place that is there, whatever is said of those that are not
pub same_at : {X : Type 0} (xs : List X) (k : ℕ) (d e : X) → k < length xs → get_or xs k d ≡ get_or xs k e
same_at [] k d e within = absurd (omega (arith, within))
same_at (x ∷ xs) zero d e within = refl
same_at (x ∷ xs) (suc k) d e within = same_at xs k d e (omega (arith, within))

-- ---- two lists, side by side
module _ {A B C : Type 0} (f : A × B → C) where
  zipped_suc : (xs : List A) (ys : List B) (k : ℕ) (a : A) (b : B) → k < length xs → k < length ys
      → map f (zip (take (suc k) xs) (take (suc k) ys)) ≡ map f (zip (take k xs) (take k ys)) ++ f (get_or xs k a, get_or ys k b) ∷ []
  zipped_suc [] ys k a b one other = absurd (omega (arith, one))
  zipped_suc (x ∷ xs) [] k a b one other = absurd (omega (arith, other))
  zipped_suc (x ∷ xs) (y ∷ ys) zero a b one other = refl
  zipped_suc (x ∷ xs) (y ∷ ys) (suc k) a b one other =
      ap (λ rest. f (x, y) ∷ rest) (zipped_suc xs ys k a b (omega (arith, one)) (omega (arith, other)))

  zipped_more : (xs : List A) (ys : List B) (k m : ℕ) (a : A) (b : B) → suc k ≡ m → k < length xs → k < length ys
      → map f (zip (take m xs) (take m ys)) ≡ map f (zip (take k xs) (take k ys)) ++ f (get_or xs k a, get_or ys k b) ∷ []
  zipped_more xs ys k m a b next one other =
      subst (λ (n : ℕ). map f (zip (take n xs) (take n ys)) ≡ map f (zip (take k xs) (take k ys)) ++ f (get_or xs k a, get_or ys k b) ∷ []) next (zipped_suc xs ys k a b one other)

  -- what a turn of the loop adds
  pub zipped_push : (xs : List A) (ys : List B) (k : ℕ) (a : A) (b : B) (old new : List C) (c : C) → k < length xs → k < length ys → a ≡ get_or xs k a → b ≡ get_or ys k b
      → old ≡ map f (zip (take k xs) (take k ys)) → c ≡ f (a, b) → new ≡ old ++ c ∷ [] → new ≡ map f (zip (take (k + 1) xs) (take (k + 1) ys))
  zipped_push xs ys k a b old new c one other a_is b_is old_is c_is new_is =
      let value : c ≡ f (get_or xs k a, get_or ys k b) = c_is ∙ ap₂ (λ (p : A) (q : B). f (p, q)) a_is b_is in
      new_is ∙ ap₂ (λ (all : List C) (last : C). all ++ last ∷ []) old_is value ∙ sym (zipped_more xs ys k (k + 1) a b (omega arith) one other)

  -- nothing is left past the places of both
  pub zipped_all : (xs : List A) (ys : List B) (k : ℕ) → ((i : ℕ) → i < length xs → i < length ys → i < k) → map f (zip (take k xs) (take k ys)) ≡ map f (zip xs ys)
  zipped_all [] ys zero past = refl
  zipped_all [] [] (suc k) past = refl
  zipped_all [] (y ∷ ys) (suc k) past = refl
  zipped_all (x ∷ xs) [] zero past = refl
  zipped_all (x ∷ xs) [] (suc k) past = refl
  zipped_all (x ∷ xs) (y ∷ ys) zero past = let none = past 0 (omega arith) (omega arith) in absurd (omega (arith, none))
  zipped_all (x ∷ xs) (y ∷ ys) (suc k) past =
      ap (λ rest. f (x, y) ∷ rest) (zipped_all xs ys k (λ i one other. let next = past (suc i) (omega (arith, one)) (omega (arith, other)) in omega (arith, next)))

-- ---- a list, each with its place
module _ {A C : Type 0} (f : ℕ × A → C) where
  numbered_suc : (n : ℕ) (xs : List A) (k : ℕ) (a : A) → k < length xs
      → map f (enumerate_from n (take (suc k) xs)) ≡ map f (enumerate_from n (take k xs)) ++ f (n + k, get_or xs k a) ∷ []
  numbered_suc n [] k a within = absurd (omega (arith, within))
  numbered_suc n (x ∷ xs) zero a within = let same : n ≡ n + 0 = omega arith in ap (λ (at : ℕ). f (at, x) ∷ []) same
  numbered_suc n (x ∷ xs) (suc k) a within =
      let same : n + 1 + k ≡ n + suc k = omega arith in
      ap (λ rest. f (n, x) ∷ rest)
      (numbered_suc (n + 1) xs k a (omega (arith, within)) ∙ ap (λ (at : ℕ). map f (enumerate_from (n + 1) (take k xs)) ++ f (at, get_or xs k a) ∷ []) same)

  numbered_more : (xs : List A) (k m : ℕ) (a : A) → suc k ≡ m → k < length xs
      → map f (enumerate_from 0 (take m xs)) ≡ map f (enumerate_from 0 (take k xs)) ++ f (k, get_or xs k a) ∷ []
  numbered_more xs k m a next within =
      subst (λ (n : ℕ). map f (enumerate_from 0 (take n xs)) ≡ map f (enumerate_from 0 (take k xs)) ++ f (k, get_or xs k a) ∷ []) next
      (numbered_suc 0 xs k a within ∙ ap (λ (at : ℕ). map f (enumerate_from 0 (take k xs)) ++ f (at, get_or xs k a) ∷ []) (let same : 0 + k ≡ k = omega arith in same))

  pub numbered_push : (xs : List A) (k : ℕ) (a : A) (old new : List C) (c : C) → k < length xs → a ≡ get_or xs k a
      → old ≡ map f (enumerate_from 0 (take k xs)) → c ≡ f (k, a) → new ≡ old ++ c ∷ [] → new ≡ map f (enumerate_from 0 (take (k + 1) xs))
  numbered_push xs k a old new c within a_is old_is c_is new_is =
      let value : c ≡ f (k, get_or xs k a) = c_is ∙ ap (λ (p : A). f (k, p)) a_is in
      new_is ∙ ap₂ (λ (all : List C) (last : C). all ++ last ∷ []) old_is value ∙ sym (numbered_more xs k (k + 1) a (omega arith) within)
