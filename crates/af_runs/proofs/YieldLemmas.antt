-- The runs that an iterator has still to give.
use Rattle.std.proofs.Common.{◌≡◌, refl, sym, ◌∙◌, ap, ℕ, zero, suc, ◌<◌, ◌+◌, List, [], ◌∷◌, ◌++◌, map, length, take, drop, Bool, arith, add-one, Bor}
use Rattle.std.specs.Prelude.{Option, Some, None, filter, option_copied, slice_get}
use Rattle.std.specs.Iterator.{YieldsFirstRef}
use Rattle.std.specs.List.Sorted.{IsStrictlySortedBy}
use Rattle.std.specs.Ordering.{nat_cmp}
use Rattle.af_runs.specs.Runs.{run_at}
use Rattle.af_runs.specs.declared.run.Run.{Run}
use Rattle.af_runs.proofs.NthLemmas.{numbered_at, past_from_none, map-append, split}

next_suc : (xs : List Run) (k : ℕ) (x : Run) → slice_get xs k ≡ Some x → drop k xs ≡ x ∷ drop (suc k) xs
next_suc [] k x is = absurd (cc)
next_suc (y ∷ xs) zero x is = let same : y ≡ x = cc in ap (λ (z : Run). z ∷ xs) same
next_suc (y ∷ xs) (suc k) x is = next_suc xs k x is

pub next_at : (xs : List Run) (k : ℕ) (x : Run) → slice_get xs k ≡ Some x → drop k xs ≡ x ∷ drop (k + 1) xs
next_at xs k x is = rw (add-one k) (next_suc xs k x is)

pub get-drop : (xs : List Run) (k : ℕ) → slice_get (drop k xs) 0 ≡ slice_get xs k
get-drop [] zero = refl
get-drop [] (suc k) = refl
get-drop (x ∷ xs) zero = refl
get-drop (x ∷ xs) (suc k) = get-drop xs k

pub none_left : (xs : List Run) → slice_get xs 0 ≡ None → xs ≡ []
none_left [] is = refl
none_left (x ∷ xs) is = absurd (cc)

pub yields_at : (xs : List Run) (k : ℕ) (r : Option (Bor Run)) → k < length xs → option_copied r ≡ slice_get xs k → YieldsFirstRef (λ (runs : List Run). runs) (drop k xs) r (drop (k + 1) xs)
yields_at xs k None inside is = let past = past_from_none xs k (sym is) in absurd (omega (arith, past))
yields_at xs k (Some run) inside is = next_at xs k run.now (sym is)

get-take : (ns : List ℕ) (n k x : ℕ) → slice_get (take n ns) k ≡ Some x → slice_get ns k ≡ Some x
get-take [] zero k x is = absurd (cc)
get-take [] (suc n) k x is = absurd (cc)
get-take (m ∷ ns) zero k x is = absurd (cc)
get-take (m ∷ ns) (suc n) zero x is = is
get-take (m ∷ ns) (suc n) (suc k) x is = get-take ns n k x is

take-front : (ns more : List ℕ) → ns ≡ take (length ns) (ns ++ more)
take-front [] more = refl
take-front (n ∷ ns) more = ap (λ (some : List ℕ). n ∷ some) (take-front ns more)

module _ (p : Run → Bool) where
  -- the numbers of those among the first runs are the first numbers of all
  pub first_numbers : (runs : List Run) (n : ℕ) (ns : List ℕ) → ns ≡ map (λ (run : Run). run.number) (filter p (take n runs)) → ns ≡ take (length ns) (map (λ (run : Run). run.number) (filter p runs))
  first_numbers runs n ns is =
      take-front ns (map (λ (run : Run). run.number) (filter p (drop n runs)))
      ∙ ap (λ (some : List ℕ). take (length ns) (some ++ map (λ (run : Run). run.number) (filter p (drop n runs)))) is
      ∙ ap (take (length ns)) (sym (map-append p (filter p (take n runs)) (filter p (drop n runs))) ∙ ap (map (λ (run : Run). run.number)) (split p runs n))

  -- the run of a number that is one of the first
  pub first_at : (runs : List Run) (ns : List ℕ) (k x : ℕ) → IsStrictlySortedBy nat_cmp (map (λ (run : Run). run.number) runs) → ns ≡ take (length ns) (map (λ (run : Run). run.number) (filter p runs)) → slice_get ns k ≡ Some x → run_at runs x ≡ slice_get (filter p runs) k
  first_at runs ns k x order is at =
      numbered_at p runs k x order (get-take (map (λ (run : Run). run.number) (filter p runs)) (length ns) k x (ap (λ (some : List ℕ). slice_get some k) (sym is) ∙ at))

pub within_some : (xs : List Run) (k : ℕ) (x : Run) → slice_get xs k ≡ Some x → k < length xs
within_some [] k x is = absurd (cc)
within_some (y ∷ xs) zero x is = omega arith
within_some (y ∷ xs) (suc k) x is = let rest = within_some xs k x is in omega (arith, rest)
