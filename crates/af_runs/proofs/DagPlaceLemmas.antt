-- Where those that pass a test stand in a list, by how many pass it before them.
use Rattle.std.proofs.Common.{◌≡◌, refl, sym, ◌∙◌, ap, subst, ℕ, zero, suc, ◌<◌, ◌≤◌, ◌+◌, List, [], ◌∷◌, length, get_or, take, Bool, true, false, cond, arith, ⊎_elim}
use Rattle.std.specs.Prelude.{Option, Some, None, filter, slice_get, MatchOption}
use Rattle.std.proofs.lemmas.Bool.{cases_Bool, cases_lt, false≢true}
use Rattle.std.proofs.lemmas.List.{get_or_default}
use Rattle.std.proofs.lemmas.List.Filters.{length-filter_more}
use Rattle.af_runs.specs.Places.{IsNthOf, StandsAt, StandsNowhere}
use Rattle.af_runs.specs.Runs.{is_numbered, is_of, runs_of}
use Rattle.af_runs.specs.declared.run.Run.{Run}
use Rattle.af_runs.proofs.PlaceLemmas.{same_numbers}

module _ {X : Type 0} (p : X → Bool) where
  -- how many pass it among the first
  abbrev pub before : ℕ → List X → ℕ
  before k xs = length (filter p (take k xs))

  pub before_more : (xs : List X) (k : ℕ) (d : X) → k < length xs → p (get_or xs k d) ≡ true → before (k + 1) xs ≡ before k xs + 1
  before_more xs k d within is = length-filter_more p xs k d within ∙ ap (λ (b : Bool). before k xs + cond b 1 0) is

  before_le : (xs : List X) (j k : ℕ) → j ≤ k → before j xs ≤ before k xs
  before_le xs zero k low = omega arith
  before_le [] (suc j) k low = omega arith
  before_le (x ∷ xs) (suc j) zero low = absurd (omega arith)
  before_le (x ∷ xs) (suc j) (suc k) low =
      let rest = before_le xs j k (omega arith) in
      elim (p x) as (λ b. length (cond b (x ∷ filter p (take j xs)) (filter p (take j xs))) ≤ length (cond b (x ∷ filter p (take k xs)) (filter p (take k xs)))) [ true ↦ omega (arith, rest) | false ↦ rest ]

  -- where no more pass it up to a place, those between do not
  pub none_between : (xs : List X) (b c q : ℕ) (d : X) → before b xs ≡ before c xs → b ≤ q → q < c → c ≤ length xs → p (get_or xs q d) ≡ false
  none_between xs b c q d same from below within =
      ⊎_elim
      (λ (is : p (get_or xs q d) ≡ true).
      let more = before_more xs q d (omega arith) is in
      let low = before_le xs b q from in
      let high = before_le xs (q + 1) c (omega arith) in
      absurd (omega (arith, more, low, high, same)))
      (λ (no : p (get_or xs q d) ≡ false). no)
      (cases_Bool (p (get_or xs q d)))

  pub not_before : (xs : List X) (b place : ℕ) (d : X) → place < length xs → p (get_or xs place d) ≡ true → before place xs ≡ before b xs → b ≤ place
  not_before xs b place d within is same =
      ⊎_elim
      (λ (below : place < b).
      let more = before_more xs place d within is in
      let high = before_le xs (place + 1) b (omega (arith, below)) in
      absurd (omega (arith, more, high, same)))
      (λ (not : b ≤ place). not)
      (cases_lt place b)

  -- of two lists of which the same places pass it
  alike_case : (a b : Bool) (x y : X) (some more : List X) → a ≡ b → length some ≡ length more → length (cond a (x ∷ some) some) ≡ length (cond b (y ∷ more) more)
  alike_case true true x y some more is same = ap suc same
  alike_case true false x y some more is same = absurd (cc)
  alike_case false true x y some more is same = absurd (cc)
  alike_case false false x y some more is same = same

  pub alike : (xs ys : List X) → length xs ≡ length ys → ((k : ℕ) (d : X) → k < length xs → p (get_or xs k d) ≡ p (get_or ys k d)) → (k : ℕ) → before k xs ≡ before k ys
  alike xs ys long same zero = refl
  alike [] [] long same (suc k) = refl
  alike [] (y ∷ ys) long same (suc k) = absurd (omega (arith, long))
  alike (x ∷ xs) [] long same (suc k) = absurd (omega (arith, long))
  alike (x ∷ xs) (y ∷ ys) long same (suc k) =
      alike_case (p x) (p y) x y (filter p (take k xs)) (filter p (take k ys)) (same 0 x (omega arith)) (alike xs ys (omega (arith, long)) (λ j d inside. same (suc j) d (omega (arith, inside))) k)

  -- where the one at a place among those that pass it stands
  abbrev pub Stands : List X → ℕ → X → Type 0
  Stands xs k x = (place : ℕ) × (place < length xs) × (get_or xs place x ≡ x) × (p x ≡ true) × (before place xs ≡ k)

  nth_case : (b : Bool) (y : X) (ys : List X) (k : ℕ) (x : X) → p y ≡ b → ((j : ℕ) → slice_get (filter p ys) j ≡ Some x → Stands ys j x) → slice_get (cond b (y ∷ filter p ys) (filter p ys)) k ≡ Some x → Stands (y ∷ ys) k x
  nth_case true y ys zero x own rest is = let same : y ≡ x = cc in (0, omega arith, same, ap p (sym same) ∙ own, refl)
  nth_case true y ys (suc k) x own rest is =
      let at = rest k is in
      let count : before (suc at.0) (y ∷ ys) ≡ suc k = rw own (ap suc at.4) in
      (suc at.0, omega (arith, at.1), at.2, at.3, count)
  nth_case false y ys k x other rest is =
      let at = rest k is in
      let count : before (suc at.0) (y ∷ ys) ≡ k = rw other at.4 in
      (suc at.0, omega (arith, at.1), at.2, at.3, count)

  pub nth_stands : (xs : List X) (k : ℕ) (x : X) → slice_get (filter p xs) k ≡ Some x → Stands xs k x
  nth_stands [] k x is = absurd (cc)
  nth_stands (y ∷ ys) k x is = nth_case (p y) y ys k x refl (λ j at. nth_stands ys j x at) is

-- the row of its number is the one
numbered_itself : (run other : Run) → other ≡ run → is_numbered run.number other ≡ true
numbered_itself run other is = same_numbers other.number run.number (ap (λ (r : Run). r.number) is)

pub nth_from : (rows : List Run) (dag_id : List ℕ) (nth : ℕ) (run : Run) (r : Option ℕ) → slice_get (runs_of rows dag_id) nth ≡ Some run → MatchOption r (StandsNowhere rows run.number) (StandsAt rows run.number) → MatchOption r (length (runs_of rows dag_id) ≤ nth) (IsNthOf rows dag_id nth)
nth_from rows dag_id nth run None is nowhere =
    let at = nth_stands (is_of dag_id) rows nth run is in
    absurd (false≢true (sym (nowhere.none at.0 run at.1) ∙ numbered_itself run (get_or rows at.0 run) at.2))
nth_from rows dag_id nth run (Some place) is stands =
    let at = nth_stands (is_of dag_id) rows nth run is in
    let here : is_numbered run.number (get_or rows at.0 run) ≡ true = numbered_itself run (get_or rows at.0 run) at.2 in
    let same : at.0 ≡ place =
    ⊎_elim
    (λ (below : at.0 < place). absurd (false≢true (sym (stands.alone at.0 run at.1 (λ e. absurd (omega (arith, below, e)))) ∙ here)))
    (λ (from : place ≤ at.0).
    ⊎_elim
    (λ (above : place < at.0). absurd (false≢true (sym (stands.alone at.0 run at.1 (λ e. absurd (omega (arith, above, e)))) ∙ here)))
    (λ (to : at.0 ≤ place). omega (arith, from, to))
    (cases_lt place at.0))
    (cases_lt at.0 place) in
    subst (λ (k : ℕ). IsNthOf rows dag_id nth k) same
    (record {
      within = at.1;
      here = λ d. ap (is_of dag_id) (get_or_default rows at.0 d run at.1 ∙ at.2) ∙ at.3;
      before = at.4;
    })
