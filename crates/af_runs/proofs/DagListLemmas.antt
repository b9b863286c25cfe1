-- The numbers listed of each DAG: after one more row, after one row less.
use Rattle.std.proofs.Common.{◌≡◌, refl, sym, ◌∙◌, ap, subst, ℕ, zero, suc, ◌<◌, ◌≤◌, ◌+◌, List, [], ◌∷◌, ◌++◌, map, length, get_or, take, Bool, true, false, cond, not, ◌==◌, ⊎_elim, arith, length-append}
use Rattle.std.specs.Prelude.{filter, Option, Some, Result, Ok, Err, OnErr, bytes_eq}
use Rattle.std.specs.Option.{option_map_or}
use Rattle.std.specs.List.{AllByRecursion, remove}
use Rattle.std.specs.List.Sorted.{IsStrictlySortedBy}
use Rattle.std.specs.Ordering.{nat_cmp}
use Rattle.std.specs.declared.cmp.Ordering.TheVariants.{Less}
use Rattle.std.proofs.lemmas.Bool.{cases_Bool}
use Rattle.std.proofs.lemmas.Bool.Decides.{nat_tests}
use Rattle.std.proofs.lemmas.List.{append-nil, take_more, take-append-le}
use Rattle.std.proofs.lemmas.List.Elements.{filter-append}
use Rattle.std.proofs.lemmas.List.Edits.{length-remove}
use Rattle.std.proofs.lemmas.Slice.Eq.{slice_eq-Decides}
use Rattle.std.specs.Cmp.{unsigned_Decides}
use Rattle.af_graph.specs.Graph.{same_name}
use Rattle.af_runs.specs.DagLists.{AreDagLists, numbers_in}
use Rattle.af_runs.specs.Runs.{is_of, runs_of}
use Rattle.af_runs.specs.declared.dag_lists.DagLists.{DagLists}
use Rattle.af_runs.specs.declared.run.Run.{Run}

pub on_err : {T E P : Type 0} → (result : Result T E) → P → OnErr result P
on_err (Ok value) holds = tt
on_err (Err fault) holds = holds

pub mapped : {X : Type 0} (f : X → List ℕ) (b : Bool) (w : X) (found : Option X) → option_map_or f (cond b (Some w) found) [] ≡ cond b (f w) (option_map_or f found [])
mapped f true w found = refl
mapped f false w found = refl

name_is : (a b : List ℕ) → same_name a b ≡ true → a ≡ b
name_is a b same = (slice_eq-Decides unsigned_Decides a b (same_name a b) refl).0 same

-- ---- a list changed
module _ (lists : DagLists) (id : List ℕ) (items : List ℕ) where
  pub listed_same : items ≡ numbers_in lists id → (q : List ℕ) → cond (bytes_eq id q) items (numbers_in lists q) ≡ numbers_in lists q
  listed_same is q =
      ⊎_elim
      (λ same. (λ i. cond (same i) items (numbers_in lists q)) ∙ is ∙ ap (numbers_in lists) (name_is id q same))
      (λ other. λ i. cond (other i) items (numbers_in lists q))
      (cases_Bool (bytes_eq id q))

  pub taken_out : (number : ℕ) → items ≡ filter (λ other. not (other == number)) (numbers_in lists id) → (q : List ℕ) → cond (bytes_eq id q) items (numbers_in lists q) ≡ cond (bytes_eq id q) (filter (λ other. not (other == number)) (numbers_in lists q)) (numbers_in lists q)
  taken_out number is q =
      ⊎_elim
      (λ same. (λ i. cond (bytes_eq id q) ((is ∙ ap (λ (d : List ℕ). filter (λ other. not (other == number)) (numbers_in lists d)) (name_is id q same)) i) (numbers_in lists q)))
      (λ other. (λ i. cond (other i) items (numbers_in lists q)) ∙ sym (λ i. cond (other i) (filter (λ other. not (other == number)) (numbers_in lists q)) (numbers_in lists q)))
      (cases_Bool (bytes_eq id q))

  pub listed_more : (run : Run) → id ≡ run.dag_id → items ≡ numbers_in lists id ++ run.number ∷ [] → (q : List ℕ) → cond (bytes_eq id q) items (numbers_in lists q) ≡ numbers_in lists q ++ cond (is_of q run) (run.number ∷ []) []
  listed_more run of is q =
      ⊎_elim
      (λ same.
      (λ i. cond (same i) items (numbers_in lists q))
      ∙ is ∙ ap (λ (d : List ℕ). numbers_in lists d ++ run.number ∷ []) (name_is id q same)
      ∙ (λ i. numbers_in lists q ++ cond (sym (ap (λ (d : List ℕ). same_name d q) (sym of) ∙ same) i) (run.number ∷ []) []))
      (λ other.
      (λ i. cond (other i) items (numbers_in lists q))
      ∙ sym (append-nil (numbers_in lists q))
      ∙ (λ i. numbers_in lists q ++ cond (sym (ap (λ (d : List ℕ). same_name d q) (sym of) ∙ other) i) (run.number ∷ []) []))
      (cases_Bool (bytes_eq id q))

-- ---- one more row is listed
cond_map : (b : Bool) (run : Run) → map (λ (other : Run). other.number) (cond b (run ∷ []) []) ≡ cond b (run.number ∷ []) []
cond_map true run = refl
cond_map false run = refl

map-append : (xs ys : List Run) → map (λ (run : Run). run.number) (xs ++ ys) ≡ map (λ (run : Run). run.number) xs ++ map (λ (run : Run). run.number) ys
map-append [] ys = refl
map-append (x ∷ xs) ys = ap (λ (ns : List ℕ). x.number ∷ ns) (map-append xs ys)

numbers-push : (runs : List Run) (run : Run) (q : List ℕ) → map (λ (other : Run). other.number) (runs_of (runs ++ run ∷ []) q) ≡ map (λ (other : Run). other.number) (runs_of runs q) ++ cond (is_of q run) (run.number ∷ []) []
numbers-push runs run q =
    ap (map (λ (other : Run). other.number)) (filter-append (is_of q) runs (run ∷ []))
    ∙ map-append (runs_of runs q) (runs_of (run ∷ []) q)
    ∙ ap (λ (ns : List ℕ). map (λ (other : Run). other.number) (runs_of runs q) ++ ns) (cond_map (is_of q run) run)

pub AreDagLists-more : (runs : List Run) (old new : DagLists) (run : Run) → old.listed < length runs → run ≡ get_or runs old.listed run → new.listed ≡ old.listed + 1 → ((q : List ℕ) → numbers_in new q ≡ numbers_in old q ++ cond (is_of q run) (run.number ∷ []) []) → AreDagLists runs old → AreDagLists runs new
AreDagLists-more runs old new run within here more numbers are = record {
  within = omega arith;
  numbers = λ q.
      numbers q
      ∙ (λ i. are.numbers q i ++ cond (is_of q run) (run.number ∷ []) [])
      ∙ sym (numbers-push (take old.listed runs) run q)
      ∙ (λ i. map (λ (other : Run). other.number) (runs_of (take old.listed runs ++ here i ∷ []) q))
      ∙ (λ i. map (λ (other : Run). other.number) (runs_of (sym (take_more runs old.listed run within) i) q))
      ∙ (λ i. map (λ (other : Run). other.number) (runs_of (take (sym more i) runs) q));
}

pub AreDagLists-same : (runs : List Run) (old new : DagLists) → new.listed ≡ old.listed → ((q : List ℕ) → numbers_in new q ≡ numbers_in old q) → AreDagLists runs old → AreDagLists runs new
AreDagLists-same runs old new same numbers are = record {
  within = omega (arith, are.within);
  numbers = λ q. numbers q ∙ are.numbers q ∙ (λ i. map (λ (other : Run). other.number) (runs_of (take (sym same i) runs) q));
}

-- ---- rows after those that are listed
pub AreDagLists-push : (runs more : List Run) (lists : DagLists) → AreDagLists runs lists → AreDagLists (runs ++ more) lists
AreDagLists-push runs more lists are = record {
  within = omega (arith, are.within, length-append runs more);
  numbers = λ q. are.numbers q ∙ (λ i. map (λ (other : Run). other.number) (runs_of (sym (take-append-le lists.listed runs more are.within) i) q));
}

-- ---- one row less
abbrev out : ℕ → ℕ → Bool
out number other = not (other == number)

apart_above : (n m : ℕ) → nat_cmp n m ≡ Less → not (m == n) ≡ true
apart_above n m less = grind (arith, nat_tests)

apart_below : (n m : ℕ) → nat_cmp n m ≡ Less → not (n == m) ≡ true
apart_below n m less = grind (arith, nat_tests)

not_itself : (n m : ℕ) → n ≡ m → not (n == m) ≡ false
not_itself n m same = grind (arith, nat_tests)

number_step : (b : Bool) (run : Run) (some : List Run) → map (λ (other : Run). other.number) (cond b (run ∷ some) some) ≡ cond b (run.number ∷ map (λ (other : Run). other.number) some) (map (λ (other : Run). other.number) some)
number_step true run some = refl
number_step false run some = refl

kept_step : (p : ℕ → Bool) (b : Bool) (number : ℕ) (some : List ℕ) → p number ≡ true → filter p (cond b (number ∷ some) some) ≡ cond b (number ∷ filter p some) (filter p some)
kept_step p true number some is = rw is refl
kept_step p false number some is = refl

left_step : (p : ℕ → Bool) (b : Bool) (number : ℕ) (some : List ℕ) → p number ≡ false → filter p (cond b (number ∷ some) some) ≡ filter p some
left_step p true number some is = rw is refl
left_step p false number some is = refl

below_at : (n : ℕ) (runs : List Run) (place : ℕ) (d : Run) → AllByRecursion (λ m. nat_cmp n m ≡ Less) (map (λ (run : Run). run.number) runs) → place < length runs → nat_cmp n (get_or runs place d).number ≡ Less
below_at n [] place d above within = absurd (omega arith)
below_at n (run ∷ runs) zero d above within = above.0
below_at n (run ∷ runs) (suc place) d above within = below_at n runs place d above.1 (omega arith)

module _ (p : Run → Bool) where
  abbrev numbers_of : List Run → List ℕ
  numbers_of runs = map (λ (run : Run). run.number) (filter p runs)

  all_out : (number : ℕ) (runs : List Run) → AllByRecursion (λ m. nat_cmp number m ≡ Less) (map (λ (run : Run). run.number) runs) → filter (out number) (numbers_of runs) ≡ numbers_of runs
  all_out number [] above = refl
  all_out number (run ∷ runs) above =
      ap (filter (out number)) (number_step (p run) run (filter p runs))
      ∙ kept_step (out number) (p run) run.number (numbers_of runs) (apart_above number run.number above.0)
      ∙ (λ i. cond (p run) (run.number ∷ all_out number runs above.1 i) (all_out number runs above.1 i))
      ∙ sym (number_step (p run) run (filter p runs))

  -- the numbers of those that pass a test, without the row at a place
  pub numbers-remove : (runs : List Run) (place number : ℕ) (d : Run) → IsStrictlySortedBy nat_cmp (map (λ (run : Run). run.number) runs) → place < length runs → (get_or runs place d).number ≡ number → numbers_of (remove runs place) ≡ filter (out number) (numbers_of runs)
  unfolding IsStrictlySortedBy
  numbers-remove [] place number d order within here = absurd (omega arith)
  numbers-remove (run ∷ runs) zero number d order within here =
      sym (ap (filter (out number)) (number_step (p run) run (filter p runs))
      ∙ left_step (out number) (p run) run.number (numbers_of runs) (not_itself run.number number here)
      ∙ all_out number runs (subst (λ (n : ℕ). AllByRecursion (λ m. nat_cmp n m ≡ Less) (map (λ (other : Run). other.number) runs)) here order.0))
  numbers-remove (run ∷ runs) (suc place) number d order within here =
      let less : nat_cmp run.number number ≡ Less = subst (λ (n : ℕ). nat_cmp run.number n ≡ Less) here (below_at run.number runs place d order.0 (omega arith)) in
      let rest = numbers-remove runs place number d order.1 (omega arith) here in
      number_step (p run) run (filter p (remove runs place))
      ∙ (λ i. cond (p run) (run.number ∷ rest i) (rest i))
      ∙ sym (ap (filter (out number)) (number_step (p run) run (filter p runs))
      ∙ kept_step (out number) (p run) run.number (numbers_of runs) (apart_below run.number number less))

  all_out_front : (number : ℕ) (n : ℕ) (runs : List Run) → AllByRecursion (λ m. nat_cmp number m ≡ Less) (map (λ (run : Run). run.number) runs) → AllByRecursion (λ m. nat_cmp number m ≡ Less) (map (λ (run : Run). run.number) (take n runs))
  all_out_front number zero runs above = tt
  all_out_front number (suc n) [] above = tt
  all_out_front number (suc n) (run ∷ runs) above = (above.0, all_out_front number n runs above.1)

  -- the same of the first so many rows
  pub numbers-remove_listed : (runs : List Run) (listed place number : ℕ) (d : Run) → IsStrictlySortedBy nat_cmp (map (λ (run : Run). run.number) runs) → place ≤ listed → listed < length runs → (get_or runs place d).number ≡ number → numbers_of (take listed (remove runs place)) ≡ filter (out number) (numbers_of (take (suc listed) runs))
  unfolding IsStrictlySortedBy
  numbers-remove_listed [] listed place number d order below within here = absurd (omega arith)
  numbers-remove_listed (run ∷ runs) listed zero number d order below within here =
      sym (ap (filter (out number)) (number_step (p run) run (filter p (take listed runs)))
      ∙ left_step (out number) (p run) run.number (numbers_of (take listed runs)) (not_itself run.number number here)
      ∙ all_out number (take listed runs) (all_out_front number listed runs (subst (λ (n : ℕ). AllByRecursion (λ m. nat_cmp n m ≡ Less) (map (λ (other : Run). other.number) runs)) here order.0)))
  numbers-remove_listed (run ∷ runs) zero (suc place) number d order below within here = absurd (omega arith)
  numbers-remove_listed (run ∷ runs) (suc listed) (suc place) number d order below within here =
      let less : nat_cmp run.number number ≡ Less = subst (λ (n : ℕ). nat_cmp run.number n ≡ Less) here (below_at run.number runs place d order.0 (omega arith)) in
      let rest = numbers-remove_listed runs listed place number d order.1 (omega arith) (omega arith) here in
      number_step (p run) run (filter p (take listed (remove runs place)))
      ∙ (λ i. cond (p run) (run.number ∷ rest i) (rest i))
      ∙ sym (ap (filter (out number)) (number_step (p run) run (filter p (take (suc listed) runs)))
      ∙ kept_step (out number) (p run) run.number (numbers_of (take (suc listed) runs)) (apart_below run.number number less))

  -- a row that does not pass is not missed
  pub filter-remove_other : (runs : List Run) (listed place : ℕ) (d : Run) → place ≤ listed → listed < length runs → p (get_or runs place d) ≡ false → filter p (take listed (remove runs place)) ≡ filter p (take (suc listed) runs)
  filter-remove_other [] listed place d below within other = absurd (omega arith)
  filter-remove_other (run ∷ runs) listed zero d below within other = rw other refl
  filter-remove_other (run ∷ runs) zero (suc place) d below within other = absurd (omega arith)
  filter-remove_other (run ∷ runs) (suc listed) (suc place) d below within other =
      let rest = filter-remove_other runs listed place d (omega arith) (omega arith) other in
      λ i. cond (p run) (run ∷ rest i) (rest i)

take-remove : (runs : List Run) (listed place : ℕ) → listed ≤ place → take listed (remove runs place) ≡ take listed runs
take-remove runs zero place above = refl
take-remove [] (suc listed) zero above = absurd (omega arith)
take-remove [] (suc listed) (suc place) above = refl
take-remove (run ∷ runs) (suc listed) zero above = absurd (omega arith)
take-remove (run ∷ runs) (suc listed) (suc place) above = ap (λ (rest : List Run). run ∷ rest) (take-remove runs listed place (omega arith))

module _ (runs : List Run) (place : ℕ) (run : Run) (within : place < length runs) (here : (d : Run) → get_or runs place d ≡ run) (order : IsStrictlySortedBy nat_cmp (map (λ (run : Run). run.number) runs)) (old : DagLists) (are : AreDagLists runs old) where
  -- one that is listed
  pub AreDagLists-remove : (new : DagLists) (left : ℕ) → place ≤ left → old.listed ≡ suc left → new.listed ≡ left → ((q : List ℕ) → numbers_in new q ≡ cond (bytes_eq run.dag_id q) (filter (out run.number) (numbers_in old q)) (numbers_in old q)) → AreDagLists (remove runs place) new
  AreDagLists-remove new left below listed fewer numbers = record {
    within = omega (arith, are.within, length-remove runs place within);
    numbers = λ q.
        numbers q
        ∙ ⊎_elim
        (λ same.
        (λ i. cond (same i) (filter (out run.number) (numbers_in old q)) (numbers_in old q))
        ∙ ap (filter (out run.number)) (are.numbers q ∙ (λ i. map (λ (other : Run). other.number) (runs_of (take (listed i) runs) q)))
        ∙ sym (numbers-remove_listed (is_of q) runs left place run.number run order below (omega (arith, are.within, listed)) (ap (λ (r : Run). r.number) (here run))))
        (λ other.
        (λ i. cond (other i) (filter (out run.number) (numbers_in old q)) (numbers_in old q))
        ∙ are.numbers q
        ∙ (λ i. map (λ (other : Run). other.number) (runs_of (take (listed i) runs) q))
        ∙ ap (map (λ (other : Run). other.number)) (sym (filter-remove_other (is_of q) runs left place run below (omega (arith, are.within, listed)) (ap (is_of q) (here run) ∙ other))))
        (cases_Bool (bytes_eq run.dag_id q))
        ∙ (λ i. map (λ (other : Run). other.number) (runs_of (take (sym fewer i) (remove runs place)) q));
  }

  -- one that is not
  pub AreDagLists-remove_rest : old.listed ≤ place → AreDagLists (remove runs place) old
  AreDagLists-remove_rest above = record {
    within = omega (arith, length-remove runs place within);
    numbers = λ q. are.numbers q ∙ (λ i. map (λ (other : Run). other.number) (runs_of (sym (take-remove runs old.listed place above) i) q));
  }
