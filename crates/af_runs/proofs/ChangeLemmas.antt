-- Runs that are marked, and instances that are cleared.
use Rattle.std.proofs.Common.{◌≡◌, ◌∙◌, refl, sym, ap, subst, ℕ, ◌<◌, ◌≤◌, ◌+◌, List, [], ◌∷◌, ◌++◌, length, map, get_or, set, take, Bool, true, false, cond, arith, ⊎_elim}
use Rattle.std.specs.Prelude.{filter, flat_map}
use Rattle.std.specs.List.{enumerate_from}
use Rattle.std.proofs.lemmas.Bool.{cases_lt}
use Rattle.std.proofs.lemmas.Grind.{flat_map-append}
use Rattle.std.proofs.lemmas.List.{append_assoc, append-nil, get_or-map, get_or-set_other, get_or-set_same, length-map, length-set, map-append, same_lists, take_more}
use Rattle.std.proofs.lemmas.List.Elements.{filter-append}
use Rattle.std.proofs.lemmas.List.FromFn.{get_or-enumerate_from, length-enumerate_from}
use Rattle.af_names.proofs.OrderLemmas.{map-only, map-none}
use Rattle.af_runs.specs.Clears.{ChosenRow, admits, chosen_in, chosen_of, cleared_run, is_chosen, with_cleared_run}
use Rattle.af_runs.specs.Marks.{marked_run, with_marked}
use Rattle.af_runs.specs.Places.{StandsAt, StandsNowhere}
use Rattle.af_runs.specs.Runs.{RunRows, is_numbered, is_of, runs_of}
use Rattle.af_runs.specs.declared.instance.Instance.{Instance}
use Rattle.af_runs.specs.declared.mark.Mark.{Mark}
use Rattle.af_runs.specs.declared.run.Run.{Run}
use Rattle.af_runs.specs.declared.run_filter.RunFilter.{RunFilter}
use Rattle.af_runs.specs.declared.selection.Selection.{Selection}

-- ---- a list that is place by place what a function makes of another
pub map-from : {X : Type 0} (f : X → X) (xs ys : List X) → length ys ≡ length xs → ((k : ℕ) (d : X) → k < length xs → get_or ys k d ≡ f (get_or xs k d)) → ys ≡ map f xs
map-from f xs ys long each =
    same_lists ys (map f xs) (long ∙ sym (length-map xs f)) (λ k d inside. each k d (omega (arith, long)) ∙ sym (get_or-map f xs k d d (omega (arith, long))))

zero-plus : {X : Type 0} (k : ℕ) (x : X) → ◌≡◌ {A = ℕ × X} (0 + k, x) (k, x)
zero-plus k x = let same : 0 + k ≡ k = omega arith in λ i. (same i, x)

-- the same, of a function that is told the place
pub enumerated-from : {X : Type 0} (f : ℕ × X → X) (xs ys : List X) → length ys ≡ length xs → ((k : ℕ) (d : X) → k < length xs → get_or ys k d ≡ f (k, get_or xs k d)) → ys ≡ map f (enumerate_from 0 xs)
enumerated-from f xs ys long each =
    same_lists ys (map f (enumerate_from 0 xs)) (long ∙ sym (length-map (enumerate_from 0 xs) f ∙ length-enumerate_from 0 xs))
    (λ k d inside.
    let within : k < length xs = omega (arith, long) in
    each k d within
    ∙ sym (get_or-map f (enumerate_from 0 xs) k (0, d) d (omega (arith, within, length-enumerate_from 0 xs)) ∙ ap f (get_or-enumerate_from 0 xs k (0, d) within ∙ zero-plus k (get_or xs k d))))

-- what it makes of each place, read off the whole
pub enumerated-at : {X : Type 0} (f : ℕ × X → X) (xs : List X) (k : ℕ) (d : X) → k < length xs → get_or (map f (enumerate_from 0 xs)) k d ≡ f (k, get_or xs k d)
enumerated-at f xs k d within =
    get_or-map f (enumerate_from 0 xs) k (0, d) d (omega (arith, within, length-enumerate_from 0 xs)) ∙ ap f (get_or-enumerate_from 0 xs k (0, d) within ∙ zero-plus k (get_or xs k d))

-- ---- a run that is marked
pub with_marked-is_set : (runs : List Run) (number place : ℕ) → StandsAt runs number place → (mark : Mark) (t : ℕ) (d : Run) → with_marked runs number mark t ≡ set runs place (marked_run mark t (get_or runs place d))
with_marked-is_set runs number place stands mark t d = map-only (is_numbered number) (marked_run mark t) runs place d stands.within stands.here stands.alone

pub with_marked-same : (runs : List Run) (number : ℕ) → StandsNowhere runs number → (mark : Mark) (t : ℕ) → with_marked runs number mark t ≡ runs
with_marked-same runs number nowhere mark t = map-none (is_numbered number) (marked_run mark t) runs nowhere.none

-- ---- a run whose chosen instances are cleared
pub with_cleared_run-is_set : (runs : List Run) (number place : ℕ) → StandsAt runs number place → (selection : Selection) (d : Run) → with_cleared_run runs number selection ≡ set runs place (cleared_run selection (get_or runs place d))
with_cleared_run-is_set runs number place stands selection d = map-only (is_numbered number) (cleared_run selection) runs place d stands.within stands.here stands.alone

pub with_cleared_run-same : (runs : List Run) (number : ℕ) → StandsNowhere runs number → (selection : Selection) → with_cleared_run runs number selection ≡ runs
with_cleared_run-same runs number nowhere selection = map-none (is_numbered number) (cleared_run selection) runs nowhere.none

-- ---- those that are chosen, one more seen
module _ {X Y : Type 0} (p : X → Bool) (f : X → Y) where
  one_kept : (b : Bool) (x : X) → map f (cond b (x ∷ []) []) ≡ cond b (f x ∷ []) []
  one_kept true x = refl
  one_kept false x = refl

  pub kept-more : (xs : List X) (k : ℕ) (x : X) → k < length xs → get_or xs k x ≡ x → map f (filter p (take (k + 1) xs)) ≡ map f (filter p (take k xs)) ++ cond (p x) (f x ∷ []) []
  kept-more xs k x inside is =
      ap (λ (l : List X). map f (filter p l)) (take_more xs k x inside ∙ ap (λ (y : X). take k xs ++ y ∷ []) is)
      ∙ ap (map f) (filter-append p (take k xs) (x ∷ []))
      ∙ map-append f (filter p (take k xs)) (filter p (x ∷ []))
      ∙ ap (λ (l : List Y). map f (filter p (take k xs)) ++ l) (one_kept (p x) x)

module _ (asked : RunFilter) (selection : Selection) where
  pub one_listed : (b : Bool) (run : Run) → flat_map (chosen_of selection) (cond b (run ∷ []) []) ≡ cond b (chosen_of selection run) []
  one_listed true run = append-nil (chosen_of selection run)
  one_listed false run = refl

  pub chosen-more : (seen : List Run) (run : Run) → chosen_in (seen ++ run ∷ []) asked selection ≡ chosen_in seen asked selection ++ cond (admits asked run) (chosen_of selection run) []
  chosen-more seen run =
      ap (flat_map (chosen_of selection)) (filter-append (admits asked) seen (run ∷ []))
      ∙ flat_map-append (chosen_of selection) (filter (admits asked) seen) (filter (admits asked) (run ∷ []))
      ∙ ap (λ (l : List ChosenRow). chosen_in seen asked selection ++ l) (one_listed (admits asked run) run)

-- those that a filter admits are runs of its DAG
pub other_dag : (asked : RunFilter) (run : Run) → is_of asked.dag_id run ≡ false → admits asked run ≡ false
other_dag asked run other = rw other refl

admitted_case : (asked : RunFilter) (run : Run) (some more : List Run) (own : Bool) → is_of asked.dag_id run ≡ own → filter (admits asked) some ≡ filter (admits asked) more → filter (admits asked) (cond own (run ∷ some) some) ≡ filter (admits asked) (run ∷ more)
admitted_case asked run some more true is same = ap (λ (rest : List Run). cond (admits asked run) (run ∷ rest) rest) same
admitted_case asked run some more false is same = let out : admits asked run ≡ false = other_dag asked run is in rw out same

pub admitted_of_dag : (asked : RunFilter) (runs : List Run) → filter (admits asked) (runs_of runs asked.dag_id) ≡ filter (admits asked) runs
admitted_of_dag asked [] = refl
admitted_of_dag asked (run ∷ runs) =
    admitted_case asked run (runs_of runs asked.dag_id) runs (is_of asked.dag_id run) refl (admitted_of_dag asked runs)

-- an instance of a run that is seen next
pub listed-more : (selection : Selection) (rows before after : List ChosenRow) (xs : List Instance) (k : ℕ) (x : Instance) (f : ℕ × Instance → ChosenRow) → k < length xs → x ≡ get_or xs k x → after ≡ rows ++ cond (is_chosen selection (k, x)) (f (k, x) ∷ []) [] → rows ≡ before ++ map f (filter (is_chosen selection) (take k (enumerate_from 0 xs))) → after ≡ before ++ map f (filter (is_chosen selection) (take (k + 1) (enumerate_from 0 xs)))
listed-more selection rows before after xs k x f inside is pushed seen =
    let within : k < length (enumerate_from 0 xs) = omega (arith, inside, length-enumerate_from 0 xs) in
    let here : get_or (enumerate_from 0 xs) k (k, x) ≡ (k, x) = get_or-enumerate_from 0 xs k (k, x) inside ∙ zero-plus k (get_or xs k x) ∙ (λ i. (k, sym is i)) in
    pushed
    ∙ ap (λ (l : List ChosenRow). l ++ cond (is_chosen selection (k, x)) (f (k, x) ∷ []) []) seen
    ∙ append_assoc before (map f (filter (is_chosen selection) (take k (enumerate_from 0 xs)))) (cond (is_chosen selection (k, x)) (f (k, x) ∷ []) [])
    ∙ ap (λ (l : List ChosenRow). before ++ l) (sym (kept-more (is_chosen selection) f (enumerate_from 0 xs) k (k, x) within here))

-- ---- runs that are cleared one after the other
pub some_run : {P : Type 0} (runs : List Run) (k : ℕ) → k < length runs → ((d : Run) → P) → P
some_run [] k inside f = absurd (omega arith)
some_run (run ∷ runs) k inside f = f run

module _ (f : Run → Run) (initial : RunRows) where
  -- those before a place are what the function makes of them, and the others are as they were
  abbrev pub AreDone : ℕ → RunRows → Type 0
  AreDone place runs =
      (length runs.rows ≡ length initial.rows)
      × ((k : ℕ) (d : Run) → k < place → get_or runs.rows k d ≡ f (get_or initial.rows k d))
      × ((k : ℕ) (d : Run) → place ≤ k → get_or runs.rows k d ≡ get_or initial.rows k d)
      × (runs ≡ record initial { rows = runs.rows })

  pub done-more : (old new : RunRows) (place : ℕ) → place < length old.rows → ((d : Run) → new ≡ record old { rows = set old.rows place (f (get_or old.rows place d)) }) → AreDone place old → AreDone (place + 1) new
  done-more old new place inside step done = (
    some_run old.rows place inside (λ d. ap (λ (r : RunRows). length r.rows) (step d) ∙ length-set old.rows place (f (get_or old.rows place d)) ∙ done.0),
    λ k d low.
        ap (λ (r : RunRows). get_or r.rows k d) (step d)
        ∙ ⊎_elim
        (λ (before : k < place). get_or-set_other old.rows place k (f (get_or old.rows place d)) d (λ same. absurd (omega (arith, before, same))) ∙ done.1 k d before)
        (λ (not : place ≤ k).
        let here : k ≡ place = omega (arith, low, not) in
        subst (λ (n : ℕ). get_or (set old.rows place (f (get_or old.rows place d))) n d ≡ f (get_or initial.rows n d)) (sym here)
        (get_or-set_same old.rows place (f (get_or old.rows place d)) d inside ∙ ap f (done.2 place d (omega arith))))
        (cases_lt k place),
    λ k d above. ap (λ (r : RunRows). get_or r.rows k d) (step d) ∙ get_or-set_other old.rows place k (f (get_or old.rows place d)) d (λ same. absurd (omega (arith, above, same))) ∙ done.2 k d (omega (arith, above)),
    some_run old.rows place inside (λ d.
        step d
        ∙ ap (λ (r : RunRows). record r { rows = set old.rows place (f (get_or old.rows place d)) }) done.3
        ∙ ap (λ (rows : List Run). record initial { rows = rows }) (sym (ap (λ (r : RunRows). r.rows) (step d)))),
  )
