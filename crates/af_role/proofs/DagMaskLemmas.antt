-- Rows of single DAGs: the row that a search found, and what is there after an action is added.
use Rattle.std.proofs.Common.{◌≡◌, ◌≢◌, ℕ, zero, suc, ◌+◌, ◌<◌, ◌≤◌, List, [], ◌∷◌, length, get_or, set, take, drop, Bool, true, false, ◌&&◌, ◌||◌, nat_eq, refl, sym, ap, subst, ◌∙◌, arith}
use Rattle.std.specs.Prelude.{insert, not, Ok, Err}
use Rattle.std.specs.Ordering.{nat_cmp, ordering_index}
use Rattle.std.specs.declared.cmp.Ordering.{Ordering}
use Rattle.std.specs.declared.cmp.Ordering.TheVariants.{Less, Equal, Greater}
use Rattle.std.specs.List.{list_any}
use Rattle.std.specs.Cmp.Lexicographic.{pointwise, bytes_decides, slice_cmp}
use Rattle.std.proofs.Math.Bool.{and-or_distrib_left}
use Rattle.std.proofs.lemmas.Bool.{eq-eqb, true≢false}
use Rattle.std.proofs.lemmas.List.{get_or_default, take-append-drop}
use Rattle.std.proofs.lemmas.List.Folds.{list_any-append}
use Rattle.af_names.proofs.OrderLemmas.{list_any-none}
use Rattle.af_base.specs.Ordered.{AreInOrder, has_key}
use Rattle.af_base.specs.Places.{StandsAt, FitsAt}
use Rattle.af_base.proofs.OrderedLemmas.{place_from_search}
use Rattle.af_role.specs.declared.action.Action.{Action}
use Rattle.af_role.specs.declared.dag_mask.DagActions.{DagActions}
use Rattle.af_role.specs.ActionSets.{has}
use Rattle.af_role.specs.declared.dag_part.DagPart.{DagPart}
use Rattle.af_role.specs.DagMasks.{actions_on, dag_has, id_of, row_has}
use Rattle.af_role.specs.DagMarks.{AreMarked, is_marked, mark_of}

pub or_turn : (a b c : Bool) → (a || (b || c)) ≡ (b || (a || c))
or_turn true true c = refl
or_turn true false c = refl
or_turn false b c = refl

pub or_nil : (a : Bool) → (a || false) ≡ a
or_nil true = refl
or_nil false = refl

pub or_group : (a b c : Bool) → ((a || b) || c) ≡ (a || (b || c))
or_group true b c = refl
or_group false b c = refl

or_true : (a : Bool) → (a || true) ≡ true
or_true true = refl
or_true false = refl

or_first : (a b : Bool) → (a || b) ≡ false → a ≡ false
or_first true b none = none
or_first false b none = refl

or_second : (a b : Bool) → (a || b) ≡ false → b ≡ false
or_second true b none = absurd (true≢false none)
or_second false b none = none

-- a test that one element alone may pass
list_any-alone : {X : Type 0} (test : X → Bool) (xs : List X) (i : ℕ) (d : X) → i < length xs → ((other : ℕ) (e : X) → other < length xs → other ≢ i → test (get_or xs other e) ≡ false) → list_any test xs ≡ test (get_or xs i d)
list_any-alone test [] i d within alone = absurd (omega (arith, within))
list_any-alone test (x ∷ xs) zero d within alone =
    ap (λ b. test x || b) (list_any-none test xs (λ j e inside. alone (suc j) e (omega (arith, inside)) (λ same. omega (arith, same)))) ∙ or_nil (test x)
list_any-alone test (x ∷ xs) (suc i) d within alone =
    ap (λ b. b || list_any test xs) (alone zero x (omega arith) (λ same. omega (arith, same)))
    ∙ list_any-alone test xs i d (omega (arith, within)) (λ j e inside apart. alone (suc j) e (omega (arith, inside)) (λ same. apart (omega (arith, same))))

-- an element in the place of another
list_any-set : {X : Type 0} (test : X → Bool) (xs : List X) (i : ℕ) (y own : X) (b : Bool) → i < length xs → own ≡ get_or xs i own → test y ≡ (b || test own) → list_any test (set xs i y) ≡ (b || list_any test xs)
list_any-set test [] i y own b within at is = absurd (omega (arith, within))
list_any-set test (x ∷ xs) zero y own b within at is =
    ap (λ t. t || list_any test xs) (is ∙ ap (λ z. b || test z) at) ∙ or_group b (test x) (list_any test xs)
list_any-set test (x ∷ xs) (suc i) y own b within at is =
    ap (λ t. test x || t) (list_any-set test xs i y own b (omega (arith, within)) at is) ∙ or_turn (test x) b (list_any test xs)

-- one element more
list_any-insert : {X : Type 0} (test : X → Bool) (xs : List X) (i : ℕ) (y : X) → list_any test (insert xs i y) ≡ (test y || list_any test xs)
list_any-insert test xs i y =
    list_any-append test (take i xs) (y ∷ drop i xs)
    ∙ or_turn (list_any test (take i xs)) (test y) (list_any test (drop i xs))
    ∙ ap (λ b. test y || b) (sym (list_any-append test (take i xs) (drop i xs)) ∙ ap (list_any test) (take-append-drop i xs))

-- the row of a DAG has the actions on it
pub stands_has : (rows : List DagActions) (part : DagPart) (dag : List ℕ) (place : ℕ) (d : DagActions) (action : Action) → StandsAt id_of rows dag place → dag_has rows part dag action ≡ has (actions_on part (get_or rows place d)) action
stands_has rows part dag place d action stands =
    list_any-alone (row_has part dag action) rows place d stands.within
    (λ other e inside apart. ap (λ b. b && has (actions_on part (get_or rows other e)) action) (stands.alone other e inside apart))
    ∙ ap (λ b. b && has (actions_on part (get_or rows place d)) action) (stands.here d)

-- a DAG that no row is about has no action
none_has : (rows : List DagActions) (part : DagPart) (dag : List ℕ) (action : Action) → list_any (has_key id_of dag) rows ≡ false → dag_has rows part dag action ≡ false
none_has [] part dag action none = refl
none_has (x ∷ xs) part dag action none = step (has_key id_of dag x) (none_has xs part dag action) none
  where
    step : (b : Bool) → (list_any (has_key id_of dag) xs ≡ false → dag_has xs part dag action ≡ false) → (b || list_any (has_key id_of dag) xs) ≡ false → ((b && has (actions_on part x) action) || dag_has xs part dag action) ≡ false
    step true later e = absurd (true≢false e)
    step false later e = later e

-- a DAG without a row has no action
pub fits_has : (rows : List DagActions) (part : DagPart) (dag : List ℕ) (place : ℕ) (action : Action) → FitsAt id_of rows dag place → dag_has rows part dag action ≡ false
fits_has rows part dag place action fits = none_has rows part dag action fits.absent

-- an action added to the row of a DAG
pub added_at : (rows : List DagActions) (dag : List ℕ) (place : ℕ) (row own : DagActions) (b : DagPart → Action → Bool) → StandsAt id_of rows dag place → own ≡ get_or rows place own → row.dag ≡ own.dag → ((p : DagPart) (a : Action) → has (actions_on p row) a ≡ (b p a || has (actions_on p own) a)) → (p : DagPart) (other : List ℕ) (a : Action) → dag_has (set rows place row) p other a ≡ ((pointwise nat_eq dag other && b p a) || dag_has rows p other a)
added_at rows dag place row own b stands at same more p other a =
    let own_id : own.dag ≡ dag = ap id_of at ∙ (bytes_decides ((get_or rows place own).dag) dag).0 (stands.here own)
    in list_any-set (row_has p other a) rows place row own (pointwise nat_eq dag other && b p a) stands.within at
    (ap (λ id. pointwise nat_eq id other && has (actions_on p row) a) same
    ∙ ap (λ t. pointwise nat_eq own.dag other && t) (more p a)
    ∙ and-or_distrib_left (pointwise nat_eq own.dag other) (b p a) (has (actions_on p own) a)
    ∙ ap (λ id. (pointwise nat_eq id other && b p a) || row_has p other a own) own_id)

-- the row of a DAG that had none
pub added_row : (rows : List DagActions) (dag : List ℕ) (place : ℕ) (row : DagActions) (b : DagPart → Action → Bool) → row.dag ≡ dag → ((p : DagPart) (a : Action) → has (actions_on p row) a ≡ b p a) → (p : DagPart) (other : List ℕ) (a : Action) → dag_has (insert rows place row) p other a ≡ ((pointwise nat_eq dag other && b p a) || dag_has rows p other a)
added_row rows dag place row b same is p other a =
    list_any-insert (row_has p other a) rows place row
    ∙ (λ i. (pointwise nat_eq (same i) other && is p a i) || dag_has rows p other a)

lowest : (o : Ordering) → ordering_index o ≤ 0 → o ≡ Less
lowest Less within = refl
lowest Equal within = absurd (omega (arith, within))
lowest Greater within = absurd (omega (arith, within))

-- the last row is that of the DAG, or stands before it
module _ (rows : List DagActions) (dag : List ℕ) (last : ℕ) (row : DagActions) (order : AreInOrder id_of rows) (at : row ≡ get_or rows last row) (ends : last + 1 ≡ length rows) where
  at_last : (o : Ordering) → slice_cmp nat_cmp row.dag dag ≡ o → (d : DagActions) → slice_cmp nat_cmp ((get_or rows last d).dag) dag ≡ o
  at_last o is d = ap (λ (own : DagActions). slice_cmp nat_cmp own.dag dag) (get_or_default rows last d row (omega (arith, ends)) ∙ sym at) ∙ is

  pub stands_last : slice_cmp nat_cmp row.dag dag ≡ Equal → StandsAt id_of rows dag last
  stands_last same = place_from_search id_of rows dag (Ok last) order (omega (arith, ends)) (at_last Equal same)

  pub fits_behind : slice_cmp nat_cmp row.dag dag ≡ Less → FitsAt id_of rows dag (length rows)
  fits_behind below =
      place_from_search id_of rows dag (Err (length rows)) order (omega arith)
      (λ rises. (
        λ j d low high. lowest (slice_cmp nat_cmp ((get_or rows j d).dag) dag)
            (subst (λ o. ordering_index (slice_cmp nat_cmp ((get_or rows j d).dag) dag) ≤ ordering_index o) (at_last Less below d) (rises j last d (omega (arith, high, ends)) (omega (arith, ends)))),
        λ j d low high. absurd (omega (arith, low, high)),
      ))

-- a DAG whose mark is not set has no action, where the mark of each row's DAG is set
pub unmarked_has : (marks : List Bool) (rows : List DagActions) (part : DagPart) (dag : List ℕ) (action : Action) → AreMarked marks rows → is_marked marks dag ≡ false → dag_has rows part dag action ≡ false
unmarked_has marks [] part dag action all none = refl
unmarked_has marks (x ∷ xs) part dag action all none = step (pointwise nat_eq x.dag dag) refl (unmarked_has marks xs part dag action (or_second (not (is_marked marks x.dag)) (list_any (λ row. not (is_marked marks row.dag)) xs) all) none)
  where
    step : (same : Bool) → pointwise nat_eq x.dag dag ≡ same → dag_has xs part dag action ≡ false → dag_has (x ∷ xs) part dag action ≡ false
    step true one later = absurd (true≢false (sym (ap not (ap (is_marked marks) ((bytes_decides x.dag dag).0 one) ∙ none)) ∙ or_first (not (is_marked marks x.dag)) (list_any (λ row. not (is_marked marks row.dag)) xs) all))
    step false one later = ap (λ t. (t && has (actions_on part x) action) || dag_has xs part dag action) one ∙ later

-- rows stay marked where no mark is taken away
pub marked_still : (old new : List Bool) (rows : List DagActions) (more : List ℕ → Bool) → ((other : List ℕ) → is_marked new other ≡ (more other || is_marked old other)) → AreMarked old rows → AreMarked new rows
marked_still old new [] more is all = refl
marked_still old new (x ∷ xs) more is all = step (is_marked old x.dag) refl (marked_still old new xs more is (or_second (not (is_marked old x.dag)) (list_any (λ row. not (is_marked old row.dag)) xs) all))
  where
    step : (b : Bool) → is_marked old x.dag ≡ b → AreMarked new xs → AreMarked new (x ∷ xs)
    step true own later = ap (λ b. not b || list_any (λ row. not (is_marked new row.dag)) xs) (is x.dag ∙ ap (λ b. more x.dag || b) own ∙ or_true (more x.dag)) ∙ later
    step false own later = absurd (true≢false (sym (ap not own) ∙ or_first (not (is_marked old x.dag)) (list_any (λ row. not (is_marked old row.dag)) xs) all))

-- a mark that is put is set
pub put_own : (old new : List Bool) (dag : List ℕ) → ((other : List ℕ) → is_marked new other ≡ (nat_eq (mark_of dag) (mark_of other) || is_marked old other)) → is_marked new dag ≡ true
put_own old new dag is = is dag ∙ ap (λ b. b || is_marked old dag) (eq-eqb (mark_of dag) (mark_of dag) refl)

-- a row of a DAG whose mark is set, among others
pub marked_insert : (marks : List Bool) (rows : List DagActions) (place : ℕ) (row : DagActions) → is_marked marks row.dag ≡ true → AreMarked marks rows → AreMarked marks (insert rows place row)
marked_insert marks rows place row own all =
    list_any-insert (λ x. not (is_marked marks x.dag)) rows place row
    ∙ ap (λ b. not b || list_any (λ x. not (is_marked marks x.dag)) rows) own
    ∙ all

-- a row in the place of another one of its DAG
pub marked_set : (marks : List Bool) (rows : List DagActions) (place : ℕ) (row own : DagActions) → place < length rows → own ≡ get_or rows place own → row.dag ≡ own.dag → AreMarked marks rows → AreMarked marks (set rows place row)
marked_set marks rows place row own within at same all =
    list_any-set (λ x. not (is_marked marks x.dag)) rows place row own false within at (ap (λ id. not (is_marked marks id)) same)
    ∙ all
