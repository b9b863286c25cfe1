-- Permissions put one by one into an empty set, and what a DAG's access control lists.
use Rattle.std.proofs.Common.{◌≡◌, ℕ, suc, ◌+◌, ◌<◌, length, take, drop, drop-cons, get_or, add-one, List, [], ◌∷◌, ◌++◌, Bool, true, false, ◌||◌, ◌&&◌, nat_eq, cond, Option, Some, None, refl, sym, ap, subst, ◌∙◌, fold, append_assoc}
use Rattle.std.specs.Option.{option_or}
use Rattle.std.proofs.lemmas.List.{take-append-drop}
use Rattle.std.specs.List.{AllByRecursion, cons_option, filter, flat_map}
use Rattle.std.specs.Cmp.Lexicographic.{pointwise}
use Rattle.af_role.specs.Roles.{contains_pair}
use Rattle.std.specs.List.Sorted.{IsStrictlySortedBy}
use Rattle.std.specs.Cmp.{IsTotalOrder}
use Rattle.std.specs.Cmp.Rules.{comparing}
use Rattle.std.specs.Ordering.{ordering_reverse, match_ordering}
use Rattle.std.specs.declared.cmp.Ordering.{Ordering}
use Rattle.std.specs.declared.cmp.Ordering.TheVariants.{Less}
use Rattle.std.specs.BTreeSet.{insert_key}
use Rattle.std.proofs.Common.{rules}
use Rattle.std.proofs.Math.Seq.{take-suc}
use Rattle.std.proofs.lemmas.List.Sums.{fold-append}
use Rattle.std.proofs.lemmas.List.Concat.{flat_map-cons}
use Rattle.std.proofs.lemmas.List.Folds.{list_any-append}
use Rattle.std.proofs.lemmas.List.Kept.{IsStrictlySortedBy-filter}
use Rattle.af_role.specs.declared.access.AccessRow.{AccessRow}
use Rattle.af_role.specs.declared.action.Action.{Action}
use Rattle.af_role.specs.declared.dag_part.DagPart.{DagPart}
use Rattle.af_role.specs.declared.dag_part.DagPart.TheVariants.{Itself, Runs}
use Rattle.af_role.specs.Resources.{action_of, same_action, same_part}
use Rattle.af_role.specs.Pairs.{PairRow, on_part, pair_cmp, part_carries, same_pair, with_pair, with_pairs}
use Rattle.af_role.specs.Access.{bad_action, bad_in_row, on_that_dag, pairs_at, texts_on}
use Rattle.af_role.proofs.DagMaskLemmas.{or_group, or_nil, or_turn}

pub pair_total : IsTotalOrder pair_cmp
pair_total = search (comparing, rules) depth 9

module _ {K : Type 0} (cmp : K → K → Ordering) (total : IsTotalOrder cmp) where
  -- a key above all others is put at the end
  insert_last : (xs : List K) (k : K) (ys : List K) → IsStrictlySortedBy cmp (xs ++ k ∷ ys) → insert_key cmp xs k ≡ xs ++ k ∷ []
  unfolding IsStrictlySortedBy
  insert_last [] k ys s = refl
  insert_last (x ∷ xs) k ys s =
      ap (λ o. match_ordering o (k ∷ x ∷ xs) (x ∷ xs) (x ∷ insert_key cmp xs k)) (total.antisymm k x ∙ ap ordering_reverse (at xs s.0))
      ∙ ap (λ rest. x ∷ rest) (insert_last xs k ys s.1)
    where
      at : (zs : List K) → AllByRecursion (λ y. cmp x y ≡ Less) (zs ++ k ∷ ys) → cmp x k ≡ Less
      at [] all = all.0
      at (z ∷ zs) all = at zs all.1

  -- keys that ascend, put one by one behind others that stand below them
  inserted : (before xs : List K) → IsStrictlySortedBy cmp (before ++ xs) → fold (insert_key cmp) before xs ≡ before ++ xs
  inserted before [] s = sym (append-nil before)
    where
      append-nil : (zs : List K) → zs ++ [] ≡ zs
      append-nil [] = refl
      append-nil (z ∷ zs) = ap (λ rest. z ∷ rest) (append-nil zs)
  inserted before (x ∷ xs) s =
      ap (λ keys. fold (insert_key cmp) keys xs) (insert_last before x xs s)
      ∙ inserted (before ++ x ∷ []) xs (subst (IsStrictlySortedBy cmp) (sym (append_assoc before (x ∷ []) xs)) s)
      ∙ append_assoc before (x ∷ []) xs

-- permissions in order, put into an empty set, are themselves
pub with_pairs-sorted : (pairs : List PairRow) → IsStrictlySortedBy pair_cmp pairs → with_pairs [] pairs ≡ pairs
with_pairs-sorted pairs s = inserted pair_cmp pair_total [] pairs s

pub with_pairs-filter : (keep : PairRow → Bool) (pairs : List PairRow) → IsStrictlySortedBy pair_cmp pairs → with_pairs [] (filter keep pairs) ≡ filter keep pairs
with_pairs-filter keep pairs s = with_pairs-sorted (filter keep pairs) (IsStrictlySortedBy-filter pair_cmp keep pairs s)

pub take_more : {X : Type 0} (xs : List X) (i : ℕ) (x : X) → x ≡ get_or xs i x → i < length xs → take (i + 1) xs ≡ take i xs ++ x ∷ []
take_more xs i x is below =
    ap (λ n. take n xs) (add-one i) ∙ take-suc xs i x below ∙ ap (λ y. take i xs ++ y ∷ []) (sym is)

-- what was put in so far, and what one further element adds
pub put_next : {X : Type 0} (f : List X → List PairRow) → ((xs ys : List X) → f (xs ++ ys) ≡ f xs ++ f ys) → (start now after more : List PairRow) (xs : List X) (i : ℕ) (x : X) → x ≡ get_or xs i x → i < length xs → now ≡ with_pairs start (f (take i xs)) → after ≡ with_pairs now more → f (x ∷ []) ≡ more → after ≡ with_pairs start (f (take (i + 1) xs))
put_next f splits start now after more xs i x is below so put one =
    put
    ∙ (λ j. with_pairs (so j) (sym one j))
    ∙ sym (fold-append with_pair start (f (take i xs)) (f (x ∷ [])))
    ∙ ap (with_pairs start) (sym (splits (take i xs) (x ∷ [])) ∙ ap f (sym (take_more xs i x is below)))

append-nil : {X : Type 0} (zs : List X) → zs ++ [] ≡ zs
append-nil [] = refl
append-nil (z ∷ zs) = ap (λ rest. z ∷ rest) (append-nil zs)

pub flat_map-one : {X Y : Type 0} (f : X → List Y) (x : X) → flat_map f (x ∷ []) ≡ f x
flat_map-one f x = flat_map-cons f x [] ∙ append-nil (f x)

-- ---- the actions that access control lists

pub contains-append : (pair : PairRow) (xs ys : List PairRow) → contains_pair (xs ++ ys) pair ≡ (contains_pair xs pair || contains_pair ys pair)
contains-append pair xs ys = list_any-append (λ own. same_pair own pair) xs ys

-- an action that was listed so far, and what one further element lists
pub listed_next : {X : Type 0} (f : List X → List PairRow) → ((xs ys : List X) → f (xs ++ ys) ≡ f xs ++ f ys) → (pair : PairRow) (start now after : Bool) (xs : List X) (i : ℕ) (x : X) → x ≡ get_or xs i x → i < length xs → now ≡ (contains_pair (f (take i xs)) pair || start) → after ≡ (contains_pair (f (x ∷ [])) pair || now) → after ≡ (contains_pair (f (take (i + 1) xs)) pair || start)
listed_next f splits pair start now after xs i x is below so more =
    more
    ∙ ap (λ b. contains_pair (f (x ∷ [])) pair || b) so
    ∙ or_turn (contains_pair (f (x ∷ [])) pair) (contains_pair (f (take i xs)) pair) start
    ∙ sym (or_group (contains_pair (f (take i xs)) pair) (contains_pair (f (x ∷ [])) pair) start)
    ∙ ap (λ b. b || start)
    (sym (contains-append pair (f (take i xs)) (f (x ∷ [])))
    ∙ ap (λ pairs. contains_pair pairs pair) (sym (splits (take i xs) (x ∷ [])) ∙ ap f (sym (take_more xs i x is below))))

-- what is listed for one part of a DAG is not on the other
apart : (part other : DagPart) → same_part other part ≡ false → (dag : List ℕ) (texts : List (List ℕ)) (action : Action) → contains_pair (pairs_at other dag texts) (on_part part action dag) ≡ false
apart part other differs dag [] action = refl
apart part other differs dag (text ∷ texts) action = step (action_of text) (apart part other differs dag texts action)
  where
    kept : (own : Action) (b : Bool) → contains_pair (pairs_at other dag texts) (on_part part action dag) ≡ false → contains_pair (cons_option (cond b (Some (on_part other own dag)) None) (pairs_at other dag texts)) (on_part part action dag) ≡ false
    kept own true rest = ap (λ t. ((t && pointwise nat_eq dag dag) && same_action own action) || contains_pair (pairs_at other dag texts) (on_part part action dag)) differs ∙ rest
    kept own false rest = rest

    step : (found : Option Action) → contains_pair (pairs_at other dag texts) (on_part part action dag) ≡ false → contains_pair (cons_option (on_that_dag other dag found) (pairs_at other dag texts)) (on_part part action dag) ≡ false
    step None rest = rest
    step (Some own) rest = kept own (part_carries other own) rest

-- of what a row lists for a role, the actions on the DAG itself are those listed for it, and so with its runs
pub listed_on : (part : DagPart) (dag : List ℕ) (row : AccessRow) (action : Action) → contains_pair (pairs_at Itself dag row.actions ++ pairs_at Runs dag row.runs) (on_part part action dag) ≡ contains_pair (pairs_at part dag (texts_on part row)) (on_part part action dag)
listed_on Itself dag row action =
    list_any-append (λ own. same_pair own (on_part Itself action dag)) (pairs_at Itself dag row.actions) (pairs_at Runs dag row.runs)
    ∙ ap (λ b. contains_pair (pairs_at Itself dag row.actions) (on_part Itself action dag) || b) (apart Itself Runs refl dag row.runs action)
    ∙ or_nil (contains_pair (pairs_at Itself dag row.actions) (on_part Itself action dag))
listed_on Runs dag row action =
    list_any-append (λ own. same_pair own (on_part Runs action dag)) (pairs_at Itself dag row.actions) (pairs_at Runs dag row.runs)
    ∙ ap (λ b. b || contains_pair (pairs_at Runs dag row.runs) (on_part Runs action dag)) (apart Runs Itself refl dag row.actions action)

-- the first text that is no action, found while rows are looked at one by one
or-group : {X : Type 0} (a b c : Option X) → option_or a (option_or b c) ≡ option_or (option_or a b) c
or-group None b c = refl
or-group (Some x) b c = refl

bad-append : (rows more : List AccessRow) → bad_action (rows ++ more) ≡ option_or (bad_action rows) (bad_action more)
bad-append [] more = refl
bad-append (row ∷ rows) more =
    ap (option_or (bad_in_row row)) (bad-append rows more) ∙ or-group (bad_in_row row) (bad_action rows) (bad_action more)

module _ (rows : List AccessRow) (i : ℕ) (row : AccessRow) (is : row ≡ get_or rows i row) (below : i < length rows) (none : bad_action (take i rows) ≡ None) where
  pub bad_found : (text : List ℕ) → bad_in_row row ≡ Some text → bad_action rows ≡ Some text
  bad_found text found =
      ap bad_action (sym (take-append-drop i rows))
      ∙ bad-append (take i rows) (drop i rows)
      ∙ (λ j. option_or (none j) (bad_action ((drop-cons rows i row below ∙ ap (λ y. y ∷ drop (suc i) rows) (sym is)) j)))
      ∙ ap (λ o. option_or o (bad_action (drop (suc i) rows))) found

  pub bad_none_more : bad_in_row row ≡ None → bad_action (take (i + 1) rows) ≡ None
  bad_none_more fails =
      ap bad_action (take_more rows i row is below)
      ∙ bad-append (take i rows) (row ∷ [])
      ∙ (λ j. option_or (none j) (option_or (fails j) None))
