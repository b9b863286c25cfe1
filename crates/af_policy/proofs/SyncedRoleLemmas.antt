-- A role that a sync of a DAG's access control leaves as it is: it lists on that DAG just what is listed for it.
use Rattle.std.proofs.Common.{◌≡◌, ℕ, List, [], ◌∷◌, ◌++◌, Bool, true, false, not, ◌||◌, ◌&&◌, nat_eq, ◌==◌, cond, Option, Some, None, refl, sym, ap, subst, ◌∙◌}
use Rattle.std.specs.List.{AllByRecursion, cons_option, filter}
use Rattle.std.specs.List.Sorted.{IsStrictlySortedBy}
use Rattle.std.specs.Ordering.{is_eq, ordering_reverse}
use Rattle.std.specs.Cmp.Lexicographic.{bytes_decides, pointwise}
use Rattle.std.specs.Int.RustNames.{bit_and}
use Rattle.std.proofs.lemmas.Bool.Decides.{Decides-eqb}
use Rattle.std.specs.declared.cmp.Ordering.{Ordering}
use Rattle.std.specs.declared.cmp.Ordering.TheVariants.{Less, Equal, Greater}
use Rattle.af_role.specs.declared.access.AccessRow.{AccessRow}
use Rattle.af_role.specs.declared.action.Action.{Action}
use Rattle.af_role.specs.declared.actions.Actions.{Actions}
use Rattle.af_role.specs.declared.dag_part.DagPart.{DagPart}
use Rattle.af_role.specs.declared.dag_part.DagPart.TheVariants.{Itself, Runs}
use Rattle.af_role.specs.declared.resource.Resource.{Resource}
use Rattle.af_role.specs.declared.resource.Resource.TheVariants.{Kind, Dag}
use Rattle.af_role.specs.Resources.{action_of}
use Rattle.af_role.specs.Access.{is_about, is_admin_name, is_on_dag, kept_pairs, listed_pairs, on_that_dag, pairs_at, row_pairs, synced_role}
use Rattle.af_role.specs.Pairs.{PairRow, on_part, pair_cmp, part_carries, same_pair, same_pair-ties, with_pairs}
use Rattle.af_role.specs.ActionSets.{bit_of, has}
use Rattle.af_role.specs.Roles.{RoleRow, contains_pair, lists}
use Rattle.af_role.proofs.AccessLemmas.{contains-append, pair_total}
use Rattle.af_role.proofs.PairLemmas.{same_pair-decides}
use Rattle.af_policy.specs.Rows.{PermissionsAscend}
use Rattle.af_policy.proofs.LawLemmas.{about_alone, contains-others, contains-rest, contains-with_pairs, not-false, or-none, tied}
use Rattle.af_policy.proofs.RoleLemmas.{all-above, ordered-synced_role}

-- ---- permissions in order, with the same members

equal_pair : (pair : PairRow) → same_pair pair pair ≡ true
equal_pair pair = (same_pair-decides pair pair).1 refl

-- what comes before all of some permissions is not among them
not_among : (pair : PairRow) (pairs : List PairRow) → AllByRecursion (λ p. pair_cmp pair p ≡ Less) pairs → contains_pair pairs pair ≡ false
not_among pair [] below = refl
not_among pair (x ∷ xs) below =
    let apart : same_pair x pair ≡ false = same_pair-ties x pair ∙ ap is_eq (pair_total.antisymm x pair ∙ ap ordering_reverse below.0)
    in (λ i. apart i || not_among pair xs below.1 i)

-- the first of two lists is the same permission
equal_heads : (x y : PairRow) (xs ys : List PairRow) → IsStrictlySortedBy pair_cmp (x ∷ xs) → IsStrictlySortedBy pair_cmp (y ∷ ys) → ((pair : PairRow) → contains_pair (x ∷ xs) pair ≡ contains_pair (y ∷ ys) pair) → x ≡ y
unfolding IsStrictlySortedBy
equal_heads x y xs ys s t same = step (pair_cmp x y) refl
  where
    step : (o : Ordering) → pair_cmp x y ≡ o → x ≡ y
    step Equal is = tied x y is
    step Less is =
        let e : true ≡ false = sym (ap (λ b. b || contains_pair xs x) (equal_pair x)) ∙ same x ∙ not_among x (y ∷ ys) (is, all-above x y is ys t.0)
        in cc
    step Greater is =
        let below : pair_cmp y x ≡ Less = pair_total.antisymm y x ∙ ap ordering_reverse is
        in let e : true ≡ false = sym (ap (λ b. b || contains_pair ys y) (equal_pair y)) ∙ sym (same y) ∙ not_among y (x ∷ xs) (below, all-above y x below xs s.0)
        in cc

-- behind the same head are the same members
equal_rests : (x y : PairRow) (xs ys : List PairRow) → IsStrictlySortedBy pair_cmp (x ∷ xs) → IsStrictlySortedBy pair_cmp (y ∷ ys) → x ≡ y → (pair : PairRow) → contains_pair (x ∷ xs) pair ≡ contains_pair (y ∷ ys) pair → contains_pair xs pair ≡ contains_pair ys pair
unfolding IsStrictlySortedBy
equal_rests x y xs ys s t heads pair same = step (same_pair x pair) refl
  where
    step : (b : Bool) → same_pair x pair ≡ b → contains_pair xs pair ≡ contains_pair ys pair
    step true is =
        subst (λ p. contains_pair xs p ≡ contains_pair ys p) ((same_pair-decides x pair).0 is)
        (not_among x xs s.0 ∙ sym (subst (λ p. contains_pair ys p ≡ false) (sym heads) (not_among y ys t.0)))
    step false is =
        sym (ap (λ b. b || contains_pair xs pair) is)
        ∙ same
        ∙ ap (λ b. b || contains_pair ys pair) (ap (λ p. same_pair p pair) (sym heads) ∙ is)

same_members : (xs ys : List PairRow) → IsStrictlySortedBy pair_cmp xs → IsStrictlySortedBy pair_cmp ys → ((pair : PairRow) → contains_pair xs pair ≡ contains_pair ys pair) → xs ≡ ys
unfolding IsStrictlySortedBy
same_members [] [] s t same = refl
same_members [] (y ∷ ys) s t same =
    let e : false ≡ true = same y ∙ ap (λ b. b || contains_pair ys y) (equal_pair y)
    in cc
same_members (x ∷ xs) [] s t same =
    let e : true ≡ false = sym (ap (λ b. b || contains_pair xs x) (equal_pair x)) ∙ same x
    in cc
same_members (x ∷ xs) (y ∷ ys) s t same =
    let heads : x ≡ y = equal_heads x y xs ys s t same
    in (λ i. heads i ∷ same_members xs ys s.1 t.1 (λ pair. equal_rests x y xs ys s t heads pair (same pair)) i)

-- ---- what is listed for a role is about the DAG alone

equal_dag : (dag : List ℕ) → pointwise nat_eq dag dag ≡ true
equal_dag dag = (bytes_decides dag dag).1 refl

pub texts_other : (dag : List ℕ) (pair : PairRow) → is_about dag pair ≡ false → (part : DagPart) (texts : List (List ℕ)) → contains_pair (pairs_at part dag texts) pair ≡ false
texts_other dag pair other part [] = refl
texts_other dag pair other part (text ∷ texts) = step (action_of text) (texts_other dag pair other part texts)
  where
    listed : (action : Action) (carried : Bool) → contains_pair (pairs_at part dag texts) pair ≡ false → contains_pair (cons_option (cond carried (Some (on_part part action dag)) None) (pairs_at part dag texts)) pair ≡ false
    listed action true later = (λ i. about_alone dag pair other (on_part part action dag) (equal_dag dag) i || later i)
    listed action false later = later

    step : (o : Option Action) → contains_pair (pairs_at part dag texts) pair ≡ false → contains_pair (cons_option (on_that_dag part dag o) (pairs_at part dag texts)) pair ≡ false
    step None later = later
    step (Some action) later = listed action (part_carries part action) later

pub listed_other : (dag name : List ℕ) (pair : PairRow) → is_about dag pair ≡ false → (access : List AccessRow) → contains_pair (listed_pairs dag access name) pair ≡ false
listed_other dag name pair other [] = refl
listed_other dag name pair other (row ∷ rows) =
    contains-append pair (row_pairs dag name row) (listed_pairs dag rows name)
    ∙ (λ i. step (pointwise nat_eq row.role name) i || listed_other dag name pair other rows i)
  where
    step : (b : Bool) → contains_pair (cond b (pairs_at Itself dag row.actions ++ pairs_at Runs dag row.runs) []) pair ≡ false
    step true =
        contains-append pair (pairs_at Itself dag row.actions) (pairs_at Runs dag row.runs)
        ∙ (λ i. texts_other dag pair other Itself row.actions i || texts_other dag pair other Runs row.runs i)
    step false = refl

-- ---- the role

-- where what is listed, with what Admin keeps, is just what the role lists on the DAG and on its runs
pub stays : (dag : List ℕ) (access : List AccessRow) (role : RoleRow) → PermissionsAscend role → ((part : DagPart) (action : Action) → (contains_pair (listed_pairs dag access role.name) (on_part part action dag) || (is_admin_name role.name && lists role (on_part part action dag))) ≡ lists role (on_part part action dag)) → synced_role dag access role ≡ role
stays dag access role ascend same =
    ap (λ pairs. record { name = role.name; pairs = pairs })
    (same_members (with_pairs (kept_pairs dag role) (listed_pairs dag access role.name)) role.pairs (ordered-synced_role dag access role ascend) ascend
    (λ pair. contains-with_pairs pair (kept_pairs dag role) (listed_pairs dag access role.name) ∙ each pair (is_about dag pair) refl))
  where
    here : (admin : Bool) (part : DagPart) (action : Action) → contains_pair (cond admin role.pairs (filter (λ p. not (is_about dag p)) role.pairs)) (on_part part action dag) ≡ (admin && lists role (on_part part action dag))
    here true part action = refl
    here false part action = contains-others dag (on_part part action dag) (equal_dag dag) role.pairs

    elsewhere : (pair : PairRow) → is_about dag pair ≡ false → (admin : Bool) → contains_pair (cond admin role.pairs (filter (λ p. not (is_about dag p)) role.pairs)) pair ≡ lists role pair
    elsewhere pair other true = refl
    elsewhere pair other false = contains-rest dag pair other role.pairs

    each : (pair : PairRow) (about : Bool) → is_about dag pair ≡ about → (contains_pair (listed_pairs dag access role.name) pair || contains_pair (kept_pairs dag role) pair) ≡ lists role pair
    each pair true is = on_it pair.action pair.resource is
      where
        on_it : (action : Action) (resource : Resource) → is_on_dag dag resource ≡ true → (contains_pair (listed_pairs dag access role.name) (record { action = action; resource = resource }) || contains_pair (kept_pairs dag role) (record { action = action; resource = resource })) ≡ lists role (record { action = action; resource = resource })
        on_it action (Kind kind) about = cc
        on_it action (Dag part own) about =
            subst (λ id. (contains_pair (listed_pairs dag access role.name) (on_part part action id) || contains_pair (kept_pairs dag role) (on_part part action id)) ≡ lists role (on_part part action id)) (sym ((bytes_decides own dag).0 about))
            (ap (λ b. contains_pair (listed_pairs dag access role.name) (on_part part action dag) || b) (here (is_admin_name role.name) part action) ∙ same part action)
    each pair false is = (λ i. listed_other dag role.name pair is access i || elsewhere pair is (is_admin_name role.name) i)

-- the same, said of the DAG itself and of its runs
abbrev SameOn : List ℕ → List AccessRow → RoleRow → DagPart → Action → Type 0
SameOn dag access role part action =
    (contains_pair (listed_pairs dag access role.name) (on_part part action dag) || (is_admin_name role.name && lists role (on_part part action dag))) ≡ lists role (on_part part action dag)

pub stays_both : (dag : List ℕ) (access : List AccessRow) (role : RoleRow) → PermissionsAscend role → ((action : Action) → SameOn dag access role Itself action) → ((action : Action) → SameOn dag access role Runs action) → synced_role dag access role ≡ role
stays_both dag access role ascend itself runs = stays dag access role ascend each
  where
    each : (part : DagPart) (action : Action) → SameOn dag access role part action
    each Itself = itself
    each Runs = runs

same_has : (one other : Actions) → not (nat_eq one.0 other.0) ≡ false → (action : Action) → has one action ≡ has other action
same_has one other equal action = ap (λ n. bit_and n (bit_of action) == bit_of action) ((Decides-eqb one.0 other.0).0 (not-false (nat_eq one.0 other.0) equal))

-- by the set of actions that the role lists on the DAG, or on its runs, and the set that is listed for it
module _ (dag : List ℕ) (access : List AccessRow) (role : RoleRow) (part : DagPart) (own listed : Actions) (owns : (action : Action) → has own action ≡ lists role (on_part part action dag)) (lists_it : (action : Action) → has listed action ≡ contains_pair (listed_pairs dag access role.name) (on_part part action dag)) where
  pub admin_stays : is_admin_name role.name ≡ true → (both : Actions) → ((action : Action) → has both action ≡ (has listed action || has own action)) → not (nat_eq both.0 own.0) ≡ false → (action : Action) → SameOn dag access role part action
  admin_stays admin both joined equal action =
      (λ i. sym (lists_it action) i || (admin i && sym (owns action) i))
      ∙ sym (joined action)
      ∙ same_has both own equal action
      ∙ owns action

  pub other_stays : is_admin_name role.name ≡ false → not (nat_eq listed.0 own.0) ≡ false → (action : Action) → SameOn dag access role part action
  other_stays other equal action =
      (λ i. contains_pair (listed_pairs dag access role.name) (on_part part action dag) || (other i && lists role (on_part part action dag)))
      ∙ or-none (contains_pair (listed_pairs dag access role.name) (on_part part action dag))
      ∙ sym (lists_it action)
      ∙ same_has listed own equal action
      ∙ owns action
