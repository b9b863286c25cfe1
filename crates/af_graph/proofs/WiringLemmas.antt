-- Facts on the rows of a definition, and on which fault is told.
use Rattle.std.proofs.Common.{◌≡◌, ◌<◌, ◌≤◌, ℕ, Bool, true, false, eqb, ltb, leb, List, [], ◌∷◌, Some, None, Option, length, get_or, sym, refl, ap, ◌∙◌, subst, zero, suc, arith}
use Rattle.std.specs.Prelude.{All}
use Rattle.std.specs.Option.{option_map, option_to_list}
use Rattle.std.specs.List.{filter, filter_map, cons_option, find, range_with_len}
use Rattle.std.proofs.lemmas.Bool.{ltb-true, and_parts, cond-true, cond-false, lt-ltb, le-ltb}
use Rattle.std.proofs.lemmas.List.{length-map, same_lists, get_or_default}
use Rattle.std.proofs.lemmas.List.Elements.{All-nil, All-cons, All-map, All-append}
use Rattle.std.proofs.lemmas.List.Quantifiers.{position-Some}
use Rattle.std.proofs.lemmas.Option.{none-some, same_Some}
use Rattle.af_graph.specs.Rows.{places, row_at, is_among, arranged, turned, IsWithin}
use Rattle.af_graph.specs.Graph.{same_name, place_of, named_rows, upstream_rows, downstream_rows}
use Rattle.af_graph.specs.Order.{is_free, taken_in}
use Rattle.af_graph.specs.Limits.{most_tasks}
use Rattle.af_graph.specs.Definition.{id_at, at_place, is_repeated, names_nobody, is_never_taken, has_bad_slots, first_of, no_task, too_many, duplicate, unknown_upstream, cycle, bad_slots, fault_of}
use Rattle.af_graph.specs.Steps.{told, IsPlaced, IsPair}
use Rattle.af_graph.specs.declared.task_spec.TaskSpec.{TaskSpec}
use Rattle.af_graph.specs.declared.dag_fault.DagFault.{DagFault}
use Rattle.af_graph.specs.declared.dag_fault.DagFault.TheVariants as fault
use Rattle.af_graph.proofs.PlaceLemmas.{find_some}
use Rattle.af_graph.proofs.RowLemmas.{length-turned, length-arranged, row_at-turned, row_at-arranged, among-turned, among-filter, below_all, filter_same_places, turned-turned}
use Rattle.af_graph.proofs.TakingLemmas.{all_from_among}

-- ---- rows

-- rows that were turned have their places in order already
pub arranged-turned : (rows : List (List ℕ)) → arranged (turned rows) ≡ turned rows
arranged-turned rows =
    same_lists (arranged (turned rows)) (turned rows) (length-arranged (turned rows)) (λ k d h. at k d (subst (λ n. k < n) (length-arranged (turned rows) ∙ length-turned rows) h))
  where
    at : (k : ℕ) (d : List ℕ) → k < length rows → get_or (arranged (turned rows)) k d ≡ get_or (turned rows) k d
    at k d h =
        let of_once : k < length (turned rows) = subst (λ n. k < n) (sym (length-turned rows)) h in
        let of_both : k < length (arranged (turned rows)) = subst (λ n. k < n) (sym (length-arranged (turned rows))) of_once in
        let said : ℕ → Bool = is_among (row_at (turned rows) k) in
        get_or_default (arranged (turned rows)) k d [] of_both
        ∙ row_at-arranged (turned rows) k of_once
        ∙ ap (λ n. filter said (range_with_len 0 n)) (length-turned rows)
        ∙ filter_same_places said (λ other. is_among (row_at rows other) k) rows (λ q below. among-turned rows k q h below)
        ∙ sym (row_at-turned rows k h)
        ∙ get_or_default (turned rows) k [] d of_once

pub pair_of_turned : (named up down : List (List ℕ)) → down ≡ turned named → up ≡ turned down → IsPair up down
pair_of_turned named up down down_is up_is =
    (up_is, down_is ∙ sym (arranged-turned named) ∙ ap arranged (sym down_is) ∙ sym (turned-turned down) ∙ ap turned (sym up_is))

pub turned_within : (rows : List (List ℕ)) → IsWithin (turned rows)
turned_within rows =
    let f : ℕ → List ℕ = λ place. filter (λ other. is_among (row_at rows other) place) (places rows) in
    All-map (All (λ p. p < length (turned rows))) f (places rows) (λ k d _. all_from_among (λ p. p < length (turned rows)) (f (get_or (places rows) k d)) (λ q e. inside (get_or (places rows) k d) q e))
  where
    inside : (place q : ℕ) → is_among (filter (λ other. is_among (row_at rows other) place) (places rows)) q ≡ true → q < length (turned rows)
    inside place q e =
        let passed = and_parts (is_among (row_at rows q) place) (is_among (places rows) q) (sym (among-filter (λ other. is_among (row_at rows other) place) (places rows) q) ∙ e) in
        let below = and_parts (leb 0 q) (ltb q (length rows)) (sym (below_all rows q) ∙ passed.1) in
        omega (arith, ltb-true q (length rows) below.1, length-turned rows)

all_found : (P : ℕ → Type 0) (look : List ℕ → Option ℕ) → ((id : List ℕ) (place : ℕ) → look id ≡ Some place → P place) → (ids : List (List ℕ)) → All P (filter_map look ids)
all_found P look each [] = All-nil P
all_found P look each (id ∷ ids) = one (look id) (each id) (all_found P look each ids)
  where
    one : (o : Option ℕ) → ((place : ℕ) → o ≡ Some place → P place) → All P (filter_map look ids) → All P (cons_option o (filter_map look ids))
    one None here rest = rest
    one (Some place) here rest = All-cons P place (filter_map look ids) (here place refl) rest

pub length-named_rows : (tasks : List TaskSpec) → length (named_rows tasks) ≡ length tasks
length-named_rows tasks = length-map tasks (λ task. filter_map (place_of tasks) task.upstream)

pub named_within : (tasks : List TaskSpec) → IsWithin (named_rows tasks)
named_within tasks =
    let P : ℕ → Type 0 = λ p. p < length (named_rows tasks) in
    All-map (All P) (λ (task : TaskSpec). filter_map (place_of tasks) task.upstream) tasks (λ k d _. all_found P (place_of tasks) (λ id place e. found d id place e) (get_or tasks k d).upstream)
  where
    found : TaskSpec → (id : List ℕ) (place : ℕ) → place_of tasks id ≡ Some place → place < length (named_rows tasks)
    found d id place e =
        omega (arith, (position-Some (λ (task : TaskSpec). same_name task.task_id id) tasks place d e).0, length-named_rows tasks)

pub downstream_rows_is : (tasks : List TaskSpec) (named down : List (List ℕ)) → named ≡ named_rows tasks → down ≡ turned named → down ≡ downstream_rows tasks
unfolding downstream_rows
downstream_rows_is tasks named down named_is down_is = down_is ∙ ap turned named_is

pub upstream_rows_is : (tasks : List TaskSpec) (named down up : List (List ℕ)) → named ≡ named_rows tasks → down ≡ turned named → up ≡ turned down → up ≡ upstream_rows tasks
unfolding upstream_rows
upstream_rows_is tasks named down up named_is down_is up_is =
    up_is ∙ ap turned down_is ∙ turned-turned named ∙ ap arranged named_is

-- what is taken is a place
pub order_within : (turns : ℕ) (rows : List (List ℕ)) → All (λ place. place < length rows) (taken_in turns rows)
unfolding taken_in
order_within zero rows = All-nil (λ place. place < length rows)
order_within (suc turns) rows =
    let P : ℕ → Type 0 = λ place. place < length rows in
    let next : Option ℕ = find (is_free rows (taken_in turns rows)) (places rows) in
    All-append P (taken_in turns rows) (option_to_list next) (order_within turns rows) (one next (λ place e. omega (arith, (find_some (is_free rows (taken_in turns rows)) 0 (length rows) place e).1)))
  where
    one : (o : Option ℕ) → ((place : ℕ) → o ≡ Some place → place < length rows) → All (λ place. place < length rows) (option_to_list o)
    one None here = All-nil (λ place. place < length rows)
    one (Some place) here = All-cons (λ p. p < length rows) place [] (here place refl) (All-nil (λ p. p < length rows))

-- ---- faults

skip : (o : Option (DagFault (List ℕ))) (os : List (Option (DagFault (List ℕ)))) → o ≡ None → first_of (o ∷ os) ≡ first_of os
skip o os e = ap (λ x. first_of (x ∷ os)) e

tell : (o : Option (DagFault (List ℕ))) (os : List (Option (DagFault (List ℕ)))) (f : DagFault (List ℕ)) → o ≡ Some f → first_of (o ∷ os) ≡ Some f
tell o os f e = ap (λ x. first_of (x ∷ os)) e

module _ (tasks : List TaskSpec) where
  pub some_task : eqb (length tasks) 0 ≡ false → no_task tasks ≡ None
  some_task e = cond-false (eqb (length tasks) 0) (Some fault.NoTask) None e

  pub few_tasks : length tasks ≤ most_tasks → too_many tasks ≡ None
  few_tasks e = cond-false (ltb most_tasks (length tasks)) (Some fault.TooMany) None (le-ltb most_tasks (length tasks) e)

  pub tell_no_task : eqb (length tasks) 0 ≡ true → fault_of tasks ≡ Some fault.NoTask
  tell_no_task e =
      tell (no_task tasks) (too_many tasks ∷ duplicate tasks ∷ unknown_upstream tasks ∷ cycle tasks ∷ bad_slots tasks ∷ []) fault.NoTask (cond-true (eqb (length tasks) 0) (Some fault.NoTask) None e)

  pub tell_too_many : no_task tasks ≡ None → most_tasks < length tasks → fault_of tasks ≡ Some fault.TooMany
  tell_too_many first many =
      skip (no_task tasks) (too_many tasks ∷ duplicate tasks ∷ unknown_upstream tasks ∷ cycle tasks ∷ bad_slots tasks ∷ []) first
      ∙ tell (too_many tasks) (duplicate tasks ∷ unknown_upstream tasks ∷ cycle tasks ∷ bad_slots tasks ∷ []) fault.TooMany (cond-true (ltb most_tasks (length tasks)) (Some fault.TooMany) None (lt-ltb most_tasks (length tasks) many))

  from_third : no_task tasks ≡ None → too_many tasks ≡ None → fault_of tasks ≡ first_of (duplicate tasks ∷ unknown_upstream tasks ∷ cycle tasks ∷ bad_slots tasks ∷ [])
  from_third first second =
      skip (no_task tasks) (too_many tasks ∷ duplicate tasks ∷ unknown_upstream tasks ∷ cycle tasks ∷ bad_slots tasks ∷ []) first
      ∙ skip (too_many tasks) (duplicate tasks ∷ unknown_upstream tasks ∷ cycle tasks ∷ bad_slots tasks ∷ []) second

  pub tell_duplicate : no_task tasks ≡ None → too_many tasks ≡ None → (f : DagFault (List ℕ)) → duplicate tasks ≡ Some f → fault_of tasks ≡ Some f
  tell_duplicate first second f e =
      from_third first second ∙ tell (duplicate tasks) (unknown_upstream tasks ∷ cycle tasks ∷ bad_slots tasks ∷ []) f e

  from_fourth : no_task tasks ≡ None → too_many tasks ≡ None → find (is_repeated tasks) (places tasks) ≡ None → fault_of tasks ≡ first_of (unknown_upstream tasks ∷ cycle tasks ∷ bad_slots tasks ∷ [])
  from_fourth first second third =
      from_third first second
      ∙ skip (duplicate tasks) (unknown_upstream tasks ∷ cycle tasks ∷ bad_slots tasks ∷ []) (ap (option_map (λ place. fault.Duplicate (id_at tasks place))) third)

  pub tell_unknown : no_task tasks ≡ None → too_many tasks ≡ None → find (is_repeated tasks) (places tasks) ≡ None → (f : DagFault (List ℕ)) → unknown_upstream tasks ≡ Some f → fault_of tasks ≡ Some f
  tell_unknown first second third f e =
      from_fourth first second third ∙ tell (unknown_upstream tasks) (cycle tasks ∷ bad_slots tasks ∷ []) f e

  from_fifth : no_task tasks ≡ None → too_many tasks ≡ None → find (is_repeated tasks) (places tasks) ≡ None → find (at_place tasks (names_nobody tasks)) (places tasks) ≡ None → fault_of tasks ≡ first_of (cycle tasks ∷ bad_slots tasks ∷ [])
  from_fifth first second third fourth =
      from_fourth first second third
      ∙ skip (unknown_upstream tasks) (cycle tasks ∷ bad_slots tasks ∷ []) (ap (option_map (λ place. fault.UnknownUpstream (id_at tasks place))) fourth)

  pub tell_cycle : no_task tasks ≡ None → too_many tasks ≡ None → find (is_repeated tasks) (places tasks) ≡ None → find (at_place tasks (names_nobody tasks)) (places tasks) ≡ None → (place : ℕ) → find (is_never_taken tasks) (places tasks) ≡ Some place → fault_of tasks ≡ Some (fault.Cycle (id_at tasks place))
  tell_cycle first second third fourth place e =
      from_fifth first second third fourth
      ∙ tell (cycle tasks) (bad_slots tasks ∷ []) (fault.Cycle (id_at tasks place)) (ap (option_map (λ p. fault.Cycle (id_at tasks p))) e)

  from_sixth : no_task tasks ≡ None → too_many tasks ≡ None → find (is_repeated tasks) (places tasks) ≡ None → find (at_place tasks (names_nobody tasks)) (places tasks) ≡ None → find (is_never_taken tasks) (places tasks) ≡ None → fault_of tasks ≡ first_of (bad_slots tasks ∷ [])
  from_sixth first second third fourth fifth =
      from_fifth first second third fourth
      ∙ skip (cycle tasks) (bad_slots tasks ∷ []) (ap (option_map (λ place. fault.Cycle (id_at tasks place))) fifth)

  pub tell_bad_slots : no_task tasks ≡ None → too_many tasks ≡ None → find (is_repeated tasks) (places tasks) ≡ None → find (at_place tasks (names_nobody tasks)) (places tasks) ≡ None → find (is_never_taken tasks) (places tasks) ≡ None → (place : ℕ) → find (at_place tasks has_bad_slots) (places tasks) ≡ Some place → fault_of tasks ≡ Some (fault.BadSlots (id_at tasks place))
  tell_bad_slots first second third fourth fifth place e =
      from_sixth first second third fourth fifth
      ∙ tell (bad_slots tasks) [] (fault.BadSlots (id_at tasks place)) (ap (option_map (λ p. fault.BadSlots (id_at tasks p))) e)

  pub tell_none : no_task tasks ≡ None → too_many tasks ≡ None → find (is_repeated tasks) (places tasks) ≡ None → find (at_place tasks (names_nobody tasks)) (places tasks) ≡ None → find (is_never_taken tasks) (places tasks) ≡ None → find (at_place tasks has_bad_slots) (places tasks) ≡ None → fault_of tasks ≡ None
  tell_none first second third fourth fifth sixth =
      from_sixth first second third fourth fifth
      ∙ skip (bad_slots tasks) [] (ap (option_map (λ place. fault.BadSlots (id_at tasks place))) sixth)

  pub found_below : (test : ℕ → Bool) (place : ℕ) → find test (places tasks) ≡ Some place → place < length tasks
  found_below test place e = omega (arith, (find_some test 0 (length tasks) place e).1)

  pub duplicate_told : (m : DagFault ℕ) → option_map (λ p. fault.Duplicate p) (find (is_repeated tasks) (places tasks)) ≡ Some m → (duplicate tasks ≡ Some (told tasks m)) × IsPlaced (length tasks) m
  duplicate_told m e = go (find (is_repeated tasks) (places tasks)) refl e
    where
      go : (o : Option ℕ) → find (is_repeated tasks) (places tasks) ≡ o → option_map (λ p. fault.Duplicate p) o ≡ Some m → (duplicate tasks ≡ Some (told tasks m)) × IsPlaced (length tasks) m
      go None is said = absurd (none-some m said)
      go (Some place) is said =
          let P : DagFault ℕ → Type 0 = λ x. (duplicate tasks ≡ Some (told tasks x)) × IsPlaced (length tasks) x in
          subst P (same_Some (fault.Duplicate place) m said) (ap (option_map (λ p. fault.Duplicate (id_at tasks p))) is, found_below (is_repeated tasks) place is)

  pub unknown_told : (m : DagFault ℕ) → option_map (λ p. fault.UnknownUpstream p) (find (at_place tasks (names_nobody tasks)) (places tasks)) ≡ Some m → (unknown_upstream tasks ≡ Some (told tasks m)) × IsPlaced (length tasks) m
  unknown_told m e = go (find (at_place tasks (names_nobody tasks)) (places tasks)) refl e
    where
      go : (o : Option ℕ) → find (at_place tasks (names_nobody tasks)) (places tasks) ≡ o → option_map (λ p. fault.UnknownUpstream p) o ≡ Some m → (unknown_upstream tasks ≡ Some (told tasks m)) × IsPlaced (length tasks) m
      go None is said = absurd (none-some m said)
      go (Some place) is said =
          let P : DagFault ℕ → Type 0 = λ x. (unknown_upstream tasks ≡ Some (told tasks x)) × IsPlaced (length tasks) x in
          subst P (same_Some (fault.UnknownUpstream place) m said) (ap (option_map (λ p. fault.UnknownUpstream (id_at tasks p))) is, found_below (at_place tasks (names_nobody tasks)) place is)
