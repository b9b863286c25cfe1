-- What instances hold of pools, counted one after another. Runs of which none is queued or running hold nothing.
use Rattle.std.proofs.Common.{◌≡◌, ◌≢◌, ◌<◌, ◌+◌, ◌-◌, ◌∙◌, ℕ, List, [], ◌∷◌, ◌++◌, length, map, get_or, set, take, drop, refl, sym, ap, arith, zero, suc, Bool, true, false, cond, ◌&&◌, ⊎_elim, nat_eq}
use Rattle.std.specs.Prelude.{◌^◌, ◌||◌, All, Contains, Option, Some, None, filter, find, min}
use Rattle.std.specs.List.{list_any}
use Rattle.std.specs.List.Sorted.{IsStrictlySortedBy}
use Rattle.std.specs.Cmp.Lexicographic.{pointwise, nat_list_cmp_total, nat_list_eq_equiv, same_text}
use Rattle.std.proofs.lemmas.Bool.{and_right, cases_Bool, or_parts, true≢false}
use Rattle.std.proofs.lemmas.List.{get_or_default}
use Rattle.std.proofs.lemmas.List.Elements.{All-drop, All-take}
use Rattle.std.proofs.lemmas.List.Folds.{list_any-from_Any}
use Rattle.std.proofs.lemmas.List.Sums.{sum_by-cons}
use Rattle.af_base.specs.Ordered.{AreInOrder, has_key}
use Rattle.af_base.specs.Places.{StandsAt}
use Rattle.af_graph.specs.Graph.{same_name}
use Rattle.af_graph.specs.States.{same_state}
use Rattle.af_graph.specs.declared.task_state.TaskState.{TaskState}
use Rattle.af_graph.specs.declared.task_state.TaskState.TheVariants as task_state
use Rattle.af_names.proofs.OrderLemmas.{order-take}
use Rattle.af_pool.specs.Occupants.{OccupantRow, holds_slots, is_there_in, slots_in}
use Rattle.af_pool.specs.Pools.{has_pool, name_of, pool_of}
use Rattle.af_pool.specs.declared.pool.Pool.{Pool}
use Rattle.af_runs.specs.Busy.{busy_of, holders_of, holds_any, is_busy, is_held}
use Rattle.af_runs.specs.declared.instance.Instance.{Instance}
use Rattle.af_runs.specs.declared.run.Run.{Run}
use Rattle.af_sched.specs.Counting.{CountsMore, count_of, counts_of, with_slots}
use Rattle.af_sched.specs.Holding.{held_of, page_held}
use Rattle.af_sched.specs.Placed.{Placed, placed_in, placed_of}
use Rattle.af_sched.specs.Queue.{occupant_of}
use Rattle.af_sched.specs.State.{StateRows, tasks_of}
use Rattle.af_sched.specs.declared.dag_row.DagRow.{DagRow}
use Rattle.af_sched.specs.declared.held.Held.{Held}
use Rattle.af_sched.proofs.FillLemmas.{idle_not_held}
use Rattle.af_sched.proofs.PlacedLemmas.{none_placed}

-- ---- the slots of instances in a state
module _ (state : TaskState) (name : List ℕ) where
  slots_cons : (x : Placed) (xs : List Placed) → slots_in state name (map occupant_of (x ∷ xs)) ≡ cond (is_there_in state name (occupant_of x)) x.task.pool_slots 0 + slots_in state name (map occupant_of xs)
  slots_cons x xs =
      ⊎_elim
      (λ (is : is_there_in state name (occupant_of x) ≡ true). rw is (sum_by-cons (λ (o : OccupantRow). o.slots) (occupant_of x) (filter (is_there_in state name) (map occupant_of xs))))
      (λ (not : is_there_in state name (occupant_of x) ≡ false). rw not (let zero_plus : slots_in state name (map occupant_of xs) ≡ 0 + slots_in state name (map occupant_of xs) = omega arith in zero_plus))
      (cases_Bool (is_there_in state name (occupant_of x)))

  slots_append : (xs ys : List Placed) → slots_in state name (map occupant_of (xs ++ ys)) ≡ slots_in state name (map occupant_of xs) + slots_in state name (map occupant_of ys)
  slots_append [] ys = omega arith
  slots_append (x ∷ xs) ys =
      let both = slots_cons x (xs ++ ys) in
      let first = slots_cons x xs in
      let rest = slots_append xs ys in
      omega (arith, both, first, rest)

  slots_push : (xs : List Placed) (x : Placed) → slots_in state name (map occupant_of (xs ++ x ∷ [])) ≡ slots_in state name (map occupant_of xs) + cond (is_there_in state name (occupant_of x)) x.task.pool_slots 0
  slots_push xs x =
      let both = slots_append xs (x ∷ []) in
      let one = slots_cons x [] in
      omega (arith, both, one)

  -- of instances that are all in other states
  slots_none : (xs : List Placed) → ((x : Placed) → Contains xs x → same_state x.instance.state state ≡ false) → slots_in state name (map occupant_of xs) ≡ 0
  slots_none [] others = refl
  slots_none (x ∷ xs) others =
      let apart : is_there_in state name (occupant_of x) ≡ false = and_right (same_name x.task.pool name) (same_state x.instance.state state) (others x (zero, omega arith, refl)) in
      let rest = slots_none xs (λ p has. others p (suc has.0, omega (arith, has.1), has.2)) in
      let nothing : 0 + slots_in state name (map occupant_of xs) ≡ 0 = omega (arith, rest) in
      slots_cons x xs ∙ ap (λ (b : Bool). cond b x.task.pool_slots 0 + slots_in state name (map occupant_of xs)) apart ∙ nothing

-- ---- one more instance
abbrev told : ℕ → ℕ → Held
told queued running = record { queued = min queued (2 ^ 64 - 1); running = min running (2 ^ 64 - 1) }

module _ (n a r : ℕ) where
  none : told (a + 0) (r + 0) ≡ told a r
  none =
      let queued : a + 0 ≡ a = omega arith in
      let running : r + 0 ≡ r = omega arith in
      λ i. told (queued i) (running i)

  one_queued : told (a + n) (r + 0) ≡ with_slots task_state.Queued n (told a r)
  one_queued =
      let queued : min (a + n) (2 ^ 64 - 1) ≡ min (min a (2 ^ 64 - 1) + n) (2 ^ 64 - 1) = omega arith in
      let running : r + 0 ≡ r = omega arith in
      λ i. record { queued = queued i; running = min (running i) (2 ^ 64 - 1) }

  one_running : told (a + 0) (r + n) ≡ with_slots task_state.Running n (told a r)
  one_running =
      let queued : a + 0 ≡ a = omega arith in
      let running : min (r + n) (2 ^ 64 - 1) ≡ min (min r (2 ^ 64 - 1) + n) (2 ^ 64 - 1) = omega arith in
      λ i. record { queued = min (queued i) (2 ^ 64 - 1); running = running i }

  one_more : (s : TaskState) → told (a + cond (same_state s task_state.Queued) n 0) (r + cond (same_state s task_state.Running) n 0) ≡ with_slots s n (told a r)
  one_more task_state.NoStatus = none
  one_more task_state.Scheduled = none
  one_more task_state.Queued = one_queued
  one_more task_state.Running = one_running
  one_more task_state.Success = none
  one_more task_state.Failed = none
  one_more task_state.Skipped = none
  one_more task_state.UpstreamFailed = none
  one_more task_state.UpForRetry = none

  one_there : (s : TaskState) (b : Bool) → told (a + cond (b && same_state s task_state.Queued) n 0) (r + cond (b && same_state s task_state.Running) n 0) ≡ cond b (with_slots s n (told a r)) (told a r)
  one_there s true = one_more s
  one_there s false = none

count_push : (seen : List Placed) (x : Placed) (name : List ℕ) → count_of (seen ++ x ∷ []) name ≡ cond (same_name x.task.pool name) (with_slots x.instance.state x.task.pool_slots (count_of seen name)) (count_of seen name)
count_push seen x name =
    (λ i. told (slots_push task_state.Queued name seen x i) (slots_push task_state.Running name seen x i))
    ∙ one_there x.task.pool_slots (slots_in task_state.Queued name (map occupant_of seen)) (slots_in task_state.Running name (map occupant_of seen)) x.instance.state (same_name x.task.pool name)

-- the counts of these pools, once an instance is counted
module _ (seen : List Placed) (x : Placed) where
  push_at : (pool : Pool) → count_of (seen ++ x ∷ []) pool.name ≡ cond (has_key name_of x.task.pool pool) (with_slots x.instance.state x.task.pool_slots (count_of seen pool.name)) (count_of seen pool.name)
  push_at pool =
      count_push seen x pool.name
      ∙ ap (λ (b : Bool). cond b (with_slots x.instance.state x.task.pool_slots (count_of seen pool.name)) (count_of seen pool.name)) (nat_list_eq_equiv.symm x.task.pool pool.name)

  -- where none of them is the instance's
  push_none : (pools : List Pool) → list_any (has_key name_of x.task.pool) pools ≡ false → counts_of (seen ++ x ∷ []) pools ≡ counts_of seen pools
  push_none [] absent = refl
  push_none (pool ∷ pools) absent =
      let parts = or_parts (has_key name_of x.task.pool pool) (list_any (has_key name_of x.task.pool) pools) absent in
      let here = push_at pool ∙ ap (λ (b : Bool). cond b (with_slots x.instance.state x.task.pool_slots (count_of seen pool.name)) (count_of seen pool.name)) parts.0 in
      λ i. here i ∷ push_none pools parts.1 i

  rest_none : (pools : List Pool) → ((j : ℕ) (d : Pool) → j < length pools → has_key name_of x.task.pool (get_or pools j d) ≡ false) → counts_of (seen ++ x ∷ []) pools ≡ counts_of seen pools
  rest_none [] apart = refl
  rest_none (pool ∷ pools) apart =
      let here = push_at pool ∙ ap (λ (b : Bool). cond b (with_slots x.instance.state x.task.pool_slots (count_of seen pool.name)) (count_of seen pool.name)) (apart 0 pool (omega arith)) in
      λ i. here i ∷ rest_none pools (λ j d inside. apart (suc j) d (omega arith)) i

  -- where the one at a place is
  push_some : (pools : List Pool) (place : ℕ) (d : Held) → place < length pools → ((e : Pool) → has_key name_of x.task.pool (get_or pools place e) ≡ true) → ((j : ℕ) (e : Pool) → j < length pools → j ≢ place → has_key name_of x.task.pool (get_or pools j e) ≡ false) → set (counts_of seen pools) place (with_slots x.instance.state x.task.pool_slots (get_or (counts_of seen pools) place d)) ≡ counts_of (seen ++ x ∷ []) pools
  push_some [] place d within here alone = absurd (omega arith)
  push_some (pool ∷ pools) zero d within here alone =
      let first = push_at pool ∙ ap (λ (b : Bool). cond b (with_slots x.instance.state x.task.pool_slots (count_of seen pool.name)) (count_of seen pool.name)) (here pool) in
      let rest = rest_none pools (λ j e inside. alone (suc j) e (omega arith) (omega arith)) in
      sym (λ i. first i ∷ rest i)
  push_some (pool ∷ pools) (suc place) d within here alone =
      let first = push_at pool ∙ ap (λ (b : Bool). cond b (with_slots x.instance.state x.task.pool_slots (count_of seen pool.name)) (count_of seen pool.name)) (alone 0 pool (omega arith) (omega arith)) in
      let rest = push_some pools place d (omega arith) here (λ j e inside apart. alone (suc j) e (omega arith) (λ same. apart (omega arith))) in
      λ i. sym first i ∷ rest i

-- an instance that is neither queued nor running
pub with_none : (s : TaskState) (n : ℕ) (held : Held) → holds_slots s ≡ false → with_slots s n held ≡ held
with_none task_state.NoStatus n held not = refl
with_none task_state.Scheduled n held not = refl
with_none task_state.Queued n held not = absurd (true≢false not)
with_none task_state.Running n held not = absurd (true≢false not)
with_none task_state.Success n held not = refl
with_none task_state.Failed n held not = refl
with_none task_state.Skipped n held not = refl
with_none task_state.UpstreamFailed n held not = refl
with_none task_state.UpForRetry n held not = refl

cond_same : {X : Type 0} (b : Bool) (one other : X) → one ≡ other → cond b one other ≡ other
cond_same true one other same = same
cond_same false one other same = refl

-- ---- what a step of the count leaves
module _ (x : Placed) (pools : List Pool) (counts : List Held) where
  pub counts-not_held : holds_slots x.instance.state ≡ false → CountsMore (x ∷ []) pools counts counts
  counts-not_held not seen are = are ∙ sym (all pools)
    where
      all : (ps : List Pool) → counts_of (seen ++ x ∷ []) ps ≡ counts_of seen ps
      all [] = refl
      all (pool ∷ ps) =
          let here = count_push seen x pool.name ∙ cond_same (same_name x.task.pool pool.name) (with_slots x.instance.state x.task.pool_slots (count_of seen pool.name)) (count_of seen pool.name) (with_none x.instance.state x.task.pool_slots (count_of seen pool.name) not) in
          λ i. here i ∷ all ps i

  pub counts-absent : list_any (has_key name_of x.task.pool) pools ≡ false → CountsMore (x ∷ []) pools counts counts
  counts-absent absent seen are = are ∙ sym (push_none seen x pools absent)

  pub counts-there : (place : ℕ) (d : Held) → StandsAt name_of pools x.task.pool place → CountsMore (x ∷ []) pools counts (set counts place (with_slots x.instance.state x.task.pool_slots (get_or counts place d)))
  counts-there place d stands seen are =
      ap (λ (all : List Held). set all place (with_slots x.instance.state x.task.pool_slots (get_or all place d))) are
      ∙ push_some seen x pools place d stands.within stands.here stands.alone

-- ---- runs of which no instance is queued or running
not_state : (s : TaskState) → is_held s ≡ false → (same_state s task_state.Queued ≡ false) × (same_state s task_state.Running ≡ false)
not_state task_state.NoStatus not = (refl, refl)
not_state task_state.Scheduled not = (refl, refl)
not_state task_state.Queued not = absurd (true≢false not)
not_state task_state.Running not = absurd (true≢false not)
not_state task_state.Success not = (refl, refl)
not_state task_state.Failed not = (refl, refl)
not_state task_state.Skipped not = (refl, refl)
not_state task_state.UpstreamFailed not = (refl, refl)
not_state task_state.UpForRetry not = (refl, refl)

-- where each run that fails a test holds nothing, those that pass hold all
module _ (test : Run → Bool) (still : (run : Run) → test run ≡ false → holds_any run ≡ false) (dags : List DagRow) (name : List ℕ) where
  abbrev of_run : Run → List Placed
  of_run run = placed_of (tasks_of dags run.dag_id) run

  not_held : (run : Run) → test run ≡ false → (x : Placed) → Contains (of_run run) x → is_held x.instance.state ≡ false
  not_held run fails x has = none_placed (λ (instance : Instance). is_held instance.state) (tasks_of dags run.dag_id) run (still run fails) x has

  module _ (state : TaskState) (apart : (s : TaskState) → is_held s ≡ false → same_state s state ≡ false) where
    abbrev slots : List Placed → ℕ
    slots xs = slots_in state name (map occupant_of xs)

    with_run : (run : Run) (runs : List Run) (b : Bool) → test run ≡ b → slots (placed_in dags (filter test runs)) ≡ slots (placed_in dags runs) → slots (placed_in dags (cond b (run ∷ filter test runs) (filter test runs))) ≡ slots (of_run run ++ placed_in dags runs)
    with_run run runs true is same =
        slots_append state name (of_run run) (placed_in dags (filter test runs)) ∙ ap (λ n. slots (of_run run) + n) same ∙ sym (slots_append state name (of_run run) (placed_in dags runs))
    with_run run runs false fails same =
        let none = slots_none state name (of_run run) (λ x has. apart x.instance.state (not_held run fails x has)) in
        let both = slots_append state name (of_run run) (placed_in dags runs) in
        omega (arith, none, both, same)

    slots_those : (runs : List Run) → slots (placed_in dags (filter test runs)) ≡ slots (placed_in dags runs)
    slots_those [] = refl
    slots_those (run ∷ runs) = with_run run runs (test run) refl (slots_those runs)

  count_those : (runs : List Run) → count_of (placed_in dags (filter test runs)) name ≡ count_of (placed_in dags runs) name
  count_those runs =
      λ i. told (slots_those task_state.Queued (λ s not. (not_state s not).0) runs i) (slots_those task_state.Running (λ s not. (not_state s not).1) runs i)

pub counts_holders : (dags : List DagRow) (runs : List Run) (pools : List Pool) → counts_of (placed_in dags (holders_of runs)) pools ≡ counts_of (placed_in dags runs) pools
counts_holders dags runs [] = refl
counts_holders dags runs (pool ∷ pools) = λ i. count_those holds_any (λ run fails. fails) dags pool.name runs i ∷ counts_holders dags runs pools i

-- ---- pools that are there
module _ (state : StateRows) where
  held_there : (name : List ℕ) → has_pool state.pools name ≡ true → count_of (placed_in state.dags state.runs) name ≡ held_of state name
  held_there name there = rw there refl

  pub held_nowhere : (name : List ℕ) → pool_of state.pools name ≡ None → record { queued = 0; running = 0 } ≡ held_of state name
  held_nowhere name none = rw (absent state.pools none) refl
    where
      by : (pool : Pool) (b other : Bool) (rest : Option Pool) → (rest ≡ None → other ≡ false) → cond b (Some pool) rest ≡ None → (b || other) ≡ false
      by pool true other rest ends none = absurd (cc)
      by pool false other rest ends none = ends none

      absent : (pools : List Pool) → pool_of pools name ≡ None → has_pool pools name ≡ false
      absent [] none = refl
      absent (pool ∷ pools) none = by pool (has_key name_of name pool) (has_pool pools name) (pool_of pools name) (absent pools) none

  none_there : (name : List ℕ) → has_pool state.pools name ≡ false → held_of state name ≡ record { queued = 0; running = 0 }
  none_there name absent = rw absent refl

  -- what is found by a name has it, and is there
  found : (name : List ℕ) (pools : List Pool) (pool : Pool) → pool_of pools name ≡ Some pool → (pool.name ≡ name) × (has_pool pools name ≡ true)
  found name [] pool is = absurd (cc)
  found name (first ∷ pools) pool is = by (has_key name_of name first) refl (found name pools pool) is
    where
      by : (b : Bool) → has_key name_of name first ≡ b → (pool_of pools name ≡ Some pool → (pool.name ≡ name) × (has_pool pools name ≡ true)) → cond b (Some first) (pool_of pools name) ≡ Some pool → (pool.name ≡ name) × ((b || has_pool pools name) ≡ true)
      by true has rest is =
          let same : first ≡ pool = ap (λ o. Rattle.std.specs.Prelude.unwrap_or o first) is in
          (same_text pool.name name (sym (ap (λ (p : Pool). pointwise nat_eq p.name name) (sym same) ∙ has)), refl)
      by false has rest is = rest is

  pub held_found : (name : List ℕ) (pool : Pool) → pool_of state.pools name ≡ Some pool → counts_of (placed_in state.dags state.runs) (pool ∷ []) ≡ held_of state name ∷ []
  held_found name pool is =
      let at = found name state.pools pool is in
      λ i. (ap (count_of (placed_in state.dags state.runs)) at.0 ∙ held_there name at.1) i ∷ []

  -- each pool is there
  each_there : All (λ (pool : Pool). has_pool state.pools pool.name ≡ true) state.pools
  each_there k d inside =
      let pool : Pool = get_or state.pools k d in
      list_any-from_Any (has_key name_of pool.name) state.pools (k, pool, inside, get_or_default state.pools k pool d inside, nat_list_eq_equiv.refl pool.name)

  all_held : (pools : List Pool) → All (λ (pool : Pool). has_pool state.pools pool.name ≡ true) pools → counts_of (placed_in state.dags state.runs) pools ≡ map (λ pool. held_of state pool.name) pools
  all_held [] there = refl
  all_held (pool ∷ pools) there = λ i. held_there pool.name (there 0 pool (omega arith)) i ∷ all_held pools (λ k d inside. there (suc k) d (omega arith)) i

  pub page_counts : (limit offset : ℕ) → counts_of (placed_in state.dags state.runs) (take limit (drop offset state.pools)) ≡ page_held state limit offset
  page_counts limit offset =
      all_held (take limit (drop offset state.pools))
      (All-take (λ (pool : Pool). has_pool state.pools pool.name ≡ true) limit (drop offset state.pools) (All-drop (λ (pool : Pool). has_pool state.pools pool.name ≡ true) offset state.pools each_there))

-- ---- the runs that pass such a test hold all that is told
held_those : (test : Run → Bool) → ((run : Run) → test run ≡ false → holds_any run ≡ false) → (state : StateRows) (name : List ℕ) → held_of (record state { runs = filter test state.runs }) name ≡ held_of state name
held_those test still state name =
    ⊎_elim
    (λ (there : has_pool state.pools name ≡ true). sym (held_there (record state { runs = filter test state.runs }) name there) ∙ count_those test still state.dags name state.runs ∙ held_there state name there)
    (λ (absent : has_pool state.pools name ≡ false). none_there (record state { runs = filter test state.runs }) name absent ∙ sym (none_there state name absent))
    (cases_Bool (has_pool state.pools name))

pub held_busy : (state : StateRows) (name : List ℕ) → held_of (record state { runs = busy_of state.runs }) name ≡ held_of state name
held_busy = held_those is_busy idle_not_held

pub held_holders : (state : StateRows) (name : List ℕ) → held_of (record state { runs = holders_of state.runs }) name ≡ held_of state name
held_holders = held_those holds_any (λ run fails. fails)

-- ---- a page of pools in order is in order
order_drop : (n : ℕ) (pools : List Pool) → AreInOrder name_of pools → AreInOrder name_of (drop n pools)
unfolding IsStrictlySortedBy
order_drop zero pools order = order
order_drop (suc n) [] order = tt
order_drop (suc n) (pool ∷ pools) order = order_drop n pools order.1

pub order_page : (limit offset : ℕ) (pools : List Pool) → AreInOrder name_of pools → AreInOrder name_of (take limit (drop offset pools))
order_page limit offset pools order = order-take name_of nat_list_cmp_total limit (drop offset pools) (order_drop offset pools order)

pub order_one : (pool : Pool) → AreInOrder name_of (pool ∷ [])
unfolding IsStrictlySortedBy
order_one pool = (tt, tt)
