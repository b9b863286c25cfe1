-- Laws about operations on pools and variables.
use Rattle.std.proofs.Common.{◌≡◌, ◌∙◌, ◌+◌, ◌-◌, ◌^◌, ◌<◌, ℕ, Bool, true, false, cond, not, List, [], ◌∷◌, refl, sym, ap, ap₂, subst, arith, nat_eq, map}
use Rattle.std.specs.Prelude.{Option, Some, None, Ok, Result, filter, is_some, min, option_map, sum_by, unwrap_or}
use Rattle.std.proofs.lemmas.List.Sums.{sum_by-cons}
use Rattle.std.specs.Cmp.Lexicographic.{nat_list_cmp_total, nat_list_eq_equiv, pointwise}
use Rattle.af_base.specs.Ordered.{has_key}
use Rattle.af_graph.specs.declared.task_state.TaskState.{TaskState}
use Rattle.af_graph.specs.declared.task_state.TaskState.TheVariants.{Queued, Running}
use Rattle.af_pool.proofs.PoolLemmas.{needed_stay}
use Rattle.af_pool.proofs.SlotLemmas.{occupied_parts}
use Rattle.af_pool.specs.Occupants.{OccupantRow, slots_in, slots_of_all}
use Rattle.af_pool.specs.Pools.{NeededStay, has_pool, name_of, pool_of, with_pool, with_slots, without_pool}
use Rattle.af_pool.specs.declared.pool.Pool.{Pool}
use Rattle.af_sched.specs.Holding.{held_in}
use Rattle.af_sched.specs.Placed.{Placed, placed_in}
use Rattle.af_sched.specs.Queue.{occupant_of}
use Rattle.af_sched.specs.State.{StateRows, pools_of_row}
use Rattle.af_vars.specs.Variables.{key_of, variable_of, with_value, with_variable, without_variable}
use Rattle.af_vars.specs.declared.variable.Variable.{Variable}
use Rattle.af_ops.specs.declared.body_fault.BodyFault.{BodyFault}
use Rattle.af_ops.specs.declared.op.Op.TheVariants as op
use Rattle.af_ops.specs.declared.pool_op.PoolOp.{PoolOp}
use Rattle.af_ops.specs.declared.pool_op.PoolOp.TheVariants as pool_op
use Rattle.af_ops.specs.Effects.{Effect}
use Rattle.af_ops.specs.PoolEffects.{pool_effect}
use Rattle.af_ops.specs.RowLaws.{NeededPoolsStay, PoolChangesTouchOnePool, PoolsAreAsWritten, PoolsAreToldByState, PoolsAreToldWhole, RowsGoByName, VariableChangesTouchOneVariable, VariablesAreAsWritten, is_of_pool_in, slots_of_instances}
use Rattle.af_ops.proofs.KeyLemmas.{added_found, any_found, changed_found, found_key, removed_found}
use Rattle.af_ops.proofs.LawLemmas.{changes_stay, unchanged}
use Rattle.af_ops.proofs.ReadingLemmas.{readings_keep}
use Rattle.af_ops.proofs.ListingLemmas.{order_cut}
use Rattle.af_ops.proofs.PoolLemmas.{adds, free_to_go, pools_keep, pools_touch, removes, sets}
use Rattle.af_ops.proofs.VariableLemmas as variable
use Rattle.af_ops.proofs.VariableLemmas.{variables_touch}

ok_same : {X : Type 0} {x y : X} → ◌≡◌ {A = Result X BodyFault} (Ok x) (Ok y) → x ≡ y
ok_same is = cc

-- ---- pools that are needed

same_stay : (old new : StateRows) → new.pools ≡ old.pools → NeededStay pools_of_row old.dags old.pools new.pools
same_stay old new same name needed there = ap (λ (all : List Pool). has_pool all name) same ∙ there

with_more : (b : Bool) (pool : Pool) (found : Option Pool) → is_some found ≡ true → is_some (cond b (Some pool) found) ≡ true
with_more true pool found is = refl
with_more false pool found is = is

with_other : (b : Bool) (change : Pool → Pool) (found : Option Pool) → is_some found ≡ true → is_some (cond b (option_map change found) found) ≡ true
with_other true change None is = is
with_other true change (Some pool) is = refl
with_other false change found is = is

-- a pool that was there is there once one was added, or has other slots
added_stay : (old : StateRows) (pool : Pool) → NeededStay pools_of_row old.dags old.pools (with_pool old.pools pool)
added_stay old pool name needed there =
    any_found (has_key name_of name) (with_pool old.pools pool)
    ∙ ap (λ (o : Option Pool). is_some o) (added_found name_of old.pools pool name)
    ∙ with_more (pointwise nat_eq pool.name name) pool (pool_of old.pools name) (sym (any_found (has_key name_of name) old.pools) ∙ there)

set_stay : (old : StateRows) (own : List ℕ) (slots : ℕ) → NeededStay pools_of_row old.dags old.pools (with_slots old.pools own slots)
set_stay old own slots name needed there =
    any_found (has_key name_of name) (with_slots old.pools own slots)
    ∙ ap (λ (o : Option Pool). is_some o) (changed_found name_of (λ (p : Pool). record p { slots = slots }) (λ p. refl) own name old.pools)
    ∙ with_other (pointwise nat_eq own name) (λ (p : Pool). record p { slots = slots }) (pool_of old.pools name) (sym (any_found (has_key name_of name) old.pools) ∙ there)

pools_stay : (it : PoolOp) (old new : StateRows) (effect : Effect) → pool_effect old it ≡ Ok effect → effect.next ≡ Some new → NeededStay pools_of_row old.dags old.pools new.pools
pools_stay (pool_op.List asked) old new effect is changes = unchanged effect new (pools_keep old (pool_op.List asked) effect refl is) changes
pools_stay (pool_op.Add input) old new effect is changes =
    let it = adds old input effect new is changes in
    subst (λ (s : StateRows). NeededStay pools_of_row old.dags old.pools s.pools) (sym it.next_is) (added_stay old it.pool)
pools_stay (pool_op.Get name) old new effect is changes = unchanged effect new (pools_keep old (pool_op.Get name) effect refl is) changes
pools_stay (pool_op.Change name input) old new effect is changes =
    let it = sets old name input effect new is changes in
    subst (λ (s : StateRows). NeededStay pools_of_row old.dags old.pools s.pools) (sym it.next_is) (set_stay old name it.slots)
pools_stay (pool_op.Delete name) old new effect is changes =
    let it = removes old name effect new is changes in
    let free = free_to_go old name it.free in
    subst (λ (s : StateRows). NeededStay pools_of_row old.dags old.pools s.pools) (sym it.next_is) (needed_stay pools_of_row old.dags old.pools name free.1.0 free.1.1)

pub needed_stays : NeededPoolsStay
needed_stays op.Version old new at =
    unchanged at.2 new (readings_keep at.0 old op.Version at.1 at.2 refl at.3) at.4
needed_stays (op.ListDags asked) old new at =
    unchanged at.2 new (readings_keep at.0 old (op.ListDags asked) at.1 at.2 refl at.3) at.4
needed_stays (op.GetDag dag_id) old new at =
    unchanged at.2 new (readings_keep at.0 old (op.GetDag dag_id) at.1 at.2 refl at.3) at.4
needed_stays (op.PauseDag dag_id input) old new at = same_stay old new (changes_stay at.0 old (op.PauseDag dag_id input) at.1 at.2 new dag_id at.3 at.4 refl).pools
needed_stays (op.ListTasks dag_id) old new at =
    unchanged at.2 new (readings_keep at.0 old (op.ListTasks dag_id) at.1 at.2 refl at.3) at.4
needed_stays (op.ListRuns dag asked) old new at =
    unchanged at.2 new (readings_keep at.0 old (op.ListRuns dag asked) at.1 at.2 refl at.3) at.4
needed_stays (op.TriggerRun dag_id input) old new at = same_stay old new (changes_stay at.0 old (op.TriggerRun dag_id input) at.1 at.2 new dag_id at.3 at.4 refl).pools
needed_stays (op.GetRun dag_id run_id) old new at =
    unchanged at.2 new (readings_keep at.0 old (op.GetRun dag_id run_id) at.1 at.2 refl at.3) at.4
needed_stays (op.MarkRun dag_id run_id input) old new at = same_stay old new (changes_stay at.0 old (op.MarkRun dag_id run_id input) at.1 at.2 new dag_id at.3 at.4 refl).pools
needed_stays (op.DeleteRun dag_id run_id) old new at = same_stay old new (changes_stay at.0 old (op.DeleteRun dag_id run_id) at.1 at.2 new dag_id at.3 at.4 refl).pools
needed_stays (op.ClearRun dag_id run_id input) old new at = same_stay old new (changes_stay at.0 old (op.ClearRun dag_id run_id input) at.1 at.2 new dag_id at.3 at.4 refl).pools
needed_stays (op.ClearInstances dag_id input) old new at = same_stay old new (changes_stay at.0 old (op.ClearInstances dag_id input) at.1 at.2 new dag_id at.3 at.4 refl).pools
needed_stays (op.ListInstances dag_id run_id asked) old new at =
    unchanged at.2 new (readings_keep at.0 old (op.ListInstances dag_id run_id asked) at.1 at.2 refl at.3) at.4
needed_stays (op.GetInstance dag_id run_id task_id) old new at =
    unchanged at.2 new (readings_keep at.0 old (op.GetInstance dag_id run_id task_id) at.1 at.2 refl at.3) at.4
needed_stays (op.BackfillDag dag_id input) old new at = same_stay old new (changes_stay at.0 old (op.BackfillDag dag_id input) at.1 at.2 new dag_id at.3 at.4 refl).pools
needed_stays (op.Pool it) old new at = pools_stay it old new at.2 at.3 at.4
needed_stays (op.Variable it) old new at =
    same_stay old new (ap (λ (s : StateRows). s.pools) (variables_touch it old new at.2 at.3 at.4).rest)

-- ---- one row alone

pub pool_alone : PoolChangesTouchOnePool
pool_alone it old new at = pools_touch it old new at.2 at.3 at.4

pub variable_alone : VariableChangesTouchOneVariable
variable_alone it old new at = variables_touch it old new at.2 at.3 at.4

-- ---- what was written is there

own_pool : (pools : List Pool) (pool : Pool) → pool_of (with_pool pools pool) pool.name ≡ Some pool
own_pool pools pool =
    added_found name_of pools pool pool.name ∙ ap (λ (b : Bool). cond b (Some pool) (pool_of pools pool.name)) (nat_list_eq_equiv.refl pool.name)

own_slots : (pools : List Pool) (name : List ℕ) (slots : ℕ) (pool : Pool) → pool_of pools name ≡ Some pool → pool_of (with_slots pools name slots) name ≡ Some (record pool { slots = slots })
own_slots pools name slots pool found =
    changed_found name_of (λ (p : Pool). record p { slots = slots }) (λ p. refl) name name pools
    ∙ ap (λ (b : Bool). cond b (option_map (λ (p : Pool). record p { slots = slots }) (pool_of pools name)) (pool_of pools name)) (nat_list_eq_equiv.refl name)
    ∙ ap (λ (o : Option Pool). option_map (λ (p : Pool). record p { slots = slots }) o) found

pool_gone : (pools : List Pool) (name : List ℕ) → pool_of (without_pool pools name) name ≡ None
pool_gone pools name =
    removed_found name_of pools name name ∙ ap (λ (b : Bool). cond (not b) (pool_of pools name) None) (nat_list_eq_equiv.refl name)

pub pools_written : PoolsAreAsWritten
pools_written old new = (
  (λ pool at.
      let it = adds old (Ok pool) at.2 new at.3 at.4 in
      ap (λ (s : StateRows). pool_of s.pools pool.name) it.next_is
      ∙ ap (λ (p : Pool). pool_of (with_pool old.pools p) pool.name) (sym (ok_same it.read))
      ∙ own_pool old.pools pool),
  (λ name slots at.
      let it = sets old name (Ok slots) at.2 new at.3 at.4 in
      ap (λ (s : StateRows). unwrap_or (option_map (λ (p : Pool). p.slots) (pool_of s.pools name)) 0) it.next_is
      ∙ ap (λ (o : Option Pool). unwrap_or (option_map (λ (p : Pool). p.slots) o) 0) (own_slots old.pools name it.slots it.pool it.found)
      ∙ sym (ok_same it.read)),
  (λ name at.
      let it = removes old name at.2 new at.3 at.4 in
      ap (λ (s : StateRows). pool_of s.pools name) it.next_is ∙ pool_gone old.pools name),
)

own_variable : (variables : List Variable) (it : Variable) → variable_of (with_variable variables it) it.key ≡ Some it
own_variable variables it =
    added_found key_of variables it it.key ∙ ap (λ (b : Bool). cond b (Some it) (variable_of variables it.key)) (nat_list_eq_equiv.refl it.key)

own_text : (variables : List Variable) (key value : List ℕ) (it : Variable) → variable_of variables key ≡ Some it → variable_of (with_value variables key value) key ≡ Some record { key = key; value = value }
own_text variables key value it found =
    changed_found key_of (λ (v : Variable). record v { value = value }) (λ v. refl) key key variables
    ∙ ap (λ (b : Bool). cond b (option_map (λ (v : Variable). record v { value = value }) (variable_of variables key)) (variable_of variables key)) (nat_list_eq_equiv.refl key)
    ∙ ap (λ (o : Option Variable). option_map (λ (v : Variable). record v { value = value }) o) found
    ∙ ap (λ (k : List ℕ). Some record { key = k; value = value }) (found_key key_of variables key it found)

variable_gone : (variables : List Variable) (key : List ℕ) → variable_of (without_variable variables key) key ≡ None
variable_gone variables key =
    removed_found key_of variables key key ∙ ap (λ (b : Bool). cond (not b) (variable_of variables key) None) (nat_list_eq_equiv.refl key)

pub variables_written : VariablesAreAsWritten
variables_written old new = (
  (λ own at.
      let it = variable.adds old (Ok own) at.2 new at.3 at.4 in
      ap (λ (s : StateRows). variable_of s.variables own.key) it.next_is
      ∙ ap (λ (v : Variable). variable_of (with_variable old.variables v) own.key) (sym (ok_same it.read))
      ∙ own_variable old.variables own),
  (λ key value at.
      let it = variable.writes old key (Ok value) at.2 new at.3 at.4 in
      ap (λ (s : StateRows). variable_of s.variables key) it.next_is
      ∙ own_text old.variables key it.value it.variable it.found
      ∙ ap (λ (text : List ℕ). Some record { key = key; value = text }) (sym (ok_same it.read))),
  (λ key at.
      let it = variable.removes old key at.2 new at.3 at.4 in
      ap (λ (s : StateRows). variable_of s.variables key) it.next_is ∙ variable_gone old.variables key),
)

-- ---- what is told

pub told_whole : PoolsAreToldWhole
told_whole state pool =
    let parts = occupied_parts state.pools pool.name (map occupant_of (placed_in state.dags state.runs)) in (
      (λ few. omega (arith, parts, few)),
      omega arith,
    )

-- one instance more holds its slots, as pools see it and as runs do
one_more : (there : Bool) (one : Placed) (occupants : List OccupantRow) (instances : List Placed) → slots_of_all occupants ≡ sum_by (λ placed. placed.task.pool_slots) instances
    → slots_of_all (cond there (occupant_of one ∷ occupants) occupants) ≡ sum_by (λ placed. placed.task.pool_slots) (cond there (one ∷ instances) instances)
one_more false one occupants instances same = same
one_more true one occupants instances same =
    sum_by-cons (λ (o : OccupantRow). o.slots) (occupant_of one) occupants
    ∙ (ap (λ (n : ℕ). one.task.pool_slots + n) same ∙ sym (sum_by-cons (λ (p : Placed). p.task.pool_slots) one instances))

-- the slots that instances in a state hold, as pools see them and as runs do
slots_by_state : (it : TaskState) (name : List ℕ) (all : List Placed) → slots_in it name (map occupant_of all) ≡ sum_by (λ placed. placed.task.pool_slots) (filter (is_of_pool_in it name) all)
slots_by_state it name [] = refl
slots_by_state it name (one ∷ all) =
    one_more (is_of_pool_in it name one) one _ (filter (is_of_pool_in it name) all) (slots_by_state it name all)

held_is : (it : TaskState) (state : StateRows) (name : List ℕ) → has_pool state.pools name ≡ true → held_in it state name ≡ slots_of_instances it state name
held_is it state name there =
    ap (λ (b : Bool). cond b (slots_in it name (map occupant_of (placed_in state.dags state.runs))) 0) there
    ∙ slots_by_state it name (placed_in state.dags state.runs)

-- what is below the largest number that is told is told as it is
told_below : (held slots : ℕ) → held ≡ slots → slots < 2 ^ 64 → min held (2 ^ 64 - 1) ≡ slots
told_below held slots same few = omega (arith, same, few)

pub told_by_state : PoolsAreToldByState
told_by_state state pool there =
    let queued = held_is Queued state pool.name there in
    let running = held_is Running state pool.name there in
    let parts = occupied_parts state.pools pool.name (map occupant_of (placed_in state.dags state.runs)) in (
      told_below (held_in Queued state pool.name) (slots_of_instances Queued state pool.name) queued,
      (
        told_below (held_in Running state pool.name) (slots_of_instances Running state pool.name) running,
        ap₂ (λ (m n : ℕ). m + n) (sym queued) (sym running) ∙ sym parts,
      ),
    )

pub rows_by_name : RowsGoByName
rows_by_name window state pools variables = (order_cut name_of nat_list_cmp_total window state.pools pools, order_cut key_of nat_list_cmp_total window state.variables variables)
