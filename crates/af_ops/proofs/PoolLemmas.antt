-- What operations on pools leave, and that an edit of pools changes them.
use Rattle.std.proofs.Common.{◌≡◌, ◌≢◌, ◌∙◌, ◌==◌, ℕ, Bool, true, false, cond, not, List, [], ◌∷◌, refl, sym, ap, subst, nat_eq, nat_lt, nat_le, length, map}
use Rattle.std.specs.Prelude.{Option, Some, None, option_map, ok_or, Result, Ok, Err, if◌then◌else◌}
use Rattle.std.proofs.lemmas.Bool.{eqb-false}
use Rattle.std.specs.Cmp.Lexicographic.{pointwise}
use Rattle.af_base.specs.Readings.{◌>>=◌}
use Rattle.af_graph.specs.Limits.{most_slots}
use Rattle.af_pool.specs.Pools.{add_fault, default_name, has_pool, is_in_use, most_pools, name_of, pool_of, remove_fault, set_fault, with_pool, with_slots, without_pool}
use Rattle.af_pool.specs.declared.fault.PoolFault.{PoolFault}
use Rattle.af_pool.specs.declared.fault.PoolFault.TheVariants as pool_fault
use Rattle.af_pool.specs.declared.pool.Pool.{Pool}
use Rattle.af_sched.specs.Holding.{held_of}
use Rattle.af_sched.specs.State.{StateRows, pools_of_row}
use Rattle.af_ops.specs.declared.answer.OpFault.{OpFault}
use Rattle.af_ops.specs.declared.answer.OpFault.TheVariants.{NoSuchPool}
use Rattle.af_ops.specs.declared.body_fault.BodyFault.{BodyFault}
use Rattle.af_ops.specs.declared.edit.Edit.TheVariants as edit
use Rattle.af_ops.specs.declared.method.Method.TheVariants.{Get}
use Rattle.af_ops.specs.declared.pool_op.PoolOp.{PoolOp}
use Rattle.af_ops.specs.declared.pool_op.PoolOp.TheVariants as pool_op
use Rattle.af_ops.specs.Edits.{next_by}
use Rattle.af_ops.specs.EffectParts.{Effect, kept, left_with}
use Rattle.af_ops.specs.PoolEffects.{adding, listed, pool_added, pool_changed, pool_deleted, pool_effect, pool_or, pool_told, pools_data, setting, told, unless_fault}
use Rattle.af_ops.specs.PoolOps as pools
use Rattle.af_ops.specs.Prepared.{IsExact}
use Rattle.af_ops.specs.RowLaws.{TouchesOnePool}
use Rattle.af_ops.specs.Rows.{PoolTold}
use Rattle.af_ops.specs.Table.{route_of}
use Rattle.af_ops.proofs.KeyLemmas.{added_apart, added_found, changed_apart, changed_found, none_there, removed_apart, removed_found, some_there}
use Rattle.af_ops.proofs.ListingLemmas.{kept_next, next_in, window_kept}

none_some : {X : Type 0} {x : X} → None ≡ Some x → ⊥
none_some same = cc

some_same : {X : Type 0} {x y : X} → Some x ≡ Some y → x ≡ y
some_same is = cc

-- ---- no fault

not_there : (bad there full : Bool) → (if bad then Some pool_fault.BadSlots else (if there then Some pool_fault.Exists else (if full then Some pool_fault.Full else None))) ≡ None → there ≡ false
not_there true there full is = cc
not_there false true full is = cc
not_there false false full is = refl

-- a pool that may be added is not there
pub absent : (pools : List Pool) (name : List ℕ) (slots : ℕ) → add_fault pools name slots ≡ None → pool_of pools name ≡ None
absent pools name slots free =
    none_there name_of pools name (not_there (nat_lt most_slots slots) (has_pool pools name) (nat_le most_pools (length pools)) free)

removable : (there default used : Bool) → (if not there then Some pool_fault.NoSuchPool else (if default then Some pool_fault.DefaultPool else (if used then Some pool_fault.InUse else None))) ≡ None → (there ≡ true) × ((default ≡ false) × (used ≡ false))
removable false default used is = absurd (none_some (sym is))
removable true true used is = absurd (none_some (sym is))
removable true false true is = absurd (none_some (sym is))
removable true false false is = (refl, (refl, refl))

-- a pool that may be deleted is there, is not the default pool, and no task names it
pub free_to_go : (state : StateRows) (name : List ℕ) → remove_fault pools_of_row state.dags state.pools name ≡ None → (has_pool state.pools name ≡ true) × ((pointwise nat_eq name default_name ≡ false) × (is_in_use pools_of_row state.dags name ≡ false))
free_to_go state name free =
    removable (has_pool state.pools name) (pointwise nat_eq name default_name) (is_in_use pools_of_row state.dags name) free

-- ---- edits

add_apart : (state : StateRows) (name : List ℕ) (slots : ℕ) → add_fault state.pools name slots ≡ None → with_pool state.pools (record { name = name; slots = slots }) ≢ state.pools
add_apart state name slots free same =
    added_apart name_of state.pools (record { name = name; slots = slots }) (absent state.pools name slots free) same

pub add_exact : (state : StateRows) (name : List ℕ) (slots : ℕ) → add_fault state.pools name slots ≡ None → IsExact state (edit.PoolAdded name slots)
add_exact state name slots free =
    ((λ no. cc), (λ same. absurd (add_apart state name slots free (ap (λ (s : StateRows). s.pools) same))))

other_slots : (pool : Pool) (slots : ℕ) → (pool.slots == slots) ≡ false → record pool { slots = slots } ≡ pool → ⊥
other_slots pool slots differ same = eqb-false pool.slots slots differ (ap (λ (p : Pool). p.slots) (sym same))

set_apart : (state : StateRows) (name : List ℕ) (pool : Pool) (slots : ℕ) → pool_of state.pools name ≡ Some pool → (pool.slots == slots) ≡ false → with_slots state.pools name slots ≢ state.pools
set_apart state name pool slots found differ same =
    changed_apart name_of (λ (p : Pool). record p { slots = slots }) (λ p. refl) state.pools name pool found (other_slots pool slots differ) same

pub set_exact : (b : Bool) (state : StateRows) (name : List ℕ) (pool : Pool) (slots : ℕ) → pool_of state.pools name ≡ Some pool → (pool.slots == slots) ≡ b → IsExact state (if b then edit.Nothing else edit.PoolSet name slots)
set_exact true state name pool slots found is = ((λ no. refl), (λ same. refl))
set_exact false state name pool slots found is =
    ((λ no. cc), (λ same. absurd (set_apart state name pool slots found is (ap (λ (s : StateRows). s.pools) same))))

pub set_next : (b : Bool) (state : StateRows) (name : List ℕ) (slots : ℕ) → next_by (if b then edit.Nothing else edit.PoolSet name slots) state ≡ (if b then None else Some (record state { pools = with_slots state.pools name slots }))
set_next true state name slots = refl
set_next false state name slots = refl

remove_apart : (state : StateRows) (name : List ℕ) → remove_fault pools_of_row state.dags state.pools name ≡ None → without_pool state.pools name ≢ state.pools
remove_apart state name free same =
    let found = some_there name_of state.pools name (free_to_go state name free).0 in
    removed_apart name_of state.pools name found.0 found.1 same

pub remove_exact : (state : StateRows) (name : List ℕ) → remove_fault pools_of_row state.dags state.pools name ≡ None → IsExact state (edit.PoolRemoved name)
remove_exact state name free =
    ((λ no. cc), (λ same. absurd (remove_apart state name free (ap (λ (s : StateRows). s.pools) same))))

-- ---- what each operation leaves

got_kept : (found : Result Pool OpFault) (state : StateRows) (effect : Effect) → (found >>= (λ pool. Ok (kept (told state pool)))) ≡ Ok effect → effect.next ≡ None
got_kept (Err fault) state effect is = cc
got_kept (Ok pool) state effect is = kept_next (told state pool) effect is

-- a pool that is added: it was read and was not there
pub record AddsPool (state : StateRows) (input : Result Pool BodyFault) (next : StateRows) : Type 0 where
  pub pool : Pool
  pub read : input ≡ Ok pool
  pub free : add_fault state.pools pool.name pool.slots ≡ None
  pub next_is : next ≡ record state { pools = with_pool state.pools pool }

adds_free : (why : Option PoolFault) (state : StateRows) (pool : Pool) (effect : Effect) (next : StateRows) → add_fault state.pools pool.name pool.slots ≡ why → (unless_fault why >>= (λ free. Ok (adding state pool))) ≡ Ok effect → effect.next ≡ Some next → AddsPool state (Ok pool) next
unfolding next_in
adds_free (Some why) state pool effect next at is changes = cc
adds_free None state pool effect next at is changes = record {
  pool = pool;
  read = refl;
  free = at;
  next_is = some_same (sym changes ∙ ap (λ (r : Result Effect OpFault). next_in r) (sym is));
}

pub adds : (state : StateRows) (input : Result Pool BodyFault) (effect : Effect) (next : StateRows) → pool_added state input ≡ Ok effect → effect.next ≡ Some next → AddsPool state input next
adds state (Err why) effect next is changes = cc
adds state (Ok pool) effect next is changes = adds_free (add_fault state.pools pool.name pool.slots) state pool effect next refl is changes

-- a pool that gets other slots: they were read, and it is there and has not these
pub record SetsPool (state : StateRows) (name : List ℕ) (input : Result ℕ BodyFault) (next : StateRows) : Type 0 where
  pub slots : ℕ
  pub pool : Pool
  pub read : input ≡ Ok slots
  pub found : pool_of state.pools name ≡ Some pool
  pub differ : (pool.slots == slots) ≡ false
  pub next_is : next ≡ record state { pools = with_slots state.pools name slots }

sets_differ : (b : Bool) (state : StateRows) (name : List ℕ) (pool : Pool) (slots : ℕ) (next : StateRows) → pool_of state.pools name ≡ Some pool → (pool.slots == slots) ≡ b → (if b then None else Some (record state { pools = with_slots state.pools name slots })) ≡ Some next → SetsPool state name (Ok slots) next
sets_differ true state name pool slots next found at is = cc
sets_differ false state name pool slots next found at is = record {
  slots = slots;
  pool = pool;
  read = refl;
  found = found;
  differ = at;
  next_is = sym (some_same is);
}

sets_found : (found : Option Pool) (state : StateRows) (name : List ℕ) (slots : ℕ) (effect : Effect) (next : StateRows) → pool_of state.pools name ≡ found → (ok_or found NoSuchPool >>= (λ pool. Ok (setting state name pool slots))) ≡ Ok effect → effect.next ≡ Some next → SetsPool state name (Ok slots) next
unfolding next_in
sets_found None state name slots effect next at is changes = cc
sets_found (Some pool) state name slots effect next at is changes =
    sets_differ (pool.slots == slots) state name pool slots next at refl (ap (λ (r : Result Effect OpFault). next_in r) is ∙ changes)

sets_free : (why : Option PoolFault) (state : StateRows) (name : List ℕ) (slots : ℕ) (effect : Effect) (next : StateRows) → (unless_fault why >>= (λ free. pool_or state name) >>= (λ pool. Ok (setting state name pool slots))) ≡ Ok effect → effect.next ≡ Some next → SetsPool state name (Ok slots) next
sets_free (Some why) state name slots effect next is changes = cc
sets_free None state name slots effect next is changes = sets_found (pool_of state.pools name) state name slots effect next refl is changes

pub sets : (state : StateRows) (name : List ℕ) (input : Result ℕ BodyFault) (effect : Effect) (next : StateRows) → pool_changed state name input ≡ Ok effect → effect.next ≡ Some next → SetsPool state name input next
sets state name (Err why) effect next is changes = cc
sets state name (Ok slots) effect next is changes = sets_free (set_fault state.pools name slots) state name slots effect next is changes

-- a pool that is deleted: nothing hindered it
pub record RemovesPool (state : StateRows) (name : List ℕ) (next : StateRows) : Type 0 where
  pub free : remove_fault pools_of_row state.dags state.pools name ≡ None
  pub next_is : next ≡ record state { pools = without_pool state.pools name }

removes_free : (why : Option PoolFault) (state : StateRows) (name : List ℕ) (effect : Effect) (next : StateRows) → remove_fault pools_of_row state.dags state.pools name ≡ why → (unless_fault why >>= (λ free. Ok (left_with (record state { pools = without_pool state.pools name })))) ≡ Ok effect → effect.next ≡ Some next → RemovesPool state name next
unfolding next_in
removes_free (Some why) state name effect next at is changes = cc
removes_free None state name effect next at is changes = record {
  free = at;
  next_is = some_same (sym changes ∙ ap (λ (r : Result Effect OpFault). next_in r) (sym is));
}

pub removes : (state : StateRows) (name : List ℕ) (effect : Effect) (next : StateRows) → pool_deleted state name ≡ Ok effect → effect.next ≡ Some next → RemovesPool state name next
removes state name effect next is changes = removes_free (remove_fault pools_of_row state.dags state.pools name) state name effect next refl is changes

-- what is asked for by GET
pub pools_keep : (state : StateRows) (it : PoolOp) (effect : Effect) → (route_of (pools.endpoint_of it)).method ≡ Get → pool_effect state it ≡ Ok effect → effect.next ≡ None
pools_keep state (pool_op.List asked) effect get is = window_kept asked (λ window. pools_data window state) effect is
pools_keep state (pool_op.Add input) effect get is = cc
pools_keep state (pool_op.Get name) effect get is = got_kept (pool_or state name) state effect is
pools_keep state (pool_op.Change name input) effect get is = cc
pools_keep state (pool_op.Delete name) effect get is = cc

unchanged : {X : Type 0} (effect : Effect) (next : StateRows) → effect.next ≡ None → effect.next ≡ Some next → X
unchanged effect next none changes = absurd (none_some (sym none ∙ changes))

-- a change leaves other pools
pub pools_differ : (it : PoolOp) (state next : StateRows) (effect : Effect) → pool_effect state it ≡ Ok effect → effect.next ≡ Some next → next ≢ state
pools_differ (pool_op.List asked) state next effect is changes same = unchanged effect next (window_kept asked (λ window. pools_data window state) effect is) changes
pools_differ (pool_op.Add input) state next effect is changes same =
    let it = adds state input effect next is changes in
    add_apart state it.pool.name it.pool.slots it.free (ap (λ (s : StateRows). s.pools) (sym it.next_is ∙ same))
pools_differ (pool_op.Get name) state next effect is changes same = unchanged effect next (got_kept (pool_or state name) state effect is) changes
pools_differ (pool_op.Change name input) state next effect is changes same =
    let it = sets state name input effect next is changes in
    set_apart state name it.pool it.slots it.found it.differ (ap (λ (s : StateRows). s.pools) (sym it.next_is ∙ same))
pools_differ (pool_op.Delete name) state next effect is changes same =
    let it = removes state name effect next is changes in
    remove_apart state name it.free (ap (λ (s : StateRows). s.pools) (sym it.next_is ∙ same))

-- ---- one pool alone

added_alone : (state : StateRows) (pool : Pool) → TouchesOnePool pool.name state (record state { pools = with_pool state.pools pool })
added_alone state pool = record {
  others = λ other apart. added_found name_of state.pools pool other ∙ ap (λ (b : Bool). cond b (Some pool) (pool_of state.pools other)) apart;
  rest = refl;
}

set_alone : (state : StateRows) (name : List ℕ) (slots : ℕ) → TouchesOnePool name state (record state { pools = with_slots state.pools name slots })
set_alone state name slots = record {
  others = λ other apart.
      changed_found name_of (λ (p : Pool). record p { slots = slots }) (λ p. refl) name other state.pools
      ∙ ap (λ (b : Bool). cond b (option_map (λ (p : Pool). record p { slots = slots }) (pool_of state.pools other)) (pool_of state.pools other)) apart;
  rest = refl;
}

removed_alone : (state : StateRows) (name : List ℕ) → TouchesOnePool name state (record state { pools = without_pool state.pools name })
removed_alone state name = record {
  others = λ other apart. removed_found name_of state.pools name other ∙ ap (λ (b : Bool). cond (not b) (pool_of state.pools other) None) apart;
  rest = refl;
}

pub pools_touch : (it : PoolOp) (state next : StateRows) (effect : Effect) → pool_effect state it ≡ Ok effect → effect.next ≡ Some next → TouchesOnePool (pools.name_of it) state next
pools_touch (pool_op.List asked) state next effect is changes = unchanged effect next (window_kept asked (λ window. pools_data window state) effect is) changes
pools_touch (pool_op.Add input) state next effect is changes =
    let it = adds state input effect next is changes in
    subst (λ (s : StateRows). TouchesOnePool (pools.added_name input) state s) (sym it.next_is)
    (subst (λ (i : Result Pool BodyFault). TouchesOnePool (pools.added_name i) state (record state { pools = with_pool state.pools it.pool })) (sym it.read) (added_alone state it.pool))
pools_touch (pool_op.Get name) state next effect is changes = unchanged effect next (got_kept (pool_or state name) state effect is) changes
pools_touch (pool_op.Change name input) state next effect is changes =
    let it = sets state name input effect next is changes in
    subst (λ (s : StateRows). TouchesOnePool name state s) (sym it.next_is) (set_alone state name it.slots)
pools_touch (pool_op.Delete name) state next effect is changes =
    let it = removes state name effect next is changes in
    subst (λ (s : StateRows). TouchesOnePool name state s) (sym it.next_is) (removed_alone state name)

-- ---- what is told of a page

-- pools, each with what instances hold of it, are told as they are one by one
pub listed_told : (state : StateRows) (rows : List Pool) → listed rows (map (λ (pool : Pool). held_of state pool.name) rows) ≡ map (λ (pool : Pool). pool_told state pool.name pool.slots) rows
listed_told state [] = refl
listed_told state (pool ∷ rows) = ap (λ (rest : List PoolTold). pool_told state pool.name pool.slots ∷ rest) (listed_told state rows)
