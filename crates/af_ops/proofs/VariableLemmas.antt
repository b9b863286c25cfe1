-- What operations on variables leave, and that an edit of variables changes them.
use Rattle.std.proofs.Common.{◌≡◌, ◌≢◌, ◌∙◌, ℕ, Bool, true, false, cond, not, List, refl, sym, ap, subst, nat_eq, nat_le, length}
use Rattle.std.specs.Prelude.{Option, Some, None, is_some, option_map, ok_or, Result, Ok, Err, if◌then◌else◌}
use Rattle.std.proofs.lemmas.Bool.{false≢true}
use Rattle.std.specs.Cmp.Lexicographic.{pointwise, bytes_decides}
use Rattle.af_base.specs.Ordered.{has_key}
use Rattle.af_base.specs.Readings.{◌>>=◌}
use Rattle.af_sched.specs.State.{StateRows, StateWithRoom}
use Rattle.af_vars.specs.Variables.{add_fault, change_fault, has_variable, key_of, most_variables, variable_of, with_value, with_variable, without_variable}
use Rattle.af_vars.specs.declared.fault.VariableFault.{VariableFault}
use Rattle.af_vars.specs.declared.fault.VariableFault.TheVariants as variable_fault
use Rattle.af_vars.specs.declared.variable.Variable.{Variable}
use Rattle.af_ops.specs.declared.answer.OpFault.{OpFault}
use Rattle.af_ops.specs.declared.answer.OpFault.TheVariants.{NoSuchVariable}
use Rattle.af_ops.specs.declared.body_fault.BodyFault.{BodyFault}
use Rattle.af_ops.specs.declared.edit.Edit.TheVariants as edit
use Rattle.af_ops.specs.declared.method.Method.TheVariants.{Get}
use Rattle.af_ops.specs.declared.variable_op.VariableOp.{VariableOp}
use Rattle.af_ops.specs.declared.variable_op.VariableOp.TheVariants as variable_op
use Rattle.af_ops.specs.Edits.{next_by}
use Rattle.af_ops.specs.EffectParts.{Effect, kept, left_with}
use Rattle.af_ops.specs.Prepared.{CanDo, IsExact}
use Rattle.af_ops.specs.Replies.{variable_data}
use Rattle.af_ops.specs.RowLaws.{TouchesOneVariable}
use Rattle.af_ops.specs.Table.{route_of}
use Rattle.af_ops.specs.VariableEffects.{adding, unless_fault, variable_added, variable_changed, variable_deleted, variable_effect, variable_or, variables_data, writing}
use Rattle.af_ops.specs.VariableOps as variables
use Rattle.af_ops.proofs.KeyLemmas.{added_apart, added_found, any_found, changed_apart, changed_found, none_there, removed_apart, removed_found, some_there}
use Rattle.af_ops.proofs.ListingLemmas.{kept_next, next_in, window_kept}

none_some : {X : Type 0} {x : X} → None ≡ Some x → ⊥
none_some same = cc

some_same : {X : Type 0} {x y : X} → Some x ≡ Some y → x ≡ y
some_same is = cc

-- ---- no fault

not_there : (there full : Bool) → (if there then Some variable_fault.Exists else (if full then Some variable_fault.Full else None)) ≡ None → there ≡ false
not_there true full is = cc
not_there false full is = refl

-- a variable that may be added is not there
pub absent : (variables : List Variable) (key : List ℕ) → add_fault variables key ≡ None → variable_of variables key ≡ None
absent variables key free =
    none_there key_of variables key (not_there (has_variable variables key) (nat_le most_variables (length variables)) free)

changeable : (there : Bool) → (if not there then Some variable_fault.NoSuchVariable else None) ≡ None → there ≡ true
changeable true is = refl
changeable false is = absurd (none_some (sym is))

-- one that may be changed is there
pub there : (state : StateRows) (key : List ℕ) → change_fault state.variables key ≡ None → has_variable state.variables key ≡ true
there state key free = changeable (has_variable state.variables key) free

-- one that is there may be changed
pub found_free : (state : StateRows) (key : List ℕ) (variable : Variable) → variable_of state.variables key ≡ Some variable → change_fault state.variables key ≡ None
found_free state key variable found =
    ap (λ (b : Bool). if not b then Some variable_fault.NoSuchVariable else None)
    (any_found (has_key key_of key) state.variables ∙ ap (λ (o : Option Variable). is_some o) found)

-- ---- edits

add_apart : (state : StateRows) (variable : Variable) → add_fault state.variables variable.key ≡ None → with_variable state.variables variable ≢ state.variables
add_apart state variable free same = added_apart key_of state.variables variable (absent state.variables variable.key free) same

pub add_exact : (state : StateRows) (variable : Variable) → add_fault state.variables variable.key ≡ None → IsExact state (edit.VariableAdded variable)
add_exact state variable free =
    ((λ no. cc), (λ same. absurd (add_apart state variable free (ap (λ (s : StateRows). s.variables) same))))

other_text : (variable : Variable) (value : List ℕ) → pointwise nat_eq variable.value value ≡ false → record variable { value = value } ≡ variable → ⊥
other_text variable value differ same =
    false≢true (sym differ ∙ (bytes_decides variable.value value).1 (ap (λ (v : Variable). v.value) (sym same)))

write_apart : (state : StateRows) (key : List ℕ) (variable : Variable) (value : List ℕ) → variable_of state.variables key ≡ Some variable → pointwise nat_eq variable.value value ≡ false → with_value state.variables key value ≢ state.variables
write_apart state key variable value found differ same =
    changed_apart key_of (λ (v : Variable). record v { value = value }) (λ v. refl) state.variables key variable found (other_text variable value differ) same

pub write_exact : (b : Bool) (state : StateRows) (key : List ℕ) (variable : Variable) (value : List ℕ) → variable_of state.variables key ≡ Some variable → pointwise nat_eq variable.value value ≡ b → IsExact state (if b then edit.Nothing else edit.VariableSet key value)
write_exact true state key variable value found is = ((λ no. refl), (λ same. refl))
write_exact false state key variable value found is =
    ((λ no. cc), (λ same. absurd (write_apart state key variable value found is (ap (λ (s : StateRows). s.variables) same))))

-- and it takes no memory
pub write_room : (b : Bool) (state : StateWithRoom) (key : List ℕ) (variable : Variable) (value : List ℕ) → variable_of state.rows.variables key ≡ Some variable → CanDo state (if b then edit.Nothing else edit.VariableSet key value)
write_room true state key variable value found = tt
write_room false state key variable value found = found_free state.rows key variable found

pub write_next : (b : Bool) (state : StateRows) (key value : List ℕ) → next_by (if b then edit.Nothing else edit.VariableSet key value) state ≡ (if b then None else Some (record state { variables = with_value state.variables key value }))
write_next true state key value = refl
write_next false state key value = refl

remove_apart : (state : StateRows) (key : List ℕ) → change_fault state.variables key ≡ None → without_variable state.variables key ≢ state.variables
remove_apart state key free same =
    let found = some_there key_of state.variables key (there state key free) in
    removed_apart key_of state.variables key found.0 found.1 same

pub remove_exact : (state : StateRows) (key : List ℕ) → change_fault state.variables key ≡ None → IsExact state (edit.VariableRemoved key)
remove_exact state key free =
    ((λ no. cc), (λ same. absurd (remove_apart state key free (ap (λ (s : StateRows). s.variables) same))))

-- ---- what each operation leaves

got_kept : (found : Result Variable OpFault) (effect : Effect) → (found >>= (λ variable. Ok (kept (variable_data variable)))) ≡ Ok effect → effect.next ≡ None
got_kept (Err fault) effect is = cc
got_kept (Ok variable) effect is = kept_next (variable_data variable) effect is

-- a variable that is added: it was read and was not there
pub record AddsVariable (state : StateRows) (input : Result Variable BodyFault) (next : StateRows) : Type 0 where
  pub variable : Variable
  pub read : input ≡ Ok variable
  pub free : add_fault state.variables variable.key ≡ None
  pub next_is : next ≡ record state { variables = with_variable state.variables variable }

adds_free : (why : Option VariableFault) (state : StateRows) (variable : Variable) (effect : Effect) (next : StateRows) → add_fault state.variables variable.key ≡ why → (unless_fault why >>= (λ free. Ok (adding state variable))) ≡ Ok effect → effect.next ≡ Some next → AddsVariable state (Ok variable) next
unfolding next_in
adds_free (Some why) state variable effect next at is changes = cc
adds_free None state variable effect next at is changes = record {
  variable = variable;
  read = refl;
  free = at;
  next_is = some_same (sym changes ∙ ap (λ (r : Result Effect OpFault). next_in r) (sym is));
}

pub adds : (state : StateRows) (input : Result Variable BodyFault) (effect : Effect) (next : StateRows) → variable_added state input ≡ Ok effect → effect.next ≡ Some next → AddsVariable state input next
adds state (Err why) effect next is changes = cc
adds state (Ok variable) effect next is changes = adds_free (add_fault state.variables variable.key) state variable effect next refl is changes

-- a variable that gets another text: that was read, and the variable is there and holds another one
pub record WritesVariable (state : StateRows) (key : List ℕ) (input : Result (List ℕ) BodyFault) (next : StateRows) : Type 0 where
  pub value : List ℕ
  pub variable : Variable
  pub read : input ≡ Ok value
  pub found : variable_of state.variables key ≡ Some variable
  pub differ : pointwise nat_eq variable.value value ≡ false
  pub next_is : next ≡ record state { variables = with_value state.variables key value }

writes_differ : (b : Bool) (state : StateRows) (key : List ℕ) (variable : Variable) (value : List ℕ) (next : StateRows) → variable_of state.variables key ≡ Some variable → pointwise nat_eq variable.value value ≡ b → (if b then None else Some (record state { variables = with_value state.variables key value })) ≡ Some next → WritesVariable state key (Ok value) next
writes_differ true state key variable value next found at is = cc
writes_differ false state key variable value next found at is = record {
  value = value;
  variable = variable;
  read = refl;
  found = found;
  differ = at;
  next_is = sym (some_same is);
}

writes_found : (found : Option Variable) (state : StateRows) (key value : List ℕ) (effect : Effect) (next : StateRows) → variable_of state.variables key ≡ found → (ok_or found NoSuchVariable >>= (λ variable. Ok (writing state key variable value))) ≡ Ok effect → effect.next ≡ Some next → WritesVariable state key (Ok value) next
unfolding next_in
writes_found None state key value effect next at is changes = cc
writes_found (Some variable) state key value effect next at is changes =
    writes_differ (pointwise nat_eq variable.value value) state key variable value next at refl (ap (λ (r : Result Effect OpFault). next_in r) is ∙ changes)

pub writes : (state : StateRows) (key : List ℕ) (input : Result (List ℕ) BodyFault) (effect : Effect) (next : StateRows) → variable_changed state key input ≡ Ok effect → effect.next ≡ Some next → WritesVariable state key input next
writes state key (Err why) effect next is changes = cc
writes state key (Ok value) effect next is changes = writes_found (variable_of state.variables key) state key value effect next refl is changes

-- a variable that is deleted: it was there
pub record RemovesVariable (state : StateRows) (key : List ℕ) (next : StateRows) : Type 0 where
  pub free : change_fault state.variables key ≡ None
  pub next_is : next ≡ record state { variables = without_variable state.variables key }

removes_free : (why : Option VariableFault) (state : StateRows) (key : List ℕ) (effect : Effect) (next : StateRows) → change_fault state.variables key ≡ why → (unless_fault why >>= (λ free. Ok (left_with (record state { variables = without_variable state.variables key })))) ≡ Ok effect → effect.next ≡ Some next → RemovesVariable state key next
unfolding next_in
removes_free (Some why) state key effect next at is changes = cc
removes_free None state key effect next at is changes = record {
  free = at;
  next_is = some_same (sym changes ∙ ap (λ (r : Result Effect OpFault). next_in r) (sym is));
}

pub removes : (state : StateRows) (key : List ℕ) (effect : Effect) (next : StateRows) → variable_deleted state key ≡ Ok effect → effect.next ≡ Some next → RemovesVariable state key next
removes state key effect next is changes = removes_free (change_fault state.variables key) state key effect next refl is changes

-- what is asked for by GET
pub variables_keep : (state : StateRows) (it : VariableOp) (effect : Effect) → (route_of (variables.endpoint_of it)).method ≡ Get → variable_effect state it ≡ Ok effect → effect.next ≡ None
variables_keep state (variable_op.List asked) effect get is = window_kept asked (λ window. variables_data window state.variables) effect is
variables_keep state (variable_op.Add input) effect get is = cc
variables_keep state (variable_op.Get key) effect get is = got_kept (variable_or state key) effect is
variables_keep state (variable_op.Change key input) effect get is = cc
variables_keep state (variable_op.Delete key) effect get is = cc

unchanged : {X : Type 0} (effect : Effect) (next : StateRows) → effect.next ≡ None → effect.next ≡ Some next → X
unchanged effect next none changes = absurd (none_some (sym none ∙ changes))

-- a change leaves other variables
pub variables_differ : (it : VariableOp) (state next : StateRows) (effect : Effect) → variable_effect state it ≡ Ok effect → effect.next ≡ Some next → next ≢ state
variables_differ (variable_op.List asked) state next effect is changes same = unchanged effect next (window_kept asked (λ window. variables_data window state.variables) effect is) changes
variables_differ (variable_op.Add input) state next effect is changes same =
    let it = adds state input effect next is changes in
    add_apart state it.variable it.free (ap (λ (s : StateRows). s.variables) (sym it.next_is ∙ same))
variables_differ (variable_op.Get key) state next effect is changes same = unchanged effect next (got_kept (variable_or state key) effect is) changes
variables_differ (variable_op.Change key input) state next effect is changes same =
    let it = writes state key input effect next is changes in
    write_apart state key it.variable it.value it.found it.differ (ap (λ (s : StateRows). s.variables) (sym it.next_is ∙ same))
variables_differ (variable_op.Delete key) state next effect is changes same =
    let it = removes state key effect next is changes in
    remove_apart state key it.free (ap (λ (s : StateRows). s.variables) (sym it.next_is ∙ same))

-- ---- one variable alone

added_alone : (state : StateRows) (variable : Variable) → TouchesOneVariable variable.key state (record state { variables = with_variable state.variables variable })
added_alone state variable = record {
  others = λ other apart. added_found key_of state.variables variable other ∙ ap (λ (b : Bool). cond b (Some variable) (variable_of state.variables other)) apart;
  rest = refl;
}

written_alone : (state : StateRows) (key value : List ℕ) → TouchesOneVariable key state (record state { variables = with_value state.variables key value })
written_alone state key value = record {
  others = λ other apart.
      changed_found key_of (λ (v : Variable). record v { value = value }) (λ v. refl) key other state.variables
      ∙ ap (λ (b : Bool). cond b (option_map (λ (v : Variable). record v { value = value }) (variable_of state.variables other)) (variable_of state.variables other)) apart;
  rest = refl;
}

removed_alone : (state : StateRows) (key : List ℕ) → TouchesOneVariable key state (record state { variables = without_variable state.variables key })
removed_alone state key = record {
  others = λ other apart. removed_found key_of state.variables key other ∙ ap (λ (b : Bool). cond (not b) (variable_of state.variables other) None) apart;
  rest = refl;
}

pub variables_touch : (it : VariableOp) (state next : StateRows) (effect : Effect) → variable_effect state it ≡ Ok effect → effect.next ≡ Some next → TouchesOneVariable (variables.key_of it) state next
variables_touch (variable_op.List asked) state next effect is changes = unchanged effect next (window_kept asked (λ window. variables_data window state.variables) effect is) changes
variables_touch (variable_op.Add input) state next effect is changes =
    let it = adds state input effect next is changes in
    subst (λ (s : StateRows). TouchesOneVariable (variables.added_key input) state s) (sym it.next_is)
    (subst (λ (i : Result Variable BodyFault). TouchesOneVariable (variables.added_key i) state (record state { variables = with_variable state.variables it.variable })) (sym it.read) (added_alone state it.variable))
variables_touch (variable_op.Get key) state next effect is changes = unchanged effect next (got_kept (variable_or state key) effect is) changes
variables_touch (variable_op.Change key input) state next effect is changes =
    let it = writes state key input effect next is changes in
    subst (λ (s : StateRows). TouchesOneVariable key state s) (sym it.next_is) (written_alone state key it.value)
variables_touch (variable_op.Delete key) state next effect is changes =
    let it = removes state key effect next is changes in
    subst (λ (s : StateRows). TouchesOneVariable key state s) (sym it.next_is) (removed_alone state key)
