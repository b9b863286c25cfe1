-- The rows of the variables stay in order and few.
use Rattle.std.proofs.Common.{refl, ℕ, ◌<◌, List, [], length, get_or, not, arith}
use Rattle.std.specs.List.Sorted.{IsStrictlySortedBy}
use Rattle.std.proofs.lemmas.List.Edits.{length-insert}
use Rattle.std.proofs.Math.ListN.{length-set}
use Rattle.af_base.specs.Ordered.{has_key}
use Rattle.af_base.specs.Places.{StandsAt, FitsAt}
use Rattle.af_base.proofs.OrderedLemmas.{order-insert, order-set, order-without, with_row-is_insert, with_change-is_set}
use Rattle.af_names.proofs.OrderLemmas.{length-filter_le}
use Rattle.af_vars.specs.declared.variable.Variable.{Variable}
use Rattle.af_vars.specs.Variables.{AreVariables, key_of, most_variables, with_variable, with_value, without_variable}

pub none_there : AreVariables []
unfolding IsStrictlySortedBy
none_there = record { in_order = tt; few = omega arith }

-- one more variable, where its row fits
pub AreVariables-with : (variables : List Variable) (variable : Variable) (place : ℕ) → FitsAt key_of variables variable.key place → AreVariables variables → length variables < most_variables → AreVariables (with_variable variables variable)
AreVariables-with variables variable place fits are few = rw (with_row-is_insert key_of variables variable place fits) record {
  in_order = order-insert key_of variables variable place fits are.in_order;
  few = rw (length-insert variables place variable fits.within) (omega arith);
}

-- the row that stands at a place has another text
pub AreVariables-with_value : (variables : List Variable) (key : List ℕ) (place : ℕ) (value : List ℕ) → StandsAt key_of variables key place → AreVariables variables → AreVariables (with_value variables key value)
AreVariables-with_value variables key place value stands are =
    let d : Variable = record { key = []; value = [] } in
    let row : Variable = record (get_or variables place d) { value = value } in
    rw (with_change-is_set key_of variables key place stands (λ (variable : Variable). record variable { value = value }) d) record {
      in_order = order-set key_of variables place row d refl are.in_order;
      few = rw (length-set variables place row) are.few;
    }

-- the rows without that of a key
pub AreVariables-without : (variables : List Variable) (key : List ℕ) → AreVariables variables → AreVariables (without_variable variables key)
AreVariables-without variables key are = record {
  in_order = order-without key_of variables key are.in_order;
  few = let le = length-filter_le (λ (variable : Variable). not (has_key key_of key variable)) variables in omega (arith, are.few, le);
}
