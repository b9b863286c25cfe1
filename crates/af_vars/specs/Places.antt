-- Where the row of a variable stands that may be changed, or would stand that may be added.
use Rattle.std.specs.Prelude.{ℕ, ◌≡◌, ◌<◌, None, List, length}
use Rattle.af_vars.specs.declared.variable.Variable.{Variable}
use Rattle.af_base.specs.Places.{StandsAt, FitsAt}
use Rattle.af_vars.specs.Variables.{key_of, most_variables, add_fault, change_fault}

-- a variable of this key may be added, and its row goes to this place
pub record CanAdd (variables : List Variable) (key : List ℕ) (place : ℕ) : Type 0 where
  pub no_fault : add_fault variables key ≡ None
  pub few : length variables < most_variables
  pub fits : FitsAt key_of variables key place

-- the variable of this key, whose row stands at this place, may be changed or removed
pub record CanChange (variables : List Variable) (key : List ℕ) (place : ℕ) : Type 0 where
  pub no_fault : change_fault variables key ≡ None
  pub stands : StandsAt key_of variables key place
