use Rattle.af_vars.proofs.VariableLemmas.{none_there}
use Rattle.af_vars.proofs.variables.Variables.new.Goals as goal

pub invariant_of-result : goal.invariant_of-result
invariant_of-result c = rw c.new.ensures none_there
