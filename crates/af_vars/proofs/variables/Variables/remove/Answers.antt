use Rattle.af_vars.proofs.VariableLemmas.{AreVariables-without}
use Rattle.af_vars.proofs.variables.Variables.remove.Goals as goal

pub invariant_of-self : goal.invariant_of-self
invariant_of-self c =
    rw (c.remove_at-variable.ensures.rows, c.as_str.ensures.text) (AreVariables-without _ _ c.self.invariant)
