use Rattle.af_vars.proofs.VariableLemmas.{AreVariables-with}
use Rattle.af_vars.proofs.variables.Variables.add.Goals as goal

pub invariant_of-self-2 : goal.invariant_of-self-2
invariant_of-self-2 c =
    let can = rw (← c.self.view_is) at c.in_ok-place.ensures.ok in
    rw c.in_ok-insert_at.ensures.ok (AreVariables-with _ _ _ can.fits c.self.invariant can.few)
