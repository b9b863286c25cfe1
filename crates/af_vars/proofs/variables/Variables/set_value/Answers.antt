use Rattle.af_vars.proofs.VariableLemmas.{AreVariables-with_value}
use Rattle.af_vars.proofs.variables.Variables.set_value.Goals as goal

pub invariant_of-self : goal.invariant_of-self
invariant_of-self c =
    let can = rw (← c.self.view_is) at c.in_ok-place.ensures.ok in
    rw (c.change_at.ensures.rows, c.as_str.ensures.text) (AreVariables-with_value c.self.inside.rows.rows c.args.key.now c.in_ok-place.place c.args.value can.stands c.self.invariant)
