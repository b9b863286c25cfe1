use Rattle.af_ops.proofs.policy_text.PairRow.put_fields.Goals as goal

pub returns : goal.returns
returns c = rw (← c.action.ensures.value, ← c.resource.ensures.value) c.put_pair.ensures
