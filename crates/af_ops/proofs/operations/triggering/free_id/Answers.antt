use Rattle.af_ops.proofs.operations.triggering.free_id.Goals as goal

pub returns-in-None-clause-told : goal.returns-in-None-clause-told
returns-in-None-clause-told c = rw c.in-None.is c.made_id.ensures.told
