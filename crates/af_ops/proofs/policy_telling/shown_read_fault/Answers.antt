use Rattle.af_ops.proofs.policy_telling.shown_read_fault.Goals as goal

pub returns-in-NoSuchRole : goal.returns-in-NoSuchRole
returns-in-NoSuchRole c = rw (c.in-NoSuchRole.is, ← c.read_name.ensures) c.shown_absent.ensures
