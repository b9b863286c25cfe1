use Rattle.af_ops.proofs.policy_telling.shown_change_fault.Goals as goal

pub returns-in-BadAction : goal.returns-in-BadAction
returns-in-BadAction c = rw (c.in-BadAction.is, ← c.as_str.ensures) c.shown_bad.ensures

pub returns-in-UnknownRole : goal.returns-in-UnknownRole
returns-in-UnknownRole c = rw (c.in-UnknownRole.is, ← c.as_str-in-UnknownRole.ensures.text) c.shown_bad-in-UnknownRole.ensures

pub returns-in-NoSuchRole : goal.returns-in-NoSuchRole
returns-in-NoSuchRole c = rw (c.in-NoSuchRole.is) c.shown_absent.ensures

pub returns-in-DefaultRole : goal.returns-in-DefaultRole
returns-in-DefaultRole c = rw (c.in-DefaultRole.is) c.shown_conflict.ensures

pub returns-in-RoleInUse : goal.returns-in-RoleInUse
returns-in-RoleInUse c = rw (c.in-RoleInUse.is) c.shown_conflict-in-RoleInUse.ensures

pub returns-in-LastAdmin : goal.returns-in-LastAdmin
returns-in-LastAdmin c = rw (c.in-LastAdmin.is) c.shown_problem.ensures
