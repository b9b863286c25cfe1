use Rattle.af_policy.proofs.RoleLemmas.{ordered-with_role}
use Rattle.af_policy.proofs.role_table.RoleTable.put.Goals as goal

pub invariant_of-self-2 : goal.invariant_of-self-2
invariant_of-self-2 c =
    rw (c.in_ok-put.ensures.ok, c.new-2.ensures, c.in_ok-shared.ensures.ok, c.in_ok-masked.ensures)
    (ordered-with_role c.args.role c.self.inside.by_name c.in_order.ensures c.self.invariant)
