use Rattle.af_policy.proofs.RoleLemmas.{ordered-synced}
use Rattle.af_policy.proofs.role_table.RoleTable.sync.Goals as goal

pub invariant_of-self : goal.invariant_of-self
invariant_of-self c = rw c.in_ok-by_name.ensures (ordered-synced c.args.dag.now c.args.access.now c.self.inside.by_name c.self.invariant)
