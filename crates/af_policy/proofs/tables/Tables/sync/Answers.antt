use Rattle.af_policy.proofs.PlaceLemmas.{within-synced}
use Rattle.af_policy.proofs.SyncLemmas.{roles_exist-synced}
use Rattle.af_policy.proofs.tables.Tables.sync.Goals as goal

pub invariant_of-self-2 : goal.invariant_of-self-2
invariant_of-self-2 c = record {
  exist = rw c.in_ok-sync.ensures.ok (roles_exist-synced c.self.inside.users c.self.inside.roles c.args.dag.now c.args.access.now c.self.invariant.exist);
  counted = c.self.invariant.counted;
  within = rw c.in_ok-sync.ensures.ok (within-synced c.self.inside.users c.self.inside.roles c.self.invariant.within c.args.dag.now c.args.access.now);
}
