use Rattle.std.proofs.Common.{sym, ap, ◌∙◌}
use Rattle.af_policy.specs.Rows.{PolicyRows, without_user}
use Rattle.af_policy.specs.Uses.{mentions}
use Rattle.af_policy.proofs.PlaceLemmas.{within-without_user}
use Rattle.af_policy.proofs.RemovalLemmas.{roles_exist-without_user}
use Rattle.af_policy.proofs.tables.Tables.take_user.Goals as goal

pub invariant_of-self : goal.invariant_of-self
invariant_of-self c = record {
  exist = rw c.in_ok-users.ensures (roles_exist-without_user c.self.inside.users c.self.inside.roles c.args.name.now c.self.invariant.exist);
  counted =
      λ name is. c.in_ok-uses.ensures name is
      ∙ ap (λ (policy : PolicyRows). mentions (without_user policy.users c.args.name.now) name) (sym c.self.view_is)
      ∙ ap (λ users. mentions users name) (sym c.in_ok-users.ensures);
  within = rw c.in_ok-users.ensures (within-without_user c.self.inside.users c.self.inside.roles c.self.invariant.within c.args.name.now);
}
