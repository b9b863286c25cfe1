use Rattle.std.proofs.Common.{◌∙◌, ◌+◌, ap}
use Rattle.af_policy.specs.Rows.{UserRow}
use Rattle.af_policy.specs.Uses.{count_in, uses_in}
use Rattle.af_policy.proofs.UseLemmas.{mentions_more}
use Rattle.af_policy.proofs.mentions.mentions_of.Goals as goal

pub loop-user-preserved : goal.loop-user-preserved
loop-user-preserved c role is =
    mentions_more c.args.users.now c.loop-user.user-index c.user-item.result role (count_in c.loop-user.counts role) (count_in c.add_each.new.counts role)
    c.user-item.is c.loop-user-test.true (c.loop-user.invariant role is) (c.in_ok-add_each.ensures role is ∙ ap (λ names. count_in c.loop-user.counts role + uses_in names role) (c.roles.ensures ∙ ap (λ (user : UserRow). user.roles) c.user.ensures))
