use Rattle.std.proofs.Common.{◌≡◌, ◌-◌, sym, ap, ◌∙◌, arith}
use Rattle.af_policy.specs.Uses.{count_at, mentions, uses_in}
use Rattle.af_policy.proofs.OrderLemmas.{none_without}
use Rattle.af_policy.proofs.UseLemmas.{mentions-without_user}
use Rattle.af_policy.proofs.tables.Tables.uses_without.Goals as goal

pub returns-in_ok-take_all-in-Some : goal.returns-in_ok-take_all-in-Some
returns-in_ok-take_all-in-Some c role is =
    let users = c.self.inside.users
    in let whole = mentions-without_user c.in-Some.user.now c.args.name.now role users c.facts.ensures.ascend (sym c.in-Some.ensures)
    in let counted : count_at c.take_all.new.self role ≡ mentions users role - uses_in c.in-Some.user.now.roles role =
    c.in_ok-take_all-in-Some.ensures role is ∙ (λ i. count_at (c.in_ok-uses-in-Some.ensures i) role - uses_in (c.roles.ensures i) role)
    ∙ ap (λ n. n - uses_in c.in-Some.user.now.roles role) (c.self.invariant.counted role is)
    in rw (← c.self.view_is) (omega (arith, whole, counted))

pub returns-in_ok-uses-in-None : goal.returns-in_ok-uses-in-None
returns-in_ok-uses-in-None c role is =
    rw (← c.self.view_is)
    (ap (λ uses. count_at uses role) c.in_ok-uses-in-None.ensures
    ∙ c.self.invariant.counted role is
    ∙ ap (λ users. mentions users role) (sym (none_without (λ user. user.name) c.args.name.now c.self.inside.users (sym c.in-None.ensures))))
