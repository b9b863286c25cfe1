use Rattle.std.proofs.Common.{◌≡◌, ◌∙◌, ap, sym, Some}
use Rattle.af_policy.specs.SharedRows.{found}
use Rattle.af_policy.specs.Tables.{digest_row}
use Rattle.af_policy.proofs.RemovalLemmas.{digest_named}
use Rattle.af_policy.proofs.user_table.UserTable.with_digest.Goals as goal

pub returns-in-Some-clause-value : goal.returns-in-Some-clause-value
returns-in-Some-clause-value c =
    ap Some c.user.ensures
    ∙ c.in-Some.ensures
    ∙ ap (found (λ user. user.digest) c.self.inside.by_digest) c.as_slice.ensures
    ∙ c.self.invariant.table.indexed c.args.digest.now
    ∙ ap (λ users. digest_row users c.args.digest.now) c.self.view_is

pub returns-in-Some-clause-named : goal.returns-in-Some-clause-named
returns-in-Some-clause-named c =
    let has : Some c.user.result.now ≡ digest_row c.args.self.now c.args.digest.now =
    ap Some c.user.ensures
    ∙ c.in-Some.ensures
    ∙ ap (found (λ user. user.digest) c.self.inside.by_digest) c.as_slice.ensures
    ∙ c.self.invariant.table.indexed c.args.digest.now
    ∙ ap (λ users. digest_row users c.args.digest.now) c.self.view_is
    in digest_named c.args.digest.now c.args.self.now c.user.result.now c.facts.ensures.ascend (sym has)
