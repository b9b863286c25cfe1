use Rattle.std.proofs.Common.{◌≡◌, Some, not, ◌&&◌, sym, ap, ◌∙◌}
use Rattle.af_policy.specs.Rows.{PolicyRows, found_user, has_digest, same_digest, without_user}
use Rattle.af_policy.proofs.RemovalLemmas.{has_digest-without_user}
use Rattle.af_policy.proofs.tables.Tables.has_other_digest.Goals as goal

pub returns-then-other : goal.returns-then-other
returns-then-other c =
    let found : found_user c.self.inside.users c.args.name.now ≡ Some c.args.user.now = ap (λ (policy : PolicyRows). found_user policy.users c.args.name.now) c.self.view_is ∙ c.requires
    in ap (λ b. b && c.has_digest-taken.result) (sym c.if-other.true ∙ c.differ-other.ensures ∙ ap (λ d. not (same_digest d c.args.digest.now)) c.digest.ensures)
    ∙ ap (λ b. not (same_digest c.args.user.now.digest c.args.digest.now) && b) c.has_digest-taken.ensures
    ∙ sym (has_digest-without_user c.args.name.now c.args.user.now c.args.digest.now c.self.inside.users c.facts.ensures.ascend c.facts.ensures.differ found)
    ∙ ap (λ (policy : PolicyRows). has_digest (without_user policy.users c.args.name.now) c.args.digest.now) c.self.view_is

pub returns-else-other : goal.returns-else-other
returns-else-other c =
    let found : found_user c.self.inside.users c.args.name.now ≡ Some c.args.user.now = ap (λ (policy : PolicyRows). found_user policy.users c.args.name.now) c.self.view_is ∙ c.requires
    in c.if-other.false
    ∙ ap (λ b. b && c.has_digest-taken.result) (sym c.if-other.false ∙ c.differ-other.ensures ∙ ap (λ d. not (same_digest d c.args.digest.now)) c.digest.ensures)
    ∙ ap (λ b. not (same_digest c.args.user.now.digest c.args.digest.now) && b) c.has_digest-taken.ensures
    ∙ sym (has_digest-without_user c.args.name.now c.args.user.now c.args.digest.now c.self.inside.users c.facts.ensures.ascend c.facts.ensures.differ found)
    ∙ ap (λ (policy : PolicyRows). has_digest (without_user policy.users c.args.name.now) c.args.digest.now) c.self.view_is
