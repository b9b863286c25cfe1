use Rattle.std.proofs.Common.{◌∙◌, ap}
use Rattle.af_policy.specs.SharedRows.{with_row}
use Rattle.af_policy.specs.Rows.{UserRow, has_digest, has_user, with_user}
use Rattle.af_policy.specs.Tables.{NameRow, name_row}
use Rattle.af_policy.proofs.NamedTableLemmas.{shows-with}
use Rattle.af_policy.proofs.user_table.UserTable.insert.Goals as goal

pub invariant_of-self : goal.invariant_of-self
invariant_of-self c =
    let own = c.new-2.ensures ∙ ap name_row c.in_ok-user.ensures.ok
    in let other = c.new-3.ensures ∙ c.in_ok-other.ensures ∙ c.in_ok-user.ensures.ok
    in (shows-with c.self.inside.by_digest c.self.inside.by_name c.self.invariant c.args.user c.in_ok-by_digest.by_digest c.in_ok-by_name.by_name
    (ap (λ users. has_user users c.args.user.name) c.self.view_is ∙ c.requires.name)
    (ap (λ users. has_digest users c.args.user.digest) c.self.view_is ∙ c.requires.digest)
    (c.in_ok-by_name.ensures ∙ ap (with_row (λ (own : NameRow). own.name) c.self.inside.by_name) own)
    (c.in_ok-by_digest.ensures ∙ ap (with_row (λ (user : UserRow). user.digest) c.self.inside.by_digest) other)).named

pub returns-clause-ok : goal.returns-clause-ok
returns-clause-ok c =
    let own = c.new-2.ensures ∙ ap name_row c.in_ok-user.ensures.ok
    in let other = c.new-3.ensures ∙ c.in_ok-other.ensures ∙ c.in_ok-user.ensures.ok
    in (shows-with c.self.inside.by_digest c.self.inside.by_name c.self.invariant c.args.user c.in_ok-by_digest.by_digest c.in_ok-by_name.by_name
    (ap (λ users. has_user users c.args.user.name) c.self.view_is ∙ c.requires.name)
    (ap (λ users. has_digest users c.args.user.digest) c.self.view_is ∙ c.requires.digest)
    (c.in_ok-by_name.ensures ∙ ap (with_row (λ (own : NameRow). own.name) c.self.inside.by_name) own)
    (c.in_ok-by_digest.ensures ∙ ap (with_row (λ (user : UserRow). user.digest) c.self.inside.by_digest) other)).shown
    ∙ ap (λ users. with_user users c.args.user) c.self.view_is
