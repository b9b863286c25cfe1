use Rattle.std.proofs.Common.{◌∙◌, ap, sym, is_some, Some}
use Rattle.af_policy.specs.Changes.{replaced}
use Rattle.af_policy.specs.Rows.{UserRow, found_user, has_digest, without_user}
use Rattle.af_policy.specs.SharedRows.{found, with_row, without}
use Rattle.af_policy.specs.Tables.{NameRow, name_row, users_at}
use Rattle.af_policy.proofs.NamedTableLemmas.{digest_of_named, name_leads, shows-replaced}
use Rattle.af_policy.proofs.user_table.UserTable.replace.Goals as goal

pub names_with-requires : goal.names_with-requires
names_with-requires c =
    let users = users_at c.self.inside.by_digest c.self.inside.by_name
    in ap (λ user. found (λ (own : NameRow). own.name) c.self.inside.by_name user.name) c.in_ok-user.ensures.ok
    ∙ name_leads users c.self.inside.by_name (sym c.self.invariant.named) c.args.user.name c.args.before.now
    (ap (λ users. found_user users c.args.user.name) c.self.view_is ∙ c.requires.found)
    ∙ (λ i. Some (record { name = (sym c.in_ok-user.ensures.ok i).name; digest = sym c.digest-digest.ensures i }))

pub digests_with-requires : goal.digests_with-requires
digests_with-requires c =
    let users = users_at c.self.inside.by_digest c.self.inside.by_name
    in ap (λ digest. is_some (found (λ (user : UserRow). user.digest) c.self.inside.by_digest digest)) c.digest-digest.ensures
    ∙ ap is_some (c.self.invariant.table.indexed c.args.before.now.digest
    ∙ digest_of_named users c.args.user.name c.args.before.now c.self.invariant.table.differ
    (ap (λ users. found_user users c.args.user.name) c.self.view_is ∙ c.requires.found))

pub invariant_of-self : goal.invariant_of-self
invariant_of-self c =
    let user = c.new-2.ensures ∙ c.in_ok-user.ensures.ok
    in (shows-replaced c.self.inside.by_digest c.self.inside.by_name c.self.invariant c.args.before.now c.args.user c.in_ok-by_digest.by_digest c.in_ok-by_name.by_name
    c.facts.ensures
    (ap (λ users. found_user users c.args.user.name) c.self.view_is ∙ c.requires.found)
    (ap (λ users. has_digest (without_user users c.args.user.name) c.args.user.digest) c.self.view_is ∙ c.requires.digest)
    (c.in_ok-by_name.ensures ∙ ap (λ user. with_row (λ (own : NameRow). own.name) c.self.inside.by_name (name_row user)) c.in_ok-user.ensures.ok)
    (c.in_ok-by_digest.ensures ∙ (λ i. with_row (λ (user : UserRow). user.digest) (without (λ (user : UserRow). user.digest) c.self.inside.by_digest (c.digest-digest.ensures i)) (user i)))).named

pub returns-clause-ok : goal.returns-clause-ok
returns-clause-ok c =
    let user = c.new-2.ensures ∙ c.in_ok-user.ensures.ok
    in (shows-replaced c.self.inside.by_digest c.self.inside.by_name c.self.invariant c.args.before.now c.args.user c.in_ok-by_digest.by_digest c.in_ok-by_name.by_name
    c.facts.ensures
    (ap (λ users. found_user users c.args.user.name) c.self.view_is ∙ c.requires.found)
    (ap (λ users. has_digest (without_user users c.args.user.name) c.args.user.digest) c.self.view_is ∙ c.requires.digest)
    (c.in_ok-by_name.ensures ∙ ap (λ user. with_row (λ (own : NameRow). own.name) c.self.inside.by_name (name_row user)) c.in_ok-user.ensures.ok)
    (c.in_ok-by_digest.ensures ∙ (λ i. with_row (λ (user : UserRow). user.digest) (without (λ (user : UserRow). user.digest) c.self.inside.by_digest (c.digest-digest.ensures i)) (user i)))).shown
    ∙ ap (λ users. replaced users c.args.user) c.self.view_is
