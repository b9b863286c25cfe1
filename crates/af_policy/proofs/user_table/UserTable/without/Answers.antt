use Rattle.std.proofs.Common.{sym, ap, ◌∙◌}
use Rattle.af_policy.specs.Rows.{UserRow, found_user, without_user}
use Rattle.af_policy.specs.SharedRows.{found, without}
use Rattle.af_policy.specs.Tables.{NameRow, users_at}
use Rattle.af_policy.proofs.NamedTableLemmas.{nobody_named, shows-without}
use Rattle.af_policy.proofs.OrderLemmas.{none_without}
use Rattle.af_policy.proofs.user_table.UserTable.without.Goals as goal

pub returns-in_ok-copy-in-None : goal.returns-in_ok-copy-in-None
returns-in_ok-copy-in-None c =
    let users = users_at c.self.inside.by_digest c.self.inside.by_name
    in c.in_ok-copy-in-None.ensures
    ∙ sym (none_without (λ (user : UserRow). user.name) c.args.name.now c.args.self.now
    (ap (λ users. found_user users c.args.name.now) (sym c.self.view_is)
    ∙ nobody_named users c.self.inside.by_name (sym c.self.invariant.named) c.args.name.now
    (c.in-None.ensures ∙ ap (found (λ (own : NameRow). own.name) c.self.inside.by_name) (c.as_bytes.ensures.value ∙ c.as_str.ensures.text))))

pub returns-in_ok-by_digest-in-Some : goal.returns-in_ok-by_digest-in-Some
returns-in_ok-by_digest-in-Some c =
    (shows-without c.self.inside.by_digest c.self.inside.by_name c.self.invariant c.args.name.now c.in-Some.own.now c.in_ok-by_digest-in-Some.by_digest c.in_ok-by_name-in-Some.by_name
    c.facts.ensures
    (c.in-Some.ensures ∙ ap (found (λ (own : NameRow). own.name) c.self.inside.by_name) (c.as_bytes.ensures.value ∙ c.as_str.ensures.text))
    (c.in_ok-by_name-in-Some.ensures ∙ ap (without (λ (own : NameRow). own.name) c.self.inside.by_name) (c.as_bytes-in-Some.ensures.value ∙ c.as_str-in-Some.ensures.text))
    (c.in_ok-by_digest-in-Some.ensures ∙ ap (without (λ (user : UserRow). user.digest) c.self.inside.by_digest) (c.as_slice.ensures ∙ c.digest-digest.ensures))).shown
    ∙ ap (λ users. without_user users c.args.name.now) c.self.view_is

pub invariant_of-result : goal.invariant_of-result
invariant_of-result c =
    (shows-without c.self.inside.by_digest c.self.inside.by_name c.self.invariant c.args.name.now c.in-Some.own.now c.in_ok-by_digest-in-Some.by_digest c.in_ok-by_name-in-Some.by_name
    c.facts.ensures
    (c.in-Some.ensures ∙ ap (found (λ (own : NameRow). own.name) c.self.inside.by_name) (c.as_bytes.ensures.value ∙ c.as_str.ensures.text))
    (c.in_ok-by_name-in-Some.ensures ∙ ap (without (λ (own : NameRow). own.name) c.self.inside.by_name) (c.as_bytes-in-Some.ensures.value ∙ c.as_str-in-Some.ensures.text))
    (c.in_ok-by_digest-in-Some.ensures ∙ ap (without (λ (user : UserRow). user.digest) c.self.inside.by_digest) (c.as_slice.ensures ∙ c.digest-digest.ensures))).named
