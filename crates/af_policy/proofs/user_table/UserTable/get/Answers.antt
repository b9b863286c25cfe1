use Rattle.std.proofs.Common.{◌≡◌, ◌∙◌, ap, sym, Some}
use Rattle.af_policy.specs.Rows.{found_user}
use Rattle.af_policy.specs.SharedRows.{found}
use Rattle.af_policy.specs.Tables.{NameRow, digest_row, users_at}
use Rattle.af_policy.proofs.NamedTableLemmas.{named_user, nobody_named}
use Rattle.af_policy.proofs.user_table.UserTable.get.Goals as goal

pub returns-in-Some : goal.returns-in-Some
returns-in-Some c =
    let users = users_at c.self.inside.by_digest c.self.inside.by_name
    in let leads : Some c.in-Some.own.now ≡ found (λ (own : NameRow). own.name) c.self.inside.by_name c.args.name.now =
    c.in-Some.ensures ∙ ap (found (λ (own : NameRow). own.name) c.self.inside.by_name) (c.as_bytes.ensures.value ∙ c.as_str.ensures.text)
    in c.with_digest.ensures.value
    ∙ (λ i. digest_row (sym c.self.view_is i) (c.digest.ensures i))
    ∙ named_user users c.self.inside.by_name (sym c.self.invariant.named) c.args.name.now c.in-Some.own.now c.self.invariant.table.differ leads
    ∙ ap (λ (rows : _). found_user rows c.args.name.now) c.self.view_is

pub returns-in-None : goal.returns-in-None
returns-in-None c =
    let users = users_at c.self.inside.by_digest c.self.inside.by_name
    in sym
    (ap (λ rows. found_user rows c.args.name.now) (sym c.self.view_is)
    ∙ nobody_named users c.self.inside.by_name (sym c.self.invariant.named) c.args.name.now
    (c.in-None.ensures ∙ ap (found (λ (own : NameRow). own.name) c.self.inside.by_name) (c.as_bytes.ensures.value ∙ c.as_str.ensures.text)))
