use Rattle.std.proofs.Common.{◌∙◌, ap, is_some, sym}
use Rattle.af_policy.specs.Rows.{has_user, same_name}
use Rattle.af_policy.specs.SharedRows.{found}
use Rattle.af_policy.specs.Tables.{NameRow, name_row, users_at}
use Rattle.af_policy.proofs.NameLemmas.{is_some-find}
use Rattle.af_policy.proofs.NamedTableLemmas.{found_names}
use Rattle.af_policy.proofs.UserLemmas.{is_some-option_map}
use Rattle.af_policy.proofs.user_table.UserTable.has.Goals as goal

pub returns : goal.returns
returns c =
    let users = users_at c.self.inside.by_digest c.self.inside.by_name
    in c.has.ensures
    ∙ ap (λ name. is_some (found (λ (own : NameRow). own.name) c.self.inside.by_name name)) (c.as_bytes.ensures.value ∙ c.as_str.ensures.text)
    ∙ ap is_some (found_names users c.self.inside.by_name (sym c.self.invariant.named) c.args.name.now)
    ∙ is_some-option_map name_row _
    ∙ is_some-find (λ user. same_name c.args.name.now user.name) users
    ∙ ap (λ users. has_user users c.args.name.now) c.self.view_is
