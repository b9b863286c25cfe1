use Rattle.std.proofs.Common.{◌∙◌, ap, Some}
use Rattle.std.specs.Option.{option_map}
use Rattle.af_policy.specs.Rows.{UserRow}
use Rattle.af_policy.proofs.user_table.UserTable.name_of.Goals as goal

pub returns-in-Some : goal.returns-in-Some
returns-in-Some c =
    ap Some c.name.ensures
    ∙ ap (option_map (λ (user : UserRow). user.name)) c.in-Some.ensures.value
