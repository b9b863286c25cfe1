use Rattle.std.proofs.Common.{◌∙◌, subst, sym}
use Rattle.af_policy.specs.Tables.{IsUserTable}
use Rattle.af_policy.proofs.NamedTableLemmas.{ascend_of_names, shows}
use Rattle.af_policy.proofs.user_table.UserTable.of_rows.Goals as goal

pub of_rows-requires : goal.of_rows-requires
of_rows-requires c = ascend_of_names c.args.users.now c.in_ok-names.names.items c.in_ok-names.ensures c.requires.users

pub invariant_of-result : goal.invariant_of-result
invariant_of-result c =
    (shows c.args.users.now c.in_ok-by_digest.by_digest c.in_ok-by_name.by_name
    (subst (IsUserTable c.args.users.now) (sym c.in_ok-by_digest.ensures) c.requires.table) (c.in_ok-by_name.ensures ∙ c.in_ok-names.ensures)).named

pub returns : goal.returns
returns c =
    (shows c.args.users.now c.in_ok-by_digest.by_digest c.in_ok-by_name.by_name
    (subst (IsUserTable c.args.users.now) (sym c.in_ok-by_digest.ensures) c.requires.table) (c.in_ok-by_name.ensures ∙ c.in_ok-names.ensures)).shown
