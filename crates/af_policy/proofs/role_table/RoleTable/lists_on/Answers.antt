use Rattle.std.proofs.Common.{◌∙◌, ap, sym}
use Rattle.std.specs.Option.{option_map}
use Rattle.af_role.specs.Pairs.{on_part}
use Rattle.af_role.specs.Roles.{RoleRow}
use Rattle.af_policy.specs.Views.{first_lists}
use Rattle.af_policy.proofs.ViewLemmas.{role_lists-found}
use Rattle.af_policy.proofs.role_table.RoleTable.lists_on.Goals as goal

pub returns-in-Some : goal.returns-in-Some
returns-in-Some c =
    c.lists_on.ensures
    ∙ ap (λ found. first_lists (option_map (λ (role : RoleRow). role.pairs) found) (on_part c.args.part c.args.action c.args.dag.now)) c.in-Some.ensures.value
    ∙ sym (role_lists-found c.args.self.now c.args.name.now (on_part c.args.part c.args.action c.args.dag.now) c.masked.ensures.ascend)

pub returns-in-None : goal.returns-in-None
returns-in-None c =
    ap (λ found. first_lists (option_map (λ (role : RoleRow). role.pairs) found) (on_part c.args.part c.args.action c.args.dag.now)) c.in-None.ensures.value
    ∙ sym (role_lists-found c.args.self.now c.args.name.now (on_part c.args.part c.args.action c.args.dag.now) c.masked.ensures.ascend)
