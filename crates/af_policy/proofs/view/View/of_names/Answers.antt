use Rattle.std.proofs.Common.{◌∙◌, ◌||◌, sym, ap}
use Rattle.std.specs.Option.{option_map}
use Rattle.af_role.specs.Roles.{RoleRow}
use Rattle.af_policy.specs.Grants.{some_role_lists}
use Rattle.af_policy.specs.Views.{first_lists, held}
use Rattle.af_policy.proofs.ViewLemmas.{role_lists-found}
use Rattle.af_policy.proofs.view.View.of_names.Goals as goal

pub returns-in-Some : goal.returns-in-Some
returns-in-Some c pair =
    ap (λ view. held view pair) c.of.ensures
    ∙ ap (λ found. first_lists (option_map (λ (role : RoleRow). role.pairs) found) pair || some_role_lists c.args.table.now c.in-Some.others.now pair) c.masked.ensures.value
    ∙ ap (λ b. b || some_role_lists c.args.table.now c.in-Some.others.now pair) (sym (role_lists-found c.args.table.now c.in-Some.name.now pair c.masked.ensures.ascend))
    ∙ ap (λ names. some_role_lists c.args.table.now names pair) (sym c.in-Some.ensures.cases.0)
