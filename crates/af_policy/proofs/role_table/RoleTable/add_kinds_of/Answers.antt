use Rattle.std.proofs.Common.{false, ◌||◌, sym, ap, ◌∙◌}
use Rattle.std.specs.Option.{option_map}
use Rattle.af_role.specs.KindMasks.{kind_has}
use Rattle.af_role.specs.Pairs.{on_kind}
use Rattle.af_role.specs.Roles.{RoleRow}
use Rattle.af_policy.specs.Views.{first_lists}
use Rattle.af_policy.proofs.ViewLemmas.{or_turned, role_lists-found}
use Rattle.af_policy.proofs.role_table.RoleTable.add_kinds_of.Goals as goal

pub returns-in-Some : goal.returns-in-Some
returns-in-Some c kind action =
    c.add_all.ensures kind action
    ∙ or_turned (kind_has c.kinds.result.now kind action) (kind_has c.args.kinds.now kind action)
    ∙ ap (λ b. kind_has c.args.kinds.now kind action || b)
    (c.kinds.ensures kind action
    ∙ ap (λ found. first_lists (option_map (λ (role : RoleRow). role.pairs) found) (on_kind action kind)) c.in-Some.ensures.value
    ∙ sym (role_lists-found c.args.self.now c.args.name.now (on_kind action kind) c.masked.ensures.ascend))

pub returns-in-None : goal.returns-in-None
returns-in-None c kind action =
    or_turned false (kind_has c.args.kinds.now kind action)
    ∙ ap (λ b. kind_has c.args.kinds.now kind action || b)
    (ap (λ found. first_lists (option_map (λ (role : RoleRow). role.pairs) found) (on_kind action kind)) c.in-None.ensures.value
    ∙ sym (role_lists-found c.args.self.now c.args.name.now (on_kind action kind) c.masked.ensures.ascend))
