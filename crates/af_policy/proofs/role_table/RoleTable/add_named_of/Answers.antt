use Rattle.std.proofs.Common.{false, ◌||◌, sym, ap, ◌∙◌}
use Rattle.std.specs.Option.{option_map}
use Rattle.af_role.specs.declared.dag_part.DagPart.TheVariants.{Itself}
use Rattle.af_role.specs.declared.action.Action.TheVariants.{Read}
use Rattle.af_role.specs.Pairs.{on_dag}
use Rattle.af_role.specs.Roles.{RoleRow}
use Rattle.af_policy.specs.Views.{first_lists, is_named}
use Rattle.af_policy.proofs.ViewLemmas.{or_turned, role_lists-found}
use Rattle.af_policy.proofs.role_table.RoleTable.add_named_of.Goals as goal

pub returns-in_ok-add_readable-in-Some : goal.returns-in_ok-add_readable-in-Some
returns-in_ok-add_readable-in-Some c dag =
    c.in_ok-add_readable-in-Some.ensures dag
    ∙ ap (λ b. is_named c.args.named.now.rows dag || b)
    (c.dags.ensures Itself dag Read
    ∙ ap (λ found. first_lists (option_map (λ (role : RoleRow). role.pairs) found) (on_dag Read dag)) c.in-Some.ensures.value
    ∙ sym (role_lists-found c.args.self.now c.args.name.now (on_dag Read dag) c.masked.ensures.ascend))

pub returns-in-None : goal.returns-in-None
returns-in-None c dag =
    or_turned false (is_named c.args.named.now.rows dag)
    ∙ ap (λ b. is_named c.args.named.now.rows dag || b)
    (ap (λ found. first_lists (option_map (λ (role : RoleRow). role.pairs) found) (on_dag Read dag)) c.in-None.ensures.value
    ∙ sym (role_lists-found c.args.self.now c.args.name.now (on_dag Read dag) c.masked.ensures.ascend))
