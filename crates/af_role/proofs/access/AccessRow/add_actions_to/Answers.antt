use Rattle.std.proofs.Common.{[], ◌++◌, ◌||◌, cond, sym, ap, ◌∙◌}
use Rattle.af_role.specs.declared.dag_part.DagPart.TheVariants.{Itself, Runs}
use Rattle.af_role.specs.ActionSets.{has}
use Rattle.af_role.specs.Pairs.{on_part}
use Rattle.af_role.specs.Roles.{contains_pair}
use Rattle.af_role.specs.Access.{pairs_at}
use Rattle.af_role.proofs.AccessLemmas.{listed_on}
use Rattle.af_role.proofs.access.AccessRow.add_actions_to.Goals as goal

pub returns-then-eq : goal.returns-then-eq
returns-then-eq c dag action =
    c.add_texts.ensures dag action
    ∙ ap (λ texts. contains_pair (pairs_at c.args.part dag texts) (on_part c.args.part action dag) || has c.args.actions.now action) c.on.ensures
    ∙ ap (λ b. b || has c.args.actions.now action) (sym (listed_on c.args.part dag c.args.self.now action))
    ∙ ap (λ b. contains_pair (cond b (pairs_at Itself dag c.args.self.now.actions ++ pairs_at Runs dag c.args.self.now.runs) []) (on_part c.args.part action dag) || has c.args.actions.now action) c.if-eq.ensures
