use Rattle.std.proofs.Common.{sym, ap, ◌∙◌}
use Rattle.af_role.specs.ActionSets.{has}
use Rattle.af_role.specs.DagMasks.{actions_on}
use Rattle.af_role.specs.declared.actions.Actions.{Actions}
use Rattle.af_role.specs.declared.dag_mask.DagActions.{DagActions}
use Rattle.af_role.proofs.DagMaskLemmas.{fits_has, stands_has, unmarked_has}
use Rattle.af_role.proofs.dag_mask.DagMask.on.Goals as goal

pub returns-in-Ok : goal.returns-in-Ok
returns-in-Ok c action =
    let stands = rw (c.as_slice.ensures.value, c.as_str.ensures.text) at c.in-Ok.ensures in
    ap (λ (set : Actions). has set action) c.on.ensures
    ∙ ap (λ (row : DagActions). has (actions_on c.args.part row) action) c.index.ensures
    ∙ sym (rw (← c.self.view_is) (stands_has c.self.inside.rows.items c.args.part c.args.dag.now c.in-Ok.place c.index.result.now action stands))

pub returns-in-Err : goal.returns-in-Err
returns-in-Err c action =
    let fits = rw (c.as_slice.ensures.value, c.as_str.ensures.text) at c.in-Err.ensures in
    c.none-in-Err.ensures action
    ∙ rw (← c.self.view_is) (sym (fits_has c.self.inside.rows.items c.args.part c.args.dag.now c.in-Err.field-0 action fits))

pub returns-then-not-has : goal.returns-then-not-has
returns-then-not-has c action =
    c.none.ensures action
    ∙ rw (← c.self.view_is) (sym (unmarked_has c.self.inside.marks c.self.inside.rows.items c.args.part c.args.dag.now action (c.self.invariant.1) (sym c.if-not-has.ensures)))
