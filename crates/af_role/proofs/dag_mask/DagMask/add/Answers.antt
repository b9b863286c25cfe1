use Rattle.std.proofs.Common.{◌||◌, ◌&&◌, nat_eq, sym, ap, subst, ◌∙◌}
use Rattle.std.specs.Cmp.Lexicographic.{pointwise}
use Rattle.af_base.specs.Places.{FitsAt}
use Rattle.af_base.proofs.OrderedLemmas.{order-insert, order-set}
use Rattle.af_role.specs.Resources.{same_action, same_part}
use Rattle.af_role.specs.DagMarks.{mark_of}
use Rattle.af_role.specs.DagMasks.{dag_has, id_of}
use Rattle.af_role.proofs.DagMaskLemmas.{added_at, added_row, marked_insert, marked_set, marked_still, put_own}
use Rattle.af_role.proofs.dag_mask.DagMask.add.Goals as goal

pub invariant_of-self : goal.invariant_of-self
invariant_of-self c =
    let stands = rw (c.as_slice.ensures.value, c.as_str.ensures.text) at c.in-Ok.ensures in (
      order-set id_of c.self.inside.rows.items c.in-Ok.place c.add.new.self c.index_mut-row.result.now
          (c.add.ensures.dag ∙ ap id_of c.index_mut-row.ensures.value) (c.self.invariant.0),
      marked_set c.self.inside.marks c.self.inside.rows.items c.in-Ok.place c.add.new.self c.index_mut-row.result.now
          stands.within c.index_mut-row.ensures.value c.add.ensures.dag (c.self.invariant.1),
    )

pub invariant_of-self-in_ok-insert-in-Err : goal.invariant_of-self-in_ok-insert-in-Err
invariant_of-self-in_ok-insert-in-Err c =
    let fits = rw (c.as_slice.ensures.value, c.as_str.ensures.text) at c.in-Err.ensures in
    rw c.in_ok-insert-in-Err.ensures.items (
      order-insert id_of c.self.inside.rows.items c.of-row.result c.in-Err.place
          (subst (λ dag. FitsAt id_of c.self.inside.rows.items dag c.in-Err.place) (sym (c.of-row.ensures.dag ∙ c.in_ok-copied-in-Err.ensures)) fits) (c.self.invariant.0),
      marked_insert c.put.new.self c.self.inside.rows.items c.in-Err.place c.of-row.result (put_own c.self.inside.marks c.put.new.self c.of-row.result.dag c.put.ensures)
          (marked_still c.self.inside.marks c.put.new.self c.self.inside.rows.items (λ other. nat_eq (mark_of c.of-row.result.dag) (mark_of other)) c.put.ensures (c.self.invariant.1)),
    )

pub invariant_of-self-in_err-insert-in-Err : goal.invariant_of-self-in_err-insert-in-Err
invariant_of-self-in_err-insert-in-Err c =
    rw c.in_err-insert-in-Err.ensures.items (
      c.self.invariant.0,
      marked_still c.self.inside.marks c.put.new.self c.self.inside.rows.items (λ other. nat_eq (mark_of c.of-row.result.dag) (mark_of other)) c.put.ensures (c.self.invariant.1),
    )

pub returns-in-Ok-clause-ok : goal.returns-in-Ok-clause-ok
returns-in-Ok-clause-ok c p other a =
    let stands = rw (c.as_slice.ensures.value, c.as_str.ensures.text) at c.in-Ok.ensures in
    added_at c.self.inside.rows.items c.args.dag.now c.in-Ok.place c.add.new.self c.index_mut-row.result.now
    (λ q b. same_part c.args.part q && same_action c.args.action b) stands c.index_mut-row.ensures.value c.add.ensures.dag c.add.ensures.has p other a
    ∙ ap (λ rows. (pointwise nat_eq c.args.dag.now other && (same_part c.args.part p && same_action c.args.action a)) || dag_has rows p other a) c.self.view_is

pub returns-in_ok-insert-in-Err-clause-ok : goal.returns-in_ok-insert-in-Err-clause-ok
returns-in_ok-insert-in-Err-clause-ok c p other a =
    ap (λ rows. dag_has rows p other a) c.in_ok-insert-in-Err.ensures.items
    ∙ added_row c.self.inside.rows.items c.args.dag.now c.in-Err.place c.of-row.result
    (λ q b. same_part c.args.part q && same_action c.args.action b) (c.of-row.ensures.dag ∙ c.in_ok-copied-in-Err.ensures) c.of-row.ensures.has p other a
    ∙ ap (λ rows. (pointwise nat_eq c.args.dag.now other && (same_part c.args.part p && same_action c.args.action a)) || dag_has rows p other a) c.self.view_is
