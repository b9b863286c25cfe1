use Rattle.std.proofs.Common.{◌∙◌, ◌+◌, sym, ap, subst, length, cond, is_some}
use Rattle.af_policy.specs.SharedRows.{Ascend, found}
use Rattle.af_policy.specs.SharedTrees.{link_rows}
use Rattle.af_policy.proofs.OrderLemmas.{ascend_with, length_with}
use Rattle.af_policy.proofs.shared.table.Table.with.Goals as goal

pub invariant_of-result : goal.invariant_of-result
invariant_of-result g c =
    let key = g.T.Row.key
    in let rows = link_rows c.self.inside.root
    in (
      subst (Ascend key) (sym c.in_ok-root.ensures) (ascend_with key c.args.row rows c.self.invariant.0),
      c.in_ok-len.ensures
          ∙ (λ i. cond (is_some (found key (sym c.self.view_is i) (c.key.ensures i))) (length (sym c.self.view_is i)) (length (sym c.self.view_is i) + 1))
          ∙ sym (length_with key c.args.row rows c.self.invariant.0)
          ∙ sym (ap length c.in_ok-root.ensures),
    )
