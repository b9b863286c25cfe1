use Rattle.std.proofs.Common.{◌≡◌, ◌∙◌, sym, ap, subst, length, is_some, true}
use Rattle.af_policy.specs.SharedRows.{Ascend, found}
use Rattle.af_policy.specs.SharedTrees.{link_rows}
use Rattle.af_policy.proofs.OrderLemmas.{ascend_with}
use Rattle.af_policy.proofs.PlaceLemmas.{as_many}
use Rattle.af_policy.proofs.shared.table.Table.replacing.Goals as goal

pub invariant_of-result : goal.invariant_of-result
invariant_of-result g c =
    let key = g.T.Row.key
    in let rows = link_rows c.self.inside.root
    in let there : is_some (found key rows (key c.args.row)) ≡ true = ap (λ rows. is_some (found key rows (key c.args.row))) c.self.view_is ∙ c.requires
    in (
      subst (Ascend key) (sym c.in_ok-root.ensures) (ascend_with key c.args.row rows c.self.invariant.0),
      c.self.invariant.1 ∙ sym (as_many key c.args.row rows c.self.invariant.0 there) ∙ sym (ap length c.in_ok-root.ensures),
    )
