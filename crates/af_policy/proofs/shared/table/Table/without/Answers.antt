use Rattle.std.proofs.Common.{◌≡◌, ◌∙◌, sym, ap, subst, length, suc, is_some, arith}
use Rattle.af_policy.specs.SharedRows.{Ascend, found, without}
use Rattle.af_policy.specs.SharedTrees.{link_rows}
use Rattle.af_policy.proofs.OrderLemmas.{ascend_without, length_without, none_without, none_from}
use Rattle.af_policy.proofs.shared.table.Table.without.Goals as goal

pub invariant_of-result : goal.invariant_of-result
invariant_of-result g c =
    let key = g.T.Row.key
    in let rows = link_rows c.self.inside.root
    in let k = c.args.key.now
    in let fewer : suc (length (without key rows k)) ≡ length rows =
    length_without key k rows c.self.invariant.0 (ap (λ rs. is_some (found key rs k)) c.self.view_is ∙ sym c.if-has.ensures)
    in let len : c.self.inside.len ≡ length rows = c.self.invariant.1
    in let left = c.in_ok-root.ensures ∙ ap (without key rows) c.new.ensures
    in let made : length (link_rows c.in_ok-root.root) ≡ length (without key rows k) = ap length left
    in (
      subst (Ascend key) (sym left) (ascend_without key k rows c.self.invariant.0),
      omega (arith, fewer, len, made),
    )

pub returns-in_ok-copy : goal.returns-in_ok-copy
returns-in_ok-copy g c =
    c.in_ok-copy.ensures ∙ sym (none_without g.T.Row.key c.args.key.now c.args.self.now (none_from (found g.T.Row.key c.args.self.now c.args.key.now) (sym c.if-has.ensures)))
