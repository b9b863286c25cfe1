use Rattle.std.proofs.Common.{◌∙◌, ap, refl}
use Rattle.af_policy.specs.SharedRows.{seen}
use Rattle.af_policy.proofs.ShownLemmas.{part_some, part_none, parts_filled}
use Rattle.af_policy.proofs.shared.listing.+fill.Goals as goal
use Rattle.af_policy.proofs.shared.listing.+fill.Goals.{in-Some+in_ok-fill, in_default}

pub returns-in_ok-fill-2 : goal.returns-in_ok-fill-2
returns-in_ok-fill-2 g t c =
    parts_filled c.args.node.now c.args.bound (seen c.args.into.now.items) (seen c.match-node.into.items) (seen c.fill_own.new.into.items) (seen c.fill-in-Some-right.new.into.items)
    (elim c.match-node.branch [
      | in-Some+in_ok-fill w ↦ part_some c.args.node.now c.args.bound _ w.in-Some.left w.deref.result.now (seen c.args.into.now.items) (seen c.match-node.into.items) w.in-Some.is w.deref.ensures (ap (λ v. seen v.items) w.into-is ∙ w.in_ok-fill.ensures)
      | in_default w ↦ part_none c.args.node.now c.args.bound _ (seen c.args.into.now.items) (seen c.match-node.into.items) w.in_default.is (ap (λ v. seen v.items) w.into-is)
    ])
    c.in_ok-fill_own.ensures
    (part_some c.args.node.now c.args.bound _ c.in-Some-right.right c.deref-in-Some-right.result.now (seen c.fill_own.new.into.items) (seen c.fill-in-Some-right.new.into.items) c.in-Some-right.is c.deref-in-Some-right.ensures c.in_ok-fill-2.ensures)

pub returns-in_default-right : goal.returns-in_default-right
returns-in_default-right g t c =
    parts_filled c.args.node.now c.args.bound (seen c.args.into.now.items) (seen c.match-node.into.items) (seen c.fill_own.new.into.items) (seen c.fill_own.new.into.items)
    (elim c.match-node.branch [
      | in-Some+in_ok-fill w ↦ part_some c.args.node.now c.args.bound _ w.in-Some.left w.deref.result.now (seen c.args.into.now.items) (seen c.match-node.into.items) w.in-Some.is w.deref.ensures (ap (λ v. seen v.items) w.into-is ∙ w.in_ok-fill.ensures)
      | in_default w ↦ part_none c.args.node.now c.args.bound _ (seen c.args.into.now.items) (seen c.match-node.into.items) w.in_default.is (ap (λ v. seen v.items) w.into-is)
    ])
    c.in_ok-fill_own.ensures
    (part_none c.args.node.now c.args.bound _ (seen c.fill_own.new.into.items) (seen c.fill_own.new.into.items) c.in_default-right.is refl)
