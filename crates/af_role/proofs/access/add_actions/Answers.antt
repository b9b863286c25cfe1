use Rattle.std.proofs.Common.{refl, [], ◌∷◌}
use Rattle.std.proofs.lemmas.List.Elements.{filter_map-append}
use Rattle.af_role.specs.Access.{pair_at, pairs_at}
use Rattle.af_role.proofs.AccessLemmas.{put_next}
use Rattle.af_role.proofs.access.add_actions.Goals as goal

pub loop-text-preserved : goal.loop-text-preserved
loop-text-preserved c =
    put_next (pairs_at c.args.part c.args.dag.now) (filter_map-append (pair_at c.args.part c.args.dag.now))
    c.args.permissions.now c.loop-text.permissions c.add_action.new.permissions (pairs_at c.args.part c.args.dag.now (c.text-item.result ∷ []))
    c.args.texts.now c.loop-text.text-index c.text-item.result c.text-item.is c.loop-text-test.true
    c.loop-text.invariant c.in_ok-add_action.ensures refl
