use Rattle.std.proofs.lemmas.List.Elements.{filter_map-append}
use Rattle.af_role.specs.ActionSets.{has}
use Rattle.af_role.specs.Pairs.{on_part}
use Rattle.af_role.specs.Access.{pair_at, pairs_at}
use Rattle.af_role.proofs.AccessLemmas.{listed_next}
use Rattle.af_role.proofs.access.add_texts.Goals as goal

pub loop-text-preserved : goal.loop-text-preserved
loop-text-preserved c dag action =
    listed_next (pairs_at c.args.part dag) (filter_map-append (pair_at c.args.part dag)) (on_part c.args.part action dag)
    (has c.args.actions.now action) (has c.loop-text.actions action) (has c.add_text.new.actions action)
    c.args.texts.now c.loop-text.text-index c.text-item.result c.text-item.is c.loop-text-test.true
    (c.loop-text.invariant dag action) (c.add_text.ensures dag action)
