use Rattle.std.proofs.Common.{sym, ap, ◌∙◌}
use Rattle.af_graph.specs.Order.{one_more}
use Rattle.af_graph.proofs.PaceLemmas.{taken_none, taken_more}
use Rattle.af_graph.proofs.taking.take_all.Goals as goal

pub loop-init : goal.loop-init
loop-init c = (c.in_ok-taking.ensures.pace, c.in_ok-taking.ensures.order ∙ sym (taken_none c.args.upstream.now))

pub loop-preserved : goal.loop-preserved
loop-preserved c =
    (c.in_ok-take_next.ensures.pace, c.in_ok-take_next.ensures.order ∙ ap (one_more c.args.upstream.now) c.loop.invariant.1 ∙ sym (taken_more c.args.upstream.now c.loop.counter))
