use Rattle.std.proofs.Common.{arith}
use Rattle.af_plane.proofs.HandingLemmas.{all_taken, more_taken}
use Rattle.af_plane.proofs.control_session.locked.hand_each.Goals as goal

pub loop-entry-preserved : goal.loop-entry-preserved
loop-entry-preserved g c = λ last rest.
    c.loop-entry.invariant last
    (more_taken g.T.EntryTaker.takes c.args.entries.now c.loop-entry.entry-index c.entry-item.result c.loop-entry.taker c.take.new.self last (omega arith) c.entry-item.is c.in_ok-take.ensures rest)

pub returns : goal.returns
returns g c =
    c.loop-entry.invariant c.loop-entry.taker (all_taken g.T.EntryTaker.takes c.args.entries.now c.loop-entry.entry-index c.loop-entry.taker (omega arith))
