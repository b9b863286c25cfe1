use Rattle.std.proofs.Common.{rules}
use Rattle.af_audit.proofs.ReplayLemmas.{replay_step}
use Rattle.af_audit.proofs.replaying.replay.Goals as goal

pub loop-entry-preserved : goal.loop-entry-preserved
loop-entry-preserved c last later =
    c.loop-entry.invariant last (replay_step c.args.entries.now c.loop-entry.entry-index c.entry-item.result _ _ last (search rules) (search rules) c.in_ok-redo.ensures.state c.in_ok-redo.ensures.after later)
