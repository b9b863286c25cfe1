use Rattle.std.proofs.Common.{arith}
use Rattle.af_sched.proofs.LikeLemmas.{cursors_from}
use Rattle.af_sched.proofs.dag_table.set_cursors.Goals as goal

pub returns : goal.returns
returns c = cursors_from c.args.dags.now c.loop-place.dags c.args.cursors.now (omega arith) c.requires (λ k d inside. c.loop-place.invariant.0 k d (omega arith))
