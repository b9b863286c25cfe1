use Rattle.std.proofs.Common.{arith, get_or, subst}
use Rattle.af_runs.specs.declared.run.Run.{Run}
use Rattle.af_sched.specs.Settle.{SettlesIfLive}
use Rattle.af_sched.proofs.FinishLemmas.{AllZip-from}
use Rattle.af_sched.proofs.SettleLemmas.{get_or-runs}
use Rattle.af_sched.proofs.tick.settle.settle_all.Goals as goal

pub returns : goal.returns
returns c =
    AllZip-from (SettlesIfLive c.args.at c.args.dags.now) c.args.runs.now c.loop-run.runs (omega arith)
    (λ k d e inside. subst (λ (run : Run). SettlesIfLive c.args.at c.args.dags.now (get_or c.args.runs.now k d) run) (get_or-runs c.loop-run.runs k d e (omega arith)) (c.loop-run.invariant.0 k d (omega arith)))
