use Rattle.std.proofs.Common.{sym, subst, List}
use Rattle.std.specs.Prelude.{All}
use Rattle.std.specs.List.Sorted.{IsStrictlySortedBy}
use Rattle.std.specs.Ordering.{nat_cmp}
use Rattle.std.specs.List.{AllZip}
use Rattle.af_runs.specs.declared.run.Run.{Run}
use Rattle.af_sched.specs.Settle.{SettlesIfLive}
use Rattle.af_sched.specs.State.{IsWhole}
use Rattle.af_sched.proofs.KeyLemmas.{whole_started, whole_settled, whole_queues, keeps_settled_too, numbers_same}
use Rattle.af_sched.proofs.tick.move_on.Goals as goal

pub settle_all-requires : goal.settle_all-requires
settle_all-requires c =
    subst (All (IsWhole c.args.dags.now)) (sym c.in_ok-start_all.ensures.ok) (whole_started c.args.dags.now c.args.at c.args.runs.now c.requires.whole)

pub queue_all-requires : goal.queue_all-requires
queue_all-requires c =
    let settles : AllZip (SettlesIfLive c.args.at c.args.dags.now) (Rattle.af_sched.specs.Start.started_runs c.args.at c.args.dags.now c.args.runs.now) c.settle_all.new.runs = subst (λ (xs : List Run). AllZip (SettlesIfLive c.args.at c.args.dags.now) xs c.settle_all.new.runs) c.in_ok-start_all.ensures.ok c.settle_all.ensures in
    subst (IsStrictlySortedBy nat_cmp) (sym (numbers_same c.args.runs.now c.settle_all.new.runs (keeps_settled_too c.args.at c.args.dags.now c.args.runs.now c.settle_all.new.runs settles))) c.requires.in_order

pub finish_all-requires : goal.finish_all-requires
finish_all-requires c =
    let whole = subst (All (IsWhole c.args.dags.now)) (sym c.in_ok-start_all.ensures.ok) (whole_started c.args.dags.now c.args.at c.args.runs.now c.requires.whole) in
    whole_queues c.args.dags.now c.args.pools.now.rows c.settle_all.new.runs c.queue_all.new.runs c.in_ok-queue_all.ensures.ok (whole_settled c.args.dags.now c.args.at c.start_all.new.runs c.settle_all.new.runs c.settle_all.ensures whole)

pub returns : goal.returns
returns c = record {
  settled = c.settle_all.new.runs;
  queued = c.queue_all.new.runs;
  settles = subst (λ (xs : List Run). AllZip (SettlesIfLive c.args.at c.args.dags.now) xs c.settle_all.new.runs) c.in_ok-start_all.ensures.ok c.settle_all.ensures;
  queues = c.in_ok-queue_all.ensures.ok;
  ends = c.finish_all.ensures;
}
