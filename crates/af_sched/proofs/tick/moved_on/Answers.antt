use Rattle.std.proofs.Common.{◌≡◌, ◌++◌, rules, subst, sym, List}
use Rattle.std.specs.Prelude.{All}
use Rattle.std.specs.List.Sorted.{IsStrictlySortedBy}
use Rattle.std.specs.Ordering.{nat_cmp}
use Rattle.af_runs.specs.declared.run.Run.{Run}
use Rattle.af_runs.specs.Busy.{busy_of}
use Rattle.af_sched.specs.State.{IsWhole}
use Rattle.af_sched.proofs.BusyLemmas.{All-busy, order_busy}
use Rattle.af_sched.proofs.FillLemmas.{numbers}
use Rattle.af_sched.proofs.tick.moved_on.Goals as goal

pub move_on-requires-clause-whole : goal.move_on-requires-clause-whole
move_on-requires-clause-whole c =
    let work : c.as_mut_slice.result.now ≡ busy_of c.args.runs.now.rows ++ c.args.added.items = search rules in
    subst (All (IsWhole c.args.dags.now)) (sym work) (All-busy (IsWhole c.args.dags.now) c.args.runs.now.rows c.args.added.items c.requires.whole)

pub move_on-requires-clause-in_order : goal.move_on-requires-clause-in_order
move_on-requires-clause-in_order c =
    let work : c.as_mut_slice.result.now ≡ busy_of c.args.runs.now.rows ++ c.args.added.items = search rules in
    subst (λ (runs : List Run). IsStrictlySortedBy nat_cmp (numbers runs)) (sym work) (order_busy c.args.runs.now.rows c.args.added.items c.requires.in_order)
