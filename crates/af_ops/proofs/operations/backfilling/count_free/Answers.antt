use Rattle.std.proofs.Common.{◌∙◌, ◌+◌, ◌≤◌, ℕ, sym, ap, subst, arith, not}
use Rattle.std.specs.Prelude.{List}
use Rattle.af_graph.specs.Schedules.{is_scheduled}
use Rattle.af_runs.specs.Runs.{is_taken}
use Rattle.af_sched.specs.Backfills.{backfill_id}
use Rattle.af_ops.proofs.BackfillLemmas.{Counted, counted_all, counted_free, counted_many, counted_none, counted_taken}
use Rattle.af_ops.proofs.operations.backfilling.count_free.Goals as goal
use Rattle.af_ops.proofs.operations.backfilling.count_free.Goals.{then-not-is_taken, else-not-is_taken}

pub loop-turn-init : goal.loop-turn-init
loop-turn-init c =
    counted_none c.args.state.now.rows c.args.dag.now (is_scheduled c.args.schedule.now) c.args.first c.args.last

pub overflow_add-free : goal.overflow_add-free
overflow_add-free c = let few = c.loop-turn.invariant.few in omega arith

pub loop-turn-preserved : goal.loop-turn-preserved
loop-turn-preserved c =
    elim c.if-not-is_taken.branch [
      | then-not-is_taken w ↦
          subst (λ (n : ℕ). Counted c.args.state.now.rows c.args.dag.now (is_scheduled c.args.schedule.now) c.args.first c.in-Some.interval.end c.args.last (c.loop-turn.turn + 1) n) (sym w.free-is)
          (counted_free c.args.state.now.rows c.args.dag.now (is_scheduled c.args.schedule.now) c.args.first c.args.last c.loop-turn.from c.in-Some.interval.start c.in-Some.interval.end c.loop-turn.turn c.loop-turn.free c.in-Some.ensures.0
          (ap not (sym (c.is_taken.ensures ∙ ap (λ (id : List ℕ). is_taken c.args.state.now.rows.runs id (backfill_id c.in-Some.interval.start) c.in-Some.interval.start) c.dag_id.ensures) ∙ w.if-not-is_taken.true)) c.loop-turn.invariant)
      | else-not-is_taken w ↦
          subst (λ (n : ℕ). Counted c.args.state.now.rows c.args.dag.now (is_scheduled c.args.schedule.now) c.args.first c.in-Some.interval.end c.args.last (c.loop-turn.turn + 1) n) (sym w.free-is)
          (counted_taken c.args.state.now.rows c.args.dag.now (is_scheduled c.args.schedule.now) c.args.first c.args.last c.loop-turn.from c.in-Some.interval.start c.in-Some.interval.end c.loop-turn.turn c.loop-turn.free c.in-Some.ensures.0
          (ap not (sym (c.is_taken.ensures ∙ ap (λ (id : List ℕ). is_taken c.args.state.now.rows.runs id (backfill_id c.in-Some.interval.start) c.in-Some.interval.start) c.dag_id.ensures) ∙ w.if-not-is_taken.false)) c.loop-turn.invariant)
    ]

pub returns-in_default : goal.returns-in_default
returns-in_default c =
    let within : c.loop-turn.turn ≤ 100 = omega arith in
    counted_all c.args.state.now.rows c.args.dag.now (is_scheduled c.args.schedule.now) c.args.first c.args.last c.loop-turn.from c.loop-turn.turn c.loop-turn.free c.in_default.ensures within c.loop-turn.invariant

pub returns : goal.returns
returns c =
    let past : 101 ≤ c.loop-turn.turn = omega arith in
    counted_many c.args.state.now.rows c.args.dag.now (is_scheduled c.args.schedule.now) c.args.first c.args.last c.loop-turn.from c.loop-turn.turn c.loop-turn.free past c.loop-turn.invariant
