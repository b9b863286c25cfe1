use Rattle.std.proofs.Common.{◌≡◌, ◌∙◌, ◌++◌, ◌∷◌, [], take, map, ℕ}
use Rattle.af_graph.specs.Schedules.{is_scheduled}
use Rattle.af_runs.specs.declared.new_run.NewRun.{NewRun}
use Rattle.af_sched.specs.Create.{point_run}
use Rattle.af_sched.proofs.CreateLemmas.{map_more}
use Rattle.af_sched.proofs.tick.create.runs_for.Goals as goal

pub loop-point-preserved : goal.loop-point-preserved
loop-point-preserved c =
    let made_of : ℕ → NewRun = point_run c.args.run_type c.args.dag.now (is_scheduled c.args.schedule.now) in
    let made : c.in_ok-run_for.field-0 ≡ made_of c.point-item.result = c.in_ok-run_for.ensures in
    c.in_ok-push.ensures.items
    ∙ (λ i. c.loop-point.invariant i ++ made i ∷ [])
    ∙ (λ i. map made_of (take c.loop-point.point-index c.args.points.now) ++ made_of (c.point-item.is i) ∷ [])
    ∙ map_more made_of c.args.points.now c.loop-point.point-index c.point-item.result c.loop-point-test.true
