use Rattle.std.proofs.Common.{◌∙◌, sym, ap, List}
use Rattle.std.specs.Prelude.{Option, None, find}
use Rattle.std.specs.Option.{option_map_or}
use Rattle.af_graph.specs.declared.task_spec.TaskSpec.{TaskSpec}
use Rattle.af_runs.specs.declared.run.Run.{Run}
use Rattle.af_sched.specs.Placed.{placed_of}
use Rattle.af_sched.specs.Reports.{is_claimed}
use Rattle.af_sched.proofs.NamedLemmas.{named_at, named_in}
use Rattle.af_sched.proofs.state.reporting.instance_of.Goals as goal

pub returns-in_err-run : goal.returns-in_err-run
returns-in_err-run c =
    c.from_residual.ensures
    ∙ sym (named_at c.args.dags.now c.args.claim.now c.args.runs.now.rows c.rows-rows.ensures.kept.in_order
    ∙ ap (λ (o : Option Run). option_map_or (named_in c.args.dags.now c.args.claim.now) o None) (sym c.in_err-run.ensures))

pub returns : goal.returns
returns c =
    c.instance_in_run.ensures
    ∙ ap (λ (tasks : List TaskSpec). find (is_claimed c.args.claim.now) (placed_of tasks c.in_ok-run.run'.now)) c.tasks_of.ensures
    ∙ sym (named_at c.args.dags.now c.args.claim.now c.args.runs.now.rows c.rows-rows.ensures.kept.in_order
    ∙ ap (λ (o : Option Run). option_map_or (named_in c.args.dags.now c.args.claim.now) o None) (sym c.in_ok-run.ensures))
