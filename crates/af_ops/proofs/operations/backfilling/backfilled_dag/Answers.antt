use Rattle.std.proofs.Common.{◌≡◌, ◌∙◌, List, sym, ap, take, rules}
use Rattle.std.specs.Prelude.{Result, Ok}
use Rattle.std.proofs.lemmas.List.{take_all}
use Rattle.af_runs.specs.declared.new_run.NewRun.{NewRun}
use Rattle.af_sched.specs.Backfills.{backfill_of, backfilled}
use Rattle.af_sched.specs.State.{StateRows}
use Rattle.af_ops.specs.Effects.{Effect, backfilling, input_or}
use Rattle.af_ops.specs.declared.answer.OpFault.{OpFault}
use Rattle.af_ops.specs.declared.backfill.Backfill.{Backfill}
use Rattle.af_ops.proofs.BackfillLemmas.{done_of_range}
use Rattle.af_ops.proofs.operations.backfilling.backfilled_dag.Goals as goal

done : {x y : Effect} → x ≡ y → ◌≡◌ {A = Result Effect OpFault} (Ok x) (Ok y)
done same = ap Ok same

pub returns-clause-told : goal.returns-clause-told
returns-clause-told c =
    let state : StateRows = c.args.state.now.rows in
    let asked : Backfill = c.in_ok-asked.asked.now in
    let news : List NewRun = backfill_of state c.args.dag_id.now asked.start_date asked.end_date in
    let read : ◌≡◌ {A = Result Backfill OpFault} (input_or c.args.input.now) (Ok asked) = search rules in
    let told : backfilling state (backfilled state news) ≡ backfilling state (backfilled state (take 100 news)) =
    ap (λ (xs : List NewRun). backfilling state (backfilled state xs)) (sym (take_all 100 news c.in_ok-range_or.ensures.few)) in
    done_of_range state c.args.dag_id.now c.args.input.now asked (Ok news) read c.in_ok-range_or.ensures.ok
    ∙ done (told ∙ sym c.in_ok-prepared.ensures.told)
