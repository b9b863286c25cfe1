use Rattle.std.proofs.Common.{◌≡◌, ◌∙◌, codes, length, map}
use Rattle.serde_json.specs.Written.{compact_text}
use Rattle.af_ops.specs.Effects.{new_runs_data}
use Rattle.af_ops.specs.Fields.{listing_of}
use Rattle.af_ops.specs.Replies.{run_data}
use Rattle.af_ops.proofs.BackfillLemmas.{AddsAlone, plan_exact, plan_told}
use Rattle.af_sched.specs.Backfills.{backfill_of, backfilled}
use Rattle.std.specs.Prelude.{take}
use Rattle.af_ops.proofs.operations.backfilling.planned.Goals as goal

pub returns-clause-told : goal.returns-clause-told
returns-clause-told c =
    let adds : AddsAlone c.args.state.now.rows c.in_ok-plan.plan = record { alone = c.in_ok-plan.ensures.alone; changed = c.in_ok-plan.ensures.changed } in
    let body : c.in_ok-body.body.items ≡ compact_text (new_runs_data c.in_ok-plan.plan.added) =
    c.in_ok-body.ensures ∙ (λ i. compact_text (listing_of (codes "dag_runs") (map run_data (c.added.ensures i)) (length (c.added-2.ensures i)))) in
    rw (c.of.ensures, c.edit_of.ensures, body)
    (plan_told c.args.state.now.rows (backfilled c.args.state.now.rows (take 100 (backfill_of c.args.state.now.rows c.args.dag_id.now c.args.asked.now.start_date c.args.asked.now.end_date))) c.in_ok-plan.plan adds c.in_ok-plan.ensures.ok)

pub returns-clause-exact : goal.returns-clause-exact
returns-clause-exact c =
    let adds : AddsAlone c.args.state.now.rows c.in_ok-plan.plan = record { alone = c.in_ok-plan.ensures.alone; changed = c.in_ok-plan.ensures.changed } in
    rw (c.of.ensures, c.edit_of.ensures) (plan_exact c.args.state.now.rows c.in_ok-plan.plan adds)
