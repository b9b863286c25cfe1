use Rattle.std.proofs.Common.{◌≡◌, ◌∙◌, ◌+◌, ◌++◌, List, [], sym, ap, subst, arith, Bool}
use Rattle.std.specs.Prelude.{fold, take, Option}
use Rattle.std.specs.Option.{option_map_or}
use Rattle.std.proofs.lemmas.List.Elements.{All-take}
use Rattle.af_runs.specs.Additions.{together}
use Rattle.af_runs.specs.Runs.{with_advanced}
use Rattle.af_runs.specs.declared.new_run.NewRun.{NewRun}
use Rattle.af_runs.specs.declared.run.Run.{Run}
use Rattle.af_sched.specs.Backfills.{backfill_of, backfill_of_row}
use Rattle.af_sched.specs.Create.{with_run}
use Rattle.af_sched.specs.Plan.{Fits, PlanRows, applied}
use Rattle.af_sched.specs.State.{StateRows}
use Rattle.af_sched.specs.Steps.{TakesRuns}
use Rattle.af_sched.specs.declared.dag_row.DagRow.{DagRow}
use Rattle.af_sched.proofs.BackfillPlanLemmas.{Gathers, plan_backfills, plan_fits, plan_of, told_empty, whole_backfill}
use Rattle.af_sched.proofs.PlanLemmas.{IsWholeFor}
use Rattle.af_sched.proofs.state.State.planned_backfill.Goals as goal

pub returns : goal.returns
returns c =
    let state : StateRows = record { dags = c.self.inside.dags; runs = c.self.inside.runs.rows; next_run = c.self.inside.runs.next; pools = c.self.inside.pools.rows; variables = c.self.inside.variables.rows } in
    let all : List NewRun = backfill_of state c.args.dag_id.now c.args.first c.args.last in
    let news : List NewRun = take c.args.most all in
    let by_id = rw (← c.self.view_is) at c.dag.ensures in
    let found : c.in_ok-news.news.items ≡ news =
    c.in_ok-news.ensures ∙ ap (λ (o : Option DagRow). take c.args.most (option_map_or (backfill_of_row c.args.first c.args.last) o [])) by_id in
    let stays : c.add_all.new.additions.before ≡ state.runs = c.in_ok-add_all.ensures.before ∙ c.of-additions.ensures.before in
    let gathers : Gathers state news c.of-additions.result c.add_all.new.additions c.in_ok-cursors.cursors.items = record {
      rows = c.self.invariant;
      before = c.of-additions.ensures.before;
      none = c.of-additions.ensures.added;
      next = c.of-additions.ensures.next;
      stays = stays;
      takes = subst (λ (xs : List NewRun). TakesRuns xs (together c.of-additions.result) (together c.add_all.new.additions)) found c.in_ok-add_all.ensures.runs;
      kept = rw stays at c.into_rows-added.ensures.kept;
      told = rw (c.rows.ensures) at c.in_ok-cursors.ensures;
      whole = All-take (IsWholeFor state.dags) c.args.most all (whole_backfill state c.args.dag_id.now c.args.first c.args.last);
    } in
    let changes : Bool = Rattle.std.specs.Prelude.not c.is_empty-is_change.result in
    let plan : PlanRows = record { cursors = c.in_ok-cursors.cursors.items; moved = c.new.result.items; added = c.into_rows-added.result.0.items; next_run = c.into_rows-added.result.1 + 1; changes = changes } in
    let is_plan : plan_of state news c.of-additions.result c.add_all.new.additions c.in_ok-cursors.cursors.items gathers changes ≡ plan = λ i. record {
      cursors = c.in_ok-cursors.cursors.items;
      moved = sym c.new.ensures.items i;
      added = sym c.into_rows-added.ensures.added i;
      next_run = sym c.into_rows-added.ensures.next i;
      changes = changes;
    } in
    rw (← c.self.view_is) record {
      ok = subst (λ (p : PlanRows). applied p state ≡ fold with_run state news) is_plan (plan_backfills state news c.of-additions.result c.add_all.new.additions c.in_ok-cursors.cursors.items gathers changes);
      fits = subst (λ (p : PlanRows). Fits p state) is_plan (plan_fits state news c.of-additions.result c.add_all.new.additions c.in_ok-cursors.cursors.items gathers changes);
      alone = ap (λ (xs : List Run). fold with_advanced state.runs xs ++ c.into_rows-added.result.0.items) c.new.ensures.items;
      changed = told_empty c.into_rows-added.result.0.items c.into_rows-added.result.0.len c.is_empty-is_change.result (omega (arith, c.into_rows-added.result.0.ok.0)) c.is_empty-is_change.ensures;
    }
