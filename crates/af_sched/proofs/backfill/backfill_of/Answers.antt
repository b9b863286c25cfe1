use Rattle.std.proofs.Common.{◌≡◌, ◌∙◌, sym, ap, refl, subst, List, [], ℕ, take, map}
use Rattle.std.specs.Option.{option_copied, option_map_or}
use Rattle.std.specs.Result.{IfOk}
use Rattle.std.proofs.lemmas.List.{take-map}
use Rattle.af_graph.specs.Schedules.{is_scheduled}
use Rattle.af_runs.specs.declared.new_run.NewRun.{NewRun}
use Rattle.af_sched.specs.Backfills.{backfill_of_row, backfill_run, points_within}
use Rattle.af_sched.proofs.backfill.backfill_of.Goals as goal

pub returns : goal.returns
returns c =
    let of_point : ℕ → NewRun = backfill_run c.in-Some.row.now.dag (is_scheduled c.in-Some-schedule.schedule) in
    let points : List ℕ = points_within (is_scheduled c.in-Some-schedule.schedule) c.args.first c.args.last in
    let row_is = c.in-Some.is in
    let schedule_is = c.in-Some-schedule.ensures in
    let chosen : option_map_or (backfill_of_row c.args.first c.args.last) (option_copied c.args.row) [] ≡ map of_point points = rw (row_is, ← schedule_is) refl in
    let same : map of_point c.as_slice.result.now ≡ take c.args.most (option_map_or (backfill_of_row c.args.first c.args.last) (option_copied c.args.row) []) =
    ap (map of_point) (c.as_slice.ensures.value ∙ c.in_ok-points.ensures) ∙ sym (take-map of_point c.args.most points) ∙ ap (take c.args.most) (sym chosen) in
    subst (λ (xs : List NewRun). IfOk c.runs_for.result (λ runs. runs.items ≡ xs)) same c.runs_for.ensures
