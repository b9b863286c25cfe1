use Rattle.std.proofs.Common.{◌≡◌, ◌∙◌, sym, subst, ap, List, get_or}
use Rattle.af_graph.specs.declared.task_spec.TaskSpec.{TaskSpec}
use Rattle.af_runs.specs.declared.instance.Instance.{Instance}
use Rattle.af_sched.specs.Placed.{Placed, placed_of}
use Rattle.af_sched.specs.Weights.{IsAsHeavy}
use Rattle.af_sched.proofs.HeavyLemmas.{no_lighter_stays}
use Rattle.af_sched.proofs.PlacedLemmas.{get_or-placed_of, placed_here}
use Rattle.af_sched.proofs.state.claiming.first_at.Goals as goal

pub returns-then-is_no_lighter : goal.returns-then-is_no_lighter
returns-then-is_no_lighter c d =
    let next : Placed = record { run = c.args.run.now; place = c.args.place; task = c.index-tasks-place.result; instance = get_or c.args.run.now.instances c.args.place d.instance } in
    let here : get_or (placed_of c.args.tasks.now c.args.run.now) c.args.place d ≡ next =
    get_or-placed_of c.args.tasks.now c.args.run.now c.args.place d c.index-tasks-place.result d.instance c.requires.task c.requires.instance
    ∙ ap (λ (task : TaskSpec). record next { task = task }) (sym c.index-tasks-place.is) in
    let heavy : IsAsHeavy c.index-tasks-place.result.priority_weight c.args.first = subst (IsAsHeavy c.index-tasks-place.result.priority_weight) c.as_ref.ensures.value (c.is_no_lighter.ensures c.if-is_no_lighter.true) in
    rw here (no_lighter_stays c.args.first next heavy c.requires.before)

pub returns : goal.returns
returns c d =
    let next : Placed = record { run = c.args.run.now; place = c.args.place; task = c.index-tasks-place.result; instance = c.index-as_slice-place.result } in
    let here : get_or (placed_of c.args.tasks.now c.args.run.now) c.args.place d ≡ next =
    placed_here c.args.tasks.now c.args.run.now c.args.place d c.index-tasks-place.result c.index-as_slice-place.result c.requires.task c.requires.instance c.index-tasks-place.is (c.index-as_slice-place.is ∙ ap (λ (xs : List Instance). get_or xs c.args.place c.index-as_slice-place.result) c.as_slice.ensures) in
    rw here c.first_with.ensures
