use Rattle.std.proofs.Common.{◌≡◌, ◌∙◌, sym, ap, List, [], ◌∷◌, ◌++◌, append_assoc, append-nil}
use Rattle.std.proofs.lemmas.Grind.{flat_map-append}
use Rattle.af_runs.specs.Busy.{holders_of}
use Rattle.af_runs.specs.declared.run.Run.{Run}
use Rattle.af_sched.specs.Counting.{counts_of}
use Rattle.af_sched.specs.Placed.{Placed, placed_of, placed_in}
use Rattle.af_sched.specs.State.{tasks_of}
use Rattle.af_sched.proofs.CountLemmas.{counts_holders}
use Rattle.af_sched.proofs.counting.count_runs.Goals as goal

pub loop-run-init : goal.loop-run-init
loop-run-init c = rw c.into_iter-run-iterator.ensures.into_iter_gives ([], c.holders-run-items.ensures, c.requires.none)

pub loop-run-preserved : goal.loop-run-preserved
loop-run-preserved c =
    let step = c.in-Some.ensures.steps in
    let so_far = c.loop-run.invariant in
    let run : Run = c.in-Some.run'.now in
    let here : List Placed = placed_of (tasks_of c.args.dags.now run.dag_id) run in
    let more = rw c.tasks_of.ensures at c.count_run.ensures.counts in
    let lists : placed_in c.args.dags.now so_far.0 ++ here ≡ placed_in c.args.dags.now (so_far.0 ++ run ∷ []) =
    ap (λ (ys : List Placed). placed_in c.args.dags.now so_far.0 ++ ys) (sym (append-nil here))
    ∙ sym (flat_map-append (λ (r : Run). placed_of (tasks_of c.args.dags.now r.dag_id) r) so_far.0 (run ∷ [])) in (
      so_far.0 ++ run ∷ [],
      append_assoc so_far.0 (run ∷ []) c.next.new.self ∙ ap (λ (rest : List Run). so_far.0 ++ rest) (sym step) ∙ so_far.1,
      more (placed_in c.args.dags.now so_far.0) so_far.2 ∙ ap (λ (xs : List Placed). counts_of xs c.args.pools.now) lists,
    )

pub returns : goal.returns
returns c =
    let so_far = c.loop-run.invariant in
    let all : so_far.0 ≡ holders_of c.args.runs.now.rows = sym (append-nil so_far.0) ∙ ap (λ (rest : List Run). so_far.0 ++ rest) (sym c.in-None.ensures.steps.0) ∙ so_far.1 in
    so_far.2
    ∙ ap (λ (seen : List Run). counts_of (placed_in c.args.dags.now seen) c.args.pools.now) all
    ∙ counts_holders c.args.dags.now c.args.runs.now.rows c.args.pools.now
