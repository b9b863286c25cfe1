use Rattle.std.proofs.Common.{◌≡◌, ◌∙◌, ◌++◌, refl, sym, ap, rules, List, [], ◌∷◌, append_assoc, append-nil}
use Rattle.std.specs.List.{list_all}
use Rattle.af_runs.specs.Clears.{are_left_by, is_left_by}
use Rattle.af_runs.specs.Runs.{runs_of}
use Rattle.af_runs.specs.declared.run.Run.{Run}
use Rattle.af_runs.proofs.ChangeLemmas.{admitted_of_dag}
use Rattle.af_runs.proofs.ClearLemmas.{left_fails, left_more}
use Rattle.af_runs.proofs.runs.clearing.is_each_left.Goals as goal

pub loop-run-init : goal.loop-run-init
loop-run-init c = rw c.into_iter-run-iterator.ensures.into_iter_gives ([], c.of_dag-run-items.ensures, refl)

pub returns-then-not-is_left : goal.returns-then-not-is_left
returns-then-not-is_left c =
    let step = c.in-Some.ensures.steps in
    let so_far = c.loop-run.invariant in
    let run : Run = c.in-Some.run'.now in
    sym
    (ap (list_all (is_left_by c.args.selection.now)) (sym (admitted_of_dag c.args.filter.now c.args.runs.now.rows))
    ∙ ap (are_left_by c.args.filter.now c.args.selection.now) (sym so_far.1 ∙ ap (λ (rest : List Run). so_far.0 ++ rest) step)
    ∙ left_fails c.args.selection.now c.args.filter.now so_far.0 run c.next.new.self (search rules))

pub loop-run-preserved : goal.loop-run-preserved
loop-run-preserved c =
    let step = c.in-Some.ensures.steps in
    let so_far = c.loop-run.invariant in
    let run : Run = c.in-Some.run'.now in (
      so_far.0 ++ run ∷ [],
      append_assoc so_far.0 (run ∷ []) c.next.new.self ∙ ap (λ (rest : List Run). so_far.0 ++ rest) (sym step) ∙ so_far.1,
      left_more c.args.selection.now c.args.filter.now so_far.0 run so_far.2 (search rules),
    )

pub returns : goal.returns
returns c =
    let so_far = c.loop-run.invariant in
    let all : so_far.0 ≡ runs_of c.args.runs.now.rows c.args.filter.now.dag_id = sym (append-nil so_far.0) ∙ ap (λ (rest : List Run). so_far.0 ++ rest) (sym c.in-None.ensures.steps.0) ∙ so_far.1 in
    sym
    (ap (list_all (is_left_by c.args.selection.now)) (sym (admitted_of_dag c.args.filter.now c.args.runs.now.rows))
    ∙ ap (are_left_by c.args.filter.now c.args.selection.now) (sym all)
    ∙ so_far.2)
