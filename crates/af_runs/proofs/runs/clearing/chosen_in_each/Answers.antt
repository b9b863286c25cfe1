use Rattle.std.proofs.Common.{◌≡◌, ◌∙◌, ◌++◌, rules, sym, ap, List, cond, [], ◌∷◌, append_assoc, append-nil}
use Rattle.std.specs.Prelude.{flat_map}
use Rattle.af_runs.specs.Clears.{ChosenRow, admits, chosen_in, chosen_of}
use Rattle.af_runs.specs.Runs.{runs_of}
use Rattle.af_runs.specs.declared.run.Run.{Run}
use Rattle.af_runs.proofs.ChangeLemmas.{admitted_of_dag, chosen-more}
use Rattle.af_runs.proofs.runs.clearing.chosen_in_each.Goals as goal

pub loop-run-init : goal.loop-run-init
loop-run-init c = rw c.into_iter-run-iterator.ensures.into_iter_gives ([], c.of_dag-run-items.ensures, search rules)

pub loop-run-preserved : goal.loop-run-preserved
loop-run-preserved c =
    let step = c.in-Some.ensures.steps in
    let so_far = c.loop-run.invariant in
    let run : Run = c.in-Some.run'.now in (
      so_far.0 ++ run ∷ [],
      append_assoc so_far.0 (run ∷ []) c.next.new.self ∙ ap (λ (rest : List Run). so_far.0 ++ rest) (sym step) ∙ so_far.1,
      c.in_ok-list_admitted.ensures
          ∙ ap (λ (l : List ChosenRow). l ++ cond (admits c.args.filter.now run) (chosen_of c.args.selection.now run) []) so_far.2
          ∙ sym (chosen-more c.args.filter.now c.args.selection.now so_far.0 run),
    )

pub returns : goal.returns
returns c =
    let so_far = c.loop-run.invariant in
    let all : so_far.0 ≡ runs_of c.args.runs.now.rows c.args.filter.now.dag_id = sym (append-nil so_far.0) ∙ ap (λ (rest : List Run). so_far.0 ++ rest) (sym c.in-None.ensures.steps.0) ∙ so_far.1 in
    so_far.2
    ∙ ap (λ (seen : List Run). chosen_in seen c.args.filter.now c.args.selection.now) all
    ∙ ap (flat_map (chosen_of c.args.selection.now)) (admitted_of_dag c.args.filter.now c.args.runs.now.rows)
