use Rattle.std.proofs.Common.{◌≡◌, ◌∙◌, sym, ap, cond, List, [], ◌∷◌, get_or}
use Rattle.std.specs.List.{list_all}
use Rattle.af_runs.specs.Clears.{admits, is_left_by}
use Rattle.af_runs.specs.declared.run.Run.{Run}
use Rattle.af_runs.proofs.OneRunLemmas.{admitted_at, admitted_nowhere, left_alone}
use Rattle.af_runs.proofs.runs.clearing.is_one_left.Goals as goal

pub returns-in-Some : goal.returns-in-Some
returns-in-Some c =
    let rows : List Run = c.args.runs.now.rows in
    let run : Run = c.index-rows-place.result in
    let here : get_or rows c.in-Some.place run ≡ run = sym (c.index-rows-place.is ∙ ap (λ (xs : List Run). get_or xs c.in-Some.place run) c.rows.ensures.rows) in
    c.is_left.ensures
    ∙ left_alone (admits c.args.filter.now run) c.args.selection.now run
    ∙ ap (list_all (is_left_by c.args.selection.now))
    (ap (λ (r : Run). cond (admits c.args.filter.now r) (r ∷ []) []) (sym here)
    ∙ sym (admitted_at c.args.filter.now c.args.run_id.now c.requires rows c.in-Some.place run c.in-Some.ensures))

pub returns-in-None : goal.returns-in-None
returns-in-None c =
    sym (ap (list_all (is_left_by c.args.selection.now)) (admitted_nowhere c.args.filter.now c.args.run_id.now c.requires c.args.runs.now.rows c.in-None.ensures))
