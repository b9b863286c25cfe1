use Rattle.std.proofs.Common.{◌≡◌, ◌∙◌, ◌++◌, sym, ap, cond, List, [], ◌∷◌, get_or}
use Rattle.std.specs.Prelude.{flat_map}
use Rattle.af_runs.specs.Clears.{ChosenRow, admits, chosen_of}
use Rattle.af_runs.specs.declared.run.Run.{Run}
use Rattle.af_runs.proofs.ChangeLemmas.{one_listed}
use Rattle.af_runs.proofs.OneRunLemmas.{admitted_at, admitted_nowhere}
use Rattle.af_runs.proofs.runs.clearing.chosen_in_one.Goals as goal
use Rattle.af_runs.proofs.runs.clearing.chosen_in_one.Goals.{in-Some+in_ok-list_admitted, in_default}

pub returns : goal.returns
returns c =
    elim c.match-place_of_run.branch [
      | in-Some+in_ok-list_admitted w ↦
          let rows : List Run = c.args.runs.now.rows in
          let run : Run = w.index-rows-place.result in
          let here : get_or rows w.in-Some.place run ≡ run = sym (w.index-rows-place.is ∙ ap (λ (xs : List Run). get_or xs w.in-Some.place run) w.rows.ensures.rows) in
          rw w.all-is
          (w.in_ok-list_admitted.ensures
          ∙ ap (λ (l : List ChosenRow). l ++ cond (admits c.args.filter.now run) (chosen_of c.args.selection.now run) []) c.new-all.ensures.items
          ∙ sym (one_listed c.args.filter.now c.args.selection.now (admits c.args.filter.now run) run)
          ∙ ap (flat_map (chosen_of c.args.selection.now))
          (ap (λ (r : Run). cond (admits c.args.filter.now r) (r ∷ []) []) (sym here)
          ∙ sym (admitted_at c.args.filter.now c.args.run_id.now c.requires rows w.in-Some.place run w.in-Some.ensures)))
      | in_default w ↦
          rw w.all-is
          (c.new-all.ensures.items
          ∙ sym (ap (flat_map (chosen_of c.args.selection.now)) (admitted_nowhere c.args.filter.now c.args.run_id.now c.requires c.args.runs.now.rows w.in_default.ensures)))
    ]
