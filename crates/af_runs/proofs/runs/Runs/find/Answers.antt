use Rattle.std.proofs.Common.{◌≡◌, ◌∙◌, sym, ap, subst, ◌+◌, ◌<◌, ℕ, List, length, get_or, true, false}
use Rattle.std.specs.Prelude.{option_copied, Some}
use Rattle.af_runs.specs.Runs.{is_run}
use Rattle.af_runs.specs.declared.run.Run.{Run}
use Rattle.af_names.proofs.OrderLemmas.{find-none}
use Rattle.af_runs.proofs.RunsLemmas.{found_there}
use Rattle.af_runs.proofs.runs.Runs.find.Goals as goal

pub returns-in_err-place : goal.returns-in_err-place
returns-in_err-place c =
    let none = subst (λ (id : List ℕ). (other : ℕ) (d : Run) → other < length c.args.self.now.rows → is_run c.args.dag_id.now id (get_or c.args.self.now.rows other d) ≡ false) c.as_str.ensures.text c.in_err-place.ensures.none in
    ap option_copied c.from_residual.ensures ∙ sym (find-none (is_run c.args.dag_id.now c.args.run_id.now) c.args.self.now.rows none)

pub returns : goal.returns
returns c =
    let is = c.self.invariant in
    let at = rw (← c.self.view_is) at c.in_ok-place.ensures in
    let here = subst (λ (id : List ℕ). (e : Run) → is_run c.args.dag_id.now id (get_or c.self.inside.rows.items c.in_ok-place.place e) ≡ true) c.as_str.ensures.text at.here in
    rw (← c.self.view_is) (ap Some c.index.ensures ∙ sym (found_there c.args.dag_id.now c.args.run_id.now c.self.inside.rows.items (c.self.inside.last + 1) is.0 c.in_ok-place.place c.index.result.now at.within here))
