use Rattle.std.proofs.Common.{sym, ◌∙◌, ap}
use Rattle.std.specs.Prelude.{option_copied, Some}
use Rattle.af_runs.proofs.RunLemmas.{run_at-is, run_at-none}
use Rattle.af_runs.proofs.runs.Runs.get.Goals as goal

pub returns-in_err-place : goal.returns-in_err-place
returns-in_err-place c = ap option_copied c.from_residual.ensures ∙ sym (run_at-none _ _ c.in_err-place.ensures)

pub returns : goal.returns
returns c =
    let stands = rw (← c.self.view_is) at c.in_ok-place.ensures in
    rw (← c.self.view_is, run_at-is _ _ _ stands c.index.result.now) (ap Some c.index.ensures)
