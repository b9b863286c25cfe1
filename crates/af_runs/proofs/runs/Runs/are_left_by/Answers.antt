use Rattle.std.proofs.Common.{◌≡◌, ◌∙◌, sym, rules}
use Rattle.af_runs.specs.Clears.{are_left_by}
use Rattle.af_runs.proofs.ClearLemmas.{runs_same, same_runs}
use Rattle.af_runs.proofs.runs.Runs.are_left_by.Goals as goal

pub returns-clause-left : goal.returns-clause-left
returns-clause-left c =
    let told : c.are_left.result ≡ are_left_by c.args.filter.now c.args.selection.now c.args.self.now.rows = search rules in
    (λ is. runs_same c.args.selection.now c.args.filter.now c.args.self.now.rows (sym told ∙ is), λ same. told ∙ same_runs c.args.selection.now c.args.filter.now c.args.self.now.rows same)
