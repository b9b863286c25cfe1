use Rattle.std.proofs.Common.{sym, ◌∙◌}
use Rattle.af_runs.proofs.OneRunLemmas.{cleared_at, cleared_nowhere, some_default}
use Rattle.af_runs.proofs.runs.clearing.clear_one.Goals as goal

pub clear_at-requires : goal.clear_at-requires
clear_at-requires c = c.in-Some.ensures.within

pub returns-in-Some : goal.returns-in-Some
returns-in-Some c =
    some_default c.args.runs.now.rows c.in-Some.place c.in-Some.ensures.within (λ d.
    c.clear_at.ensures d
    ∙ (λ i. record c.args.runs.now { rows = sym (cleared_at c.args.filter.now c.args.run_id.now c.requires c.args.selection.now c.args.runs.now.rows c.in-Some.place d c.in-Some.ensures) i }))

pub returns-in_default : goal.returns-in_default
returns-in_default c =
    λ i. record c.args.runs.now { rows = sym (cleared_nowhere c.args.filter.now c.args.run_id.now c.requires c.args.selection.now c.args.runs.now.rows c.in_default.ensures) i }
