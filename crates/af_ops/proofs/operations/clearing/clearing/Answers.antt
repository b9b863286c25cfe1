use Rattle.std.proofs.Common.{refl, rules, ◌||◌}
use Rattle.af_runs.specs.Clears.{are_left_by}
use Rattle.af_ops.proofs.ClearingLemmas.{clear_exact, clear_next}
use Rattle.af_ops.proofs.operations.clearing.clearing.Goals as goal

pub returns-clause-told : goal.returns-clause-told
returns-clause-told c =
    rw (c.of.ensures, c.clear_edit.ensures, clear_next (c.args.dry_run || are_left_by c.args.filter c.args.selection c.args.state.now.rows.runs) c.args.state.now.rows c.args.filter c.args.selection)
    (search rules)

pub returns-clause-exact : goal.returns-clause-exact
returns-clause-exact c =
    rw (c.of.ensures, c.clear_edit.ensures)
    (clear_exact c.args.dry_run (are_left_by c.args.filter c.args.selection c.args.state.now.rows.runs) c.args.state.now.rows c.args.filter c.args.selection refl)
