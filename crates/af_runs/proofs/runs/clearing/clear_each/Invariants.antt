use Rattle.af_runs.proofs.DagClearLemmas.{HaveCleared}
use Rattle.af_runs.proofs.runs.clearing.clear_each.Given as goal

abbrev pub invariant-loop-nth : goal.invariant-loop-nth
invariant-loop-nth l = HaveCleared l.filter l.selection l.initial.runs l.nth l.runs
