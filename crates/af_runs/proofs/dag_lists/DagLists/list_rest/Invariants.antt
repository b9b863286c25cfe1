use Rattle.std.proofs.Common.{◌-◌, length}
use Rattle.af_runs.specs.DagLists.{AreDagLists}
use Rattle.af_runs.proofs.dag_lists.DagLists.list_rest.Given as goal

abbrev pub invariant-loop-self : goal.invariant-loop-self
invariant-loop-self l = AreDagLists l.rows l.initial.self → AreDagLists l.rows l.self

abbrev pub decreases-loop-self : goal.decreases-loop-self
decreases-loop-self l = length l.rows - l.self.listed
