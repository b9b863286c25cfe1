use Rattle.std.proofs.Common.{sym}
use Rattle.af_runs.specs.Runs.{runs_of}
use Rattle.af_runs.proofs.DagPlaceLemmas.{nth_from}
use Rattle.af_runs.proofs.NthLemmas.{past_from_none}
use Rattle.af_runs.proofs.runs.Runs.place_of_nth.Goals as goal

pub returns-in-Some : goal.returns-in-Some
returns-in-Some c = nth_from c.args.self.now.rows c.args.dag_id.now c.args.nth c.in-Some.run'.now c.place_of.result (sym c.in-Some.ensures) c.place_of.ensures

pub returns-in-None : goal.returns-in-None
returns-in-None c = past_from_none (runs_of c.args.self.now.rows c.args.dag_id.now) c.args.nth (sym c.in-None.ensures)
