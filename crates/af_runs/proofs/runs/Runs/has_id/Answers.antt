use Rattle.std.proofs.Common.{◌∙◌}
use Rattle.af_runs.proofs.RunsLemmas.{met_any}
use Rattle.af_runs.proofs.runs.Runs.has_id.Goals as goal

pub returns : goal.returns
returns c = c.is_some.ensures ∙ met_any _ c.args.self.now.rows c.place_by.result c.place_by.ensures
