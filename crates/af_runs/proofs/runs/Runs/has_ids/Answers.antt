use Rattle.std.proofs.Common.{◌∙◌, ap, List, ℕ}
use Rattle.std.specs.List.{list_any}
use Rattle.af_runs.specs.Runs.{is_run}
use Rattle.af_runs.proofs.runs.Runs.has_ids.Goals as goal

pub returns : goal.returns
returns c = c.has_id.ensures ∙ ap (λ (id : List ℕ). list_any (is_run c.args.dag_id.now id) c.args.self.now.rows) c.as_str.ensures.text
