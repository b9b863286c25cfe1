use Rattle.std.proofs.Common.{◌∙◌, codes, length, rules}
use Rattle.af_listing.specs.Pages.{cut}
use Rattle.af_runs.specs.Runs.{runs_of}
use Rattle.af_ops.specs.Rows.{run_fields}
use Rattle.af_ops.proofs.PageLemmas.{all_now}
use Rattle.af_ops.proofs.operations.runs.dag_runs_text.Goals as goal

pub returns : goal.returns
returns c =
    c.in_ok-body.ensures
    ∙ all_now (codes "dag_runs") (λ run. run.now) run_fields c.as_slice.result.now (cut c.args.window (runs_of c.args.state.now.rows.runs c.args.dag_id.now)) _ (length (runs_of c.args.state.now.rows.runs c.args.dag_id.now)) (search rules) c.count_of_dag-total.ensures
