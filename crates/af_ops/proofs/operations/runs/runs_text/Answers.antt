use Rattle.std.proofs.Common.{◌∙◌, codes, map, refl}
use Rattle.af_ops.specs.Rows.{run_fields}
use Rattle.af_ops.proofs.PageLemmas.{listing_now}
use Rattle.af_ops.proofs.operations.runs.runs_text.Goals as goal

pub returns : goal.returns
returns c =
    c.in_ok-body.ensures
    ∙ listing_now (codes "dag_runs") (λ run. run.now) run_fields c.args.window c.cut-shown.result.now c.args.runs.now (map (λ run. run.now) c.args.runs.now) _
    c.cut-shown.ensures refl refl
