use Rattle.std.proofs.Common.{◌∙◌, codes, rules}
use Rattle.af_ops.specs.Rows.{dag_fields}
use Rattle.af_ops.proofs.PageLemmas.{listing_now}
use Rattle.af_ops.proofs.operations.dags.chosen_text.Goals as goal

pub returns : goal.returns
returns g c =
    c.in_ok-body.ensures
    ∙ listing_now (codes "dags") (λ row. row.now) dag_fields c.args.window c.cut-shown.result.now c.in_ok-listed.listed.items _ _
    (rw (c.cut-shown.ensures, c.as_slice.ensures.value)) c.in_ok-listed.ensures (search rules)
