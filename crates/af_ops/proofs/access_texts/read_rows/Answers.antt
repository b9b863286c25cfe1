use Rattle.std.proofs.Common.{arith}
use Rattle.af_ops.specs.AccessTexts.{field_of, row_taken}
use Rattle.af_ops.proofs.SeenTakingLemmas.{all_taken, seen_taken}
use Rattle.af_ops.proofs.access_texts.read_rows.Goals as goal

pub loop-field-preserved : goal.loop-field-preserved
loop-field-preserved g c =
    seen_taken field_of (row_taken c.args.wrong c.args.misnamed) c.args.fields.now _ c.loop-field.field-index c.field-item.result c.loop-field.rows.items c.add_row.new.rows.items (omega arith) c.field-item.is c.in_ok-add_row.ensures c.loop-field.invariant

pub returns : goal.returns
returns g c =
    all_taken field_of (row_taken c.args.wrong c.args.misnamed) c.args.fields.now _ c.loop-field.field-index c.loop-field.rows.items (omega arith) c.loop-field.invariant
