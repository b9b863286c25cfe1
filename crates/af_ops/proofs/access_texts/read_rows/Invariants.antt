use Rattle.std.proofs.Common.{◌≡◌, drop, map, []}
use Rattle.af_base.specs.Readings.{taking}
use Rattle.af_ops.specs.AccessTexts.{field_of, row_taken}
use Rattle.af_ops.proofs.access_texts.read_rows.Given as goal

-- the members that are left decide the whole
abbrev pub invariant-loop-field : goal.invariant-loop-field
invariant-loop-field g l =
    taking (row_taken l.wrong l.misnamed) l.rows.items (map field_of (drop l.field-index l.fields)) ≡ taking (row_taken l.wrong l.misnamed) [] (map field_of l.fields)
