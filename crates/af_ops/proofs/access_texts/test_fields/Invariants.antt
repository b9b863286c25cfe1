use Rattle.std.proofs.Common.{◌≡◌, drop, map}
use Rattle.af_base.specs.Readings.{first_fault}
use Rattle.af_ops.specs.AccessTexts.{field_of, field_tested}
use Rattle.af_ops.proofs.access_texts.test_fields.Given as goal

-- the members that are left decide the whole
abbrev pub invariant-loop-field : goal.invariant-loop-field
invariant-loop-field g l =
    first_fault (field_tested l.wrong) (map field_of (drop l.field-index l.fields)) ≡ first_fault (field_tested l.wrong) (map field_of l.fields)
