-- The segments of a path, as the code has them.
use Rattle.std.specs.Prelude.{if◌then◌else◌}
use Rattle.af_ops.specs.declared.segment.Segment as declared
use Rattle.af_ops.specs.Table.{Segment, Text, Part}

abbrev pub seen : declared.Segment → Segment
seen it = if it.is_part then Part it.text.now else Text it.text.now
