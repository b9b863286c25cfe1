use Rattle.std.proofs.Common.{length}
use Rattle.af_ops.proofs.access_texts.+put_field.Given as goal

abbrev pub decreases-put_field : goal.decreases-put_field
decreases-put_field l = length l.fields.now
