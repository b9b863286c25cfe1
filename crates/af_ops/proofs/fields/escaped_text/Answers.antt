use Rattle.std.proofs.Common.{◌∙◌}
use Rattle.serde_json.specs.Data.{string}
use Rattle.serde_json.proofs.Texts.{print-outline}
use Rattle.af_ops.proofs.fields.escaped_text.Goals as goal

pub returns : goal.returns
returns c =
    c.into_inner.ensures.items ∙ rw (c.in_ok-string.ensures.ok, c.string.ensures.room.0, c.new-out.ensures.before, c.new-out.ensures.tokens, c.new.ensures.items) (print-outline (string c.args.value.now))
