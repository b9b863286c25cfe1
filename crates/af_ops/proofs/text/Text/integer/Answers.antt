use Rattle.std.proofs.Common.{arith, ◌∙◌, rules}
use Rattle.std.specs.Fmt.{signed_decimal}
use Rattle.af_ops.proofs.TextLemmas.{adds_value, integer_is}
use Rattle.af_ops.proofs.text.Text.integer.Goals as goal

pub returns : goal.returns
returns c =
    adds_value c.args.later c.args.self.now _ c.args.name.now (signed_decimal c.args.value) _ c.requires.name (integer_is c.args.value)
    (c.push_member.ensures.items ∙ rw (c.in_ok-reserve.ensures.items, c.as_bytes.ensures.value, c.as_bytes-2.ensures.value, c.format-digits.ensures.text) (search rules))
    (omega (arith, c.push_member.ensures.ready, c.in_ok-reserve.ensures.ready))
