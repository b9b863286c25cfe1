use Rattle.std.proofs.Common.{refl, arith, ◌∙◌}
use Rattle.af_ops.proofs.TextLemmas.{adds_value}
use Rattle.af_ops.proofs.text.Text.wide.Goals as goal

pub returns : goal.returns
returns c =
    adds_value c.args.later c.args.self.now _ c.args.name.now _ _ c.requires.name refl
    (c.push_member.ensures.items ∙ rw (c.in_ok-reserve.ensures.items, c.as_bytes.ensures.value, c.as_bytes-2.ensures.value, c.format-digits.ensures.text))
    (omega (arith, c.push_member.ensures.ready, c.in_ok-reserve.ensures.ready))
