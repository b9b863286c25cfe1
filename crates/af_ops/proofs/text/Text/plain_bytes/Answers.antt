use Rattle.std.proofs.Common.{arith, ◌∙◌}
use Rattle.af_ops.proofs.TextLemmas.{adds_text}
use Rattle.af_ops.proofs.text.Text.plain_bytes.Goals as goal

pub returns : goal.returns
returns c =
    adds_text c.args.later c.args.self.now _ c.args.name.now c.args.value.now c.requires.name c.requires.plain
    (c.push_text_member.ensures.items ∙ rw (c.in_ok-reserve.ensures.items, c.as_bytes.ensures.value))
    (omega (arith, c.push_text_member.ensures.ready, c.in_ok-reserve.ensures.ready))
