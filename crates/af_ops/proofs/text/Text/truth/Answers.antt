use Rattle.std.proofs.Common.{arith, ◌∙◌, ap}
use Rattle.serde_json.specs.Data.{boolean}
use Rattle.serde_json.specs.Written.{compact_text}
use Rattle.af_ops.proofs.TextLemmas.{adds_value}
use Rattle.af_ops.proofs.text.Text.truth.Goals as goal

pub returns-then-value : goal.returns-then-value
returns-then-value c =
    adds_value c.args.later c.args.self.now _ c.args.name.now _ _ c.requires.name (ap (λ b. compact_text (boolean b)) c.if-value.true)
    (c.push_member.ensures.items ∙ rw (c.in_ok-reserve.ensures.items, c.as_bytes.ensures.value))
    (omega (arith, c.push_member.ensures.ready, c.in_ok-reserve.ensures.ready))

pub returns-else-value : goal.returns-else-value
returns-else-value c =
    adds_value c.args.later c.args.self.now _ c.args.name.now _ _ c.requires.name (ap (λ b. compact_text (boolean b)) c.if-value.false)
    (c.push_member-else-value.ensures.items ∙ rw (c.in_ok-reserve.ensures.items, c.as_bytes-else-value.ensures.value))
    (omega (arith, c.push_member-else-value.ensures.ready, c.in_ok-reserve.ensures.ready))
