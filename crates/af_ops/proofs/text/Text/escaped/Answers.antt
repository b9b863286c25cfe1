use Rattle.std.proofs.Common.{arith, ◌∙◌, sym}
use Rattle.serde_json.specs.Data.{string}
use Rattle.af_ops.proofs.TextLemmas.{adds_value}
use Rattle.af_ops.proofs.text.Text.escaped.Goals as goal

pub returns : goal.returns
returns c =
    adds_value c.args.later c.args.self.now _ c.args.name.now c.in_ok-text.text.items (string c.args.value.now) c.requires.name
    (sym c.in_ok-text.ensures)
    (c.push_member.ensures.items ∙ rw (c.in_ok-reserve.ensures.items, c.as_bytes.ensures.value, c.as_slice.ensures.value))
    (omega (arith, c.push_member.ensures.ready, c.in_ok-reserve.ensures.ready, c.as_bytes.ensures.len, c.as_slice.ensures.len))
