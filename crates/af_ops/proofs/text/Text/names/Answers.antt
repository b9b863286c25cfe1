use Rattle.std.proofs.Common.{◌∙◌, refl, ◌∷◌, []}
use Rattle.af_ops.proofs.TextLemmas.{adds_pieces}
use Rattle.af_ops.proofs.text.Text.names.Goals as goal

pub returns : goal.returns
returns g c =
    adds_pieces c.args.later c.args.self.now _ c.args.name.now (91 ∷ []) _ _ c.requires refl
    (c.in_ok-reserve-2.ensures.items ∙ c.in_ok-put_names.ensures.text ∙ rw (c.push_member.ensures.items, c.in_ok-reserve.ensures.items, c.as_bytes.ensures.value))
    c.in_ok-reserve-2.ensures.ready
