use Rattle.std.proofs.Common.{◌∙◌, ◌∷◌, [], codes, false, refl}
use Rattle.af_ops.proofs.TextLemmas.{adds_pieces}
use Rattle.af_ops.proofs.me_text.put_permissions.Goals as goal

pub returns : goal.returns
returns c =
    adds_pieces false c.args.out.now _ (codes "permissions") (91 ∷ []) _ _ refl refl
    (c.in_ok-reserve-2.ensures.items ∙ c.in_ok-put_pairs.ensures.text ∙ rw (c.push_member.ensures.items, c.in_ok-reserve.ensures.items) refl)
    c.in_ok-reserve-2.ensures.ready
