use Rattle.std.proofs.Common.{sym, ap, ◌∙◌, rules}
use Rattle.af_role.proofs.MaskLemmas.{has_at-get}
use Rattle.af_role.specs.KindMasks.{has_at}
use Rattle.af_role.proofs.kind_mask.KindMask.has.Goals as goal

pub returns : goal.returns
returns c =
    c.has.ensures
    ∙ sym (has_at-get c.args.self.now.sets c.place.result _ c.args.action (search rules))
    ∙ ap (λ n. has_at c.args.self.now.sets n c.args.action) c.place.ensures.place
