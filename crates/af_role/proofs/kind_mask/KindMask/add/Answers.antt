use Rattle.std.proofs.Common.{◌||◌, ◌&&◌, nat_eq, sym, ap, ◌∙◌, rules}
use Rattle.af_role.specs.Resources.{kind_rank, same_action}
use Rattle.af_role.specs.KindMasks.{kind_has}
use Rattle.af_role.proofs.MaskLemmas.{has_at-added, has_at-get}
use Rattle.af_role.proofs.kind_mask.KindMask.add.Goals as goal

pub returns : goal.returns
returns c other a =
    has_at-added c.args.self.now.sets c.place-place.result (kind_rank other) c.with.result (same_action c.args.action a) a (search rules)
    (c.with.ensures a ∙ ap (λ b. same_action c.args.action a || b) (sym (has_at-get c.args.self.now.sets c.place-place.result _ a (search rules))))
    ∙ ap (λ n. (nat_eq n (kind_rank other) && same_action c.args.action a) || kind_has c.args.self.now other a) c.place-place.ensures.place
