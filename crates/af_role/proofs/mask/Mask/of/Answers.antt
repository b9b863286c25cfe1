use Rattle.std.proofs.Common.{◌||◌, [], ◌∷◌, map, sym, ap, ◌∙◌, Bor}
use Rattle.std.proofs.lemmas.List.{map-append}
use Rattle.af_role.specs.Pairs.{PairRow, same_pair}
use Rattle.af_role.specs.Roles.{contains_pair}
use Rattle.af_role.proofs.PairMaskLemmas.{contains_more}
use Rattle.af_role.proofs.mask.Mask.of.Goals as goal

pub loop-pair-preserved : goal.loop-pair-preserved
loop-pair-preserved c other =
    c.in_ok-add.ensures other
    ∙ ap (λ b. same_pair c.in-Some.pair.now other || b) (c.loop-pair.invariant other)
    ∙ sym (contains_more (map (λ (pair : Bor PairRow). pair.now) c.loop-pair.yielded) c.in-Some.pair.now other)
    ∙ ap (λ pairs. contains_pair pairs other) (sym (map-append (λ (pair : Bor PairRow). pair.now) c.loop-pair.yielded (c.in-Some.pair ∷ [])))
