use Rattle.std.proofs.Common.{ap, ◌∙◌}
use Rattle.std.specs.Map.Iter.{deref}
use Rattle.std.proofs.lemmas.Map.Iter.{iter_end}
use Rattle.af_role.specs.Pairs.{PairRow, with_pairs}
use Rattle.af_role.proofs.permissions.Permissions.add_all.Goals as goal

pub returns : goal.returns
returns c =
    let seen = iter_end (deref {X = PairRow}) c.args.more.now c.loop-pair.yielded _ _ _ _ (c.into_iter-pair-iterator.ensures.into_iter_gives ∙ c.iter-pair-items.ensures.rest) c.loop-pair.yielded_by c.in-None.is c.next.ensures.steps
    in c.loop-pair.invariant ∙ ap (with_pairs c.args.self.now) seen.0
