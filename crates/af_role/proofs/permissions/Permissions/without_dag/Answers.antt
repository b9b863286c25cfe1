use Rattle.std.proofs.Common.{[], not, ap, ◌∙◌}
use Rattle.std.specs.List.{filter}
use Rattle.std.specs.Map.Iter.{deref}
use Rattle.std.proofs.lemmas.Map.Iter.{iter_end}
use Rattle.af_role.specs.Pairs.{PairRow, with_pairs}
use Rattle.af_role.specs.Access.{is_about}
use Rattle.af_role.proofs.AccessLemmas.{with_pairs-filter}
use Rattle.af_role.proofs.permissions.Permissions.without_dag.Goals as goal

pub returns : goal.returns
returns c =
    let seen = iter_end (deref {X = PairRow}) c.args.self.now c.loop-pair.yielded _ _ _ _ (c.into_iter-pair-iterator.ensures.into_iter_gives ∙ c.iter-pair-items.ensures.rest) c.loop-pair.yielded_by c.in-None.is c.next.ensures.steps
    in c.loop-pair.invariant
    ∙ ap (λ pairs. with_pairs [] (filter (λ pair. not (is_about c.args.dag.now pair)) pairs)) seen.0
    ∙ with_pairs-filter (λ pair. not (is_about c.args.dag.now pair)) c.args.self.now c.iter-pair-items.ensures.order
