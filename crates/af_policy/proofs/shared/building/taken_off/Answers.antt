use Rattle.af_policy.proofs.ShapeLemmas.{put_back}
use Rattle.af_policy.proofs.shared.building.taken_off.Goals as goal

pub returns-in-Some-clause-some : goal.returns-in-Some-clause-some
returns-in-Some-clause-some g c =
    put_back _ _ _ _ _ _ _ c.in_ok-behind.ensures.items c.in_ok-behind.ensures.tail c.in-Some.ensures.items c.in_ok-rest.ensures
