use Rattle.af_policy.proofs.FrontLemmas.{front_below}
use Rattle.af_policy.proofs.shared.fronts.below.Goals as goal

pub returns : goal.returns
returns c = front_below c.args.bytes.now c.args.other.now (λ k. (c.type_inv.bytes k).fits) (λ k. (c.type_inv.other k).fits) c.requires
