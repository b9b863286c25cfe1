use Rattle.af_policy.proofs.FrontLemmas.{front_above}
use Rattle.af_policy.proofs.shared.fronts.above.Goals as goal

pub returns : goal.returns
returns c = front_above c.args.bytes.now c.args.other.now (λ k. (c.type_inv.bytes k).fits) (λ k. (c.type_inv.other k).fits) c.requires
