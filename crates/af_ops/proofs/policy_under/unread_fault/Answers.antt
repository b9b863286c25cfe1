use Rattle.std.proofs.Common.{inr, refl}
use Rattle.af_ops.proofs.PolicyUnderLemmas.{made_ok}
use Rattle.af_ops.proofs.policy_under.unread_fault.Goals as goal

pub returns-in-Ok : goal.returns-in-Ok
returns-in-Ok c =
    inr (inr (made_ok _ _ c.in-Ok.ensures.ok.decided), refl)
