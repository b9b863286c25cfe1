-- What is told of an operation on the policy under the latest of its versions is what is served of its verdict.
use Rattle.std.proofs.Common.{◌≡◌, ◌⊎◌, ◌+◌, inl, inr, refl, subst, ℕ, List}
use Rattle.std.specs.Prelude.{Option, None, Result, Ok, Err}
use Rattle.af_policy.specs.declared.ask.Ask.{Ask}
use Rattle.af_policy.specs.declared.refusal.Refusal.{Refusal}
use Rattle.af_policy.specs.declared.refusal.Refusal.TheVariants.{OutOfMemory}
use Rattle.af_policy.specs.Rows.{PolicyRows}
use Rattle.af_policy.specs.Versions.{VersionRows, submitted}
use Rattle.af_ops.specs.declared.policy_op.PolicyOp.TheVariants as asks
use Rattle.af_ops.specs.declared.served.Served.{Served}
use Rattle.af_ops.specs.declared.served.Served.TheVariants as served
use Rattle.af_ops.specs.PolicyFaults.{submit_problem}
use Rattle.af_ops.specs.PolicyServed.{IsPolicyServed, IsVerdictServed}
use Rattle.af_ops.specs.PolicyUnder.{IsToldUnder}
use Rattle.af_ops.specs.PolicyVerdicts.{PolicyVerdict, Publishes, Refuses, Tells, asked_text, change_verdict, current, policy_verdict}

-- a verdict that was told makes no version
pub told_served : (versions : VersionRows) (gave : Served) (it : PolicyVerdict) → IsToldUnder (current versions) it gave → IsVerdictServed it versions gave versions
told_served versions served.NothingDone it is = refl
told_served versions (served.Shown shown) (Refuses problem) is = (is, refl)
told_served versions (served.Shown shown) (Tells reply) is = (is, refl)
told_served versions (served.Shown shown) (Publishes reply policy) is = absurd is

-- of what is refused with no problem nothing is told
untold_served : (versions : VersionRows) (gave : Served) (it : PolicyVerdict) → IsToldUnder (current versions) (Refuses None) gave → IsVerdictServed it versions gave versions
untold_served versions served.NothingDone it is = refl
untold_served versions (served.Shown shown) it is = absurd (cc)

module _ (versions : VersionRows) (token : Option (List ℕ)) (ask : Ask) (gave : Served) where
  abbrev Comes : Result PolicyRows Refusal → Type 0
  Comes result = (result ≡ submitted versions token ask) ⊎ (result ≡ Err OutOfMemory)

  -- a change that makes no version
  pub refused_served : (fault : Refusal) → Comes (Err fault) → IsToldUnder (current versions) (Refuses (submit_problem ask fault)) gave
      → IsPolicyServed (asks.Change ask) versions token gave versions
  refused_served fault (inl is) told =
      subst (λ (comes : Result PolicyRows Refusal). IsVerdictServed (change_verdict (current versions) ask comes) versions gave versions) is
      (told_served versions gave (Refuses (submit_problem ask fault)) told)
  refused_served fault (inr is) told =
      let wants : fault ≡ OutOfMemory = cc in
      untold_served versions gave (policy_verdict versions token (asks.Change ask))
      (subst (λ (it : Refusal). IsToldUnder (current versions) (Refuses (submit_problem ask it)) gave) wants told)

  -- a change that makes one
  pub made_served : (new : VersionRows) (later : PolicyRows) → Comes (Ok later) → IsVerdictServed (Publishes (asked_text (current versions + 1) later ask) later) versions gave new
      → IsPolicyServed (asks.Change ask) versions token gave new
  made_served new later (inl is) made =
      subst (λ (comes : Result PolicyRows Refusal). IsVerdictServed (change_verdict (current versions) ask comes) versions gave new) is made
  made_served new later (inr is) made = absurd (cc)
