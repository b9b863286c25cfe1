-- Each answer to a user's step, read back to what the roles of the user list.
use Rattle.std.proofs.Common.{◌≡◌, ◌≢◌, ◌∙◌, ◌⊎◌, inl, inr, sym, ap, subst, true, false}
use Rattle.std.specs.Prelude.{Option, Some, unwrap_or}
use Rattle.af_policy.specs.Rows.{PolicyRows}
use Rattle.af_ops.specs.declared.call.Call.TheVariants as call
use Rattle.af_ops.specs.declared.shown_answer.Shown.{Shown}
use Rattle.af_ops.specs.declared.status.Status.TheVariants.{Unauthorized, Forbidden}
use Rattle.af_world.specs.declared.step.Step.{Step}
use Rattle.af_world.specs.declared.step.Step.TheVariants as step
use Rattle.af_world.specs.Asked.{Asked, asked_of, dag_asked, dags_asked, hands_in, needs_asked}
use Rattle.af_world.specs.Laws.{AnswersAreGranted, AnsweredRightly, DeniedRightly, DenialsNameTheFirst, IsUnder, StrangeRightly, StrangersHaveNoUser}
use Rattle.af_world.specs.Moving.{Move}
use Rattle.af_world.specs.Steps.{Moves}
use Rattle.af_world.specs.Worlds.{World}
use Rattle.af_world.proofs.ActLemmas.{IsDecided, act_says}
use Rattle.af_world.proofs.JudgedLemmas.{Granted, IsJudged, Lacking, Nobody}
use Rattle.af_world.proofs.PublishLemmas.{me_says, publish_says}
use Rattle.af_world.proofs.RuleLemmas.{first_lacked, none_lacked}
use Rattle.af_world.proofs.ToldLemmas.{IsOther}

module _ (w : World) (asked : Asked) (shown : Shown) (policy : PolicyRows) (under : IsUnder w shown policy) where
  abbrev Judged : Type 0
  Judged = IsJudged policy asked.token (dag_asked asked.call) (dags_asked w.ledger.state asked.call) (needs_asked asked.call) shown

  granted_by : Judged → shown.status ≢ Unauthorized → shown.status ≢ Forbidden → AnsweredRightly w asked shown
  granted_by (Nobody is nobody) known allowed = absurd (known is)
  granted_by (Lacking need is text asks) known allowed = absurd (allowed is)
  granted_by (Granted other asks) known allowed = record {
    policy = policy;
    user = asks.user;
    under = under;
    bearer = asks.bearer;
    granted = none_lacked policy asks.user (dag_asked asked.call) (dags_asked w.ledger.state asked.call) (needs_asked asked.call) asks.lacks;
  }

  denied_by : Judged → shown.status ≡ Forbidden → DeniedRightly w asked shown
  denied_by (Nobody is nobody) forbidden = (let e : Unauthorized ≡ Forbidden = sym is ∙ forbidden in absurd (cc))
  denied_by (Lacking need is text asks) forbidden = record {
    policy = policy;
    user = asks.user;
    need = need;
    under = under;
    bearer = asks.bearer;
    first = first_lacked policy asks.user (dag_asked asked.call) (dags_asked w.ledger.state asked.call) (needs_asked asked.call) need asks.lacks;
    text = text;
  }
  denied_by (Granted other asks) forbidden = absurd (other.1 forbidden)

  strange_by : Judged → shown.status ≡ Unauthorized → StrangeRightly w asked shown
  strange_by (Nobody is nobody) unknown = record { policy = policy; under = under; bearer = nobody }
  strange_by (Lacking need is text asks) unknown = (let e : Forbidden ≡ Unauthorized = sym is ∙ unknown in absurd (cc))
  strange_by (Granted other asks) unknown = absurd (other.0 unknown)

same_asked : (one other : Asked) → Some one ≡ Some other → one ≡ other
same_asked one other e = ap (λ (o : Option Asked). unwrap_or o one) e

-- the answer to an act, to a reading of the policy, or to a change whose status is a refusal, was decided so
decided_so : (w : World) (s : Step) (asked : Asked) (m : Move) (shown : Shown) → Moves w s m → m.answer ≡ Some shown → asked_of s ≡ Some asked → (hands_in s ≡ false) ⊎ (IsOther shown.status → ⊥) → IsDecided w asked shown
decided_so w (step.Look session) asked m shown is e of so = absurd (cc)
decided_so w (step.Act session token it t) asked m shown is e of so =
    subst (λ (a : Asked). IsDecided w a shown) (same_asked (record { token = token; call = it }) asked of) (act_says w session token shown it t m is e).decided
decided_so w (step.Me session token it) asked m shown is e of so =
    subst (λ (a : Asked). IsDecided w a shown) (same_asked (record { token = token; call = call.Policy it }) asked of) (me_says w session token shown it m is e).decided
decided_so w (step.Publish session at token it) asked m shown is e of so =
    subst (λ (a : Asked). IsDecided w a shown) (same_asked (record { token = token; call = call.Policy it }) asked of) (refusal so (publish_says w session at token shown it m is e).judged)
  where
    refusal : (true ≡ false) ⊎ (IsOther shown.status → ⊥) → IsDecided w (record { token = token; call = call.Policy it }) shown ⊎ IsOther shown.status → IsDecided w (record { token = token; call = call.Policy it }) shown
    refusal so (inl decided) = decided
    refusal (inl never) (inr other) = absurd (cc)
    refusal (inr so) (inr other) = absurd (so other)
decided_so w (step.Tick t) asked m shown is e of so = absurd (cc)
decided_so w (step.Claim t) asked m shown is e of so = absurd (cc)
decided_so w (step.Report it t) asked m shown is e of so = absurd (cc)

pub answers_granted : AnswersAreGranted
answers_granted w s asked m shown is e of reads known allowed =
    let so = decided_so w s asked m shown is e of (inl reads) in
    granted_by w asked shown so.policy so.under so.judged known allowed

pub denials : DenialsNameTheFirst
denials w s asked m shown is e of forbidden =
    let so = decided_so w s asked m shown is e of (inr (λ other. other.1 forbidden)) in
    denied_by w asked shown so.policy so.under so.judged forbidden

pub strangers : StrangersHaveNoUser
strangers w s asked m shown is e of unknown =
    let so = decided_so w s asked m shown is e of (inr (λ other. other.0 unknown)) in
    strange_by w asked shown so.policy so.under so.judged unknown
