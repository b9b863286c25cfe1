-- What stands behind entries stays, with more versions and with more entries.
use Rattle.std.proofs.Common.{◌≡◌, ◌⊎◌, inl, inr, refl, ap, subst, ℕ, zero, suc, ◌+◌, List, [], ◌∷◌, ◌++◌, length, arith}
use Rattle.std.specs.Prelude.{Some, slice_get}
use Rattle.std.proofs.lemmas.Option.{slice_get_within}
use Rattle.af_policy.specs.Rows.{PolicyRows}
use Rattle.af_sched.specs.State.{StateRows}
use Rattle.af_audit.specs.declared.act.Act.{Act}
use Rattle.af_audit.specs.declared.act.Act.TheVariants as act
use Rattle.af_audit.specs.declared.actor.Actor.{Actor}
use Rattle.af_audit.specs.declared.actor.Actor.TheVariants as actor
use Rattle.af_audit.specs.declared.entry.Entry.{Entry}
use Rattle.af_audit.specs.Acts.{IsAfter, IsState}
use Rattle.af_world.specs.Granted.{AreGranted, IsGranted}
use Rattle.af_world.specs.Laws.{FollowEachOther, IsMadeOf}

slice_get_front : {X : Type 0} → (xs ys : List X) (i : ℕ) (x : X) → slice_get xs i ≡ Some x → slice_get (xs ++ ys) i ≡ Some x
slice_get_front [] ys i x e = absurd (cc)
slice_get_front (y ∷ xs) ys zero x e = e
slice_get_front (y ∷ xs) ys (suc i) x e = slice_get_front xs ys i x e

module _ (policies more : List PolicyRows) where
  is_granted_more : (state : StateRows) (version : ℕ) (who : Actor) (it : Act) → IsGranted policies state version who it → IsGranted (policies ++ more) state version who it
  is_granted_more state version (actor.User user) (act.Did asked) g = (g.0, slice_get_front policies more version g.0 g.1, g.2)
  is_granted_more state version (actor.User user) act.Tick g = g
  is_granted_more state version (actor.User user) (act.Claim claimed) g = g
  is_granted_more state version (actor.User user) (act.Report claimed outcome) g = g
  is_granted_more state version actor.Scheduler it g = tt
  is_granted_more state version actor.Executor it g = tt

  pub granted_more : (entries : List Entry) (old new : StateRows) → AreGranted policies old entries new → AreGranted (policies ++ more) old entries new
  granted_more [] old new g = g
  granted_more (entry ∷ entries) old new g =
      (g.0, g.1, g.2, is_granted_more old entry.version entry.actor entry.act g.3, granted_more entries g.0 new g.4)

pub granted_entered : (policies : List PolicyRows) (entries : List Entry) (entry : Entry) (old was new : StateRows) → AreGranted policies old entries was → IsState new → IsAfter entry.act entry.moment was new → IsGranted policies was entry.version entry.actor entry.act → AreGranted policies old (entries ++ entry ∷ []) new
granted_entered policies [] entry old was new g state after here =
    (new, state, subst (λ (s : StateRows). IsAfter entry.act entry.moment s new) g after, subst (λ (s : StateRows). IsGranted policies s entry.version entry.actor entry.act) g here, refl)
granted_entered policies (first ∷ entries) entry old was new g state after here =
    (g.0, g.1, g.2, g.3, granted_entered policies entries entry g.0 was new g.4 state after here)

-- what stands in a list with one more stands in the list, or is that one
got_more : {X : Type 0} → (xs : List X) (x : X) (i : ℕ) (y : X) → slice_get (xs ++ x ∷ []) i ≡ Some y → (slice_get xs i ≡ Some y) ⊎ ((i ≡ length xs) × (x ≡ y))
got_more [] x zero y e = inr (refl, cc)
got_more [] x (suc i) y e = absurd (cc)
got_more (z ∷ xs) x zero y e = inl e
got_more (z ∷ xs) x (suc i) y e = elim (got_more xs x i y e) [ inl p ↦ inl p | inr p ↦ inr (ap suc p.0, p.1) ]

-- one more version, made of the last
pub follow_more : (policies : List PolicyRows) (made : PolicyRows) → FollowEachOther policies → ((policy : PolicyRows) (k : ℕ) → k + 1 ≡ length policies → slice_get policies k ≡ Some policy → IsMadeOf policy made) → FollowEachOther (policies ++ made ∷ [])
follow_more policies made follow next k policy later e f =
    elim (got_more policies made k policy e) [
      | inl p ↦ elim (got_more policies made (k + 1) later f) [
        | inl q ↦ follow k policy later p q
        | inr q ↦ subst (IsMadeOf policy) q.1 (next policy k q.0 p)
      ]
      | inr p ↦ elim (got_more policies made (k + 1) later f) [
        | inl q ↦ (let lt = slice_get_within policies (k + 1) later q in absurd (omega arith))
        | inr q ↦ absurd (omega arith)
      ]
    ]
