-- A service that tells by a function answers in one way.
use Rattle.std.proofs.Common.{◌≡◌, inl, inr, ℕ, List, refl, sym, ap, ◌∙◌, subst, Option, Some}
use Rattle.af_ops.specs.declared.call.Call.{Call}
use Rattle.af_ops.specs.declared.served.Served.{Served}
use Rattle.af_ops.specs.declared.served.Served.TheVariants as served
use Rattle.af_ops.specs.declared.shown_answer.Shown.{Shown}
use Rattle.af_ops.specs.Calls.{IsRead, unread}
use Rattle.af_http.specs.Laws.{IsFunction, TellsBy}

-- one value of an option
value_one : {A : Type 0} {o : Option A} {x y : A} → o ≡ Some x → o ≡ Some y → x ≡ y
value_one {x = x} {y = y} p q = let e : Some x ≡ Some y = sym p ∙ q in cc

module _ {S : Type 0} (answers : S → Option (List ℕ) → Call → Served → S → Type 0) (told : S → Option (List ℕ) → Call → Option (Shown × S)) (by : TellsBy answers told) where
  -- what it tells of a call, also of one whose body was not read, is what the function says of the whole one
  told_whole : (old : S) (token : Option (List ℕ)) (wanted call : Call) (shown : Shown) (new : S) → IsRead (Some wanted) (Some call)
      → answers old token call (served.Shown shown) new → told old token wanted ≡ Some (shown, new)
  told_whole old token wanted call shown new (inl e) is =
      let same : call ≡ wanted = value_one refl e in
      subst (λ (c : Call). told old token c ≡ Some (shown, new)) same (by.tells old token call shown new is)
  told_whole old token wanted call shown new (inr e) is =
      let same : call ≡ unread wanted = value_one refl e in
      by.alike old token wanted shown new
      (subst (λ (c : Call). told old token c ≡ Some (shown, new)) same (by.tells old token call shown new is))

  pub answers_once : IsFunction answers
  answers_once old token wanted call other x y a b r s p q =
      let same : (x, a) ≡ (y, b) = value_one (told_whole old token wanted call x a r p) (told_whole old token wanted other y b s q) in
      (ap (λ (t : Shown × S). t.0) same, ap (λ (t : Shown × S). t.1) same)
