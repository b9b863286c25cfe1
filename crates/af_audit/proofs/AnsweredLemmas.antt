-- What a request comes to on a ledger.
use Rattle.std.proofs.Common.{◌≡◌, ◌∙◌, refl, sym, ap, subst, ℕ, List, Bool, true, false}
use Rattle.std.specs.Prelude.{Option, Some, None, Result, Ok, Err, unwrap_or, nat_lt, if◌then◌else◌}
use Rattle.af_role.specs.Pairs.{PairRow}
use Rattle.af_role.specs.declared.need.Need.{Need}
use Rattle.af_policy.specs.Grants.{readable_by}
use Rattle.af_sched.specs.State.{StateRows}
use Rattle.af_ops.specs.declared.answer.OpFault.{OpFault}
use Rattle.af_ops.specs.declared.answer.OpFault.TheVariants.{HistoryFull}
use Rattle.af_ops.specs.declared.answer.Under.{Under}
use Rattle.af_ops.specs.declared.op.Op.{Op}
use Rattle.af_ops.specs.declared.served.Served.TheVariants.{Shown}
use Rattle.af_ops.specs.Decisions.{prepared_verdict, verdict_by}
use Rattle.af_ops.specs.declared.edit.Edit.{Edit}
use Rattle.af_ops.specs.declared.edit.Edit.TheVariants as edit
use Rattle.af_ops.specs.Edits.{edited, is_edit, next_by}
use Rattle.af_ops.specs.Effects.{Effect, effect_of, nothing_readable}
use Rattle.af_ops.specs.Prepared.{Preparation}
use Rattle.af_ops.specs.Served.{IsServed, reply_told}
use Rattle.af_ops.specs.Standings.{StandingRows, with_entry}
use Rattle.af_ops.specs.Verdicts.{Verdict, Changes, Refuses, Tells, done, permitted, recorded}
use Rattle.af_audit.specs.Acts.{after_op, next_of}
use Rattle.af_audit.proofs.ReplayLemmas.{no_change_depends}

-- ---- whether an edit makes another state

no_edit : (it : Edit) (state : StateRows) → is_edit it ≡ false → next_by it state ≡ None
no_edit edit.Nothing state none = refl
no_edit it state none = cc

some_edit : (it : Edit) (state : StateRows) → is_edit it ≡ true → next_by it state ≡ Some (edited it state)
some_edit edit.Nothing state is_change = cc
some_edit it state is_change = refl

-- ---- the state of a change is that which the operation leaves

recorded_next : (limit : ℕ) (under : Under) (said : Option (List ℕ)) (made : Option StateRows) (reply : Option (List ℕ)) (next : StateRows) → recorded limit under said made ≡ Changes reply next → made ≡ Some next
recorded_next limit under said None reply next is = cc
recorded_next limit under said (Some made) reply next is = by (nat_lt under.seq limit) is
  where
    by : (room : Bool) → (if room then Changes said made else Refuses HistoryFull) ≡ Changes reply next → Some made ≡ Some next
    by true is = cc
    by false is = cc

done_next : (limit : ℕ) (under : Under) (effect : Result Effect OpFault) (reply : Option (List ℕ)) (next : StateRows) → done limit under effect ≡ Changes reply next → next_of effect ≡ Some next
done_next limit under (Ok effect) reply next is = recorded_next limit under effect.reply effect.next reply next is
done_next limit under (Err why) reply next is = cc

pub change_is_after : (limit : ℕ) (granted : PairRow → Bool) (standing : StandingRows) (asked : Op) (t : ℕ) (lacked : Option Need) (reply : Option (List ℕ)) (next : StateRows) → permitted limit granted standing asked t lacked ≡ Changes reply next → next ≡ after_op asked t standing.state
change_is_after limit granted standing asked t (Some need) reply next is = cc
change_is_after limit granted standing asked t None reply next is =
    let some : next_of (effect_of nothing_readable standing.state asked t) ≡ Some next =
    no_change_depends nothing_readable (readable_by granted) standing.state asked t
    ∙ done_next limit standing.under (effect_of (readable_by granted) standing.state asked t) reply next is in
    sym (ap (λ (made : Option StateRows). unwrap_or made standing.state) some)

-- ---- what is served of what was worked out

module _ (asked : Op) (it : Verdict) (old : StandingRows) (prepared : Preparation) (is : it ≡ prepared_verdict old.state prepared) where
  pub told_verdict : is_edit prepared.edit ≡ false → it ≡ Tells prepared.reply
  told_verdict none = is ∙ ap (verdict_by prepared.reply) (no_edit prepared.edit old.state none)

  pub change_verdict : is_edit prepared.edit ≡ true → it ≡ Changes prepared.reply (edited prepared.edit old.state)
  change_verdict some = is ∙ ap (verdict_by prepared.reply) (some_edit prepared.edit old.state some)

  -- a reply that changes nothing
  pub serves_told : is_edit prepared.edit ≡ false → IsServed asked it old (Shown (reply_told old.under prepared.reply)) old
  serves_told none = subst (λ (v : Verdict). IsServed asked v old (Shown (reply_told old.under prepared.reply)) old) (sym (told_verdict none)) (refl, refl)

  -- a change
  pub serves_change : (new : StandingRows) → is_edit prepared.edit ≡ true → new ≡ record { under = with_entry old.under; state = edited prepared.edit old.state } → IsServed asked it old (Shown (reply_told (with_entry old.under) prepared.reply)) new
  serves_change new some left = subst (λ (v : Verdict). IsServed asked v old (Shown (reply_told (with_entry old.under) prepared.reply)) new) (sym (change_verdict some)) (refl, left)
