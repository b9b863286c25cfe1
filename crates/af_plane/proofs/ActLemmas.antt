-- What the plane makes of a call is an act of the world.
use Rattle.std.proofs.Common.{◌≡◌, ◌∙◌, refl, sym, ap, subst, ℕ, List, Bool, true, false, not, ◌&&◌}
use Rattle.std.specs.Prelude.{Option, Some, None, Result, Ok, Err, slice_get, if◌then◌else◌}
use Rattle.af_listing.specs.Windows.{Cut}
use Rattle.af_policy.specs.declared.bad_input.Parameter.{Parameter}
use Rattle.af_policy.specs.Identity.{bearer_of}
use Rattle.af_policy.specs.Rows.{PolicyRows}
use Rattle.af_policy.specs.Versions.{VersionRows, all_versions}
use Rattle.af_ops.specs.declared.answer.OpFault.{OpFault}
use Rattle.af_ops.specs.declared.call.Call.{Call}
use Rattle.af_ops.specs.declared.call.Call.TheVariants as call
use Rattle.af_ops.specs.declared.op.Op.{Op}
use Rattle.af_ops.specs.declared.served.Served.{Served}
use Rattle.af_ops.specs.declared.served.Served.TheVariants as served
use Rattle.af_ops.specs.declared.shown_answer.Shown.{Shown}
use Rattle.af_ops.specs.Effects.{Effect, effect_of, nothing_readable}
use Rattle.af_ops.specs.Endpoints.{endpoint_of}
use Rattle.af_ops.specs.Served.{IsServed, answer_of}
use Rattle.af_ops.specs.Table.{is_open}
use Rattle.af_ops.specs.Verdicts.{judged, opened}
use Rattle.af_audit.specs.Answered.{MayEnter, ledger_left, standing_of, verdict_on}
use Rattle.af_audit.specs.EventLogs.{entries_verdict, nameless}
use Rattle.af_audit.specs.Ledgers.{LedgerRows}
use Rattle.af_audit.proofs.RequestLemmas.{leave_one, nothing_done}
use Rattle.af_world.specs.Acting.{acted, holds, listed}
use Rattle.af_world.specs.Moving.{move_of, stays}
use Rattle.af_world.specs.Worlds.{World, sees_entries}
use Rattle.af_plane.specs.Planes.{ActIn, Applies, ApplyIs, ServesAct, over}

-- ---- an open operation

opened_left : (who : Option (List ℕ)) (asked : Op) (t : ℕ) (ledger : LedgerRows) (effect : Result Effect OpFault) → ledger_left who asked t ledger (opened effect) ≡ ledger
opened_left who asked t ledger (Ok effect) = refl
opened_left who asked t ledger (Err why) = refl

-- it leaves the ledger
pub open_left : (policy : PolicyRows) (ledger : LedgerRows) (token : Option (List ℕ)) (asked : Op) (t : ℕ) → is_open (endpoint_of asked) ≡ true → ledger_left (bearer_of policy token) asked t ledger (verdict_on policy ledger token asked t) ≡ ledger
open_left policy ledger token asked t opens =
    ap (λ (b : Bool). ledger_left (bearer_of policy token) asked t ledger (if b then opened (effect_of nothing_readable ledger.state asked t) else judged ledger.audit.limit policy (standing_of ledger) asked t (bearer_of policy token))) opens
    ∙ opened_left (bearer_of policy token) asked t ledger (effect_of nothing_readable ledger.state asked t)

pub open_stays : (policy : PolicyRows) (old new : LedgerRows) (token : Option (List ℕ)) (asked : Op) (t : ℕ) (gave : Served) → is_open (endpoint_of asked) ≡ true → IsServed asked (verdict_on policy old token asked t) (standing_of old) gave (standing_of new) → MayEnter (bearer_of policy token) asked t old new → new ≡ old
open_stays policy old new token asked t (served.Shown shown) opens is entry =
    leave_one policy token asked t old new shown is entry ∙ open_left policy old token asked t opens
open_stays policy old new token asked t served.NothingDone opens is entry = nothing_done policy token asked t old new is entry

-- ---- what is an act

module _ (versions : VersionRows) (old : LedgerRows) (token : Option (List ℕ)) (t : ℕ) (policy : PolicyRows) (known : slice_get (all_versions versions) old.version ≡ Some policy) where
  told_op : (new : LedgerRows) (asked : Op) (shown : Shown) → is_open (endpoint_of asked) ≡ false → answer_of asked (standing_of old).under (verdict_on policy old token asked t) ≡ Some shown → new ≡ ledger_left (bearer_of policy token) asked t old (verdict_on policy old token asked t) → ActIn versions old token (call.State asked) t shown new
  told_op new asked shown closed told left holder sessions session held =
      let w : World = over versions old holder sessions in
      let fits : (holds w session && not (is_open (endpoint_of asked))) ≡ true = ap (λ (b : Bool). b && not (is_open (endpoint_of asked))) held ∙ ap not closed in
      sym (ap (λ (b : Bool). if b then acted w session token asked t (slice_get (all_versions versions) old.version) else stays w) fits
      ∙ ap (acted w session token asked t) known
      ∙ ap (λ (answer : Option Shown). move_of answer (sees_entries (over versions (ledger_left (bearer_of policy token) asked t old (verdict_on policy old token asked t)) None sessions) session)) told
      ∙ ap (λ (l : LedgerRows). move_of (Some shown) (sees_entries (over versions l None sessions) session)) (sym left))

  told_logs : (window : Result Cut Parameter) (shown : Shown) → answer_of nameless (standing_of old).under (entries_verdict policy old token window) ≡ Some shown → ActIn versions old token (call.Entries window) t shown old
  told_logs window shown told holder sessions session held =
      let w : World = over versions old holder sessions in
      sym (ap (λ (b : Bool). if b then listed w session token window (slice_get (all_versions versions) old.version) else stays w) held
      ∙ ap (listed w session token window) known
      ∙ ap (λ (answer : Option Shown). move_of answer (sees_entries (over versions old None sessions) session)) told)

  pub serves_op : (new : LedgerRows) (asked : Op) (gave : Served) → is_open (endpoint_of asked) ≡ false → IsServed asked (verdict_on policy old token asked t) (standing_of old) gave (standing_of new) → MayEnter (bearer_of policy token) asked t old new → ServesAct versions old token (call.State asked) t gave new
  serves_op new asked (served.Shown shown) closed is entry =
      told_op new asked shown closed is.0 (leave_one policy token asked t old new shown is entry)
  serves_op new asked served.NothingDone closed is entry = nothing_done policy token asked t old new is entry

  pub serves_logs : (new : LedgerRows) (window : Result Cut Parameter) (gave : Served) → IsServed nameless (entries_verdict policy old token window) (standing_of old) gave (standing_of old) → new ≡ old → ServesAct versions old token (call.Entries window) t gave new
  serves_logs new window (served.Shown shown) is same =
      subst (ActIn versions old token (call.Entries window) t shown) (sym same) (told_logs window shown is.0)
  serves_logs new window served.NothingDone is same = same

  pub apply_is : (new : LedgerRows) (asked : Call) (gave : Option Served) → Applies policy old token asked t gave new → ApplyIs versions old token asked t gave new
  apply_is new (call.State asked) (Some gave) is =
      (λ closed. serves_op new asked gave closed is.0 is.1, λ opens. open_stays policy old new token asked t gave opens is.0 is.1)
  apply_is new (call.Entries window) (Some gave) is =
      serves_logs new window gave is.0 is.1
  apply_is new (call.Policy asked) (Some gave) is = absurd is
  apply_is new (call.State asked) None is = absurd is
  apply_is new (call.Entries window) None is = absurd is
  apply_is new (call.Policy asked) None is = is
