-- What a desk keeps over a connection.
use Rattle.std.proofs.Common.{◌≡◌, ◌∙◌, inl, inr, sym, ap, subst, refl, ℕ, ◌≤◌, List, [], ◌∷◌, length, Bool, true, false}
use Rattle.std.specs.Prelude.{Option, Some, None, slice_get}
use Rattle.af_policy.specs.Identity.{bearer_of}
use Rattle.af_policy.specs.Rows.{PolicyRows}
use Rattle.af_sched.specs.State.{StateRows}
use Rattle.af_ops.specs.declared.call.Call.{Call}
use Rattle.af_ops.specs.declared.call.Call.TheVariants as call
use Rattle.af_ops.specs.declared.op.Op.{Op}
use Rattle.af_ops.specs.declared.served.Served.{Served}
use Rattle.af_ops.specs.Endpoints.{endpoint_of}
use Rattle.af_ops.specs.Table.{is_open}
use Rattle.af_audit.specs.Acts.{IsState}
use Rattle.af_audit.specs.Answered.{EntersFor, MayEnter}
use Rattle.af_audit.specs.Entries.{IsReplay}
use Rattle.af_audit.specs.Ledgers.{LedgerRows}
use Rattle.af_board.specs.Marks.{Site, policy_of}
use Rattle.af_word.specs.Places.{Within}
use Rattle.af_plane.specs.declared.grounds.Grounds.TheVariants.{Made, Overtaken, Spent, Under}
use Rattle.af_plane.specs.Looks.{Basis, Missed, On, Openly, looked}
use Rattle.af_plane.specs.Planes.{Applies}
use Rattle.af_plane.specs.Requests.{RequestRows}
use Rattle.af_plane.specs.Solos.{IsDecidedBy, IsSolo}
use Rattle.af_plane.specs.Turns.{IsActed, IsPlaced}
use Rattle.af_plane.specs.Visits.{PlaneRows, SoloRows, Visit}
use Rattle.af_http.specs.Connections.{Connects}
use Rattle.af_http.specs.Requests.{Asked}
use Rattle.af_http.specs.Run.{Answered, Exchange, Makes}
use Rattle.af_http.specs.Streams.{Given, Taken}
use Rattle.af_http.specs.declared.ended.Ended.{Ended}
use Rattle.af_http.specs.declared.reply.Reply.{Reply}
use Rattle.af_http.specs.declared.reply.Reply.TheVariants as reply
use Rattle.af_server.specs.Configurations.{ConfigurationRows}
use Rattle.af_server.specs.Desks.{Decides, DeskRows, IsKept, IsOpened, asked_at}
use Rattle.af_server.specs.Once.{Serves}
use Rattle.af_server.proofs.WorldRunLemmas.{one_run}

-- ---- one call

-- it was opened with the same state, and there may be as many entries
pub record IsOfLedger (old new : LedgerRows) : Type 0 where
  pub opening : new.opening ≡ old.opening
  pub limit : new.audit.limit ≡ old.audit.limit

same_ledger : (old new : LedgerRows) → new ≡ old → IsOfLedger old new
same_ledger old new same = record {
  opening = ap (λ (l : LedgerRows). l.opening) same;
  limit = ap (λ (l : LedgerRows). l.audit.limit) same;
}

entered : (who : Option (List ℕ)) (asked : Op) (t : ℕ) (old new : LedgerRows) → EntersFor who asked t old new → IsOfLedger old new
entered None asked t old new enters = absurd enters
entered (Some user) asked t old new enters = record {
  opening = ap (λ (l : LedgerRows). l.opening) enters.ledger;
  limit = ap (λ (l : LedgerRows). l.audit.limit) enters.ledger;
}

may_enter : (who : Option (List ℕ)) (asked : Op) (t : ℕ) (old new : LedgerRows) → MayEnter who asked t old new → IsOfLedger old new
may_enter who asked t old new (inl same) = same_ledger old new same
may_enter who asked t old new (inr enters) = entered who asked t old new enters

applied_one : (policy : PolicyRows) (old new : LedgerRows) (token : Option (List ℕ)) (it : Call) (t : ℕ) (gave : Served) → Applies policy old token it t (Some gave) new → IsOfLedger old new
applied_one policy old new token (call.State op) t gave is = may_enter (bearer_of policy token) op t old new is.1
applied_one policy old new token (call.Entries window) t gave is = same_ledger old new is.1
applied_one policy old new token (call.Policy asked) t gave is = absurd is

acted_one : (site : Site) (asked : RequestRows) (old : PlaneRows) (was : Visit) (gave : Served) (new : PlaneRows) (now : Visit) (basis : Basis) → IsActed site asked old was gave new now basis → IsOfLedger old.ledger new.ledger
acted_one site asked old was gave new now Openly is = absurd is
acted_one site asked old was gave new now Missed is = same_ledger old.ledger new.ledger is.ledger
acted_one site asked old was gave new now (On (Under m)) is =
    let kept = applied_one (policy_of site m) (looked m.version old.ledger) new.ledger asked.token asked.call asked.at gave is.applied in
    record { opening = kept.opening; limit = kept.limit }
acted_one site asked old was gave new now (On (Made r)) is = absurd is
acted_one site asked old was gave new now (On (Overtaken m)) is = absurd is
acted_one site asked old was gave new now (On (Spent m pushed)) is = absurd is

placed_op : (site : Site) (asked : RequestRows) (old : PlaneRows) (was : Visit) (gave : Served) (new : PlaneRows) (now : Visit) (basis : Basis) (op : Op) (b : Bool) → is_open (endpoint_of op) ≡ b → IsPlaced site asked old was gave new now basis (call.State op) → IsOfLedger old.ledger new.ledger
placed_op site asked old was gave new now basis op true opens is =
    let left = is.1 opens in same_ledger old.ledger new.ledger (ap (λ (p : PlaneRows). p.ledger) left.plane)
placed_op site asked old was gave new now basis op false closed is = acted_one site asked old was gave new now basis (is.0 closed)

-- it began as the other
pub record IsOfOne (old new : SoloRows) : Type 0 where
  pub ledger : IsOfLedger old.plane.ledger new.plane.ledger
  pub site : new.site ≡ old.site

same_one : (old new : SoloRows) → new ≡ old → IsOfOne old new
same_one old new same = record {
  ledger = same_ledger old.plane.ledger new.plane.ledger (ap (λ (s : SoloRows). s.plane.ledger) same);
  site = ap (λ (s : SoloRows). s.site) same;
}

decided_one : (old : SoloRows) (asked : RequestRows) (gave : Served) (new : SoloRows) (basis : Basis) (it : Call) → IsDecidedBy old asked gave new basis it → IsOfLedger old.plane.ledger new.plane.ledger
decided_one old asked gave new basis (call.State op) is =
    placed_op old.site asked old.plane old.session gave new.plane new.session basis op (is_open (endpoint_of op)) refl is
decided_one old asked gave new basis (call.Entries window) is =
    acted_one old.site asked old.plane old.session gave new.plane new.session basis is
decided_one old asked gave new basis (call.Policy it) is =
    same_ledger old.plane.ledger new.plane.ledger (ap (λ (p : PlaneRows). p.ledger) is.1)

-- ---- all exchanges

made_one : (old : DeskRows) (asked : Asked) (it : Reply) (new : DeskRows) → Makes Decides old asked it new → IsOfOne old.solo new.solo
made_one old asked (reply.Fault fault) new (routed, same) = same_one old.solo new.solo (ap (λ (d : DeskRows). d.solo) same)
made_one old asked (reply.Served gave) new (it, routed, (basis, answered, moment)) = record {
  ledger = decided_one old.solo (asked_at old.now asked.token it) gave new.solo basis it answered.decided;
  site = answered.site;
}

pub answered_one : (old : DeskRows) (exchanges : List Exchange) (new : DeskRows) → Answered Decides old exchanges new → IsOfOne old.solo new.solo
answered_one old [] new same = same_one old.solo new.solo (ap (λ (d : DeskRows). d.solo) same)
answered_one old (x ∷ xs) new (mid, made, later) =
    let first = made_one old x.asked x.reply mid made in
    let rest = answered_one mid xs new later in record {
      ledger = record { opening = rest.ledger.opening ∙ first.ledger.opening; limit = rest.ledger.limit ∙ first.ledger.limit };
      site = rest.site ∙ first.site;
    }

-- ---- from the desk under a configuration on

the_first : (first : ℕ) (places : List ℕ) → places ≡ 0 ∷ [] → slice_get places 0 ≡ Some first → first ≡ 0
the_first first places is got = let same : Some 0 ≡ Some first = sym (ap (λ (l : List ℕ). slice_get l 0) is) ∙ got in cc

module _ (configuration : ConfigurationRows) (now : ℕ) (desk : DeskRows) (opens : IsOpened configuration now desk) (first : IsSolo desk.solo) where
  opened_ledger : (desk.solo.plane.ledger.opening ≡ configuration.state) × (desk.solo.plane.ledger.audit.limit ≡ configuration.limits.history)
  opened_ledger = (
    ap (λ (p : PlaneRows). p.ledger.opening) opens.solo.plane,
    ap (λ (p : PlaneRows). p.ledger.audit.limit) opens.solo.plane,
  )

  state_is : IsState configuration.state
  state_is = subst (λ (p : PlaneRows). IsState p.ledger.state) opens.solo.plane first.state

  begins_at : desk.solo.site.word.first ≡ 0
  begins_at =
      the_first desk.solo.site.word.first desk.solo.session.pass.places (ap (λ (v : Visit). v.pass.places) opens.solo.session) first.within.begins

  pub kept_from : (exchanges : List Exchange) (left : DeskRows) → Answered Decides desk exchanges left → IsSolo left.solo → IsKept configuration left
  kept_from exchanges left answered is =
      let one = answered_one desk exchanges left answered in
      let last : left.solo.site.word.last ≡ configuration.limits.versions = ap (λ (s : Site). s.word.last) one.site ∙ opens.solo.last in
      let begins : left.solo.site.word.first ≡ 0 = ap (λ (s : Site). s.word.first) one.site ∙ begins_at in
      record {
        solo = is;
        replays = subst (λ (s : StateRows). IsReplay s left.solo.plane.ledger.audit.entries left.solo.plane.ledger.state) (one.ledger.opening ∙ opened_ledger.0) is.ledger.replays;
        entries = subst (λ (n : ℕ). length left.solo.plane.ledger.audit.entries ≤ n) (one.ledger.limit ∙ opened_ledger.1) is.ledger.audit.within;
        begins = ap (λ (s : Site). s.opening) one.site ∙ opens.solo.policy;
        last = last;
        seen = subst (λ (n : ℕ). Within 0 n left.solo.session.pass.places) last
            (subst (λ (n : ℕ). Within n left.solo.site.word.last left.solo.session.pass.places) begins is.within);
      }

-- a connection from it on
pub connects_kept : (configuration : ConfigurationRows) (now : ℕ) (before after : Given) (start finish : Taken) (desk left : DeskRows) (ended : Ended) → IsOpened configuration now desk → IsSolo desk.solo → Connects Decides before after start finish desk left ended → IsSolo left.solo → Serves configuration now before after start finish desk left ended × IsKept configuration left
connects_kept configuration now before after start finish desk left ended opens solo connects kept = (
  record {
    opened = opens;
    connects = connects;
    run = one_run configuration now desk connects.run.exchanges left (state_is configuration now desk opens solo) opens connects.run.answered;
  },
  kept_from configuration now desk opens solo connects.run.exchanges left connects.run.answered kept,
)
