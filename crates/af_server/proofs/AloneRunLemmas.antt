-- Where a session sees no version but those that it makes, its calls can be all that happens.
use Rattle.std.proofs.Common.{◌≡◌, ◌∙◌, refl, sym, ap, subst, ℕ, ◌+◌, List, [], ◌∷◌, Bool, true, false, length, length-append, arith}
use Rattle.std.specs.Prelude.{Option}
use Rattle.af_policy.specs.Versions.{VersionRows, with_version}
use Rattle.af_ops.specs.declared.call.Call.{Call}
use Rattle.af_ops.specs.declared.call.Call.TheVariants as call
use Rattle.af_ops.specs.declared.op.Op.{Op}
use Rattle.af_ops.specs.declared.policy_op.PolicyOp.{PolicyOp}
use Rattle.af_ops.specs.declared.served.Served.{Served}
use Rattle.af_ops.specs.Endpoints.{endpoint_of}
use Rattle.af_ops.specs.Table.{is_open}
use Rattle.af_board.specs.Marks.{Marked, Site, policy_of}
use Rattle.af_plane.specs.declared.grounds.Grounds.{Grounds}
use Rattle.af_plane.specs.declared.grounds.Grounds.TheVariants.{Made, Overtaken, Spent, Under}
use Rattle.af_plane.specs.Administered.{IsAdministered}
use Rattle.af_plane.specs.Alone.{Stands}
use Rattle.af_plane.specs.Events.{AreEvents, StandsFor, left_by}
use Rattle.af_plane.specs.Looks.{Basis, HasSame, Missed, On, Openly, held}
use Rattle.af_plane.specs.Requests.{RequestRows}
use Rattle.af_plane.specs.Solos.{IsDecidedBy}
use Rattle.af_plane.specs.Turns.{IsActed, IsPlaced}
use Rattle.af_plane.specs.Visits.{PlaneRows, SoloRows, Visit}
use Rattle.af_http.specs.Run.{Answered, Exchange, Makes}
use Rattle.af_http.specs.declared.reply.Reply.{Reply}
use Rattle.af_http.specs.declared.reply.Reply.TheVariants as reply
use Rattle.af_server.specs.Alone.{DecidesAlone, HoldsLast, IsOwn}
use Rattle.af_server.specs.Configurations.{ConfigurationRows}
use Rattle.af_server.specs.Desks.{DeskRows, IsOpened, asked_at}
use Rattle.af_server.specs.Laws.{CallsAreAll}
use Rattle.af_server.specs.WorldRuns.{AnsweredCall, AreCalls, IsCalls, call_at, calls_in, events_of, first_versions, turns_in}
use Rattle.af_server.proofs.AloneLemmas.{opens_holding, told_alone}

-- ---- the list of versions

-- the list ends with the version of which the session holds the mark
abbrev Standing : VersionRows → Site → Visit → Type 0
Standing versions site visit = Stands versions site (held visit.grounds)

-- the list is the one under which a call was decided, and what is left of it ends with the version of which the session then holds the mark
pub record Goes (site : Site) (versions : VersionRows) (now : Visit) (basis : Basis) : Type 0 where
  pub stands : StandsFor site now versions basis
  pub then_stands : Standing (left_by site versions basis) site now

-- nothing was made, and the session holds what it held
goes_still : (site : Site) (versions : VersionRows) (was now : Visit) → now.grounds ≡ was.grounds → Standing versions site was → Standing versions site now
goes_still site versions was now same stands = subst (λ (g : Grounds). Stands versions site (held g)) (sym same) stands

-- the list ends with each mark of that version
stands_at : (site : Site) (versions : VersionRows) (was : Visit) (m : Marked) → length was.pass.places ≡ (held was.grounds).version + 1 → length was.pass.places ≡ m.version + 1 → HasSame site was.grounds m → Standing versions site was → Stands versions site m
stands_at site versions was m holds own same stands =
    let version : m.version ≡ (held was.grounds).version = omega (arith, holds, own) in
    record {
      current = stands.current ∙ sym version;
      latest = stands.latest ∙ sym (same version);
      last = stands.last;
    }

-- and with the version that was made of it
stands_made : (site : Site) (versions : VersionRows) (base mark : Marked) → mark.version ≡ base.version + 1 → Stands versions site base → Stands (with_version versions (policy_of site mark)) site mark
stands_made site versions base mark number stands = record {
  current = omega (arith, length-append versions.earlier (versions.latest ∷ []), stands.current, number);
  latest = refl;
  last = stands.last;
}

-- ---- a call

module _ (versions : VersionRows) (site : Site) where
  acted_goes : (asked : RequestRows) (old : PlaneRows) (was : Visit) (gave : Served) (new : PlaneRows) (now : Visit) (basis : Basis) → length was.pass.places ≡ (held was.grounds).version + 1 → IsOwn was basis → Standing versions site was → IsActed site asked old was gave new now basis → Goes site versions now basis
  acted_goes asked old was gave new now Openly holds own stands is = absurd is
  acted_goes asked old was gave new now Missed holds own stands is = absurd own
  acted_goes asked old was gave new now (On (Under m)) holds own stands is =
      let here : Stands versions site m = stands_at site versions was m holds own is.same stands in
      record { stands = here; then_stands = subst (λ (g : Grounds). Stands versions site (held g)) (sym is.held) here }
  acted_goes asked old was gave new now (On (Made r)) holds own stands is = absurd is
  acted_goes asked old was gave new now (On (Overtaken m)) holds own stands is = absurd is
  acted_goes asked old was gave new now (On (Spent m pushed)) holds own stands is = absurd is

  placed_goes : (asked : RequestRows) (old : PlaneRows) (was : Visit) (gave : Served) (new : PlaneRows) (now : Visit) (basis : Basis) (op : Op) (b : Bool) → is_open (endpoint_of op) ≡ b → length was.pass.places ≡ (held was.grounds).version + 1 → IsOwn was basis → Standing versions site was → IsPlaced site asked old was gave new now basis (call.State op) → Goes site versions now basis
  placed_goes asked old was gave new now basis op true opens holds own stands is =
      let left = is.1 opens in
      subst (Goes site versions now) (sym left.openly)
      (record { stands = tt; then_stands = goes_still site versions was now (ap (λ (v : Visit). v.grounds) left.session) stands })
  placed_goes asked old was gave new now basis op false closed holds own stands is =
      acted_goes asked old was gave new now basis holds own stands (is.0 closed)

  administered_goes : (token : Option (List ℕ)) (asked : PolicyOp) (was : Visit) (gave : Served) (now : Visit) (basis : Basis) → length was.pass.places ≡ (held was.grounds).version + 1 → IsOwn was basis → Standing versions site was → IsAdministered site token asked was gave now basis → Goes site versions now basis
  administered_goes token asked was gave now Openly holds own stands is = absurd is
  administered_goes token asked was gave now Missed holds own stands is = absurd own
  administered_goes token asked was gave now (On (Under m)) holds own stands is =
      let here : Stands versions site m = stands_at site versions was m holds own is.same stands in
      record { stands = here; then_stands = subst (λ (g : Grounds). Stands versions site (held g)) (sym is.held) here }
  administered_goes token asked was gave now (On (Made r)) holds own stands is =
      let here : Stands versions site r.base = stands_at site versions was r.base holds own is.same stands in
      record {
        stands = here;
        then_stands = subst (λ (g : Grounds). Stands (with_version versions (policy_of site r.mark)) site (held g)) (sym is.held)
            (stands_made site versions r.base r.mark is.given.receipt.version here);
      }
  administered_goes token asked was gave now (On (Overtaken m)) holds own stands is = absurd own
  administered_goes token asked was gave now (On (Spent m pushed)) holds own stands is = absurd own

call_goes : (versions : VersionRows) (old : SoloRows) (asked : RequestRows) (gave : Served) (new : SoloRows) (basis : Basis) (it : Call) → length old.session.pass.places ≡ (held old.session.grounds).version + 1 → IsOwn old.session basis → Standing versions old.site old.session → IsDecidedBy old asked gave new basis it → Goes old.site versions new.session basis
call_goes versions old asked gave new basis (call.State op) holds own stands is =
    placed_goes versions old.site asked old.plane old.session gave new.plane new.session basis op (is_open (endpoint_of op)) refl holds own stands is
call_goes versions old asked gave new basis (call.Entries window) holds own stands is =
    acted_goes versions old.site asked old.plane old.session gave new.plane new.session basis holds own stands is
call_goes versions old asked gave new basis (call.Policy it) holds own stands is =
    administered_goes versions old.site asked.token it old.session gave new.session basis holds own stands is.0

-- ---- all exchanges

-- they are calls, and all that happens from these versions on
pub record AllFrom (versions : VersionRows) (old : DeskRows) (exchanges : List Exchange) (left : DeskRows) : Type 0 where
  pub calls : List AnsweredCall
  pub told : AreCalls old exchanges calls left
  pub later : VersionRows
  pub events : AreEvents versions old.solo (events_of calls) (turns_in calls) later left.solo
  pub same : calls_in (events_of calls) ≡ calls

-- a request and those after it
and_all : (versions : VersionRows) (old mid left : DeskRows) (x : Exchange) (xs : List Exchange) → HoldsLast old → Standing versions old.solo.site old.solo.session → Makes DecidesAlone old x.asked x.reply mid → ((middle : VersionRows) → HoldsLast mid → Standing middle mid.solo.site mid.solo.session → AllFrom middle mid xs left) → AllFrom versions old (x ∷ xs) left
and_all versions old mid left x xs holds stands made rest = by x.reply made refl
  where
    by : (it : Reply) → Makes DecidesAlone old x.asked it mid → x.reply ≡ it → AllFrom versions old (x ∷ xs) left
    by (reply.Fault fault) (routed, same) is =
        let all = rest versions (subst HoldsLast (sym same) holds) (subst (λ (d : DeskRows). Standing versions d.solo.site d.solo.session) (sym same) stands) in record {
          calls = all.calls;
          told = (mid, ([], (all.calls, subst (λ (r : Reply). IsCalls old x.asked r [] mid) (sym is) (refl, same), all.told, refl)));
          later = all.later;
          events = subst (λ (d : DeskRows). AreEvents versions d.solo (events_of all.calls) (turns_in all.calls) all.later left.solo) same all.events;
          same = all.same;
        }
    by (reply.Served gave) (it, routed, (basis, answered, moment, own)) is =
        let one = told_alone old mid x.asked.token it gave holds (basis, answered, moment, own) in
        let goes = call_goes versions old.solo (asked_at old.now x.asked.token it) gave mid.solo basis it holds own stands answered.decided in
        let middle : VersionRows = left_by old.solo.site versions basis in
        let all = rest middle one.holds (subst (λ (s : Site). Standing middle s mid.solo.session) (sym answered.site) goes.then_stands) in
        let call : AnsweredCall = call_at old x.asked.token it gave basis in record {
          calls = call ∷ all.calls;
          told = (mid, (call ∷ [], (all.calls, subst (λ (r : Reply). IsCalls old x.asked r (call ∷ []) mid) (sym is) (it, routed, (basis, answered, moment, refl)), all.told, refl)));
          later = all.later;
          events = (middle, (mid.solo, (turns_in all.calls, (answered, goes.stands, refl), all.events, refl)));
          same = ap (λ (l : List AnsweredCall). call ∷ l) all.same;
        }

all_from : (versions : VersionRows) (old : DeskRows) (exchanges : List Exchange) (left : DeskRows) → HoldsLast old → Standing versions old.solo.site old.solo.session → Answered DecidesAlone old exchanges left → AllFrom versions old exchanges left
all_from versions old [] left holds stands same = record {
  calls = [];
  told = (refl, same);
  later = versions;
  events = (refl, refl, ap (λ (d : DeskRows). d.solo) same);
  same = refl;
}
all_from versions old (x ∷ xs) left holds stands (mid, made, later) =
    and_all versions old mid left x xs holds stands made (λ middle there then_stands. all_from middle mid xs left there then_stands later)

-- ---- from the desk under a configuration on

opens_standing : (configuration : ConfigurationRows) (now : ℕ) (desk : DeskRows) → IsOpened configuration now desk → Standing (first_versions configuration) desk.solo.site desk.solo.session
opens_standing configuration now desk opens =
    subst (λ (v : Visit). Standing (first_versions configuration) desk.solo.site v) (sym opens.solo.session)
    (record { current = refl; latest = sym opens.solo.policy; last = sym opens.solo.last })

pub calls_are_all : CallsAreAll
calls_are_all configuration now old exchanges left opens answered =
    let all = all_from (first_versions configuration) old exchanges left (opens_holding configuration now old opens) (opens_standing configuration now old opens) answered in record {
      calls = all.calls;
      told = all.told;
      versions = all.later;
      happens = record { are_calls = all.same; are_events = all.events };
    }
