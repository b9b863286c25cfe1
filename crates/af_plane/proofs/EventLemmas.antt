-- All events of a server for one thread are one run of the world.
use Rattle.std.proofs.Common.{◌≡◌, ◌∙◌, refl, sym, ap, subst, inl, inr, ℕ, ◌≤◌, ◌+◌, List, [], ◌∷◌, ◌++◌, arith}
use Rattle.std.specs.Prelude.{Option, None, Ok}
use Rattle.af_policy.specs.declared.ask.Ask.{Ask}
use Rattle.af_policy.specs.Rows.{PolicyRows}
use Rattle.af_policy.specs.Versions.{VersionRows, submitted, with_version}
use Rattle.af_ops.specs.declared.policy_op.PolicyOp.TheVariants as asks
use Rattle.af_ops.specs.declared.served.Served.TheVariants as served
use Rattle.af_ops.specs.PolicyServed.{reply_at, told_of, versions_after}
use Rattle.af_ops.specs.PolicyVerdicts.{PolicyVerdict, Publishes, asked_text, change_verdict, current, policy_verdict}
use Rattle.af_audit.specs.Acts.{IsState}
use Rattle.af_audit.specs.Ledgers.{LedgerRows}
use Rattle.af_world.specs.declared.session.Seen.{Seen}
use Rattle.af_world.specs.Laws as world
use Rattle.af_world.specs.Runs.{IsRun}
use Rattle.af_world.specs.Worlds.{OpeningRows, World, nothing_seen, opening_world}
use Rattle.af_plane.specs.Alone.{ours, world_of}
use Rattle.af_plane.specs.Events.{AnsweredStep, AreEvents, AreOneRun, Called, Event, IsEvent, Published, answers_in, left_by, steps_in, turns_at, turns_of}
use Rattle.af_plane.specs.Laws.{EntriesAreGranted, EventsAreOneRun, VersionsFollow}
use Rattle.af_plane.specs.Sheets.{Runs, Sheet, sheet, world_over}
use Rattle.af_plane.specs.Solos.{alone}
use Rattle.af_plane.specs.Visits.{PlaneRows, SoloRows}
use Rattle.af_plane.proofs.PolicyLemmas.{administers}
use Rattle.af_plane.proofs.RunLemmas.{MayRun, call_runs, no_fewer, one_more, run_join}

-- these steps lead from the world over one sheet, with these sessions, to one over another, whose sessions have seen no later version
pub record Leads (old : Sheet) (seen : ℕ) (theirs : Seen) (holder : Option ℕ) (turns : List AnsweredStep) (new : Sheet) : Type 0 where
  pub then_seen : ℕ
  pub then_theirs : Seen
  pub then_holder : Option ℕ
  pub run : IsRun (world_of old seen theirs holder) (steps_in turns) (answers_in turns) (world_of new then_seen then_theirs then_holder)
  pub ours_in : then_seen ≤ current new.versions
  pub theirs_in : then_theirs.version ≤ current new.versions

module _ (old : Sheet) (seen : ℕ) (theirs : Seen) (holder : Option ℕ) (ours_in : seen ≤ current old.versions) (theirs_in : theirs.version ≤ current old.versions) where
  -- nothing happens
  no_turn : (turns : List AnsweredStep) (new : Sheet) → turns ≡ [] → new ≡ old → Leads old seen theirs holder turns new
  no_turn turns new none same =
      subst (λ (ts : List AnsweredStep). Leads old seen theirs holder ts new) (sym none)
      (subst (Leads old seen theirs holder []) (sym same) (record { then_seen = seen; then_theirs = theirs; then_holder = holder; run = refl; ours_in = ours_in; theirs_in = theirs_in }))

  abbrev both : List Seen
  both = ours seen old.ledger ∷ theirs ∷ []

  -- our session, which has seen all entries, takes steps
  our_turns : (turns : List AnsweredStep) (new : Sheet) → current old.versions ≤ current new.versions → Runs 0 old (steps_in turns) (answers_in turns) new → Leads old seen theirs holder turns new
  our_turns turns new more runs =
      let led = runs holder both (ours seen old.ledger) refl ours_in in
      record {
        then_seen = current new.versions;
        then_theirs = theirs;
        then_holder = led.left;
        run = subst (λ (n : ℕ). IsRun (world_of old seen theirs holder) (steps_in turns) (answers_in turns) (world_over new led.left (record { version = current new.versions; entries = n } ∷ theirs ∷ []))) (led.all refl) led.run;
        ours_in = omega arith;
        theirs_in = omega (arith, theirs_in, more);
      }

  may_lead : (turns : List AnsweredStep) (new : Sheet) → current old.versions ≤ current new.versions → MayRun 0 old turns new → Leads old seen theirs holder turns new
  may_lead turns new more (inl none) = no_turn turns new none.0 none.1
  may_lead turns new more (inr runs) = our_turns turns new more runs

  -- the other takes steps, which leave the ledger
  their_turns : (turns : List AnsweredStep) (new : Sheet) → new.ledger ≡ old.ledger → current old.versions ≤ current new.versions → Runs 1 old (steps_in turns) (answers_in turns) new → Leads old seen theirs holder turns new
  their_turns turns new same more runs =
      let led = runs holder both theirs refl theirs_in in
      record {
        then_seen = seen;
        then_theirs = record { version = current new.versions; entries = led.entries };
        then_holder = led.left;
        run = subst (λ (l : LedgerRows). IsRun (world_of old seen theirs holder) (steps_in turns) (answers_in turns) (world_over new led.left (ours seen l ∷ record { version = current new.versions; entries = led.entries } ∷ []))) (sym same) led.run;
        ours_in = omega (arith, ours_in, more);
        theirs_in = omega arith;
      }

-- ---- one event

-- a version that the other session publishes: it asks for a change that is permitted under the latest one
module _ (versions : VersionRows) (ledger : LedgerRows) (token : Option (List ℕ)) (ask : Ask) (policy : PolicyRows) (permitted : submitted versions token ask ≡ Ok policy) (state : IsState ledger.state) where
  verdict_is : policy_verdict versions token (asks.Change ask) ≡ Publishes (asked_text (current versions + 1) policy ask) policy
  verdict_is = ap (change_verdict (current versions) ask) permitted

  published_runs : Runs 1 (sheet versions ledger) (steps_in (turns_at versions (Published token ask policy))) (answers_in (turns_at versions (Published token ask policy))) (sheet (with_version versions policy) ledger)
  published_runs =
      administers 1 versions ledger token state (asks.Change ask) (served.Shown (reply_at (current versions + 1) (asked_text (current versions + 1) policy ask))) (with_version versions policy)
      (ap (told_of (current versions)) verdict_is, ap (λ (it : PolicyVerdict). versions_after it versions) (sym verdict_is))

event_leads : (versions : VersionRows) (old : SoloRows) (e : Event) (left : VersionRows) (new : SoloRows) (seen : ℕ) (theirs : Seen) (holder : Option ℕ) → seen ≤ current versions → theirs.version ≤ current versions → IsState old.plane.ledger.state → IsEvent versions old e left new → Leads (sheet versions old.plane.ledger) seen theirs holder (turns_at versions e) (sheet left new.plane.ledger)
event_leads versions old (Called x basis) left new seen theirs holder ours_in theirs_in state is =
    subst (λ (v : VersionRows). Leads (sheet versions old.plane.ledger) seen theirs holder (turns_of x.asked x.served basis) (sheet v new.plane.ledger)) (sym is.2)
    (may_lead (sheet versions old.plane.ledger) seen theirs holder ours_in theirs_in (turns_of x.asked x.served basis) (sheet (left_by old.site versions basis) new.plane.ledger) (no_fewer old.site versions basis)
    (call_runs 0 versions old new x.asked.token x.asked.at x.served basis state is.0.state x.asked.call is.0.decided is.1))
event_leads versions old (Published token ask policy) left new seen theirs holder ours_in theirs_in state is =
    subst (λ (v : VersionRows). Leads (sheet versions old.plane.ledger) seen theirs holder (turns_at versions (Published token ask policy)) (sheet v new.plane.ledger)) (sym is.1)
    (subst (λ (s : SoloRows). Leads (sheet versions old.plane.ledger) seen theirs holder (turns_at versions (Published token ask policy)) (sheet (with_version versions policy) s.plane.ledger)) (sym is.2)
    (their_turns (sheet versions old.plane.ledger) seen theirs holder ours_in theirs_in (turns_at versions (Published token ask policy)) (sheet (with_version versions policy) old.plane.ledger) refl (one_more versions policy)
    (published_runs versions old.plane.ledger token ask policy is.0 state)))

event_state : (versions : VersionRows) (old : SoloRows) (e : Event) (left : VersionRows) (new : SoloRows) → IsState old.plane.ledger.state → IsEvent versions old e left new → IsState new.plane.ledger.state
event_state versions old (Called x basis) left new state is = is.0.state
event_state versions old (Published token ask policy) left new state is = subst (λ (s : SoloRows). IsState s.plane.ledger.state) (sym is.2) state

and_then : (old mid new : Sheet) (seen : ℕ) (theirs : Seen) (holder : Option ℕ) (first later turns : List AnsweredStep) → turns ≡ first ++ later → (one : Leads old seen theirs holder first mid) → Leads mid one.then_seen one.then_theirs one.then_holder later new → Leads old seen theirs holder turns new
and_then old mid new seen theirs holder first later turns is one rest =
    subst (λ (ts : List AnsweredStep). Leads old seen theirs holder ts new) (sym is)
    (record {
      then_seen = rest.then_seen;
      then_theirs = rest.then_theirs;
      then_holder = rest.then_holder;
      run = run_join (world_of old seen theirs holder) (world_of mid one.then_seen one.then_theirs one.then_holder) (world_of new rest.then_seen rest.then_theirs rest.then_holder) first later one.run rest.run;
      ours_in = rest.ours_in;
      theirs_in = rest.theirs_in;
    })

nothing_happens : (versions left : VersionRows) (old new : SoloRows) → left ≡ versions → new ≡ old → sheet left new.plane.ledger ≡ sheet versions old.plane.ledger
nothing_happens versions left old new same alike =
    ap (λ (v : VersionRows). sheet v new.plane.ledger) same ∙ ap (λ (s : SoloRows). sheet versions s.plane.ledger) alike

all_lead : (versions : VersionRows) (old : SoloRows) (events : List Event) (turns : List AnsweredStep) (left : VersionRows) (new : SoloRows) (seen : ℕ) (theirs : Seen) (holder : Option ℕ) → seen ≤ current versions → theirs.version ≤ current versions → IsState old.plane.ledger.state → AreEvents versions old events turns left new → Leads (sheet versions old.plane.ledger) seen theirs holder turns (sheet left new.plane.ledger)
all_lead versions old [] turns left new seen theirs holder ours_in theirs_in state are =
    no_turn (sheet versions old.plane.ledger) seen theirs holder ours_in theirs_in turns (sheet left new.plane.ledger) are.0 (nothing_happens versions left old new are.1 are.2)
all_lead versions old (e ∷ es) turns left new seen theirs holder ours_in theirs_in state (mid, (between, (later, is, are, joined))) =
    let one = event_leads versions old e mid between seen theirs holder ours_in theirs_in state is in
    and_then (sheet versions old.plane.ledger) (sheet mid between.plane.ledger) (sheet left new.plane.ledger) seen theirs holder (turns_at versions e) later turns joined one
    (all_lead mid between es later left new one.then_seen one.then_theirs one.then_holder one.ours_in one.theirs_in (event_state versions old e mid between state is) are)

-- ---- from an opening on

opening_leads : (opening : OpeningRows) (turns : List AnsweredStep) (left : VersionRows) (new : SoloRows) (w : World) → IsState opening.state → opening_world opening ≡ w → (seen : ℕ) (theirs : Seen) (holder : Option ℕ) → IsRun w (steps_in turns) (answers_in turns) (world_of (sheet left new.plane.ledger) seen theirs holder) → AreOneRun opening turns left new
opening_leads opening turns left new w state is seen theirs holder run = record {
  seen = seen;
  theirs = theirs;
  holder = holder;
  leads = (state, subst (λ (from : World). IsRun from (steps_in turns) (answers_in turns) (world_of (sheet left new.plane.ledger) seen theirs holder)) (sym is) run);
}

pub events_are_one_run : EventsAreOneRun
events_are_one_run policy version_limit state history_limit solo events turns left new is opens are =
    let first : VersionRows = record { earlier = []; latest = policy; last = version_limit } in
    let ledger : LedgerRows = (opening_world (alone policy version_limit state history_limit)).ledger in
    let here : solo.plane.ledger ≡ ledger = ap (λ (p : PlaneRows). p.ledger) opens.plane in
    let led = all_lead first solo events turns left new 0 nothing_seen None (omega arith) (omega arith) (subst (λ (l : LedgerRows). IsState l.state) (sym here) is) are in
    opening_leads (alone policy version_limit state history_limit) turns left new (world_of (sheet first solo.plane.ledger) 0 nothing_seen None) is
    (ap (λ (l : LedgerRows). world_of (sheet first l) 0 nothing_seen None) (sym here)) led.then_seen led.then_theirs led.then_holder led.run

-- ---- the laws of all runs

pub entries_granted : world.EntriesAreGranted → EntriesAreGranted
entries_granted law opening turns left solo run =
    law opening (steps_in turns) (answers_in turns) (world_of (sheet left solo.plane.ledger) run.seen run.theirs run.holder) run.leads

pub versions_follow : world.VersionsFollow → VersionsFollow
versions_follow law opening turns left solo run =
    law opening (steps_in turns) (answers_in turns) (world_of (sheet left solo.plane.ledger) run.seen run.theirs run.holder) run.leads
