-- All events of sessions over one plane are one run of the world.
use Rattle.std.proofs.Common.{◌≡◌, ◌∙◌, refl, sym, ap, subst, ◌⊎◌, inl, inr, ℕ, zero, suc, ◌<◌, ◌≤◌, List, [], ◌∷◌, ◌++◌, Bool, length, length-append, get_or, replicate, arith}
use Rattle.std.specs.Prelude.{Option, Some, None, Result, Ok, Err, slice_get, slice_set}
use Rattle.std.proofs.lemmas.List.{length-replicate}
use Rattle.std.proofs.lemmas.Option.{slice_get-get_or, slice_get_within}
use Rattle.af_policy.specs.Versions.{VersionRows}
use Rattle.af_sched.specs.State.{StateRows}
use Rattle.af_sched.specs.declared.claim.Claim.{Claim}
use Rattle.af_sched.specs.declared.outcome.Outcome.{Outcome}
use Rattle.af_ops.specs.declared.shown_answer.Shown.{Shown}
use Rattle.af_ops.specs.PolicyVerdicts.{current}
use Rattle.af_audit.specs.declared.audit_fault.AuditFault.{AuditFault}
use Rattle.af_audit.specs.declared.audit_fault.AuditFault.TheVariants.{HistoryFull, OutOfMemory}
use Rattle.af_audit.specs.declared.entry.Entry.{Entry}
use Rattle.af_audit.specs.declared.report_refusal.ReportRefusal.{ReportRefusal}
use Rattle.af_audit.specs.declared.report_refusal.ReportRefusal.TheVariants as refusal
use Rattle.af_audit.specs.Acts.{IsState}
use Rattle.af_audit.specs.Entries.{IsReplay}
use Rattle.af_audit.specs.Ledgers.{IsLedger, LedgerRows}
use Rattle.af_board.specs.Marks.{Site}
use Rattle.af_world.specs.declared.reporting.Reporting.TheVariants.{Faulty, NoRoom, Takes}
use Rattle.af_world.specs.declared.session.Seen.{Seen}
use Rattle.af_world.specs.declared.step.Step.{Step}
use Rattle.af_world.specs.declared.step.Step.TheVariants as step
use Rattle.af_world.specs.Laws as world
use Rattle.af_world.specs.Moving.{move_of}
use Rattle.af_world.specs.Plane.{claim_told, report_told, tick_told}
use Rattle.af_world.specs.Runs.{IsRun}
use Rattle.af_world.specs.Steps.{Moves}
use Rattle.af_world.specs.Worlds.{OpeningRows, nothing_seen, opening_world}
use Rattle.af_plane.specs.Events.{AnsweredStep, Exchange, answers_in, left_by, steps_in, turns_by}
use Rattle.af_plane.specs.Laws.{CallsOfAllAreOneRun, EntriesOfAllAreGranted, VersionsOfAllFollow, VersionsToldToEachClimb}
use Rattle.af_plane.specs.Looks.{Basis}
use Rattle.af_plane.specs.Names.{IsNamed, Name}
use Rattle.af_plane.specs.Planes.{ClaimIs, ReportIs, TickIs, over, try_of}
use Rattle.af_plane.specs.Shared.{AreHappenings, Called, Claimed, Happening, Happens, IsHeld, IsTaken, Opened, Reported, SharedRows, Ticked, as_solo, first_versions, opening_of, turns_of_happening, turns_of_claim, turns_of_report, turns_of_tick}
use Rattle.af_plane.specs.Sheets.{Sheet, having_seen, sheet, world_over}
use Rattle.af_plane.specs.Visits.{Visit}
use Rattle.af_plane.proofs.RunLemmas.{MayRun, call_runs, no_fewer, run_join}
use Rattle.af_plane.proofs.SheetLemmas.{set_length}

-- ---- what the sessions of a world have seen

-- they are as many, and none has seen a version later than the latest
pub record AreSeen (n : ℕ) (versions : VersionRows) (sessions : List Seen) : Type 0 where
  pub count : length sessions ≡ n
  pub within : (k : ℕ) (had : Seen) → slice_get sessions k ≡ Some had → had.version ≤ current versions

-- what stands in a list where one is replaced
set_or : {X : Type 0} → (xs : List X) (i k : ℕ) (x y : X) → slice_get (slice_set xs i x) k ≡ Some y → (x ≡ y) ⊎ (slice_get xs k ≡ Some y)
set_or [] i k x y is = inr is
set_or (z ∷ xs) zero zero x y is = inl (cc is)
set_or (z ∷ xs) zero (suc k) x y is = inr is
set_or (z ∷ xs) (suc i) zero x y is = inr is
set_or (z ∷ xs) (suc i) (suc k) x y is = set_or xs i k x y is

-- one session has seen the latest version, and there may be more
still_seen : (n : ℕ) (old new : Sheet) (sessions : List Seen) (session entries : ℕ) → current old.versions ≤ current new.versions → AreSeen n old.versions sessions → AreSeen n new.versions (having_seen sessions session new entries)
still_seen n old new sessions session entries more seen =
    let latest : Seen = record { version = current new.versions; entries = entries } in
    record {
      count = set_length sessions session latest ∙ seen.count;
      within = λ k had there. elim (set_or sessions session k latest had there) [
        | inl same ↦ subst (λ (it : Seen). it.version ≤ current new.versions) same (omega arith)
        | inr before ↦ omega (arith, more, seen.within k had before)
      ];
    }

-- at the opening
got_replicate : {X : Type 0} → (n k : ℕ) (x y : X) → slice_get (replicate n x) k ≡ Some y → x ≡ y
got_replicate zero k x y is = absurd (cc)
got_replicate (suc n) zero x y is = cc is
got_replicate (suc n) (suc k) x y is = got_replicate n k x y is

first_seen : (n : ℕ) (versions : VersionRows) → AreSeen n versions (replicate n nothing_seen)
first_seen n versions = record {
  count = length-replicate n nothing_seen;
  within = λ k had there. subst (λ (it : Seen). it.version ≤ current versions) (got_replicate n k nothing_seen had there) (omega arith);
}

-- ---- steps

-- these steps lead from a world over one sheet to one over another, of as many sessions, none of which has seen a later version
pub record Leads (n : ℕ) (old : Sheet) (holder : Option ℕ) (sessions : List Seen) (turns : List AnsweredStep) (new : Sheet) : Type 0 where
  pub then_holder : Option ℕ
  pub then_sessions : List Seen
  pub run : IsRun (world_over old holder sessions) (steps_in turns) (answers_in turns) (world_over new then_holder then_sessions)
  pub seen : AreSeen n new.versions then_sessions

module _ (n : ℕ) (old : Sheet) (holder : Option ℕ) (sessions : List Seen) (seen : AreSeen n old.versions sessions) where
  no_turn : (new : Sheet) → new ≡ old → Leads n old holder sessions [] new
  no_turn new same =
      subst (Leads n old holder sessions []) (sym same) (record { then_holder = holder; then_sessions = sessions; run = refl; seen = seen })

  -- of one session
  its_turns : (session : ℕ) (turns : List AnsweredStep) (new : Sheet) → session < n → current old.versions ≤ current new.versions → MayRun session old turns new → Leads n old holder sessions turns new
  its_turns session turns new lt more (inl none) =
      subst (λ (ts : List AnsweredStep). Leads n old holder sessions ts new) (sym none.0) (no_turn new none.1)
  its_turns session turns new lt more (inr runs) =
      let had : Seen = get_or sessions session nothing_seen in
      let there : slice_get sessions session ≡ Some had = slice_get-get_or sessions session nothing_seen (omega (arith, seen.count, lt)) in
      let led = runs holder sessions had there (seen.within session had there) in
      record {
        then_holder = led.left;
        then_sessions = having_seen sessions session new led.entries;
        run = led.run;
        seen = still_seen n old new sessions session led.entries more seen;
      }

  -- of the scheduler, or of an executor
  one_turn : (s : Step) (shown : Shown) (ledger : LedgerRows) → IsState ledger.state → Moves (world_over old holder sessions) s (move_of (Some shown) (over old.versions ledger None sessions)) → Leads n old holder sessions ((s, Some shown) ∷ []) (sheet old.versions ledger)
  one_turn s shown ledger left moves = record {
    then_holder = None;
    then_sessions = sessions;
    run = (over old.versions ledger None sessions, left, moves, refl);
    seen = seen;
  }

-- ---- the plane's own events

module _ (n : ℕ) (versions : VersionRows) (old new : LedgerRows) (holder : Option ℕ) (sessions : List Seen) (seen : AreSeen n versions sessions) (left : IsState new.state) where
  abbrev LeadsTo : List AnsweredStep → Type 0
  LeadsTo turns = Leads n (sheet versions old) holder sessions turns (sheet versions new)

  same_leads : new ≡ old → LeadsTo []
  same_leads same = no_turn n (sheet versions old) holder sessions seen (sheet versions new) (ap (sheet versions) same)

  told_leads : (s : Step) (shown : Shown) → Moves (world_over (sheet versions old) holder sessions) s (move_of (Some shown) (over versions new None sessions)) → LeadsTo ((s, Some shown) ∷ [])
  told_leads s shown moves = one_turn n (sheet versions old) holder sessions seen s shown new left moves

  tick_leads : (t : ℕ) (told : Result Bool AuditFault) → TickIs old t told new → LeadsTo (turns_of_tick new t told)
  tick_leads t (Ok changed) is = told_leads (step.Tick t) (tick_told new (Some changed)) (is versions holder sessions)
  tick_leads t (Err HistoryFull) is = told_leads (step.Tick t) (tick_told new None) (is versions holder sessions)
  tick_leads t (Err OutOfMemory) is = same_leads is

  claim_leads : (t : ℕ) (told : Result (Option Claim) AuditFault) → ClaimIs old t told new → LeadsTo (turns_of_claim new t told)
  claim_leads t (Ok claim) is = told_leads (step.Claim t) (claim_told new (Some claim)) (is versions holder sessions)
  claim_leads t (Err HistoryFull) is = told_leads (step.Claim t) (claim_told new None) (is versions holder sessions)
  claim_leads t (Err OutOfMemory) is = same_leads is

  report_leads : (claim : Claim) (outcome : Outcome) (t : ℕ) (told : Result (Unit {0}) ReportRefusal) → ReportIs old claim outcome t told new → LeadsTo (turns_of_report new claim outcome t told)
  report_leads claim outcome t (Ok done) is =
      told_leads (step.Report (try_of claim outcome) t) (report_told new (Takes claim)) (is versions holder sessions)
  report_leads claim outcome t (Err (refusal.Fault fault)) is =
      told_leads (step.Report (try_of claim outcome) t) (report_told new (Faulty fault)) (is versions holder sessions)
  report_leads claim outcome t (Err (refusal.Audit HistoryFull)) is =
      told_leads (step.Report (try_of claim outcome) t) (report_told new NoRoom) (is versions holder sessions)
  report_leads claim outcome t (Err (refusal.Audit OutOfMemory)) is = same_leads is

-- ---- one event

-- what entries make is a state
replayed : (entries : List Entry) (old new : StateRows) → IsState old → IsReplay old entries new → IsState new
replayed [] old new state same = subst IsState (sym same) state
replayed (entry ∷ entries) old new state is = replayed entries is.0 new is.1 is.3

pub is_state : (ledger : LedgerRows) → IsLedger ledger → IsState ledger.state
is_state ledger is = replayed ledger.audit.entries ledger.opening ledger.state is.opens is.replays

-- no session goes
held_visits : (old : SharedRows) (session : ℕ) (was now : Visit) (new : SharedRows) → IsHeld old session was now new → length old.visits ≤ length new.visits
held_visits old session was now new is = omega (arith, ap length is.visits, set_length old.visits session now)

more_visits : (site : Site) (versions : VersionRows) (old : SharedRows) (e : Happening) (left : VersionRows) (new : SharedRows) → Happens site versions old e left new → length old.visits ≤ length new.visits
more_visits site versions old (Opened visit) left new is =
    omega (arith, ap length is.2, length-append old.visits (visit ∷ []))
more_visits site versions old (Called session x basis) left new is = held_visits old session is.1.was is.1.now new is.1.of
more_visits site versions old (Ticked session t told) left new is = held_visits old session is.1.was is.1.now new is.1.of
more_visits site versions old (Claimed session t told) left new is = held_visits old session is.1.was is.1.now new is.1.of
more_visits site versions old (Reported session claim outcome t told) left new is = held_visits old session is.1.was is.1.now new is.1.of

module _ (n : ℕ) (name : Name) (versions : VersionRows) (old : SharedRows) (left : VersionRows) (new : SharedRows) (holder : Option ℕ) (sessions : List Seen) (seen : AreSeen n versions sessions) (all : length new.visits ≤ n) (state : IsState old.plane.ledger.state) (named : IsNamed name new.plane) where
  abbrev LeadsFrom : List AnsweredStep → VersionRows → Type 0
  LeadsFrom turns later = Leads n (sheet versions old.plane.ledger) holder sessions turns (sheet later new.plane.ledger)

  still : IsState new.plane.ledger.state
  still = is_state new.plane.ledger named.ledger

  taken_leads : (session : ℕ) (x : Exchange) (basis : Basis) → IsTaken name.site versions old session x basis new → LeadsFrom (turns_by session x.asked x.served basis) (left_by name.site versions basis)
  taken_leads session x basis is =
      its_turns n (sheet versions old.plane.ledger) holder sessions seen session (turns_by session x.asked x.served basis) (sheet (left_by name.site versions basis) new.plane.ledger)
      (omega (arith, slice_get_within old.visits session is.was is.of.found, ap length is.of.visits, set_length old.visits session is.now, all)) (no_fewer name.site versions basis)
      (call_runs session versions (as_solo name.site old.plane is.was) (as_solo name.site new.plane is.now) x.asked.token x.asked.at x.served basis state still x.asked.call is.decided is.stands)

  pub event_leads : (e : Happening) → Happens name.site versions old e left new → LeadsFrom (turns_of_happening new.plane.ledger e) left
  event_leads (Opened visit) is =
      subst (LeadsFrom []) (sym is.0) (same_leads n versions old.plane.ledger new.plane.ledger holder sessions seen still is.1)
  event_leads (Called session x basis) is =
      subst (LeadsFrom (turns_by session x.asked x.served basis)) (sym is.0) (taken_leads session x basis is.1)
  event_leads (Ticked session t told) is =
      subst (LeadsFrom (turns_of_tick new.plane.ledger t told)) (sym is.0)
      (tick_leads n versions old.plane.ledger new.plane.ledger holder sessions seen still t told is.1.does)
  event_leads (Claimed session t told) is =
      subst (LeadsFrom (turns_of_claim new.plane.ledger t told)) (sym is.0)
      (claim_leads n versions old.plane.ledger new.plane.ledger holder sessions seen still t told is.1.does)
  event_leads (Reported session claim outcome t told) is =
      subst (LeadsFrom (turns_of_report new.plane.ledger claim outcome t told)) (sym is.0)
      (report_leads n versions old.plane.ledger new.plane.ledger holder sessions seen still claim outcome t told is.1.does)

-- ---- all events

all_visits : (name : Name) (versions : VersionRows) (old : SharedRows) (events : List Happening) (turns : List AnsweredStep) (left : VersionRows) (new : SharedRows) → AreHappenings name versions old events turns left new → length old.visits ≤ length new.visits
all_visits name versions old [] turns left new are = omega (arith, ap (λ (s : SharedRows). length s.visits) are.2)
all_visits name versions old (e ∷ es) turns left new (mid, (between, (later, is, are, joined))) =
    omega (arith, more_visits name.site versions old e mid between is.0, all_visits name mid between es later left new are)

and_then : (n : ℕ) (old mid new : Sheet) (holder : Option ℕ) (sessions : List Seen) (first later turns : List AnsweredStep) → turns ≡ first ++ later → (one : Leads n old holder sessions first mid) → Leads n mid one.then_holder one.then_sessions later new → Leads n old holder sessions turns new
and_then n old mid new holder sessions first later turns is one rest =
    subst (λ (ts : List AnsweredStep). Leads n old holder sessions ts new) (sym is)
    (record {
      then_holder = rest.then_holder;
      then_sessions = rest.then_sessions;
      run = run_join (world_over old holder sessions) (world_over mid one.then_holder one.then_sessions) (world_over new rest.then_holder rest.then_sessions) first later one.run rest.run;
      seen = rest.seen;
    })

nothing_happens : (versions left : VersionRows) (old new : SharedRows) → left ≡ versions → new ≡ old → sheet left new.plane.ledger ≡ sheet versions old.plane.ledger
nothing_happens versions left old new same alike =
    ap (λ (v : VersionRows). sheet v new.plane.ledger) same ∙ ap (λ (s : SharedRows). sheet versions s.plane.ledger) alike

all_lead : (n : ℕ) (name : Name) (versions : VersionRows) (old : SharedRows) (events : List Happening) (turns : List AnsweredStep) (left : VersionRows) (new : SharedRows) (holder : Option ℕ) (sessions : List Seen) → AreSeen n versions sessions → length new.visits ≤ n → IsState old.plane.ledger.state → AreHappenings name versions old events turns left new → Leads n (sheet versions old.plane.ledger) holder sessions turns (sheet left new.plane.ledger)
all_lead n name versions old [] turns left new holder sessions seen all state are =
    subst (λ (ts : List AnsweredStep). Leads n (sheet versions old.plane.ledger) holder sessions ts (sheet left new.plane.ledger)) (sym are.0)
    (no_turn n (sheet versions old.plane.ledger) holder sessions seen (sheet left new.plane.ledger) (nothing_happens versions left old new are.1 are.2))
all_lead n name versions old (e ∷ es) turns left new holder sessions seen all state (mid, (between, (later, is, are, joined))) =
    let within : length between.visits ≤ n = omega (arith, all_visits name mid between es later left new are, all) in
    let one = event_leads n name versions old mid between holder sessions seen within state is.1 e is.0 in
    and_then n (sheet versions old.plane.ledger) (sheet mid between.plane.ledger) (sheet left new.plane.ledger) holder sessions (turns_of_happening between.plane.ledger e) later turns joined one
    (all_lead n name mid between es later left new one.then_holder one.then_sessions one.seen all (is_state between.plane.ledger is.1.ledger) are)

pub calls_of_all_are_one_run : CallsOfAllAreOneRun
calls_of_all_are_one_run name first events turns left new opens are =
    let n : ℕ = length new.visits in
    let opening : OpeningRows = opening_of name n in
    let there : first.plane.ledger ≡ (opening_world opening).ledger = opens.ledger in
    let state : IsState first.plane.ledger.state = is_state first.plane.ledger opens.named.ledger in
    let led = all_lead n name (first_versions name) first events turns left new None (replicate n nothing_seen) (first_seen n (first_versions name)) (omega arith) state are in
    record {
      holder = led.then_holder;
      sessions = led.then_sessions;
      leads = (
        subst (λ (l : LedgerRows). IsState l.state) there state,
        subst (λ (l : LedgerRows). IsRun (over (first_versions name) l None (replicate n nothing_seen)) (steps_in turns) (answers_in turns) (over left new.plane.ledger led.then_holder led.then_sessions)) there led.run,
      );
    }

-- ---- the laws of all runs

pub entries_granted : world.EntriesAreGranted → EntriesOfAllAreGranted
entries_granted law opening turns left new run =
    law opening (steps_in turns) (answers_in turns) (over left new.plane.ledger run.holder run.sessions) run.leads

pub versions_follow : world.VersionsFollow → VersionsOfAllFollow
versions_follow law opening turns left new run =
    law opening (steps_in turns) (answers_in turns) (over left new.plane.ledger run.holder run.sessions) run.leads

pub versions_climb : world.AnsweredVersionsClimb → VersionsToldToEachClimb
versions_climb law opening turns left new session run =
    law opening (steps_in turns) (answers_in turns) (over left new.plane.ledger run.holder run.sessions) session run.leads
