-- Every step but a tick can be taken, and leaves a state that is ready.
use Rattle.std.proofs.Common.{◌≡◌, refl, sym, subst, ℕ, List, [], ◌∷◌, ◌++◌, Bool, true, false, cond, not, ◌&&◌, ◌==◌, length-set, append_assoc, append-nil, nat_lt}
use Rattle.std.specs.Prelude.{Option, Some, None, Result, Ok, Err, is_none, slice_set, if◌then◌else◌}
use Rattle.std.specs.Option.{option_map_or}
use Rattle.af_listing.specs.Windows.{Cut}
use Rattle.af_policy.specs.declared.ask.Ask.{Ask}
use Rattle.af_policy.specs.declared.bad_input.Parameter.{Parameter}
use Rattle.af_policy.specs.declared.refusal.Refusal.{Refusal}
use Rattle.af_policy.specs.Identity.{bearer_of}
use Rattle.af_policy.specs.Rows.{PolicyRows}
use Rattle.af_policy.specs.Versions.{decided}
use Rattle.af_runs.specs.Runs.{is_numbered, with_instance}
use Rattle.af_runs.specs.declared.instance.Instance.{Instance}
use Rattle.af_sched.specs.Claims.{claim_of, claimed_instance, is_claimable}
use Rattle.af_sched.specs.Placed.{IsFirstOf, Placed, placed_in}
use Rattle.af_sched.specs.Reports.{instance_of, report_fault, reported, reported_at}
use Rattle.af_sched.specs.State.{StateRows}
use Rattle.af_sched.specs.Steps.{first_with}
use Rattle.af_sched.specs.declared.claim.Claim.{Claim}
use Rattle.af_sched.specs.declared.outcome.Outcome.{Outcome}
use Rattle.af_sched.proofs.PlacedLemmas.{IsFirstOf-none, IsFirstOf-with}
use Rattle.af_ops.specs.declared.call.Call.{Call}
use Rattle.af_ops.specs.declared.call.Call.TheVariants as call
use Rattle.af_ops.specs.declared.op.Op.{Op}
use Rattle.af_ops.specs.declared.policy_op.PolicyOp.{PolicyOp}
use Rattle.af_ops.specs.declared.policy_op.PolicyOp.TheVariants as asks
use Rattle.af_ops.specs.declared.shown_answer.Shown.{Shown}
use Rattle.af_ops.specs.Endpoints.{endpoint_of}
use Rattle.af_ops.specs.PolicyVerdicts.{policy_verdict}
use Rattle.af_ops.specs.Table.{is_open}
use Rattle.af_ops.specs.Verdicts.{Changes, Lacks, Open, Refuses, Stranger, Tells, Verdict}
use Rattle.af_audit.specs.declared.act.Act.TheVariants as act
use Rattle.af_audit.specs.declared.actor.Actor.TheVariants.{Executor}
use Rattle.af_audit.specs.Answered.{ledger_left, verdict_on}
use Rattle.af_audit.specs.Entries.{has_room}
use Rattle.af_audit.specs.Ledgers.{LedgerRows, entered}
use Rattle.af_world.specs.declared.reporting.Reporting.{Reporting}
use Rattle.af_world.specs.declared.reporting.Reporting.TheVariants.{Faulty, NoRoom, Takes}
use Rattle.af_world.specs.declared.step.Step.{Step}
use Rattle.af_world.specs.declared.step.Step.TheVariants as step
use Rattle.af_world.specs.Acting.{acted, acting, holds, listed}
use Rattle.af_world.specs.Moving.{Move, looked, looking, move_of, stays}
use Rattle.af_world.specs.Plane.{claim_told, left_by_report, reporting}
use Rattle.af_world.specs.Publishing.{handed_in, lost, made, meeting, overtaken, publishing}
use Rattle.af_world.specs.Ready.{IsReady}
use Rattle.af_world.specs.Steps.{Moves, reports}
use Rattle.af_world.specs.Worlds.{World, has_session, last_version, policy_at, seen_by}
use Rattle.af_world.proofs.OpReadyLemmas.{after_ready}
use Rattle.af_world.proofs.ReadyLemmas.{IsInPlace, ready_runs, some_in_place}
use Rattle.af_world.proofs.VerdictLemmas.{MeansOp, means_op}
use Rattle.af_world.proofs.WorldLemmas.{both_true, either, is_closed}

-- it is answered so, if at all, and leaves this world
pub record IsTaken (w : World) (s : Step) : Type 0 where
  pub answer : Option Shown
  pub next : World
  pub ready : IsReady next.ledger.state
  pub moves : Moves w s (move_of answer next)

abbrev pub LeavesReady : Move → Type 0
LeavesReady m = IsReady m.next.ledger.state

-- ---- an instance is replaced

replaced_in_place : (place : ℕ) (instance : Instance) → IsInPlace (λ run. record run { instances = slice_set run.instances place instance })
replaced_in_place place instance = record { key = λ run. refl; long = λ run. length-set run.instances place instance }

ready_instance : (state : StateRows) (number place : ℕ) (instance : Instance) → IsReady state → IsReady (record state { runs = with_instance state.runs number place instance })
ready_instance state number place instance ready =
    ready_runs state (λ run. cond (is_numbered number run) (record run { instances = slice_set run.instances place instance }) run)
    (some_in_place (is_numbered number) (λ run. record run { instances = slice_set run.instances place instance }) (replaced_in_place place instance)) ready

ready_reported : (t : ℕ) (outcome : Outcome) (state : StateRows) (claim : Claim) → IsReady state → IsReady (reported t outcome state claim)
ready_reported t outcome state claim ready = by (is_none (report_fault state claim)) (instance_of state claim)
  where
    at : (found : Option Placed) → IsReady (option_map_or (reported_at t outcome state) found state)
    at None = ready
    at (Some placed) = ready_instance state placed.run.number placed.place _ ready

    by : (b : Bool) (found : Option Placed) → IsReady (cond b (option_map_or (reported_at t outcome state) found state) state)
    by true found = at found
    by false found = ready

-- ---- the first that may be claimed

first_in : (test : Placed → Bool) (seen more : List Placed) (first : Option Placed) → IsFirstOf test seen first → (o : Option Placed) × IsFirstOf test (seen ++ more) o
first_in test seen [] first is = (first, subst (λ (all : List Placed). IsFirstOf test all first) (sym (append-nil seen)) is)
first_in test seen (next ∷ more) first is =
    subst (λ (all : List Placed). (o : Option Placed) × IsFirstOf test all o) (append_assoc seen (next ∷ []) more)
    (first_in test (seen ++ next ∷ []) more (first_with test first next) (IsFirstOf-with test seen first next is))

module _ (w : World) (ready : IsReady w.ledger.state) where
  -- ---- looks, readings and changes of the policy

  look_ready : (s : ℕ) → LeavesReady (looking w s)
  look_ready s = either LeavesReady (has_session w s) (move_of None (looked w s)) (stays w) (λ _. ready) (λ _. ready)

  meet_ready : (s : ℕ) (token : Option (List ℕ)) (asked : PolicyOp) → LeavesReady (meeting w s token asked)
  meet_ready s token asks.Me = either LeavesReady (has_session w s) (made w s (policy_verdict w.versions token asks.Me)) (stays w) (λ _. ready) (λ _. ready)
  meet_ready s token (asks.Read asked) = either LeavesReady (has_session w s) (made w s (policy_verdict w.versions token (asks.Read asked))) (stays w) (λ _. ready) (λ _. ready)
  meet_ready s token (asks.Change ask) = ready
  meet_ready s token (asks.Unread kind) = ready

  lost_ready : (s at : ℕ) (ask : Ask) (comes : Result PolicyRows Refusal) → LeavesReady (lost w s at ask comes)
  lost_ready s at ask (Ok later) = ready
  lost_ready s at ask (Err fault) = ready

  handed_ready : (s at : ℕ) (token : Option (List ℕ)) (ask : Ask) (policy : Option PolicyRows) → LeavesReady (handed_in w s at token ask policy)
  handed_ready s at token ask None = ready
  handed_ready s at token ask (Some policy) =
      either LeavesReady (nat_lt at (seen_by w s).version) (overtaken w s ask)
      (if at == last_version w then made w s (policy_verdict w.versions token (asks.Change ask)) else lost w s at ask (decided policy token ask))
      (λ _. ready)
      (λ _. either LeavesReady (at == last_version w) (made w s (policy_verdict w.versions token (asks.Change ask))) (lost w s at ask (decided policy token ask)) (λ _. ready) (λ _. lost_ready s at ask (decided policy token ask)))

  publish_ready : (s at : ℕ) (token : Option (List ℕ)) (asked : PolicyOp) → LeavesReady (publishing w s at token asked)
  publish_ready s at token (asks.Change ask) =
      either LeavesReady (has_session w s) (handed_in w s at token ask (policy_at w at)) (stays w) (λ _. handed_ready s at token ask (policy_at w at)) (λ _. ready)
  publish_ready s at token asks.Me = ready
  publish_ready s at token (asks.Read asked) = ready
  publish_ready s at token (asks.Unread kind) = ready

  -- ---- acts

  left_ready : (policy : PolicyRows) (token who : Option (List ℕ)) (it : Op) (t : ℕ) (v : Verdict) → MeansOp policy w.ledger token it t v → IsReady (ledger_left who it t w.ledger v).state
  left_ready policy token who it t (Open reply) means = ready
  left_ready policy token who it t Stranger means = ready
  left_ready policy token who it t (Lacks need) means = ready
  left_ready policy token who it t (Refuses why) means = ready
  left_ready policy token who it t (Tells reply) means = ready
  left_ready policy token None it t (Changes reply next) means = ready
  left_ready policy token (Some user) it t (Changes reply next) means = subst IsReady (sym means.1.0) (after_ready w.ledger.state ready it t)

  acted_ready : (s : ℕ) (token : Option (List ℕ)) (it : Op) (t : ℕ) → is_open (endpoint_of it) ≡ false → (policy : Option PolicyRows) → LeavesReady (acted w s token it t policy)
  acted_ready s token it t closed None = ready
  acted_ready s token it t closed (Some policy) =
      left_ready policy token (bearer_of policy token) it t (verdict_on policy w.ledger token it t) (means_op policy w.ledger token it t closed)

  listed_ready : (s : ℕ) (token : Option (List ℕ)) (window : Result Cut Parameter) (policy : Option PolicyRows) → LeavesReady (listed w s token window policy)
  listed_ready s token window None = ready
  listed_ready s token window (Some policy) = ready

  act_ready : (s : ℕ) (token : Option (List ℕ)) (asked : Call) (t : ℕ) → LeavesReady (acting w s token asked t)
  act_ready s token (call.State it) t =
      either LeavesReady (holds w s && not (is_open (endpoint_of it))) (acted w s token it t (policy_at w w.ledger.version)) (stays w)
      (λ fit. acted_ready s token it t (is_closed (is_open (endpoint_of it)) (both_true (holds w s) (not (is_open (endpoint_of it))) fit).1) (policy_at w w.ledger.version))
      (λ _. ready)
  act_ready s token (call.Entries window) t =
      either LeavesReady (holds w s) (listed w s token window (policy_at w w.ledger.version)) (stays w) (λ _. listed_ready s token window (policy_at w w.ledger.version)) (λ _. ready)
  act_ready s token (call.Policy asked) t = ready

  -- ---- reports and claims

  report_ready : (outcome : Outcome) (t : ℕ) (comes : Reporting) → IsReady (left_by_report w.ledger outcome t comes).state
  report_ready outcome t (Faulty fault) = ready
  report_ready outcome t NoRoom = ready
  report_ready outcome t (Takes claim) = ready_reported t outcome w.ledger.state claim ready

  claim_taken : (t : ℕ) (first : Option Placed) → IsFirstOf is_claimable (placed_in w.ledger.state.dags w.ledger.state.runs) first → (room : Bool) → has_room w.ledger.audit ≡ room → IsTaken w (step.Claim t)
  claim_taken t None none room is = record {
    answer = Some (claim_told w.ledger (Some None));
    next = record w { holder = None };
    ready = ready;
    moves = record { told = Some None; claimed = record { none = none; ledger = refl }; answered = refl; rest = refl };
  }
  claim_taken t (Some first) is_first false full = record {
    answer = Some (claim_told w.ledger None);
    next = record w { holder = None };
    ready = ready;
    moves = record {
      told = None;
      claimed = record { full = full; claim = claim_of first; told = record { first = first; is_first = is_first; told = refl }; ledger = refl };
      answered = refl;
      rest = refl;
    };
  }
  claim_taken t (Some first) is_first true room =
      let after : StateRows = record w.ledger.state { runs = with_instance w.ledger.state.runs first.run.number first.place (claimed_instance t first.instance) } in
      let left : LedgerRows = entered w.ledger Executor (act.Claim (claim_of first)) t after in
      record {
        answer = Some (claim_told left (Some (Some (claim_of first))));
        next = record w { ledger = left; holder = None };
        ready = ready_instance w.ledger.state first.run.number first.place (claimed_instance t first.instance) ready;
        moves = record {
          told = Some (Some (claim_of first));
          claimed = record { room = room; claims = record { first = first; is_first = is_first; told = refl; state = refl }; ledger = refl };
          answered = refl;
          rest = refl;
        };
      }

  -- ---- each of them

  of_move : (s : Step) (m : Move) → LeavesReady m → Moves w s m → IsTaken w s
  of_move s m left moves = record { answer = m.answer; next = m.next; ready = left; moves = moves }

  pub step_taken : ((t : ℕ) → IsTaken w (step.Tick t)) → (s : Step) → IsTaken w s
  step_taken ticks (step.Look session) = of_move (step.Look session) (looking w session) (look_ready session) refl
  step_taken ticks (step.Act session token asked t) = of_move (step.Act session token asked t) (acting w session token asked t) (act_ready session token asked t) refl
  step_taken ticks (step.Me session token asked) = of_move (step.Me session token asked) (meeting w session token asked) (meet_ready session token asked) refl
  step_taken ticks (step.Publish session at token asked) =
      of_move (step.Publish session at token asked) (publishing w session at token asked) (publish_ready session at token asked) refl
  step_taken ticks (step.Tick t) = ticks t
  step_taken ticks (step.Claim t) =
      let found = first_in is_claimable [] (placed_in w.ledger.state.dags w.ledger.state.runs) None (IsFirstOf-none is_claimable) in
      claim_taken t found.0 found.1 (has_room w.ledger.audit) refl
  step_taken ticks (step.Report it t) =
      of_move (step.Report it t) (reports w it t (reporting w.ledger it)) (report_ready it.outcome t (reporting w.ledger it)) refl
