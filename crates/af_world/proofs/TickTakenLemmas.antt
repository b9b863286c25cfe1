-- Every tick can be taken; and so can every list of steps.
use Rattle.std.proofs.Common.{◌≡◌, ◌∙◌, inl, inr, refl, sym, ap, subst, ℕ, List, [], ◌∷◌, map, Bool, true, false, cond}
use Rattle.std.specs.Prelude.{Option, Some, None}
use Rattle.std.specs.Option.{option_map_or}
use Rattle.af_graph.specs.Schedules.{is_scheduled}
use Rattle.af_sched.specs.Create.{created, cursor_due, moved_row}
use Rattle.af_sched.specs.Finish.{ended_run, ends, finished}
use Rattle.af_sched.specs.Start.{started}
use Rattle.af_sched.specs.State.{StateRows, tasks_of}
use Rattle.af_sched.specs.Tick.{IsTick}
use Rattle.af_sched.specs.declared.dag_row.DagRow.{DagRow}
use Rattle.af_ops.specs.declared.shown_answer.Shown.{Shown}
use Rattle.af_audit.specs.declared.act.Act.TheVariants.{Tick}
use Rattle.af_audit.specs.declared.actor.Actor.TheVariants.{Scheduler}
use Rattle.af_audit.specs.Entries.{has_room}
use Rattle.af_audit.specs.Ledgers.{LedgerRows, entered}
use Rattle.af_world.specs.declared.step.Step.{Step}
use Rattle.af_world.specs.declared.step.Step.TheVariants as step
use Rattle.af_world.specs.Plane.{tick_told}
use Rattle.af_world.specs.Ready.{IsReady, StepsHaveAnswers}
use Rattle.af_world.specs.Runs.{IsRun}
use Rattle.af_world.specs.Worlds.{World, opening_world}
use Rattle.af_world.proofs.DueReadyLemmas.{created_ready, started_ready}
use Rattle.af_world.proofs.KnownLemmas.{Known, known_as, known_both, known_moment, known_number, known_pools, known_runs, known_variables}
use Rattle.af_world.proofs.QueuedLemmas.{has_queued}
use Rattle.af_world.proofs.ReadyLemmas.{IsInPlace, ready_runs, some_in_place}
use Rattle.af_world.proofs.SettledLemmas.{has_settled}
use Rattle.af_world.proofs.TakenLemmas.{IsTaken, step_taken}

-- ---- the state after a tick

ended_in_place : (t : ℕ) (dags : List DagRow) → IsInPlace (λ run. ended_run t (tasks_of dags run.dag_id) run)
ended_in_place t dags = record { key = λ run. refl; long = λ run. refl }

finished_ready : (t : ℕ) (state : StateRows) → IsReady state → IsReady (finished t state)
finished_ready t state ready =
    ready_runs state (λ run. cond (ends run) (ended_run t (tasks_of state.dags run.dag_id) run) run)
    (some_in_place ends (λ run. ended_run t (tasks_of state.dags run.dag_id) run) (ended_in_place t state.dags)) ready

pub record HasTicked (t : ℕ) (old : StateRows) : Type 0 where
  pub new : StateRows
  pub tick : IsTick t old new
  pub ready : IsReady new
  pub dags : new.dags ≡ map (moved_row t) old.dags

has_ticked : (t : ℕ) (old : StateRows) → IsReady old → HasTicked t old
has_ticked t old ready =
    let first : StateRows = started t (created t old) in
    let settled = has_settled t first (started_ready t (created t old) (created_ready t old ready)) in
    let queued = has_queued settled.new settled.ready in
    record {
      new = finished t queued.new;
      tick = record { settled = settled.new; queued = queued.new; settles = settled.settles; queues = queued.queues; ends = refl };
      ready = finished_ready t queued.new queued.ready;
      dags = ap (λ (s : StateRows). s.dags) queued.queues.state ∙ ap (λ (s : StateRows). s.dags) settled.settles.rest;
    }

-- ---- whether it changed anything

-- a tick changes of a DAG its cursor alone
moved_known : (t : ℕ) (row : DagRow) → Known (moved_row t row ≡ row)
moved_known t row = by row.is_paused
  where
    cursor : Option ℕ
    cursor = option_map_or (λ schedule. option_map_or (cursor_due t row.dag (is_scheduled schedule)) row.cursor None) row.dag.schedule row.cursor

    by : (b : Bool) → Known (cond b row (record row { cursor = option_map_or (λ schedule. option_map_or (cursor_due t row.dag (is_scheduled schedule)) row.cursor None) row.dag.schedule row.cursor }) ≡ row)
    by true = inl refl
    by false =
        known_as (λ same i. record row { cursor = same i }) (ap (λ (it : DagRow). it.cursor))
        (known_moment (option_map_or (λ schedule. option_map_or (cursor_due t row.dag (is_scheduled schedule)) row.cursor None) row.dag.schedule row.cursor) row.cursor)

all_moved_known : (t : ℕ) (rows : List DagRow) → Known (map (moved_row t) rows ≡ rows)
all_moved_known t [] = inl refl
all_moved_known t (row ∷ rows) =
    known_as (λ both i. both.0 i ∷ both.1 i) (λ is. (head is, tail is)) (known_both (moved_known t row) (all_moved_known t rows))
  where
    head : moved_row t row ∷ map (moved_row t) rows ≡ row ∷ rows → moved_row t row ≡ row
    head is = cc

    tail : moved_row t row ∷ map (moved_row t) rows ≡ row ∷ rows → map (moved_row t) rows ≡ rows
    tail is = cc

changed_known : (t : ℕ) (old new : StateRows) → new.dags ≡ map (moved_row t) old.dags → Known (new ≡ old)
changed_known t old new dags =
    known_as
    (λ all i. record { dags = all.0 i; runs = all.1.0 i; next_run = all.1.1.0 i; pools = all.1.1.1.0 i; variables = all.1.1.1.1 i })
    (λ is. (ap (λ (s : StateRows). s.dags) is, (ap (λ (s : StateRows). s.runs) is, (ap (λ (s : StateRows). s.next_run) is, (ap (λ (s : StateRows). s.pools) is, ap (λ (s : StateRows). s.variables) is)))))
    (known_both (known_as (λ same. dags ∙ same) (λ same. sym dags ∙ same) (all_moved_known t old.dags))
    (known_both (known_runs new.runs old.runs)
    (known_both (known_number new.next_run old.next_run)
    (known_both (known_pools new.pools old.pools) (known_variables new.variables old.variables)))))

-- ---- the step

module _ (w : World) (t : ℕ) (ready : IsReady w.ledger.state) where
  ticked : (it : HasTicked t w.ledger.state) → Known (it.new ≡ w.ledger.state) → (room : Bool) → has_room w.ledger.audit ≡ room → IsTaken w (step.Tick t)
  ticked it (inl same) room is = record {
    answer = Some (tick_told w.ledger (Some false));
    next = record w { holder = None };
    ready = ready;
    moves = record { told = Some false; ticked = record { after = subst (IsTick t w.ledger.state) same it.tick; ledger = refl }; answered = refl; rest = refl };
  }
  ticked it (inr changed) true room =
      let left : LedgerRows = entered w.ledger Scheduler Tick t it.new in
      record {
        answer = Some (tick_told left (Some true));
        next = record w { ledger = left; holder = None };
        ready = it.ready;
        moves = record { told = Some true; ticked = record { room = room; after = it.tick; changed = changed; ledger = refl }; answered = refl; rest = refl };
      }
  ticked it (inr changed) false full = record {
    answer = Some (tick_told w.ledger None);
    next = record w { holder = None };
    ready = ready;
    moves = record { told = None; ticked = record { full = full; next = it.new; after = it.tick; changed = changed; ledger = refl }; answered = refl; rest = refl };
  }

  tick_taken : IsTaken w (step.Tick t)
  tick_taken =
      let it = has_ticked t w.ledger.state ready in
      ticked it (changed_known t w.ledger.state it.new it.dags) (has_room w.ledger.audit) refl

-- ---- lists of steps

steps_taken : (w : World) (steps : List Step) → IsReady w.ledger.state → (answers : List (Option Shown)) × ((last : World) × IsRun w steps answers last)
steps_taken w [] ready = ([], (w, refl))
steps_taken w (s ∷ steps) ready =
    let one = step_taken w ready (λ t. tick_taken w t ready) s in
    let rest = steps_taken one.next steps one.ready in
    (one.answer ∷ rest.0, (rest.1.0, (one.next, one.ready.is, one.moves, rest.1.1)))

pub steps_have_answers : StepsHaveAnswers
steps_have_answers opening steps ready =
    let run = steps_taken (opening_world opening) steps ready in (run.0, (run.1.0, (ready.is, run.1.1)))
