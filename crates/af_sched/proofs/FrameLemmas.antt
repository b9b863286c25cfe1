-- The phases of a tick at a list of runs are those at its busy ones: the others stay between them as they are.
use Rattle.std.proofs.Common.{◌≡◌, ◌+◌, ◌∙◌, ℕ, List, [], ◌∷◌, ◌++◌, map, refl, sym, ap, subst, arith, zero, suc, Bool, true, false, ◌&&◌, ◌==◌, ⊎_elim, ◌⊎◌, Option, Some, None}
use Rattle.std.specs.Prelude.{Contains, filter, nat_le, ◌||◌, zip}
use Rattle.std.specs.List.{AllZip, AllByRecursion, enumerate_from}
use Rattle.std.specs.List.Sorted.{IsStrictlySortedBy}
use Rattle.std.specs.Ordering.{nat_cmp}
use Rattle.std.proofs.lemmas.Bool.Decides.{nat_tests}
use Rattle.std.proofs.lemmas.List.Elements.{Contains-append_left, Contains-append_right, Contains-append_cases, filter-append}
use Rattle.af_graph.specs.Graph.{same_name}
use Rattle.af_graph.specs.States.{same_state}
use Rattle.af_graph.specs.declared.task_spec.TaskSpec.{TaskSpec}
use Rattle.af_graph.specs.declared.task_state.TaskState.TheVariants as task_state
use Rattle.af_pool.specs.Occupants.{slots_of_all}
use Rattle.af_pool.specs.Pools.{slots_of}
use Rattle.af_pool.specs.declared.pool.Pool.{Pool}
use Rattle.af_runs.specs.declared.instance.Instance.{Instance}
use Rattle.af_runs.specs.declared.run.Run.{Run}
use Rattle.af_runs.specs.Busy.{is_busy}
use Rattle.af_sched.specs.Moves.{MovesOn}
use Rattle.af_sched.specs.Placed.{Placed, placed_in, placed_of, comes_before}
use Rattle.af_sched.specs.Queue.{IsQueueing, QueuesRuns, finds_room, may_queue, occupant_of, occupied, queued_earlier, with_queued}
use Rattle.af_sched.specs.Settle.{SettlesIfLive, is_live}
use Rattle.af_sched.specs.Start.{started_runs}
use Rattle.af_sched.specs.State.{StateRows, is_unpaused, tasks_of}
use Rattle.af_sched.specs.declared.dag_row.DagRow.{DagRow}
use Rattle.af_sched.proofs.KeyLemmas.{keeps_settled_too, numbers_same}
use Rattle.af_sched.proofs.QueueLemmas.{filter-agree}
use Rattle.af_sched.proofs.SeatLemmas.{queued_at-none}
use Rattle.af_sched.proofs.SlotsLemmas.{hold_run, none_held, occupied_cons}
use Rattle.af_sched.proofs.FillLemmas.{fill, AllOf, AllOf-both, Idle, idle_holds, idle_no_running, both_no, started_fill, finished_fill, settles_fill, numbers, is_one_of, apart, Apart, apart_from}

-- ---- what instances of the runs that stay are to pools
pub occupied_fill : (dags : List DagRow) (pool : List ℕ) (frame : List (Option Run)) (work : List Run) → Idle frame → occupied dags (fill frame work) pool ≡ occupied dags work pool
occupied_fill dags pool [] work idle = refl
occupied_fill dags pool (Some run ∷ frame) work idle =
    let cons = occupied_cons dags run (fill frame work) pool in
    let none = none_held pool (tasks_of dags run.dag_id) run.instances (idle_holds run idle.0) in
    let rest = occupied_fill dags pool frame work idle.1 in
    omega (arith, cons, none, rest)
occupied_fill dags pool (None ∷ frame) [] idle = occupied_fill dags pool frame [] idle
occupied_fill dags pool (None ∷ frame) (run ∷ work) idle =
    occupied_cons dags run (fill frame work) pool ∙ ap (λ n. hold_run dags pool run + n) (occupied_fill dags pool frame work idle) ∙ sym (occupied_cons dags run work pool)

-- ---- the instances of the runs in a frame
abbrev pub PlacedOf : List DagRow → (Placed → Type 0) → Run → Type 0
PlacedOf dags P run = (placed : Placed) → Contains (placed_of (tasks_of dags run.dag_id) run) placed → P placed

module _ (dags : List DagRow) where
  pub placed_fill : (P : Placed → Type 0) (frame : List (Option Run)) (work : List Run) → AllOf (PlacedOf dags P) frame → ((placed : Placed) → Contains (placed_in dags work) placed → P placed) → (placed : Placed) → Contains (placed_in dags (fill frame work)) placed → P placed
  placed_fill P [] work stay others placed has = others placed has
  placed_fill P (Some run ∷ frame) work stay others placed has =
      ⊎_elim (stay.0 placed) (placed_fill P frame work stay.1 others placed)
      (Contains-append_cases (placed_of (tasks_of dags run.dag_id) run) (placed_in dags (fill frame work)) placed has)
  placed_fill P (None ∷ frame) [] stay others placed has = placed_fill P frame [] stay others placed has
  placed_fill P (None ∷ frame) (run ∷ work) stay others placed has =
      ⊎_elim
      (λ (here : Contains (placed_of (tasks_of dags run.dag_id) run) placed). others placed (Contains-append_left (placed_of (tasks_of dags run.dag_id) run) (placed_in dags work) placed here))
      (placed_fill P frame work stay (λ p more. others p (Contains-append_right (placed_of (tasks_of dags run.dag_id) run) (placed_in dags work) p more)) placed)
      (Contains-append_cases (placed_of (tasks_of dags run.dag_id) run) (placed_in dags (fill frame work)) placed has)

  nothing : (test : Placed → Bool) (xs : List Placed) → ((p : Placed) → Contains xs p → test p ≡ false) → filter test xs ≡ []
  nothing test [] fails = refl
  nothing test (x ∷ xs) fails =
      rw (fails x (zero, omega arith, refl)) (nothing test xs (λ p has. fails p (suc has.0, omega (arith, has.1), has.2)))

  filter_fill : (test : Placed → Bool) (frame : List (Option Run)) (work : List Run) → AllOf (PlacedOf dags (λ p. test p ≡ false)) frame → filter test (placed_in dags (fill frame work)) ≡ filter test (placed_in dags work)
  filter_fill test [] work stay = refl
  filter_fill test (Some run ∷ frame) work stay =
      filter-append test (placed_of (tasks_of dags run.dag_id) run) (placed_in dags (fill frame work))
      ∙ (λ i. nothing test (placed_of (tasks_of dags run.dag_id) run) stay.0 i ++ filter_fill test frame work stay.1 i)
  filter_fill test (None ∷ frame) [] stay = filter_fill test frame [] stay
  filter_fill test (None ∷ frame) (run ∷ work) stay =
      filter-append test (placed_of (tasks_of dags run.dag_id) run) (placed_in dags (fill frame work))
      ∙ ap (λ (ps : List Placed). filter test (placed_of (tasks_of dags run.dag_id) run) ++ ps) (filter_fill test frame work stay)
      ∙ sym (filter-append test (placed_of (tasks_of dags run.dag_id) run) (placed_in dags work))

  in_rows : (run : Run) (n : ℕ) (tasks : List TaskSpec) (instances : List Instance) (placed : Placed) → Contains (map (λ row. record { run = run; place = row.0; task = row.1.0; instance = row.1.1 }) (enumerate_from n (zip tasks instances))) placed → run ≡ placed.run
  in_rows run n [] instances placed has = absurd (omega (arith, has.1))
  in_rows run n (t ∷ ts) [] placed has = absurd (omega (arith, has.1))
  in_rows run n (t ∷ ts) (x ∷ xs) placed (zero, low, is) = ap (λ (p : Placed). p.run) is
  in_rows run n (t ∷ ts) (x ∷ xs) placed (suc k, low, is) = in_rows run (n + 1) ts xs placed (k, omega arith, is)

  run_of_placed : (run : Run) (placed : Placed) → Contains (placed_of (tasks_of dags run.dag_id) run) placed → run ≡ placed.run
  run_of_placed run placed has = in_rows run 0 (tasks_of dags run.dag_id) run.instances placed has

  number_of_placed : (work : List Run) (placed : Placed) → Contains (placed_in dags work) placed → is_one_of (numbers work) placed.run.number ≡ true
  number_of_placed [] placed has = absurd (omega (arith, has.1))
  number_of_placed (run ∷ work) placed has =
      ⊎_elim
      (λ (here : Contains (placed_of (tasks_of dags run.dag_id) run) placed). ap (λ (b : Bool). b || is_one_of (numbers work) placed.run.number) (same_number run placed here))
      (λ (more : Contains (placed_in dags work) placed). or_too (run.number == placed.run.number) (is_one_of (numbers work) placed.run.number) (number_of_placed work placed more))
      (Contains-append_cases (placed_of (tasks_of dags run.dag_id) run) (placed_in dags work) placed has)
    where
      equal : (n : ℕ) → (n == n) ≡ true
      equal n = grind (arith, nat_tests)

      same_number : (run : Run) (placed : Placed) → Contains (placed_of (tasks_of dags run.dag_id) run) placed → (run.number == placed.run.number) ≡ true
      same_number run placed here = ap (λ (other : Run). run.number == other.number) (sym (run_of_placed run placed here)) ∙ equal run.number

      or_too : (a b : Bool) → b ≡ true → (a || b) ≡ true
      or_too true b is = refl
      or_too false b is = is

-- ---- the fourth phase
module _ (dags : List DagRow) (pools : List Pool) (frame : List (Option Run)) (idle : Idle frame) (work : List Run) (apart : Apart frame (numbers work)) (q : ℕ → ℕ → Bool) where
  -- an instance is queued where it is so of the others, and its run is one of them
  abbrev queued_of : ℕ → ℕ → Bool
  queued_of number place = is_one_of (numbers work) number && q number place

  abbrev with_new : Run → Run
  with_new run = with_queued (queued_of run.number) run

  abbrev with_old : Run → Run
  with_old run = with_queued (q run.number) run

  stays_queued : (run : Run) → is_one_of (numbers work) run.number ≡ false → with_new run ≡ run
  stays_queued run other =
      (λ i. with_queued (λ place. other i && q run.number place) run)
      ∙ ap (λ (xs : List Instance). record run { instances = xs }) (queued_at-none (λ place. false) 0 run.instances (λ i within. refl))

  queued_so : (run : Run) → is_one_of (numbers work) run.number ≡ true → with_new run ≡ with_old run
  queued_so run one = λ i. with_queued (λ place. one i && q run.number place) run

  map_frame : (rest : List (Option Run)) (runs : List Run) → AllOf (λ run. is_one_of (numbers work) run.number ≡ false) rest → AllByRecursion (λ run. is_one_of (numbers work) run.number ≡ true) runs → map with_new (fill rest runs) ≡ fill rest (map with_old runs)
  map_frame [] [] stay ones = refl
  map_frame [] (run ∷ runs) stay ones = λ i. queued_so run ones.0 i ∷ map_frame [] runs stay ones.1 i
  map_frame (Some run ∷ rest) runs stay ones = λ i. stays_queued run stay.0 i ∷ map_frame rest runs stay.1 ones i
  map_frame (None ∷ rest) [] stay ones = map_frame rest [] stay ones
  map_frame (None ∷ rest) (run ∷ runs) stay ones = λ i. queued_so run ones.0 i ∷ map_frame rest runs stay ones.1 i

  abbrev Exact : Placed → Type 0
  Exact placed = queued_of placed.run.number placed.place ≡ (may_queue dags placed && finds_room dags (fill frame work) pools queued_of placed)

  stays_one : (run : Run) → is_busy run ≡ false → is_one_of (numbers work) run.number ≡ false → PlacedOf dags Exact run
  stays_one run still other placed has =
      let same : run ≡ placed.run = run_of_placed dags run placed has in
      let no_number : is_one_of (numbers work) placed.run.number ≡ false = ap (λ (r : Run). is_one_of (numbers work) r.number) (sym same) ∙ other in
      let no_live : is_live dags placed.run ≡ false = ap (λ (r : Run). is_live dags r) (sym same) ∙ ap (λ (b : Bool). b && is_unpaused dags run.dag_id) (idle_no_running run still) in
      ap (λ (b : Bool). b && q placed.run.number placed.place) no_number
      ∙ sym (ap (λ (b : Bool). b && finds_room dags (fill frame work) pools queued_of placed) (both_no (same_state placed.instance.state task_state.Scheduled) (is_live dags placed.run) no_live))

  stay : (rest : List (Option Run)) → Idle rest → AllOf (λ run. is_one_of (numbers work) run.number ≡ false) rest → AllOf (PlacedOf dags Exact) rest
  stay rest still other = AllOf-both (λ run. is_busy run ≡ false) (λ run. is_one_of (numbers work) run.number ≡ false) (PlacedOf dags Exact) stays_one rest still other

  abbrev earlier_new : Placed → Placed → Bool
  earlier_new placed other = queued_of other.run.number other.place && same_name other.task.pool placed.task.pool && comes_before other placed

  abbrev earlier_old : Placed → Placed → Bool
  earlier_old placed other = q other.run.number other.place && same_name other.task.pool placed.task.pool && comes_before other placed

  not_earlier : (placed : Placed) (run : Run) → is_one_of (numbers work) run.number ≡ false → PlacedOf dags (λ other. earlier_new placed other ≡ false) run
  not_earlier placed run no_number other has =
      let same : run ≡ other.run = run_of_placed dags run other has in
      ap (λ (b : Bool). (b && q other.run.number other.place) && same_name other.task.pool placed.task.pool && comes_before other placed) (ap (λ (r : Run). is_one_of (numbers work) r.number) (sym same) ∙ no_number)

  same_earlier : (placed other : Placed) → Contains (placed_in dags work) other → earlier_new placed other ≡ earlier_old placed other
  same_earlier placed other has =
      ap (λ (b : Bool). (b && q other.run.number other.place) && same_name other.task.pool placed.task.pool && comes_before other placed) (number_of_placed dags work other has)

  earlier_fill : (placed : Placed) → queued_earlier queued_of (placed_in dags (fill frame work)) placed ≡ queued_earlier q (placed_in dags work) placed
  earlier_fill placed =
      ap (λ (xs : List Placed). slots_of_all (map occupant_of xs))
      (filter_fill dags (earlier_new placed) frame work (AllOf-both (λ run. is_one_of (numbers work) run.number ≡ false) (λ run. is_one_of (numbers work) run.number ≡ false) (PlacedOf dags (λ other. earlier_new placed other ≡ false)) (λ run one _. not_earlier placed run one) frame apart apart)
      ∙ filter-agree (earlier_new placed) (earlier_old placed) (placed_in dags work) (λ k d inside. same_earlier placed (Rattle.std.proofs.Common.get_or (placed_in dags work) k d) (k, inside, Rattle.af_sched.proofs.StartLemmas.get_or-same (placed_in dags work) k _ d inside)))

  others : IsQueueing dags work pools q → (placed : Placed) → Contains (placed_in dags work) placed → Exact placed
  others is placed has =
      ap (λ (b : Bool). b && q placed.run.number placed.place) (number_of_placed dags work placed has)
      ∙ is.exact placed has
      ∙ sym (λ i. may_queue dags placed && nat_le (placed.task.pool_slots + occupied_fill dags placed.task.pool frame work idle i + earlier_fill placed i) (slots_of pools placed.task.pool))

  pub queueing_fill : IsQueueing dags work pools q → IsQueueing dags (fill frame work) pools queued_of
  queueing_fill is = record { exact = placed_fill dags Exact frame work (stay frame idle apart) (others is) }

one_of_each : (runs more : List Run) → AllByRecursion (λ run. is_one_of (numbers more) run.number ≡ true) runs → (before : Run) → AllByRecursion (λ run. is_one_of (before.number ∷ numbers more) run.number ≡ true) runs
one_of_each [] more ones before = tt
one_of_each (run ∷ runs) more ones before = (or_true (before.number == run.number) (is_one_of (numbers more) run.number) ones.0, one_of_each runs more ones.1 before)
  where
    or_true : (a b : Bool) → b ≡ true → (a || b) ≡ true
    or_true true b is = refl
    or_true false b is = is

numbers_of : (runs : List Run) → AllByRecursion (λ run. is_one_of (numbers runs) run.number ≡ true) runs
numbers_of [] = tt
numbers_of (run ∷ runs) = (ap (λ (b : Bool). b || is_one_of (numbers runs) run.number) (equal run.number), one_of_each runs runs (numbers_of runs) run)
  where
    equal : (n : ℕ) → (n == n) ≡ true
    equal n = grind (arith, nat_tests)

pub queues_fill : (dags : List DagRow) (pools : List Pool) (frame : List (Option Run)) → Idle frame → (old new : List Run) → Apart frame (numbers old) → QueuesRuns dags pools old new → QueuesRuns dags pools (fill frame old) (fill frame new)
queues_fill dags pools frame idle old new apart queues next variables =
    let told = queues next variables in
    let runs : new ≡ map (λ run. with_queued (told.is_queued run.number) run) old = ap (λ (s : StateRows). s.runs) told.state in
    record {
      is_queued = λ number place. is_one_of (numbers old) number && told.is_queued number place;
      queueing = queueing_fill dags pools frame idle old apart told.is_queued told.queueing;
      state = λ i. record { dags = dags; runs = (ap (fill frame) runs ∙ sym (map_frame dags pools frame idle old apart told.is_queued frame old apart (numbers_of old))) i; next_run = next; pools = pools; variables = variables };
    }

-- ---- the four phases
pub moves_fill : (t : ℕ) (dags : List DagRow) (pools : List Pool) (frame : List (Option Run)) → Idle frame → (old new : List Run) → IsStrictlySortedBy nat_cmp (numbers (fill frame old)) → MovesOn t dags pools old new → MovesOn t dags pools (fill frame old) (fill frame new)
moves_fill t dags pools frame idle old new order moves =
    let same_numbers : numbers moves.settled ≡ numbers old = numbers_same old moves.settled (keeps_settled_too t dags old moves.settled moves.settles) in
    record {
      settled = fill frame moves.settled;
      queued = fill frame moves.queued;
      settles = subst (λ (runs : List Run). AllZip (SettlesIfLive t dags) runs (fill frame moves.settled)) (sym (started_fill t dags frame idle old)) (settles_fill t dags frame idle (started_runs t dags old) moves.settled moves.settles);
      queues = queues_fill dags pools frame idle moves.settled moves.queued (subst (Apart frame) (sym same_numbers) (apart_from frame old order)) moves.queues;
      ends = ap (fill frame) moves.ends ∙ sym (finished_fill t dags frame idle moves.queued);
    }
