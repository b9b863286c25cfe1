-- After a tick no pool holds more than the greater of its slots and of what it held before.
use Rattle.std.proofs.Common.{◌≡◌, ◌<◌, ◌+◌, ◌∙◌, ℕ, List, [], ◌∷◌, ◌++◌, length, map, get_or, refl, sym, ap, arith, suc, Bool, true, false, cond, ◌&&◌, ◌||◌, ⊎_elim}
use Rattle.std.specs.Prelude.{filter, zip, MatchBool, None}
use Rattle.std.specs.List.{enumerate_from, AllZip, AllByRecursion, list_any}
use Rattle.std.proofs.lemmas.Bool.{cases_Bool, true≢false}
use Rattle.std.proofs.lemmas.List.Sums.{sum_by-cons}
use Rattle.af_graph.specs.Graph.{same_name}
use Rattle.af_graph.specs.declared.task_spec.TaskSpec.{TaskSpec}
use Rattle.af_graph.specs.declared.task_state.TaskState.{TaskState}
use Rattle.af_graph.specs.declared.task_state.TaskState.TheVariants as task_state
use Rattle.af_graph.specs.declared.verdict.Verdict.{Verdict}
use Rattle.af_graph.specs.declared.verdict.Verdict.TheVariants as verdict
use Rattle.af_pool.specs.Occupants.{OccupantRow, holds_slots, occupies}
use Rattle.af_runs.specs.declared.instance.Instance.{Instance}
use Rattle.af_runs.specs.declared.run.Run.{Run}
use Rattle.af_sched.specs.Choosing.{held_of}
use Rattle.af_sched.specs.Placed.{Placed, placed_in}
use Rattle.af_sched.specs.Queue.{occupied, occupant_of, queued_instance, with_queued}
use Rattle.af_runs.specs.Instances.{new_instances}
use Rattle.af_sched.specs.Finish.{ends, ended_run, finished_run}
use Rattle.af_sched.specs.Moves.{finished_runs}
use Rattle.af_sched.specs.Start.{starts, started_run, started_runs}
use Rattle.af_sched.specs.Settle.{SettlesIfLive, SettlesRun, decided_instance, is_live, settled_in, may_retry}
use Rattle.af_sched.specs.State.{tasks_of}
use Rattle.af_sched.specs.declared.dag_row.DagRow.{DagRow}
use Rattle.af_sched.proofs.PassingLemmas.{given}
use Rattle.af_sched.proofs.SeatLemmas.{queued_at}

-- ---- what the runs hold, task by task
pub hold : List ℕ → List TaskSpec → List Instance → ℕ
hold pool [] xs = 0
hold pool (t ∷ ts) [] = 0
hold pool (t ∷ ts) (x ∷ xs) = cond (same_name t.pool pool && holds_slots x.state) t.pool_slots 0 + hold pool ts xs

abbrev pub hold_run : List DagRow → List ℕ → Run → ℕ
hold_run dags pool run = hold pool (tasks_of dags run.dag_id) run.instances

held_cons : (p : Placed) (ps : List Placed) (pool : List ℕ) → held_of (p ∷ ps) pool ≡ cond (same_name p.task.pool pool && holds_slots p.instance.state) p.task.pool_slots 0 + held_of ps pool
held_cons p ps pool =
    ⊎_elim
    (λ (is : occupies pool (occupant_of p) ≡ true). rw is (sum_by-cons (λ (o : OccupantRow). o.slots) (occupant_of p) (filter (occupies pool) (map occupant_of ps))))
    (λ (not : occupies pool (occupant_of p) ≡ false). rw not (let zero_plus : held_of ps pool ≡ 0 + held_of ps pool = omega arith in zero_plus))
    (cases_Bool (occupies pool (occupant_of p)))

abbrev pub rows : Run → ℕ → List TaskSpec → List Instance → List Placed
rows run n tasks instances = map (λ row. record { run = run; place = row.0; task = row.1.0; instance = row.1.1 }) (enumerate_from n (zip tasks instances))

held_rows : (run : Run) (n : ℕ) (tasks : List TaskSpec) (instances : List Instance) (ys : List Placed) (pool : List ℕ) → held_of (rows run n tasks instances ++ ys) pool ≡ hold pool tasks instances + held_of ys pool
unfolding hold
held_rows run n [] xs ys pool = omega arith
held_rows run n (t ∷ ts) [] ys pool = omega arith
held_rows run n (t ∷ ts) (x ∷ xs) ys pool =
    let here = held_cons (record { run = run; place = n; task = t; instance = x }) (rows run (n + 1) ts xs ++ ys) pool in
    let rest = held_rows run (n + 1) ts xs ys pool in
    here ∙ (omega (arith, rest))

pub occupied_cons : (dags : List DagRow) (run : Run) (runs : List Run) (pool : List ℕ) → occupied dags (run ∷ runs) pool ≡ hold_run dags pool run + occupied dags runs pool
occupied_cons dags run runs pool = held_rows run 0 (tasks_of dags run.dag_id) run.instances (placed_in dags runs) pool

pub occupied_same : (dags : List DagRow) (pool : List ℕ) (xs ys : List Run) → AllZip (λ x y. hold_run dags pool y ≡ hold_run dags pool x) xs ys → occupied dags ys pool ≡ occupied dags xs pool
occupied_same dags pool [] [] all = refl
occupied_same dags pool [] (y ∷ ys) all = absurd all
occupied_same dags pool (x ∷ xs) [] all = absurd all
occupied_same dags pool (x ∷ xs) (y ∷ ys) all =
    occupied_cons dags y ys pool ∙ (λ i. all.0 i + occupied_same dags pool xs ys all.1 i) ∙ sym (occupied_cons dags x xs pool)

-- ---- the phases that leave what is held
zip_map : (R : Run → Run → Type 0) (f : Run → Run) → ((x : Run) → R x (f x)) → (xs : List Run) → AllZip R xs (map f xs)
zip_map R f each [] = tt
zip_map R f each (x ∷ xs) = (each x, zip_map R f each xs)

hold_cond : (dags : List DagRow) (pool : List ℕ) (b : Bool) (one other : Run) → hold_run dags pool one ≡ hold_run dags pool other → hold_run dags pool (cond b one other) ≡ hold_run dags pool other
hold_cond dags pool true one other same = same
hold_cond dags pool false one other same = refl

pub occupied_started : (t : ℕ) (dags : List DagRow) (runs : List Run) (pool : List ℕ) → occupied dags (started_runs t dags runs) pool ≡ occupied dags runs pool
occupied_started t dags runs pool =
    occupied_same dags pool runs (started_runs t dags runs) (zip_map (λ x y. hold_run dags pool y ≡ hold_run dags pool x) (λ run. cond (starts dags runs run) (started_run t run) run) (λ run. hold_cond dags pool (starts dags runs run) (started_run t run) run refl) runs)

pub occupied_finished : (t : ℕ) (dags : List DagRow) (runs : List Run) (pool : List ℕ) → occupied dags (finished_runs t dags runs) pool ≡ occupied dags runs pool
occupied_finished t dags runs pool =
    occupied_same dags pool runs (finished_runs t dags runs) (zip_map (λ x y. hold_run dags pool y ≡ hold_run dags pool x) (λ run. finished_run t (tasks_of dags run.dag_id) run) (λ run. hold_cond dags pool (ends run) (ended_run t (tasks_of dags run.dag_id) run) run refl) runs)

decided_holds : (t : ℕ) (v : Verdict) (x : Instance) → holds_slots x.state ≡ false → holds_slots (decided_instance t v x).state ≡ false
decided_holds t verdict.Ready x idle = refl
decided_holds t verdict.UpstreamFailed x idle = refl
decided_holds t verdict.Skipped x idle = refl
decided_holds t verdict.Wait x idle = idle

retried_holds : (t : ℕ) (b : Bool) (x : Instance) → holds_slots x.state ≡ false → holds_slots (cond b (record x { state = task_state.Scheduled; retry_at = None }) x).state ≡ false
retried_holds t true x idle = refl
retried_holds t false x idle = idle

settled_holds_in : (s : TaskState) (t : ℕ) (v : Verdict) (x : Instance) → x.state ≡ s → holds_slots (settled_in s t v x).state ≡ holds_slots x.state
settled_holds_in task_state.NoStatus t v x is = let idle : holds_slots x.state ≡ false = ap holds_slots is in decided_holds t v x idle ∙ sym idle
settled_holds_in task_state.UpForRetry t v x is = let idle : holds_slots x.state ≡ false = ap holds_slots is in retried_holds t (may_retry t x) x idle ∙ sym idle
settled_holds_in task_state.Scheduled t v x is = refl
settled_holds_in task_state.Queued t v x is = refl
settled_holds_in task_state.Running t v x is = refl
settled_holds_in task_state.Success t v x is = refl
settled_holds_in task_state.Failed t v x is = refl
settled_holds_in task_state.UpstreamFailed t v x is = refl
settled_holds_in task_state.Skipped t v x is = refl

hold_agree : (pool : List ℕ) (ts : List TaskSpec) (xs ys : List Instance) → length ys ≡ length xs → ((k : ℕ) (d : Instance) → k < length xs → holds_slots (get_or ys k d).state ≡ holds_slots (get_or xs k d).state) → hold pool ts ys ≡ hold pool ts xs
unfolding hold
hold_agree pool [] xs ys long same = refl
hold_agree pool (t ∷ ts) [] [] long same = refl
hold_agree pool (t ∷ ts) [] (y ∷ ys) long same = absurd (omega arith)
hold_agree pool (t ∷ ts) (x ∷ xs) [] long same = absurd (omega arith)
hold_agree pool (t ∷ ts) (x ∷ xs) (y ∷ ys) long same =
    let rest = hold_agree pool ts xs ys (omega arith) (λ k d inside. same (suc k) d (omega arith)) in
    λ i. cond (same_name t.pool pool && same 0 x (omega arith) i) t.pool_slots 0 + rest i

hold_settles : (t : ℕ) (dags : List DagRow) (pool : List ℕ) (x y : Run) (b : Bool) → MatchBool b (SettlesRun t (tasks_of dags x.dag_id) x y) (y ≡ x) → hold_run dags pool y ≡ hold_run dags pool x
hold_settles t dags pool x y false is = ap (hold_run dags pool) is
hold_settles t dags pool x y true is =
    let same : y.dag_id ≡ x.dag_id = ap (λ (run : Run). run.dag_id) is.rest in
    ap (λ (id : List ℕ). hold pool (tasks_of dags id) y.instances) same
    ∙ hold_agree pool (tasks_of dags x.dag_id) x.instances y.instances is.instances.count (λ k d inside. ap (λ (i : Instance). holds_slots i.state) (is.instances.each k d inside) ∙ settled_holds_in (get_or x.instances k d).state t _ (get_or x.instances k d) refl)

pub occupied_settled : (t : ℕ) (dags : List DagRow) (pool : List ℕ) (xs ys : List Run) → AllZip (SettlesIfLive t dags) xs ys → occupied dags ys pool ≡ occupied dags xs pool
occupied_settled t dags pool xs ys all = occupied_same dags pool xs ys (go xs ys all)
  where
    go : (xs ys : List Run) → AllZip (SettlesIfLive t dags) xs ys → AllZip (λ x y. hold_run dags pool y ≡ hold_run dags pool x) xs ys
    go [] [] all = tt
    go [] (y ∷ ys) all = absurd all
    go (x ∷ xs) [] all = absurd all
    go (x ∷ xs) (y ∷ ys) all = (hold_settles t dags pool x y (is_live dags x) all.0, go xs ys all.1)

-- ---- new runs hold nothing
pub hold_new : (pool : List ℕ) (ts us : List TaskSpec) → hold pool ts (new_instances us) ≡ 0
unfolding hold
hold_new pool [] us = refl
hold_new pool (t ∷ ts) [] = refl
hold_new pool (t ∷ ts) (u ∷ us) =
    let rest = hold_new pool ts us in
    ⊎_elim (λ (is : same_name t.pool pool ≡ true). rw is (omega (arith, rest))) (λ (not : same_name t.pool pool ≡ false). rw not (omega (arith, rest))) (cases_Bool (same_name t.pool pool))

-- ---- nor do runs of which no instance is queued or running
pub none_held : (pool : List ℕ) (tasks : List TaskSpec) (instances : List Instance) → list_any (λ instance. holds_slots instance.state) instances ≡ false → hold pool tasks instances ≡ 0
unfolding hold
none_held pool [] instances none = refl
none_held pool (t ∷ ts) [] none = refl
none_held pool (t ∷ ts) (x ∷ xs) none =
    let parts = neither (holds_slots x.state) (list_any (λ instance. holds_slots instance.state) xs) none in
    let rest = none_held pool ts xs parts.1 in
    let here : cond (same_name t.pool pool && holds_slots x.state) t.pool_slots 0 ≡ 0 = ap (λ (b : Bool). cond b t.pool_slots 0) (both_fail (same_name t.pool pool) (holds_slots x.state) parts.0) in
    omega (arith, here, rest)
  where
    neither : (a b : Bool) → (a || b) ≡ false → (a ≡ false) × (b ≡ false)
    neither true b fails = absurd (true≢false fails)
    neither false b fails = (refl, fails)

    both_fail : (a b : Bool) → b ≡ false → (a && b) ≡ false
    both_fail true b fails = fails
    both_fail false b fails = refl

pub occupied_push : (dags : List DagRow) (runs : List Run) (run : Run) (pool : List ℕ) → hold_run dags pool run ≡ 0 → occupied dags (runs ++ run ∷ []) pool ≡ occupied dags runs pool
occupied_push dags [] run pool none = occupied_cons dags run [] pool ∙ (omega (arith, none))
occupied_push dags (x ∷ runs) run pool none =
    occupied_cons dags x (runs ++ run ∷ []) pool ∙ ap (λ n. hold_run dags pool x + n) (occupied_push dags runs run pool none) ∙ sym (occupied_cons dags x runs pool)

-- ---- what is queued is held
given_cons : (q : Placed → Bool) (p : Placed) (ps : List Placed) → given q (p ∷ ps) ≡ cond (q p) p.task.pool_slots 0 + given q ps
given_cons q p ps =
    ⊎_elim
    (λ (is : q p ≡ true). rw is (sum_by-cons (λ (o : OccupantRow). o.slots) (occupant_of p) (map occupant_of (filter q ps))))
    (λ (not : q p ≡ false). rw not (let zero_plus : given q ps ≡ 0 + given q ps = omega arith in zero_plus))
    (cases_Bool (q p))

queued_holds : (b m : Bool) (x : Instance) (n : ℕ) → (b ≡ true → holds_slots x.state ≡ false) → cond (m && holds_slots (cond b (queued_instance x) x).state) n 0 ≡ cond (m && holds_slots x.state) n 0 + cond (b && m) n 0
queued_holds true true x n idle = rw (idle refl) (omega arith)
queued_holds true false x n idle = omega arith
queued_holds false m x n idle = omega arith

module _ (q : ℕ → ℕ → Bool) (pool : List ℕ) where
  abbrev pub queues : Placed → Bool
  queues o = q o.run.number o.place && same_name o.task.pool pool

  abbrev pub Idle : List Placed → Type 0
  Idle ps = AllByRecursion (λ o. q o.run.number o.place ≡ true → holds_slots o.instance.state ≡ false) ps

  hold_queued : (run : Run) (n : ℕ) (ts : List TaskSpec) (xs : List Instance) (ys : List Placed) → Idle (rows run n ts xs ++ ys) → (hold pool ts (queued_at (q run.number) n xs) + given queues ys ≡ hold pool ts xs + given queues (rows run n ts xs ++ ys)) × Idle ys
  unfolding hold
  hold_queued run n [] xs ys idle = (refl, idle)
  hold_queued run n (t ∷ ts) [] ys idle = (refl, idle)
  hold_queued run n (t ∷ ts) (x ∷ xs) ys idle =
      let rest = hold_queued run (n + 1) ts xs ys idle.1 in
      let here = queued_holds (q run.number n) (same_name t.pool pool) x t.pool_slots idle.0 in
      let more = given_cons queues (record { run = run; place = n; task = t; instance = x }) (rows run (n + 1) ts xs ++ ys) in
      (omega (arith, rest.0, here, more), rest.1)

  pub occupied_queued : (dags : List DagRow) (runs : List Run) → Idle (placed_in dags runs) → occupied dags (map (λ run. with_queued (q run.number) run) runs) pool ≡ occupied dags runs pool + given queues (placed_in dags runs)
  occupied_queued dags [] idle = refl
  occupied_queued dags (run ∷ runs) idle =
      let here = hold_queued run 0 (tasks_of dags run.dag_id) run.instances (placed_in dags runs) idle in
      let rest = occupied_queued dags runs here.1 in
      let new = occupied_cons dags (with_queued (q run.number) run) (map (λ r. with_queued (q r.number) r) runs) pool in
      let old = occupied_cons dags run runs pool in
      omega (arith, here.0, rest, new, old)
