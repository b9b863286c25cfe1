-- Backfills: the free runs of a range are counted, a plan is told as what it leaves, and what is left is what the laws say.
use Rattle.std.proofs.Common.{◌≡◌, ◌∙◌, ◌<◌, ◌≤◌, ◌+◌, ◌++◌, ◌&&◌, ℕ, Bool, true, false, cond, not, List, [], ◌∷◌, length, map, refl, sym, ap, subst, arith, zero, suc, drop, length-append}
use Rattle.std.specs.Prelude.{◌↔◌, All, Option, Some, None, Result, Ok, Err, is_some, filter, nat_le, nat_lt, ok_or, unwrap_or, if◌then◌else◌}
use Rattle.std.proofs.Math.Seq.{drop-append_seam}
use Rattle.std.proofs.lemmas.Bool.{and_parts, cond-true, cond-false, true≢false}
use Rattle.std.proofs.lemmas.Bool.Decides.{nat_tests}
use Rattle.std.proofs.lemmas.List.{append-nil}
use Rattle.std.proofs.lemmas.List.Elements.{All-map}
use Rattle.serde_json.specs.Written.{compact_text}
use Rattle.af_graph.specs.Schedules.{is_scheduled}
use Rattle.af_graph.specs.declared.dag_spec.DagSpec.{DagSpec}
use Rattle.af_graph.specs.declared.schedule.Schedule.{Schedule}
use Rattle.af_runs.specs.Runs.{has_room, is_of, is_taken, queued_run}
use Rattle.af_runs.specs.declared.new_run.NewRun.{NewRun}
use Rattle.af_runs.specs.declared.run.Run.{Run}
use Rattle.af_sched.specs.Backfills.{Backfills, backfill_id, backfill_of, backfill_of_row, backfill_run, backfill_runs, backfilled, is_free, points_within}
use Rattle.af_sched.specs.Plan.{Fits, PlanRows, applied}
use Rattle.af_sched.specs.State.{StateRows, StateWithRoom}
use Rattle.af_sched.specs.State as sched
use Rattle.af_sched.specs.declared.dag_row.DagRow.{DagRow}
use Rattle.af_sched.proofs.BackfillLawLemmas.{backfill_fills}
use Rattle.af_sched.proofs.BackfillLemmas.{AreOf, Grows, grows_by, none_free, one_free}
use Rattle.af_sched.proofs.BackfillPlanLemmas.{found_is}
use Rattle.af_base.specs.Readings.{◌>>=◌}
use Rattle.std.specs.Option.{option_map_or}
use Rattle.af_ops.specs.declared.answer.OpFault.{OpFault}
use Rattle.af_ops.specs.declared.answer.OpFault.TheVariants.{NoSchedule, NoSuchDag, OutOfMemory, TooMany}
use Rattle.af_ops.specs.declared.backfill.Backfill.{Backfill}
use Rattle.af_ops.specs.declared.body_fault.BodyFault.{BodyFault}
use Rattle.af_ops.specs.declared.edit.Edit.TheVariants as edit
use Rattle.af_ops.specs.Decisions.{ChangesWhereDone}
use Rattle.af_ops.specs.Edits.{next_by}
use Rattle.af_ops.specs.Effects.{Effect, backfilled_dag, backfilling, count_of, input_or, may_make, most_points, new_runs_data, range_or, runs_since, unless_too_many}
use Rattle.af_ops.specs.Laws.{BackfillsFillTheirRange, LeavesOthers}
use Rattle.af_ops.specs.Prepared.{CanDo, IsExact}

-- ---- the free runs of a range are counted
-- so many runs of a range have been passed, of which so many are free, and the others begin at a date
pub record Counted (state : StateRows) (dag : DagSpec) (is_point : ℕ → Bool) (first from last turn free : ℕ) : Type 0 where
  pub passed : length (backfill_runs dag is_point first last) ≡ turn + length (backfill_runs dag is_point from last)
  pub frees : length (filter (is_free state) (backfill_runs dag is_point first last)) ≡ free + length (filter (is_free state) (backfill_runs dag is_point from last))
  pub few : free ≤ turn

pub counted_none : (state : StateRows) (dag : DagSpec) (is_point : ℕ → Bool) (first last : ℕ) → Counted state dag is_point first first last 0 0
counted_none state dag is_point first last = record { passed = omega arith; frees = omega arith; few = omega arith }

module _ (state : StateRows) (dag : DagSpec) (is_point : ℕ → Bool) (first last : ℕ) where
  runs_from : (from start end : ℕ) → points_within is_point from last ≡ start ∷ points_within is_point end last → backfill_runs dag is_point from last ≡ backfill_run dag is_point start ∷ backfill_runs dag is_point end last
  runs_from from start end next = ap (map (backfill_run dag is_point)) next

  pub counted_free : (from start end turn free : ℕ) → points_within is_point from last ≡ start ∷ points_within is_point end last → is_free state (backfill_run dag is_point start) ≡ true → Counted state dag is_point first from last turn free → Counted state dag is_point first end last (turn + 1) (free + 1)
  counted_free from start end turn free next is it =
      let rest : List NewRun = backfill_runs dag is_point end last in
      let runs = runs_from from start end next in
      let all : length (backfill_runs dag is_point from last) ≡ suc (length rest) = ap length runs in
      let some : length (filter (is_free state) (backfill_runs dag is_point from last)) ≡ suc (length (filter (is_free state) rest)) =
      ap (λ (xs : List NewRun). length (filter (is_free state) xs)) runs
      ∙ ap length (cond-true (is_free state (backfill_run dag is_point start)) (backfill_run dag is_point start ∷ filter (is_free state) rest) (filter (is_free state) rest) is) in
      let passed = it.passed in
      let frees = it.frees in
      let few = it.few in
      record { passed = omega arith; frees = omega arith; few = omega arith }

  pub counted_taken : (from start end turn free : ℕ) → points_within is_point from last ≡ start ∷ points_within is_point end last → is_free state (backfill_run dag is_point start) ≡ false → Counted state dag is_point first from last turn free → Counted state dag is_point first end last (turn + 1) free
  counted_taken from start end turn free next is it =
      let rest : List NewRun = backfill_runs dag is_point end last in
      let runs = runs_from from start end next in
      let all : length (backfill_runs dag is_point from last) ≡ suc (length rest) = ap length runs in
      let some : length (filter (is_free state) (backfill_runs dag is_point from last)) ≡ length (filter (is_free state) rest) =
      ap (λ (xs : List NewRun). length (filter (is_free state) xs)) runs
      ∙ ap length (cond-false (is_free state (backfill_run dag is_point start)) (backfill_run dag is_point start ∷ filter (is_free state) rest) (filter (is_free state) rest) is) in
      let passed = it.passed in
      let frees = it.frees in
      let few = it.few in
      record { passed = omega arith; frees = omega arith; few = omega arith }

  pub counted_all : (from turn free : ℕ) → points_within is_point from last ≡ [] → turn ≤ 100 → Counted state dag is_point first from last turn free → Some free ≡ count_of state dag is_point first last
  counted_all from turn free none within it =
      let runs : backfill_runs dag is_point from last ≡ [] = ap (map (backfill_run dag is_point)) none in
      let all : length (backfill_runs dag is_point from last) ≡ 0 = ap length runs in
      let some : length (filter (is_free state) (backfill_runs dag is_point from last)) ≡ 0 = ap (λ (xs : List NewRun). length (filter (is_free state) xs)) runs in
      let passed = it.passed in
      let frees = it.frees in
      let count : free ≡ length (filter (is_free state) (backfill_runs dag is_point first last)) = omega arith in
      let long : length (backfill_runs dag is_point first last) ≤ 100 = omega arith in
      let is : nat_le (length (backfill_runs dag is_point first last)) 100 ≡ true = grind (arith, nat_tests) in
      ap Some count
      ∙ sym (cond-true (nat_le (length (backfill_runs dag is_point first last)) 100) (Some (length (filter (is_free state) (backfill_runs dag is_point first last)))) None is)

  pub counted_many : (from turn free : ℕ) → 101 ≤ turn → Counted state dag is_point first from last turn free → None ≡ count_of state dag is_point first last
  counted_many from turn free past it =
      let passed = it.passed in
      let long : 101 ≤ length (backfill_runs dag is_point first last) = omega arith in
      let is : nat_le (length (backfill_runs dag is_point first last)) 100 ≡ false = grind (arith, nat_tests) in
      sym (cond-false (nat_le (length (backfill_runs dag is_point first last)) 100) (Some (length (filter (is_free state) (backfill_runs dag is_point first last)))) None is)

-- ---- a range that may be made
some_is : {x y : ℕ} → Some x ≡ Some y → x ≡ y
some_is same = cc

-- whether the runs may be made, by their count
may_by : (b : Bool) (long : Bool) (count free : ℕ) (state : StateRows) (dag_id : List ℕ) → has_room state.runs state.next_run dag_id count ≡ b → Some count ≡ (if long then Some free else None) → b ≡ (long && has_room state.runs state.next_run dag_id free)
may_by b true count free state dag_id room is = sym room ∙ ap (has_room state.runs state.next_run dag_id) (some_is is)
may_by b false count free state dag_id room is = absurd (cc)

pub may_counted : (state : StateRows) (dag_id : List ℕ) (news : List NewRun) (count : ℕ) → Some count ≡ (if nat_le (length news) most_points then Some (length (filter (is_free state) news)) else None) → has_room state.runs state.next_run dag_id count ≡ may_make state dag_id news
may_counted state dag_id news count is =
    may_by (has_room state.runs state.next_run dag_id count) (nat_le (length news) 100) count (length (filter (is_free state) news)) state dag_id refl is

may_not : (long : Bool) (free : ℕ) (room : Bool) → None ≡ (if long then Some free else None) → false ≡ (long && room)
may_not true free room is = absurd (cc)
may_not false free room is = refl

pub may_many : (state : StateRows) (dag_id : List ℕ) (news : List NewRun) → None ≡ (if nat_le (length news) most_points then Some (length (filter (is_free state) news)) else None) → false ≡ may_make state dag_id news
may_many state dag_id news is =
    may_not (nat_le (length news) 100) (length (filter (is_free state) news)) (has_room state.runs state.next_run dag_id (length (filter (is_free state) news))) is

-- ---- the range that is asked for
-- the runs of a range of a DAG that was found, and has this schedule
abbrev pub asked_runs : DagRow → Schedule → Backfill → List NewRun
asked_runs row schedule asked = backfill_runs row.dag (is_scheduled schedule) asked.start_date asked.end_date

pub range_found : (state : StateRows) (dag_id : List ℕ) (asked : Backfill) (row : DagRow) → sched.dag_of state.dags dag_id ≡ Some row
    → range_or state dag_id asked ≡ (ok_or row.dag.schedule NoSchedule >>= (λ schedule. unless_too_many state row.dag.dag_id (asked_runs row schedule asked)))
range_found state dag_id asked row found =
    ap (λ (o : Option DagRow). ok_or o NoSuchDag >>= (λ r. ok_or r.dag.schedule NoSchedule >>= (λ schedule. unless_too_many state r.dag.dag_id (asked_runs r schedule asked)))) found

pub range_no_dag : (state : StateRows) (dag_id : List ℕ) (asked : Backfill) → sched.dag_of state.dags dag_id ≡ None → range_or state dag_id asked ≡ Err NoSuchDag
range_no_dag state dag_id asked none =
    ap (λ (o : Option DagRow). ok_or o NoSuchDag >>= (λ r. ok_or r.dag.schedule NoSchedule >>= (λ schedule. unless_too_many state r.dag.dag_id (asked_runs r schedule asked)))) none

pub range_no_schedule : (state : StateRows) (dag_id : List ℕ) (asked : Backfill) (row : DagRow) → sched.dag_of state.dags dag_id ≡ Some row → row.dag.schedule ≡ None → range_or state dag_id asked ≡ Err NoSchedule
range_no_schedule state dag_id asked row found none =
    range_found state dag_id asked row found
    ∙ ap (λ (o : Option Schedule). ok_or o NoSchedule >>= (λ schedule. unless_too_many state row.dag.dag_id (asked_runs row schedule asked))) none

pub range_scheduled : (state : StateRows) (dag_id : List ℕ) (asked : Backfill) (row : DagRow) (schedule : Schedule) → sched.dag_of state.dags dag_id ≡ Some row → row.dag.schedule ≡ Some schedule → range_or state dag_id asked ≡ unless_too_many state row.dag.dag_id (asked_runs row schedule asked)
range_scheduled state dag_id asked row schedule found is =
    range_found state dag_id asked row found
    ∙ ap (λ (o : Option Schedule). ok_or o NoSchedule >>= (λ s. unless_too_many state row.dag.dag_id (asked_runs row s asked))) is

pub unless_may : (state : StateRows) (dag_id : List ℕ) (news : List NewRun) → may_make state dag_id news ≡ true → unless_too_many state dag_id news ≡ Ok news
unless_may state dag_id news may = cond-true (may_make state dag_id news) (Ok news) (Err TooMany) may

pub unless_not : (state : StateRows) (dag_id : List ℕ) (news : List NewRun) → may_make state dag_id news ≡ false → unless_too_many state dag_id news ≡ Err TooMany
unless_not state dag_id news may = cond-false (may_make state dag_id news) (Ok news) (Err TooMany) may

pub runs_asked : (state : StateRows) (dag_id : List ℕ) (asked : Backfill) (row : DagRow) (schedule : Schedule) → sched.dag_of state.dags dag_id ≡ Some row → row.dag.schedule ≡ Some schedule → backfill_of state dag_id asked.start_date asked.end_date ≡ asked_runs row schedule asked
runs_asked state dag_id asked row schedule found is =
    ap (λ (o : Option DagRow). option_map_or (backfill_of_row asked.start_date asked.end_date) o []) found
    ∙ ap (λ (o : Option Schedule). option_map_or (λ s. asked_runs row s asked) o []) is

few_runs : (state : StateRows) (dag_id : List ℕ) (news : List NewRun) → may_make state dag_id news ≡ true → length news ≤ 100
few_runs state dag_id news may =
    let few : nat_le (length news) 100 ≡ true = (and_parts (nat_le (length news) 100) (has_room state.runs state.next_run dag_id (length (filter (is_free state) news))) may).0 in
    grind (arith, nat_tests)

pub few_asked : (state : StateRows) (dag_id : List ℕ) (asked : Backfill) (row : DagRow) (schedule : Schedule) → sched.dag_of state.dags dag_id ≡ Some row → row.dag.schedule ≡ Some schedule → may_make state row.dag.dag_id (asked_runs row schedule asked) ≡ true → length (backfill_of state dag_id asked.start_date asked.end_date) ≤ 100
few_asked state dag_id asked row schedule found is may =
    subst (λ (xs : List NewRun). length xs ≤ 100) (sym (runs_asked state dag_id asked row schedule found is)) (few_runs state row.dag.dag_id (asked_runs row schedule asked) may)

-- ---- what is done
pub done_of_range : (state : StateRows) (dag_id : List ℕ) (input : Result Backfill BodyFault) (asked : Backfill) (range : Result (List NewRun) OpFault) → input_or input ≡ Ok asked → range_or state dag_id asked ≡ range
    → backfilled_dag state dag_id input ≡ (range >>= (λ news. Ok (backfilling state (backfilled state news))))
done_of_range state dag_id input asked range read is =
    ap (λ (r : Result Backfill OpFault). r >>= (λ it. range_or state dag_id it >>= (λ news. Ok (backfilling state (backfilled state news))))) read
    ∙ ap (λ (r : Result (List NewRun) OpFault). r >>= (λ news. Ok (backfilling state (backfilled state news)))) is

-- ---- what a plan leaves
-- the runs of a plan come after those of the state, and it tells whether there are some
pub record AddsAlone (state : StateRows) (plan : PlanRows) : Type 0 where
  pub alone : (applied plan state).runs ≡ state.runs ++ plan.added
  pub changed : (plan.changes ≡ false) ↔ (plan.added ≡ [])

some_added : (added : List Run) (changes : Bool) → ((changes ≡ false) ↔ (added ≡ [])) → changes ≡ true → 0 < length added
some_added [] changes is changed = absurd (true≢false (sym changed ∙ is.1 refl))
some_added (run ∷ added) changes is changed = omega arith

lengths : (state : StateRows) (plan : PlanRows) → AddsAlone state plan → length (applied plan state).runs ≡ length state.runs + length plan.added
lengths state plan it = ap length it.alone ∙ length-append state.runs plan.added

plan_next : (b : Bool) (state : StateRows) (plan : PlanRows) → AddsAlone state plan → plan.changes ≡ b
    → next_by (if b then edit.RunsPlanned plan else edit.Nothing) state ≡ (if nat_lt (length state.runs) (length (applied plan state).runs) then Some (applied plan state) else None)
plan_next true state plan it is =
    let some = some_added plan.added plan.changes it.changed is in
    let long = lengths state plan it in
    let more : nat_lt (length state.runs) (length (applied plan state).runs) ≡ true = grind (arith, nat_tests) in
    sym (cond-true (nat_lt (length state.runs) (length (applied plan state).runs)) (Some (applied plan state)) None more)
plan_next false state plan it is =
    let none : length plan.added ≡ 0 = ap length (it.changed.0 is) in
    let long = lengths state plan it in
    let same : nat_lt (length state.runs) (length (applied plan state).runs) ≡ false = grind (arith, nat_tests) in
    sym (cond-false (nat_lt (length state.runs) (length (applied plan state).runs)) (Some (applied plan state)) None same)

since_plan : (state : StateRows) (plan : PlanRows) → AddsAlone state plan → runs_since state (applied plan state) ≡ plan.added
since_plan state plan it = ap (drop (length state.runs)) it.alone ∙ drop-append_seam state.runs plan.added

-- it is told as what it leaves
pub plan_told : (state next : StateRows) (plan : PlanRows) → AddsAlone state plan → applied plan state ≡ next
    → ◌≡◌ {A = Effect} (record { reply = Some (compact_text (new_runs_data plan.added)); next = next_by (if plan.changes then edit.RunsPlanned plan else edit.Nothing) state }) (backfilling state next)
plan_told state next plan it is =
    (λ i. record { reply = Some (compact_text (new_runs_data (sym (since_plan state plan it) i))); next = plan_next plan.changes state plan it refl i })
    ∙ ap (backfilling state) is

plan_apart : (state : StateRows) (plan : PlanRows) → AddsAlone state plan → plan.changes ≡ true → applied plan state ≡ state → ⊥
plan_apart state plan it is same =
    let some = some_added plan.added plan.changes it.changed is in
    let long = lengths state plan it in
    let equal : length (applied plan state).runs ≡ length state.runs = ap (λ (s : StateRows). length s.runs) same in
    absurd (omega arith)

exact_by : (b : Bool) (state : StateRows) (plan : PlanRows) → AddsAlone state plan → plan.changes ≡ b → IsExact state (if b then edit.RunsPlanned plan else edit.Nothing)
exact_by true state plan it is = ((λ no. cc), (λ same. absurd (plan_apart state plan it is same)))
exact_by false state plan it is = ((λ no. refl), (λ same. refl))

pub plan_exact : (state : StateRows) (plan : PlanRows) → AddsAlone state plan → IsExact state (if plan.changes then edit.RunsPlanned plan else edit.Nothing)
plan_exact state plan it = exact_by plan.changes state plan it refl

pub plan_room : (b : Bool) (state : StateWithRoom) (plan : PlanRows) → length plan.added ≤ state.spare_runs → Fits plan state.rows → CanDo state (if b then edit.RunsPlanned plan else edit.Nothing)
plan_room true state plan room fits = record { room = room; fits = fits }
plan_room false state plan room fits = tt

-- ---- it changes something exactly where a run is free
all_of : (dag : DagSpec) (is_point : ℕ → Bool) (points : List ℕ) → AreOf dag.dag_id (map (backfill_run dag is_point) points)
all_of dag is_point points = All-map (λ (new : NewRun). new.dag_id ≡ dag.dag_id) (backfill_run dag is_point) points (λ k d inside. refl)

some_next : (b : Bool) (next : StateRows) → is_some (if b then Some next else None) ≡ b
some_next true next = refl
some_next false next = refl

changes_by : (count : ℕ) (state : StateRows) (dag_id : List ℕ) (news : List NewRun) → AreOf dag_id news → count ≡ length (filter (is_free state) news) → has_room state.runs state.next_run dag_id (length (filter (is_free state) news)) ≡ true → nat_lt (length state.runs) (length (backfilled state news).runs) ≡ nat_lt 0 count
changes_by zero state dag_id news of count room =
    let same : length (backfilled state news).runs ≡ length state.runs = ap (λ (s : StateRows). length s.runs) (none_free news state (sym count)) in
    grind (arith, nat_tests)
changes_by (suc count) state dag_id news of is room =
    let more = one_free news state dag_id of (omega arith) room in
    grind (arith, nat_tests)

count_by : (long : Bool) (count free : ℕ) → Some count ≡ (if long then Some free else None) → count ≡ free
count_by true count free is = some_is is
count_by false count free is = absurd (cc)

pub would_change : (b : Bool) (state : StateRows) (dag_id : List ℕ) (asked : Backfill) (row : DagRow) (schedule : Schedule) (count : ℕ) → may_make state row.dag.dag_id (asked_runs row schedule asked) ≡ b → sched.dag_of state.dags dag_id ≡ Some row → row.dag.schedule ≡ Some schedule
    → Some count ≡ count_of state row.dag (is_scheduled schedule) asked.start_date asked.end_date → ChangesWhereDone (backfilled_dag state dag_id (Ok asked)) (nat_lt 0 count)
would_change true state dag_id asked row schedule count may found is counted =
    let news : List NewRun = asked_runs row schedule asked in
    let room = (and_parts (nat_le (length news) 100) (has_room state.runs state.next_run row.dag.dag_id (length (filter (is_free state) news))) may).1 in
    let range = range_scheduled state dag_id asked row schedule found is ∙ unless_may state row.dag.dag_id news may in
    subst (λ (r : Result Effect OpFault). ChangesWhereDone r (nat_lt 0 count)) (sym (done_of_range state dag_id (Ok asked) asked (Ok news) refl range))
    (some_next (nat_lt (length state.runs) (length (backfilled state news).runs)) (backfilled state news)
    ∙ changes_by count state row.dag.dag_id news (all_of row.dag (is_scheduled schedule) (points_within (is_scheduled schedule) asked.start_date asked.end_date))
    (count_by (nat_le (length news) 100) count (length (filter (is_free state) news)) counted) room)
would_change false state dag_id asked row schedule count may found is counted =
    let range = range_scheduled state dag_id asked row schedule found is ∙ unless_not state row.dag.dag_id (asked_runs row schedule asked) may in
    subst (λ (r : Result Effect OpFault). ChangesWhereDone r (nat_lt 0 count)) (sym (done_of_range state dag_id (Ok asked) asked (Err TooMany) refl range)) (λ same. absurd (cc))

pub would_not : (state : StateRows) (dag_id : List ℕ) (asked : Backfill) (fault : OpFault) (changes : Bool) → (fault ≡ OutOfMemory → changes ≡ false) → range_or state dag_id asked ≡ Err fault → ChangesWhereDone (backfilled_dag state dag_id (Ok asked)) changes
would_not state dag_id asked fault changes not_want range =
    subst (λ (r : Result Effect OpFault). ChangesWhereDone r changes) (sym (done_of_range state dag_id (Ok asked) asked (Err fault) refl range)) not_want

pub would_not_many : (state : StateRows) (dag_id : List ℕ) (asked : Backfill) (row : DagRow) (schedule : Schedule) → sched.dag_of state.dags dag_id ≡ Some row → row.dag.schedule ≡ Some schedule
    → None ≡ count_of state row.dag (is_scheduled schedule) asked.start_date asked.end_date → ChangesWhereDone (backfilled_dag state dag_id (Ok asked)) false
would_not_many state dag_id asked row schedule found is many =
    would_not state dag_id asked TooMany false (λ want. refl)
    (range_scheduled state dag_id asked row schedule found is
    ∙ unless_not state row.dag.dag_id (asked_runs row schedule asked) (sym (may_many state row.dag.dag_id (asked_runs row schedule asked) many)))

-- ---- what is left of a backfill that is done
-- this was asked for, the DAG was found and has this schedule, and its runs may be made
pub record BackfillsDag (state : StateRows) (dag_id : List ℕ) (input : Result Backfill BodyFault) (effect : Effect) : Type 0 where
  pub asked : Backfill
  pub row : DagRow
  pub schedule : Schedule
  pub read : input ≡ Ok asked
  pub found : sched.dag_of state.dags dag_id ≡ Some row
  pub scheduled : row.dag.schedule ≡ Some schedule
  pub may : may_make state row.dag.dag_id (asked_runs row schedule asked) ≡ true
  pub is : effect ≡ backfilling state (backfilled state (asked_runs row schedule asked))

ok_is : {x y : Effect} → ◌≡◌ {A = Result Effect OpFault} (Ok x) (Ok y) → x ≡ y
ok_is same = cc

backfills_may : (b : Bool) (state : StateRows) (dag_id : List ℕ) (asked : Backfill) (row : DagRow) (schedule : Schedule) (effect : Effect) → sched.dag_of state.dags dag_id ≡ Some row → row.dag.schedule ≡ Some schedule → may_make state row.dag.dag_id (asked_runs row schedule asked) ≡ b
    → ((if b then Ok (asked_runs row schedule asked) else Err TooMany) >>= (λ news. Ok (backfilling state (backfilled state news)))) ≡ Ok effect → BackfillsDag state dag_id (Ok asked) effect
backfills_may false state dag_id asked row schedule effect found scheduled may is = cc
backfills_may true state dag_id asked row schedule effect found scheduled may is =
    record { asked = asked; row = row; schedule = schedule; read = refl; found = found; scheduled = scheduled; may = may; is = ok_is (sym is) }

backfills_scheduled : (schedule : Option Schedule) (state : StateRows) (dag_id : List ℕ) (asked : Backfill) (row : DagRow) (effect : Effect) → sched.dag_of state.dags dag_id ≡ Some row → row.dag.schedule ≡ schedule
    → ((ok_or schedule NoSchedule >>= (λ s. unless_too_many state row.dag.dag_id (asked_runs row s asked))) >>= (λ news. Ok (backfilling state (backfilled state news)))) ≡ Ok effect → BackfillsDag state dag_id (Ok asked) effect
backfills_scheduled None state dag_id asked row effect found scheduled is = cc
backfills_scheduled (Some schedule) state dag_id asked row effect found scheduled is =
    backfills_may (may_make state row.dag.dag_id (asked_runs row schedule asked)) state dag_id asked row schedule effect found scheduled refl is

backfills_found : (dag : Option DagRow) (state : StateRows) (dag_id : List ℕ) (asked : Backfill) (effect : Effect) → sched.dag_of state.dags dag_id ≡ dag
    → ((ok_or dag NoSuchDag >>= (λ row. ok_or row.dag.schedule NoSchedule >>= (λ schedule. unless_too_many state row.dag.dag_id (asked_runs row schedule asked)))) >>= (λ news. Ok (backfilling state (backfilled state news)))) ≡ Ok effect
    → BackfillsDag state dag_id (Ok asked) effect
backfills_found None state dag_id asked effect found is = cc
backfills_found (Some row) state dag_id asked effect found is = backfills_scheduled row.dag.schedule state dag_id asked row effect found refl is

pub backfills : (state : StateRows) (dag_id : List ℕ) (input : Result Backfill BodyFault) (effect : Effect) → backfilled_dag state dag_id input ≡ Ok effect → BackfillsDag state dag_id input effect
backfills state dag_id (Err why) effect is = cc
backfills state dag_id (Ok asked) effect is = backfills_found (sched.dag_of state.dags dag_id) state dag_id asked effect refl is

next_some : (b : Bool) (made next : StateRows) → (if b then Some made else None) ≡ Some next → (b ≡ true) × (made ≡ next)
next_some true made next is = (refl, cc)
next_some false made next is = absurd (cc)

-- where it changes something, this is the next state, and it has more runs
pub backfills_next : (state : StateRows) (dag_id : List ℕ) (input : Result Backfill BodyFault) (effect : Effect) (next : StateRows) (it : BackfillsDag state dag_id input effect) → effect.next ≡ Some next
    → (backfilled state (asked_runs it.row it.schedule it.asked) ≡ next) × (length state.runs < length next.runs)
backfills_next state dag_id input effect next it changes =
    let made : StateRows = backfilled state (asked_runs it.row it.schedule it.asked) in
    let parts = next_some (nat_lt (length state.runs) (length made.runs)) made next (sym (ap (λ (e : Effect). e.next) it.is) ∙ changes) in
    let more : nat_lt (length state.runs) (length made.runs) ≡ true = parts.0 in
    let less : length state.runs < length made.runs = grind (arith, nat_tests) in
    (parts.1, subst (λ (s : StateRows). length state.runs < length s.runs) parts.1 less)

pub backfills_apart : (state : StateRows) (dag_id : List ℕ) (input : Result Backfill BodyFault) (effect : Effect) (next : StateRows) → BackfillsDag state dag_id input effect → effect.next ≡ Some next → next ≡ state → ⊥
backfills_apart state dag_id input effect next it changes same =
    let less = (backfills_next state dag_id input effect next it changes).1 in
    let equal : length next.runs ≡ length state.runs = ap (λ (s : StateRows). length s.runs) same in
    absurd (omega arith)

-- all runs that are added are of the DAG
grows : (state : StateRows) (dag_id : List ℕ) (row : DagRow) (is_point : ℕ → Bool) (points : List ℕ) → sched.dag_of state.dags dag_id ≡ Some row
    → Grows (λ run. not (is_of dag_id run) ≡ false) state (backfilled state (map (backfill_run row.dag is_point) points))
grows state dag_id row is_point points found =
    grows_by (λ run. not (is_of dag_id run) ≡ false) (map (backfill_run row.dag is_point) points) state
    (All-map (λ (new : NewRun). (number : ℕ) → not (is_of dag_id (queued_run number new)) ≡ false) (backfill_run row.dag is_point) points (λ k d inside number. ap not (found_is state.dags dag_id row found)))

pub backfills_grow : (state : StateRows) (dag_id : List ℕ) (input : Result Backfill BodyFault) (effect : Effect) (next : StateRows) → BackfillsDag state dag_id input effect → effect.next ≡ Some next → Grows (λ run. not (is_of dag_id run) ≡ false) state next
backfills_grow state dag_id input effect next it changes =
    subst (λ (s : StateRows). Grows (λ run. not (is_of dag_id run) ≡ false) state s) (backfills_next state dag_id input effect next it changes).0
    (grows state dag_id it.row (is_scheduled it.schedule) (points_within (is_scheduled it.schedule) it.asked.start_date it.asked.end_date) it.found)

-- rows that are passed over at the end
filter_more : {X : Type 0} (p : X → Bool) (xs ys : List X) → All (λ y. p y ≡ false) ys → filter p (xs ++ ys) ≡ filter p xs
filter_more p [] [] none = refl
filter_more p [] (y ∷ ys) none =
    cond-false (p y) (y ∷ filter p ys) (filter p ys) (none 0 y (omega arith)) ∙ filter_more p [] ys (λ k d inside. none (suc k) d (omega arith))
filter_more p (x ∷ xs) ys none = ap (λ rest. cond (p x) (x ∷ rest) rest) (filter_more p xs ys none)

pub grown_stays : (state next : StateRows) (dag_id : List ℕ) → Grows (λ run. not (is_of dag_id run) ≡ false) state next → LeavesOthers dag_id state next
grown_stays state next dag_id it =
    subst (λ (s : StateRows). LeavesOthers dag_id state s) (sym it.is)
    (record { dags = refl; runs = filter_more (λ run. not (is_of dag_id run)) state.runs it.more it.each; pools = refl; variables = refl })

pub grown_rises : (state next : StateRows) (dag_id : List ℕ) → Grows (λ run. not (is_of dag_id run) ≡ false) state next → state.next_run ≤ next.next_run
grown_rises state next dag_id it =
    let number : next.next_run ≡ state.next_run + length it.more = ap (λ (s : StateRows). s.next_run) it.is in
    omega arith

-- ---- it fills its range
left_by : (b : Bool) (state next : StateRows) (added : List Run) → next ≡ record state { runs = state.runs ++ added; next_run = state.next_run + length added } → nat_lt (length state.runs) (length next.runs) ≡ b → unwrap_or (if b then Some next else None) state ≡ next
left_by true state next added is more = refl
left_by false state next [] is more =
    let same : state.next_run ≡ state.next_run + 0 = omega arith in
    (λ i. record state { runs = sym (append-nil state.runs) i; next_run = same i }) ∙ sym is
left_by false state next (run ∷ added) is more =
    let long : length next.runs ≡ length state.runs + suc (length added) = ap (λ (s : StateRows). length s.runs) is ∙ length-append state.runs (run ∷ added) in
    let less : nat_lt (length state.runs) (length next.runs) ≡ true = grind (arith, nat_tests) in
    absurd (true≢false (sym less ∙ more))

pub fills_range : BackfillsFillTheirRange
fills_range reads state dag_id input now effect is =
    let it = backfills state dag_id input effect is in
    let dag : DagSpec = it.row.dag in
    let is_point : ℕ → Bool = is_scheduled it.schedule in
    let news : List NewRun = asked_runs it.row it.schedule it.asked in
    let room = (and_parts (nat_le (length news) 100) (has_room state.runs state.next_run dag.dag_id (length (filter (is_free state) news))) it.may).1 in
    let fills = backfill_fills dag is_point it.asked.start_date it.asked.end_date state room in
    let left : unwrap_or effect.next state ≡ backfilled state news =
    ap (λ (e : Effect). unwrap_or e.next state) it.is
    ∙ left_by (nat_lt (length state.runs) (length (backfilled state news).runs)) state (backfilled state news) fills.added fills.rest refl in
    let told : effect.reply ≡ Some (compact_text (new_runs_data fills.added)) =
    ap (λ (e : Effect). e.reply) it.is
    ∙ ap (λ (runs : List Run). Some (compact_text (new_runs_data runs))) (ap (λ (s : StateRows). drop (length state.runs) s.runs) fills.rest ∙ drop-append_seam state.runs fills.added) in
    let there : Backfills dag is_point it.asked.start_date it.asked.end_date state (unwrap_or effect.next state) = record {
      added = fills.added;
      rest = left ∙ fills.rest;
      each = fills.each;
      numbers = fills.numbers;
      dates = fills.dates;
      free = fills.free;
      filled = subst (λ (s : StateRows). All (λ at. is_taken s.runs dag.dag_id (backfill_id at) at ≡ true) (points_within is_point it.asked.start_date it.asked.end_date)) (sym left) fills.filled;
    } in
    (it.asked, (it.row, (it.schedule, (there, it.read, it.found, it.scheduled, told))))
