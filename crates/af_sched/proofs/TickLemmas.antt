-- A tick leaves one state, whose rows are as they are at all times.
use Rattle.std.proofs.Common.{◌≡◌, ◌∙◌, ℕ, List, map, sym, ap, subst}
use Rattle.std.specs.Prelude.{All, fold}
use Rattle.std.proofs.Math.ListN.{length-map}
use Rattle.af_runs.specs.declared.run.Run.{Run}
use Rattle.af_sched.specs.Create.{moved_row, created, with_runs_of}
use Rattle.af_sched.specs.Finish.{finished}
use Rattle.af_sched.specs.Queue.{Queues}
use Rattle.af_sched.specs.Settle.{Settles}
use Rattle.af_sched.specs.Start.{started, started_runs}
use Rattle.af_sched.specs.State.{StateRows, AreRows, IsWhole}
use Rattle.af_sched.specs.Tick.{IsTick}
use Rattle.af_sched.specs.declared.dag_row.DagRow.{DagRow}
use Rattle.af_sched.proofs.KeyLemmas.{whole_started, whole_settled, whole_finished, whole_queued}
use Rattle.af_sched.proofs.LikeLemmas.{Alike, alike_with, moved_with, AreRows-same, same_dags}
use Rattle.af_sched.proofs.PlanLemmas.{whole_rows, found_row}
use Rattle.af_sched.proofs.QueueLemmas.{queued_state_is_one}
use Rattle.af_sched.proofs.SettleLemmas.{settled_state_is_one}

pub alike_moved : (t : ℕ) (dags : List DagRow) → Alike dags (map (moved_row t) dags)
alike_moved t dags =
    subst (Alike dags) (moved_with t dags) (alike_with dags (map (λ row. (moved_row t row).cursor) dags) (length-map dags (λ row. (moved_row t row).cursor)))

pub rows_created : (t : ℕ) (old : StateRows) → AreRows old.dags old.runs → AreRows (created t old).dags (created t old).runs
rows_created t old are =
    AreRows-same old.dags (map (moved_row t) old.dags) old.runs (fold (with_runs_of t) old old.dags).runs (same_dags old.dags (map (moved_row t) old.dags) (alike_moved t old.dags))
    (whole_rows old.dags t old.dags old (found_row old.dags are.in_order) are.whole) are

with_whole : (dags : List DagRow) (was runs : List Run) → All (IsWhole dags) runs → AreRows dags was → AreRows dags runs
with_whole dags was runs whole are = record { in_order = are.in_order; few = are.few; sound = are.sound; whole = whole }

pub rows_started : (t : ℕ) (old : StateRows) → AreRows old.dags old.runs → AreRows (started t old).dags (started t old).runs
rows_started t old are = with_whole old.dags old.runs (started_runs t old.dags old.runs) (whole_started old.dags t old.runs are.whole) are

pub rows_settled : (t : ℕ) (old new : StateRows) → AreRows old.dags old.runs → Settles t old new → AreRows new.dags new.runs
rows_settled t old new are settles =
    subst (λ (s : StateRows). AreRows s.dags s.runs) (sym settles.rest)
    (with_whole old.dags old.runs new.runs (whole_settled old.dags t old.runs new.runs settles.runs are.whole) are)

pub rows_queued : (old new : StateRows) → AreRows old.dags old.runs → Queues old new → AreRows new.dags new.runs
rows_queued old new are queues =
    subst (λ (s : StateRows). AreRows s.dags s.runs) (sym queues.state)
    (with_whole old.dags old.runs _ (whole_queued old.dags queues.is_queued old.runs are.whole) are)

pub rows_finished : (t : ℕ) (old : StateRows) → AreRows old.dags old.runs → AreRows (finished t old).dags (finished t old).runs
rows_finished t old are = with_whole old.dags old.runs (finished t old).runs (whole_finished old.dags t old.runs are.whole) are

pub tick_keeps_rows : (t : ℕ) (old new : StateRows) → AreRows old.dags old.runs → IsTick t old new → AreRows new.dags new.runs
tick_keeps_rows t old new are tick =
    subst (λ (s : StateRows). AreRows s.dags s.runs) (sym tick.ends)
    (rows_finished t tick.queued (rows_queued tick.settled tick.queued (rows_settled t (started t (created t old)) tick.settled (rows_started t (created t old) (rows_created t old are)) tick.settles) tick.queues))

pub tick_is_one : (t : ℕ) (old one other : StateRows) → AreRows old.dags old.runs → IsTick t old one → IsTick t old other → one ≡ other
tick_is_one t old one other are first second =
    let before = rows_started t (created t old) (rows_created t old are) in
    let settled = settled_state_is_one t (started t (created t old)) first.settled second.settled before first.settles second.settles in
    let queued = queued_state_is_one second.settled first.queued second.queued (rows_settled t (started t (created t old)) second.settled before second.settles) (subst (λ (s : StateRows). Queues s first.queued) settled first.queues) second.queues in
    first.ends ∙ ap (finished t) queued ∙ sym second.ends
