use Rattle.std.proofs.Common.{◌≡◌, ◌<◌, ◌∙◌, ◌&&◌, ap, arith, length, take, get_or, cond}
use Rattle.af_runs.specs.declared.run.Run.{Run}
use Rattle.af_sched.specs.Rooms.{has_room, room_left}
use Rattle.af_sched.specs.Start.{is_queued, starts, started_run}
use Rattle.af_sched.proofs.FinishLemmas.{map-from}
use Rattle.af_sched.proofs.RoomLemmas.{queued_seen, starts_is}
use Rattle.af_sched.proofs.StartLemmas.{started_step, get_or-same}
use Rattle.af_sched.proofs.tick.start.start_all.Goals as goal

pub loop-run-preserved : goal.loop-run-preserved
loop-run-preserved c =
    let k = c.loop-run.run-index in
    let inside : k < length c.args.runs.now = omega arith in
    let run : Run = get_or c.loop-run.runs k c.run-item.result in
    let here : run ≡ get_or c.loop-run.runs k run = get_or-same c.loop-run.runs k c.run-item.result run (omega arith) in
    let was : run ≡ get_or c.args.runs.now k run = here ∙ c.loop-run.invariant.done.1 k run (omega arith) in
    record {
      done =
          started_step c.args.at c.args.dags.now c.args.runs.now c.loop-run.runs k run c.start_next.new.run
          (is_queued run.state && has_room (room_left c.args.runs.now (take k c.args.runs.now)) c.args.dags.now run.dag_id)
          (omega arith) inside here
          (starts_is c.args.dags.now c.args.runs.now k run inside was c.requires ∙ ap (starts c.args.dags.now c.args.runs.now) was)
          (c.start_next.ensures.run (room_left c.args.runs.now (take k c.args.runs.now)) c.loop-run.invariant.left)
          c.loop-run.invariant.done;
      left =
          c.start_next.ensures.left (room_left c.args.runs.now (take k c.args.runs.now)) c.loop-run.invariant.left
          ∙ queued_seen c.args.dags.now c.args.runs.now k run inside was;
    }

pub returns-clause-ok : goal.returns-clause-ok
returns-clause-ok c =
    map-from (λ (run : Run). cond (starts c.args.dags.now c.args.runs.now run) (started_run c.args.at run) run) c.args.runs.now c.loop-run.runs (omega arith) (λ k d inside. c.loop-run.invariant.done.0 k d (omega arith))
