use Rattle.std.proofs.Common.{refl, rules, ℕ, Bool, true, false, cond}
use Rattle.af_runs.specs.Marks.{is_marked}
use Rattle.af_runs.specs.declared.mark.Mark.{Mark}
use Rattle.af_sched.specs.State.{StateWithRoom}
use Rattle.af_ops.specs.Prepared.{CanDo}
use Rattle.af_ops.specs.declared.edit.Edit.TheVariants as edit
use Rattle.af_ops.proofs.MarkingLemmas.{mark_exact, mark_next}
use Rattle.af_ops.proofs.operations.marking.run_marked.Goals as goal

pub returns-clause-told : goal.returns-clause-told
returns-clause-told c =
    rw (c.of.ensures, c.mark_edit.ensures, mark_next (is_marked c.in_ok-mark.mark c.in_ok-run.run'.now) c.args.state.now.rows c.args.dag_id.now c.args.run_id.now c.in_ok-run.run'.now c.in_ok-mark.mark c.args.now c.runs-runs.ensures.kept (search rules))
    (search rules)

pub returns-clause-exact : goal.returns-clause-exact
returns-clause-exact c =
    rw (c.of.ensures, c.mark_edit.ensures)
    (mark_exact (is_marked c.in_ok-mark.mark c.in_ok-run.run'.now) c.args.state.now.rows c.args.dag_id.now c.args.run_id.now c.in_ok-run.run'.now c.in_ok-mark.mark c.args.now c.runs-runs.ensures.kept (search rules) refl)

-- whether it marks a run or does nothing, it takes no memory
mark_room : (b : Bool) (state : StateWithRoom) (number : ℕ) (mark : Mark) (now : ℕ) → CanDo state (cond b edit.Nothing (edit.RunMarked number mark now))
mark_room true state number mark now = tt
mark_room false state number mark now = tt

pub returns-clause-room : goal.returns-clause-room
returns-clause-room c =
    rw (c.of.ensures, c.mark_edit.ensures) (mark_room (is_marked c.in_ok-mark.mark c.in_ok-run.run'.now) c.args.state.now c.in_ok-run.run'.now.number c.in_ok-mark.mark c.args.now)
