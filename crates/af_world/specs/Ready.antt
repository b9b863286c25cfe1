-- That every list of steps can be taken.
use Rattle.std.specs.Prelude.{◌<◌, List, Option}
use Rattle.af_sched.specs.State.{StateRows}
use Rattle.af_ops.specs.declared.shown_answer.Shown.{Shown}
use Rattle.af_audit.specs.Acts.{IsState}
use Rattle.af_world.specs.declared.step.Step.{Step}
use Rattle.af_world.specs.Runs.{Reaches}
use Rattle.af_world.specs.Worlds.{OpeningRows, World}

-- the rows are as they are at all times, and runs are numbered from 1 on
pub record IsReady (state : StateRows) : Type 0 where
  pub is : IsState state
  pub next : 0 < state.next_run

-- from each opening with such a state, each list of steps has answers, and leads to a world
abbrev pub StepsHaveAnswers : Type 0
StepsHaveAnswers =
    (opening : OpeningRows) (steps : List Step) → IsReady opening.state
    → (answers : List (Option Shown)) × ((w : World) × Reaches opening steps answers w)
