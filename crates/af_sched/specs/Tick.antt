-- A tick at a moment: its five phases, one after the other (this product's own rule).
use Rattle.std.specs.Prelude.{ℕ, ◌≡◌}
use Rattle.af_sched.specs.Create.{created}
use Rattle.af_sched.specs.Finish.{finished}
use Rattle.af_sched.specs.Queue.{Queues}
use Rattle.af_sched.specs.Settle.{Settles}
use Rattle.af_sched.specs.Start.{started}
use Rattle.af_sched.specs.State.{StateRows}

-- the state before a tick at t and after it
pub record IsTick (t : ℕ) (old new : StateRows) : Type 0 where
  -- after the third phase, and after the fourth
  pub settled : StateRows
  pub queued : StateRows
  pub settles : Settles t (started t (created t old)) settled
  pub queues : Queues settled queued
  pub ends : new ≡ finished t queued
