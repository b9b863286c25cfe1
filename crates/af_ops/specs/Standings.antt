-- Where a server stands: the policy version and the number of entries, and the scheduler's state.
use Rattle.std.specs.Prelude.{ℕ, ◌+◌}
use Rattle.af_sched.specs.State.{StateRows}
use Rattle.af_ops.specs.declared.answer.Under.{Under}

pub record StandingRows : Type 0 where
  pub under : Under
  pub state : StateRows

-- the most entries, where no other limit is set
abbrev pub history_limit : ℕ
history_limit = 1_000_000

-- with one entry more
abbrev pub with_entry : Under → Under
with_entry under = record under { seq = under.seq + 1 }
