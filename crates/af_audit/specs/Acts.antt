-- What may be done, and what it leaves of a state at a moment. What the service does and what replay does are this one
-- definition (this product's own rule).
use Rattle.std.specs.Prelude.{ℕ, ◌≡◌, Bool, true, false, Option, None, unwrap_or, Result, Ok, Err}
use Rattle.af_runs.specs.Runs.{AreRuns}
use Rattle.af_sched.specs.Laws.{IsClaim}
use Rattle.af_sched.specs.Reports.{reported}
use Rattle.af_sched.specs.State.{StateRows, AreRows}
use Rattle.af_sched.specs.Tick.{IsTick}
use Rattle.af_sched.specs.declared.claim.Claim.{Claim}
use Rattle.af_ops.specs.declared.answer.OpFault.{OpFault}
use Rattle.af_ops.specs.declared.op.Op.{Op}
use Rattle.af_ops.specs.Effects.{Effect, effect_of, nothing_readable}
use Rattle.af_audit.specs.declared.act.Act.{Act}
use Rattle.af_audit.specs.declared.act.Act.TheVariants as act
use Rattle.af_audit.specs.declared.actor.Actor.{Actor}
use Rattle.af_audit.specs.declared.actor.Actor.TheVariants as actor

-- the state that an operation makes, or none where it is refused or changes nothing
abbrev pub next_of : Result Effect OpFault → Option StateRows
next_of (Ok effect) = effect.next
next_of (Err why) = None

-- the state after an operation at a moment: one that is refused leaves it; no change depends on who reads
abbrev pub after_op : Op → ℕ → StateRows → StateRows
after_op asked t state = unwrap_or (next_of (effect_of nothing_readable state asked t)) state

-- the states before and after an act at a moment; an act that would be refused leaves the state
abbrev pub IsAfter : Act → ℕ → StateRows → StateRows → Type 0
IsAfter (act.Did asked) t old new = new ≡ after_op asked t old
IsAfter act.Tick t old new = IsTick t old new
IsAfter (act.Claim claimed) t old new = (told : Option Claim) × IsClaim t old new told
IsAfter (act.Report claimed outcome) t old new = new ≡ reported t outcome old claimed

-- whether the act is one of this actor: users ask for operations, the scheduler ticks, executors claim and report
abbrev pub is_by : Actor → Act → Bool
is_by (actor.User user) (act.Did asked) = true
is_by actor.Scheduler act.Tick = true
is_by actor.Executor (act.Claim claimed) = true
is_by actor.Executor (act.Report claimed outcome) = true
is_by _ _ = false

-- rows as they are at all times
pub record IsState (state : StateRows) : Type 0 where
  pub rows : AreRows state.dags state.runs
  pub runs : AreRuns state.runs state.next_run
