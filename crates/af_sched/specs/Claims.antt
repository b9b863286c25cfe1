-- How an executor claims an instance (this product's own rule).
use Rattle.std.specs.Prelude.{ℕ, ◌≡◌, ◌+◌, ◌&&◌, Bool, nat_lt, Option, Some, None, MatchOption}
use Rattle.af_graph.specs.States.{same_state}
use Rattle.af_graph.specs.declared.task_state.TaskState.TheVariants as task_state
use Rattle.af_runs.specs.Runs.{with_instance}
use Rattle.af_runs.specs.declared.instance.Instance.{Instance}
use Rattle.af_sched.specs.Placed.{Placed, placed_in, IsFirst, NonePasses}
use Rattle.af_sched.specs.State.{StateRows}
use Rattle.af_sched.specs.declared.claim.Claim.{Claim}

-- whether an instance may be claimed: it is queued, and a number is left for one more try
abbrev pub is_claimable : Placed → Bool
is_claimable placed = same_state placed.instance.state task_state.Queued && nat_lt placed.instance.try_number 4_294_967_295

-- an instance that is claimed at t
abbrev pub claimed_instance : ℕ → Instance → Instance
claimed_instance t instance = record instance {
  state = task_state.Running;
  try_number = instance.try_number + 1;
  start_date = Some t;
  end_date = None;
}

-- what the executor is told of an instance that it claims
abbrev pub claim_of : Placed → Claim
claim_of placed = record {
  run_number = placed.run.number;
  dag_id = placed.run.dag_id;
  run_id = placed.run.run_id;
  task_id = placed.task.task_id;
  try_number = placed.instance.try_number + 1;
}

-- the state before and after a claim at t: the first instance that may be claimed, of the runs of all DAGs, paused or
-- not, is running
pub record Claims (t : ℕ) (old new : StateRows) (claim : Claim) : Type 0 where
  pub first : Placed
  pub is_first : IsFirst is_claimable (placed_in old.dags old.runs) first
  pub told : claim ≡ claim_of first
  pub state : new ≡ record old { runs = with_instance old.runs first.run.number first.place (claimed_instance t first.instance) }

-- no instance may be claimed, and the state is as it was
pub record ClaimsNone (old new : StateRows) : Type 0 where
  pub none : NonePasses is_claimable (placed_in old.dags old.runs)
  pub state : new ≡ old

-- what the executor is told by the next claim: of the first instance that may be claimed
pub record IsToldNext (state : StateRows) (claim : Claim) : Type 0 where
  pub first : Placed
  pub is_first : IsFirst is_claimable (placed_in state.dags state.runs) first
  pub told : claim ≡ claim_of first

-- what the next claim tells, or that there is nothing to claim
abbrev pub IsNextClaim : StateRows → Option Claim → Type 0
IsNextClaim state told = MatchOption told (NonePasses is_claimable (placed_in state.dags state.runs)) (IsToldNext state)
