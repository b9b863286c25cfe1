-- What the executor of tests answers: by a list of outcomes for each task that has one (this product's own rule).
use Rattle.std.specs.Prelude.{ℕ, ◌-◌, ◌&&◌, Bool, List, find, slice_get, unwrap_or}
use Rattle.std.specs.Option.{option_map_or}
use Rattle.af_graph.specs.Graph.{same_name}
use Rattle.af_sched.specs.declared.claim.Claim.{Claim}
use Rattle.af_sched.specs.declared.outcome.Outcome.{Outcome}
use Rattle.af_sched.specs.declared.outcome.Outcome.TheVariants.{Success}

-- the outcomes of a task's tries, from the first on
pub record ScriptRow : Type 0 where
  pub dag_id : List ℕ
  pub task_id : List ℕ
  pub outcomes : List Outcome

-- whether the script is that of the task of a claim
abbrev pub is_script_of : Claim → ScriptRow → Bool
is_script_of claim script = same_name script.dag_id claim.dag_id && same_name script.task_id claim.task_id

-- the outcome of a claim's try by this script; past its end each try succeeds
abbrev pub outcome_by : Claim → ScriptRow → Outcome
outcome_by claim script = unwrap_or (slice_get script.outcomes (claim.try_number - 1)) Success

-- the outcome of a claim's try, by the first script of its task; without one each try succeeds
abbrev pub scripted_outcome : List ScriptRow → Claim → Outcome
scripted_outcome scripts claim = option_map_or (outcome_by claim) (find (is_script_of claim) scripts) Success
