-- What acts that read can show of DAGs and of runs that a user may not read: nothing. It is said over what the user's roles list.
use Rattle.std.specs.Prelude.{◌≡◌, ℕ, List, Bool, true, Option, Some, option_map}
use Rattle.std.specs.Bool.{Decides}
use Rattle.af_policy.specs.Identity.{bearer_of}
use Rattle.af_policy.specs.Rows.{PolicyRows}
use Rattle.af_sched.specs.State.{StateRows}
use Rattle.af_ops.specs.declared.call.Call.TheVariants as call
use Rattle.af_ops.specs.declared.op.Op.{Op}
use Rattle.af_blind.specs.Blindness.{Alike, reads_dags, status_and_body, without_dag, without_runs}
use Rattle.af_world.specs.declared.step.Step.TheVariants as step
use Rattle.af_world.specs.Acting.{holds}
use Rattle.af_world.specs.Moving.{Move}
use Rattle.af_world.specs.Rules.{MayRead, MaySeeRuns}
use Rattle.af_world.specs.Steps.{Moves}
use Rattle.af_world.specs.Worlds.{World, policy_at}

-- both states have the same rows of the DAGs that the user's roles let the user read, and of the runs that they let the user see
pub record AlikeByRoles (policy : PolicyRows) (user : List ℕ) (state other : StateRows) : Type 0 where
  pub keeps : List ℕ → Bool
  pub shows : List ℕ → Bool
  pub reads : (id : List ℕ) → Decides (keeps id) (MayRead policy user id)
  pub sees : (id : List ℕ) → Decides (shows id) (MaySeeRuns policy user id)
  pub alike : Alike keeps shows state other

-- an act that reads DAGs, tasks, runs or instances is answered with the same status and the same body in any two worlds whose sessions
-- hold the plane under the same policy, if their states have the same rows of what the token's user may read
abbrev pub ActsAreBlind : Type 0
ActsAreBlind =
    (w other : World) (session another : ℕ) (policy : PolicyRows) (token : Option (List ℕ)) (asked : Op) (t : ℕ) (move moved : Move) → reads_dags asked ≡ true
    → policy_at w w.ledger.version ≡ Some policy → policy_at other other.ledger.version ≡ Some policy
    → ((user : List ℕ) → bearer_of policy token ≡ Some user → AlikeByRoles policy user w.ledger.state other.ledger.state)
    → holds w session ≡ true → holds other another ≡ true
    → Moves w (step.Act session token (call.State asked) t) move → Moves other (step.Act another token (call.State asked) t) moved
    → option_map status_and_body move.answer ≡ option_map status_and_body moved.answer

-- the world without a DAG and its runs
abbrev pub world_without : List ℕ → World → World
world_without dag_id w = record w { ledger = record w.ledger { state = without_dag dag_id w.ledger.state } }

-- such an act of a user whose roles don't let the user read a DAG is answered as in the world without that DAG
abbrev pub HiddenActsAsAbsent : Type 0
HiddenActsAsAbsent =
    (w : World) (session : ℕ) (policy : PolicyRows) (token : Option (List ℕ)) (user dag_id : List ℕ) (asked : Op) (t : ℕ) (move moved : Move) → reads_dags asked ≡ true
    → policy_at w w.ledger.version ≡ Some policy → bearer_of policy token ≡ Some user → (MayRead policy user dag_id → ⊥)
    → Moves w (step.Act session token (call.State asked) t) move → Moves (world_without dag_id w) (step.Act session token (call.State asked) t) moved
    → option_map status_and_body move.answer ≡ option_map status_and_body moved.answer

-- the world without the runs of a DAG
abbrev pub world_without_runs : List ℕ → World → World
world_without_runs dag_id w = record w { ledger = record w.ledger { state = without_runs dag_id w.ledger.state } }

-- such an act of a user whose roles don't let the user see the runs of a DAG, since they don't let the user read these or the DAG, is answered
-- as in the world without these runs
abbrev pub HiddenRunActsAsAbsent : Type 0
HiddenRunActsAsAbsent =
    (w : World) (session : ℕ) (policy : PolicyRows) (token : Option (List ℕ)) (user dag_id : List ℕ) (asked : Op) (t : ℕ) (move moved : Move) → reads_dags asked ≡ true
    → policy_at w w.ledger.version ≡ Some policy → bearer_of policy token ≡ Some user → (MaySeeRuns policy user dag_id → ⊥)
    → Moves w (step.Act session token (call.State asked) t) move → Moves (world_without_runs dag_id w) (step.Act session token (call.State asked) t) moved
    → option_map status_and_body move.answer ≡ option_map status_and_body moved.answer
