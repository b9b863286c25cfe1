-- What a user's step asks for, with which token, and what that requires of the user.
use Rattle.std.specs.Prelude.{ℕ, List, [], Bool, true, false, Option, Some, None}
use Rattle.af_role.specs.declared.need.Need.{Need}
use Rattle.af_sched.specs.State.{StateRows}
use Rattle.af_ops.specs.declared.call.Call.{Call}
use Rattle.af_ops.specs.declared.call.Call.TheVariants as call
use Rattle.af_ops.specs.Endpoints.{dag_of}
use Rattle.af_ops.specs.PolicyLaws.{own_needs}
use Rattle.af_ops.specs.Required.{needs_for}
use Rattle.af_ops.specs.Verdicts.{dag_ids}
use Rattle.af_audit.specs.EventLogs.{log_needs}
use Rattle.af_world.specs.declared.step.Step.{Step}
use Rattle.af_world.specs.declared.step.Step.TheVariants as step

pub record Asked : Type 0 where
  pub token : Option (List ℕ)
  pub call : Call

abbrev pub asked_of : Step → Option Asked
asked_of (step.Look session) = None
asked_of (step.Act session token asked t) = Some (record { token = token; call = asked })
asked_of (step.Me session token asked) = Some (record { token = token; call = call.Policy asked })
asked_of (step.Publish session at token asked) = Some (record { token = token; call = call.Policy asked })
asked_of (step.Tick t) = None
asked_of (step.Claim t) = None
asked_of (step.Report it t) = None

-- whether it hands in a change of the policy
abbrev pub hands_in : Step → Bool
hands_in (step.Look session) = false
hands_in (step.Act session token asked t) = false
hands_in (step.Me session token asked) = false
hands_in (step.Publish session at token asked) = true
hands_in (step.Tick t) = false
hands_in (step.Claim t) = false
hands_in (step.Report it t) = false

-- whether it is an act of a session that holds the plane
abbrev pub acts : Step → Bool
acts (step.Look session) = false
acts (step.Act session token asked t) = true
acts (step.Me session token asked) = false
acts (step.Publish session at token asked) = false
acts (step.Tick t) = false
acts (step.Claim t) = false
acts (step.Report it t) = false

-- the requirements, in the order in which they are tested
abbrev pub needs_asked : Call → List Need
needs_asked (call.State asked) = needs_for asked
needs_asked (call.Entries window) = log_needs
needs_asked (call.Policy asked) = own_needs asked

-- the DAG that is named, or none
abbrev pub dag_asked : Call → Option (List ℕ)
dag_asked (call.State asked) = dag_of asked
dag_asked (call.Entries window) = None
dag_asked (call.Policy asked) = None

-- the DAGs that are there; no operation on the policy asks for any
abbrev pub dags_asked : StateRows → Call → List (List ℕ)
dags_asked state (call.State asked) = dag_ids state
dags_asked state (call.Entries window) = dag_ids state
dags_asked state (call.Policy asked) = []
