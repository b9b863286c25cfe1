-- What is told of a fault of an operation on the policy: its status and its detail. Of out of memory nothing is told here, for the
-- connection then ends with a fixed text.
use Rattle.std.specs.Prelude.{ℕ, List, [], ◌++◌, Option, None, codes, decimal}
use Rattle.af_role.specs.Needs.{need_text}
use Rattle.af_role.specs.declared.need.Need.{Need}
use Rattle.af_role.specs.declared.pair_text.PairText.{PairText}
use Rattle.af_policy.specs.Inputs.{member_text, parameter_text}
use Rattle.af_policy.specs.declared.ask.Ask.{Ask}
use Rattle.af_policy.specs.declared.ask.Ask.TheVariants.{Made, Bad}
use Rattle.af_policy.specs.declared.bad_input.BadInput.{BadInput}
use Rattle.af_policy.specs.declared.bad_input.BadInput.TheVariants as input
use Rattle.af_policy.specs.declared.change.Change.{Change}
use Rattle.af_policy.specs.declared.change.Change.TheVariants as change
use Rattle.af_policy.specs.declared.change_fault.ChangeFault.{ChangeFault}
use Rattle.af_policy.specs.declared.change_fault.ChangeFault.TheVariants as refused
use Rattle.af_policy.specs.declared.me_fault.MeFault.{MeFault}
use Rattle.af_policy.specs.declared.me_fault.MeFault.TheVariants as unknown
use Rattle.af_policy.specs.declared.policy_read.PolicyRead.{PolicyRead}
use Rattle.af_policy.specs.declared.policy_read.PolicyRead.TheVariants as read
use Rattle.af_policy.specs.declared.read_fault.ReadFault.{ReadFault}
use Rattle.af_policy.specs.declared.read_fault.ReadFault.TheVariants as reading
use Rattle.af_policy.specs.declared.refusal.Refusal.{Refusal}
use Rattle.af_policy.specs.declared.refusal.Refusal.TheVariants as submit
use Rattle.af_ops.specs.declared.status.Status.TheVariants as status
use Rattle.af_ops.specs.Faults.{fault_of}
use Rattle.af_ops.specs.Rows.{Problem}

-- ---- faults of any operation

abbrev pub no_policy : Option Problem
no_policy = fault_of status.Unavailable (codes "policy not found")

abbrev pub nobody : Option Problem
nobody = fault_of status.Unauthorized (codes "authentication required")

-- no operation on the policy is at a DAG
abbrev pub denial : Need → Option Problem
denial need = fault_of status.Forbidden (codes "missing permission " ++ need_text need None)

abbrev pub input_text : BadInput → List ℕ
input_text (input.Parameter it) = codes "bad parameter: " ++ parameter_text it
input_text input.Body = codes "bad body"
input_text (input.Member it) = codes "bad member: " ++ member_text it

abbrev pub bad_input : BadInput → Option Problem
bad_input it = fault_of status.BadRequest (input_text it)

-- ---- who am I

abbrev pub me_problem : MeFault → Option Problem
me_problem unknown.NotFound = no_policy
me_problem unknown.Unauthenticated = nobody
me_problem unknown.OutOfMemory = None

-- ---- roles and users

-- the name of the role or the user that is read; no text where there is none
abbrev pub read_name : PolicyRead → List ℕ
read_name (read.Roles span) = []
read_name (read.Role name) = name
read_name (read.Users span) = []
read_name (read.User name) = name
read_name (read.Bad kind input) = []

abbrev pub read_problem : PolicyRead → ReadFault → Option Problem
read_problem asked reading.NotFound = no_policy
read_problem asked reading.Unauthenticated = nobody
read_problem asked (reading.Denied need) = denial need
read_problem asked (reading.BadBody it) = bad_input it
read_problem asked reading.NoSuchRole = fault_of status.NotFound (codes "no such role: " ++ read_name asked)
read_problem asked reading.NoSuchUser = fault_of status.NotFound (codes "no such user: " ++ read_name asked)
read_problem asked reading.OutOfMemory = None

-- ---- changes

-- the name of the role or the user that a change is about; no text where there is none
abbrev pub changed_name : Change → List ℕ
changed_name (change.AddRole input) = input.name
changed_name (change.SetRole input) = input.name
changed_name (change.DropRole name) = name
changed_name (change.AddUser user) = user.name
changed_name (change.SetUser patch) = patch.name
changed_name (change.DropUser name) = name
changed_name (change.SyncDag access) = []

abbrev pub asked_name : Ask → List ℕ
asked_name (Made it) = changed_name it
asked_name (Bad kind input) = []

-- `RESOURCE.ACTION`, as it was given
abbrev pub given_pair : PairText → List ℕ
given_pair pair = pair.resource ++ (codes "." ++ pair.action)

-- a fault of a change, which is about what has this name
abbrev pub change_problem : List ℕ → ChangeFault → Option Problem
change_problem name (refused.BadAction text) = fault_of status.BadRequest (codes "bad action: " ++ text)
change_problem name (refused.PairNotAllowed pair) = fault_of status.BadRequest (codes "pair not allowed: " ++ given_pair pair)
change_problem name (refused.UnknownRole role) = fault_of status.BadRequest (codes "unknown role: " ++ role)
change_problem name refused.NoSuchRole = fault_of status.NotFound (codes "no such role: " ++ name)
change_problem name refused.NoSuchUser = fault_of status.NotFound (codes "no such user: " ++ name)
change_problem name refused.DefaultRole = fault_of status.Conflict (codes "default role: " ++ name)
change_problem name refused.Exists = fault_of status.Conflict (codes "exists: " ++ name)
change_problem name refused.RoleInUse = fault_of status.Conflict (codes "role in use: " ++ name)
change_problem name refused.LastAdmin = fault_of status.Conflict (codes "last admin")
change_problem name refused.TooMany = fault_of status.Conflict (codes "too many")
change_problem name refused.OutOfMemory = None

abbrev pub submit_problem : Ask → Refusal → Option Problem
submit_problem ask submit.NotFound = no_policy
submit_problem ask submit.Unauthenticated = nobody
submit_problem ask (submit.Denied need) = denial need
submit_problem ask (submit.BadBody it) = bad_input it
submit_problem ask (submit.Refused fault) = change_problem (asked_name ask) fault
submit_problem ask submit.Full = fault_of status.InsufficientStorage (codes "versions full")
submit_problem ask submit.OutOfMemory = None
submit_problem ask (submit.Moved version) = fault_of status.Conflict (codes "policy moved to version " ++ decimal version)

-- of a body that was not read nothing is told
abbrev pub unread_problem : Refusal → Option Problem
unread_problem submit.NotFound = no_policy
unread_problem submit.Unauthenticated = nobody
unread_problem (submit.Denied need) = denial need
unread_problem (submit.BadBody it) = None
unread_problem (submit.Refused fault) = None
unread_problem submit.Full = None
unread_problem submit.OutOfMemory = None
unread_problem (submit.Moved version) = None
