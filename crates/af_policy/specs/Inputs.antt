-- What the parameters and members of requests about policies are called.
use Rattle.std.specs.Prelude.{ℕ, List, codes}
use Rattle.af_policy.specs.declared.bad_input.Parameter.{Parameter}
use Rattle.af_policy.specs.declared.bad_input.Parameter.TheVariants.{Limit, Offset}
use Rattle.af_policy.specs.declared.bad_input.Member.{Member}
use Rattle.af_policy.specs.declared.bad_input.Member.TheVariants.{Name, Actions, Username, Roles, TokenSha256, AccessControl}

abbrev pub parameter_text : Parameter → List ℕ
parameter_text Limit = codes "limit"
parameter_text Offset = codes "offset"

abbrev pub member_text : Member → List ℕ
member_text Name = codes "name"
member_text Actions = codes "actions"
member_text Username = codes "username"
member_text Roles = codes "roles"
member_text TokenSha256 = codes "token_sha256"
member_text AccessControl = codes "access_control"
