-- The versions of a policy: who asks for a change, what comes of it, and what the list of versions keeps.
use Rattle.std.specs.Prelude.{◌≡◌, ℕ, Bool, false, List, [], ◌∷◌, ◌++◌, length, nat_le, Option, Some, None, Result, Ok, Err, if◌then◌else◌}
use Rattle.af_role.specs.declared.need.Need.{Need}
use Rattle.af_policy.specs.Rows.{PolicyRows}
use Rattle.af_policy.specs.Grants.{missing}
use Rattle.af_policy.specs.Identity.{bearer_of}
use Rattle.af_policy.specs.Changes.{changed, kind_of, may_want_memory, needs_of}
use Rattle.af_policy.specs.declared.change.Change.{Change}
use Rattle.af_policy.specs.declared.change_kind.ChangeKind.{ChangeKind}
use Rattle.af_policy.specs.declared.change_fault.ChangeFault.{ChangeFault}
use Rattle.af_policy.specs.declared.change_fault.ChangeFault.TheVariants as change
use Rattle.af_policy.specs.declared.ask.Ask.{Ask}
use Rattle.af_policy.specs.declared.decision.Decision.{Decision}
use Rattle.af_policy.specs.declared.ask.Ask.TheVariants.{Made, Bad}
use Rattle.af_policy.specs.declared.refusal.Refusal.{Refusal}
use Rattle.af_policy.specs.declared.refusal.Refusal.TheVariants.{NotFound, Unauthenticated, Denied, BadBody, Refused, Full, OutOfMemory, Moved}

abbrev pub asked_kind : Ask → ChangeKind
asked_kind (Made change) = kind_of change
asked_kind (Bad kind input) = kind

-- out of memory is told as such
abbrev pub refused_by : ChangeFault → Refusal
refused_by (change.BadAction text) = Refused (change.BadAction text)
refused_by (change.PairNotAllowed text) = Refused (change.PairNotAllowed text)
refused_by (change.UnknownRole name) = Refused (change.UnknownRole name)
refused_by change.NoSuchRole = Refused change.NoSuchRole
refused_by change.NoSuchUser = Refused change.NoSuchUser
refused_by change.DefaultRole = Refused change.DefaultRole
refused_by change.Exists = Refused change.Exists
refused_by change.RoleInUse = Refused change.RoleInUse
refused_by change.LastAdmin = Refused change.LastAdmin
refused_by change.TooMany = Refused change.TooMany
refused_by change.OutOfMemory = OutOfMemory

abbrev pub made_or_refused : Result PolicyRows ChangeFault → Result PolicyRows Refusal
made_or_refused (Ok policy) = Ok policy
made_or_refused (Err fault) = Err (refused_by fault)

abbrev pub permitted : PolicyRows → Ask → Result PolicyRows Refusal
permitted policy (Bad kind input) = Err (BadBody input)
permitted policy (Made change) = made_or_refused (changed policy change)

abbrev pub unless_lacked : PolicyRows → Ask → Option Need → Result PolicyRows Refusal
unless_lacked policy ask (Some need) = Err (Denied need)
unless_lacked policy ask None = permitted policy ask

abbrev pub asked_by : PolicyRows → Ask → Option (List ℕ) → Result PolicyRows Refusal
asked_by policy ask None = Err Unauthenticated
asked_by policy ask (Some user) = unless_lacked policy ask (missing policy user (needs_of (asked_kind ask)) None [])

-- what a change that is asked for under a policy comes to: nobody's token; the first requirement that its author lacks; a
-- body that is none; the first fault of the change; or the next policy
abbrev pub decided : PolicyRows → Option (List ℕ) → Ask → Result PolicyRows Refusal
decided policy token ask = asked_by policy ask (bearer_of policy token)

-- where out of memory may be told in the place of what follows: the author lacks nothing, the body is a change, and that
-- change may want memory
abbrev pub permitted_wants : PolicyRows → Ask → Bool
permitted_wants policy (Bad kind input) = false
permitted_wants policy (Made change) = may_want_memory policy change

abbrev pub unlacked_wants : PolicyRows → Ask → Option Need → Bool
unlacked_wants policy ask (Some need) = false
unlacked_wants policy ask None = permitted_wants policy ask

abbrev pub asked_wants : PolicyRows → Ask → Option (List ℕ) → Bool
asked_wants policy ask None = false
asked_wants policy ask (Some user) = unlacked_wants policy ask (missing policy user (needs_of (asked_kind ask)) None [])

abbrev pub decided_wants : PolicyRows → Option (List ℕ) → Ask → Bool
decided_wants policy token ask = asked_wants policy ask (bearer_of policy token)

-- what a change that is asked for comes to where it is made: whose token it is; the change; that its author lacks nothing; and
-- the policy that it makes
pub record Decides (policy : PolicyRows) (token : Option (List ℕ)) (ask : Ask) (d : Decision) : Type 0 where
  pub author : bearer_of policy token ≡ Some d.author
  pub asked : ask ≡ Made d.change
  pub lacks_nothing : missing policy d.author (needs_of (kind_of d.change)) None [] ≡ None
  pub made : changed policy d.change ≡ Ok d.policy
  pub decided : decided policy token ask ≡ Ok d.policy

-- a fault of deciding: one that is told whatever other versions there are
abbrev pub IsDecided : Refusal → Type 0
IsDecided NotFound = ⊥
IsDecided Unauthenticated = Unit {0}
IsDecided (Denied need) = Unit {0}
IsDecided (BadBody input) = Unit {0}
IsDecided (Refused fault) = Unit {0}
IsDecided Full = ⊥
IsDecided OutOfMemory = Unit {0}
IsDecided (Moved version) = ⊥

-- a later policy follows one: some author, who lacks nothing under it for a change, makes that change
pub record Follows (policy later : PolicyRows) : Type 0 where
  pub author : List ℕ
  pub change : Change
  pub lacks_nothing : missing policy author (needs_of (kind_of change)) None [] ≡ None
  pub made : changed policy change ≡ Ok later

-- the policies but the latest, the latest, and the greatest number that a version may have
pub record VersionRows : Type 0 where
  pub earlier : List PolicyRows
  pub latest : PolicyRows
  pub last : ℕ

-- version k is the k-th
abbrev pub all_versions : VersionRows → List PolicyRows
all_versions versions = versions.earlier ++ versions.latest ∷ []

abbrev pub first_of : List PolicyRows → PolicyRows → PolicyRows
first_of [] latest = latest
first_of (policy ∷ policies) latest = policy

-- each policy follows the one before it
unfoldable pub IsHistory : List PolicyRows → PolicyRows → Type 0
IsHistory [] latest = Unit {0}
IsHistory (policy ∷ policies) latest = Follows policy (first_of policies latest) × IsHistory policies latest

abbrev pub within : VersionRows → Result PolicyRows Refusal → Result PolicyRows Refusal
within versions (Err fault) = Err fault
within versions (Ok policy) = if nat_le versions.last (length versions.earlier) then Err Full else Ok policy

-- what a change that is asked for comes to at the latest version: as decided there, or that no version is left
abbrev pub submitted : VersionRows → Option (List ℕ) → Ask → Result PolicyRows Refusal
submitted versions token ask = within versions (decided versions.latest token ask)

-- the versions with one more
abbrev pub with_version : VersionRows → PolicyRows → VersionRows
with_version versions policy = record { earlier = versions.earlier ++ versions.latest ∷ []; latest = policy; last = versions.last }
