-- Laws about operations on the policy, in words of their own.
use Rattle.std.specs.Prelude.{◌≡◌, ◌<◌, ◌≤◌, ℕ, List, [], ◌∷◌, ◌++◌, length, Option, Some, None, Ok}
use Rattle.af_listing.specs.Pages.{cut}
use Rattle.af_listing.specs.Windows.{Cut}
use Rattle.af_role.specs.declared.need.Need.{Need}
use Rattle.af_policy.specs.Changes.{changed, kind_of}
use Rattle.af_policy.specs.Changes as changes
use Rattle.af_policy.specs.Grants.{missing}
use Rattle.af_policy.specs.Identity.{bearer_of}
use Rattle.af_policy.specs.Reads.{read_kind, reading_needs}
use Rattle.af_policy.specs.Rows.{PolicyRows}
use Rattle.af_policy.specs.Shown.{page_rows}
use Rattle.af_policy.specs.Versions.{VersionRows, all_versions, asked_kind}
use Rattle.af_policy.specs.declared.ask.Ask.TheVariants.{Made}
use Rattle.af_policy.specs.declared.change.Change.{Change}
use Rattle.af_ops.specs.declared.method.Method.TheVariants.{Get}
use Rattle.af_ops.specs.declared.policy_op.PolicyOp.{PolicyOp}
use Rattle.af_ops.specs.declared.policy_op.PolicyOp.TheVariants as asks
use Rattle.af_ops.specs.declared.shown_answer.Shown.{Shown}
use Rattle.af_ops.specs.PolicyFaults.{denial, nobody}
use Rattle.af_ops.specs.PolicyOps.{endpoint_of, last_place, span_of}
use Rattle.af_ops.specs.PolicyServed.{told_of, versions_after}
use Rattle.af_ops.specs.PolicyVerdicts.{Publishes, Refuses, current, policy_verdict}
use Rattle.af_ops.specs.Rows.{Problem}
use Rattle.af_ops.specs.Table.{needs_of, route_of}

-- ---- requirements

-- what the policy itself requires of who reads it or changes it; of who asks about oneself it requires nothing
abbrev pub own_needs : PolicyOp → List Need
own_needs asks.Me = []
own_needs (asks.Read asked) = reading_needs (read_kind asked)
own_needs (asks.Change ask) = changes.needs_of (asked_kind ask)
own_needs (asks.Unread kind) = changes.needs_of kind

-- the table requires of an operation on the policy what the policy does
abbrev pub PolicyNeedsAreTheTables : Type 0
PolicyNeedsAreTheTables = (asked : PolicyOp) → needs_of (endpoint_of asked) ≡ own_needs asked

-- ---- denials

-- the verdict under these versions leaves them as they are, and refuses with this fault
abbrev pub IsRefused : VersionRows → Option (List ℕ) → PolicyOp → Option Problem → Type 0
IsRefused versions token asked problem =
    (policy_verdict versions token asked ≡ Refuses problem) × (versions_after (policy_verdict versions token asked) versions ≡ versions)

-- whatever is asked, what is refused leaves the versions
abbrev pub RefusalsLeaveTheVersions : Type 0
RefusalsLeaveTheVersions =
    (versions : VersionRows) (token : Option (List ℕ)) (asked : PolicyOp) (problem : Option Problem) → policy_verdict versions token asked ≡ Refuses problem
    → versions_after (policy_verdict versions token asked) versions ≡ versions

-- whatever is asked, nobody's token is told so, and changes nothing
abbrev pub StrangersAreRefused : Type 0
StrangersAreRefused =
    (versions : VersionRows) (token : Option (List ℕ)) (asked : PolicyOp) → bearer_of versions.latest token ≡ None
    → IsRefused versions token asked nobody

-- whatever is asked, a user who lacks a requirement is told the first one lacked, and changes nothing
abbrev pub DenialsAreRefused : Type 0
DenialsAreRefused =
    (versions : VersionRows) (token : Option (List ℕ)) (asked : PolicyOp) (user : List ℕ) (need : Need) → bearer_of versions.latest token ≡ Some user
    → missing versions.latest user (needs_of (endpoint_of asked)) None [] ≡ Some need
    → IsRefused versions token asked (denial need)

-- ---- versions

-- a change that is asked for made this policy of the latest version; its author is known and lacks nothing, and a version was left
pub record MadeBy (versions : VersionRows) (token : Option (List ℕ)) (asked : PolicyOp) (policy : PolicyRows) : Type 0 where
  pub author : List ℕ
  pub change : Change
  pub is_asked : asked ≡ asks.Change (Made change)
  pub is_known : bearer_of versions.latest token ≡ Some author
  pub lacks_nothing : missing versions.latest author (changes.needs_of (kind_of change)) None [] ≡ None
  pub is_made : changed versions.latest change ≡ Ok policy
  pub is_left : length versions.earlier < versions.last

-- what makes a policy adds one version, the last, which a permitted change made of the one before
abbrev pub ChangesAddOneVersion : Type 0
ChangesAddOneVersion =
    (versions : VersionRows) (token : Option (List ℕ)) (asked : PolicyOp) (reply : Option (List ℕ)) (policy : PolicyRows)
    → policy_verdict versions token asked ≡ Publishes reply policy
    → (all_versions (versions_after (policy_verdict versions token asked) versions) ≡ all_versions versions ++ policy ∷ [])
    × MadeBy versions token asked policy

-- what is asked for by GET leaves the versions
abbrev pub ReadingsLeaveTheVersions : Type 0
ReadingsLeaveTheVersions =
    (versions : VersionRows) (token : Option (List ℕ)) (asked : PolicyOp) → (route_of (endpoint_of asked)).method ≡ Get
    → versions_after (policy_verdict versions token asked) versions ≡ versions

-- what is told names the version that is then the latest, and no number of entries
abbrev pub AnswersNameTheLatest : Type 0
AnswersNameTheLatest =
    (versions : VersionRows) (token : Option (List ℕ)) (asked : PolicyOp) (shown : Shown)
    → told_of (current versions) (policy_verdict versions token asked) ≡ Some shown
    → (shown.version ≡ Some (current (versions_after (policy_verdict versions token asked) versions))) × (shown.seq ≡ None)

-- ---- pages

-- the page of roles or users is cut as every other listing is: of no more rows than a policy has, an offset past the last number of
-- 32 bits passes over all of them
abbrev pub PolicyPagesAreCut : {X : Type 0} → List X → Type 0
PolicyPagesAreCut {X} rows = (window : Cut) → length rows ≤ last_place → page_rows (span_of window) rows ≡ cut window rows
