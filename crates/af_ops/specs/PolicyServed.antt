-- What is served of a verdict on an operation on the policy: what is told, and the versions that are left.
use Rattle.std.specs.Prelude.{◌≡◌, ℕ, ◌+◌, List, Option, Some, None, option_map}
use Rattle.serde_json.specs.Written.{compact_text}
use Rattle.af_policy.specs.Versions.{VersionRows, with_version}
use Rattle.af_ops.specs.declared.policy_op.PolicyOp.{PolicyOp}
use Rattle.af_ops.specs.declared.served.Served.{Served}
use Rattle.af_ops.specs.declared.served.Served.TheVariants as served
use Rattle.af_ops.specs.declared.shown_answer.Shown.{Shown}
use Rattle.af_ops.specs.declared.status.Status.{Status}
use Rattle.af_ops.specs.Fields.{object_of}
use Rattle.af_ops.specs.PolicyVerdicts.{PolicyVerdict, Publishes, Refuses, Tells, current, policy_verdict}
use Rattle.af_ops.specs.Rows.{Problem, problem_fields}
use Rattle.af_ops.specs.Served.{status_of}

-- what is told under a version of the policy; there is no number of entries
abbrev pub told_at : ℕ → Status → Option (List ℕ) → Shown
told_at version status body = record { status = status; version = Some version; seq = None; body = body }

abbrev pub problem_at : ℕ → Problem → Shown
problem_at version problem = told_at version problem.status (Some (compact_text (object_of (problem_fields problem))))

abbrev pub reply_at : ℕ → Option (List ℕ) → Shown
reply_at version reply = told_at version (status_of reply) reply

-- what is told of a verdict under a version: that version, and of a change the one that it makes
abbrev pub told_of : ℕ → PolicyVerdict → Option Shown
told_of version (Refuses problem) = option_map (problem_at version) problem
told_of version (Tells reply) = Some (reply_at version (Some reply))
told_of version (Publishes reply policy) = Some (reply_at (version + 1) reply)

-- the versions after a verdict
abbrev pub versions_after : PolicyVerdict → VersionRows → VersionRows
versions_after (Refuses problem) versions = versions
versions_after (Tells reply) versions = versions
versions_after (Publishes reply policy) versions = with_version versions policy

-- A verdict was served: told, and the version that it makes is made; or there was no memory, and nothing is done.
abbrev pub IsVerdictServed : PolicyVerdict → VersionRows → Served → VersionRows → Type 0
IsVerdictServed it old (served.Shown shown) new = (told_of (current old) it ≡ Some shown) × (new ≡ versions_after it old)
IsVerdictServed it old served.NothingDone new = new ≡ old

-- what the bearer of a token asks of the policy was served
abbrev pub IsPolicyServed : PolicyOp → VersionRows → Option (List ℕ) → Served → VersionRows → Type 0
IsPolicyServed asked old token served new = IsVerdictServed (policy_verdict old token asked) old served new
