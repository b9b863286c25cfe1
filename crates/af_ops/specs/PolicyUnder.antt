-- What is told of an operation on the policy under one of its versions, whichever is the latest (this product's own rule, after Airflow 2,
-- "Access Control").
use Rattle.std.specs.Prelude.{◌≡◌, ◌⊎◌, ℕ, List, true, Option, Some, None, option_map, Result, Ok, Err, IsOk, nat_le, if◌then◌else◌}
use Rattle.serde_json.specs.Written.{compact_text}
use Rattle.af_policy.specs.Reads.{me_of, read_of}
use Rattle.af_policy.specs.Rows.{PolicyRows}
use Rattle.af_policy.specs.Versions.{VersionRows, decided, decided_wants}
use Rattle.af_policy.specs.declared.ask.Ask.{Ask}
use Rattle.af_policy.specs.declared.ask.Ask.TheVariants.{Bad}
use Rattle.af_policy.specs.declared.bad_input.BadInput.TheVariants as input
use Rattle.af_policy.specs.declared.refusal.Refusal.{Refusal}
use Rattle.af_policy.specs.declared.refusal.Refusal.TheVariants.{Full, OutOfMemory}
use Rattle.af_ops.specs.declared.policy_op.PolicyOp.{PolicyOp}
use Rattle.af_ops.specs.declared.policy_op.PolicyOp.TheVariants as asks
use Rattle.af_ops.specs.declared.served.Served.{Served}
use Rattle.af_ops.specs.declared.served.Served.TheVariants as served
use Rattle.af_ops.specs.declared.shown_answer.Shown.{Shown}
use Rattle.af_ops.specs.Fields.{object_of}
use Rattle.af_ops.specs.PolicyFaults.{no_policy}
use Rattle.af_ops.specs.PolicyServed.{told_of}
use Rattle.af_ops.specs.PolicyVerdicts.{PolicyVerdict, Publishes, Refuses, Tells, change_verdict, current, me_verdict, policy_verdict, read_verdict, unread_verdict}
use Rattle.af_ops.specs.Rows.{Problem, problem_fields}

-- a change that makes a policy is refused under a version that is the last possible one
abbrev pub with_room : ℕ → ℕ → Result PolicyRows Refusal → Result PolicyRows Refusal
with_room version last (Err fault) = Err fault
with_room version last (Ok policy) = if nat_le last version then Err Full else Ok policy

-- the verdict under a policy, which is the version of this number, where that of the last possible version is this one
abbrev pub verdict_under : ℕ → ℕ → PolicyRows → Option (List ℕ) → PolicyOp → PolicyVerdict
verdict_under version last policy token asks.Me = me_verdict version (me_of policy token)
verdict_under version last policy token (asks.Read asked) = read_verdict asked (read_of policy token asked)
verdict_under version last policy token (asks.Change ask) = change_verdict version ask (with_room version last (decided policy token ask))
verdict_under version last policy token (asks.Unread kind) = unread_verdict (decided policy token (Bad kind input.Body))

-- this is told of a verdict that makes no version
abbrev pub IsTold : ℕ → PolicyVerdict → Shown → Type 0
IsTold version (Refuses problem) shown = told_of version (Refuses problem) ≡ Some shown
IsTold version (Tells reply) shown = told_of version (Tells reply) ≡ Some shown
IsTold version (Publishes reply policy) shown = ⊥

-- a verdict that makes no version was told under this one; or there was no memory
abbrev pub IsToldUnder : ℕ → PolicyVerdict → Served → Type 0
IsToldUnder version it (served.Shown shown) = IsTold version it shown
IsToldUnder version it served.NothingDone = Unit {0}

-- where memory may be wanted for a change: to decide it may take memory, or it is not refused
abbrev pub MayWant : PolicyRows → Option (List ℕ) → Ask → Result PolicyRows Refusal → Type 0
MayWant policy token ask outcome = (decided_wants policy token ask ≡ true) ⊎ IsOk outcome

-- a change whose body was not read makes no version for this reason: who asks, or what is lacked, and then that there was no memory
abbrev pub IsUnreadRefused : PolicyRows → Option (List ℕ) → Ask → Refusal → Type 0
IsUnreadRefused policy token ask fault =
    (decided policy token ask ≡ Err fault) ⊎ (MayWant policy token ask (decided policy token ask) × (fault ≡ OutOfMemory))

-- what is told under no version
abbrev pub openly_problem : Problem → Shown
openly_problem problem = record {
  status = problem.status;
  version = None;
  seq = None;
  body = Some (compact_text (object_of (problem_fields problem)));
}

-- it was told, under no version, that there is no policy; or there was no memory
abbrev pub IsNoPolicyTold : Served → Type 0
IsNoPolicyTold (served.Shown shown) = option_map openly_problem no_policy ≡ Some shown
IsNoPolicyTold served.NothingDone = Unit {0}

-- the verdict under the latest of the versions is the one under that policy and its number
abbrev pub VerdictsAreUnderTheLatest : Type 0
VerdictsAreUnderTheLatest =
    (versions : VersionRows) (token : Option (List ℕ)) (asked : PolicyOp)
    → policy_verdict versions token asked ≡ verdict_under (current versions) versions.last versions.latest token asked
