-- What is served of a verdict: what is told, and how the server stands after it.
use Rattle.std.specs.Prelude.{◌≡◌, ℕ, List, Option, Some, None, option_map, ⊤}
use Rattle.serde_json.specs.Written.{compact_text}
use Rattle.af_ops.specs.declared.answer.CallFault.{CallFault}
use Rattle.af_ops.specs.declared.answer.CallFault.TheVariants as why
use Rattle.af_ops.specs.declared.answer.Under.{Under}
use Rattle.af_ops.specs.declared.op.Op.{Op}
use Rattle.af_ops.specs.declared.served.Served.{Served}
use Rattle.af_ops.specs.declared.served.Served.TheVariants as served
use Rattle.af_ops.specs.declared.shown_answer.Shown.{Shown}
use Rattle.af_ops.specs.declared.status.Status.{Status}
use Rattle.af_ops.specs.declared.status.Status.TheVariants as status
use Rattle.af_ops.specs.Faults.{problem_of}
use Rattle.af_ops.specs.Fields.{object_of}
use Rattle.af_ops.specs.Rows.{Problem, problem_fields}
use Rattle.af_ops.specs.Standings.{StandingRows, with_entry}
use Rattle.af_ops.specs.Verdicts.{Verdict, Open, Stranger, Lacks, Refuses, Tells, Changes}

-- what was decided under a policy version names it, and how many entries there are
abbrev pub told_under : Under → Status → List ℕ → Shown
told_under under status body = record { status = status; version = Some under.version; seq = Some under.seq; body = Some body }

-- the status of a reply (RFC 9110, sections 15.3.1 and 15.3.5)
abbrev pub status_of : Option (List ℕ) → Status
status_of None = status.NoContent
status_of (Some text) = status.Ok

-- the reply of what is done
abbrev pub reply_told : Under → Option (List ℕ) → Shown
reply_told under reply = record { status = status_of reply; version = Some under.version; seq = Some under.seq; body = reply }

-- what is decided under no policy
abbrev pub told_openly : Option (List ℕ) → Shown
told_openly reply = record { status = status_of reply; version = None; seq = None; body = reply }

abbrev pub problem_told : Under → Problem → Shown
problem_told under problem = told_under under problem.status (compact_text (object_of (problem_fields problem)))

-- what is told of a fault
abbrev pub fault_told : Op → Under → CallFault → Option Shown
fault_told asked under fault = option_map (problem_told under) (problem_of asked fault)

-- what is told of a verdict; the answer to a change counts its own entry
abbrev pub answer_of : Op → Under → Verdict → Option Shown
answer_of asked under (Open reply) = Some (told_openly reply)
answer_of asked under Stranger = fault_told asked under why.Unauthenticated
answer_of asked under (Lacks need) = fault_told asked under (why.Denied need)
answer_of asked under (Refuses fault) = fault_told asked under (why.Op fault)
answer_of asked under (Tells reply) = Some (reply_told under reply)
answer_of asked under (Changes reply next) = Some (reply_told (with_entry under) reply)

-- how the server stands after a verdict
abbrev pub left_by : Verdict → StandingRows → StandingRows
left_by (Open reply) standing = standing
left_by Stranger standing = standing
left_by (Lacks need) standing = standing
left_by (Refuses fault) standing = standing
left_by (Tells reply) standing = standing
left_by (Changes reply next) standing = record { under = with_entry standing.under; state = next }

abbrev pub IsChange : Verdict → Type 0
IsChange (Open reply) = ⊥
IsChange Stranger = ⊥
IsChange (Lacks need) = ⊥
IsChange (Refuses fault) = ⊥
IsChange (Tells reply) = ⊥
IsChange (Changes reply next) = ⊤

-- The verdict was served: told, and all that it changes is done; or there was no memory, and nothing is done.
abbrev pub IsServed : Op → Verdict → StandingRows → Served → StandingRows → Type 0
IsServed asked it old (served.Shown shown) new = (answer_of asked old.under it ≡ Some shown) × (new ≡ left_by it old)
IsServed asked it old served.NothingDone new = new ≡ old
