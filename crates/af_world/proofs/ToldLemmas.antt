-- What is told of a verdict: which version it names, and which status it has.
use Rattle.std.proofs.Common.{◌≡◌, ◌≢◌, refl, sym, ap, subst, ℕ, List}
use Rattle.std.specs.Prelude.{⊤, Option, Some, None, option_map, unwrap_or}
use Rattle.af_policy.specs.declared.ask.Ask.{Ask}
use Rattle.af_policy.specs.declared.change_fault.ChangeFault.{ChangeFault}
use Rattle.af_policy.specs.declared.change_fault.ChangeFault.TheVariants as change
use Rattle.af_policy.specs.declared.refusal.Refusal.{Refusal}
use Rattle.af_policy.specs.declared.refusal.Refusal.TheVariants as submit
use Rattle.af_ops.specs.declared.answer.CallFault.TheVariants as why
use Rattle.af_ops.specs.declared.answer.OpFault.{OpFault}
use Rattle.af_ops.specs.declared.answer.OpFault.TheVariants as fault
use Rattle.af_ops.specs.declared.answer.Under.{Under}
use Rattle.af_ops.specs.declared.op.Op.{Op}
use Rattle.af_ops.specs.declared.shown_answer.Shown.{Shown}
use Rattle.af_ops.specs.declared.status.Status.{Status}
use Rattle.af_ops.specs.declared.status.Status.TheVariants.{Unauthorized, Forbidden, NoContent}
use Rattle.af_ops.specs.declared.status.Status.TheVariants as status
use Rattle.af_ops.specs.Faults.{problem_of}
use Rattle.af_ops.specs.PolicyFaults.{asked_name, change_problem, submit_problem}
use Rattle.af_ops.specs.PolicyServed.{problem_at}
use Rattle.af_ops.specs.Rows.{Problem}
use Rattle.af_ops.specs.Served.{answer_of, problem_told, status_of}
use Rattle.af_ops.specs.Verdicts.{Verdict, Open, Stranger, Lacks, Refuses, Tells, Changes}
use Rattle.af_world.proofs.VerdictLemmas.{IsClosed}

-- ---- versions

-- an answer names this version, or nothing is told where there is no memory
abbrev pub Names : ℕ → Option Shown → Type 0
Names version None = ⊤
Names version (Some shown) = shown.version ≡ Some version

names_fault : (under : Under) (problem : Option Problem) → Names under.version (option_map (problem_told under) problem)
names_fault under None = tt
names_fault under (Some problem) = refl

pub names_answer : (asked : Op) (under : Under) (it : Verdict) → IsClosed it → Names under.version (answer_of asked under it)
names_answer asked under (Open reply) closed = absurd closed
names_answer asked under Stranger closed = names_fault under (problem_of asked why.Unauthenticated)
names_answer asked under (Lacks need) closed = names_fault under (problem_of asked (why.Denied need))
names_answer asked under (Refuses it) closed = names_fault under (problem_of asked (why.Op it))
names_answer asked under (Tells reply) closed = refl
names_answer asked under (Changes reply next) closed = refl

pub names_problem : (version : ℕ) (problem : Option Problem) → Names version (option_map (problem_at version) problem)
names_problem version None = tt
names_problem version (Some problem) = refl

-- ---- statuses

-- neither 401 nor 403
abbrev pub IsOther : Status → Type 0
IsOther it = (it ≢ Unauthorized) × (it ≢ Forbidden)

-- neither 200 nor 204
abbrev pub IsFault : Status → Type 0
IsFault it = (it ≢ status.Ok) × (it ≢ NoContent)

-- the status of what is told
pub status_told : (answer : Option Shown) (shown : Shown) → answer ≡ Some shown → shown.status ≡ (unwrap_or answer shown).status
status_told answer shown e = sym (ap (λ (o : Option Shown). (unwrap_or o shown).status) e)

pub other_told : (one it : Status) → IsOther one → it ≡ one → IsOther it
other_told one it other same = subst IsOther (sym same) other

pub reply_status : (reply : Option (List ℕ)) → IsOther (status_of reply)
reply_status None = (λ e. cc, λ e. cc)
reply_status (Some text) = (λ e. cc, λ e. cc)

abbrev pub IsOtherProblem : Option Problem → Type 0
IsOtherProblem None = ⊤
IsOtherProblem (Some problem) = IsOther problem.status

abbrev pub IsFaultProblem : Option Problem → Type 0
IsFaultProblem None = ⊤
IsFaultProblem (Some problem) = IsFault problem.status

pub fault_status : (asked : Op) (it : OpFault) → IsOtherProblem (problem_of asked (why.Op it))
fault_status asked fault.OutOfMemory = tt
fault_status asked it = (λ e. cc, λ e. cc)

pub plane_problem : (under : Under) (shown : Shown) (problem : Option Problem) → IsOtherProblem problem → option_map (problem_told under) problem ≡ Some shown → IsOther shown.status
plane_problem under shown None other e = absurd (cc)
plane_problem under shown (Some problem) other e = other_told problem.status shown.status other (status_told (Some (problem_told under problem)) shown e)

pub policy_problem : (version : ℕ) (shown : Shown) (problem : Option Problem) → IsOtherProblem problem → option_map (problem_at version) problem ≡ Some shown → IsOther shown.status
policy_problem version shown None other e = absurd (cc)
policy_problem version shown (Some problem) other e = other_told problem.status shown.status other (status_told (Some (problem_at version problem)) shown e)

pub policy_fault : (version : ℕ) (shown : Shown) (problem : Option Problem) → IsFaultProblem problem → option_map (problem_at version) problem ≡ Some shown → IsFault shown.status
policy_fault version shown None is e = absurd (cc)
policy_fault version shown (Some problem) is e = subst IsFault (sym (status_told (Some (problem_at version problem)) shown e)) is

-- ---- faults of operations on the state

pub op_fault_status : (asked : Op) (it : OpFault) → IsFaultProblem (problem_of asked (why.Op it))
op_fault_status asked fault.OutOfMemory = tt
op_fault_status asked it = (λ e. cc, λ e. cc)

pub plane_fault : (under : Under) (shown : Shown) (problem : Option Problem) → IsFaultProblem problem → option_map (problem_told under) problem ≡ Some shown → IsFault shown.status
plane_fault under shown None is e = absurd (cc)
plane_fault under shown (Some problem) is e = subst IsFault (sym (status_told (Some (problem_told under problem)) shown e)) is

-- ---- faults of changes

change_status : (name : List ℕ) (it : ChangeFault) → IsFaultProblem (change_problem name it)
change_status name change.OutOfMemory = tt
change_status name it = (λ e. cc, λ e. cc)

pub submit_status : (ask : Ask) (it : Refusal) → IsFaultProblem (submit_problem ask it)
submit_status ask (submit.Refused it) = change_status (asked_name ask) it
submit_status ask submit.OutOfMemory = tt
submit_status ask it = (λ e. cc, λ e. cc)
