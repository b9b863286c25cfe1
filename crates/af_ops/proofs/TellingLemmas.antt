-- What is told of a fault is its problem.
use Rattle.std.proofs.Common.{◌≡◌, ◌∙◌, ℕ, List, ap, sym}
use Rattle.std.specs.Prelude.{Some, Result, Ok, Err, IfOk, option_map}
use Rattle.std.specs.declared.alloc.AllocError.{AllocError}
use Rattle.af_ops.specs.declared.answer.CallFault.{CallFault}
use Rattle.af_ops.specs.declared.answer.CallFault.TheVariants as why
use Rattle.af_ops.specs.declared.answer.OpFault.{OpFault}
use Rattle.af_ops.specs.declared.answer.Under.{Under}
use Rattle.af_ops.specs.declared.op.Op.{Op}
use Rattle.af_ops.specs.declared.shown_answer.Shown.{Shown}
use Rattle.af_ops.specs.Faults.{fault_of, op_status, problem_of}
use Rattle.af_ops.specs.Rows.{Problem}
use Rattle.af_ops.specs.Served.{fault_told, problem_told}

pub told_is : (asked : Op) (under : Under) (fault : CallFault) (problem : Problem) (r : Result Shown AllocError) → problem_of asked fault ≡ Some problem → IfOk r (λ shown. shown ≡ problem_told under problem) → IfOk r (λ shown. fault_told asked under fault ≡ Some shown)
told_is asked under fault problem (Ok shown) is told = ap (option_map (problem_told under)) is ∙ ap Some (sym told)
told_is asked under fault problem (Err e) is told = told

-- a text that spells the detail of a fault spells its problem
pub detail_is : {X : Type 0} (bytes : X → List ℕ) (asked : Op) (fault : OpFault) (detail : List ℕ) (r : Result X AllocError) → problem_of asked (why.Op fault) ≡ fault_of (op_status fault) detail → IfOk r (λ text. bytes text ≡ detail)
    → IfOk r (λ text. problem_of asked (why.Op fault) ≡ fault_of (op_status fault) (bytes text))
detail_is bytes asked fault detail (Ok text) is told = is ∙ ap (λ (d : List ℕ). fault_of (op_status fault) d) (sym told)
detail_is bytes asked fault detail (Err e) is told = told
