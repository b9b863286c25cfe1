-- What an answer says of who asked: that nobody has the token; that the user lacks a requirement; or that the user lacks none.
use Rattle.std.proofs.Common.{◌≡◌, sym, ap, ℕ, List}
use Rattle.std.specs.Prelude.{Option, Some, None, unwrap_or}
use Rattle.af_role.specs.declared.need.Need.{Need}
use Rattle.af_policy.specs.Identity.{bearer_of}
use Rattle.af_policy.specs.Rows.{PolicyRows}
use Rattle.af_sched.specs.State.{StateRows}
use Rattle.af_ops.specs.declared.answer.CallFault.TheVariants as why
use Rattle.af_ops.specs.declared.answer.Under.{Under}
use Rattle.af_ops.specs.declared.op.Op.{Op}
use Rattle.af_ops.specs.declared.shown_answer.Shown.{Shown}
use Rattle.af_ops.specs.declared.status.Status.TheVariants.{Unauthorized, Forbidden}
use Rattle.af_ops.specs.Endpoints.{dag_of}
use Rattle.af_ops.specs.Faults.{problem_of}
use Rattle.af_ops.specs.Served.{answer_of, reply_told, status_of}
use Rattle.af_ops.specs.Standings.{with_entry}
use Rattle.af_ops.specs.Verdicts.{Verdict, Open, Stranger, Lacks, Refuses, Tells, Changes}
use Rattle.af_world.specs.Laws.{denial_text}
use Rattle.af_world.proofs.ToldLemmas.{IsOther, fault_status, other_told, plane_problem, reply_status, status_told}
use Rattle.af_world.proofs.VerdictLemmas.{Asks, Means}

pub data IsJudged (policy : PolicyRows) (token : Option (List ℕ)) (dag : Option (List ℕ)) (dags : List (List ℕ)) (needs : List Need) (shown : Shown) : Type 0 where
  Nobody : shown.status ≡ Unauthorized → bearer_of policy token ≡ None → IsJudged policy token dag dags needs shown
  Lacking : (need : Need) → shown.status ≡ Forbidden → shown.body ≡ Some (denial_text need dag) → Asks policy token dag dags needs (Some need) → IsJudged policy token dag dags needs shown
  Granted : IsOther shown.status → Asks policy token dag dags needs None → IsJudged policy token dag dags needs shown

-- the body of what is told
pub body_told : (answer : Option Shown) (shown : Shown) → answer ≡ Some shown → shown.body ≡ (unwrap_or answer shown).body
body_told answer shown e = sym (ap (λ (o : Option Shown). (unwrap_or o shown).body) e)

-- the answer to what is decided in the plane
module _ (policy : PolicyRows) (token : Option (List ℕ)) (dags : List (List ℕ)) (needs : List Need) (Made : StateRows → Type 0) (asked : Op) (under : Under) (shown : Shown) where
  pub judged_answer : (it : Verdict) → Means policy token (dag_of asked) dags needs Made it → answer_of asked under it ≡ Some shown → IsJudged policy token (dag_of asked) dags needs shown
  judged_answer (Open reply) m e = absurd m
  judged_answer Stranger m e = Nobody (status_told (answer_of asked under Stranger) shown e) m
  judged_answer (Lacks need) m e =
      Lacking need (status_told (answer_of asked under (Lacks need)) shown e) (body_told (answer_of asked under (Lacks need)) shown e) m
  judged_answer (Refuses it) m e = Granted (plane_problem under shown (problem_of asked (why.Op it)) (fault_status asked it) e) m
  judged_answer (Tells reply) m e =
      Granted (other_told (status_of reply) shown.status (reply_status reply) (status_told (Some (reply_told under reply)) shown e)) m
  judged_answer (Changes reply next) m e =
      Granted (other_told (status_of reply) shown.status (reply_status reply) (status_told (Some (reply_told (with_entry under) reply)) shown e)) m.0
