-- A page that is shown is of the rows that stand in the state, or in the policy, and is shown to who may read them.
use Rattle.std.proofs.Common.{refl, []}
use Rattle.std.specs.Prelude.{None, Ok}
use Rattle.serde_json.specs.Written.{compact_text}
use Rattle.af_role.specs.declared.resource.ResourceKind.TheVariants.{Pools, Roles, Users, Variables}
use Rattle.af_policy.specs.declared.policy_read.PolicyRead.TheVariants as read
use Rattle.af_policy.specs.Identity.{bearer_of}
use Rattle.af_sched.specs.State.{StateRows}
use Rattle.af_ops.specs.declared.op.Op.TheVariants as op
use Rattle.af_ops.specs.declared.policy_op.PolicyOp.TheVariants as asks
use Rattle.af_ops.specs.declared.pool_op.PoolOp.TheVariants as pool
use Rattle.af_ops.specs.declared.variable_op.VariableOp.TheVariants as variable
use Rattle.af_ops.specs.PolicyVerdicts.{policy_verdict}
use Rattle.af_ops.specs.PoolEffects.{pools_data}
use Rattle.af_ops.specs.VariableEffects.{variables_data}
use Rattle.af_ops.specs.Verdicts.{dag_ids}
use Rattle.af_world.specs.OneRow.{ReadsAll, ShownTo}
use Rattle.af_world.specs.Pages.{IsOfPools, IsOfRoles, IsOfUsers, IsOfVariables, PagesShownStand, PolicyPagesShownStand}
use Rattle.af_world.proofs.OneRowLemmas.{met_says, read_bearer, reads_one, text_shown}
use Rattle.af_world.proofs.TextLemmas.{op_tells}

pub pages_stand : PagesShownStand
pages_stand w s token window t m shown e ok =
    let state : StateRows = w.ledger.state in (
      λ is.
          let it = op_tells w token (op.Pool (pool.List (Ok window))) t (λ policy user. IsOfPools state window) shown ok refl (λ policy user. (compact_text (pools_data window state), refl, refl, refl)) s m is e in
          record {
            policy = it.policy;
            user = it.user;
            text = it.text;
            under = it.under;
            bearer = it.bearer;
            may = reads_one it.policy it.user None (dag_ids state) Pools (λ c. cc, λ c. cc) it.lacks;
            body = it.body;
            is = it.is;
          },
      λ is.
          let it = op_tells w token (op.Variable (variable.List (Ok window))) t (λ policy user. IsOfVariables state window) shown ok refl (λ policy user. (compact_text (variables_data window state.variables), refl, refl, refl)) s m is e in
          record {
            policy = it.policy;
            user = it.user;
            text = it.text;
            under = it.under;
            bearer = it.bearer;
            may = reads_one it.policy it.user None (dag_ids state) Variables (λ c. cc, λ c. cc) it.lacks;
            body = it.body;
            is = it.is;
          },
    )

pub policy_pages_stand : PolicyPagesShownStand
policy_pages_stand w s token span m shown e ok = (
  λ is.
      met_says w s m shown (policy_verdict w.versions token (asks.Read (read.Roles span))) (ShownTo w token shown (ReadsAll Roles) (IsOfRoles span)) is e
      (read_bearer w token shown ok (read.Roles span) (ReadsAll Roles) (IsOfRoles span)
      (λ user bearer lacks. text_shown w token shown ok (ReadsAll Roles) (IsOfRoles span) user _ bearer (reads_one w.versions.latest user None [] Roles (λ c. cc, λ c. cc) lacks) refl)
      (bearer_of w.versions.latest token) refl),
  λ is.
      met_says w s m shown (policy_verdict w.versions token (asks.Read (read.Users span))) (ShownTo w token shown (ReadsAll Users) (IsOfUsers span)) is e
      (read_bearer w token shown ok (read.Users span) (ReadsAll Users) (IsOfUsers span)
      (λ user bearer lacks. text_shown w token shown ok (ReadsAll Users) (IsOfUsers span) user _ bearer (reads_one w.versions.latest user None [] Users (λ c. cc, λ c. cc) lacks) refl)
      (bearer_of w.versions.latest token) refl),
)
