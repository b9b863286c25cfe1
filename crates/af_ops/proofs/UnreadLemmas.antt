-- An operation whose body was not read names what the whole one names; it is the whole one where none is read, and else wants
-- memory, whatever the state.
use Rattle.std.proofs.Common.{◌≡◌, ◌⊎◌, inl, inr, refl, ℕ}
use Rattle.std.specs.Prelude.{Err}
use Rattle.af_sched.specs.State.{StateRows}
use Rattle.af_policy.specs.Grants.{Readable}
use Rattle.af_ops.specs.declared.answer.OpFault.TheVariants.{OutOfMemory}
use Rattle.af_ops.specs.declared.op.Op.{Op}
use Rattle.af_ops.specs.declared.op.Op.TheVariants as op
use Rattle.af_ops.specs.declared.pool_op.PoolOp.TheVariants as pool_op
use Rattle.af_ops.specs.declared.variable_op.VariableOp.TheVariants as variable_op
use Rattle.af_ops.specs.Effects.{effect_of}
use Rattle.af_ops.specs.Endpoints.{dag_of, endpoint_of, unread}

-- for every reader, state and moment
abbrev pub WantsMemory : Op → Type 0
WantsMemory asked = (reads : Readable) (state : StateRows) (now : ℕ) → effect_of reads state asked now ≡ Err OutOfMemory

-- what an operation without its body has of the whole one
pub record IsUnread (whole half : Op) : Type 0 where
  pub endpoint : endpoint_of half ≡ endpoint_of whole
  pub dag : dag_of half ≡ dag_of whole
  pub effect : (half ≡ whole) ⊎ WantsMemory half

same : (asked : Op) → IsUnread asked asked
same asked = record { endpoint = refl; dag = refl; effect = inl refl }

pub unread_is : (asked : Op) → IsUnread asked (unread asked)
unread_is op.Version = same _
unread_is (op.ListDags asked) = same _
unread_is (op.GetDag dag_id) = same _
unread_is (op.PauseDag dag_id body) = record { endpoint = refl; dag = refl; effect = inr (λ reads state now. refl) }
unread_is (op.ListTasks dag_id) = same _
unread_is (op.ListRuns dag asked) = same _
unread_is (op.TriggerRun dag_id body) = record { endpoint = refl; dag = refl; effect = inr (λ reads state now. refl) }
unread_is (op.GetRun dag_id run_id) = same _
unread_is (op.MarkRun dag_id run_id body) = record { endpoint = refl; dag = refl; effect = inr (λ reads state now. refl) }
unread_is (op.DeleteRun dag_id run_id) = same _
unread_is (op.ClearRun dag_id run_id body) = record { endpoint = refl; dag = refl; effect = inr (λ reads state now. refl) }
unread_is (op.ListInstances dag_id run_id asked) = same _
unread_is (op.GetInstance dag_id run_id task_id) = same _
unread_is (op.ClearInstances dag_id body) = record { endpoint = refl; dag = refl; effect = inr (λ reads state now. refl) }
unread_is (op.BackfillDag dag_id body) = record { endpoint = refl; dag = refl; effect = inr (λ reads state now. refl) }
unread_is (op.Pool (pool_op.List asked)) = same _
unread_is (op.Pool (pool_op.Add body)) = record { endpoint = refl; dag = refl; effect = inr (λ reads state now. refl) }
unread_is (op.Pool (pool_op.Get name)) = same _
unread_is (op.Pool (pool_op.Change name body)) = record { endpoint = refl; dag = refl; effect = inr (λ reads state now. refl) }
unread_is (op.Pool (pool_op.Delete name)) = same _
unread_is (op.Variable (variable_op.List asked)) = same _
unread_is (op.Variable (variable_op.Add body)) = record { endpoint = refl; dag = refl; effect = inr (λ reads state now. refl) }
unread_is (op.Variable (variable_op.Get key)) = same _
unread_is (op.Variable (variable_op.Change key body)) = record { endpoint = refl; dag = refl; effect = inr (λ reads state now. refl) }
unread_is (op.Variable (variable_op.Delete key)) = same _
