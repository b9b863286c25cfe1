-- The operations on pools, with what a request says of them.
use Rattle.std.specs.Prelude.{ℕ, List, [], Result, Ok, Err}
use Rattle.af_pool.specs.declared.pool.Pool.{Pool}
use Rattle.af_ops.specs.declared.body_fault.BodyFault.{BodyFault}
use Rattle.af_ops.specs.declared.body_fault.BodyFault.TheVariants.{OutOfMemory}
use Rattle.af_ops.specs.declared.endpoint.Endpoint.{Endpoint}
use Rattle.af_ops.specs.declared.endpoint.Endpoint.TheVariants as endpoint
use Rattle.af_ops.specs.declared.pool_op.PoolOp.{PoolOp}
use Rattle.af_ops.specs.declared.pool_op.PoolOp.TheVariants as pool_op

abbrev pub endpoint_of : PoolOp → Endpoint
endpoint_of (pool_op.List asked) = endpoint.ListPools
endpoint_of (pool_op.Add input) = endpoint.AddPool
endpoint_of (pool_op.Get name) = endpoint.GetPool
endpoint_of (pool_op.Change name input) = endpoint.ChangePool
endpoint_of (pool_op.Delete name) = endpoint.DeletePool

abbrev pub added_name : Result Pool BodyFault → List ℕ
added_name (Ok pool) = pool.name
added_name (Err fault) = []

-- the name of the pool that it is about, in its path or in its body; no text where there is none
abbrev pub name_of : PoolOp → List ℕ
name_of (pool_op.List asked) = []
name_of (pool_op.Add input) = added_name input
name_of (pool_op.Get name) = name
name_of (pool_op.Change name input) = name
name_of (pool_op.Delete name) = name

-- the same operation, whose body was not read for lack of memory
abbrev pub unread : PoolOp → PoolOp
unread (pool_op.List asked) = pool_op.List asked
unread (pool_op.Add input) = pool_op.Add (Err OutOfMemory)
unread (pool_op.Get name) = pool_op.Get name
unread (pool_op.Change name input) = pool_op.Change name (Err OutOfMemory)
unread (pool_op.Delete name) = pool_op.Delete name
