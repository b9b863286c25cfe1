-- What was read so far of the lists that make the state: the pools, the variables, the DAGs with their scripts (this product's own rule).
use Rattle.std.specs.Prelude.{List, [], ◌∷◌, Bool, false, Option, Some, None, Result, Ok, Err}
use Rattle.af_pool.specs.Pools.{default_name}
use Rattle.af_sched.specs.Scripts.{ScriptRow}
use Rattle.af_sched.specs.State.{StateRows}
use Rattle.af_server.specs.declared.reason.Reason.{Reason}

pub record Draft : Type 0 where
  pub state : StateRows
  -- the outcomes of the tries of the tasks that say them
  pub scripts : List ScriptRow
  -- whether a row gave the default pool its slots
  pub has_default : Bool

-- no DAGs and no variables, and of pools the default one alone
abbrev pub opening_draft : Draft
opening_draft = record {
  state = record {
    dags = [];
    runs = [];
    next_run = 1;
    pools = record { name = default_name; slots = 128 } ∷ [];
    variables = [];
  };
  scripts = [];
  has_default = false;
}

-- this, unless there is a fault; of the fault, its reason
abbrev pub unless_fault : {X F : Type 0} → (F → Reason) → Option F → X → Result X Reason
unless_fault reason_of None made = Ok made
unless_fault reason_of (Some fault) made = Err (reason_of fault)
