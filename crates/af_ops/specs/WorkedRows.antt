-- A small policy and a small state with pools and variables, for worked values: an operator and a user, the DAG f of two tasks, and a
-- run of it, an instance of which is running in a pool of its own.
use Rattle.std.specs.Prelude.{ℕ, List, [], ◌∷◌, ◌++◌, Option, Some, codes}
use Rattle.af_pool.specs.declared.pool.Pool.{Pool}
use Rattle.af_policy.specs.Rows.{PolicyRows}
use Rattle.af_role.specs.DefaultRoles.{op_adds, user_adds, viewer_adds}
use Rattle.af_sched.specs.State.{StateRows}
use Rattle.af_vars.specs.declared.variable.Variable.{Variable}
use Rattle.af_ops.specs.declared.op.Op.{Op}
use Rattle.af_ops.specs.declared.op.Op.TheVariants as op
use Rattle.af_ops.specs.declared.pool_op.PoolOp.{PoolOp}
use Rattle.af_ops.specs.declared.shown_answer.Shown.{Shown}
use Rattle.af_ops.specs.declared.variable_op.VariableOp.{VariableOp}
use Rattle.af_ops.specs.Served.{answer_of}
use Rattle.af_ops.specs.Standings.{StandingRows, history_limit}
use Rattle.af_ops.specs.Verdicts.{Verdict, judged}
use Rattle.af_ops.specs.Worked.{forked, half_run}

abbrev pub policy : PolicyRows
policy = record {
  users =
      record { name = codes "olga"; digest = codes "digest of olga"; roles = codes "Op" ∷ [] }
      ∷ record { name = codes "uma"; digest = codes "digest of uma"; roles = codes "User" ∷ [] }
      ∷ [];
  roles =
      record { name = codes "Op"; pairs = viewer_adds ++ user_adds ++ op_adds }
      ∷ record { name = codes "User"; pairs = viewer_adds ++ user_adds }
      ∷ [];
}

abbrev pub pool : List ℕ → ℕ → Pool
pool name slots = record { name = name; slots = slots }

abbrev pub variable : List ℕ → List ℕ → Variable
variable key value = record { key = key; value = value }

abbrev pub state : List Pool → List Variable → StateRows
state pools variables = record { dags = forked ∷ []; runs = half_run ∷ []; next_run = 4; pools = pools; variables = variables }

-- the pools that its tasks name: the default pool, and one of which an instance holds three slots
abbrev pub lane : ℕ → Pool
lane slots = pool (codes "slow \"lane\"") slots

abbrev pub named : List Pool
named = pool (codes "default_pool") 128 ∷ lane 4 ∷ []

-- between them, one that none names
abbrev pub with_p : ℕ → List Pool
with_p slots = pool (codes "default_pool") 128 ∷ pool (codes "p") slots ∷ lane 4 ∷ []

-- after so many entries
abbrev pub standing : ℕ → List Pool → List Variable → StandingRows
standing entries pools variables = record { under = record { version = 0; seq = entries }; state = state pools variables }

-- the verdict on what one of them asks, and what of it is told
abbrev pub asks : StandingRows → List ℕ → Op → Verdict
asks standing who asked = judged history_limit policy standing asked 0 (Some who)

abbrev pub is_told : StandingRows → Op → Option Shown
is_told standing asked = answer_of asked standing.under (asks standing (codes "olga") asked)

abbrev pub of_pools : List Pool → PoolOp → Option Shown
of_pools pools it = is_told (standing 7 pools []) (op.Pool it)

abbrev pub of_variables : List Variable → VariableOp → Option Shown
of_variables variables it = is_told (standing 7 named variables) (op.Variable it)
