-- A task of a DAG of a configuration: its members in their order, and the first fault decides the reason (this product's own
-- rule; the names of the trigger rules are those of Airflow 2, "DAGs").
use Rattle.std.specs.Prelude.{ℕ, pos, List, [], ◌∷◌, ◌++◌, codes, nat_eq, if◌then◌else◌, Option, Some, None, ok_or, Result, Ok, Err}
use Rattle.std.specs.List.{find}
use Rattle.std.specs.Cmp.Lexicographic.{pointwise}
use Rattle.serde_json.specs.Data.{Num, unsigned, negative, float, Data}
use Rattle.serde_json.specs.Find.{as_number, as_str}
use Rattle.af_names.specs.Names.{id_grammar, row_name_grammar}
use Rattle.af_graph.specs.declared.rule.Rule.{Rule}
use Rattle.af_graph.specs.declared.rule.Rule.TheVariants.{AllSuccess}
use Rattle.af_graph.specs.Texts.{rule_of}
use Rattle.af_graph.specs.declared.task_spec.TaskSpec.{TaskSpec}
use Rattle.af_pool.specs.Pools.{default_name, has_pool}
use Rattle.af_pool.specs.declared.pool.Pool.{Pool}
use Rattle.af_sched.specs.Scripts.{ScriptRow}
use Rattle.af_sched.specs.declared.outcome.Outcome.{Outcome}
use Rattle.af_sched.specs.declared.outcome.Outcome.TheVariants as outcome
use Rattle.af_base.specs.Members.{as_list}
use Rattle.af_base.specs.Readings.{◌>>=◌, first_fault, member_of, optional, taking}
use Rattle.af_server.specs.declared.config.tasks.Numbers.{Numbers}
use Rattle.af_server.specs.declared.reason.Reason.{Reason}
use Rattle.af_server.specs.declared.reason.Reason.TheVariants as reason
use Rattle.af_server.specs.Members.{name_in, name_of, number_in, optional_list_in, or_default, signed_in}

abbrev pub outcomes : List Outcome
outcomes = outcome.Success ∷ outcome.Failed ∷ outcome.Skipped ∷ []

abbrev pub outcome_text : Outcome → List ℕ
outcome_text outcome.Success = codes "success"
outcome_text outcome.Failed = codes "failed"
outcome_text outcome.Skipped = codes "skipped"

-- the outcome whose text this is
abbrev pub outcome_of : List ℕ → Option Outcome
outcome_of text = find (λ it. pointwise nat_eq (outcome_text it) text) outcomes

abbrev pub text_of : Data → Result (List ℕ) Reason
text_of value = ok_or (as_str value) reason.Shape

abbrev pub id_taken : List (List ℕ) → Data → Result (List (List ℕ)) Reason
id_taken ids value = do
  text ← text_of value
  id ← name_of id_grammar text
  Ok (ids ++ id ∷ [])

-- the ids of the tasks upstream: that each is a text is tested before one is read
abbrev pub ids_in : List Data → Result (List (List ℕ)) Reason
ids_in values = first_fault text_of values >>= (λ texts. taking id_taken [] values)

abbrev pub upstream_in : Data → Result (List (List ℕ)) Reason
upstream_in row = optional_list_in (codes "upstream") row >>= ids_in

-- the default pool, unless another is named
abbrev pub pool_text_in : Data → Result (List ℕ) Reason
pool_text_in row = or_default default_name (optional as_str reason.Shape (member_of (codes "pool") row))

-- a pool that is there
abbrev pub task_pool_in : List Pool → Data → Result (List ℕ) Reason
task_pool_in pools row = do
  text ← pool_text_in row
  name ← name_of row_name_grammar text
  if has_pool pools name then Ok name else Err reason.Pool

-- an integer of 64 bits, one below 0 taken as 0; its limits are the graph's
abbrev pub slots_of : Option Num → Result ℕ Reason
slots_of None = Err reason.Shape
slots_of (Some (unsigned n)) = Ok n
slots_of (Some (negative z)) = Ok 0
slots_of (Some (float x)) = Err reason.Shape

abbrev pub slots_or : Option Data → Result ℕ Reason
slots_or None = Ok 1
slots_or (Some value) = slots_of (as_number value)

-- the numbers of a task
abbrev pub numbers_in : Data → Result Numbers Reason
numbers_in row = do
  slots ← slots_or (member_of (codes "pool_slots") row)
  weight ← signed_in (codes "priority_weight") (pos 1) row
  retries ← number_in (codes "retries") 0 1_000 0 row
  delay ← number_in (codes "retry_delay") 0 31_536_000 300 row
  Ok (record { pool_slots = slots; priority_weight = weight; retries = retries; retry_delay = delay })

abbrev pub rule_or : Option (List ℕ) → Result Rule Reason
rule_or None = Ok AllSuccess
rule_or (Some text) = ok_or (rule_of text) reason.Shape

abbrev pub rule_in : Data → Result Rule Reason
rule_in row = optional as_str reason.Shape (member_of (codes "trigger_rule") row) >>= rule_or

abbrev pub task_in : List Pool → Data → Result TaskSpec Reason
task_in pools row = do
  id ← name_in id_grammar (codes "task_id") row
  upstream ← upstream_in row
  pool ← task_pool_in pools row
  numbers ← numbers_in row
  rule ← rule_in row
  Ok (record {
    task_id = id;
    upstream = upstream;
    pool = pool;
    pool_slots = numbers.pool_slots;
    priority_weight = numbers.priority_weight;
    retries = numbers.retries;
    retry_delay = numbers.retry_delay;
    trigger_rule = rule;
  })

abbrev pub outcome_taken : List Outcome → Data → Result (List Outcome) Reason
outcome_taken taken value = do
  text ← text_of value
  it ← ok_or (outcome_of text) reason.Shape
  Ok (taken ++ it ∷ [])

-- these scripts, and then that of a task that has one
abbrev pub script_or : List ℕ → List ℕ → List ScriptRow → Option (List Data) → Result (List ScriptRow) Reason
script_or dag_id task_id scripts None = Ok scripts
script_or dag_id task_id scripts (Some values) =
    taking outcome_taken [] values
    >>= (λ outcomes. Ok (scripts ++ record { dag_id = dag_id; task_id = task_id; outcomes = outcomes } ∷ []))

abbrev pub script_taken : List ℕ → List ℕ → List ScriptRow → Data → Result (List ScriptRow) Reason
script_taken dag_id task_id scripts row =
    optional as_list reason.Shape (member_of (codes "script") row) >>= script_or dag_id task_id scripts

-- the tasks of a DAG that were read so far, with the scripts of those that have one
pub record TasksRead : Type 0 where
  pub tasks : List TaskSpec
  pub scripts : List ScriptRow

abbrev pub task_taken : List Pool → List ℕ → TasksRead → Data → Result TasksRead Reason
task_taken pools dag_id read row = do
  task ← task_in pools row
  scripts ← script_taken dag_id task.task_id read.scripts row
  Ok (record { tasks = read.tasks ++ task ∷ []; scripts = scripts })

abbrev pub no_tasks : TasksRead
no_tasks = record { tasks = []; scripts = [] }

abbrev pub tasks_in : List Pool → List ℕ → List Data → Result TasksRead Reason
tasks_in pools dag_id rows = taking (task_taken pools dag_id) no_tasks rows
