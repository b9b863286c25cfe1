use Rattle.std.proofs.Common.{◌≡◌, ◌∙◌, ◌∷◌, ◌++◌, [], ℕ, List, Result, Ok, ap, sym}
use Rattle.serde_json.specs.Data.{Data}
use Rattle.af_base.specs.JsonValue.{view}
use Rattle.af_graph.specs.declared.task_spec.TaskSpec.{TaskSpec}
use Rattle.af_pool.specs.declared.pool.Pool.{Pool}
use Rattle.af_sched.specs.Scripts.{ScriptRow}
use Rattle.af_base.specs.Readings.{◌>>=◌}
use Rattle.af_server.specs.declared.reason.Reason.{Reason}
use Rattle.af_server.specs.Tasks.{TasksRead, script_taken, task_in, task_taken}
use Rattle.af_server.proofs.config.tasks.add_task.Goals as goal

-- the task is read, then its script, and then both stand last
taken_is : (pools : List Pool) (dag_id : List ℕ) (read : TasksRead) (row : Data) (task : TaskSpec) (scripts : List ScriptRow) (tasks : List TaskSpec) → task_in pools row ≡ Ok task → script_taken dag_id task.task_id read.scripts row ≡ Ok scripts → tasks ≡ read.tasks ++ task ∷ [] → task_taken pools dag_id read row ≡ Ok (record { tasks = tasks; scripts = scripts })
taken_is pools dag_id read row task scripts tasks is_task is_script is_last =
    let with : TaskSpec → List ScriptRow → Result TasksRead Reason = λ task. λ scripts. Ok (record { tasks = read.tasks ++ task ∷ []; scripts = scripts }) in
    ap (λ (r : Result TaskSpec Reason). r >>= (λ task. script_taken dag_id task.task_id read.scripts row >>= with task)) is_task
    ∙ ap (λ (r : Result (List ScriptRow) Reason). r >>= with task) is_script
    ∙ ap (λ (tasks : List TaskSpec). Ok (record { tasks = tasks; scripts = scripts })) (sym is_last)

pub returns : goal.returns
returns c =
    rw (← c.read.view_is) (taken_is c.args.pools.now c.args.dag_id.now _ (view c.args.row.now) c.in_ok-task.task c.add_script.new.scripts.items c.push.new.self.items c.in_ok-task.ensures c.in_ok-add_script.ensures c.in_ok-push.ensures.items)
