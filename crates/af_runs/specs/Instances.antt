-- Task instances: one for each task of a run's DAG, in the order of the definition (Airflow 2, "Tasks": Task Instances).
use Rattle.std.specs.Prelude.{List, map, None}
use Rattle.af_graph.specs.declared.task_spec.TaskSpec.{TaskSpec}
use Rattle.af_graph.specs.declared.task_state.TaskState.TheVariants.{NoStatus}
use Rattle.af_runs.specs.declared.instance.Instance.{Instance}

-- the instance of a task in a new run: it was never tried, and its task's retries are its tries after the first
abbrev pub new_instance : TaskSpec → Instance
new_instance task = record {
  state = NoStatus;
  try_number = 0;
  max_tries = task.retries;
  start_date = None;
  end_date = None;
  retry_at = None;
}

-- the instances of a new run of a DAG with these tasks
abbrev pub new_instances : List TaskSpec → List Instance
new_instances tasks = map new_instance tasks
