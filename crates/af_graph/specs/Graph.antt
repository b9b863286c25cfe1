-- What is upstream and downstream of a task (Airflow 2, "DAGs": task dependencies). A task is spoken of by its place:
-- its number in the definition, from 0.
use Rattle.std.specs.Prelude.{ℕ, Bool, List, map, Option, nat_eq}
use Rattle.std.specs.List.{filter_map, position}
use Rattle.std.specs.Cmp.Lexicographic.{pointwise}
use Rattle.af_graph.specs.Rows.{row_at, arranged, turned}
use Rattle.af_graph.specs.declared.task_spec.TaskSpec.{TaskSpec}

abbrev pub same_name : List ℕ → List ℕ → Bool
same_name one other = pointwise nat_eq one other

-- the place of the first task of an id, if a task has it
abbrev pub place_of : List TaskSpec → List ℕ → Option ℕ
place_of tasks id = position (λ task. same_name task.task_id id) tasks

-- at each place the places of the tasks that the task names as upstream
abbrev pub named_rows : List TaskSpec → List (List ℕ)
named_rows tasks = map (λ task. filter_map (place_of tasks) task.upstream) tasks

-- at each place the places directly upstream, in order, each once
unfoldable pub upstream_rows : List TaskSpec → List (List ℕ)
upstream_rows tasks = arranged (named_rows tasks)

-- at each place the places directly downstream: of the tasks that name it as upstream, in order, each once
unfoldable pub downstream_rows : List TaskSpec → List (List ℕ)
downstream_rows tasks = turned (named_rows tasks)

abbrev pub upstream_of : List TaskSpec → ℕ → List ℕ
upstream_of tasks place = row_at (upstream_rows tasks) place

abbrev pub downstream_of : List TaskSpec → ℕ → List ℕ
downstream_of tasks place = row_at (downstream_rows tasks) place
