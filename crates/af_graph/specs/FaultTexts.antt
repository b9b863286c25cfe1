-- What is told of the faults of a definition. This product's own words.
use Rattle.std.specs.Prelude.{ℕ, List, ◌++◌, codes}
use Rattle.af_graph.specs.declared.dag_fault.DagFault.{DagFault}
use Rattle.af_graph.specs.declared.dag_fault.DagFault.TheVariants.{NoTask, TooMany, Duplicate, UnknownUpstream, Cycle, BadSlots, OutOfMemory}

abbrev pub dag_text : DagFault (List ℕ) → List ℕ
dag_text NoTask = codes "no task"
dag_text TooMany = codes "more than 512 tasks"
dag_text (Duplicate id) = codes "two tasks of one id: " ++ id
dag_text (UnknownUpstream id) = codes "an upstream task that is not there: " ++ id
dag_text (Cycle id) = codes "on a cycle or below one: " ++ id
dag_text (BadSlots id) = codes "pool slots out of range: " ++ id
dag_text OutOfMemory = codes "out of memory"
