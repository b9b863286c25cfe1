-- What the steps of working a graph out keep. No public contract cites this file.
use Rattle.std.specs.Prelude.{ℕ, ◌≡◌, ◌<◌, ◌+◌, ◌==◌, Bool, true, not, ◌&&◌, ◌||◌, nat_lt, List, length, Option, Some, ◌⊎◌, filter, slice_index, vec_len, if◌then◌else◌}
use Rattle.std.specs.Option.{option_map_or}
use Rattle.std.specs.BTreeMap as tree
use Rattle.std.specs.BTreeSet as sorted
use Rattle.std.specs.Cmp.Lexicographic.{slice_cmp}
use Rattle.std.specs.Ordering.{nat_cmp}
use Rattle.af_graph.specs.Rows.{row_at, is_among, turned}
use Rattle.af_graph.specs.Graph.{place_of, upstream_rows, downstream_rows}
use Rattle.af_graph.specs.Order.{is_free, order_of}
use Rattle.af_graph.specs.Definition.{id_at, fault_of}
use Rattle.af_graph.specs.declared.task_spec.TaskSpec.{TaskSpec}
use Rattle.af_graph.specs.declared.index.Index.{Index}
use Rattle.af_graph.specs.declared.taking.Taking.{Taking}
use Rattle.af_graph.specs.declared.wiring.Wiring.{Wiring}
use Rattle.af_graph.specs.declared.dag_fault.DagFault.{DagFault}
use Rattle.af_graph.specs.declared.dag_fault.DagFault.TheVariants as fault

-- the place that an index has for an id
abbrev pub place_in : Index → List ℕ → Option ℕ
place_in index id = tree.get_by (λ key. slice_cmp nat_cmp id key.now) index.places

-- the index has the places of these tasks
abbrev pub IsIndexOf : Index → List TaskSpec → Type 0
IsIndexOf index tasks = (id : List ℕ) → place_in index id ≡ place_of tasks id

-- the task of this id has been taken, or no task has it
abbrev pub is_done : List TaskSpec → List ℕ → List ℕ → Bool
is_done tasks taken id = option_map_or (is_among taken) (place_of tasks id) true

-- the fault, with the id of the task in the place of its place
abbrev pub told : List TaskSpec → DagFault ℕ → DagFault (List ℕ)
told tasks fault.NoTask = fault.NoTask
told tasks fault.TooMany = fault.TooMany
told tasks (fault.Duplicate place) = fault.Duplicate (id_at tasks place)
told tasks (fault.UnknownUpstream place) = fault.UnknownUpstream (id_at tasks place)
told tasks (fault.Cycle place) = fault.Cycle (id_at tasks place)
told tasks (fault.BadSlots place) = fault.BadSlots (id_at tasks place)
told tasks fault.OutOfMemory = fault.OutOfMemory

-- the place that a fault names is a task's
abbrev pub IsPlaced : ℕ → DagFault ℕ → Type 0
IsPlaced count fault.NoTask = Unit {0}
IsPlaced count fault.TooMany = Unit {0}
IsPlaced count (fault.Duplicate place) = place < count
IsPlaced count (fault.UnknownUpstream place) = place < count
IsPlaced count (fault.Cycle place) = place < count
IsPlaced count (fault.BadSlots place) = place < count
IsPlaced count fault.OutOfMemory = Unit {0}

-- the fault is what is told of these tasks, or a growth was refused
abbrev pub IsTold : List TaskSpec → DagFault ℕ → Type 0
IsTold tasks said =
    (said ≡ fault.OutOfMemory) ⊎ ((fault_of tasks ≡ Some (told tasks said)) × IsPlaced (length tasks) said)

-- the graph is that of these tasks
pub record IsWiringOf (tasks : List TaskSpec) (wiring : Wiring) : Type 0 where
  pub upstream : wiring.upstream ≡ upstream_rows tasks
  pub downstream : wiring.downstream ≡ downstream_rows tasks
  pub order : wiring.order.items ≡ order_of (upstream_rows tasks)

-- the graphs are the same
abbrev pub IsSameWiring : Wiring → Wiring → Type 0
IsSameWiring old new =
    (new.upstream ≡ old.upstream) × (new.downstream ≡ old.downstream) × (new.order.items ≡ old.order.items)

-- each list of rows is the other, turned
abbrev pub IsPair : List (List ℕ) → List (List ℕ) → Type 0
IsPair upstream downstream = (upstream ≡ turned downstream) × (downstream ≡ turned upstream)

-- how many places of a row are left once these have been taken
abbrev pub left_of : List ℕ → List ℕ → ℕ
left_of taken row = length (filter (λ place. not (is_among taken place)) row)

abbrev pub is_ready : Taking → ℕ → Bool
is_ready taking place = sorted.contains nat_cmp taking.ready place

-- what is taken, ready and waiting are those of one list of places taken
pub record KeepsPace (upstream : List (List ℕ)) (taking : Taking) : Type 0 where
  pub count : vec_len taking.waiting ≡ length upstream
  pub waits : (place : ℕ) → place < length upstream → slice_index taking.waiting.items place ≡ left_of taking.order.items (row_at upstream place)
  pub readies : (place : ℕ) → is_ready taking place ≡ (nat_lt place (length upstream) && is_free upstream taking.order.items place)
  pub closed : (place : ℕ) → place < length upstream → is_among taking.order.items place ≡ true → slice_index taking.waiting.items place ≡ 0

-- the places of a row have each one place fewer to wait for, and are ready where none is left
pub record IsReleased (row : List ℕ) (old new : Taking) : Type 0 where
  pub count : vec_len new.waiting ≡ vec_len old.waiting
  pub order : new.order.items ≡ old.order.items
  pub waits : (place : ℕ) → slice_index new.waiting.items place + (if is_among row place then 1 else 0) ≡ slice_index old.waiting.items place
  pub readies : (place : ℕ) → is_ready new place ≡ (is_ready old place || (is_among row place && slice_index new.waiting.items place == 0))
