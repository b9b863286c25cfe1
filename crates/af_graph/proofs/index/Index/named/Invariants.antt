use Rattle.std.proofs.Common.{◌≡◌, ◌<◌, ℕ, false, map, take}
use Rattle.af_graph.specs.Graph.{place_of}
use Rattle.std.specs.List.{filter_map}
use Rattle.af_graph.specs.Definition.{at_place, names_nobody}
use Rattle.af_graph.proofs.index.Index.named.Given as goal

-- the tasks that have been passed have their rows, and none of them names nobody
abbrev pub invariant-loop-place : goal.invariant-loop-place
invariant-loop-place l =
    (map (λ row. row.items) l.rows.items ≡ map (λ task. filter_map (place_of l.tasks) task.upstream) (take l.place l.tasks))
    × ((k : ℕ) → k < l.place → at_place l.tasks (names_nobody l.tasks) k ≡ false)
