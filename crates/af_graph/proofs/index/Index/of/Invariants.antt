use Rattle.std.proofs.Common.{◌≡◌, ◌<◌, ℕ, false, take}
use Rattle.af_graph.specs.Definition.{is_repeated}
use Rattle.af_graph.specs.Steps.{IsIndexOf}
use Rattle.af_graph.proofs.index.Index.of.Given as goal

-- the tasks that have been passed are entered, and none of them repeats an id
abbrev pub invariant-loop-place : goal.invariant-loop-place
invariant-loop-place l =
    IsIndexOf l.index (take l.place l.tasks) × ((k : ℕ) → k < l.place → is_repeated l.tasks k ≡ false)
