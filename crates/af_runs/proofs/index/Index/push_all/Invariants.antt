use Rattle.std.proofs.Common.{ℕ, ◌+◌, List, ◌++◌, take}
use Rattle.af_runs.specs.Index.{HasRoomFor, IsIndex}
use Rattle.af_runs.specs.declared.run.Run.{Run}
use Rattle.af_runs.proofs.index.Index.push_all.Given as goal

abbrev pub invariant-loop-run : goal.invariant-loop-run
invariant-loop-run l =
    ((runs : List Run) → IsIndex runs l.initial.self → IsIndex (runs ++ take l.run-index l.added) l.self)
    × ((rows : ℕ) → HasRoomFor (rows + l.run-index) l.initial.self → HasRoomFor rows l.self)
