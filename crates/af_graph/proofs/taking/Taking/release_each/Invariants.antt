use Rattle.std.proofs.Common.{take}
use Rattle.af_graph.specs.Steps.{IsReleased}
use Rattle.af_graph.proofs.taking.Taking.release_each.Given as goal

-- the places that have been passed have one place fewer to wait for
abbrev pub invariant-loop-place : goal.invariant-loop-place
invariant-loop-place l = IsReleased (take l.place-index l.row) l.initial.self l.self
