use Rattle.std.proofs.Common.{◌≡◌, map, take}
use Rattle.af_graph.proofs.links.Links.copied.Given as goal

abbrev pub invariant-loop-place : goal.invariant-loop-place
invariant-loop-place l = map (λ row. row.items) l.rows.items ≡ take l.place l.self
