use Rattle.std.proofs.Common.{◌≡◌, false, take}
use Rattle.std.specs.Prelude.{is_none}
use Rattle.std.specs.List.{list_any, filter_map}
use Rattle.af_graph.specs.Steps.{place_in}
use Rattle.af_graph.proofs.index.Index.places_of.Given as goal

-- the ids that have been passed are tasks', and the row has their places
abbrev pub invariant-loop-id : goal.invariant-loop-id
invariant-loop-id l =
    (l.row.items ≡ filter_map (place_in l.self) (take l.id-index l.ids))
    × (list_any (λ id. is_none (place_in l.self id)) (take l.id-index l.ids) ≡ false)
