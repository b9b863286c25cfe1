use Rattle.std.proofs.Common.{◌≡◌, ◌≤◌, ◌++◌, map, false, drop}
use Rattle.serde_json.specs.Data.{string}
use Rattle.serde_json.specs.View.{items_of}
use Rattle.serde_json.specs.Written.{items_text}
use Rattle.af_ops.specs.Effects.{id_at}
use Rattle.af_ops.proofs.task_text.put_ids.Given as goal

abbrev pub invariant-loop-place : goal.invariant-loop-place
invariant-loop-place l =
    (l.out.items ++ items_text l.later (items_of (map (λ id. string id) (map (id_at l.tasks) (drop l.place-index l.places))))
    ≡ l.initial.out.items ++ items_text false (items_of (map (λ id. string id) (map (id_at l.tasks) l.places))))
    × (4 ≤ l.out.ready)
