use Rattle.std.proofs.Common.{◌≡◌, ◌≤◌, ◌++◌, map, false, drop}
use Rattle.serde_json.specs.Data.{string}
use Rattle.serde_json.specs.View.{items_of}
use Rattle.serde_json.specs.Written.{items_text}
use Rattle.af_ops.proofs.fields.put_names.Given as goal

abbrev pub invariant-loop-value : goal.invariant-loop-value
invariant-loop-value g l =
    (l.out.items ++ items_text l.later (items_of (map (λ value. string value.now) (drop l.value-index l.values)))
    ≡ l.initial.out.items ++ items_text false (items_of (map (λ value. string value.now) l.values)))
    × (4 ≤ l.out.ready)
