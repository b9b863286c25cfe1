use Rattle.std.proofs.Common.{◌≡◌, ◌≤◌, ◌++◌, map, false, drop}
use Rattle.serde_json.specs.View.{items_of}
use Rattle.serde_json.specs.Written.{items_text}
use Rattle.af_ops.specs.Fields.{object_of}
use Rattle.af_ops.proofs.row.put_rows.Given as goal

abbrev pub invariant-loop-row : goal.invariant-loop-row
invariant-loop-row g l =
    (l.out.items ++ items_text l.later (items_of (map (λ row. object_of (g.R.Row.fields row)) (drop l.row-index l.rows)))
    ≡ l.initial.out.items ++ items_text false (items_of (map (λ row. object_of (g.R.Row.fields row)) l.rows)))
    × (4 ≤ l.out.ready)
