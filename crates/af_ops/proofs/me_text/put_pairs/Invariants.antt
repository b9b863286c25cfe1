use Rattle.std.proofs.Common.{◌≡◌, ◌≤◌, ◌++◌, map, false}
use Rattle.serde_json.specs.Data.{string}
use Rattle.serde_json.specs.View.{items_of}
use Rattle.serde_json.specs.Written.{items_text}
use Rattle.af_role.specs.Pairs.{pair_text}
use Rattle.af_ops.proofs.me_text.put_pairs.Given as goal

abbrev pub invariant-loop-pair : goal.invariant-loop-pair
invariant-loop-pair l =
    (l.out.items ++ items_text l.later (items_of (map (λ pair. string (pair_text pair)) l.pair-iterator))
    ≡ l.initial.out.items ++ items_text false (items_of (map (λ pair. string (pair_text pair)) l.permissions)))
    × (4 ≤ l.out.ready)
