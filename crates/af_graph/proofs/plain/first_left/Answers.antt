use Rattle.std.proofs.Common.{◌≡◌, ℕ, true, not, length, sym, arith}
use Rattle.af_graph.specs.Rows.{is_among}
use Rattle.af_graph.proofs.PlaceLemmas.{find_first, find_none}
use Rattle.af_graph.proofs.plain.first_left.Goals as goal

pub returns-then-not-is_among : goal.returns-then-not-is_among
returns-then-not-is_among c =
    let here : not (is_among c.args.taken.now c.loop-place.place) ≡ true = grind (arith, c.is_among.ensures, c.if-not-is_among.true) in
    sym (find_first (λ (place : ℕ). not (is_among c.args.taken.now place)) 0 (length c.args.tasks.now) c.loop-place.place (omega arith) (omega arith) (λ k _ below. c.loop-place.invariant k below) here)

pub returns : goal.returns
returns c =
    sym (find_none (λ (place : ℕ). not (is_among c.args.taken.now place)) 0 (length c.args.tasks.now) (λ k _ below. c.loop-place.invariant k (omega arith)))
