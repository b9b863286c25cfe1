use Rattle.std.proofs.Common.{length, sym, ◌∙◌, arith}
use Rattle.af_graph.specs.Definition.{is_repeated}
use Rattle.af_graph.proofs.PlaceLemmas.{find_first, find_none}
use Rattle.af_graph.proofs.plain.first_repeated.Goals as goal

pub returns-then-is_repeated : goal.returns-then-is_repeated
returns-then-is_repeated c =
    sym (find_first (is_repeated c.args.tasks.now) 0 (length c.args.tasks.now) c.loop-place.place (omega arith) (omega arith) (λ k _ below. c.loop-place.invariant k below) (sym c.is_repeated.ensures ∙ c.if-is_repeated.true))

pub returns : goal.returns
returns c =
    sym (find_none (is_repeated c.args.tasks.now) 0 (length c.args.tasks.now) (λ k _ below. c.loop-place.invariant k (omega arith)))
