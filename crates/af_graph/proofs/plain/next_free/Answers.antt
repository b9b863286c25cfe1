use Rattle.std.proofs.Common.{length, sym, ◌∙◌, arith}
use Rattle.af_graph.specs.Graph.{upstream_rows}
use Rattle.af_graph.specs.Order.{is_free}
use Rattle.af_graph.proofs.PlaceLemmas.{find_first, find_none}
use Rattle.af_graph.proofs.RowLemmas.{length-upstream_rows}
use Rattle.af_graph.proofs.plain.next_free.Goals as goal

pub returns-then-is_free-clause-first : goal.returns-then-is_free-clause-first
returns-then-is_free-clause-first c =
    let rows = upstream_rows c.args.tasks.now in
    let long = length-upstream_rows c.args.tasks.now in
    sym (find_first (is_free rows c.args.taken.now) 0 (length rows) c.loop-place.place (omega arith) (omega (arith, long)) (λ k _ below. c.loop-place.invariant k below) (sym c.is_free.ensures ∙ c.if-is_free.true))

pub returns-clause-first : goal.returns-clause-first
returns-clause-first c =
    let rows = upstream_rows c.args.tasks.now in
    let long = length-upstream_rows c.args.tasks.now in
    sym (find_none (is_free rows c.args.taken.now) 0 (length rows) (λ k _ below. c.loop-place.invariant k (omega (arith, long))))
