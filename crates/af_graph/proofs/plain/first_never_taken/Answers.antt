use Rattle.std.proofs.Common.{◌≡◌, ℕ, List, length, not, sym, ap, ◌∙◌, arith}
use Rattle.std.specs.List.{find}
use Rattle.af_graph.specs.Rows.{places, is_among}
use Rattle.af_graph.specs.Graph.{upstream_rows}
use Rattle.af_graph.specs.Order.{one_more, taken_in}
use Rattle.af_graph.proofs.PaceLemmas.{taken_none, taken_more}
use Rattle.af_graph.proofs.RowLemmas.{length-upstream_rows}
use Rattle.af_graph.proofs.plain.first_never_taken.Goals as goal

pub loop-init : goal.loop-init
loop-init c = (omega arith, sym (taken_none (upstream_rows c.args.tasks.now)))

pub loop-preserved : goal.loop-preserved
loop-preserved c =
    let rows : List (List ℕ) = upstream_rows c.args.tasks.now in (
      omega (arith, c.take_next-count.ensures.more, c.loop.invariant.0),
      c.take_next-count.ensures.order
          ∙ ap (one_more rows) c.loop.invariant.1
          ∙ sym (taken_more rows c.loop.counter),
    )

pub returns : goal.returns
returns c =
    let rows : List (List ℕ) = upstream_rows c.args.tasks.now in
    let turns : c.loop.counter ≡ length rows = omega (arith, length-upstream_rows c.args.tasks.now) in
    c.first_left.ensures
    ∙ ap (λ (taken : List ℕ). find (λ place. not (is_among taken place)) (places c.args.tasks.now)) (c.loop.invariant.1 ∙ ap (λ (n : ℕ). taken_in n rows) turns)
