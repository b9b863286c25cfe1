use Rattle.std.proofs.Common.{◌≡◌, length, ap, ◌∙◌, arith}
use Rattle.std.specs.List.{filter, range_with_len}
use Rattle.af_graph.specs.Rows.{row_at, is_among, with_each}
use Rattle.af_graph.proofs.RowLemmas.{fresh_rows, turned_more, turned_all}
use Rattle.af_graph.proofs.links.Links.turned.Goals as goal

pub add_to_each-requires-clause-fresh : goal.add_to_each-requires-clause-fresh
add_to_each-requires-clause-fresh c =
    fresh_rows c.loop-place.links c.args.self.now c.loop-place.place c.loop-place.invariant.0 c.loop-place.invariant.1

pub loop-place-preserved : goal.loop-place-preserved
loop-place-preserved c =
    let links = c.loop-place.links in
    let place = c.loop-place.place in
    (c.in_ok-add_to_each.ensures.count ∙ c.loop-place.invariant.0, turned_more links c.add_to_each.new.self c.args.self.now place c.loop-place.invariant.0 c.loop-place.invariant.1 (λ row below. c.in_ok-add_to_each.ensures.rows row below ∙ ap (λ passed. with_each (is_among passed row) (row_at links row) place) c.row.ensures))

pub returns : goal.returns
returns c =
    let rows = c.args.self.now in
    let last : c.loop-place.place ≡ length rows = omega (arith, c.len-place-end.ensures) in
    turned_all c.loop-place.links rows c.loop-place.invariant.0 (λ row below. c.loop-place.invariant.1 row below ∙ ap (λ n. filter (λ other. is_among (row_at rows other) row) (range_with_len 0 n)) last)
