use Rattle.std.proofs.Common.{◌≡◌, ◌+◌, ◌<◌, ℕ, List, [], ◌∷◌, ◌++◌, length, take, get_or, sym, ap, ◌∙◌, arith}
use Rattle.std.proofs.lemmas.List.{length-set, take_more}
use Rattle.af_graph.specs.Rows.{row_at, is_among, with_each, with_last}
use Rattle.af_graph.proofs.RowLemmas.{each_more}
use Rattle.af_graph.proofs.links.Links.add_to_each.Goals as goal

pub loop-row-preserved : goal.loop-row-preserved
loop-row-preserved c =
    let rows : List ℕ = c.args.rows.now in
    let k : ℕ = c.loop-row.row-index in
    let at : ℕ = get_or rows k 0 in
    let now : List (List ℕ) = c.loop-row.self in
    let initial : List (List ℕ) = c.args.self.now in
    let inside : k < length rows = omega arith in
    let count : length now ≡ length initial = c.loop-row.invariant.0 in
    let long : length c.add_once.new.self ≡ length initial =
    ap length c.in_ok-add_once.ensures ∙ length-set now at (with_last (row_at now at) c.args.place) ∙ count in
    let more : take (k + 1) rows ≡ take k rows ++ at ∷ [] = take_more rows k 0 inside in
    (long, λ row below. ap (λ links. row_at links row) c.in_ok-add_once.ensures ∙ each_more initial now (take k rows) at c.args.place c.requires.fresh count (c.requires.within k 0 inside) c.loop-row.invariant.1 row below ∙ ap (λ done. with_each (is_among done row) (row_at initial row) c.args.place) (sym more))
