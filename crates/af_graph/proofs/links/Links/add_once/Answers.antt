use Rattle.std.proofs.Common.{◌≡◌, ◌<◌, Vec, Global, length, set, List, [], ℕ, sym, ap, ◌∙◌, subst}
use Rattle.std.proofs.lemmas.List.{map-set, get_or-map, length-map}
use Rattle.std.proofs.lemmas.Result.{on_ok_weaker}
use Rattle.af_graph.specs.Rows.{row_at, with_last}
use Rattle.af_graph.proofs.links.Links.add_once.Goals as goal

pub returns : goal.returns
returns c =
    let rows : List (Vec ℕ Global) = c.self.inside.rows.items in
    let at : ℕ = c.args.row in
    let seen : Vec ℕ Global → List ℕ = λ row. row.items in
    let inside : at < length rows = subst (λ n. at < n) (sym (ap length c.self.view_is) ∙ length-map rows seen) c.requires in
    let here : c.index_mut.result.now.items ≡ row_at c.args.self.now at =
    ap seen c.index_mut.ensures.value
    ∙ sym (get_or-map seen rows at c.index_mut.result.now [] inside)
    ∙ ap (λ links. row_at links at) c.self.view_is in
    on_ok_weaker c.push_once.result (λ (h : c.push_once.new.row.items ≡ with_last c.index_mut.result.now.items c.args.place). map-set seen rows at c.push_once.new.row ∙ ap (λ links. set links at c.push_once.new.row.items) c.self.view_is ∙ ap (λ row. set c.args.self.now at row) (h ∙ ap (λ row. with_last row c.args.place) here)) c.push_once.ensures
