use Rattle.std.proofs.Common.{◌≡◌, ◌<◌, ◌+◌, ◌++◌, ◌∷◌, [], ℕ, List, Option, Some, false, length, take, sym, refl, ap, ◌∙◌, arith}
use Rattle.std.specs.Prelude.{is_none}
use Rattle.std.specs.List.{list_any, filter_map, cons_option}
use Rattle.std.proofs.lemmas.Bool.{or_from}
use Rattle.std.proofs.lemmas.List.{take_more}
use Rattle.std.proofs.lemmas.List.Elements.{filter_map-append}
use Rattle.std.proofs.lemmas.List.Folds.{list_any-append}
use Rattle.af_graph.specs.Steps.{place_in}
use Rattle.af_graph.proofs.index.Index.places_of.Goals as goal

pub loop-id-preserved : goal.loop-id-preserved
loop-id-preserved c =
    let ids : List (List ℕ) = c.args.ids.now in
    let k : ℕ = c.loop-id.id-index in
    let id : List ℕ = c.id-item.result in
    let look : List ℕ → Option ℕ = place_in c.args.self.now in
    let missing = λ (id : List ℕ). is_none (look id) in
    let inside : k < length ids = omega arith in
    let more : take (k + 1) ids ≡ take k ids ++ id ∷ [] =
    take_more ids k id inside ∙ ap (λ (x : List ℕ). take k ids ++ x ∷ []) (sym c.id-item.is) in
    let found : look id ≡ Some c.in-Some.place = sym c.in-Some.ensures in
    let row : filter_map look (take (k + 1) ids) ≡ filter_map look (take k ids) ++ c.in-Some.place ∷ [] =
    ap (filter_map look) more
    ∙ filter_map-append look (take k ids) (id ∷ [])
    ∙ ap (λ (o : Option ℕ). filter_map look (take k ids) ++ cons_option o []) found in
    (c.in_ok-push.ensures.items ∙ ap (λ (xs : List ℕ). xs ++ c.in-Some.place ∷ []) c.loop-id.invariant.0 ∙ sym row, ap (list_any missing) more ∙ list_any-append missing (take k ids) (id ∷ []) ∙ or_from (list_any missing (take k ids)) (list_any missing (id ∷ [])) c.loop-id.invariant.1 (or_from (missing id) false (ap is_none found) refl))
