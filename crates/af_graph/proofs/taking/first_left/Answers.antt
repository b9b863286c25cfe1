use Rattle.std.proofs.Common.{◌≡◌, ◌<◌, ℕ, List, Option, Bool, false, not, length, take, ap, ◌∙◌, arith}
use Rattle.std.specs.List.{find, position, range_with_len, slice_get}
use Rattle.std.specs.Option.{option_map_or}
use Rattle.std.proofs.lemmas.List.{take_all}
use Rattle.std.proofs.lemmas.Option.{slice_get-get_or}
use Rattle.af_graph.specs.Rows.{is_among}
use Rattle.af_graph.proofs.PlaceLemmas.{position_is, find_same}
use Rattle.af_graph.proofs.taking.first_left.Goals as goal

pub returns : goal.returns
returns c =
    let marks : List Bool = c.loop-place.taken.items in
    let order : List ℕ = c.args.order.now in
    let count : length marks ≡ c.args.count = omega (arith, c.loop-place.invariant.0, c.loop-place.taken.ok) in
    let all : take c.loop-place.place-index order ≡ order = take_all c.loop-place.place-index order (omega arith) in
    let at : (k : ℕ) → k < length marks → option_map_or not (slice_get marks k) false ≡ not (is_among order k) = λ k below. ap (λ (o : Option Bool). option_map_or not o false) (slice_get-get_or marks k false below) ∙ ap not (c.loop-place.invariant.1 k ∙ ap (λ done. is_among done k) all) in
    c.first_false.ensures
    ∙ ap (λ (xs : List Bool). position not xs) c.as_slice.ensures.value
    ∙ position_is not marks
    ∙ ap (λ n. find (λ k. option_map_or not (slice_get marks k) false) (range_with_len 0 n)) count
    ∙ find_same (λ k. option_map_or not (slice_get marks k) false) (λ k. not (is_among order k)) 0 c.args.count (λ k _ below. at k (omega arith))
