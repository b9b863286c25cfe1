use Rattle.std.proofs.Common.{◌≡◌, ◌<◌, ◌≤◌, ◌&&◌, ◌+◌, ◌++◌, ◌∷◌, ℕ, List, [], Bool, false, not, cond, eqb, ltb, length, get_or, take, vec_len, sym, refl, ap, ◌∙◌, subst, ⊎_elim, arith}
use Rattle.std.specs.List.{filter, range_with_len}
use Rattle.std.proofs.lemmas.Bool.{false≢true, cases_lt, ltb-true, and_parts}
use Rattle.std.proofs.lemmas.List.{nil_from_length}
use Rattle.std.proofs.lemmas.List.Elements.{All-same}
use Rattle.std.proofs.lemmas.Result.{on_ok_weaker}
use Rattle.af_graph.specs.Rows.{row_at, is_among}
use Rattle.af_graph.specs.Steps.{left_of, is_ready, IsReleased}
use Rattle.af_graph.specs.declared.taking.Taking.{Taking}
use Rattle.af_graph.proofs.TakingLemmas.{all_from_among, row_once, left_less}
use Rattle.af_graph.proofs.PaceLemmas.{pair-length, up_row, down_row, down_is, ready_free, none_more, next_is, popped, pace_after}
use Rattle.af_graph.proofs.taking.Taking.take_next.Goals as goal

pub returns-in_default-clause-order : goal.returns-in_default-clause-order
returns-in_default-clause-order c =
    let s : Taking = c.args.self.now in
    let none : length s.ready.keys ≡ 0 =
    ⊎_elim (λ (some : 0 < length s.ready.keys). absurd (false≢true (c.in_default.ensures.variant.1 some))) (λ (no : length s.ready.keys ≤ 0). omega arith) (cases_lt 0 (length s.ready.keys)) in
    none_more c.args.upstream.now s c.requires.pace (nil_from_length s.ready.keys none)

pub row-requires : goal.row-requires
row-requires c =
    let up = c.args.upstream.now in
    let down = c.args.downstream.now in
    let free = ready_free up c.args.self.now c.requires.pace c.in-Some.place c.in-Some.ensures.member in
    omega (arith, free.0, pair-length up down c.requires.pair)

pub release_each-requires-clause-within : goal.release_each-requires-clause-within
release_each-requires-clause-within c =
    let up : List (List ℕ) = c.args.upstream.now in
    let down : List (List ℕ) = c.args.downstream.now in
    let s : Taking = c.args.self.now in
    let t : ℕ = c.in-Some.place in
    let P : ℕ → Type 0 = λ p. p < vec_len s.waiting in
    let free = ready_free up s c.requires.pace t c.in-Some.ensures.member in
    All-same P c.row.result.now (row_at down t) c.row.ensures (all_from_among P (row_at down t) (λ q e. let at = and_parts (ltb q (length up)) (is_among (row_at up q) t) (sym (down_is up down c.requires.pair t q free.0) ∙ e) in omega (arith, ltb-true q (length up) at.0, c.requires.pace.count)))

pub release_each-requires-clause-waits : goal.release_each-requires-clause-waits
release_each-requires-clause-waits c =
    let up : List (List ℕ) = c.args.upstream.now in
    let down : List (List ℕ) = c.args.downstream.now in
    let s : Taking = c.args.self.now in
    let t : ℕ = c.in-Some.place in
    let P : ℕ → Type 0 = λ p. 0 < get_or s.waiting.items p 0 in
    let free = ready_free up s c.requires.pace t c.in-Some.ensures.member in
    All-same P c.row.result.now (row_at down t) c.row.ensures (all_from_among P (row_at down t) (λ q e. let at = and_parts (ltb q (length up)) (is_among (row_at up q) t) (sym (down_is up down c.requires.pair t q free.0) ∙ e) in let below : q < length up = ltb-true q (length up) at.0 in let less : left_of (s.order.items ++ t ∷ []) (row_at up q) + 1 ≡ left_of s.order.items (row_at up q) = ap (λ b. left_of (s.order.items ++ t ∷ []) (row_at up q) + cond b 1 0) (sym at.1) ∙ left_less s.order.items t (λ other. is_among (row_at down other) q) (length up) (row_at up q) (up_row up down c.requires.pair q below) free.1 in omega (arith, less, c.requires.pace.waits q below)))

pub release_each-requires-clause-once : goal.release_each-requires-clause-once
release_each-requires-clause-once c =
    let up : List (List ℕ) = c.args.upstream.now in
    let down : List (List ℕ) = c.args.downstream.now in
    let t : ℕ = c.in-Some.place in
    let free = ready_free up c.args.self.now c.requires.pace t c.in-Some.ensures.member in
    let f : ℕ → Bool = λ other. is_among (row_at up other) t in
    let is : c.row.result.now ≡ filter f (range_with_len 0 (length up)) =
    c.row.ensures ∙ down_row up down c.requires.pair t free.0 in
    subst (λ row. (k : ℕ) → k < length row → is_among (take k row) (get_or row k 0) ≡ false) (sym is) (row_once f 0 (length up))

pub returns-clause-pace : goal.returns-clause-pace
returns-clause-pace c =
    let up : List (List ℕ) = c.args.upstream.now in
    let down : List (List ℕ) = c.args.downstream.now in
    let s0 : Taking = c.args.self.now in
    let s2 : Taking = record s0 { ready = c.pop_first.new.self; order = c.push.new.self } in
    let s3 : Taking = c.release_each.new.self in
    let t : ℕ = c.in-Some.place in
    let gone : (q : ℕ) → is_ready s2 q ≡ (is_ready s0 q && not (eqb t q)) =
    λ q. popped t q (is_ready s0 q) (is_ready s2 q) (c.in-Some.ensures.updates.0 q) in
    on_ok_weaker c.release_each.result (λ (released : IsReleased c.row.result.now s2 s3). pace_after up down c.requires.pair s0 s2 s3 c.requires.pace t c.in-Some.ensures.member refl c.in_ok-push.ensures.items gone (subst (λ row. IsReleased row s2 s3) c.row.ensures released)) c.release_each.ensures

pub returns-clause-order : goal.returns-clause-order
returns-clause-order c =
    let up : List (List ℕ) = c.args.upstream.now in
    let s0 : Taking = c.args.self.now in
    let s2 : Taking = record s0 { ready = c.pop_first.new.self; order = c.push.new.self } in
    let s3 : Taking = c.release_each.new.self in
    let t : ℕ = c.in-Some.place in
    on_ok_weaker c.release_each.result (λ (released : IsReleased c.row.result.now s2 s3). released.order ∙ c.in_ok-push.ensures.items ∙ next_is up s0 c.requires.pace t c.in-Some.ensures.member c.in-Some.ensures.least) c.release_each.ensures
