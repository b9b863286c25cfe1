use Rattle.std.proofs.Common.{◌≡◌, ◌<◌, ◌&&◌, ℕ, List, [], eqb, ltb, length, sym, ap, ◌∙◌, arith}
use Rattle.std.proofs.lemmas.Bool.{false≢true}
use Rattle.af_graph.specs.Rows.{row_at, is_among}
use Rattle.af_graph.specs.Order.{is_free}
use Rattle.af_graph.specs.Steps.{left_of}
use Rattle.af_graph.proofs.TakingLemmas.{free_is}
use Rattle.af_graph.proofs.PaceLemmas.{row_short, left_none}
use Rattle.af_graph.proofs.taking.Taking.open.Goals as goal

pub overflow_cast-waiting : goal.overflow_cast-waiting
overflow_cast-waiting c =
    let up = c.args.upstream.now in
    let inside : c.loop-place.place < length up = omega (arith, c.len-place-end.ensures) in
    omega (arith, row_short up c.requires.arranged c.loop-place.place inside, ap length c.row.ensures, c.requires.few)

pub returns-clause-pace : goal.returns-clause-pace
returns-clause-pace c =
    let up : List (List ℕ) = c.args.upstream.now in
    let taking = c.loop-place.taking in
    let inv = c.loop-place.invariant in
    let last : c.loop-place.place ≡ length up = omega (arith, c.len-place-end.ensures) in
    record {
      count = inv.0 ∙ last;
      waits = λ q below. inv.2 q (omega arith) ∙ sym (ap (λ order. left_of order (row_at up q)) inv.1 ∙ left_none (row_at up q));
      readies = λ q. inv.3 q ∙ ap (λ n. ltb q n && eqb (length (row_at up q)) 0) last ∙ ap (λ n. ltb q (length up) && eqb n 0) (sym (left_none (row_at up q))) ∙ ap (λ b. ltb q (length up) && b) (sym (free_is up [] q)) ∙ ap (λ order. ltb q (length up) && is_free up order q) (sym inv.1);
      closed = λ q below among. absurd (false≢true (ap (λ order. is_among order q) (sym inv.1) ∙ among));
    }
