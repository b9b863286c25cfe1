use Rattle.std.proofs.Common.{◌≡◌, ◌++◌, List, ℕ, length}
use Rattle.af_http.specs.Streams.{Grew}
use Rattle.af_http.proofs.writing.write_all.Given as goal

abbrev pub invariant-loop-rest : goal.invariant-loop-rest
invariant-loop-rest g l =
    ((front : List ℕ) × (l.bytes ≡ front ++ l.rest) × ((g.W.Sink.taken l.writer).bytes ≡ (g.W.Sink.taken l.fn.writer).bytes ++ front))
    × ((g.W.Sink.taken l.writer).failures ≡ (g.W.Sink.taken l.fn.writer).failures)
    × Grew (g.W.Sink.taken l.fn.writer) (g.W.Sink.taken l.writer)

abbrev pub decreases-loop-rest : goal.decreases-loop-rest
decreases-loop-rest g l = length l.rest
