use Rattle.std.proofs.Common.{◌-◌, ◌<◌, ◌++◌, List, ℕ, length}
use Rattle.af_http.specs.Gathering.{Fills}
use Rattle.af_http.specs.Streams.{Took, EachWhile}
use Rattle.af_http.proofs.gathering.gather_body.Given as goal

abbrev pub invariant-loop-count : goal.invariant-loop-count
invariant-loop-count g l =
    let given = g.R.Source.given in
    ((more : List ℕ) × Fills (given l.fn.reader) (given l.reader) l.fn.incoming l.incoming more
    × EachWhile (λ brought. length (l.fn.incoming ++ brought) < l.wanted) (given l.fn.reader) (given l.reader) more)
    × Took (l.count - l.before) 0 0 (given l.fn.reader) (given l.reader)
    × (length l.incoming < l.wanted)
