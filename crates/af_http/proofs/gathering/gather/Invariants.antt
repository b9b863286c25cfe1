use Rattle.std.proofs.Common.{◌≡◌, ◌≤◌, ◌++◌, List, ℕ, length}
use Rattle.af_http.specs.Limits.{head_limit}
use Rattle.af_http.specs.Fronts.{front_of}
use Rattle.af_http.specs.Extents.{open_front}
use Rattle.af_http.specs.Gathering.{Holds}
use Rattle.af_http.specs.Streams.{Took, EachWhile}
use Rattle.af_http.specs.Reading.{IsOpen}
use Rattle.af_http.proofs.gathering.gather.Given as goal

abbrev pub invariant-loop-count : goal.invariant-loop-count
invariant-loop-count g l =
    let given = g.R.Source.given in
    ((more : List ℕ) × Holds (given l.fn.reader) (given l.reader) l.fn.incoming l.incoming more
    × EachWhile (λ brought. IsOpen (l.fn.incoming ++ brought)) (given l.fn.reader) (given l.reader) more)
    × Took l.count 0 0 (given l.fn.reader) (given l.reader)
    × (front_of l.incoming ≡ open_front l.incoming)
    × (length l.incoming ≤ head_limit)
