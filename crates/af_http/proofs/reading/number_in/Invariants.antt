use Rattle.std.proofs.Common.{◌≡◌, ◌≤◌, ◌+◌, drop}
use Rattle.af_http.specs.Limits.{body_limit}
use Rattle.af_http.specs.Requests.{digits_from}
use Rattle.af_http.specs.Lengths.{capped}
use Rattle.af_http.proofs.reading.number_in.Given as goal

abbrev pub invariant-loop-byte : goal.invariant-loop-byte
invariant-loop-byte l =
    (capped (digits_from l.number (drop l.byte-index l.text)) ≡ capped (digits_from 0 l.text)) × (l.number ≤ body_limit + 1)
