use Rattle.std.proofs.Common.{◌≡◌, ◌≤◌, ◌++◌, length}
use Rattle.std.specs.Vec.{vec_capacity}
use Rattle.percent_encoding.specs.Iter.{decoded_bytes}
use Rattle.percent_encoding.specs.Percent.{percent_decode}
use Rattle.af_http.specs.Limits.{name_limit}
use Rattle.af_http.proofs.parts.decode_escapes.Given as goal

abbrev pub invariant-loop-byte : goal.invariant-loop-byte
invariant-loop-byte l =
    (l.bytes.items ++ decoded_bytes l.byte-iterator ≡ percent_decode l.fn.part) × (length l.bytes.items ≤ name_limit) × (name_limit ≤ vec_capacity l.bytes)
