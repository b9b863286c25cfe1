use Rattle.json.specs.Written.{PlainBetween}
use Rattle.af_ops.proofs.plain_bytes.plain_few.Given as goal

-- the bytes so far
abbrev pub invariant-loop-byte : goal.invariant-loop-byte
invariant-loop-byte l = PlainBetween l.text 0 l.byte-index
