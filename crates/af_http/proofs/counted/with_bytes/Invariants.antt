use Rattle.std.proofs.Common.{◌≡◌, ◌++◌, take}
use Rattle.af_http.specs.Streams.{bytes_of}
use Rattle.af_http.proofs.counted.with_bytes.Given as goal

abbrev pub invariant-loop-byte : goal.invariant-loop-byte
invariant-loop-byte l = bytes_of l.log.items ≡ bytes_of l.fn.log.items ++ take l.byte-index l.bytes
