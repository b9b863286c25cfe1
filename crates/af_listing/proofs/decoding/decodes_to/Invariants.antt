use Rattle.std.proofs.Common.{◌≡◌, bytes_eq}
use Rattle.percent_encoding.specs.Iter.{decoded_bytes}
use Rattle.percent_encoding.specs.Percent.{percent_decode}
use Rattle.af_listing.proofs.decoding.decodes_to.Given as goal

abbrev pub invariant-loop-byte : goal.invariant-loop-byte
invariant-loop-byte l = bytes_eq (decoded_bytes l.byte-iterator) l.left ≡ bytes_eq (percent_decode l.text) l.name
