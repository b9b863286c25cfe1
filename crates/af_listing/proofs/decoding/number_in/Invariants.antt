use Rattle.std.proofs.Common.{◌≡◌, ◌≤◌}
use Rattle.percent_encoding.specs.Iter.{decoded_bytes}
use Rattle.percent_encoding.specs.Percent.{percent_decode}
use Rattle.af_listing.specs.Windows.{last_number}
use Rattle.af_listing.proofs.DecodeLemmas.{numbered}
use Rattle.af_listing.proofs.decoding.number_in.Given as goal

abbrev pub invariant-loop-byte : goal.invariant-loop-byte
invariant-loop-byte l = (numbered l.number (decoded_bytes l.byte-iterator) ≡ numbered 0 (percent_decode l.text)) × (l.number ≤ last_number)
