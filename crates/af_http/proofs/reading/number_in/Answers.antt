use Rattle.std.proofs.Common.{get_or, sym, ◌+◌, ◌*◌}
use Rattle.af_http.specs.Requests.{digits_from}
use Rattle.af_http.specs.Lengths.{capped}
use Rattle.af_http.proofs.LengthLemmas.{digit_more, cap_within, drop_here}
use Rattle.af_http.proofs.reading.number_in.Goals as goal

pub loop-byte-preserved : goal.loop-byte-preserved
loop-byte-preserved c =
    let text = c.args.text.now in
    let i = c.loop-byte.byte-index in (
      rw c.cap-number.ensures (rw c.from.ensures (digit_more text i c.loop-byte.number (get_or text i 0) (capped (digits_from 0 text)) (drop_here text i c.loop-byte-test.true)
          (sym c.if-not-is_ascii_digit.ensures.value) c.loop-byte.invariant.0)),
      rw c.cap-number.ensures (cap_within (c.loop-byte.number * 10 + c.from.result)),
    )
