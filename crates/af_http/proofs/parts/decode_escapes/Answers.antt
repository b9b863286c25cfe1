use Rattle.std.proofs.Common.{◌≡◌, true, false}
use Rattle.percent_encoding.specs.Iter.{decoded_bytes}
use Rattle.percent_encoding.specs.Percent.{percent_decode}
use Rattle.af_http.specs.Limits.{name_limit}
use Rattle.af_http.proofs.PartLemmas.{all_came, byte_more, longer_than}
use Rattle.af_http.proofs.parts.decode_escapes.Goals as goal

never : true ≡ false → ⊥
never is = cc

never_so : false ≡ true → ⊥
never_so is = cc

pub loop-byte-preserved : goal.loop-byte-preserved
loop-byte-preserved c =
    let h = c.push_byte.ensures in
    let it = c.loop-byte.byte-iterator in (
      byte_more c.loop-byte.bytes.items c.push_byte.new.bytes.items (decoded_bytes it) (decoded_bytes c.next.new.self) (percent_decode c.args.part.now) c.in-Some.byte
          c.loop-byte.invariant.0 c.in-Some.ensures.steps (h.text c.if-not-push_byte.false),
      h.short c.if-not-push_byte.false,
      h.room,
    )

pub returns-then-not-push_byte : goal.returns-then-not-push_byte
returns-then-not-push_byte c =
    let h = c.push_byte.ensures in
    let it = c.loop-byte.byte-iterator in
    record {
      room = h.room;
      text = λ is. absurd (never_so is);
      short = λ is. absurd (never_so is);
      long = λ is.
          longer_than c.loop-byte.bytes.items (decoded_bytes it) (decoded_bytes c.next.new.self) (percent_decode c.args.part.now) c.in-Some.byte name_limit
          c.loop-byte.invariant.0 c.in-Some.ensures.steps (h.full c.if-not-push_byte.true);
    }

pub returns : goal.returns
returns c =
    let i = c.loop-byte.invariant in
    record {
      room = i.2;
      text = λ is. all_came c.loop-byte.bytes.items (decoded_bytes c.loop-byte.byte-iterator) (percent_decode c.args.part.now) i.0 c.in-None.ensures.steps.0;
      short = λ is. i.1;
      long = λ is. absurd (never is);
    }
