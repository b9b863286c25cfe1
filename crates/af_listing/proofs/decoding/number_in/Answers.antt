use Rattle.std.proofs.Common.{sym, ◌∙◌, ap}
use Rattle.std.proofs.lemmas.Bool.{eqb-false, eqb-true}
use Rattle.percent_encoding.specs.Iter.{decoded_bytes}
use Rattle.af_listing.proofs.DecodeLemmas.{plus_in_no_number, nothing_is_no_number, number_from, no_digit, one_digit, whole_number, within_last, numbered}
use Rattle.af_listing.proofs.decoding.number_in.Goals as goal
use Rattle.af_listing.proofs.decoding.number_in.Goals.{then-is_empty-via-then-is_empty, then-is_empty-via-else-is_empty+then-has_plus}

pub returns-then-is_empty : goal.returns-then-is_empty
returns-then-is_empty c =
    elim c.then-is_empty.branch [
      | then-is_empty-via-then-is_empty w ↦ sym (nothing_is_no_number c.args.text.now (eqb-true _ 0 (sym w.if-is_empty.ensures)))
      | then-is_empty-via-else-is_empty+then-has_plus w ↦ sym (plus_in_no_number c.args.text.now (sym w.if-has_plus.ensures))
    ]

pub returns-then-not-is_ascii_digit : goal.returns-then-not-is_ascii_digit
returns-then-not-is_ascii_digit c =
    sym (number_from c.args.text.now (eqb-false _ 0 (sym c.if-is_empty.ensures)) (sym c.if-has_plus.ensures)
    ∙ sym c.loop-byte.invariant.0
    ∙ ap (numbered c.loop-byte.number) c.in-Some.ensures.steps
    ∙ no_digit c.loop-byte.number c.in-Some.byte (decoded_bytes c.next.new.self) (sym c.if-not-is_ascii_digit.ensures.value))

pub loop-byte-preserved : goal.loop-byte-preserved
loop-byte-preserved c = (
  rw (c.saturating_add-number.ensures, c.saturating_mul.ensures, c.from.ensures)
      (one_digit c.loop-byte.number c.in-Some.byte (decoded_bytes c.next.new.self) (sym c.if-not-is_ascii_digit.ensures.value)
      ∙ sym (ap (numbered c.loop-byte.number) c.in-Some.ensures.steps)
      ∙ c.loop-byte.invariant.0),
  rw c.saturating_add-number.ensures (within_last _),
)

pub returns : goal.returns
returns c =
    sym (number_from c.args.text.now (eqb-false _ 0 (sym c.if-is_empty.ensures)) (sym c.if-has_plus.ensures)
    ∙ sym c.loop-byte.invariant.0
    ∙ ap (numbered c.loop-byte.number) c.in-None.ensures.steps.0
    ∙ whole_number c.loop-byte.number c.loop-byte.invariant.1)
