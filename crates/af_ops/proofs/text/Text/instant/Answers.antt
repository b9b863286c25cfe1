use Rattle.af_ops.proofs.text.Text.instant.Goals as goal

pub returns-in-Some : goal.returns-in-Some
returns-in-Some c = rw (c.in-Some.is, c.keep_at_hand.ensures, ← c.text_of-text.ensures.same, ← c.text_of-text.ensures.text, ← c.as_bytes.ensures.text) c.plain_bytes-told.ensures
