use Rattle.af_store.proofs.entry_telling.report_text.Goals as goal

pub returns : goal.returns
returns c =
    rw (← c.as_str.ensures.text, ← c.as_str-2.ensures.text, ← c.as_str-3.ensures.text, ← c.as_str-4.ensures.text, ← c.from.ensures) c.in_ok-text.ensures
