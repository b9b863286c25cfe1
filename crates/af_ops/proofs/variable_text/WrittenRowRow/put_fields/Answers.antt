use Rattle.af_ops.proofs.variable_text.WrittenRowRow.put_fields.Goals as goal

pub returns : goal.returns
returns c = rw (← c.self.view_is, ← c.as_str.ensures.text, ← c.as_str-2.ensures) c.put_variable.ensures
