use Rattle.std.proofs.Common.{◌∙◌}
use Rattle.af_ops.proofs.InOrderLemmas.{entries_view-behind, entries_view-insert_entry}
use Rattle.af_ops.proofs.access_texts.with_field.Goals as goal

pub returns : goal.returns
returns c =
    entries_view-behind c.in_ok-made.made.items _ c.put_field.new.into.items c.in_ok-made.ensures.items c.in_ok-put_field.ensures
    ∙ entries_view-insert_entry c.args.fields.now c.args.name c.args.value
