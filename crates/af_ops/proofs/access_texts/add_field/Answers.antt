use Rattle.std.proofs.Common.{◌∙◌, ap}
use Rattle.af_ops.specs.AccessTexts.{entries_view}
use Rattle.af_ops.proofs.InOrderLemmas.{entries_view-insert_entry}
use Rattle.af_ops.proofs.access_texts.add_field.Goals as goal

pub returns : goal.returns
returns c =
    ap entries_view c.in_ok-insert.ensures.entries ∙ entries_view-insert_entry c.args.fields.now.entries c.args.name c.args.value
