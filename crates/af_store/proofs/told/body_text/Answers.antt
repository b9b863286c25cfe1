use Rattle.std.proofs.Common.{◌∙◌, ap, map}
use Rattle.json.specs.Print.{print}
use Rattle.serde_json.proofs.Texts.{print-outline}
use Rattle.af_store.specs.Bodies.{object_of}
use Rattle.af_store.specs.Tellings.{field_of}
use Rattle.af_store.proofs.PieceLemmas.{object_written}
use Rattle.af_store.proofs.told.body_text.Goals as goal

pub returns : goal.returns
returns c =
    let fields = map field_of c.args.members.now in
    c.into_string.ensures
    ∙ ap print (object_written fields c.in_ok-out.ensures c.in_ok-begin_object.ensures c.in_ok-put_fields.ensures c.in_ok-end_object.ensures)
    ∙ print-outline (object_of fields)
