use Rattle.std.proofs.Common.{◌∙◌, ◌++◌, ap, map}
use Rattle.json.specs.Print.{print}
use Rattle.serde_json.proofs.Texts.{print-outline}
use Rattle.af_store.specs.Bodies.{object_of}
use Rattle.af_store.specs.EntryLines.{event_fields, head_fields, version_fields}
use Rattle.af_store.specs.Tellings.{field_of}
use Rattle.af_store.proofs.PieceLemmas.{framed, object_written}
use Rattle.af_store.proofs.entry_telling.framed_text.Goals as goal

pub returns : goal.returns
returns c =
    let entry = c.args.entry.now in
    let before = map field_of c.args.before.now in
    let after = map field_of c.args.after.now in
    let fields = head_fields entry ++ (before ++ (event_fields entry ++ (after ++ version_fields entry))) in
    c.into_string.ensures
    ∙ ap print (object_written fields c.in_ok-out.ensures c.in_ok-begin_object.ensures
    (framed c.begin_object.new.self (head_fields entry) before (event_fields entry) after (version_fields entry)
    c.in_ok-put_head.ensures c.in_ok-put_fields.ensures c.in_ok-put_event.ensures c.in_ok-put_fields-2.ensures c.in_ok-put_version.ensures)
    c.in_ok-end_object.ensures)
    ∙ print-outline (object_of fields)
