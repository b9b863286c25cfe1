use Rattle.std.proofs.Common.{◌∙◌, ap}
use Rattle.std.proofs.lemmas.Str.{is_utf8-from_IsUtf8}
use Rattle.af_base.specs.Parsed.{json_of}
use Rattle.af_store.proofs.row.value_of.Goals as goal

pub returns : goal.returns
returns c = c.in_ok-value.ensures ∙ ap json_of c.as_bytes.ensures.value ∙ rw (is_utf8-from_IsUtf8 c.args.body.now c.utf8.body)
