use Rattle.std.proofs.Common.{◌∙◌, sym, ap}
use Rattle.serde_json.specs.Read.{read as read_text}
use Rattle.af_base.specs.JsonValue.{view}
use Rattle.af_base.proofs.JsonLemmas.{json_of-none, json_of-value}
use Rattle.af_base.proofs.json_value.reading.json_in.Goals as goal

pub returns-in_default : goal.returns-in_default
returns-in_default c = sym (json_of-none c.args.bytes.now (λ utf8. absurd (c.in_default.ensures.cases.0 utf8)))

pub returns-in-Ok-read_all : goal.returns-in-Ok-read_all
returns-in-Ok-read_all c =
    let seen = c.in-Ok.ensures.cases in
    sym (json_of-value c.args.bytes.now (view c.in-Ok-read_all.value) seen.1 (ap read_text (sym seen.0) ∙ c.in-Ok-read_all.ensures.ok))
