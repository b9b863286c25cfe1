use Rattle.std.proofs.Common.{◌∙◌, List, Option, Some, map, option_map, sym, ap}
use Rattle.serde_json.specs.Data.{Items}
use Rattle.af_base.specs.JsonValue.{view}
use Rattle.af_base.specs.Members.{values_of}
use Rattle.af_base.specs.declared.json_value.Json.{Json}
use Rattle.af_base.proofs.MemberLemmas.{values_of-items_of}
use Rattle.af_base.proofs.json_value.Json.as_array.Goals as goal

pub returns-in-Some : goal.returns-in-Some
returns-in-Some c =
    ap (λ (values : List Json). Some (map view values)) c.as_slice.ensures.value
    ∙ ap Some (sym (values_of-items_of (map view c.in-Some.values.now.items)))
    ∙ ap (λ (items : Option Items). option_map values_of items) c.in-Some.ensures
