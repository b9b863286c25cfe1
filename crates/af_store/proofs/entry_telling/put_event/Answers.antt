use Rattle.std.proofs.Common.{◌∙◌, ◌++◌, ◌∷◌, [], ℕ, List, ap₂}
use Rattle.std.specs.Prelude.{codes}
use Rattle.serde_json.specs.Data.{string}
use Rattle.af_store.specs.EntryLines.{count_told}
use Rattle.af_store.specs.Tellings.{fields_tokens}
use Rattle.af_store.proofs.entry_telling.put_event.Goals as goal

pub returns : goal.returns
returns c =
    c.in_ok-put_fields.ensures
    ∙ ap₂ (λ (event : List ℕ) (seq : ℕ). c.args.out.now ++ fields_tokens ((codes "event", string event) ∷ (codes "event_log_id", count_told seq) ∷ [])) c.event.ensures.name c.from.ensures
