use Rattle.std.proofs.Common.{◌≡◌, ◌∷◌, [], ℕ, List, Ok, ap, sym}
use Rattle.std.specs.Prelude.{codes, string_bytes}
use Rattle.serde_json.specs.Data.{boolean}
use Rattle.af_store.specs.Bodies.{body_of}
use Rattle.af_store.specs.EntryLines.{entry_fields, run_parts}
use Rattle.af_store.proofs.op_telling.clear_run_text.Goals as goal

pub returns-in_ok-framed_text-in-Ok : goal.returns-in_ok-framed_text-in-Ok
returns-in_ok-framed_text-in-Ok c =
    let text : string_bytes c.in_ok-framed_text-in-Ok.field-0 ≡ body_of (entry_fields c.args.entry.now (run_parts c.args.dag_id.now c.args.run_id.now ((codes "dry_run", boolean c.in-Ok.dry_run) ∷ []) [])) =
    rw (← c.as_str.ensures.text, ← c.as_str-in-Ok.ensures.text) c.in_ok-framed_text-in-Ok.ensures in
    rw c.in-Ok.is (ap (λ (it : List ℕ). Ok it) (sym text))
