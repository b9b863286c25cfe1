use Rattle.std.proofs.Common.{◌≡◌, ℕ, List, Ok, ap, sym}
use Rattle.std.specs.Prelude.{string_bytes}
use Rattle.af_store.specs.Bodies.{body_of}
use Rattle.af_store.specs.EntryLines.{entry_fields, trigger_parts}
use Rattle.af_store.proofs.op_telling.trigger_text.Goals as goal

pub returns-in_ok-framed_text-in-Ok : goal.returns-in_ok-framed_text-in-Ok
returns-in_ok-framed_text-in-Ok c =
    let text : string_bytes c.in_ok-framed_text-in-Ok.field-0 ≡ body_of (entry_fields c.args.entry.now (trigger_parts c.args.dag_id.now c.in-Ok.asked)) =
    rw (← c.as_str.ensures.text, ← c.run_told.ensures, ← c.instant_told.ensures) c.in_ok-framed_text-in-Ok.ensures in
    rw c.in-Ok.is (ap (λ (it : List ℕ). Ok it) (sym text))
