use Rattle.std.proofs.Common.{rules, codes, true, ◌∷◌, []}
use Rattle.serde_json.specs.Data.{number}
use Rattle.serde_json.specs.Find.{of_integer}
use Rattle.af_ops.specs.Texts.{Adds, front}
use Rattle.af_ops.proofs.TextLemmas.{more}
use Rattle.af_ops.proofs.task_text.put_task.Goals as goal

pub returns : goal.returns
unfolding front
returns c =
    let weight : Adds true c.number.new.self c.integer.new.self ((codes "priority_weight", number (of_integer c.args.task.now.priority_weight)) ∷ []) = search rules in
    rw (← c.from.ensures, ← c.as_str.ensures.text, ← c.as_str-2.ensures.text)
    (more (more (more (more (more (more c.in_ok-put_downstream.ensures c.in_ok-text.ensures) c.in_ok-number.ensures) weight) c.in_ok-number-2.ensures) c.in_ok-task_id.ensures) c.in_ok-text-2.ensures)
