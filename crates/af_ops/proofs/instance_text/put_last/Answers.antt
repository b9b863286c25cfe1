use Rattle.std.proofs.Common.{rules, codes, true, ◌∷◌, []}
use Rattle.serde_json.specs.Data.{number}
use Rattle.serde_json.specs.Find.{of_integer}
use Rattle.af_ops.specs.Texts.{Adds, front}
use Rattle.af_ops.proofs.TextLemmas.{more}
use Rattle.af_ops.proofs.instance_text.put_last.Goals as goal

pub returns : goal.returns
unfolding front
returns c =
    let weight : Adds true c.args.out.now c.integer.new.self ((codes "priority_weight", number (of_integer c.args.task.now.priority_weight)) ∷ []) = search rules in
    rw (← c.from.ensures)
    (more (more (more (more weight c.in_ok-instant.ensures) c.in_ok-put_state.ensures) c.in_ok-task_id.ensures) c.in_ok-number.ensures)
