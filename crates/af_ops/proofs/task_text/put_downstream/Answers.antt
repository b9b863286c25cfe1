use Rattle.std.proofs.Common.{◌≡◌, ◌∙◌, ◌∷◌, ◌++◌, [], codes, false, map, refl}
use Rattle.serde_json.specs.Data.{array, string}
use Rattle.serde_json.specs.View.{items_of}
use Rattle.serde_json.specs.Written.{compact_text, items_text}
use Rattle.af_ops.specs.Effects.{downstream_ids, id_at}
use Rattle.af_ops.proofs.TextLemmas.{adds_pieces}
use Rattle.af_ops.proofs.task_text.put_downstream.Goals as goal

pub returns : goal.returns
returns c =
    let tasks = c.args.dag.now.tasks in
    let spelled : compact_text (array (items_of (map (λ id. string id) (downstream_ids tasks c.args.place)))) ≡ (91 ∷ []) ++ items_text false (items_of (map (λ id. string id) (map (id_at c.tasks.result.now) c.downstream.result.now))) =
    rw (c.tasks.ensures, c.downstream.ensures) refl in
    adds_pieces false c.args.out.now _ (codes "downstream_task_ids") (91 ∷ []) _ _ refl spelled
    (c.in_ok-reserve-2.ensures.items ∙ c.in_ok-put_ids.ensures.text ∙ rw (c.push_member.ensures.items, c.in_ok-reserve.ensures.items) refl)
    c.in_ok-reserve-2.ensures.ready
