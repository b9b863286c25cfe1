use Rattle.std.proofs.Common.{◌≡◌, ◌++◌, ◌∙◌, [], ◌∷◌, List, ℕ, OnOk, ap, subst, sym}
use Rattle.serde_json.specs.Data.{string}
use Rattle.serde_json.specs.Written.{compact_text}
use Rattle.af_role.specs.Pairs.{pair_text}
use Rattle.af_role.specs.declared.resource.Resource.{Resource}
use Rattle.af_ops.proofs.PairLemmas.{dag_spelled, kind_spelled}
use Rattle.af_ops.proofs.me_text.put_pair_text.Goals as goal

pub returns-in-Kind-clause-text : goal.returns-in-Kind-clause-text
returns-in-Kind-clause-text c =
    let action = c.args.pair.now.action in
    let spelled : (34 ∷ []) ++ (c.text.result.now ++ c.action_end-action.result.now) ≡ compact_text (string (pair_text c.args.pair.now)) =
    rw (c.text.ensures, c.action_end-action.ensures.text, c.action.ensures.value) (kind_spelled c.in-Kind.kind action)
    ∙ ap (λ (resource : Resource). compact_text (string (pair_text (record { action = action; resource = resource })))) (sym c.in-Kind.is ∙ c.resource.ensures.value) in
    subst (λ (text : List ℕ). OnOk c.put_pieces.result (c.put_pieces.new.out.items ≡ c.args.out.now.items ++ text)) spelled c.put_pieces.ensures.text

pub returns-in-Dag-clause-text : goal.returns-in-Dag-clause-text
returns-in-Dag-clause-text c =
    let action = c.args.pair.now.action in
    let spelled : c.dag_front.result.now ++ (c.as_str.result.now ++ c.action_end-action.result.now) ≡ compact_text (string (pair_text c.args.pair.now)) =
    rw (c.dag_front.ensures.text, c.as_str.ensures.text, c.action_end-action.ensures.text, c.action.ensures.value) (dag_spelled c.in-Dag.part c.in-Dag.dag_id action c.as_str.ensures.bytes)
    ∙ ap (λ (resource : Resource). compact_text (string (pair_text (record { action = action; resource = resource })))) (sym c.in-Dag.is ∙ c.resource.ensures.value) in
    subst (λ (text : List ℕ). OnOk c.put_pieces-in-Dag.result (c.put_pieces-in-Dag.new.out.items ≡ c.args.out.now.items ++ text)) spelled c.put_pieces-in-Dag.ensures.text
