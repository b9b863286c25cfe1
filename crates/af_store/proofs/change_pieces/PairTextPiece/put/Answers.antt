use Rattle.std.proofs.Common.{◌∙◌, ◌++◌, ◌∷◌, [], ℕ, List, ap₂}
use Rattle.std.specs.Prelude.{codes}
use Rattle.json.specs.Token.{Token}
use Rattle.json.specs.Tree.{json_tokens}
use Rattle.serde_json.specs.Written.{outline}
use Rattle.af_store.specs.Bodies.{name_object}
use Rattle.af_store.specs.ChangeLines.{pair_told}
use Rattle.af_store.proofs.PieceLemmas.{four}
use Rattle.af_store.proofs.change_pieces.PairTextPiece.put.Goals as goal

pub returns : goal.returns
returns c =
    four c.args.out.now (Token.begin_object ∷ [])
    (Token.key (codes "action") ∷ json_tokens (outline (name_object c.as_str.result.now)))
    (Token.key (codes "resource") ∷ json_tokens (outline (name_object c.as_str-2.result.now)))
    (Token.end_object ∷ [])
    c.in_ok-begin_object.ensures c.in_ok-put_named.ensures c.in_ok-put_named-2.ensures c.in_ok-end_object.ensures
    ∙ ap₂ (λ (action resource : List ℕ). c.args.out.now ++ json_tokens (outline (pair_told (record { action = action; resource = resource })))) c.as_str.ensures c.as_str-2.ensures
