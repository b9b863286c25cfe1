use Rattle.std.proofs.Common.{◌∙◌, ◌++◌, ◌∷◌, [], ℕ, List, ap, ap₂}
use Rattle.std.specs.Prelude.{codes}
use Rattle.json.specs.Token.{Token}
use Rattle.json.specs.Tree.{json_tokens}
use Rattle.serde_json.specs.Written.{outline}
use Rattle.af_store.specs.ChangeLines.{access_told, texts_told}
use Rattle.af_store.proofs.PieceLemmas.{five}
use Rattle.af_store.proofs.change_pieces.AccessRowPiece.put.Goals as goal

pub returns : goal.returns
returns c =
    five c.args.out.now (Token.begin_object ∷ [])
    (Token.key (codes "DAG Runs") ∷ json_tokens (outline (texts_told c.as_slice.result.now)))
    (Token.key (codes "DAGs") ∷ json_tokens (outline (texts_told c.as_slice-2.result.now)))
    (Token.key (codes "role") ∷ Token.string c.as_str.result.now ∷ [])
    c.in_ok-begin_object.ensures c.in_ok-put_texts.ensures c.in_ok-put_texts-2.ensures c.in_ok-put_text.ensures
    (Token.end_object ∷ []) c.in_ok-end_object.ensures
    ∙ ap (λ (role : List ℕ). c.args.out.now ++ json_tokens (outline (access_told (record { role = role; actions = c.as_slice-2.result.now; runs = c.as_slice.result.now })))) c.as_str.ensures.text
    ∙ ap₂ (λ (actions runs : List (List ℕ)). c.args.out.now ++ json_tokens (outline (access_told (record { role = c.args.self.now.role; actions = actions; runs = runs })))) c.as_slice-2.ensures c.as_slice.ensures
