use Rattle.std.proofs.Common.{rules, ◌∙◌, ◌∷◌, ◌++◌, [], List, ℕ, ap, string_bytes}
use Rattle.af_http.proofs.PartLemmas.{decoded_text, one_put, unfit_bytes}
use Rattle.af_http.proofs.parts.Parts.push.Goals as goal

pub returns-in-Ok-clause-text : goal.returns-in-Ok-clause-text
returns-in-Ok-clause-text c =
    λ fits. (
      c.in-Ok.text.now,
      decoded_text c.args.part.now c.in-Ok.text.now (search rules) (search rules),
      one_put (λ text. string_bytes text) c.self.inside.texts.items c.self.inside.count c.put.new.place (search rules)
          ∙ ap (λ (all : List (List ℕ)). all ++ string_bytes c.put.new.place ∷ []) c.self.view_is
          ∙ ap (λ (text : List ℕ). c.args.self.now ++ text ∷ []) c.put.ensures.text,
    )

pub returns-in-Err-clause-unfit : goal.returns-in-Err-clause-unfit
returns-in-Err-clause-unfit c = λ fits. unfit_bytes c.args.part.now c.decode.new.bytes.items (search rules) (search rules)
