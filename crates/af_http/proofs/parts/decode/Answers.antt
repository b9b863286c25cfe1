use Rattle.std.proofs.Common.{◌∙◌, ◌<◌, ℕ, List, length, arith, subst, sym}
use Rattle.std.proofs.lemmas.Bool.{eq-eqb}
use Rattle.af_http.specs.Limits.{name_limit}
use Rattle.af_http.proofs.PartLemmas.{decoded_plain}
use Rattle.af_http.proofs.parts.decode.Goals as goal

pub returns-in-None-clause-text : goal.returns-in-None-clause-text
returns-in-None-clause-text c = λ fits.
    c.copy.ensures.text fits ∙ sym (decoded_plain c.args.part.now (λ k h e. c.in-None.ensures k (omega arith) h (eq-eqb _ 37 e)))

pub returns-in-None-clause-long : goal.returns-in-None-clause-long
returns-in-None-clause-long c = λ cut.
    subst (λ (text : List ℕ). name_limit < length text)
    (sym (decoded_plain c.args.part.now (λ k h e. c.in-None.ensures k (omega arith) h (eq-eqb _ 37 e))))
    (c.copy.ensures.long cut)
