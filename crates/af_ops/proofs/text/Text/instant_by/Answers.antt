use Rattle.std.proofs.Common.{◌≡◌, OnOk, List, ℕ, true, [], ◌∷◌, ap, subst, sym, ◌∙◌, ◌==◌, arith}
use Rattle.std.proofs.lemmas.Bool.Decides.{nat_tests}
use Rattle.serde_json.specs.Data.{string}
use Rattle.af_names.specs.Isoformat.{isoformat}
use Rattle.af_ops.specs.Texts.{Adds}
use Rattle.af_ops.proofs.text.Text.instant_by.Goals as goal

same : (n m : ℕ) → (n == m) ≡ true → n ≡ m
same n m is = grind (arith, nat_tests)

pub returns-then-eq : goal.returns-then-eq
returns-then-eq c =
    subst (λ (text : List ℕ). OnOk c.plain_bytes.result (Adds c.args.later c.args.self.now c.plain_bytes.new.self ((c.args.name.now, string text) ∷ [])))
    (c.as_bytes.ensures.text ∙ ap isoformat (sym (same c.args.value c.instant.result (sym c.if-eq.ensures) ∙ c.instant.ensures))) c.plain_bytes.ensures
