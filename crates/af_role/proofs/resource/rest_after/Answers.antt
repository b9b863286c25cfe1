use Rattle.std.proofs.Common.{◌≡◌, ℕ, List, length, drop, Bool, true, false, nat_eq, cond, Option, Some, None, Bor, refl, sym, ap, ◌∙◌}
use Rattle.std.specs.Prelude.{MatchOption}
use Rattle.std.specs.Option.{option_copied}
use Rattle.std.specs.List.{starts_with}
use Rattle.std.specs.Str.Pattern.{FindsTextPrefix, StripsPrefix}
use Rattle.std.proofs.lemmas.Slice.Eq.{starts_is}
use Rattle.std.proofs.lemmas.Bool.Decides.{Decides-eqb}
use Rattle.af_role.specs.Resources.{rest_after}
use Rattle.af_role.proofs.resource.rest_after.Goals as goal

stripped : (s p : List ℕ) (r : Option (Bor (List ℕ))) → MatchOption r (FindsTextPrefix p s None) (λ x. StripsPrefix (FindsTextPrefix p) s x.now) → option_copied r ≡ rest_after s p
stripped s p None lacks = step (starts_with nat_eq s p) refl
  where
    step : (b : Bool) → starts_with nat_eq s p ≡ b → None ≡ cond b (Some (drop (length p) s)) None
    step false e = refl
    step true e = absurd (lacks (drop (length p) s) ((starts_is Decides-eqb s p (starts_with nat_eq s p) refl).0 e))
stripped s p (Some x) cut =
    let e : starts_with nat_eq s p ≡ true = (starts_is Decides-eqb s p (starts_with nat_eq s p) refl).1 (drop cut.0 s) cut.1.1
    in ap Some cut.2
    ∙ ap (λ k. Some (drop k s)) cut.1.0
    ∙ ap (λ b. cond b (Some (drop (length p) s)) None) (sym e)

pub returns : goal.returns
returns c = stripped c.args.text.now c.args.prefix.now c.strip_prefix.result c.strip_prefix.ensures.cases
