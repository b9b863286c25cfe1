-- Permissions in a list with one more at its end.
use Rattle.std.proofs.Common.{◌≡◌, List, [], ◌∷◌, ◌++◌, Bool, true, false, ◌||◌, refl, ap, ◌∙◌}
use Rattle.std.proofs.lemmas.List.Folds.{list_any-append}
use Rattle.af_role.specs.Pairs.{PairRow, same_pair}
use Rattle.af_role.specs.Roles.{contains_pair}
use Rattle.af_role.proofs.DagMaskLemmas.{or_nil}

or_comm : (a b : Bool) → (a || b) ≡ (b || a)
or_comm true true = refl
or_comm true false = refl
or_comm false true = refl
or_comm false false = refl

pub contains_more : (pairs : List PairRow) (pair other : PairRow) → contains_pair (pairs ++ pair ∷ []) other ≡ (same_pair pair other || contains_pair pairs other)
contains_more pairs pair other =
    list_any-append (λ own. same_pair own other) pairs (pair ∷ [])
    ∙ ap (λ b. contains_pair pairs other || b) (or_nil (same_pair pair other))
    ∙ or_comm (contains_pair pairs other) (same_pair pair other)
