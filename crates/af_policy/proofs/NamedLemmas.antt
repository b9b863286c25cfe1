-- Ids of DAGs in order, with one more.
use Rattle.std.proofs.Common.{◌≡◌, ℕ, List, ◌∷◌, take, drop, Bool, true, false, ◌||◌, nat_eq, refl, sym, ap, ◌∙◌}
use Rattle.std.specs.List.{list_any}
use Rattle.std.specs.Cmp.Lexicographic.{pointwise}
use Rattle.std.proofs.lemmas.List.{take-append-drop}
use Rattle.std.proofs.lemmas.List.Folds.{list_any-append}
use Rattle.af_base.specs.Ordered.{has_key, with_row}
use Rattle.af_base.specs.Places.{FitsAt}
use Rattle.af_base.proofs.OrderedLemmas.{with_row-is_insert}
use Rattle.af_policy.specs.Views.{is_named}

or_between : (a b c : Bool) → (a || (b || c)) ≡ ((a || c) || b)
or_between true b c = refl
or_between false true true = refl
or_between false true false = refl
or_between false false true = refl
or_between false false false = refl

-- an id that is new
pub named_new : (ids : List (List ℕ)) (dag : List ℕ) (place : ℕ) → FitsAt (λ id. id) ids dag place → (other : List ℕ) → is_named (with_row (λ id. id) ids dag) other ≡ (is_named ids other || pointwise nat_eq dag other)
named_new ids dag place fits other =
    ap (λ rows. is_named rows other) (with_row-is_insert (λ id. id) ids dag place fits)
    ∙ list_any-append (has_key (λ id. id) other) (take place ids) (dag ∷ drop place ids)
    ∙ or_between (list_any (has_key (λ id. id) other) (take place ids)) (pointwise nat_eq dag other) (list_any (has_key (λ id. id) other) (drop place ids))
    ∙ ap (λ b. b || pointwise nat_eq dag other) (sym (list_any-append (has_key (λ id. id) other) (take place ids) (drop place ids)) ∙ ap (λ rows. is_named rows other) (take-append-drop place ids))
