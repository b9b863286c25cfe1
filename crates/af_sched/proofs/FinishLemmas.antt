-- Tests at the places of a list, and lists of runs place by place.
use Rattle.std.proofs.Common.{◌≡◌, ◌<◌, ◌+◌, ◌∙◌, ℕ, List, [], ◌∷◌, length, get_or, map, refl, ap, arith, zero, suc, Bool, true, false}
use Rattle.std.specs.List.{list_any, range_with_len, AllZip}
use Rattle.std.proofs.lemmas.List.Folds.{list_any_at}
use Rattle.std.proofs.lemmas.List.FromFn.{get_or-range_with_len}
use Rattle.af_graph.specs.Rows.{places}
use Rattle.af_names.proofs.OrderLemmas.{list_any-none}

length-range : (a n : ℕ) → length (range_with_len a n) ≡ n
length-range a zero = omega arith
length-range a (suc n) = ap suc (length-range (a + 1) n)

-- the place is the number there
at_place : {X : Type 0} (xs : List X) (i d : ℕ) → i < length xs → get_or (places xs) i d ≡ i
at_place xs i d inside =
    let zero_plus : 0 + i ≡ i = omega arith in get_or-range_with_len 0 (length xs) i d inside ∙ zero_plus

pub some_place : {X : Type 0} (test : ℕ → Bool) (xs : List X) (place : ℕ) → place < length xs → test place ≡ true → list_any test (places xs) ≡ true
some_place test xs place inside here =
    list_any_at test (places xs) place 0 (omega (arith, length-range 0 (length xs))) (ap test (at_place xs place 0 inside) ∙ here)

pub no_place : {X : Type 0} (test : ℕ → Bool) (xs : List X) → ((place : ℕ) → place < length xs → test place ≡ false) → list_any test (places xs) ≡ false
no_place test xs none =
    list_any-none test (places xs) (λ j d inside. let within : j < length xs = omega (arith, length-range 0 (length xs)) in ap test (at_place xs j d within) ∙ none j within)

-- a relation that holds place by place holds of the lists
pub AllZip-from : {A B : Type 0} (R : A → B → Type 0) (xs : List A) (ys : List B) → length ys ≡ length xs → ((k : ℕ) (d : A) (e : B) → k < length xs → R (get_or xs k d) (get_or ys k e)) → AllZip R xs ys
AllZip-from R [] [] long each = tt
AllZip-from R [] (y ∷ ys) long each = absurd (omega arith)
AllZip-from R (x ∷ xs) [] long each = absurd (omega arith)
AllZip-from R (x ∷ xs) (y ∷ ys) long each =
    (each 0 x y (omega arith), AllZip-from R xs ys (omega arith) (λ k d e inside. each (suc k) d e (omega arith)))

-- a list that is place by place what a function makes of another
pub map-from : {X : Type 0} (f : X → X) (xs ys : List X) → length ys ≡ length xs → ((k : ℕ) (d : X) → k < length xs → get_or ys k d ≡ f (get_or xs k d)) → ys ≡ map f xs
map-from f [] [] long each = refl
map-from f [] (y ∷ ys) long each = absurd (omega arith)
map-from f (x ∷ xs) [] long each = absurd (omega arith)
map-from f (x ∷ xs) (y ∷ ys) long each =
    let here : y ≡ f x = each 0 x (omega arith) in
    let rest : ys ≡ map f xs = map-from f xs ys (omega arith) (λ k d inside. each (suc k) d (omega arith)) in
    cc
