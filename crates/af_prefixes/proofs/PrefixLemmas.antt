-- Beginnings of one list.
use Rattle.std.proofs.Common.{◌≡◌, ℕ, zero, suc, ◌≤◌, ◌⊎◌, inl, inr, ⊎_elim, List, [], ◌∷◌, ◌++◌, length, Some, slice_get, refl, ap, sym, ◌∙◌, arith, append_assoc, length-append}
use Rattle.std.proofs.lemmas.List.{append-nil}
use mathlib.Core.List.{IsPrefix}
use Rattle.af_prefixes.specs.Beginnings.{Agree}

pub prefix_self : {A : Type 0} (xs : List A) → IsPrefix xs xs
prefix_self xs = ([], append-nil xs)

pub prefix_empty : {A : Type 0} (xs : List A) → IsPrefix [] xs
prefix_empty xs = (xs, refl)

pub prefix_more : {A : Type 0} (xs ys : List A) (z : A) → IsPrefix xs ys → IsPrefix xs (ys ++ z ∷ [])
prefix_more xs ys z p = (p.0 ++ z ∷ [], sym (append_assoc xs p.0 (z ∷ [])) ∙ ap (λ w. w ++ z ∷ []) p.1)

pub prefix_trans : {A : Type 0} (xs ys zs : List A) → IsPrefix xs ys → IsPrefix ys zs → IsPrefix xs zs
prefix_trans xs ys zs p q = (p.0 ++ q.0, sym (append_assoc xs p.0 q.0) ∙ (ap (λ w. w ++ q.0) p.1 ∙ q.1))

pub prefix_length : {A : Type 0} (xs ys : List A) → IsPrefix xs ys → length xs ≤ length ys
prefix_length xs ys p = omega (arith, sym (ap length p.1) ∙ length-append xs p.0)

-- a beginning as long as the whole is the whole
pub prefix_whole : {A : Type 0} (xs ys : List A) → IsPrefix xs ys → length ys ≤ length xs → xs ≡ ys
prefix_whole [] [] p le = refl
prefix_whole [] (y ∷ ys) p le = absurd (omega arith)
prefix_whole (x ∷ xs) [] p le = absurd (cc (p.1))
prefix_whole (x ∷ xs) (y ∷ ys) p le =
    let rest = prefix_whole xs ys (p.0, cc (p.1)) (omega arith) in cc (p.1, rest)

-- what stands in a beginning stands in the whole, at the same place
pub prefix_get : {A : Type 0} (xs ys : List A) (k : ℕ) (x : A) → IsPrefix xs ys → slice_get xs k ≡ Some x → slice_get ys k ≡ Some x
prefix_get [] ys k x p h = absurd cc
prefix_get (y ∷ xs) [] k x p h = absurd (cc (p.1))
prefix_get (y ∷ xs) (z ∷ ys) zero x p h = cc (p.1, h)
prefix_get (y ∷ xs) (z ∷ ys) (suc k) x p h = prefix_get xs ys k x (p.0, cc (p.1)) h

-- two beginnings of one list have the same entries
pub prefixes_agree : {A : Type 0} (xs ys zs : List A) → IsPrefix xs zs → IsPrefix ys zs → Agree xs ys
prefixes_agree xs ys zs p q k x y here there =
    let one : Some x ≡ Some y = sym (prefix_get xs zs k x p here) ∙ prefix_get ys zs k y q there in cc one

-- of two beginnings of one list one begins the other
pub prefixes_in_a_row : {A : Type 0} (xs ys zs : List A) → IsPrefix xs zs → IsPrefix ys zs → IsPrefix xs ys ⊎ IsPrefix ys xs
prefixes_in_a_row [] ys zs p q = inl (prefix_empty ys)
prefixes_in_a_row (x ∷ xs) [] zs p q = inr (prefix_empty (x ∷ xs))
prefixes_in_a_row (x ∷ xs) (y ∷ ys) [] p q = absurd (cc (p.1))
prefixes_in_a_row {A} (x ∷ xs) (y ∷ ys) (z ∷ zs) p q =
    let same : x ≡ y = cc (p.1, q.1) in
    ⊎_elim
    (λ (r : IsPrefix xs ys). inl (r.0, cc (same, r.1)))
    (λ (r : IsPrefix ys xs). inr (r.0, cc (same, r.1)))
    (prefixes_in_a_row xs ys zs (p.0, cc (p.1)) (q.0, cc (q.1)))

-- the entry that was just added
pub get_added : {A : Type 0} (xs : List A) (k : ℕ) (x : A) → length xs ≡ k → slice_get (xs ++ x ∷ []) k ≡ Some x
get_added [] zero x e = refl
get_added [] (suc k) x e = absurd (omega arith)
get_added (y ∷ xs) zero x e = absurd (omega arith)
get_added (y ∷ xs) (suc k) x e = get_added xs k x (omega arith)

-- what begins a list that was met, then looked at, then copied
pub prefix_carried : {A : Type 0} (now was met found given : List A) → was ≡ now → IsPrefix was met → IsPrefix met found → given ≡ found → IsPrefix now given
prefix_carried now was met found given start joined looked copied =
    let all = prefix_trans was met found joined looked in
    (all.0, ap (λ l. l ++ all.0) (sym start) ∙ (all.1 ∙ sym copied))

-- what begins a list that was shown whole
pub prefix_shown : {A : Type 0} (now was log given : List A) → was ≡ now → IsPrefix was log → given ≡ log → IsPrefix now given
prefix_shown now was log given start begins copied = (begins.0, ap (λ l. l ++ begins.0) (sym start) ∙ (begins.1 ∙ sym copied))
