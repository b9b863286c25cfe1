-- What is in slots of which the first are filled.
use Rattle.std.proofs.Common.{◌≡◌, ◌<◌, ◌⊎◌, inl, inr, ◌+◌, ◌∙◌, sym, ℕ, List, [], ◌∷◌, ◌++◌, zero, suc, ap, arith, length, drop, replicate, refl, All, IsSomeAnd, Option, Some, None, IfSome, slice_get, slice_index_or, slice_set, subst}
use Rattle.std.proofs.lemmas.List.{append_assoc, append-nil}
use mathlib.Core.List.{IsPrefix}
use Rattle.std.proofs.lemmas.List.Elements.{All-cons, All-head, All-nil, All-tail}
use Rattle.af_plane.specs.Closings.{HasTakenIn, IsWithin}
use Rattle.af_plane.specs.Visits.{PlaneRows}
use Rattle.af_plane.proofs.ClosingLemmas.{sessions_stay_within}
use Rattle.af_server.specs.Reports.{WorkerRows, filled}

filled-append : {X : Type 0} (xs ys : List (Option X)) → filled (xs ++ ys) ≡ filled xs ++ filled ys
filled-append [] ys = refl
filled-append (None ∷ xs) ys = filled-append xs ys
filled-append (Some x ∷ xs) ys = ap (λ slots. x ∷ slots) (filled-append xs ys)

-- where all slots are filled there are as many as slots, and what holds of each slot holds of each
filled-all : {X : Type 0} (P : X → Type 0) (slots : List (Option X)) → ((i : ℕ) → i < length slots → IsSomeAnd (slice_index_or slots i None) P)
    → All P (filled slots) × (length (filled slots) ≡ length slots)
filled-all P [] each = (All-nil P, refl)
filled-all P (None ∷ slots) each = absurd (each 0 (omega arith))
filled-all P (Some x ∷ slots) each =
    let rest = filled-all P slots (λ i below. each (suc i) (omega (arith, below))) in
    (All-cons P x (filled slots) (each 0 (omega arith)) rest.0, ap (λ n. suc n) rest.1)

-- where no slot is filled, none further back is
filled-drop : {X : Type 0} (n : ℕ) (slots : List (Option X)) → filled slots ≡ [] → filled (drop n slots) ≡ []
filled-drop zero slots nobody = nobody
filled-drop (suc n) [] nobody = refl
filled-drop (suc n) (None ∷ slots) nobody = filled-drop n slots nobody
filled-drop (suc n) (Some x ∷ slots) nobody = absurd (cc nobody)

-- the first slots are all filled, and of the others none
pub filled-front : {X : Type 0} (P : X → Type 0) (front : List (Option X)) (n : ℕ) (others : List (Option X)) → filled others ≡ []
    → ((i : ℕ) → i < length front → IsSomeAnd (slice_index_or front i None) P) → All P (filled (front ++ drop n others)) × (length (filled (front ++ drop n others)) ≡ length front)
filled-front P front n others nobody each =
    let those : filled (front ++ drop n others) ≡ filled front =
    filled-append front (drop n others) ∙ (ap (λ xs. filled front ++ xs) (filled-drop n others nobody) ∙ append-nil (filled front)) in
    rw those (filled-all P front each)

-- as many slots as there are, of which none is filled
abbrev pub nobody : (X : Type 0) → List (Option X)
nobody X = replicate 16 None

-- what holds of all that is filled holds of each, and the other way round
pub filled-get : {X : Type 0} (P : X → Type 0) (slots : List (Option X)) → All P (filled slots) → (i : ℕ) (x : X) → slice_get slots i ≡ Some (Some x) → P x
filled-get P [] all i x is = absurd cc
filled-get P (None ∷ slots) all zero x is = absurd cc
filled-get P (None ∷ slots) all (suc i) x is = filled-get P slots all i x is
filled-get P (Some y ∷ slots) all zero x is =
    let same : y ≡ x = cc is in
    subst P same (All-head P y (filled slots) all)
filled-get P (Some y ∷ slots) all (suc i) x is = filled-get P slots (All-tail P y (filled slots) all) i x is

pub filled-each : {X : Type 0} (P : X → Type 0) (slots : List (Option X)) → ((i : ℕ) (x : X) → slice_get slots i ≡ Some (Some x) → P x) → All P (filled slots)
filled-each P [] each = All-nil P
filled-each P (None ∷ slots) each = filled-each P slots (λ i x is. each (suc i) x is)
filled-each P (Some x ∷ slots) each = All-cons P x (filled slots) (each 0 x refl) (filled-each P slots (λ i y is. each (suc i) y is))

-- a plane that has taken in nothing
pub nothing_taken : (plane : PlaneRows) → HasTakenIn plane plane
nothing_taken plane = record { word = refl; ledger = refl; keeper = refl; versions = ([], append-nil plane.pass.places) }

longer_on : {A : Type 0} (xs ys zs : List A) → IsPrefix xs ys → IsPrefix ys zs → IsPrefix xs zs
longer_on xs ys zs (one, a) (two, b) = (one ++ two, sym (append_assoc xs one two) ∙ (ap (λ l. l ++ two) a ∙ b))

-- a plane that has taken in more, and then more
pub taken_on : (was mid now : PlaneRows) → HasTakenIn was mid → HasTakenIn mid now → HasTakenIn was now
taken_on was mid now a b = record {
  word = b.word ∙ a.word;
  ledger = b.ledger ∙ a.ledger;
  keeper = b.keeper ∙ a.keeper;
  versions = longer_on was.pass.places mid.pass.places now.pass.places a.versions b.versions;
}

-- ---- slots whose reports a plane takes in, one after another

pub get_below : {A : Type 0} (xs : List A) (i : ℕ) (x : A) → slice_get xs i ≡ Some x → i < length xs
get_below [] i x is = absurd cc
get_below (y ∷ ys) zero x is = omega arith
get_below (y ∷ ys) (suc i) x is = omega (arith, get_below ys i x is)

pub get_found : {A : Type 0} (xs : List A) (i : ℕ) (x : A) → i < length xs → x ≡ slice_index_or xs i x → slice_get xs i ≡ Some x
get_found [] i x below is = absurd (omega (arith, below))
get_found (y ∷ ys) zero x below is = ap (λ z. Some z) (sym is)
get_found (y ∷ ys) (suc i) x below is = get_found ys i x (omega (arith, below)) is

pub set_back : {A : Type 0} (xs : List A) (i : ℕ) (x : A) → slice_get xs i ≡ Some x → slice_set xs i x ≡ xs
set_back [] i x is = absurd cc
set_back (y ∷ ys) zero x is =
    let same : x ≡ y = cc is in
    ap (λ z. z ∷ ys) same
set_back (y ∷ ys) (suc i) x is = ap (λ zs. y ∷ zs) (set_back ys i x is)

-- up to a number: below it, or the number itself
up_to : (j i : ℕ) → j < i + 1 → (j < i) ⊎ (j ≡ i)
up_to zero zero below = inr refl
up_to zero (suc i) below = inl (omega arith)
up_to (suc j) zero below = absurd (omega (arith, below))
up_to (suc j) (suc i) below = further (up_to j i (omega (arith, below)))
  where
    further : (j < i) ⊎ (j ≡ i) → (suc j < suc i) ⊎ (suc j ≡ suc i)
    further (inl less) = inl (omega (arith, less))
    further (inr same) = inr (ap suc same)

module _ (slots given : List (Option WorkerRows)) (found : Option WorkerRows) (i : ℕ) (was now : PlaneRows) (same : slots ≡ given) (is : slice_get slots i ≡ Some found)
    (within : IfSome found (λ w. IsWithin now w.session.visit)) (taken : HasTakenIn was now)
    (so_far : (j : ℕ) (w : WorkerRows) → j < i → slice_get given j ≡ Some (Some w) → IsWithin was w.session.visit) where
  one : (w : WorkerRows) (here : Option WorkerRows) → here ≡ Some w → IfSome here (λ w. IsWithin now w.session.visit) → IsWithin now w.session.visit
  one w None at it = absurd cc
  one w (Some v) at it =
      let same : v ≡ w = cc at in
      subst (λ (u : WorkerRows). IsWithin now u.session.visit) same it

  -- one slot more
  pub within_more : (j : ℕ) (w : WorkerRows) → j < i + 1 → slice_get given j ≡ Some (Some w) → IsWithin now w.session.visit
  within_more j w below at = by (up_to j i below)
    where
      by : (j < i) ⊎ (j ≡ i) → IsWithin now w.session.visit
      by (inl less) = sessions_stay_within was now w.session.visit (so_far j w less at) taken
      by (inr equal) =
          let there : slice_get slots i ≡ Some (Some w) = ap (λ (l : List (Option WorkerRows)). slice_get l i) same ∙ subst (λ (n : ℕ). slice_get given n ≡ Some (Some w)) equal at in
          let this : found ≡ Some w = cc (is, there) in
          one w found this within
