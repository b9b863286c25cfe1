-- What sessions have seen after one of them has seen the latest version of a sheet.
use Rattle.std.proofs.Common.{◌≡◌, ◌∙◌, refl, ap, ℕ, zero, suc, ◌≤◌, List, [], ◌∷◌, ◌++◌, true, ◌==◌, length, nat_lt, arith}
use Rattle.std.specs.Prelude.{Option, Some, max, slice_get, slice_set}
use Rattle.std.proofs.lemmas.Bool.Decides.{Decides-eqb, Decides-ltb}
use Rattle.std.proofs.lemmas.Option.{slice_get_within}
use Rattle.af_world.specs.declared.session.Seen.{Seen}
use Rattle.af_world.specs.Worlds.{World, seen_or_nothing, sees}

-- ---- lists

pub got_set : {X : Type 0} → (xs : List X) (i : ℕ) (x y : X) → slice_get xs i ≡ Some y → slice_get (slice_set xs i x) i ≡ Some x
got_set [] i x y there = absurd (cc)
got_set (z ∷ xs) zero x y there = refl
got_set (z ∷ xs) (suc i) x y there = got_set xs i x y there

pub set_twice : {X : Type 0} → (xs : List X) (i : ℕ) (x y : X) → slice_set (slice_set xs i x) i y ≡ slice_set xs i y
set_twice [] i x y = refl
set_twice (z ∷ xs) zero x y = refl
set_twice (z ∷ xs) (suc i) x y = ap (λ (l : List _). z ∷ l) (set_twice xs i x y)

pub set_length : {X : Type 0} → (xs : List X) (i : ℕ) (x : X) → length (slice_set xs i x) ≡ length xs
set_length [] i x = refl
set_length (z ∷ xs) zero x = refl
set_length (z ∷ xs) (suc i) x = ap suc (set_length xs i x)

pub latest_got : {X : Type 0} → (xs : List X) (x : X) → slice_get (xs ++ x ∷ []) (length xs) ≡ Some x
latest_got [] x = refl
latest_got (y ∷ xs) x = latest_got xs x

-- ---- sessions

-- one that is there
pub is_there : (sessions : List Seen) (session : ℕ) (had : Seen) → slice_get sessions session ≡ Some had → nat_lt session (length sessions) ≡ true
is_there sessions session had there =
    (Decides-ltb session (length sessions)).1 (slice_get_within sessions session had there)

pub same_number : (n : ℕ) → (n == n) ≡ true
same_number n = (Decides-eqb n n).1 refl

pub max_in : (k n : ℕ) → k ≤ n → max k n ≡ n
max_in k n le = omega (arith, le)

-- it sees a version that is no earlier than what it had seen
pub seen_is : (w : World) (session : ℕ) (had : Seen) (version : ℕ) → slice_get w.sessions session ≡ Some had → had.version ≤ version → (sees w session version).sessions ≡ slice_set w.sessions session (record { version = version; entries = had.entries })
seen_is w session had version there le =
    ap (λ (o : Option Seen). slice_set w.sessions session (record { version = max (seen_or_nothing o).version version; entries = (seen_or_nothing o).entries })) there
    ∙ ap (λ (v : ℕ). slice_set w.sessions session (record { version = v; entries = had.entries })) (max_in had.version version le)
