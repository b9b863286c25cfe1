-- What sessions have seen after one has seen more.
use Rattle.std.proofs.Common.{◌≡◌, ◌≢◌, ◌<◌, ℕ, List, [], ◌∷◌, Some, ◌⊎◌, inl, inr, refl, ap, arith, length, slice_get, slice_set, zero, suc}
use Rattle.af_world.specs.declared.session.Seen.{Seen}
use Rattle.af_world.specs.Worlds.{seen_or_nothing}

-- at the place that was written, or at another
abbrev Got : List Seen → ℕ → ℕ → Seen → Type 0
Got xs i j x =
    ((i ≡ j) × (slice_get (slice_set xs i x) j ≡ Some x)) ⊎ ((i ≢ j) × (slice_get (slice_set xs i x) j ≡ slice_get xs j))

got_set : (xs : List Seen) (i j : ℕ) (x : Seen) → i < length xs → Got xs i j x
got_set [] i j x lt = absurd (omega arith)
got_set (y ∷ xs) zero zero x lt = inl (refl, refl)
got_set (y ∷ xs) zero (suc j) x lt = inr (λ e. omega arith, refl)
got_set (y ∷ xs) (suc i) zero x lt = inr (λ e. omega arith, refl)
got_set (y ∷ xs) (suc i) (suc j) x lt =
    elim (got_set xs i j x (omega arith)) as (λ _. Got (y ∷ xs) (suc i) (suc j) x) [
      | inl p ↦ inl (ap suc p.0, p.1)
      | inr p ↦ inr (λ e. p.0 (omega arith), p.1)
    ]

-- the version that a session has seen
abbrev pub seen : List Seen → ℕ → ℕ
seen sessions session = (seen_or_nothing (slice_get sessions session)).version

pub seen_set : (xs : List Seen) (i j : ℕ) (x : Seen) → i < length xs
    → ((i ≡ j) × (seen (slice_set xs i x) j ≡ x.version)) ⊎ ((i ≢ j) × (seen (slice_set xs i x) j ≡ seen xs j))
seen_set xs i j x lt =
    elim (got_set xs i j x lt) [
      | inl p ↦ inl (p.0, ap (λ o. (seen_or_nothing o).version) p.1)
      | inr p ↦ inr (p.0, ap (λ o. (seen_or_nothing o).version) p.1)
    ]
