-- The points of a range, found one after the other.
use Rattle.std.proofs.Common.{◌≡◌, ◌∙◌, ◌<◌, ◌≤◌, ◌+◌, ℕ, List, [], ◌∷◌, ap, arith, Bool, true}
use Rattle.std.specs.Prelude.{filter, nat_le}
use Rattle.std.proofs.lemmas.Bool.{cond-true}
use Rattle.std.proofs.lemmas.Bool.Decides.{nat_tests}
use Rattle.af_names.specs.Instants.{last_micros}
use Rattle.af_names.specs.Points.{IsLeastFrom}
use Rattle.af_sched.specs.Backfills.{points_within}
use Rattle.af_sched.proofs.DueLemmas.{begins_late, due_first, no_end, no_point}

module _ (is_point : ℕ → Bool) (first last : ℕ) where
  low : last_micros ≤ last_micros
  low = omega arith

  abbrev up_to : List ℕ → List ℕ
  up_to = filter (λ at. nat_le at last)

  -- no point is left
  pub within_no_point : ((o : ℕ) → is_point o ≡ true → first ≤ o → last_micros < o) → points_within is_point first last ≡ []
  unfolding points_within
  within_no_point none = ap up_to (no_point is_point last_micros low first none)

  -- the next point has no end
  pub within_no_end : (p : ℕ) → IsLeastFrom is_point first p → ((o : ℕ) → is_point o ≡ true → p < o → last_micros < o) → points_within is_point first last ≡ []
  unfolding points_within
  within_no_end p least none = ap up_to (no_end is_point last_micros low first p least none)

  -- the next point is after the range
  pub within_late : (p : ℕ) → IsLeastFrom is_point first p → last < p → points_within is_point first last ≡ []
  unfolding points_within
  within_late p least late = begins_late is_point last_micros low first last p least late

  -- the next point is in the range
  pub within_first : (p e : ℕ) → IsLeastFrom is_point first p → IsLeastFrom is_point (p + 1) e → e ≤ last_micros → p ≤ last → points_within is_point first last ≡ p ∷ points_within is_point e last
  unfolding points_within
  within_first p e least next by early =
      let near : nat_le p last ≡ true = grind (arith, nat_tests) in
      ap up_to (due_first is_point last_micros low first p e least next by) ∙ cond-true _ _ _ near
