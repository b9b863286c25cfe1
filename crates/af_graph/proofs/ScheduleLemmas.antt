-- What is told of the next and the last of a set of instants is the next and the last.
use Rattle.std.proofs.Common.{◌≡◌, ℕ, ◌+◌, ◌-◌, ◌<◌, ◌≤◌, arith, refl, ap, Bool, true, Option, Some, None, IfSome, IfNone, IsTrue}
use Rattle.std.specs.Option.{MatchOption}
use Rattle.std.specs.List.{find, range_with_len}
use Rattle.af_names.specs.Instants.{last_micros}
use Rattle.af_names.specs.Points.{IsLeastFrom, IsGreatestTo, next_of, last_of}
use Rattle.af_names.proofs.SearchLemmas.{next_of_tells, last_of_is, last_of_none}

module _ (is_member : ℕ → Bool) where
  pub next_told : (from : ℕ) (found : Option ℕ) → from ≤ last_micros
      → IfSome found (λ point. IsLeastFrom is_member from point) → IfSome found (λ point. point ≤ last_micros)
      → IfNone found ((other : ℕ) → IsTrue (is_member other) → from ≤ other → last_micros < other)
      → found ≡ next_of is_member from
  next_told from found low some bound none = within found (next_of is_member from) some bound none (next_of_tells is_member from low)
    where
      within : (found next : Option ℕ) → IfSome found (λ point. IsLeastFrom is_member from point) → IfSome found (λ point. point ≤ last_micros)
          → IfNone found ((other : ℕ) → IsTrue (is_member other) → from ≤ other → last_micros < other)
          → MatchOption next ((other : ℕ) → is_member other ≡ true → from ≤ other → last_micros < other) (λ least. IsLeastFrom is_member from least × (least ≤ last_micros))
          → found ≡ next
      within None None some bound none tells = refl
      within None (Some next) some bound none tells =
          let past = none next tells.0.member tells.0.at_or_after in
          let low = tells.1 in
          absurd (omega arith)
      within (Some point) None some bound none tells =
          let past = tells point some.member some.at_or_after in
          absurd (omega arith)
      within (Some point) (Some next) some bound none tells =
          let one = some.before_others next tells.0.member tells.0.at_or_after in
          let other = tells.0.before_others point some.member some.at_or_after in
          let same : point ≡ next = omega arith in
          ap Some same

  pub next_past : (from : ℕ) → last_micros < from → None ≡ next_of is_member from
  unfolding next_of
  next_past from past =
      let none : 0 ≡ last_micros + 1 - from = omega arith in
      ap (λ count. find is_member (range_with_len from count)) none

  pub last_told : (to : ℕ) (found : Option ℕ) → to ≤ last_micros
      → IfSome found (λ point. IsGreatestTo is_member to point)
      → IfNone found ((other : ℕ) → IsTrue (is_member other) → to < other)
      → found ≡ last_of is_member to
  last_told to None low some none = last_of_none is_member to none
  last_told to (Some point) low some none =
      let before = some.at_or_before in
      last_of_is is_member to point (Some point) low some (λ _. omega arith, λ _. refl) refl
