-- The first and the last of a set of instants, found by looking at each of them in turn.
use Rattle.std.proofs.Common.{◌≡◌, ℕ, zero, suc, ◌+◌, ◌-◌, ◌<◌, ◌≤◌, inl, inr, arith, refl, ap, sym, subst, ◌∙◌, Bool, true, false, Option, Some, None, IfSome, IsSome, ◌↔◌, [], ◌∷◌, ◌++◌, reverse}
use Rattle.std.specs.Option.{MatchOption}
use Rattle.std.specs.List.{find, range_with_len}
use Rattle.std.proofs.lemmas.List.{reverse-append}
use Rattle.std.proofs.lemmas.Bool.{cases_lt, cases_Bool, false≢true, cond-true, cond-false, both_ways, false_from_ne_true}
use Rattle.af_names.specs.Instants.{last_micros}
use Rattle.af_names.specs.Points.{IsLeastFrom, IsGreatestTo, next_of, last_of}

module _ (is_member : ℕ → Bool) where
  -- looking up from a number
  found_from : (count from least : ℕ) → IsLeastFrom is_member from least → least < from + count → find is_member (range_with_len from count) ≡ Some least
  found_from zero from least h lt = let after = h.at_or_after in absurd (omega arith)
  found_from (suc count) from least h lt =
      let after = h.at_or_after in
      elim (cases_Bool (is_member from)) [
        | inl is ↦
            let here : from ≡ least = let b = h.before_others from is (omega arith) in omega arith in
            cond-true _ _ _ is ∙ ap Some here
        | inr not_is ↦
            let later : from + 1 ≤ least =
            elim (cases_lt from least) [
              | inl lt ↦ omega arith
              | inr le ↦
                  let same : least ≡ from = omega arith in
                  absurd (both_ways (is_member from) not_is (ap is_member (sym same) ∙ h.member))
            ] in
            cond-false _ _ _ not_is
            ∙ found_from count (from + 1) least
            (record { member = h.member; at_or_after = later; before_others = λ other p le. h.before_others other p (omega arith) })
            (omega arith)
      ]

  none_from : (count from : ℕ) → ((other : ℕ) → is_member other ≡ true → from ≤ other → from + count ≤ other) → find is_member (range_with_len from count) ≡ None
  none_from zero from h = refl
  none_from (suc count) from h =
      let not_is = false_from_ne_true (is_member from) (λ is. let bad = h from is (omega arith) in omega arith) in
      cond-false _ _ _ not_is ∙ none_from count (from + 1) (λ other p le. let far = h other p (omega arith) in omega arith)

  pub next_of_is : (from least : ℕ) (found : Option ℕ) → from ≤ last_micros → IsLeastFrom is_member from least
      → IsSome found ↔ (least ≤ last_micros) → IfSome found (λ point. point ≡ least) → found ≡ next_of is_member from
  unfolding next_of
  next_of_is from least None low h some value =
      let past : last_micros < least = elim (cases_lt last_micros least) [ inl lt ↦ lt | inr le ↦ absurd (false≢true (some.1 le)) ] in
      sym (none_from (last_micros + 1 - from) from (λ other p le. let b = h.before_others other p le in omega arith))
  next_of_is from least (Some point) low h some value =
      let few : least ≤ last_micros = some.0 refl in
      ap Some value ∙ sym (found_from (last_micros + 1 - from) from least h (omega arith))

  -- what a search up from a number tells
  abbrev Tells : ℕ → ℕ → Option ℕ → Type 0
  Tells count from found =
      MatchOption found ((other : ℕ) → is_member other ≡ true → from ≤ other → from + count ≤ other)
      (λ least. IsLeastFrom is_member from least × (least < from + count))

  past : (count from : ℕ) (found : Option ℕ) → is_member from ≡ false → Tells count (from + 1) found → Tells (suc count) from found
  past count from None not_is none = λ other p le.
      elim (cases_lt from other) [
        | inl lt ↦ let far = none other p (omega arith) in omega arith
        | inr over ↦
            let same : other ≡ from = omega arith in
            absurd (both_ways (is_member from) not_is (ap is_member (sym same) ∙ p))
      ]
  past count from (Some least) not_is h =
      let after = h.0.at_or_after in
      let below = h.1 in (
        record {
          member = h.0.member;
          at_or_after = omega arith;
          before_others = λ other p le.
              elim (cases_lt from other) [
                | inl lt ↦ h.0.before_others other p (omega arith)
                | inr over ↦
                    let same : other ≡ from = omega arith in
                    absurd (both_ways (is_member from) not_is (ap is_member (sym same) ∙ p))
              ];
        },
        omega arith,
      )

  tells_from : (count from : ℕ) → Tells count from (find is_member (range_with_len from count))
  tells_from zero from = λ other p le. omega arith
  tells_from (suc count) from =
      elim (cases_Bool (is_member from)) [
        | inl is ↦
            subst (Tells (suc count) from) (sym (cond-true _ _ _ is))
            (record { member = is; at_or_after = omega arith; before_others = λ other p le. le }, omega arith)
        | inr not_is ↦
            subst (Tells (suc count) from) (sym (cond-false _ _ _ not_is))
            (past count from (find is_member (range_with_len (from + 1) count)) not_is (tells_from count (from + 1)))
      ]

  -- the first of a set is its least at or after the number, and an instant
  pub next_of_tells : (from : ℕ) → from ≤ last_micros
      → MatchOption (next_of is_member from) ((other : ℕ) → is_member other ≡ true → from ≤ other → last_micros < other)
      (λ least. IsLeastFrom is_member from least × (least ≤ last_micros))
  unfolding next_of
  next_of_tells from low = within (find is_member (range_with_len from (last_micros + 1 - from))) (tells_from (last_micros + 1 - from) from)
    where
      within : (found : Option ℕ) → Tells (last_micros + 1 - from) from found
          → MatchOption found ((other : ℕ) → is_member other ≡ true → from ≤ other → last_micros < other) (λ least. IsLeastFrom is_member from least × (least ≤ last_micros))
      within None none = λ other p le. let far = none other p le in omega arith
      within (Some least) h = let below = h.1 in (h.0, omega arith)

  -- looking down from a number
  range_more : (count from : ℕ) → range_with_len from (suc count) ≡ range_with_len from count ++ (from + count) ∷ []
  range_more zero from = let e : from ≡ from + 0 = omega arith in λ i. e i ∷ []
  range_more (suc count) from =
      let e : from + 1 + count ≡ from + suc count = omega arith in
      (λ i. from ∷ range_more count (from + 1) i) ∙ (λ i. from ∷ (range_with_len (from + 1) count ++ e i ∷ []))

  reverse_more : (count : ℕ) → reverse (range_with_len 0 (suc count)) ≡ count ∷ reverse (range_with_len 0 count)
  reverse_more count =
      let e : 0 + count ≡ count = omega arith in
      ap reverse (range_more count 0) ∙ reverse-append (range_with_len 0 count) ((0 + count) ∷ [])
      ∙ (λ i. e i ∷ reverse (range_with_len 0 count))

  found_to : (count greatest to : ℕ) → IsGreatestTo is_member to greatest → greatest < count → count ≤ to + 1 → find is_member (reverse (range_with_len 0 count)) ≡ Some greatest
  found_to zero greatest to h lt le = absurd (omega arith)
  found_to (suc count) greatest to h lt le =
      ap (find is_member) (reverse_more count)
      ∙ elim (cases_Bool (is_member count)) [
        | inl is ↦
            let here : count ≡ greatest = let b = h.after_others count is (omega arith) in omega arith in
            cond-true _ _ _ is ∙ ap Some here
        | inr not_is ↦
            let earlier : greatest < count =
            elim (cases_lt greatest count) [
              | inl lt ↦ lt
              | inr over ↦
                  let same : greatest ≡ count = omega arith in
                  absurd (both_ways (is_member count) not_is (ap is_member (sym same) ∙ h.member))
            ] in
            cond-false _ _ _ not_is ∙ found_to count greatest to h earlier (omega arith)
      ]

  none_to : (count : ℕ) → ((other : ℕ) → is_member other ≡ true → count ≤ other) → find is_member (reverse (range_with_len 0 count)) ≡ None
  none_to zero h = refl
  none_to (suc count) h =
      let not_is = false_from_ne_true (is_member count) (λ is. let bad = h count is in omega arith) in
      ap (find is_member) (reverse_more count) ∙ cond-false _ _ _ not_is
      ∙ none_to count (λ other p. let far = h other p in omega arith)

  pub last_of_none : (to : ℕ) → ((other : ℕ) → is_member other ≡ true → to < other) → None ≡ last_of is_member to
  unfolding last_of
  last_of_none to none = sym (none_to (to + 1) (λ other p. let far = none other p in omega arith))

  pub last_of_is : (to greatest : ℕ) (found : Option ℕ) → to ≤ last_micros → IsGreatestTo is_member to greatest
      → IsSome found ↔ (greatest ≤ last_micros) → IfSome found (λ point. point ≡ greatest) → found ≡ last_of is_member to
  unfolding last_of
  last_of_is to greatest None low h some value =
      let before = h.at_or_before in
      absurd (false≢true (some.1 (omega arith)))
  last_of_is to greatest (Some point) low h some value =
      let before = h.at_or_before in
      ap Some value ∙ sym (found_to (to + 1) greatest to h (omega arith) (omega arith))
