-- The points that are due, found by the next and the last point of a schedule.
use Rattle.std.proofs.Common.{◌≡◌, ◌∙◌, ◌<◌, ◌≤◌, ◌+◌, ◌-◌, ℕ, List, [], ◌∷◌, refl, sym, ap, arith, zero, suc, Bool, true, false, ◌&&◌, ⊎_elim, Option, Some, None}
use Rattle.std.specs.Prelude.{filter, nat_le, slice_get, length}
use Rattle.std.specs.Option.{MatchOption, option_map_or}
use Rattle.std.specs.List.{last_or, range_with_len}
use Rattle.std.proofs.lemmas.Bool.{cases_Bool, cases_lt, false≢true, false_from_ne_true, cond-true, cond-false}
use Rattle.std.proofs.lemmas.Bool.Decides.{nat_tests}
use Rattle.af_names.specs.Instants.{last_micros}
use Rattle.af_names.specs.Points.{IsLeastFrom, IsGreatestTo, next_of}
use Rattle.af_names.proofs.SearchLemmas.{next_of_tells, next_of_is}
use Rattle.af_sched.specs.Due.{next_after, is_due, due_from}

-- ---- the last of a list
last_of_some : (x : ℕ) (xs : List ℕ) (o : Option ℕ) → slice_get (x ∷ xs) (length xs) ≡ last_or o (x ∷ xs)
last_of_some x [] o = refl
last_of_some x (y ∷ ys) o = last_of_some y ys (Some x)

pub last_is : (xs : List ℕ) → slice_get xs (length xs - 1) ≡ last_or None xs
last_is [] = refl
last_is (x ∷ xs) =
    let place : suc (length xs) - 1 ≡ length xs = omega arith in
    ap (slice_get (x ∷ xs)) place ∙ last_of_some x xs None

-- ---- those that pass a test, of a range
module _ (test : ℕ → Bool) where
  none_in : (count from : ℕ) → ((x : ℕ) → from ≤ x → x < from + count → test x ≡ false) → filter test (range_with_len from count) ≡ []
  none_in zero from none = refl
  none_in (suc count) from none =
      cond-false _ _ _ (none from (omega arith) (omega arith)) ∙ none_in count (from + 1) (λ x low high. none x (omega arith) (omega arith))

  skip : (gap count from : ℕ) → ((x : ℕ) → from ≤ x → x < from + gap → test x ≡ false) → filter test (range_with_len from (gap + count)) ≡ filter test (range_with_len (from + gap) count)
  skip zero count from none =
      let same : from ≡ from + 0 = omega arith in
      let few : 0 + count ≡ count = omega arith in
      (λ i. filter test (range_with_len from (few i))) ∙ ap (λ n. filter test (range_with_len n count)) same
  skip (suc gap) count from none =
      let same : from + 1 + gap ≡ from + suc gap = omega arith in
      let few : suc gap + count ≡ suc (gap + count) = omega arith in
      (λ i. filter test (range_with_len from (few i)))
      ∙ cond-false _ _ _ (none from (omega arith) (omega arith))
      ∙ skip gap count (from + 1) (λ x low high. none x (omega arith) (omega arith))
      ∙ ap (λ n. filter test (range_with_len n count)) same

  first_in : (count from : ℕ) → test from ≡ true → filter test (range_with_len from (suc count)) ≡ from ∷ filter test (range_with_len (from + 1) count)
  first_in count from is = cond-true _ _ _ is

  -- those that pass are above an instant, so none of them is up to it
  none_up_to : (last count from : ℕ) → ((x : ℕ) → from ≤ x → x < from + count → test x ≡ true → last < x) → filter (λ x. nat_le x last) (filter test (range_with_len from count)) ≡ []
  none_up_to last zero from above = refl
  none_up_to last (suc count) from above =
      let rest : filter (λ x. nat_le x last) (filter test (range_with_len (from + 1) count)) ≡ [] = none_up_to last count (from + 1) (λ x low high is. above x (omega arith) (omega arith) is) in
      ⊎_elim
      (λ (here : test from ≡ true).
      let late = above from (omega arith) (omega arith) here in
      let far : nat_le from last ≡ false = grind (arith, nat_tests) in
      ap (filter (λ x. nat_le x last)) (cond-true _ _ _ here) ∙ cond-false _ _ _ far ∙ rest)
      (λ (not : test from ≡ false). ap (filter (λ x. nat_le x last)) (cond-false _ _ _ not) ∙ rest)
      (cases_Bool (test from))

  -- the last that passes, where none after it does
  last_in : (count from p : ℕ) (o : Option ℕ) → from ≤ p → p < from + count → test p ≡ true → ((x : ℕ) → p < x → x < from + count → test x ≡ false) → last_or o (filter test (range_with_len from count)) ≡ Some p
  last_in zero from p o low high is none = absurd (omega arith)
  last_in (suc count) from p o low high is none =
      ⊎_elim
      (λ (earlier : from < p).
      ⊎_elim
      (λ (here : test from ≡ true). ap (last_or o) (cond-true _ _ _ here) ∙ last_in count (from + 1) p (Some from) (omega arith) (omega arith) is (λ x after before. none x after (omega arith)))
      (λ (not : test from ≡ false). ap (last_or o) (cond-false _ _ _ not) ∙ last_in count (from + 1) p o (omega arith) (omega arith) is (λ x after before. none x after (omega arith)))
      (cases_Bool (test from)))
      (λ (at : p ≤ from).
      let same : from ≡ p = omega arith in
      ap (last_or o) (cond-true _ _ _ (ap test same ∙ is)) ∙ ap (λ xs. last_or (Some from) xs) (none_in count (from + 1) (λ x after before. none x (omega arith) (omega arith))) ∙ ap Some same)
      (cases_lt from p)

-- ---- what it is to be due
module _ (is_point : ℕ → Bool) (t : ℕ) where
  ends_by : Option ℕ → Bool
  ends_by o = option_map_or (λ end. nat_le end t) o false

  both : (a b : Bool) → (a && b) ≡ true → (a ≡ true) × (b ≡ true)
  both true b is = (refl, is)
  both false b is = absurd (false≢true is)

  -- a due point has a next one, at most t
  record Due (x : ℕ) : Type 0 where
    point : is_point x ≡ true
    end : ℕ
    next : IsLeastFrom is_point (x + 1) end
    by : end ≤ t

  due_is : (x : ℕ) → x < t → t ≤ last_micros → is_due is_point t x ≡ true → Due x
  due_is x before low is =
      let parts = both (is_point x) (option_map_or (λ end. nat_le end t) (next_after is_point x) false) is in
      of (next_of is_point (x + 1)) (next_of_tells is_point (x + 1) (omega arith)) parts.0 parts.1
    where
      of : (o : Option ℕ) → MatchOption o ((other : ℕ) → is_point other ≡ true → x + 1 ≤ other → last_micros < other) (λ least. IsLeastFrom is_point (x + 1) least × (least ≤ last_micros)) → is_point x ≡ true → option_map_or (λ end. nat_le end t) o false ≡ true → Due x
      of None tells point ends = absurd (false≢true ends)
      of (Some end) tells point ends = record { point = point; end = end; next = tells.0; by = grind arith }

  not_due : (x : ℕ) → x < t → t ≤ last_micros → (Due x → false ≡ true) → is_due is_point t x ≡ false
  not_due x before low never =
      false_from_ne_true (is_due is_point t x) (λ is. let wrong = never (due_is x before low is) in absurd (false≢true wrong))

  next_is : (from e : ℕ) → from ≤ last_micros → e ≤ last_micros → IsLeastFrom is_point from e → next_of is_point from ≡ Some e
  next_is from e low few h = sym (next_of_is is_point from e (Some e) low h (λ _. few, λ _. refl) refl)

  is_due-from : (x e : ℕ) → is_point x ≡ true → IsLeastFrom is_point (x + 1) e → e ≤ t → t ≤ last_micros → is_due is_point t x ≡ true
  is_due-from x e point h by low =
      let after = h.at_or_after in
      let next : next_of is_point (x + 1) ≡ Some e = next_is (x + 1) e (omega arith) (omega arith) h in
      let ends : nat_le e t ≡ true = grind (arith, nat_tests) in
      rw (point, next) ends

  module _ (low : t ≤ last_micros) (c : ℕ) where
    none_due : ((x : ℕ) → c ≤ x → x < t → Due x → false ≡ true) → due_from is_point c t ≡ []
    unfolding due_from
    none_due never = none_in (is_due is_point t) (t - c) c (λ x from before. not_due x (omega arith) low (never x from (omega arith)))

    -- no point is left
    pub no_point : ((o : ℕ) → is_point o ≡ true → c ≤ o → last_micros < o) → due_from is_point c t ≡ []
    no_point none = none_due (λ x from before due. let far = none x due.point from in absurd (omega arith))

    -- the next point has no end
    pub no_end : (p : ℕ) → IsLeastFrom is_point c p → ((o : ℕ) → is_point o ≡ true → p < o → last_micros < o) → due_from is_point c t ≡ []
    no_end p least none =
        none_due (λ x from before due.
        let up = least.before_others x due.point from in
        let on = due.next.at_or_after in
        let far = none due.end due.next.member (omega arith) in
        let by = due.by in
        absurd (omega arith))

    -- the next point ends late
    pub ends_late : (p e : ℕ) → IsLeastFrom is_point c p → IsLeastFrom is_point (p + 1) e → t < e → due_from is_point c t ≡ []
    ends_late p e least next late =
        none_due (λ x from before due.
        let up = least.before_others x due.point from in
        let on = due.next.at_or_after in
        let far = next.before_others due.end due.next.member (omega arith) in
        let by = due.by in
        absurd (omega arith))

    -- the next point is after an instant
    pub begins_late : (last p : ℕ) → IsLeastFrom is_point c p → last < p → filter (λ x. nat_le x last) (due_from is_point c t) ≡ []
    unfolding due_from
    begins_late last p least late =
        none_up_to (is_due is_point t) last (t - c) c (λ x from before is.
        let due = due_is x (omega arith) low is in
        let up = least.before_others x due.point from in
        omega arith)

    -- the next point ends in time
    pub due_first : (p e : ℕ) → IsLeastFrom is_point c p → IsLeastFrom is_point (p + 1) e → e ≤ t → due_from is_point c t ≡ p ∷ due_from is_point e t
    unfolding due_from
    due_first p e least next by =
        let q : ℕ → Bool = is_due is_point t in
        let up = least.at_or_after in
        let on = next.at_or_after in
        let count : t - c ≡ (p - c) + suc ((e - (p + 1)) + (t - e)) = omega arith in
        let at : c + (p - c) ≡ p = omega arith in
        let to : p + 1 + (e - (p + 1)) ≡ e = omega arith in
        (λ i. filter q (range_with_len c (count i)))
        ∙ skip q (p - c) (suc ((e - (p + 1)) + (t - e))) c (λ x from before. not_due x (omega arith) low (λ due. let later = least.before_others x due.point from in absurd (omega arith)))
        ∙ (λ i. filter q (range_with_len (at i) (suc ((e - (p + 1)) + (t - e)))))
        ∙ first_in q ((e - (p + 1)) + (t - e)) p (is_due-from p e least.member next by low)
        ∙ ap (λ (xs : List ℕ). p ∷ xs) (skip q (e - (p + 1)) (t - e) (p + 1) (λ x from before. not_due x (omega arith) low (λ due. let later = next.before_others x due.point from in absurd (omega arith))))
        ∙ (λ i. p ∷ filter q (range_with_len (to i) (t - e)))

    -- no point is early enough
    pub none_to : ((o : ℕ) → is_point o ≡ true → t < o) → due_from is_point c t ≡ []
    none_to none = none_due (λ x from before due. let far = none x due.point in absurd (omega arith))

    -- the last point up to the moment has none before it
    pub none_earlier : (e : ℕ) → IsGreatestTo is_point t e → ((o : ℕ) → is_point o ≡ true → e ≤ o) → due_from is_point c t ≡ []
    none_earlier e greatest none =
        none_due (λ x from before due.
        let far = none x due.point in
        let on = due.next.at_or_after in
        let by = due.by in
        let to = greatest.after_others due.end due.next.member by in
        absurd (omega arith))

    -- the point before the last one is the last that is due
    module _ (p e : ℕ) (greatest : IsGreatestTo is_point t e) (some : 0 < e) (before : IsGreatestTo is_point (e - 1) p) where
      up_to : (x : ℕ) → Due x → x ≤ p
      up_to x due =
          let on = due.next.at_or_after in
          let by = due.by in
          let to = greatest.after_others due.end due.next.member by in
          before.after_others x due.point (omega arith)

      pub before_cursor : p < c → due_from is_point c t ≡ []
      before_cursor low_p = none_due (λ x from early due. let up = up_to x due in absurd (omega arith))

      next_to_last : IsLeastFrom is_point (p + 1) e
      next_to_last =
          let low_p = before.at_or_before in
          record {
            member = greatest.member;
            at_or_after = omega arith;
            before_others = λ other point from.
                ⊎_elim (λ (less : other < e). let up = before.after_others other point (omega arith) in absurd (omega arith)) (λ (more : e ≤ other). more) (cases_lt other e);
          }

      pub due_last : c ≤ p → last_or None (due_from is_point c t) ≡ Some p
      unfolding due_from
      due_last from =
          let low_p = before.at_or_before in
          let low_e = greatest.at_or_before in
          last_in (is_due is_point t) (t - c) c p None from (omega arith) (is_due-from p e before.member next_to_last low_e low) (λ x after early. not_due x (omega arith) low (λ due. let up = up_to x due in absurd (omega arith)))
