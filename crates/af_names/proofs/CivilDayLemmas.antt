-- The day that the count from 1970-01-01 reaches is the day that the calendar gives.
use Rattle.std.proofs.Common.{◌≡◌, ℕ, zero, suc, ◌+◌, ◌<◌, ◌≤◌, inl, inr, arith, refl, ap, subst, sym, ◌∙◌, cond, nat_lt, ℤ, pos, neg_ℤ, ◌+ℤ◌, ◌≤ℤ◌, ◌<ℤ◌, lit≤}
use borrow.Author.Differences.{up, down}
use Rattle.std.proofs.lemmas.Bool.{cases_lt}
use Rattle.std.proofs.lemmas.Bool.Decides.{nat_tests}
use Rattle.jiff.proofs.SpanFacts.{signed_arith}
use Rattle.jiff_core.specs.declared.civil.date.Date.{Date}
use Rattle.jiff_core.specs.Calendar.{day_count, days_from_civil, days_in_month, IsYear}
use Rattle.jiff_core.specs.Date.{epoch_day}
use Rattle.jiff_core.proofs.CalendarLemmas.{day_count-epoch, days_from_civil-day_count, days_in_month_bounds}
use Rattle.jiff_core.proofs.DateLemmas.{days_from_civil-day, days_from_civil-next_month, days_from_civil-next_year, days_from_civil-max, epoch_day_injective}
use Rattle.af_names.specs.CivilDays.{CivilDay, next_day, civil_day}

-- a date of the calendar, its number, and its parts
pub record Shows (number : ℕ) (at : CivilDay) : Type 0 where
  pub date : Date
  pub numbered : epoch_day date ≡ pos number
  pub year : date.year ≡ pos at.year
  pub month : date.month ≡ at.month
  pub day : date.day ≡ at.day

abbrev epoch : Date
epoch = record { year = pos 1970; month = 1; day = 1; year_in = (omega (arith, signed_arith), omega (arith, signed_arith)); month_in = (lit≤ tt, lit≤ tt); day_in = (lit≤ tt, lit≤ tt) }

epoch_number : epoch_day epoch ≡ pos 0
epoch_number =
    let count = days_from_civil-day_count (pos 1970) 1 1 in
    let whole = day_count-epoch in
    at_zero (days_from_civil (pos 1970) 1 1) (day_count (pos 1970) 1 1) count whole
  where
    at_zero : (z : ℤ) (n : ℕ) → up z + 4_371_953 ≡ down z + n → n ≡ 4_371_953 → z ≡ pos 0
    at_zero z n a b = omega (arith, signed_arith)

-- which of the three next days it is
within_month : (day days month : ℕ) (a b c : CivilDay) → day < days → cond (nat_lt day days) a (cond (nat_lt month 12) b c) ≡ a
within_month day days month a b c lt = grind (arith, nat_tests)

month_over : (day days month : ℕ) (a b c : CivilDay) → days ≤ day → month < 12 → cond (nat_lt day days) a (cond (nat_lt month 12) b c) ≡ b
month_over day days month a b c le lt = grind (arith, nat_tests)

year_over : (day days month : ℕ) (a b c : CivilDay) → days ≤ day → 12 ≤ month → cond (nat_lt day days) a (cond (nat_lt month 12) b c) ≡ c
year_over day days month a b c le lt = grind (arith, nat_tests)

-- the number of the next day, by either way that the calendar's lemmas tell it
one_more : (a b : ℤ) (number d : ℕ) → a ≡ pos number → a +ℤ pos (d + 1) ≡ b +ℤ pos d → b ≡ pos (suc number)
one_more a b number d e f = omega (arith, signed_arith)

one_after : (a b : ℤ) (number : ℕ) → a ≡ pos number → b ≡ a +ℤ pos 1 → b ≡ pos (suc number)
one_after a b number e f = omega (arith, signed_arith)

-- a day before the last that the calendar has, at the end of a year, is in a year before the last
module _ (date : Date) (number : ℕ) (numbered : epoch_day date ≡ pos number) (early : number < 2_932_896) where
  last_year_over : date.month ≡ 12 → date.day ≡ 31 → date.year <ℤ pos 9999
  last_year_over m d =
      before date.year date.year_in
      (λ y. apart (epoch_day date) (days_from_civil (pos 9999) 12 31) number numbered early (λ i. days_from_civil (y i) (m i) (d i)) days_from_civil-max)
    where
      before : (z : ℤ) → IsYear z → (z ≡ pos 9999 → ⊥) → z <ℤ pos 9999
      before z y other = omega (arith, signed_arith)

      apart : (a b : ℤ) (n : ℕ) → a ≡ pos n → n < 2_932_896 → a ≡ b → b ≡ pos 2_932_896 → ⊥
      apart a b n e h f g = omega (arith, signed_arith)

module _ (number : ℕ) (at : CivilDay) (shows : Shows number at) (early : number < 2_932_896) where
  abbrev date : Date
  date = shows.date

  abbrev days : ℕ
  days = days_in_month date.year date.month

  same_days : days ≡ days_in_month (pos at.year) at.month
  same_days i = days_in_month (shows.year i) (shows.month i)

  next_in_month : at.day < days_in_month (pos at.year) at.month → Shows (suc number) (next_day at)
  next_in_month lt =
      let same = same_days in
      let eq = shows.day in
      let low : 1 ≤ date.day + 1 = omega arith in
      let high : date.day + 1 ≤ days = omega arith in
      let next : Date = record date { day = date.day + 1; day_in = (low, high) } in
      subst (Shows (suc number)) (sym (within_month at.day (days_in_month (pos at.year) at.month) at.month _ _ _ lt))
      (record {
        date = next;
        numbered = one_more (epoch_day date) (epoch_day next) number date.day shows.numbered (days_from_civil-day date.year date.month date.day (date.day + 1) date.day_in.0 low);
        year = shows.year;
        month = shows.month;
        day = ap (λ d. d + 1) shows.day;
      })

  next_in_year : days_in_month (pos at.year) at.month ≤ at.day → at.month < 12 → Shows (suc number) (next_day at)
  next_in_year over lt =
      let same = same_days in
      let eq = shows.day in
      let eq_month = shows.month in
      let whole : date.day ≡ days = let b = date.day_in.1 in omega arith in
      let low : 1 ≤ date.month + 1 = omega arith in
      let high : date.month + 1 ≤ 12 = omega arith in
      let one : 1 ≤ days_in_month date.year (date.month + 1) = some (days_in_month date.year (date.month + 1)) (days_in_month_bounds date.year (date.month + 1)).1 in
      let next : Date = record { year = date.year; month = date.month + 1; day = 1; year_in = date.year_in; month_in = (low, high); day_in = (lit≤ tt, one) } in
      subst (Shows (suc number)) (sym (month_over at.day (days_in_month (pos at.year) at.month) at.month _ _ _ over lt))
      (record {
        date = next;
        numbered = one_after (epoch_day date) (epoch_day next) number shows.numbered (days_from_civil-next_month date.year date.month date.day date.month_in.0 whole);
        year = shows.year;
        month = ap (λ m. m + 1) shows.month;
        day = refl;
      })
    where
      some : (n : ℕ) → 28 ≤ n → 1 ≤ n
      some n h = omega arith

  next_of_year : days_in_month (pos at.year) at.month ≤ at.day → 12 ≤ at.month → Shows (suc number) (next_day at)
  next_of_year over last =
      let same = same_days in
      let eq = shows.day in
      let eq_month = shows.month in
      let whole : date.day ≡ days = let b = date.day_in.1 in omega arith in
      let december : date.month ≡ 12 = let b = date.month_in in omega arith in
      let end : date.day ≡ 31 = whole ∙ ap (days_in_month date.year) december in
      let y = date.year_in in
      let low : neg_ℤ (pos 10000) ≤ℤ date.year = omega (arith, signed_arith) in
      let lower : neg_ℤ (pos 9999) ≤ℤ (date.year +ℤ pos 1) = omega (arith, signed_arith) in
      let before = last_year_over date number shows.numbered early december end in
      let upper : (date.year +ℤ pos 1) ≤ℤ pos 9999 = omega (arith, signed_arith) in
      let next : Date = record { year = date.year +ℤ pos 1; month = 1; day = 1; year_in = (lower, upper); month_in = (lit≤ tt, lit≤ tt); day_in = (lit≤ tt, lit≤ tt) } in
      subst (Shows (suc number)) (sym (year_over at.day (days_in_month (pos at.year) at.month) at.month _ _ _ over last))
      (record {
        date = next;
        numbered = one_after (days_from_civil date.year 12 31) (epoch_day next) number
            (sym (λ i. days_from_civil date.year (december i) (end i)) ∙ shows.numbered)
            (days_from_civil-next_year date.year (date.year +ℤ pos 1) low refl);
        year = ap (λ z. z +ℤ pos 1) shows.year;
        month = refl;
        day = refl;
      })

  shows_next : Shows (suc number) (next_day at)
  shows_next =
      elim (cases_lt at.day (days_in_month (pos at.year) at.month)) [
        | inl lt ↦ next_in_month lt
        | inr over ↦
            elim (cases_lt at.month 12) [
              | inl lt ↦ next_in_year over lt
              | inr last ↦ next_of_year over last
            ]
      ]

shown : (number : ℕ) → number ≤ 2_932_896 → Shows number (civil_day number)
unfolding civil_day
shown zero le = record { date = epoch; numbered = epoch_number; year = refl; month = refl; day = refl }
shown (suc number) le = shows_next number (civil_day number) (shown number (omega arith)) (omega arith)

-- the parts of the day of a number are those of the date of that number
pub record IsCivil (date : Date) (at : CivilDay) : Type 0 where
  pub year : date.year ≡ pos at.year
  pub month : date.month ≡ at.month
  pub day : date.day ≡ at.day

pub civil_day_is : (date : Date) (number : ℕ) → epoch_day date ≡ pos number → number ≤ 2_932_896 → IsCivil date (civil_day number)
civil_day_is date number e le =
    let s = shown number le in
    let same = epoch_day_injective s.date date (s.numbered ∙ sym e) in
    record {
      year = sym same.0 ∙ s.year;
      month = sym same.1 ∙ s.month;
      day = sym same.2 ∙ s.day;
    }
