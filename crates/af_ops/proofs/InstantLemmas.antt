-- The text of an instant has no byte that wants an escape: its year has four digits, and all else of it two.
use Rattle.std.proofs.Common.{◌≡◌, ◌≤◌, ◌<◌, ◌+◌, ◌*◌, ◌/◌, ◌%◌, ◌==◌, ◌||◌, ℕ, zero, suc, Bool, true, false, List, [], ◌∷◌, ◌++◌, refl, ◌∙◌, ℤ, pos, ◌+ℤ◌, to_z, of_z, w16, arith, nat_lt, if◌then◌else◌}
use Rattle.std.specs.List.{list_all}
use Rattle.std.specs.Prelude.{codes}
use Rattle.std.proofs.lemmas.Bool.{ltb-true, ltb-false}
use Rattle.jiff_core.proofs.SignedLemmas.{signed_arith}
use Rattle.jiff_core.specs.declared.civil.date.Date.{Date}
use Rattle.jiff_core.specs.Calendar.{days_in_month, is_leap_year, IsYear}
use Rattle.jiff_core.specs.Date.{epoch_day}
use Rattle.jiff_fmt.proofs.TextLemmas.{year_back}
use Rattle.af_names.proofs.CivilDayLemmas.{civil_day_is}
use Rattle.jiff_fmt.specs.Text.{pad2}
use Rattle.json.specs.Run.{is_plain}
use Rattle.af_names.specs.CivilDays.{CivilDay, civil_day, next_day}
use Rattle.af_names.specs.Instants.{last_micros}
use Rattle.af_names.specs.Isoformat.{isoformat, fraction_text}
use Rattle.af_ops.proofs.TextLemmas.{plain_byte}

-- ---- the calendar

-- how long a month is
pub record IsMonthLong (days : ℕ) : Type 0 where
  pub least : 28 ≤ days
  pub most : days ≤ 31

month_long : (y : ℕ) (m : ℕ) → IsMonthLong (days_in_month (pos y) m)
month_long y m = by (m == 2) (is_leap_year (pos y)) ((m == 4) || (m == 6) || (m == 9) || (m == 11))
  where
    by : (a b c : Bool) → IsMonthLong (if a then (if b then 29 else 28) else (if c then 30 else 31))
    by true true c = record { least = omega arith; most = omega arith }
    by true false c = record { least = omega arith; most = omega arith }
    by false b true = record { least = omega arith; most = omega arith }
    by false b false = record { least = omega arith; most = omega arith }

-- the day of a number stands in the calendar, and its year is not far: a year has twelve months of 28 days at least
pub record IsNear (number : ℕ) (at : CivilDay) : Type 0 where
  pub month : at.month ≤ 12
  pub day : at.day ≤ 31
  pub year : 336 * at.year + 28 * at.month + at.day ≤ number + 661_949

near_next : (number : ℕ) (at : CivilDay) → IsNear number at → IsNear (suc number) (next_day at)
near_next number at near = by (nat_lt at.day (days_in_month (pos at.year) at.month)) (nat_lt at.month 12) refl refl
  where
    by : (t u : Bool) → nat_lt at.day (days_in_month (pos at.year) at.month) ≡ t → nat_lt at.month 12 ≡ u
        → IsNear (suc number) (if t then record at { day = at.day + 1 } else (if u then record at { month = at.month + 1; day = 1 } else record { year = at.year + 1; month = 1; day = 1 }))
    by true u inside later =
        let long = month_long at.year at.month in
        let below = ltb-true at.day (days_in_month (pos at.year) at.month) inside in
        record { month = near.month; day = omega (arith, below, long.most); year = omega (arith, near.year) }
    by false true inside later =
        let long = month_long at.year at.month in
        let above = ltb-false at.day (days_in_month (pos at.year) at.month) inside in
        let earlier = ltb-true at.month 12 later in
        record { month = omega (arith, earlier); day = omega arith; year = omega (arith, near.year, above, long.least) }
    by false false inside later =
        let long = month_long at.year at.month in
        let above = ltb-false at.day (days_in_month (pos at.year) at.month) inside in
        let last = ltb-false at.month 12 later in
        record { month = omega arith; day = omega arith; year = omega (arith, near.year, above, long.least, last) }

near_day : (number : ℕ) → IsNear number (civil_day number)
unfolding civil_day
near_day zero = record { month = omega arith; day = omega arith; year = omega arith }
near_day (suc number) = near_next number (civil_day number) (near_day number)

-- ---- digits

record IsPlain (s : List ℕ) : Type 0 where
  is : list_all is_plain s ≡ true

digit_plain : (n : ℕ) → n < 44 → is_plain (48 + n) ≡ true
digit_plain n below = plain_byte (48 + n) (λ e. absurd (omega (arith, e))) (λ e. absurd (omega (arith, e, below))) (omega arith)

byte_then : (x : ℕ) (s : List ℕ) → is_plain x ≡ true → IsPlain s → IsPlain (x ∷ s)
byte_then x s first rest = record { is = rw first rest.is }

two_then : (n : ℕ) (s : List ℕ) → n < 440 → IsPlain s → IsPlain (pad2 n ++ s)
two_then n s below rest =
    byte_then (48 + n / 10) ((48 + n % 10) ∷ s) (digit_plain (n / 10) (omega (arith, below)))
    (byte_then (48 + n % 10) s (digit_plain (n % 10) (omega arith)) rest)

fraction_then : (micros : ℕ) → micros < 1_000_000 → IsPlain (fraction_text micros ++ codes "+00:00")
fraction_then micros below = by (micros == 0)
  where
    by : (none : Bool) → IsPlain ((if none then [] else codes "." ++ pad2 (micros / 10_000) ++ pad2 (micros / 100 % 100) ++ pad2 (micros % 100)) ++ codes "+00:00")
    by true = record { is = refl }
    by false =
        byte_then 46 _ refl (two_then (micros / 10_000) _ (omega (arith, below))
        (two_then (micros / 100 % 100) _ (omega arith) (two_then (micros % 100) (codes "+00:00") (omega arith) (record { is = refl }))))

pub instants_are_plain : (micros : ℕ) → micros ≤ last_micros → list_all is_plain (isoformat micros) ≡ true
instants_are_plain micros bound =
    let number = micros / 86_400_000_000 in
    let at = civil_day number in
    let clock = micros % 86_400_000_000 in
    let few : number ≤ 2_932_896 = omega (arith, bound) in
    let near = near_day number in
    let year : at.year < 11_000 = omega (arith, near.year, few) in
    let day : clock < 86_400_000_000 = omega arith in
    let whole : IsPlain (isoformat micros) =
    two_then (at.year / 100) _ (omega (arith, year)) (two_then (at.year % 100) _ (omega arith) (byte_then 45 _ refl
    (two_then at.month _ (omega (arith, near.month)) (byte_then 45 _ refl
    (two_then at.day _ (omega (arith, near.day)) (byte_then 84 _ refl
    (two_then (clock / 3_600_000_000) _ (omega (arith, day)) (byte_then 58 _ refl
    (two_then (clock / 60_000_000 % 60) _ (omega arith) (byte_then 58 _ refl
    (two_then (clock / 1_000_000 % 60) _ (omega arith)
    (fraction_then (clock % 1_000_000) (omega arith))))))))))))) in
    whole.is

-- ---- the calendar's date of a day

pub record IsDateOf (number : ℕ) (date : Date) : Type 0 where
  pub year : to_z w16 (of_z w16 date.year) ≡ pos (civil_day number).year
  pub month : date.month ≡ (civil_day number).month
  pub day : date.day ≡ (civil_day number).day
  pub few : (civil_day number).year < 10_000

pub date_of : (number : ℕ) (date : Date) → number ≤ 2_932_896 → epoch_day date +ℤ pos 4_371_587 ≡ pos (number + 4_371_587) → IsDateOf number date
date_of number date calendar counted =
    let at : epoch_day date ≡ pos number = omega (arith, signed_arith, counted) in
    let civil = civil_day_is date number at calendar in
    record {
      year = year_back date.year date.year_in ∙ civil.year;
      month = civil.month;
      day = civil.day;
      few = below date.year (civil_day number).year civil.year date.year_in;
    }
  where
    below : (z : ℤ) (y : ℕ) → z ≡ pos y → IsYear z → y < 10_000
    below z y is year = omega (arith, signed_arith)
