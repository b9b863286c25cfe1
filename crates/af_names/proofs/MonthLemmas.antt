-- How the days of a month follow one another, and where the next month and this one begin.
use Rattle.std.proofs.Common.{◌≡◌, ℕ, zero, suc, ◌+◌, ◌-◌, ◌<◌, ◌≤◌, ◌⊎◌, inl, inr, arith, refl, ap, sym, ◌∙◌, pos, Bool, true, false, cond, nat_lt}
use Rattle.std.proofs.lemmas.Bool.{cases_lt, eq-eqb, eqb-true, cond-true, cond-false, lt-ltb, le-ltb}
use Rattle.jiff_core.specs.Calendar.{days_in_month}
use Rattle.af_names.specs.CivilDays.{CivilDay, next_day, civil_day}
use Rattle.af_names.specs.Points.{IsLeastFrom, IsGreatestTo, is_first_of_month}

abbrev pub day_at : ℕ → ℕ
day_at number = (civil_day number).day

abbrev pub length_of : CivilDay → ℕ
length_of at = days_in_month (pos at.year) at.month

-- the next day is one more within the month
next_within : (at : CivilDay) → at.day < length_of at → next_day at ≡ record at { day = at.day + 1 }
next_within at lt = cond-true _ _ _ (lt-ltb at.day (length_of at) lt)

-- and else it begins a month
next_begins : (at : CivilDay) → length_of at ≤ at.day → (next_day at).day ≡ 1
next_begins at over = ap day_in (cond-false _ _ _ (le-ltb at.day (length_of at) over)) ∙ first (nat_lt at.month 12)
  where
    day_in : CivilDay → ℕ
    day_in at = at.day

    first : (b : Bool) → day_in (cond b (record { year = at.year; month = at.month + 1; day = 1 }) (record { year = at.year + 1; month = 1; day = 1 })) ≡ 1
    first true = refl
    first false = refl

next_or_begins : (at : CivilDay) → ((next_day at).day ≡ at.day + 1) ⊎ ((next_day at).day ≡ 1)
next_or_begins at =
    elim (cases_lt at.day (length_of at)) [
      | inl lt ↦ inl (ap (λ (next : CivilDay). next.day) (next_within at lt))
      | inr over ↦ inr (next_begins at over)
    ]

-- no month begins after the day that is its first
pub day_bound : (number : ℕ) → day_at number ≤ number + 1
unfolding civil_day
day_bound zero = omega arith
day_bound (suc number) =
    let before = day_bound number in
    elim (next_or_begins (civil_day number)) [
      | inl e ↦ omega arith
      | inr e ↦ omega arith
    ]

-- an earlier day of the month
pub earlier_day : (back number later : ℕ) → later ≡ number + back → back < day_at later → day_at number + back ≡ day_at later
unfolding civil_day
earlier_day zero number later e lt = let same : later ≡ number = omega arith in let h = ap day_at same in omega arith
earlier_day (suc back) number zero e lt = absurd (omega arith)
earlier_day (suc back) number (suc later) e lt =
    elim (next_or_begins (civil_day later)) [
      | inl next ↦ let h = earlier_day back number later (omega arith) (omega arith) in omega arith
      | inr begins ↦ absurd (omega arith)
    ]

-- a later day of the month
pub later_day : (ahead number later : ℕ) → later ≡ number + ahead → day_at number + ahead ≤ length_of (civil_day number)
    → civil_day later ≡ record (civil_day number) { day = day_at number + ahead }
unfolding civil_day
later_day zero number later e le =
    let same : later ≡ number = omega arith in
    let none : day_at number ≡ day_at number + 0 = omega arith in
    ap civil_day same ∙ (λ i. record (civil_day number) { day = none i })
later_day (suc ahead) number zero e le = absurd (omega arith)
later_day (suc ahead) number (suc later) e le =
    let h = later_day ahead number later (omega arith) (omega arith) in
    let more : day_at number + ahead + 1 ≡ day_at number + suc ahead = omega arith in
    ap next_day h ∙ next_within (record (civil_day number) { day = day_at number + ahead }) (omega arith)
    ∙ (λ i. record (civil_day number) { day = more i })

-- the day after the last of a month
pub month_turns : (number ahead : ℕ) → day_at number + ahead ≡ length_of (civil_day number) → day_at (suc (number + ahead)) ≡ 1
unfolding civil_day
month_turns number ahead e =
    let last = later_day ahead number (number + ahead) refl (omega arith) in
    ap (λ (at : CivilDay). (next_day at).day) last ∙ next_begins (record (civil_day number) { day = day_at number + ahead }) (omega arith)

pub least_here : (number : ℕ) → day_at number ≡ 1 → IsLeastFrom is_first_of_month number number
least_here number e = record { member = eq-eqb (day_at number) 1 e; at_or_after = omega arith; before_others = λ other p le. le }

pub least_first : (number ahead : ℕ) → 1 < day_at number → day_at number + ahead ≡ length_of (civil_day number)
    → IsLeastFrom is_first_of_month number (number + ahead + 1)
least_first number ahead after e =
    let turn : suc (number + ahead) ≡ number + ahead + 1 = omega arith in
    record {
      member = eq-eqb (day_at (number + ahead + 1)) 1 (ap day_at (sym turn) ∙ month_turns number ahead e);
      at_or_after = omega arith;
      before_others = λ other p le.
          elim (cases_lt other (number + ahead + 1)) [
            | inr done ↦ done
            | inl lt ↦
                let within = later_day (other - number) number other (omega arith) (omega arith) in
                let day = ap (λ (at : CivilDay). at.day) within in
                let first = eqb-true (day_at other) 1 p in
                absurd (omega arith)
          ];
    }

pub greatest_first : (number back first : ℕ) → number ≡ first + back → day_at number ≡ back + 1 → IsGreatestTo is_first_of_month number first
greatest_first number back first e day = record {
  member = let h = earlier_day back first number e (omega arith) in eq-eqb (day_at first) 1 (omega arith);
  at_or_before = omega arith;
  after_others = λ other p le.
      elim (cases_lt first other) [
        | inr done ↦ done
        | inl lt ↦
            let h = earlier_day (number - other) other number (omega arith) (omega arith) in
            let begins = eqb-true (day_at other) 1 p in
            absurd (omega arith)
      ];
}
