-- The last multiple of a step, and the midnights of the days of a set.
use Rattle.std.proofs.Common.{◌≡◌, ℕ, ◌+◌, ◌*◌, ◌/◌, ◌%◌, ◌<◌, ◌≤◌, inl, inr, arith, subst, sym, Bool, true, Option, Some, None, IfSome}
use Rattle.std.specs.Int.{div_ceil}
use Rattle.std.proofs.Math.Nat.{mul-mod_left, mul-le-mul_right, div-mul-le_self}
use Rattle.std.proofs.lemmas.Bool.{cases_lt, eq-eqb, eqb-true, and_parts, and_from}
use Rattle.af_names.specs.Points.{IsLeastFrom, IsGreatestTo, is_multiple, is_midnight_of}

pub greatest_multiple : (step to : ℕ) → 0 < step → IsGreatestTo (is_multiple step) to (to / step * step)
greatest_multiple step to some = record {
  member = eq-eqb (to / step * step % step) 0 (mul-mod_left (to / step) step);
  at_or_before = div-mul-le_self to step;
  after_others = λ other p le. at_most other (eqb-true (other % step) 0 p) le;
}
  where
    at_most : (other : ℕ) → other % step ≡ 0 → other ≤ to → other ≤ to / step * step
    at_most other e le =
        elim (cases_lt (to / step) (other / step)) [
          | inr few ↦
              let whole : other / step * step ≡ other = omega arith in
              let h : other / step * step ≤ to / step * step = mul-le-mul_right step few in
              omega arith
          | inl lt ↦
              let whole : other / step * step ≡ other = omega arith in
              let last : to < (to / step + 1) * step = omega arith in
              let gt : to / step + 1 ≤ other / step = omega arith in
              let bad : (to / step + 1) * step ≤ other / step * step = mul-le-mul_right step gt in
              absurd (omega arith)
        ]

module _ (is_day : ℕ → Bool) where
  midnight_of : (day : ℕ) → is_day day ≡ true → is_midnight_of is_day (day * 86_400_000_000) ≡ true
  midnight_of day p =
      let e : day * 86_400_000_000 / 86_400_000_000 ≡ day = omega arith in
      and_from _ _ (eq-eqb (day * 86_400_000_000 % 86_400_000_000) 0 (omega arith)) (subst (λ d. is_day d ≡ true) (sym e) p)

  day_of_midnight : (point : ℕ) → is_midnight_of is_day point ≡ true → (point ≡ point / 86_400_000_000 * 86_400_000_000) × (is_day (point / 86_400_000_000) ≡ true)
  day_of_midnight point p =
      let both = and_parts (is_multiple 86_400_000_000 point) (is_day (point / 86_400_000_000)) p in
      let e = eqb-true (point % 86_400_000_000) 0 both.0 in
      (omega arith, both.1)

  pub least_midnight : (from day : ℕ) → IsLeastFrom is_day (div_ceil from 86_400_000_000) day → IsLeastFrom (is_midnight_of is_day) from (day * 86_400_000_000)
  least_midnight from day least =
      let after = least.at_or_after in
      record {
        member = midnight_of day least.member;
        at_or_after = omega arith;
        before_others = λ other p le.
            let its = day_of_midnight other p in
            let e = its.0 in
            let few : div_ceil from 86_400_000_000 ≤ other / 86_400_000_000 = omega arith in
            let h = least.before_others (other / 86_400_000_000) its.1 few in
            omega arith;
      }

  pub greatest_midnight : (to day : ℕ) → IsGreatestTo is_day (to / 86_400_000_000) day → IsGreatestTo (is_midnight_of is_day) to (day * 86_400_000_000)
  greatest_midnight to day greatest =
      let before = greatest.at_or_before in
      record {
        member = midnight_of day greatest.member;
        at_or_before = omega arith;
        after_others = λ other p le.
            let its = day_of_midnight other p in
            let e = its.0 in
            let few : other / 86_400_000_000 ≤ to / 86_400_000_000 = omega arith in
            let h = greatest.after_others (other / 86_400_000_000) its.1 few in
            omega arith;
      }

-- what holds of the number that a value is known by
pub some_at : (P : ℕ → Type 0) (found : Option ℕ) (number : ℕ) → IfSome found (λ point. point ≡ number) → P number → IfSome found P
some_at P None number e h = tt
some_at P (Some point) number e h = subst P (sym e) h
