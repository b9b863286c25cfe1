-- The text of an instant is what a clock at UTC shows.
use Rattle.std.proofs.Common.{◌≡◌, ℕ, ◌+◌, ◌*◌, ◌/◌, ◌%◌, ◌<◌, ◌≤◌, inl, inr, arith, refl, ap, sym, ◌∙◌, Bool, true, false, ℤ, pos, ◌+ℤ◌, ◌*ℤ◌, [], ◌∷◌, ◌++◌, Some, if◌then◌else◌, ◌==◌, codes}
use Rattle.std.specs.Int.{int_div_euclid}
use Rattle.std.proofs.lemmas.Bool.{cases_eq, eq-eqb, ne_eqb}
use Rattle.jiff.proofs.SpanFacts.{signed_arith}
use Rattle.jiff_core.specs.declared.civil.datetime.DateTime.{DateTime}
use Rattle.jiff_core.specs.Date.{epoch_day}
use Rattle.jiff_core.specs.DateTime.{civil_nanos}
use Rattle.jiff_core.specs.Time.{time_nanos}
use Rattle.jiff_core.proofs.DateTimeLemmas.{civil_nanos-parts, epoch_day-civil_nanos, time_nanos_bound}
use Rattle.jiff_fmt.specs.Text.{datetime_text, year_text, pad2, places, fraction_part}
use Rattle.af_names.specs.Isoformat.{fraction_text, isoformat}
use Rattle.af_names.proofs.CivilDayLemmas.{civil_day_is}

-- the parts of a clock's time, from its nanoseconds
clock_parts : (h m s n t : ℕ) → h < 24 → m < 60 → s < 60 → n < 1_000_000_000 → (h * 3600 + m * 60 + s) * 1_000_000_000 + n ≡ t * 1000
    → (h ≡ t / 3_600_000_000) × (m ≡ t / 60_000_000 % 60) × (s ≡ t / 1_000_000 % 60) × (n ≡ t % 1_000_000 * 1000)
clock_parts h m s n t hh hm hs hn e = (omega arith, omega arith, omega arith, omega arith)

-- the day and the time of day, from the nanoseconds
split_nanos : (a : ℤ) (day t micros : ℕ) → a ≡ pos day → a *ℤ pos 86_400_000_000_000 +ℤ pos t ≡ pos (micros * 1000) → t < 86_400_000_000_000 → (day ≡ micros / 86_400_000_000) × (t ≡ micros % 86_400_000_000 * 1000)
split_nanos a day t micros e f h =
    let g : day * 86_400_000_000_000 + t ≡ micros * 1000 = omega (arith, signed_arith) in
    (omega arith, omega arith)

-- six places of nanoseconds that are whole microseconds
six_places : (u : ℕ) → u < 1_000_000 → places 6 1_000_000_000 (u * 1000) ≡ pad2 (u / 10_000) ++ pad2 (u / 100 % 100) ++ pad2 (u % 100)
unfolding places
six_places u lt =
    let n = u * 1000 in
    let a : n / 100_000_000 ≡ u / 10_000 / 10 = omega arith in
    let b : n % 100_000_000 / 10_000_000 ≡ u / 10_000 % 10 = omega arith in
    let c : n % 100_000_000 % 10_000_000 / 1_000_000 ≡ u / 100 % 100 / 10 = omega arith in
    let d : n % 100_000_000 % 10_000_000 % 1_000_000 / 100_000 ≡ u / 100 % 100 % 10 = omega arith in
    let e : n % 100_000_000 % 10_000_000 % 1_000_000 % 100_000 / 10_000 ≡ u % 100 / 10 = omega arith in
    let f : n % 100_000_000 % 10_000_000 % 1_000_000 % 100_000 % 10_000 / 1_000 ≡ u % 100 % 10 = omega arith in
    λ i. (48 + a i) ∷ (48 + b i) ∷ (48 + c i) ∷ (48 + d i) ∷ (48 + e i) ∷ (48 + f i) ∷ []

fraction_is : (u : ℕ) → u < 1_000_000 → fraction_part (Some (if u == 0 then 0 else 6)) (u * 1000) ≡ fraction_text u
fraction_is u lt =
    elim (cases_eq u 0) [
      | inl e ↦ both true (u * 1000) u (eq-eqb u 0 e) refl
      | inr other ↦ both false (u * 1000) u (ne_eqb u 0 other) (ap (λ text. 46 ∷ text) (six_places u lt))
    ]
  where
    both : (b : Bool) (n u : ℕ) → (u == 0) ≡ b → fraction_part (Some (if b then 0 else 6)) n ≡ (if b then [] else codes "." ++ pad2 (u / 10_000) ++ pad2 (u / 100 % 100) ++ pad2 (u % 100))
        → fraction_part (Some (if u == 0 then 0 else 6)) n ≡ fraction_text u
    both b n u e same = ap (λ b. fraction_part (Some (if b then 0 else 6)) n) e ∙ same
        ∙ sym (ap (λ b. if b then [] else codes "." ++ pad2 (u / 10_000) ++ pad2 (u / 100 % 100) ++ pad2 (u % 100)) e)

pub isoformat_is : (micros : ℕ) (dt : DateTime) → micros ≤ 253_370_764_799_999_999 → civil_nanos dt ≡ pos (micros * 1000)
    → datetime_text false 84 (Some (if micros % 1_000_000 == 0 then 0 else 6)) dt ++ codes "+00:00" ≡ isoformat micros
isoformat_is micros dt le e =
    let day = micros / 86_400_000_000 in
    let t = micros % 86_400_000_000 in
    let z : epoch_day dt.date ≡ pos (micros * 1000 / 86_400_000_000_000) = epoch_day-civil_nanos dt ∙ ap (λ z. int_div_euclid z (pos 86_400_000_000_000)) e in
    let q : micros * 1000 / 86_400_000_000_000 ≡ day = omega arith in
    let at : epoch_day dt.date ≡ pos day = z ∙ ap pos q in
    let few : day ≤ 2_932_896 = omega arith in
    let date = civil_day_is dt.date day at few in
    let sum = split_nanos (epoch_day dt.date) day (time_nanos dt.time) micros at (sym (civil_nanos-parts dt) ∙ e) (time_nanos_bound dt.time) in
    let clock = clock_parts dt.time.hour dt.time.minute dt.time.second dt.time.subsec_nanosecond t dt.time.hour_in dt.time.minute_in dt.time.second_in dt.time.subsec_in sum.1 in
    let r : micros % 1_000_000 ≡ t % 1_000_000 = omega arith in
    let small : t % 1_000_000 < 1_000_000 = omega arith in
    let fraction : fraction_part (Some (if micros % 1_000_000 == 0 then 0 else 6)) dt.time.subsec_nanosecond ≡ fraction_text (t % 1_000_000) =
    (λ i. fraction_part (Some (if r i == 0 then 0 else 6)) (clock.3 i)) ∙ fraction_is (t % 1_000_000) small in
    λ i. (year_text (date.year i) ++ 45 ∷ [] ++ pad2 (date.month i) ++ 45 ∷ [] ++ pad2 (date.day i))
    ++ 84 ∷ (pad2 (clock.0 i) ++ 58 ∷ pad2 (clock.1 i) ++ 58 ∷ pad2 (clock.2 i) ++ fraction i) ++ codes "+00:00"
