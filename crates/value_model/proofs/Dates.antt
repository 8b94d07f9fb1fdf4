-- Dates that the calendar has.
use Rattle.std.proofs.Common.{◌≡◌, ℕ, ◌<◌, Some, ℤ, pos, FitsSigned, w8, w16, w64, to_z, of_z, ◌≤ℤ◌, neg_ℤ, inl, inr, rules, arith, refl, ap, ◌∙◌}
use Rattle.std.specs.Int.{IsInRange}
use Rattle.std.proofs.lemmas.Bool.{le-leb}
use Rattle.std.proofs.lemmas.Int.{ints, to_z-of_z}
use Rattle.jiff_core.specs.declared.civil.date.Date.{Date}
use Rattle.jiff_core.specs.Date.{epoch_day}
use Rattle.jiff_core.specs.Calendar.{days_from_civil, days_in_month}
use Rattle.jiff_core.proofs.SignedLemmas.{signed_arith}
use Rattle.jiff_core.proofs.CalendarLemmas.{days_from_civil-day_count}
use Rattle.jiff_core.proofs.MarchLemmas.{day_count-early}
use Rattle.jiff_core.proofs.DateLemmas.{cases_date, epoch_day-lt, epoch_day_same}
use Rattle.value_model.specs.Time.{date_of}

pub found : (y m d : ℕ) (r : ℤ) → 0 < y → IsInRange 1 12 m → IsInRange 1 (days_in_month (pos y) m) d → r ≡ days_from_civil (pos y) m d → Some r ≡ date_of y m d
found y m d r positive month day is =
    rw (le-leb 1 y positive, le-leb 1 m month.0, le-leb m 12 month.1, le-leb 1 d day.0, le-leb d (days_in_month (pos y) m) day.1) (ap Some is)

-- the day number of a date that was made of these numbers is the one that they spell
pub date_found : (y m d month day : ℕ) (year r : ℤ) → 0 < y → y < 10000 → m < 100 → d < 100 → FitsSigned w64 r
    → year ≡ to_z w16 y → pos month ≡ to_z w8 m → pos day ≡ to_z w8 d
    → IsInRange 1 12 month → IsInRange 1 (days_in_month year month) day → r ≡ days_from_civil year month day
    → Some (to_z w64 (of_z w64 r)) ≡ date_of y m d
date_found y m d month day year r positive small_y small_m small_d fits year_is month_is day_is month_in day_in is =
    let year_pos : to_z w16 y ≡ pos y = omega (arith, ints) in
    let month_pos : to_z w8 m ≡ pos m = omega (arith, ints) in
    let day_pos : to_z w8 d ≡ pos d = omega (arith, ints) in
    let same_month : month ≡ m = omega (arith, ints, month_is, month_pos) in
    let same_day : day ≡ d = omega (arith, ints, day_is, day_pos) in
    let same_year : year ≡ pos y = year_is ∙ year_pos in
    ap Some (to_z-of_z w64 r fits) ∙ found y m d r positive (rw same_month at month_in)
    (rw (same_year, same_month, same_day) at day_in) (rw (same_year, same_month, same_day) at is)

-- 0001-01-01, the first day of the years that times have
first_date : Date
first_date = record { year = pos 1; month = 1; day = 1; year_in = search rules; month_in = search rules; day_in = search rules }

days_from_civil-first : days_from_civil (pos 1) 1 1 ≡ neg_ℤ (pos 719162)
days_from_civil-first = omega (arith, signed_arith, days_from_civil-day_count, day_count-early (pos 1) 10000 1 1 refl (omega arith) (omega arith) (omega arith))

pub late_day : (d : Date) → pos 1 ≤ℤ d.year → neg_ℤ (pos 719162) ≤ℤ epoch_day d
unfolding first_date
late_day d year =
    elim (cases_date d first_date) [
      | inl before ↦ absurd (elim before [
        | inl lt ↦ omega (arith, signed_arith, lt)
        | inr (same, inl lt) ↦ omega (arith, lt, d.month_in.0)
        | inr (same, inr lt) ↦ omega (arith, lt.1, d.day_in.0)
      ])
      | inr (inl after) ↦ omega (arith, signed_arith, days_from_civil-first, epoch_day-lt first_date d after)
      | inr (inr same) ↦ omega (arith, signed_arith, days_from_civil-first, epoch_day_same d first_date same.0 same.1 same.2)
    ]

pub early_year : (d : Date) → neg_ℤ (pos 719162) ≤ℤ epoch_day d → pos 1 ≤ℤ d.year
unfolding first_date
early_year d late =
    elim (cases_date d first_date) [
      | inl before ↦ absurd (omega (arith, signed_arith, days_from_civil-first, epoch_day-lt d first_date before))
      | inr (inl after) ↦ elim after [
        | inl lt ↦ omega (arith, signed_arith, lt)
        | inr (same, rest) ↦ omega (arith, signed_arith, same)
      ]
      | inr (inr same) ↦ omega (arith, signed_arith, same.0)
    ]
