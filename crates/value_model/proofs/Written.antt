-- The date of a day, as it is printed.
use Rattle.std.proofs.Common.{◌≡◌, ◌∙◌, ℕ, ◌+◌, ◌<◌, ◌≤◌, refl, ap, subst, arith, ℤ, pos, negsuc, neg_ℤ, ◌+ℤ◌, ◌≤ℤ◌, unsigned_abs}
use Rattle.jiff_core.specs.declared.civil.date.Date.{Date}
use Rattle.jiff_core.specs.Calendar.{day_count, IsCivilDate}
use Rattle.jiff_core.specs.Date.{epoch_day}
use borrow.Author.Differences.{up, down}
use Rattle.jiff_core.proofs.SignedLemmas.{signed_arith}
use Rattle.jiff_core.proofs.CalendarLemmas.{days_from_civil-day_count}
use Rattle.jiff_core.proofs.DateLemmas.{civil}
use Rattle.value_model.specs.Time.{IsDay}
use Rattle.value_model.specs.Time.{ymd_text, counted_text, date_text}
use Rattle.value_model.proofs.Dates.{early_year}
use Rattle.value_model.proofs.Counted.{year_found, month_found, day_found}

-- the text of a date that the calendar has
pub counted : (y m d count : ℕ) → 0 < y → y ≤ 9999 → IsCivilDate (pos y) m d → day_count (pos y) m d ≡ count → counted_text count ≡ ymd_text y m d
counted y m d count some within civil_date is =
    subst (λ (n : ℕ). counted_text n ≡ ymd_text y m d) is
    (rw (year_found y m d some within civil_date, month_found y m d civil_date, day_found y m d civil_date) refl)

-- what printing needs of a date
pub record IsPrinted (d : Date) (day : ℤ) : Type 0 where
  pub some : pos 1 ≤ℤ d.year
  pub text : date_text day ≡ ymd_text (unsigned_abs d.year) d.month d.day

is_pos : (z : ℤ) → pos 1 ≤ℤ z → pos (unsigned_abs z) ≡ z
is_pos (pos n) some = refl
is_pos (negsuc n) some = absurd (omega (arith, signed_arith, some))

count_is : (x : ℤ) (count : ℕ) → neg_ℤ (pos 719162) ≤ℤ x → up x + 4371953 ≡ down x + count → count ≡ unsigned_abs (x +ℤ pos 4371953)
count_is x count low is =
    let sum : ℤ = x +ℤ pos 4371953 in
    let some : pos 1 ≤ℤ sum = omega (arith, signed_arith, low) in
    omega (arith, signed_arith, is, is_pos sum some)

pub printed : (d : Date) (day : ℤ) → IsDay day → epoch_day d ≡ day → IsPrinted d day
unfolding date_text
printed d day range is =
    let some : pos 1 ≤ℤ d.year = early_year d (rw is range.0) in
    let positive = is_pos d.year some in
    let civil_date : IsCivilDate (pos (unsigned_abs d.year)) d.month d.day = rw positive (civil d) in
    let count = count_is (epoch_day d) (day_count d.year d.month d.day) (rw is range.0) (days_from_civil-day_count d.year d.month d.day) in
    record {
      some = some;
      text = counted (unsigned_abs d.year) d.month d.day _ (omega (arith, signed_arith)) (omega (arith, signed_arith, (civil d).0.1)) civil_date
          (ap (λ (z : ℤ). day_count z d.month d.day) positive ∙ (count ∙ ap (λ (z : ℤ). unsigned_abs (z +ℤ pos 4371953)) is));
    }
