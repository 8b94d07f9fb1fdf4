-- The last year, month and day that have begun on a day of the calendar.
use Rattle.std.proofs.Common.{◌≡◌, ℕ, zero, suc, ◌+◌, ◌<◌, ◌≤◌, inl, inr, refl, arith, pos, ◌+ℤ◌, nat_le}
use Rattle.std.proofs.lemmas.Bool.Decides.{leb_tells}
use Rattle.jiff_core.specs.Calendar.{days_in_year, days_in_month, day_count, IsCivilDate}
use Rattle.jiff_core.proofs.CalendarLemmas.{day_count-day_of_year, day_count-next_year, day_count-lt_year, day_count-lt_month, day_count-day, day_count-next_month, day_count-last_of_year, day_count-end}
use Rattle.jiff_core.proofs.SignedLemmas.{signed_arith}
use Rattle.jiff_core.proofs.MarchLemmas.{day_count-early}
use Rattle.value_model.specs.Time.{last_to, year_at, month_at, day_at}

-- r is the last number up to n that begins at or before the count; 0 where none above 0 does
pub record IsLastBegun (f : ℕ → ℕ) (count n r : ℕ) : Type 0 where
  pub within : r ≤ n
  pub begun : 0 < r → f r ≤ count
  pub later : (j : ℕ) → r < j → j ≤ n → count < f j

not_later : (f : ℕ → ℕ) (count n r : ℕ) → count < f (suc n) → IsLastBegun f count n r → IsLastBegun f count (suc n) r
not_later f count n r ends h = record {
  within = omega (arith, h.within);
  begun = h.begun;
  later = λ j after upto. elim (leb_tells j n) [
    | inl (eq, le) ↦ h.later j after le
    | inr (eq, lt) ↦ let is : j ≡ suc n = omega arith in rw is ends
  ];
}

pub last_begun : (f : ℕ → ℕ) (count n : ℕ) → IsLastBegun f count n (last_to (λ y. nat_le (f y) count) n)
last_begun f count zero = record { within = omega arith; begun = λ h. absurd (omega (arith, h)); later = λ j a b. absurd (omega (arith, a, b)) }
last_begun f count (suc n) = elim (leb_tells (f (suc n)) count) [
  | inl (eq, le) ↦ rw eq (record { within = omega arith; begun = λ h. le; later = λ j a b. absurd (omega (arith, a, b)) })
  | inr (eq, lt) ↦ rw eq (not_later f count n _ lt (last_begun f count n))
]

-- there is one such number
pub last_is : (f : ℕ → ℕ) (count n r k : ℕ) → IsLastBegun f count n r → 0 < k → k ≤ n → f k ≤ count → ((j : ℕ) → k < j → count < f j) → r ≡ k
last_is f count n r k h some within begun later = elim (leb_tells k r) [
  | inl (eq, le) ↦ elim (leb_tells r k) [
    | inl (eq2, le2) ↦ omega (arith, le, le2)
    | inr (eq2, lt) ↦ let some_r : 0 < r = omega arith in absurd (omega (arith, later r lt, h.begun some_r))
  ]
  | inr (eq, lt) ↦ absurd (omega (arith, h.later k lt within, begun))
]

-- the parts of a date that the calendar has are found again from its count
pub year_found : (y m d : ℕ) → 0 < y → y ≤ 9999 → IsCivilDate (pos y) m d → year_at (day_count (pos y) m d) ≡ y
unfolding year_at
year_found y m d some within civil =
    let count = day_count (pos y) m d in
    let f : ℕ → ℕ = λ n. day_count (pos n) 1 1 in
    last_is f count 9999 _ y (last_begun f count 9999) some within
    (omega (arith, day_count-day_of_year (pos y) m d civil.2.0, civil.2.0))
    (λ j after. day_count-lt_year (pos y) m d (pos j) 1 1 civil (omega arith) (omega (arith, signed_arith, after)))

pub month_found : (y m d : ℕ) → IsCivilDate (pos y) m d → month_at y (day_count (pos y) m d) ≡ m
unfolding month_at
month_found y m d civil =
    let count = day_count (pos y) m d in
    let f : ℕ → ℕ = λ n. day_count (pos y) n 1 in
    let one : 1 ≤ 1 = omega arith in
    last_is f count 12 _ m (last_begun f count 12) (omega (arith, civil.1.0)) civil.1.1
    (omega (arith, day_count-day (pos y) m d 1 civil.2.0 one, civil.2.0))
    (λ j after. day_count-lt_month (pos y) m d j 1 civil one after)

pub day_found : (y m d : ℕ) → IsCivilDate (pos y) m d → day_at y m (day_count (pos y) m d) ≡ d
day_found y m d civil =
    let one : 1 ≤ 1 = omega arith in
    omega (arith, day_count-day (pos y) m d 1 civil.2.0 one)

-- what a count finds: a date that the calendar has, whose count it is
pub record IsFound (y m d count : ℕ) : Type 0 where
  pub some : 0 < y
  pub most : y ≤ 9999
  pub civil : IsCivilDate (pos y) m d
  pub is : day_count (pos y) m d ≡ count

first_count : day_count (pos 1) 1 1 ≡ 3652791
first_count = day_count-early (pos 1) 10000 1 1 refl (omega arith) (omega arith) (omega arith)

-- the year that the count lies in
record IsInYear (y count : ℕ) : Type 0 where
  some : 0 < y
  most : y ≤ 9999
  begun : day_count (pos y) 1 1 ≤ count
  ends : count < day_count (pos y) 1 1 + days_in_year (pos y)

in_year : (count r : ℕ) → 3652791 ≤ count → count ≤ 7304849 → IsLastBegun (λ n. day_count (pos n) 1 1) count 9999 r → IsInYear r count
in_year count r low high h =
    let some : 0 < r = elim (leb_tells 1 r) [
      | inl (eq, le) ↦ omega (arith, le)
      | inr (eq, lt) ↦ absurd (omega (arith, lt, h.later 1 lt (omega arith), first_count))
    ] in
    let next : pos (r + 1) ≡ pos r +ℤ pos 1 = refl in
    let year = day_count-next_year (pos r) (pos (r + 1)) (omega (arith, signed_arith)) next in
    record {
      some = some;
      most = h.within;
      begun = h.begun some;
      ends = elim (leb_tells (r + 1) 9999) [
        | inl (eq, le) ↦ let after : r < r + 1 = omega arith in omega (arith, h.later (r + 1) after le, year)
        | inr (eq, lt) ↦ let last : r + 1 ≡ 10000 = omega (arith, lt, h.within) in omega (arith, rw last at year, day_count-end, high)
      ];
    }

record IsInMonth (y m count : ℕ) : Type 0 where
  some : 0 < m
  most : m ≤ 12
  begun : day_count (pos y) m 1 ≤ count
  ends : count < day_count (pos y) m 1 + days_in_month (pos y) m

december : (y count : ℕ) → count < day_count (pos y) 1 1 + days_in_year (pos y) → count < day_count (pos y) 12 1 + 31
december y count ends =
    let one : 1 ≤ 1 = omega arith in
    let thirty_one : 1 ≤ 31 = omega arith in
    omega (arith, ends, day_count-last_of_year (pos y), day_count-day (pos y) 12 31 1 thirty_one one)

in_month : (y count m : ℕ) → IsInYear y count → IsLastBegun (λ n. day_count (pos y) n 1) count 12 m → IsInMonth y m count
in_month y count m year h =
    let some : 0 < m = elim (leb_tells 1 m) [
      | inl (eq, le) ↦ omega (arith, le)
      | inr (eq, lt) ↦ absurd (omega (arith, lt, h.later 1 lt (omega arith), year.begun))
    ] in
    record {
      some = some;
      most = h.within;
      begun = h.begun some;
      ends = elim (leb_tells (m + 1) 12) [
        | inl (eq, le) ↦ let after : m < m + 1 = omega arith in omega (arith, h.later (m + 1) after le, day_count-next_month (pos y) m some)
        | inr (eq, lt) ↦ let last : m ≡ 12 = omega (arith, lt, h.within) in rw last (december y count year.ends)
      ];
    }

in_day : (y m count : ℕ) → IsInYear y count → IsInMonth y m count → IsFound y m (day_at y m count) count
in_day y m count year month =
    let one : 1 ≤ 1 = omega arith in
    let first : 1 ≤ day_at y m count = omega (arith, month.begun) in
    record {
      some = year.some;
      most = year.most;
      civil = ((omega (arith, signed_arith), omega (arith, signed_arith, year.most)), (month.some, month.most), (first, omega (arith, month.begun, month.ends)));
      is = omega (arith, day_count-day (pos y) m (day_at y m count) 1 first one, month.begun);
    }

pub found : (count : ℕ) → 3652791 ≤ count → count ≤ 7304849
    → IsFound (year_at count) (month_at (year_at count) count) (day_at (year_at count) (month_at (year_at count) count) count) count
unfolding year_at month_at
found count low high =
    let f : ℕ → ℕ = λ n. day_count (pos n) 1 1 in
    let year = in_year count (year_at count) low high (last_begun f count 9999) in
    let g : ℕ → ℕ = λ n. day_count (pos (year_at count)) n 1 in
    in_day (year_at count) (month_at (year_at count) count) count year (in_month (year_at count) count (month_at (year_at count) count) year (last_begun g count 12))
