-- Times of RFC 3339 in UTC: YYYY-MM-DDTHH:MM:SS, then nothing or a point and one to nine digits, then Z.
use Rattle.std.specs.Prelude.{min, int_lt, ℕ, ◌+◌, ◌-◌, ◌*◌, ◌^◌, ◌==◌, ◌&&◌, Bool, List, [], ◌∷◌, length, fold, slice_index, slice_range, nat_lt, nat_le, if◌then◌else◌, ℤ, pos, neg_ℤ, ◌<◌, ◌+ℤ◌, ◌*ℤ◌, Option, Some, None, option_and_then, option_map, ◌≡◌, zero, suc, ◌/◌, ◌%◌, ◌++◌, unsigned_abs, ◌-ℤ◌}
use Rattle.std.specs.List.{list_all}
use Rattle.jiff_core.specs.Calendar.{IsBetween, days_from_civil, days_in_month, day_count}
use Rattle.value_model.specs.declared.timestamp.Timestamp.{Timestamp}

-- a moment of the years 1 to 9999, to the nanosecond
pub record IsMoment (time : Timestamp) : Type 0 where
  pub seconds : IsBetween (neg_ℤ (pos 62135596800)) (pos 253402300799) time.seconds
  pub nanos : time.nanos < 1000000000

-- the day number of a date of those years
abbrev pub IsDay : ℤ → Type 0
IsDay day = IsBetween (neg_ℤ (pos 719162)) (pos 2932896) day

-- the byte is a decimal digit of ASCII
abbrev pub is_digit : ℕ → Bool
is_digit byte = nat_le 48 byte && nat_le byte 57

-- the number that two digits spell
abbrev pub pair_of : ℕ → ℕ → Option ℕ
pair_of tens ones = if is_digit tens && is_digit ones then Some (10 * (tens - 48) + (ones - 48)) else None

-- the two digits at this place
abbrev pub pair_at : List ℕ → ℕ → Option ℕ
pair_at text i = pair_of (slice_index text i) (slice_index text (i + 1))

-- the calendar has this day, and its year is one of 1 to 9999
abbrev pub is_date : ℕ → ℕ → ℕ → Bool
is_date y m d = nat_le 1 y && nat_le 1 m && nat_le m 12 && nat_le 1 d && nat_le d (days_in_month (pos y) m)

-- the day number of a date that the calendar has
abbrev pub date_of : ℕ → ℕ → ℕ → Option ℤ
date_of y m d = if is_date y m d then Some (days_from_civil (pos y) m d) else None

-- the day number of the date that the first ten bytes spell: 0 for 1970-01-01
unfoldable pub day_of : List ℕ → Option ℤ
day_of text = option_and_then (λ century. option_and_then (λ year. option_and_then (λ month. option_and_then (λ day.
    date_of (100 * century + year) month day) (pair_at text 8)) (pair_at text 5)) (pair_at text 2)) (pair_at text 0)

-- the second of the day that hour, minute and second make
abbrev pub clock_of : ℕ → ℕ → ℕ → Option ℕ
clock_of h m s = if nat_lt h 24 && nat_lt m 60 && nat_lt s 60 then Some (3600 * h + 60 * m + s) else None

-- the second of the day that the time of day behind the `T` spells
unfoldable pub second_of : List ℕ → Option ℕ
second_of text = option_and_then (λ h. option_and_then (λ m. option_and_then (λ s. clock_of h m s) (pair_at text 17)) (pair_at text 14)) (pair_at text 11)

-- the number that digits spell
abbrev pub number_of : List ℕ → ℕ
number_of digits = fold (λ n byte. 10 * n + (byte - 48)) 0 digits

-- the nanoseconds that a fraction spells: nothing, or a point and one to nine digits
abbrev pub nanos_of : List ℕ → Option ℕ
nanos_of [] = Some 0
nanos_of (mark ∷ digits) = if (mark == 46) && nat_le 1 (length digits) && nat_le (length digits) 9 && list_all is_digit digits
    then Some (number_of digits * 10 ^ (9 - length digits)) else None

-- what stands between the nineteenth byte and the last one
abbrev pub fraction_in : List ℕ → List ℕ
fraction_in text = slice_range text 19 (length text - 1)

-- at least twenty bytes with `-`, `-`, `T`, `:` and `:` in their places, and `Z` at the end
abbrev pub has_marks : List ℕ → Bool
has_marks text = nat_le 20 (length text) && (slice_index text 4 == 45) && (slice_index text 7 == 45) && (slice_index text 10 == 84)
    && (slice_index text 13 == 58) && (slice_index text 16 == 58) && (slice_index text (length text - 1) == 90)

-- that nanosecond of that second of that day
abbrev pub moment : ℤ → ℕ → ℕ → Timestamp
moment day second nanos = record { seconds = (day *ℤ pos 86400) +ℤ pos second; nanos = nanos }

-- the moment that a text spells, where it is of the form
unfoldable pub time_of : List ℕ → Option Timestamp
time_of text = if has_marks text
    then option_and_then (λ day. option_and_then (λ second. option_map (moment day second) (nanos_of (fraction_in text))) (second_of text)) (day_of text)
    else None

-- the nanoseconds since 1970-01-01T00:00:00Z
abbrev pub instant : Timestamp → ℤ
instant t = (t.seconds *ℤ pos 1000000000) +ℤ pos t.nanos

-- The printed form, with 0, 3, 6 or 9 digits of the second's fraction.

-- the last two digits, the last three, and the last four of a number
abbrev pub two : ℕ → List ℕ
two n = (48 + n / 10) ∷ (48 + n % 10) ∷ []

abbrev pub three : ℕ → List ℕ
three n = (48 + n / 100) ∷ two (n % 100)

abbrev pub four : ℕ → List ℕ
four n = two (n / 100) ++ two (n % 100)

-- the greatest number up to n that passes the test; 0 where no greater one does
abbrev pub last_to : (ℕ → Bool) → ℕ → ℕ
last_to test zero = 0
last_to test (suc n) = if test (suc n) then suc n else last_to test n

-- The date of a day, which is given by how many days it is behind 1 January of the year -10000: the last year that has
-- begun, the last month of it that has begun, and how many of that month's days have.
unfoldable pub year_at : ℕ → ℕ
year_at count = last_to (λ y. nat_le (day_count (pos y) 1 1) count) 9999

unfoldable pub month_at : ℕ → ℕ → ℕ
month_at y count = last_to (λ m. nat_le (day_count (pos y) m 1) count) 12

abbrev pub day_at : ℕ → ℕ → ℕ → ℕ
day_at y m count = count + 1 - day_count (pos y) m 1

abbrev pub ymd_text : ℕ → ℕ → ℕ → List ℕ
ymd_text y m d = four y ++ 45 ∷ (two m ++ 45 ∷ two d)

abbrev pub counted_text : ℕ → List ℕ
counted_text count = ymd_text (year_at count) (month_at (year_at count) count) (day_at (year_at count) (month_at (year_at count) count) count)

-- the same of a day number, 0 being 1970-01-01
unfoldable pub date_text : ℤ → List ℕ
date_text day = counted_text (unsigned_abs (day +ℤ pos 4371953))

-- hour, minute and second of a second of the day
abbrev pub clock_text : ℕ → List ℕ
clock_text s = two (s / 3600) ++ 58 ∷ (two (s % 3600 / 60) ++ 58 ∷ two (s % 60))

-- a point and the fewest of three, six and nine digits that keep the nanoseconds, or nothing
unfoldable pub fraction_text : ℕ → List ℕ
fraction_text n =
    if n == 0 then []
    else if n % 1000000 == 0 then 46 ∷ three (n / 1000000)
    else if n % 1000 == 0 then 46 ∷ (three (n / 1000000) ++ three (n / 1000 % 1000))
    else 46 ∷ (three (n / 1000000) ++ (three (n / 1000 % 1000) ++ three (n % 1000)))

-- the seconds since 0001-01-01T00:00:00Z
abbrev pub since_first : Timestamp → ℕ
since_first t = unsigned_abs (t.seconds +ℤ pos 62135596800)

-- the day number of a time
abbrev pub day_in : Timestamp → ℤ
day_in t = pos (since_first t / 86400) -ℤ pos 719162

-- the text of a moment
unfoldable pub moment_text : Timestamp → List ℕ
moment_text t = date_text (day_in t) ++ 84 ∷ (clock_text (since_first t % 86400) ++ (fraction_text t.nanos ++ 90 ∷ []))

-- a time of the years 1 to 9999 as it is, and any other as the first or the last of them
abbrev pub nearest : Timestamp → Timestamp
nearest t =
    if int_lt t.seconds (neg_ℤ (pos 62135596800)) then record { seconds = neg_ℤ (pos 62135596800); nanos = 0 }
    else if int_lt (pos 253402300799) t.seconds then record { seconds = pos 253402300799; nanos = 999999999 }
    else record { seconds = t.seconds; nanos = min t.nanos 999999999 }

unfoldable pub time_text : Timestamp → List ℕ
time_text t = moment_text (nearest t)

-- what is printed of a moment reads back as it
abbrev pub TimesReadBack : Type 0
TimesReadBack = (t : Timestamp) → IsMoment t → time_of (time_text t) ≡ Some t
