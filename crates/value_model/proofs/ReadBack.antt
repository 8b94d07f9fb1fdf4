-- A printed time reads back.
use Rattle.std.proofs.Common.{◌≡◌, ◌∙◌, ℕ, suc, ◌+◌, ◌-◌, ◌*◌, ◌/◌, ◌%◌, ◌<◌, ◌≤◌, true, List, [], ◌∷◌, ◌++◌, length, take, get_or, Some, inl, inr, refl, ap, sym, arith, ℤ, pos, negsuc, neg_ℤ, unsigned_abs, ◌+ℤ◌, ◌-ℤ◌, ◌≤ℤ◌, length-append}
use Rattle.std.specs.Prelude.{fold}
use Rattle.std.specs.List.{list_all}
use Rattle.std.proofs.Math.Seq.{get_or-append_seam, take-append_seam}
use Rattle.std.specs.Prelude.{int_lt, false}
use Rattle.std.proofs.lemmas.Bool.{le-leb, lt-leb}
use Rattle.std.proofs.lemmas.Bool.Decides.{eqb_tells}
use Rattle.jiff_core.specs.Calendar.{IsCivilDate, days_from_civil, day_count}
use Rattle.jiff_core.proofs.CalendarLemmas.{days_in_month_bounds, days_from_civil-day_count}
use Rattle.jiff_core.proofs.SignedLemmas.{signed_arith}
use borrow.Author.Differences.{up, down}
use Rattle.value_model.proofs.Dates.{found}
use Rattle.value_model.proofs.Counted.{found as found_date}
use Rattle.value_model.specs.declared.timestamp.Timestamp.{Timestamp}
use Rattle.value_model.specs.Time.{moment_text, nearest, is_digit, pair_of, day_of, date_of, second_of, clock_of, nanos_of, fraction_in, has_marks, moment, time_of, IsMoment}
use Rattle.value_model.specs.Time.{two, three, ymd_text, clock_text, fraction_text, year_at, month_at, day_at, date_text, since_first, time_text}

digit_is : (d : ℕ) → d ≤ 9 → is_digit (48 + d) ≡ true
digit_is d small = let low : 48 ≤ 48 + d = omega arith in let high : 48 + d ≤ 57 = omega arith in rw (le-leb 48 (48 + d) low, le-leb (48 + d) 57 high) refl

pair_is : (n : ℕ) → n < 100 → pair_of (48 + n / 10) (48 + n % 10) ≡ Some n
pair_is n small =
    let tens : n / 10 ≤ 9 = omega arith in
    let ones : n % 10 ≤ 9 = omega arith in
    rw (digit_is (n / 10) tens, digit_is (n % 10) ones) (ap Some (omega arith))

marked : (text : List ℕ) → 20 ≤ length text → get_or text 4 0 ≡ 45 → get_or text 7 0 ≡ 45 → get_or text 10 0 ≡ 84 → get_or text 13 0 ≡ 58 → get_or text 16 0 ≡ 58
    → get_or text (length text - 1) 0 ≡ 90 → has_marks text ≡ true
marked text long a b c d e last = rw (le-leb 20 (length text) long, a, b, c, d, e, last) refl

last_of : (xs : List ℕ) (z : ℕ) → get_or (xs ++ z ∷ []) (length (xs ++ z ∷ []) - 1) 0 ≡ z
last_of xs z =
    let last : length (xs ++ z ∷ []) - 1 ≡ length xs = omega (arith, length-append xs (z ∷ [])) in
    rw last (get_or-append_seam xs z [] 0)

front_of : (n : ℕ) (xs ys : List ℕ) → n ≡ length xs → take n (xs ++ ys) ≡ xs
front_of n xs ys is = rw is (take-append_seam xs ys)

-- the parts of a text that is written so
pub shape_marks : (a b c d e f g h i j k l m n : ℕ) (fraction : List ℕ)
    → has_marks (a ∷ b ∷ c ∷ d ∷ 45 ∷ e ∷ f ∷ 45 ∷ g ∷ h ∷ 84 ∷ i ∷ j ∷ 58 ∷ k ∷ l ∷ 58 ∷ m ∷ n ∷ (fraction ++ 90 ∷ [])) ≡ true
shape_marks a b c d e f g h i j k l m n fraction =
    let text = a ∷ b ∷ c ∷ d ∷ 45 ∷ e ∷ f ∷ 45 ∷ g ∷ h ∷ 84 ∷ i ∷ j ∷ 58 ∷ k ∷ l ∷ 58 ∷ m ∷ n ∷ (fraction ++ 90 ∷ []) in
    let front = a ∷ b ∷ c ∷ d ∷ 45 ∷ e ∷ f ∷ 45 ∷ g ∷ h ∷ 84 ∷ i ∷ j ∷ 58 ∷ k ∷ l ∷ 58 ∷ m ∷ n ∷ fraction in
    let long : 20 ≤ length text = omega (arith, length-append fraction (90 ∷ [])) in
    let last : get_or text (length text - 1) 0 ≡ 90 = last_of front 90 in
    marked text long refl refl refl refl refl last

pub shape_fraction : (a b c d e f g h i j k l m n : ℕ) (fraction : List ℕ)
    → fraction_in (a ∷ b ∷ c ∷ d ∷ 45 ∷ e ∷ f ∷ 45 ∷ g ∷ h ∷ 84 ∷ i ∷ j ∷ 58 ∷ k ∷ l ∷ 58 ∷ m ∷ n ∷ (fraction ++ 90 ∷ [])) ≡ fraction
shape_fraction a b c d e f g h i j k l m n fraction =
    front_of _ fraction (90 ∷ []) (omega (arith, length-append fraction (90 ∷ [])))

pub shape_day : (century year m d : ℕ) (rest : List ℕ) → century < 100 → year < 100 → m < 100 → d < 100
    → day_of (two century ++ (two year ++ 45 ∷ (two m ++ 45 ∷ (two d ++ rest)))) ≡ date_of (100 * century + year) m d
unfolding day_of
shape_day century year m d rest c_small y_small m_small d_small = rw (pair_is century c_small, pair_is year y_small, pair_is m m_small, pair_is d d_small) refl

pub shape_second : (a b c d e f g h hour minute second : ℕ) (rest : List ℕ) → hour < 100 → minute < 100 → second < 100
    → second_of (a ∷ b ∷ c ∷ d ∷ 45 ∷ e ∷ f ∷ 45 ∷ g ∷ h ∷ 84 ∷ (two hour ++ 58 ∷ (two minute ++ 58 ∷ (two second ++ rest)))) ≡ clock_of hour minute second
unfolding second_of
shape_second a b c d e f g h hour minute second rest h_small m_small s_small = rw (pair_is hour h_small, pair_is minute m_small, pair_is second s_small) refl

-- a second of the day is that of its clock
clock_is : (s : ℕ) → s < 86400 → clock_of (s / 3600) (s % 3600 / 60) (s % 60) ≡ Some s
clock_is s small =
    let hour : s / 3600 < 24 = omega arith in
    let minute : s % 3600 / 60 < 60 = omega arith in
    let second : s % 60 < 60 = omega arith in
    rw (le-leb (suc (s / 3600)) 24 hour, le-leb (suc (s % 3600 / 60)) 60 minute, le-leb (suc (s % 60)) 60 second) (ap Some (omega arith))

-- three digits, and what follows them
abbrev add_digit : ℕ → ℕ → ℕ
add_digit n byte = 10 * n + (byte - 48)

three_number : (s k : ℕ) (rest : List ℕ) → k < 1000 → fold add_digit s (three k ++ rest) ≡ fold add_digit (1000 * s + k) rest
three_number s k rest small =
    ap (λ (n : ℕ). fold add_digit n rest) (omega arith)

three_digits : (k : ℕ) (rest : List ℕ) → k < 1000 → list_all is_digit (three k ++ rest) ≡ list_all is_digit rest
three_digits k rest small =
    let hundreds : k / 100 ≤ 9 = omega arith in
    let tens : k % 100 / 10 ≤ 9 = omega arith in
    let ones : k % 100 % 10 ≤ 9 = omega arith in
    rw (digit_is (k / 100) hundreds, digit_is (k % 100 / 10) tens, digit_is (k % 100 % 10) ones) refl

fraction_3 : (a n : ℕ) → a < 1000 → n ≡ a * 1000000 → nanos_of (46 ∷ three a) ≡ Some n
fraction_3 a n small is =
    rw (three_digits a [] small, three_number 0 a [] small) (ap Some (omega (arith, is)))

fraction_6 : (a b n : ℕ) → a < 1000 → b < 1000 → n ≡ a * 1000000 + b * 1000 → nanos_of (46 ∷ (three a ++ three b)) ≡ Some n
fraction_6 a b n a_small b_small is =
    rw (three_digits a (three b) a_small, three_digits b [] b_small, three_number 0 a (three b) a_small, three_number (1000 * 0 + a) b [] b_small) (ap Some (omega (arith, is)))

fraction_9 : (a b c n : ℕ) → a < 1000 → b < 1000 → c < 1000 → n ≡ a * 1000000 + b * 1000 + c → nanos_of (46 ∷ (three a ++ (three b ++ three c))) ≡ Some n
fraction_9 a b c n a_small b_small c_small is =
    rw (
      three_digits a (three b ++ three c) a_small,
      three_digits b (three c) b_small,
      three_digits c [] c_small,
      three_number 0 a (three b ++ three c) a_small,
      three_number (1000 * 0 + a) b (three c) b_small,
      three_number (1000 * (1000 * 0 + a) + b) c [] c_small,
    ) (ap Some (omega (arith, is)))

pub fraction_is : (n : ℕ) → n < 1000000000 → nanos_of (fraction_text n) ≡ Some n
unfolding fraction_text
fraction_is n small =
    let a_small : n / 1000000 < 1000 = omega arith in
    let b_small : n / 1000 % 1000 < 1000 = omega arith in
    let c_small : n % 1000 < 1000 = omega arith in
    elim (eqb_tells n 0) [
      | inl (eq, is) ↦ rw eq (ap Some (sym is))
      | inr (eq, some) ↦ elim (eqb_tells (n % 1000000) 0) [
        | inl (eq3, is3) ↦ rw (eq, eq3) (fraction_3 (n / 1000000) n a_small (omega arith))
        | inr (eq3, some3) ↦ elim (eqb_tells (n % 1000) 0) [
          | inl (eq6, is6) ↦ rw (eq, eq3, eq6) (fraction_6 (n / 1000000) (n / 1000 % 1000) n a_small b_small (omega arith))
          | inr (eq6, some6) ↦ rw (eq, eq3, eq6) (fraction_9 (n / 1000000) (n / 1000 % 1000) (n % 1000) n a_small b_small c_small (omega arith))
        ]
      ]
    ]

-- the same of the text that is written of a time's parts
written_marks : (y m d s : ℕ) (fraction : List ℕ) → has_marks (ymd_text y m d ++ 84 ∷ (clock_text s ++ (fraction ++ 90 ∷ []))) ≡ true
written_marks y m d s fraction =
    shape_marks (48 + y / 100 / 10) (48 + y / 100 % 10) (48 + y % 100 / 10) (48 + y % 100 % 10) (48 + m / 10) (48 + m % 10) (48 + d / 10) (48 + d % 10)
    (48 + s / 3600 / 10) (48 + s / 3600 % 10) (48 + s % 3600 / 60 / 10) (48 + s % 3600 / 60 % 10) (48 + s % 60 / 10) (48 + s % 60 % 10) fraction

written_fraction : (y m d s : ℕ) (fraction : List ℕ) → fraction_in (ymd_text y m d ++ 84 ∷ (clock_text s ++ (fraction ++ 90 ∷ []))) ≡ fraction
written_fraction y m d s fraction =
    shape_fraction (48 + y / 100 / 10) (48 + y / 100 % 10) (48 + y % 100 / 10) (48 + y % 100 % 10) (48 + m / 10) (48 + m % 10) (48 + d / 10) (48 + d % 10)
    (48 + s / 3600 / 10) (48 + s / 3600 % 10) (48 + s % 3600 / 60 / 10) (48 + s % 3600 / 60 % 10) (48 + s % 60 / 10) (48 + s % 60 % 10) fraction

written_second : (y m d s : ℕ) (tail : List ℕ) → s < 86400 → second_of (ymd_text y m d ++ 84 ∷ (clock_text s ++ tail)) ≡ Some s
written_second y m d s tail small =
    let hour : s / 3600 < 100 = omega arith in
    let minute : s % 3600 / 60 < 100 = omega arith in
    let second : s % 60 < 100 = omega arith in
    shape_second (48 + y / 100 / 10) (48 + y / 100 % 10) (48 + y % 100 / 10) (48 + y % 100 % 10) (48 + m / 10) (48 + m % 10) (48 + d / 10) (48 + d % 10)
    (s / 3600) (s % 3600 / 60) (s % 60) tail hour minute second
    ∙ clock_is s small

written_day : (y m d : ℕ) (day : ℤ) (tail : List ℕ) → 0 < y → y ≤ 9999 → IsCivilDate (pos y) m d → days_from_civil (pos y) m d ≡ day → day_of (ymd_text y m d ++ tail) ≡ Some day
written_day y m d day tail some most civil is =
    let century : y / 100 < 100 = omega arith in
    let year : y % 100 < 100 = omega arith in
    let whole : 100 * (y / 100) + y % 100 ≡ y = omega arith in
    let days = days_in_month_bounds (pos y) m in
    let month : m < 100 = omega (arith, civil.1.1) in
    let day_small : d < 100 = omega (arith, civil.2.1, days.0) in
    shape_day (y / 100) (y % 100) m d tail century year month day_small
    ∙ (ap (λ (n : ℕ). date_of n m d) whole ∙ sym (found y m d day some civil.1 civil.2 (sym is)))

-- the parts of a time
pub parts_read : (y m d s nanos : ℕ) (day : ℤ) → 0 < y → y ≤ 9999 → IsCivilDate (pos y) m d → days_from_civil (pos y) m d ≡ day → s < 86400 → nanos < 1000000000
    → time_of (ymd_text y m d ++ 84 ∷ (clock_text s ++ (fraction_text nanos ++ 90 ∷ []))) ≡ Some (moment day s nanos)
unfolding time_of
parts_read y m d s nanos day some most civil is s_small nanos_small =
    let tail = fraction_text nanos ++ 90 ∷ [] in
    rw (
      written_marks y m d s (fraction_text nanos),
      written_day y m d day (84 ∷ (clock_text s ++ tail)) some most civil is,
      written_second y m d s tail s_small,
      written_fraction y m d s (fraction_text nanos),
      fraction_is nanos nanos_small,
    ) refl

is_positive : (z : ℤ) → pos 0 ≤ℤ z → pos (unsigned_abs z) ≡ z
is_positive (pos n) some = refl
is_positive (negsuc n) some = absurd (omega (arith, signed_arith, some))

since_is : (z : ℤ) → neg_ℤ (pos 62135596800) ≤ℤ z → pos (unsigned_abs (z +ℤ pos 62135596800)) ≡ z +ℤ pos 62135596800
since_is z low =
    let sum : ℤ = z +ℤ pos 62135596800 in
    let some : pos 0 ≤ℤ sum = omega (arith, signed_arith, low) in
    is_positive sum some

count_is : (n : ℕ) → unsigned_abs ((pos n -ℤ pos 719162) +ℤ pos 4371953) ≡ n + 3652791
count_is n =
    let sum : ℤ = (pos n -ℤ pos 719162) +ℤ pos 4371953 in
    let some : pos 0 ≤ℤ sum = omega (arith, signed_arith) in
    omega (arith, signed_arith, is_positive sum some)

day_is : (z : ℤ) (n count : ℕ) → up z + 4371953 ≡ down z + count → count ≡ n + 3652791 → z ≡ pos n -ℤ pos 719162
day_is z n count of_count is = omega (arith, signed_arith, of_count, is)

-- a time is the second of the day of the seconds since the first
moment_is : (t : Timestamp) (since : ℕ) → pos since ≡ t.seconds +ℤ pos 62135596800 → moment (pos (since / 86400) -ℤ pos 719162) (since % 86400) t.nanos ≡ t
moment_is t since is =
    let whole : 86400 * (since / 86400) + since % 86400 ≡ since = omega arith in
    ap (λ (z : ℤ). record t { seconds = z }) (omega (arith, signed_arith, whole, is))

moment_read : (t : Timestamp) → IsMoment t → time_of (moment_text t) ≡ Some t
unfolding moment_text date_text
moment_read t holds =
    let since : ℕ = since_first t in
    let positive = since_is t.seconds holds.seconds.0 in
    let range : since < 315537897600 = omega (arith, signed_arith, positive, holds.seconds.1) in
    let count : ℕ = since / 86400 + 3652791 in
    let low : 3652791 ≤ count = omega arith in
    let high : count ≤ 7304849 = omega (arith, range) in
    let date = found_date count low high in
    let y = year_at count in
    let m = month_at (year_at count) count in
    let d = day_at (year_at count) (month_at (year_at count) count) count in
    let second : since % 86400 < 86400 = omega arith in
    let days = days_from_civil-day_count (pos y) m d in
    rw (count_is (since / 86400))
    (parts_read y m d (since % 86400) t.nanos (pos (since / 86400) -ℤ pos 719162) date.some date.most date.civil
    (day_is (days_from_civil (pos y) m d) (since / 86400) (day_count (pos y) m d) days date.is) second holds.nanos
    ∙ ap Some (moment_is t since positive))

not_below : (a b : ℤ) → b ≤ℤ a → int_lt a b ≡ false
not_below (pos a) (pos b) h = lt-leb (suc a) b (omega (arith, signed_arith, h))
not_below (pos a) (negsuc b) h = refl
not_below (negsuc a) (pos b) h = absurd (omega (arith, signed_arith, h))
not_below (negsuc a) (negsuc b) h = lt-leb (suc b) a (omega (arith, signed_arith, h))

-- a moment is the nearest to itself
nearest_is : (t : Timestamp) → IsMoment t → nearest t ≡ t
nearest_is t holds =
    rw (not_below t.seconds (neg_ℤ (pos 62135596800)) holds.seconds.0, not_below (pos 253402300799) t.seconds holds.seconds.1)
    (ap (λ (n : ℕ). record t { nanos = n }) (omega (arith, holds.nanos)))

pub time_read : (t : Timestamp) → IsMoment t → time_of (time_text t) ≡ Some t
unfolding time_text
time_read t holds = ap (λ (m : Timestamp). time_of (moment_text m)) (nearest_is t holds) ∙ moment_read t holds
