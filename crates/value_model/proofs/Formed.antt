-- A text is read as a time exactly where it is of the form.
use Rattle.std.proofs.Common.{◌≡◌, ◌∙◌, ℕ, suc, ◌+◌, ◌-◌, ◌*◌, ◌/◌, ◌%◌, ◌<◌, ◌≤◌, ◌&&◌, Bool, true, false, cond, List, [], ◌∷◌, ◌++◌, length, take, drop, get_or, Option, Some, None, option_and_then, option_map, nat_le, nat_lt, refl, ap, sym, arith, ℤ, pos, length-drop, get_or-drop, take-append-drop}
use Rattle.std.proofs.lemmas.List.{drop_more, drop_all}
use Rattle.std.proofs.lemmas.Bool.{eqb-true, leb-true, ltb-true, le-leb}
use Rattle.jiff_core.specs.Calendar.{days_from_civil, days_in_month}
use Rattle.jiff_core.proofs.CalendarLemmas.{days_in_month_bounds}
use Rattle.value_model.specs.declared.timestamp.Timestamp.{Timestamp}
use Rattle.value_model.specs.Time.{is_digit, is_date, pair_of, pair_at, day_of, date_of, second_of, clock_of, nanos_of, fraction_in, has_marks, moment, time_of, two, ymd_text}
use Rattle.value_model.specs.TimeForm.{SpellsTime, TimesHaveTheirForm, hms_text}
use Rattle.value_model.proofs.ReadBack.{shape_marks, shape_fraction, shape_day, shape_second}

-- ---- what an answer tells

none_some : {A : Type 0} (x : A) → None ≡ Some x → ⊥
none_some x is = cc

same_some : {A : Type 0} (x y : A) → Some x ≡ Some y → x ≡ y
same_some x y is = cc

told : {A B : Type 0} (f : A → Option B) (o : Option A) (y : B) → option_and_then f o ≡ Some y → (x : A) × (o ≡ Some x) × (f x ≡ Some y)
told f None y is = absurd (none_some y is)
told f (Some x) y is = (x, refl, is)

mapped : {A B : Type 0} (f : A → B) (o : Option A) (y : B) → option_map f o ≡ Some y → (x : A) × (o ≡ Some x) × (f x ≡ y)
mapped f None y is = absurd (none_some y is)
mapped f (Some x) y is = (x, refl, same_some (f x) y is)

chosen : {A : Type 0} (b : Bool) (o : Option A) (y : A) → cond b o None ≡ Some y → (b ≡ true) × (o ≡ Some y)
chosen true o y is = (refl, is)
chosen false o y is = absurd (none_some y is)

both : (a b : Bool) → (a && b) ≡ true → (a ≡ true) × (b ≡ true)
both true b is = (refl, is)
both false b is = cc

-- ---- two digits

digit : (byte : ℕ) → is_digit byte ≡ true → (48 ≤ byte) × (byte ≤ 57)
digit byte is = let parts = both (nat_le 48 byte) (nat_le byte 57) is in (leb-true 48 byte parts.0, leb-true byte 57 parts.1)

digits : (tens ones n : ℕ) → pair_of tens ones ≡ Some n → (n < 100) × (tens ≡ 48 + n / 10) × (ones ≡ 48 + n % 10)
digits tens ones n is =
    let c = chosen (is_digit tens && is_digit ones) (Some (10 * (tens - 48) + (ones - 48))) n is in
    let parts = both (is_digit tens) (is_digit ones) c.0 in
    let a = digit tens parts.0 in
    let b = digit ones parts.1 in
    let sum = same_some (10 * (tens - 48) + (ones - 48)) n c.1 in
    (omega (arith, a.0, a.1, b.0, b.1, sum), omega (arith, a.0, a.1, b.0, b.1, sum), omega (arith, a.0, a.1, b.0, b.1, sum))

-- ---- the bytes of a text one by one

bytes_of : (text : List ℕ) → 19 ≤ length text
    → text ≡ get_or text 0 0 ∷ get_or text 1 0 ∷ get_or text 2 0 ∷ get_or text 3 0 ∷ get_or text 4 0 ∷ get_or text 5 0 ∷ get_or text 6 0 ∷ get_or text 7 0 ∷ get_or text 8 0 ∷ get_or text 9 0 ∷ get_or text 10 0 ∷ get_or text 11 0 ∷ get_or text 12 0 ∷ get_or text 13 0 ∷ get_or text 14 0 ∷ get_or text 15 0 ∷ get_or text 16 0 ∷ get_or text 17 0 ∷ get_or text 18 0 ∷ drop 19 text
bytes_of text long =
    let more : (i : ℕ) (rest : List ℕ) → i < 19 → drop (i + 1) text ≡ rest → drop i text ≡ get_or text i 0 ∷ rest = λ i rest below is. drop_more text i 0 (omega arith) ∙ ap (λ r. get_or text i 0 ∷ r) is in
    more 0 _ (omega arith) (more 1 _ (omega arith) (more 2 _ (omega arith) (more 3 _ (omega arith) (more 4 _ (omega arith) (more 5 _ (omega arith) (more 6 _ (omega arith) (more 7 _ (omega arith) (more 8 _ (omega arith) (more 9 _ (omega arith) (more 10 _ (omega arith) (more 11 _ (omega arith) (more 12 _ (omega arith) (more 13 _ (omega arith) (more 14 _ (omega arith) (more 15 _ (omega arith) (more 16 _ (omega arith) (more 17 _ (omega arith) (more 18 _ (omega arith) refl))))))))))))))))))

-- the fraction, and the `Z` behind it
behind : (text : List ℕ) → 20 ≤ length text → get_or text (length text - 1) 0 ≡ 90 → drop 19 text ≡ fraction_in text ++ 90 ∷ []
behind text long last =
    let n : ℕ = length text - 1 - 19 in
    let rest : List ℕ = drop 19 text in
    let many : length rest ≡ n + 1 = omega (arith, length-drop 19 text) in
    let place : 19 + n ≡ length text - 1 = omega arith in
    let z : get_or rest n 0 ≡ 90 = get_or-drop 19 text n 0 ∙ ap (λ i. get_or text i 0) place ∙ last in
    let end : drop n rest ≡ 90 ∷ [] = drop_more rest n 0 (omega (arith, many)) ∙ (λ i. z i ∷ drop_all (n + 1) rest (omega (arith, many)) i) in
    sym (take-append-drop n rest) ∙ ap (λ r. take n rest ++ r) end

-- ---- from what is read to the parts

date_told : (y m d : ℕ) (day : ℤ) → date_of y m d ≡ Some day → (is_date y m d ≡ true) × (day ≡ days_from_civil (pos y) m d)
date_told y m d day is = let c = chosen (is_date y m d) (Some (days_from_civil (pos y) m d)) day is in (c.0, sym (same_some (days_from_civil (pos y) m d) day c.1))

clock_told : (h m s n : ℕ) → clock_of h m s ≡ Some n → ((h < 24) × (m < 60) × (s < 60)) × (n ≡ 3600 * h + 60 * m + s)
clock_told h m s n is =
    let c = chosen (nat_lt h 24 && nat_lt m 60 && nat_lt s 60) (Some (3600 * h + 60 * m + s)) n is in
    let parts = both _ _ c.0 in
    let front = both _ _ parts.0 in
    ((ltb-true h 24 front.0, ltb-true m 60 front.1, ltb-true s 60 parts.1), sym (same_some (3600 * h + 60 * m + s) n c.1))

record Marks (text : List ℕ) : Type 0 where
  long : 20 ≤ length text
  a : get_or text 4 0 ≡ 45
  b : get_or text 7 0 ≡ 45
  c : get_or text 10 0 ≡ 84
  d : get_or text 13 0 ≡ 58
  e : get_or text 16 0 ≡ 58
  last : get_or text (length text - 1) 0 ≡ 90

marks_told : (text : List ℕ) → has_marks text ≡ true → Marks text
marks_told text is =
    let u = both _ _ is in
    let t = both _ _ u.0 in
    let s = both _ _ t.0 in
    let r = both _ _ s.0 in
    let q = both _ _ r.0 in
    let p = both _ _ q.0 in
    record {
      long = leb-true 20 (length text) p.0;
      a = eqb-true (get_or text 4 0) 45 p.1;
      b = eqb-true (get_or text 7 0) 45 q.1;
      c = eqb-true (get_or text 10 0) 84 r.1;
      d = eqb-true (get_or text 13 0) 58 s.1;
      e = eqb-true (get_or text 16 0) 58 t.1;
      last = eqb-true (get_or text (length text - 1) 0) 90 u.1;
    }

-- the text of these digits, marks and fraction
spelled : (text fraction : List ℕ) (c n m d h i s : ℕ) → Marks text → drop 19 text ≡ fraction ++ 90 ∷ []
    → (get_or text 0 0 ≡ 48 + c / 10) × (get_or text 1 0 ≡ 48 + c % 10) → (get_or text 2 0 ≡ 48 + n / 10) × (get_or text 3 0 ≡ 48 + n % 10)
    → (get_or text 5 0 ≡ 48 + m / 10) × (get_or text 6 0 ≡ 48 + m % 10) → (get_or text 8 0 ≡ 48 + d / 10) × (get_or text 9 0 ≡ 48 + d % 10)
    → (get_or text 11 0 ≡ 48 + h / 10) × (get_or text 12 0 ≡ 48 + h % 10) → (get_or text 14 0 ≡ 48 + i / 10) × (get_or text 15 0 ≡ 48 + i % 10)
    → (get_or text 17 0 ≡ 48 + s / 10) × (get_or text 18 0 ≡ 48 + s % 10)
    → text ≡ two c ++ (two n ++ 45 ∷ (two m ++ 45 ∷ (two d ++ 84 ∷ (hms_text h i s ++ (fraction ++ 90 ∷ [])))))
spelled text fraction c n m d h i s marks rest cs ns ms ds hs is ss =
    bytes_of text (omega (arith, marks.long))
    ∙ (λ k. cs.0 k ∷ cs.1 k ∷ ns.0 k ∷ ns.1 k ∷ marks.a k ∷ ms.0 k ∷ ms.1 k ∷ marks.b k ∷ ds.0 k ∷ ds.1 k ∷ marks.c k ∷ hs.0 k ∷ hs.1 k ∷ marks.d k ∷ is.0 k ∷ is.1 k ∷ marks.e k ∷ ss.0 k ∷ ss.1 k ∷ rest k)

year_text : (c n m d : ℕ) → c < 100 → n < 100 → (tail : List ℕ) → two c ++ (two n ++ 45 ∷ (two m ++ 45 ∷ (two d ++ tail))) ≡ ymd_text (100 * c + n) m d ++ tail
year_text c n m d c_small n_small tail =
    let century : (100 * c + n) / 100 ≡ c = omega arith in
    let year : (100 * c + n) % 100 ≡ n = omega arith in
    λ k. two (sym century k) ++ (two (sym year k) ++ 45 ∷ (two m ++ 45 ∷ (two d ++ tail)))

to_parts : (text : List ℕ) (time : Timestamp) → time_of text ≡ Some time → SpellsTime text time
unfolding time_of day_of second_of
to_parts text time is =
    let read = chosen (has_marks text) _ time is in
    let marks = marks_told text read.0 in
    let day = told _ (day_of text) time read.1 in
    let second = told _ (second_of text) time day.2 in
    let nanos = mapped _ (nanos_of (fraction_in text)) time second.2 in
    let century = told _ (pair_at text 0) day.0 day.1 in
    let year = told _ (pair_at text 2) day.0 century.2 in
    let month = told _ (pair_at text 5) day.0 year.2 in
    let of_month = told _ (pair_at text 8) day.0 month.2 in
    let hour = told _ (pair_at text 11) second.0 second.1 in
    let minute = told _ (pair_at text 14) second.0 hour.2 in
    let of_minute = told _ (pair_at text 17) second.0 minute.2 in
    let cs = digits _ _ century.0 century.1 in
    let ns = digits _ _ year.0 year.1 in
    let ms = digits _ _ month.0 month.1 in
    let ds = digits _ _ of_month.0 of_month.1 in
    let hs = digits _ _ hour.0 hour.1 in
    let is = digits _ _ minute.0 minute.1 in
    let ss = digits _ _ of_minute.0 of_minute.1 in
    let date = date_told (100 * century.0 + year.0) month.0 of_month.0 day.0 of_month.2 in
    let clock = clock_told hour.0 minute.0 of_minute.0 second.0 of_minute.2 in
    record {
      year = 100 * century.0 + year.0;
      month = month.0;
      day = of_month.0;
      hour = hour.0;
      minute = minute.0;
      second = of_minute.0;
      fraction = fraction_in text;
      nanos = nanos.0;
      most = omega (arith, cs.0, ns.0);
      date = date.0;
      of_day = clock.0;
      of_second = nanos.1;
      text_is = spelled text (fraction_in text) century.0 year.0 month.0 of_month.0 hour.0 minute.0 of_minute.0 marks (behind text marks.long marks.last) (cs.1, cs.2) (ns.1, ns.2) (ms.1, ms.2) (ds.1, ds.2) (hs.1, hs.2) (is.1, is.2) (ss.1, ss.2)
          ∙ year_text century.0 year.0 month.0 of_month.0 cs.0 ns.0 (84 ∷ (hms_text hour.0 minute.0 of_minute.0 ++ (fraction_in text ++ 90 ∷ [])));
      time_is = sym nanos.2 ∙ (λ k. moment (date.1 k) (clock.1 k) nanos.0);
    }

-- ---- from the parts to what is read

date_is : (y m d : ℕ) → is_date y m d ≡ true → date_of y m d ≡ Some (days_from_civil (pos y) m d)
date_is y m d is = ap (λ b. cond b (Some (days_from_civil (pos y) m d)) None) is

clock_is : (h m s : ℕ) → (h < 24) × (m < 60) × (s < 60) → clock_of h m s ≡ Some (3600 * h + 60 * m + s)
clock_is h m s small = rw (le-leb (suc h) 24 small.0, le-leb (suc m) 60 small.1, le-leb (suc s) 60 small.2) refl

date_bounds : (y m d : ℕ) → is_date y m d ≡ true → (m < 100) × (d < 100)
date_bounds y m d is =
    let parts = both (nat_le 1 y && nat_le 1 m && nat_le m 12 && nat_le 1 d) (nat_le d (days_in_month (pos y) m)) is in
    let front = both (nat_le 1 y && nat_le 1 m && nat_le m 12) (nat_le 1 d) parts.0 in
    let months = both (nat_le 1 y && nat_le 1 m) (nat_le m 12) front.0 in
    let month = leb-true m 12 months.1 in
    let day = leb-true d (days_in_month (pos y) m) parts.1 in
    let days = days_in_month_bounds (pos y) m in
    (omega (arith, month), omega (arith, day, days.0))

from_parts : (text : List ℕ) (time : Timestamp) → SpellsTime text time → time_of text ≡ Some time
unfolding time_of
from_parts text time p =
    let y = p.year in
    let m = p.month in
    let d = p.day in
    let h = p.hour in
    let i = p.minute in
    let s = p.second in
    let most = p.most in
    let small = date_bounds y m d p.date in
    let hour : h < 100 = omega (arith, p.of_day.0) in
    let minute : i < 100 = omega (arith, p.of_day.1) in
    let second : s < 100 = omega (arith, p.of_day.2) in
    let century : y / 100 < 100 = omega arith in
    let year : y % 100 < 100 = omega arith in
    let whole : 100 * (y / 100) + y % 100 ≡ y = omega arith in
    let tail = hms_text h i s ++ (p.fraction ++ 90 ∷ []) in
    let marks = shape_marks (48 + y / 100 / 10) (48 + y / 100 % 10) (48 + y % 100 / 10) (48 + y % 100 % 10) (48 + m / 10) (48 + m % 10) (48 + d / 10) (48 + d % 10)
    (48 + h / 10) (48 + h % 10) (48 + i / 10) (48 + i % 10) (48 + s / 10) (48 + s % 10) p.fraction in
    let fraction = shape_fraction (48 + y / 100 / 10) (48 + y / 100 % 10) (48 + y % 100 / 10) (48 + y % 100 % 10) (48 + m / 10) (48 + m % 10) (48 + d / 10) (48 + d % 10)
    (48 + h / 10) (48 + h % 10) (48 + i / 10) (48 + i % 10) (48 + s / 10) (48 + s % 10) p.fraction in
    let day = shape_day (y / 100) (y % 100) m d (84 ∷ tail) century year small.0 small.1 ∙ ap (λ (n : ℕ). date_of n m d) whole ∙ date_is y m d p.date in
    let of_day = shape_second (48 + y / 100 / 10) (48 + y / 100 % 10) (48 + y % 100 / 10) (48 + y % 100 % 10) (48 + m / 10) (48 + m % 10) (48 + d / 10) (48 + d % 10) h i s (p.fraction ++ 90 ∷ []) hour minute second ∙ clock_is h i s p.of_day in
    rw (p.text_is, marks, day, of_day, fraction, p.of_second) (ap Some (sym p.time_is))

pub times_formed : TimesHaveTheirForm
times_formed text time = (to_parts text time, from_parts text time)
