-- The days that a duration has.
use Rattle.std.proofs.Common.{◌≡◌, ℕ, ◌*◌, ◌<◌, ◌/◌, suc, zero, ℤ, pos, negsuc, neg_ℤ, ◌-ℤ◌, ◌*ℤ◌, FitsSigned, w64, to_z, of_z, ap, ◌∙◌, arith}
use Rattle.std.specs.Int.Signed.{quot_z}
use Rattle.std.proofs.Math.IntN.{pos-*ℤ-pos, negsuc-*ℤ-pos}
use Rattle.std.proofs.Math.Nat.{mul-div_cancel}
use Rattle.std.proofs.lemmas.Int.{ints, to_z-of_z}
use Rattle.jiff_core.specs.Calendar.{IsEpochDay, days_from_civil}

-- the quotient of a product
quot_of_negative : (j k m : ℕ) → j / k ≡ suc m → quot_z (neg_ℤ (pos j)) (pos k) ≡ negsuc m
quot_of_negative zero k m h = absurd (omega arith)
quot_of_negative (suc j) k m h = rw h

pub quot_of_product : (x : ℤ) (k : ℕ) → 0 < k → quot_z (x *ℤ pos k) (pos k) ≡ x
quot_of_product (pos m) k h = ap (λ z. quot_z z (pos k)) (pos-*ℤ-pos m k) ∙ ap pos (mul-div_cancel m h)
quot_of_product (negsuc m) k h = ap (λ z. quot_z z (pos k)) (negsuc-*ℤ-pos m k) ∙ quot_of_negative (suc m * k) k m (mul-div_cancel (suc m) h)

-- a day's nanoseconds are its seconds' nanoseconds
seconds_of_days : (x e n s : ℤ) → e ≡ pos 0 → n ≡ (x -ℤ e) *ℤ pos 86400000000000 → s ≡ quot_z n (pos 1000000000) → s ≡ x *ℤ pos 86400
seconds_of_days x e n s zero_is n_is s_is =
    let product : n ≡ (x *ℤ pos 86400) *ℤ pos 1000000000 = omega (arith, ints) in
    s_is ∙ (rw product (quot_of_product (x *ℤ pos 86400) 1000000000 (omega arith)))

-- the days of a duration since day 0
pub days_are : (x e n s : ℤ) → e ≡ pos 0 → n ≡ (x -ℤ e) *ℤ pos 86400000000000 → s ≡ quot_z n (pos 1000000000) → IsEpochDay x
    → to_z w64 (of_z w64 (quot_z (to_z w64 (of_z w64 s)) (pos 86400))) ≡ x
days_are x e n s zero_is n_is s_is range =
    let seconds = seconds_of_days x e n s zero_is n_is s_is in
    let fits : FitsSigned w64 s = omega (arith, ints, range.0, range.1) in
    let small : FitsSigned w64 x = omega (arith, ints, range.0, range.1) in
    rw (to_z-of_z w64 s fits) (rw seconds (rw (quot_of_product x 86400 (omega arith)) (to_z-of_z w64 x small)))

-- 1970-01-01 is day 0
pub first_day : (y : ℤ) (m d : ℕ) → y ≡ pos 1970 → pos m ≡ pos 1 → pos d ≡ pos 1 → days_from_civil y m d ≡ pos 0
unfolding days_from_civil
first_day y m d year month day =
    let m_is : m ≡ 1 = cc in
    let d_is : d ≡ 1 = cc in
    rw (year, m_is, d_is) (omega (arith, ints))
