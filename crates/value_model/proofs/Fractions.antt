-- The numbers that the digits of a fraction spell.
use Rattle.std.proofs.Common.{◌≡◌, ℕ, ◌+◌, ◌-◌, ◌*◌, ◌<◌, ◌≤◌, ◌^◌, List, true, Some, ℤ, pos, ◌*ℤ◌, ◌+ℤ◌, arith, add-one, lit<, sym, refl}
use Rattle.std.proofs.Math.Nat.{pow-le-pow_right, pow-suc, mul-lt-mul_of_pos_right}
use Rattle.std.proofs.lemmas.Nat.{pow-add}
use Rattle.value_model.specs.Time.{has_marks, day_of, second_of, nanos_of, fraction_in, time_of}

-- less than nine digits
pub few_digits : (n i len : ℕ) → n < 10 ^ i → i < len → len ≤ 9 → n < 100000000
few_digits n i len below within few =
    let most : i ≤ 8 = omega arith in
    omega (arith, below, pow-le-pow_right {n = 10} (lit< tt) most)

-- one more digit
pub digit_more : (n i d : ℕ) → n < 10 ^ i → d ≤ 9 → 10 * n + d < 10 ^ (i + 1)
digit_more n i d below digit = rw (add-one i, pow-suc 10 i) (omega (arith, below))

-- digits at the front of nine
pub nine_digits : (n p len : ℕ) → n < 10 ^ len → len ≤ 9 → p ≡ 10 ^ (9 - len) → n * p < 1000000000
nine_digits n p len below few is =
    let whole : len + (9 - len) ≡ 9 = omega arith in
    let split = pow-add 10 len (9 - len) in
    let product : 10 ^ len * 10 ^ (9 - len) ≡ 1000000000 = sym (rw whole at split) in
    let least : 0 ≤ 9 - len = omega arith in
    let some : 0 < 10 ^ (9 - len) = omega (arith, pow-le-pow_right {n = 10} (lit< tt) least) in
    rw is (omega (arith, product, mul-lt-mul_of_pos_right below some))

-- the parts of a time make it
pub read_is : (text : List ℕ) (day seconds : ℤ) (second nanos : ℕ) → has_marks text ≡ true → Some day ≡ day_of text → Some second ≡ second_of text
    → Some nanos ≡ nanos_of (fraction_in text) → seconds ≡ (day *ℤ pos 86400) +ℤ pos second
    → Some (record { seconds = seconds; nanos = nanos }) ≡ time_of text
unfolding time_of
read_is text day seconds second nanos marks day_is second_is nanos_is is = rw (marks, ← day_is, ← second_is, ← nanos_is, is) refl
