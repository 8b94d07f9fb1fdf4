-- Whole numbers as texts.
use Rattle.std.specs.Str.{bytes_eq}
use Rattle.std.proofs.lemmas.Slice.Eq.{bytes_eq-Decides}
use Rattle.std.proofs.Common.{◌≡◌, ◌≢◌, ◌⊎◌, Bool, true, false, nat_lt, ℕ, ◌<◌, ◌≤◌, ◌^◌, zero, suc, [], ◌∷◌, get_or, ℤ, pos, negsuc, neg_ℤ, Result, Ok, List, codes, FitsSigned, w64, refl, sym, ap, subst, ◌∙◌, arith, inl, inr}
use borrow.Author.Tests.{ltb-true, ltb-false}
use Rattle.std.specs.Fmt.{decimal, signed_decimal}
use Rattle.std.specs.Str.Parse.{ParsesSigned, digits_value}
use Rattle.std.proofs.lemmas.Int.{ints}
use Rattle.std.proofs.lemmas.Fmt.{parse-signed_decimal, signed_decimal_injective, decimal_digit, decimal-digits_value, first_decimal}
use Rattle.std.proofs.lemmas.Str.Parse.{numerals_by_value, tells_digits, parse_signed_minus, parse_signed_plain}
use lib.Signed.{mag}
use Rattle.json_model.specs.Numbers.{IsBare, SpellsInteger}

small : (z : ℤ) → FitsSigned w64 z → mag z < 2 ^ 63
small (pos n) fits = omega (arith, ints, fits)
small (negsuc n) fits = omega (arith, ints, fits)

-- what a text spells is what the parser finds
pub parsed : {E : Type 0} (text : List ℕ) (z : ℤ) (found : Result ℤ E) → (text ≡ codes "-0" → ⊥) → SpellsInteger text z → ParsesSigned w64 10 text found → (found ≡ Ok z) × (text ≡ signed_decimal z)
parsed text z found other spelled parses =
    elim spelled.is [
      | inl plain ↦ (parse-signed_decimal w64 z text found spelled.fits (small z spelled.fits) plain parses, plain)
      | inr minus ↦ absurd (other minus.0)
    ]

-- texts that were found different are different
pub differ : (a b : List ℕ) (found : Bool) → found ≡ false → found ≡ bytes_eq a b → a ≡ b → ⊥
differ a b found unequal is same =
    let yes : bytes_eq a b ≡ true = (bytes_eq-Decides a b).1 same in
    cc

pub no_number_found : {E : Type 0} (text : List ℕ) (found : Result ℤ E) → (text ≡ codes "-0" → ⊥) → ParsesSigned w64 10 text found → ((x : ℤ) → found ≡ Ok x → ⊥) → (z : ℤ) → SpellsInteger text z → ⊥
no_number_found text found other parses none z spelled = none z (parsed text z found other spelled parses).0

-- ---- what the parser finds of a text that is bare

negative : (n : ℕ) (ds : List ℕ) → decimal n ≡ ds → get_or ds 0 0 ≢ 48 → n ≤ 2 ^ 63 → SpellsInteger (45 ∷ ds) (neg_ℤ (pos n))
negative zero ds is other small = absurd (other (ap (λ (l : List ℕ). get_or l 0 0) (sym is ∙ decimal_digit 0 (omega arith))))
negative (suc n) ds is other small = record { fits = record { sfits = small }; is = inl (ap (λ (l : List ℕ). 45 ∷ l) (sym is)) }

module _ (E : Type 0) (z : ℤ) where
  abbrev found_it : Result ℤ E
  found_it = Ok z

  minus : (text : List ℕ) → ParsesSigned w64 10 text found_it → IsBare text → get_or text 0 0 ≡ 45 → SpellsInteger text z
  minus [] parses bare is = cc
  minus (c ∷ ds) parses bare is =
      let read = parse_signed_minus (numerals_by_value _ tells_digits) w64 (c ∷ ds) found_it parses is in
      let digits = decimal-digits_value (numerals_by_value _ tells_digits) ds read.0.0 read.0.1 (λ zero. absurd (bare.minus is zero)) (omega (arith, read.0.2)) in
      subst (SpellsInteger (c ∷ ds)) (sym read.1) (subst (λ (b : ℕ). SpellsInteger (b ∷ ds) (neg_ℤ (pos (digits_value 10 ds)))) (sym is) (negative (digits_value 10 ds) ds digits (bare.minus is) read.0.2))

  plain : (text : List ℕ) → ParsesSigned w64 10 text found_it → IsBare text → get_or text 0 0 ≢ 45 → SpellsInteger text z
  plain text parses bare other =
      let read = parse_signed_plain (numerals_by_value _ tells_digits) w64 text found_it parses bare.plus other in
      let digits = decimal-digits_value (numerals_by_value _ tells_digits) text read.0.0 read.0.1 bare.zero (omega (arith, read.0.2)) in
      subst (SpellsInteger text) (sym read.1) (record { fits = record { sfits = read.0.2 }; is = inl (sym digits) })

  pub bare_spells : (text : List ℕ) (found : Result ℤ E) → ParsesSigned w64 10 text found → found ≡ Ok z → IsBare text → SpellsInteger text z
  bare_spells text found parses is bare = by (nat_lt (get_or text 0 0) 45) (nat_lt (get_or text 0 0) 46) refl refl
    where
      read : ParsesSigned w64 10 text found_it
      read = subst (ParsesSigned w64 10 text) is parses

      by : (below within : Bool) → nat_lt (get_or text 0 0) 45 ≡ below → nat_lt (get_or text 0 0) 46 ≡ within → SpellsInteger text z
      by true within less most = plain text read bare (λ e. omega (arith, e, ltb-true (get_or text 0 0) 45 less))
      by false true more last = minus text read bare (omega (arith, ltb-false (get_or text 0 0) 45 more, ltb-true (get_or text 0 0) 46 last))
      by false false more above = plain text read bare (λ e. omega (arith, e, ltb-false (get_or text 0 0) 46 above))

-- and the text of a number is one
printed_bare : (z : ℤ) → FitsSigned w64 z → IsBare (signed_decimal z)
printed_bare (pos zero) fits = subst IsBare (sym (decimal_digit 0 (omega arith))) (record { plus = λ e. omega (arith, e); minus = λ e. absurd (omega (arith, e)); zero = λ e. refl })
printed_bare (pos (suc n)) fits =
    let first = first_decimal (suc n) (omega arith) (omega (arith, ints, fits)) in
    record { plus = λ e. omega (arith, e, first); minus = λ e. absurd (omega (arith, e, first)); zero = λ e. absurd (omega (arith, e, first)) }
printed_bare (negsuc n) fits =
    let first = first_decimal (suc n) (omega arith) (omega (arith, ints, fits)) in
    record { plus = λ e. omega (arith, e); minus = λ is e. omega (arith, e, first); zero = λ e. absurd (omega (arith, e)) }

pub spells_bare : (text : List ℕ) (z : ℤ) → (text ≡ codes "-0" → ⊥) → SpellsInteger text z → IsBare text
spells_bare text z other spelled = elim spelled.is [ inl printed ↦ subst IsBare (sym printed) (printed_bare z spelled.fits) | inr minus ↦ absurd (other minus.0) ]

-- the digits of a number are not `-0`
not_minus_zero : (z : ℤ) → FitsSigned w64 z → signed_decimal z ≡ codes "-0" → ⊥
not_minus_zero (pos n) fits is = elim (zero_or n) [ inl none ↦ cc (ap decimal none, decimal_digit 0 (omega arith), is) | inr some ↦ let first : get_or (decimal n) 0 0 ≡ 45 = ap (λ l. get_or l 0 0) is in omega (arith, first, first_decimal n some (below fits)) ]
  where
    below : FitsSigned w64 (pos n) → n < 2 ^ 64
    below h = omega (arith, ints, h)

    zero_or : (n : ℕ) → (n ≡ 0) ⊎ (0 < n)
    zero_or zero = inl refl
    zero_or (suc n) = inr (omega arith)
not_minus_zero (negsuc n) fits is =
    let digits : decimal (suc n) ≡ 48 ∷ [] = cc in
    let first : get_or (decimal (suc n)) 0 0 ≡ 48 = ap (λ l. get_or l 0 0) digits in
    omega (arith, first, first_decimal (suc n) (omega arith) (omega (arith, ints, fits)))

-- a text spells one number at most
pub spells_one_integer : (text : List ℕ) (y z : ℤ) → SpellsInteger text y → SpellsInteger text z → y ≡ z
spells_one_integer text y z first second =
    elim first.is [
      | inl a ↦ elim second.is [
        | inl b ↦ signed_decimal_injective y z (small y first.fits) (small z second.fits) (sym a ∙ b)
        | inr b ↦ absurd (not_minus_zero y first.fits (sym a ∙ b.0))
      ]
      | inr a ↦ elim second.is [
        | inl b ↦ absurd (not_minus_zero z second.fits (sym b ∙ a.0))
        | inr b ↦ a.1 ∙ sym b.1
      ]
    ]
