-- Whole numbers as they are printed, of any size: digits, for those below 0 behind a minus. The lexer of JSON takes such a text for a
-- number, or for a fault.
use Rattle.std.proofs.Common.{◌≡◌, ◌∙◌, ◌⊎◌, inl, inr, ℕ, pos, negsuc, zero, suc, ◌+◌, ◌/◌, ◌%◌, ◌<◌, ◌≤◌, ◌==◌, Bool, true, false, ◌&&◌, ◌||◌, cond, IsTrue, List, [], ◌∷◌, ◌++◌, length, drop, Some, option_and_then, decimal, refl, sym, ap, subst, arith, mod-lt, zero-lt-suc}
use Rattle.std.specs.Char.{is_ascii_digit}
use Rattle.std.specs.Fmt.{digits, digits_onto, digit_glyph}
use Rattle.std.specs.List.{prefix_len}
use Rattle.std.proofs.lemmas.Bool.{agree_below_at, and_from, and_parts, eqb-true, le-leb, leb-true, lt-ltb, ne_eqb, or_parts}
use Rattle.std.proofs.lemmas.List.{drop_all}
use Rattle.json.specs.Token.{bad}
use Rattle.json.specs.Lex.{Lexeme, token, lex, between, in_word}
use Rattle.json.specs.Print.{IsNumber}
use Rattle.json.specs.Word.{is_operator, is_space, after_whole, after_fraction, after_exponent, after_number, word}
use Rattle.serde_json.specs.Data.{Num, unsigned, negative, float}
use Rattle.serde_json.specs.Find.{is_float}
use Rattle.serde_json.specs.Written.{number_text}

-- ---- digits

abbrev pub AreDigits : List ℕ → Type 0
AreDigits [] = Unit {0}
AreDigits (d ∷ ds) = IsTrue (is_ascii_digit d) × AreDigits ds

-- digits, and one at least
abbrev pub AreSomeDigits : List ℕ → Type 0
AreSomeDigits [] = ⊥
AreSomeDigits (d ∷ ds) = AreDigits (d ∷ ds)

glyph_digit : (m : ℕ) → m < 10 → IsTrue (is_ascii_digit (digit_glyph false m))
glyph_digit m small =
    ap (λ b. is_ascii_digit (cond b (48 + m) (87 + m))) (lt-ltb m 10 small)
    ∙ and_from _ _ (le-leb 48 (48 + m) (omega arith)) (le-leb (48 + m) 57 (omega (arith, small)))

next_digit : (n : ℕ) → IsTrue (is_ascii_digit (digit_glyph false (n % 10)))
next_digit n = glyph_digit (n % 10) (mod-lt n (zero-lt-suc 9))

either_some : (t : Bool) (a b : List ℕ) → AreSomeDigits a → AreSomeDigits b → AreSomeDigits (cond t a b)
either_some true a b first second = first
either_some false a b first second = second

all_of : (ds : List ℕ) → AreSomeDigits ds → AreDigits ds
all_of [] some = absurd some
all_of (d ∷ ds) some = some

onto_some : (k n : ℕ) (acc : List ℕ) → AreSomeDigits acc → AreSomeDigits (digits_onto k 10 false n acc)
onto_some zero n acc some = some
onto_some (suc k) n acc some =
    either_some (n / 10 == 0) (digit_glyph false (n % 10) ∷ acc) (digits_onto k 10 false (n / 10) (digit_glyph false (n % 10) ∷ acc)) (next_digit n, all_of acc some)
    (onto_some k (n / 10) (digit_glyph false (n % 10) ∷ acc) (next_digit n, all_of acc some))

pub decimal_digits : (n : ℕ) → AreSomeDigits (decimal n)
unfolding digits
decimal_digits n =
    either_some (n / 10 == 0) (digit_glyph false (n % 10) ∷ []) (digits_onto 63 10 false (n / 10) (digit_glyph false (n % 10) ∷ [])) (next_digit n, tt)
    (onto_some 63 (n / 10) (digit_glyph false (n % 10) ∷ []) (next_digit n, tt))

-- ---- a number, or a fault

-- before whatever stands behind it, the text is lexed as a fault
abbrev pub IsFault : List ℕ → Type 0
IsFault s = (r : List ℕ) → (rest : List Lexeme) × (lex between (s ++ r) ≡ token bad ∷ rest)

abbrev pub IsNumeral : List ℕ → Type 0
IsNumeral s = IsNumber s ⊎ IsFault s

prefix_all : (ds : List ℕ) → AreDigits ds → prefix_len is_ascii_digit ds ≡ length ds
prefix_all [] all = refl
prefix_all (d ∷ ds) all = let rest = prefix_all ds all.1 in ap (λ b. cond b (1 + prefix_len is_ascii_digit ds) 0) all.0 ∙ omega (arith, rest)

whole_part : (d : ℕ) (ds : List ℕ) → AreDigits (d ∷ ds) → (d == 48) ≡ false → after_whole (d ∷ ds) ≡ Some []
whole_part d ds all first = rw (first, prefix_all (d ∷ ds) all, ne_eqb (suc (length ds)) 0 (λ e. omega arith)) (ap Some (drop_all (length ds) ds (omega arith)))

no_minus : (d : ℕ) → IsTrue (is_ascii_digit d) → (d == 45) ≡ false
no_minus d is = let least : 48 ≤ d = leb-true 48 d (and_parts _ _ is).0 in ne_eqb d 45 (λ e. omega (arith, e, least))

at_most : (d : ℕ) → IsTrue (is_ascii_digit d) → d ≤ 57
at_most d is = leb-true d 57 (and_parts _ _ is).1

-- a digit is none of what may stand behind a number, or go on with it
abbrev goes_on : ℕ → Bool
goes_on x = (x == 46) || (((x == 101) || (x == 69)) || (is_operator x || is_space x))

no_end : (d : ℕ) → IsTrue (is_ascii_digit d) → goes_on d ≡ false
no_end d is =
    let most = at_most d is in
    let below : d < 58 = omega (arith, most) in
    let same = agree_below_at (λ x. is_ascii_digit x && goes_on x) (λ x. false) 58 d refl below in
    sym (ap (λ b. b && goes_on d) is) ∙ same

-- a 0 before another digit is no number
padded : (d : ℕ) (s : List ℕ) → IsTrue (is_ascii_digit d) → IsFault (48 ∷ d ∷ s)
unfolding lex word after_number
padded d s is r =
    let no = or_parts (d == 46) _ (no_end d is) in
    let none = or_parts ((d == 101) || (d == 69)) _ no.1 in
    (lex in_word (d ∷ s ++ r), rw (no.0, none.0, none.1) refl)

padded_minus : (d : ℕ) (s : List ℕ) → IsTrue (is_ascii_digit d) → IsFault (45 ∷ 48 ∷ d ∷ s)
unfolding lex word after_number
padded_minus d s is r =
    let no = or_parts (d == 46) _ (no_end d is) in
    let none = or_parts ((d == 101) || (d == 69)) _ no.1 in
    (lex in_word (48 ∷ d ∷ s ++ r), rw (no.0, none.0, none.1) refl)

digits_numeral : (ds : List ℕ) → AreSomeDigits ds → IsNumeral ds
unfolding after_number
digits_numeral [] some = absurd some
digits_numeral (d ∷ ds) some = by (d == 48) refl ds some
  where
    by : (b : Bool) → (d == 48) ≡ b → (ds : List ℕ) → AreDigits (d ∷ ds) → IsNumeral (d ∷ ds)
    by false e ds all =
        inl (ap (λ o. option_and_then after_exponent (option_and_then after_fraction o))
        (ap (λ b. after_whole (cond b (drop 1 (d ∷ ds)) (d ∷ ds))) (no_minus d all.0) ∙ whole_part d ds all e))
    by true e [] all = inl (subst (λ x. IsNumber (x ∷ [])) (sym (eqb-true d 48 e)) refl)
    by true e (next ∷ ds) all = inr (subst (λ x. IsFault (x ∷ next ∷ ds)) (sym (eqb-true d 48 e)) (padded next ds all.1.0))

minus_numeral : (ds : List ℕ) → AreSomeDigits ds → IsNumeral (45 ∷ ds)
unfolding after_number
minus_numeral [] some = absurd some
minus_numeral (d ∷ ds) some = by (d == 48) refl ds some
  where
    by : (b : Bool) → (d == 48) ≡ b → (ds : List ℕ) → AreDigits (d ∷ ds) → IsNumeral (45 ∷ d ∷ ds)
    by false e ds all = inl (ap (λ o. option_and_then after_exponent (option_and_then after_fraction o)) (whole_part d ds all e))
    by true e [] all = inl (subst (λ x. IsNumber (45 ∷ x ∷ [])) (sym (eqb-true d 48 e)) refl)
    by true e (next ∷ ds) all = inr (subst (λ x. IsFault (45 ∷ x ∷ next ∷ ds)) (sym (eqb-true d 48 e)) (padded_minus next ds all.1.0))

pub number_numeral : (n : Num) → is_float n ≡ false → IsNumeral (number_text n)
number_numeral (unsigned n) floatless = digits_numeral (decimal n) (decimal_digits n)
number_numeral (negative (pos n)) floatless = digits_numeral (decimal n) (decimal_digits n)
number_numeral (negative (negsuc n)) floatless = minus_numeral (decimal (suc n)) (decimal_digits (suc n))
number_numeral (float x) floatless = cc
