-- Where lines end: a printed tree has no newline within.
use Rattle.std.proofs.Common.{◌≡◌, ℕ, zero, suc, ◌+◌, ◌/◌, ◌%◌, ◌≤◌, ◌==◌, pos, negsuc, Bool, true, false, cond, ◌||◌, nat_lt, List, [], ◌∷◌, ◌++◌, refl, sym, ap, subst, ◌∙◌, arith, append_assoc, append-nil, decimal}
use Rattle.std.specs.Prelude.{if◌then◌else◌}
use Rattle.std.specs.Prelude.{⊤}
use Rattle.std.specs.Fmt.{digits, digits_onto, digit_glyph}
use Rattle.std.specs.Char.{digit_char}
use Rattle.std.proofs.lemmas.Bool.{ne_eqb, ltb-false}
use Rattle.json.specs.Print.{escape_letter, escape_byte, escape, quoted}
use Rattle.serde_json.specs.Data.{Num, unsigned, negative, float, Data, null, boolean, number, string, array, object, Items, no_items, item, Members, no_members, member}
use Rattle.serde_json.specs.Written.{number_text, comma_if, compact_text, items_text, members_text}
use Rattle.line_printer.specs.Lines.{line_of}
use Rattle.line_printer.specs.Reported.{lines_on, whole_lines}

-- what no newline ends
abbrev pub open_on : List ℕ → List ℕ → List ℕ
open_on line [] = line
open_on line (byte ∷ rest) = if byte == 10 then open_on [] rest else open_on (line ++ byte ∷ []) rest

-- ---- two texts, one after another

pub lines_append : (line a b : List ℕ) → lines_on line (a ++ b) ≡ lines_on line a ++ lines_on (open_on line a) b
lines_append line [] b = refl
lines_append line (x ∷ a) b = elim (x == 10) as (λ (t : Bool). (if t then line ∷ lines_on [] (a ++ b) else lines_on (line ++ x ∷ []) (a ++ b)) ≡ (if t then line ∷ lines_on [] a else lines_on (line ++ x ∷ []) a) ++ lines_on (if t then open_on [] a else open_on (line ++ x ∷ []) a) b) [
  | true ↦ ap (λ (ls : List (List ℕ)). line ∷ ls) (lines_append [] a b)
  | false ↦ lines_append (line ++ x ∷ []) a b
]

pub open_append : (line a b : List ℕ) → open_on line (a ++ b) ≡ open_on (open_on line a) b
open_append line [] b = refl
open_append line (x ∷ a) b = elim (x == 10) as (λ (t : Bool). (if t then open_on [] (a ++ b) else open_on (line ++ x ∷ []) (a ++ b)) ≡ open_on (if t then open_on [] a else open_on (line ++ x ∷ []) a) b) [
  | true ↦ open_append [] a b
  | false ↦ open_append (line ++ x ∷ []) a b
]

-- ---- no newline

abbrev pub NoBreak : List ℕ → Type 0
NoBreak [] = ⊤
NoBreak (byte ∷ rest) = ((byte == 10) ≡ false) × NoBreak rest

both_free : (a b : List ℕ) → NoBreak a → NoBreak b → NoBreak (a ++ b)
both_free [] b first second = second
both_free (x ∷ a) b first second = (first.0, both_free a b first.1 second)

either_free : (t : Bool) (a b : List ℕ) → (t ≡ true → NoBreak a) → (t ≡ false → NoBreak b) → NoBreak (cond t a b)
either_free true a b first second = first refl
either_free false a b first second = second refl

high : (x : ℕ) → 11 ≤ x → (x == 10) ≡ false
high x above = ne_eqb x 10 (λ same. omega (arith, same, above))

-- ---- numbers

glyph_high : (small upper : Bool) (n : ℕ) → 11 ≤ (if small then 48 + n else (if upper then 55 + n else 87 + n))
glyph_high true upper n = omega arith
glyph_high false true n = omega arith
glyph_high false false n = omega arith

digits_free : (k n : ℕ) (acc : List ℕ) → NoBreak acc → NoBreak (digits_onto k 10 false n acc)
digits_free zero n acc free = free
digits_free (suc k) n acc free =
    let one : (digit_glyph false (n % 10) == 10) ≡ false = high _ (glyph_high (nat_lt (n % 10) 10) false (n % 10)) in
    either_free (n / 10 == 0) (digit_glyph false (n % 10) ∷ acc) (digits_onto k 10 false (n / 10) (digit_glyph false (n % 10) ∷ acc)) (λ last. (one, free)) (λ more. digits_free k (n / 10) (digit_glyph false (n % 10) ∷ acc) (one, free))

decimal_free : (n : ℕ) → NoBreak (decimal n)
unfolding digits
decimal_free n = digits_free 64 n [] tt

number_free : (n : Num) → NoBreak (number_text n)
number_free (unsigned n) = decimal_free n
number_free (negative (pos n)) = decimal_free n
number_free (negative (negsuc n)) = (refl, decimal_free (suc n))
number_free (float x) = tt

-- ---- texts

letters : (a b c d e f : Bool) (x : ℕ) → (a ≡ true → (x == 10) ≡ false) → (cond a x (cond b 98 (cond c 102 (cond d 110 (cond e 114 (cond f 116 0))))) == 10) ≡ false
letters true b c d e f x free = free refl
letters false true c d e f x free = refl
letters false false true d e f x free = refl
letters false false false true e f x free = refl
letters false false false false true f x free = refl
letters false false false false false true x free = refl
letters false false false false false false x free = refl

quote_or_slash : (x : ℕ) → ((x == 34) || (x == 92)) ≡ true → (x == 10) ≡ false
quote_or_slash x is = ne_eqb x 10 (λ same. let e : false ≡ true = subst (λ (y : ℕ). ((y == 34) || (y == 92)) ≡ true) same is in cc)

letter_free : (x : ℕ) → (escape_letter x == 10) ≡ false
letter_free x = letters ((x == 34) || (x == 92)) (x == 8) (x == 12) (x == 10) (x == 13) (x == 9) x (quote_or_slash x)

char_high : (small : Bool) (d : ℕ) → 11 ≤ cond small (48 + d) (87 + d)
char_high true d = omega arith
char_high false d = omega arith

char_free : (d : ℕ) → (digit_char d == 10) ≡ false
char_free d = high (digit_char d) (char_high (nat_lt d 10) d)

escape_free : (x : ℕ) → NoBreak (escape_byte x)
unfolding escape_byte
escape_free x =
    either_free (nat_lt 0 (escape_letter x)) (92 ∷ escape_letter x ∷ []) (cond (nat_lt x 32) (92 ∷ 117 ∷ 48 ∷ 48 ∷ digit_char (x / 16) ∷ digit_char (x % 16) ∷ []) (x ∷ [])) (λ letter. (refl, (letter_free x, tt)))
    (λ none. either_free (nat_lt x 32) (92 ∷ 117 ∷ 48 ∷ 48 ∷ digit_char (x / 16) ∷ digit_char (x % 16) ∷ []) (x ∷ []) (λ control. (refl, (refl, (refl, (refl, (char_free (x / 16), (char_free (x % 16), tt))))))) (λ plain. let above : 32 ≤ x = ltb-false x 32 plain in (high x (omega (arith, above)), tt)))

text_free : (s : List ℕ) → NoBreak (escape s)
text_free [] = tt
text_free (x ∷ s) = both_free (escape_byte x) (escape s) (escape_free x) (text_free s)

quoted_free : (s : List ℕ) → NoBreak (quoted s)
quoted_free s = (refl, both_free (escape s) (34 ∷ []) (text_free s) (refl, tt))

-- ---- trees

comma_free : (later : Bool) → NoBreak (comma_if later)
comma_free true = (refl, tt)
comma_free false = tt

mutual
  pub compact_free : (d : Data) → NoBreak (compact_text d)
  compact_free null = (refl, (refl, (refl, (refl, tt))))
  compact_free (boolean true) = (refl, (refl, (refl, (refl, tt))))
  compact_free (boolean false) = (refl, (refl, (refl, (refl, (refl, tt)))))
  compact_free (number n) = number_free n
  compact_free (string s) = quoted_free s
  compact_free (array ds) = (refl, items_free false ds)
  compact_free (object ms) = (refl, members_free false ms)

  items_free : (later : Bool) (ds : Items) → NoBreak (items_text later ds)
  items_free later no_items = (refl, tt)
  items_free later (item d ds) = both_free (comma_if later) (compact_text d ++ items_text true ds) (comma_free later) (both_free (compact_text d) (items_text true ds) (compact_free d) (items_free true ds))

  members_free : (later : Bool) (ms : Members) → NoBreak (members_text later ms)
  members_free later no_members = (refl, tt)
  members_free later (member k d ms) =
      both_free (comma_if later) (quoted k ++ 58 ∷ (compact_text d ++ members_text true ms)) (comma_free later)
      (both_free (quoted k) (58 ∷ (compact_text d ++ members_text true ms)) (quoted_free k) (refl, both_free (compact_text d) (members_text true ms) (compact_free d) (members_free true ms)))

-- ---- a line

free_lines : (line text : List ℕ) → NoBreak text → lines_on line (text ++ 10 ∷ []) ≡ (line ++ text) ∷ []
free_lines line [] free = ap (λ (l : List ℕ). l ∷ []) (sym (append-nil line))
free_lines line (x ∷ text) free =
    ap (λ (t : Bool). if t then line ∷ lines_on [] (text ++ 10 ∷ []) else lines_on (line ++ x ∷ []) (text ++ 10 ∷ [])) free.0
    ∙ free_lines (line ++ x ∷ []) text free.1 ∙ ap (λ (l : List ℕ). l ∷ []) (append_assoc line (x ∷ []) text)

free_open : (line text : List ℕ) → NoBreak text → open_on line (text ++ 10 ∷ []) ≡ []
free_open line [] free = refl
free_open line (x ∷ text) free = ap (λ (t : Bool). if t then open_on [] (text ++ 10 ∷ []) else open_on (line ++ x ∷ []) (text ++ 10 ∷ [])) free.0 ∙ free_open (line ++ x ∷ []) text free.1

-- the line of a tree is one whole line, with nothing behind it
pub one_line : (d : Data) → whole_lines (line_of d) ≡ compact_text d ∷ []
unfolding line_of
one_line d = free_lines [] (compact_text d) (compact_free d)

pub nothing_open : (d : Data) → open_on [] (line_of d) ≡ []
unfolding line_of
nothing_open d = free_open [] (compact_text d) (compact_free d)
