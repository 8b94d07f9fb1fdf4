-- What is printed without floats is read as its tree, or not at all: where one of its numbers is none of JSON, the lexer finds a fault.
use Rattle.std.proofs.Common.{◌≡◌, ◌∙◌, ◌⊎◌, inl, inr, ℕ, Bool, true, false, ◌&&◌, cond, IsTrue, List, [], ◌∷◌, ◌++◌, refl, sym, ap, ap₂, append_assoc}
use Rattle.std.specs.List.{list_any}
use Rattle.std.proofs.lemmas.Bool.{or_from, or_parts, or_right}
use Rattle.json.specs.Json as json
use Rattle.json.specs.Lex.{Lexeme, token, comma, colon, string_token, lex, between, Place, fresh, after_value, begins_colon, punctuate, tokens}
use Rattle.json.specs.Print.{escape, quoted, token_text, begins, ends, print_from, print, IsPrintable, ArePrintable}
use Rattle.json.specs.Token.{Token, begin_object, end_object, begin_array, end_array, key, string, number, boolean, null, bad}
use Rattle.json.specs.Tree.{json_tokens, items_tokens, members_tokens}
use Rattle.json.specs.Word.{ends_word, word}
use Rattle.json.proofs.Printed.Numbers.{lex-number, in_word-ended}
use Rattle.json.proofs.Printed.Strings.{content-escape, lex-escape}
use Rattle.json.proofs.Printed.Tokens.{tokens-print}
use Rattle.serde_json.specs.Data as tree
use Rattle.serde_json.specs.Data.{Data}
use Rattle.serde_json.specs.Written.{compact_text, has_float, items_have_float, items_outline, members_have_float, members_outline, outline}
use Rattle.serde_json.proofs.Texts.{print-outline}
use Rattle.line_printer.proofs.Numerals.{IsNumeral, number_numeral}

-- ---- tokens whose numbers are printed, of any size

abbrev pub IsWritten : Token → Type 0
IsWritten (number s) = IsNumeral s
IsWritten bad = ⊥
IsWritten t = Unit {0}

abbrev pub AreWritten : List Token → Type 0
AreWritten [] = Unit {0}
AreWritten (t ∷ ts) = IsWritten t × AreWritten ts

written_append : (ts us : List Token) → AreWritten ts → AreWritten us → AreWritten (ts ++ us)
written_append [] us first second = second
written_append (t ∷ ts) us first second = (first.0, written_append ts us first.1 second)

mutual
  pub written : (d : Data) → has_float d ≡ false → AreWritten (json_tokens (outline d))
  written tree.null floatless = (tt, tt)
  written (tree.boolean b) floatless = (tt, tt)
  written (tree.number n) floatless = (number_numeral n floatless, tt)
  written (tree.string s) floatless = (tt, tt)
  written (tree.array ds) floatless = (tt, items_written ds floatless)
  written (tree.object ms) floatless = (tt, members_written ms floatless)

  items_written : (ds : tree.Items) → items_have_float ds ≡ false → AreWritten (items_tokens (items_outline ds))
  items_written tree.no_items floatless = (tt, tt)
  items_written (tree.item d ds) floatless =
      let parts = or_parts (has_float d) (items_have_float ds) floatless in
      written_append (json_tokens (outline d)) (items_tokens (items_outline ds)) (written d parts.0) (items_written ds parts.1)

  members_written : (ms : tree.Members) → members_have_float ms ≡ false → AreWritten (members_tokens (members_outline ms))
  members_written tree.no_members floatless = (tt, tt)
  members_written (tree.member k d ms) floatless =
      let parts = or_parts (has_float d) (members_have_float ms) floatless in
      (tt, written_append (json_tokens (outline d)) (members_tokens (members_outline ms)) (written d parts.0) (members_written ms parts.1))

-- ---- faults

abbrev is_bad : Token → Bool
is_bad bad = true
is_bad t = false

abbrev pub has_bad : List Token → Bool
has_bad ts = list_any is_bad ts

none_append : (ts us : List Token) → has_bad ts ≡ false → has_bad us ≡ false → has_bad (ts ++ us) ≡ false
none_append [] us first second = second
none_append (t ∷ ts) us first second = let parts = or_parts (is_bad t) (has_bad ts) first in or_from (is_bad t) (has_bad (ts ++ us)) parts.0 (none_append ts us parts.1 second)

-- the tokens of a tree have none
mutual
  pub none_bad : (j : json.Json) → has_bad (json_tokens j) ≡ false
  none_bad json.null = refl
  none_bad (json.boolean b) = refl
  none_bad (json.number s) = refl
  none_bad (json.string s) = refl
  none_bad (json.array js) = items_none_bad js
  none_bad (json.object ms) = members_none_bad ms

  items_none_bad : (js : json.Items) → has_bad (items_tokens js) ≡ false
  items_none_bad json.no_items = refl
  items_none_bad (json.item j js) = none_append (json_tokens j) (items_tokens js) (none_bad j) (items_none_bad js)

  members_none_bad : (ms : json.Members) → has_bad (members_tokens ms) ≡ false
  members_none_bad json.no_members = refl
  members_none_bad (json.member k j ms) = none_append (json_tokens j) (members_tokens ms) (none_bad j) (members_none_bad ms)

-- ---- lexemes

abbrev token_lexemes : Token → List Lexeme
token_lexemes (key s) = token (string s) ∷ colon ∷ []
token_lexemes bad = []
token_lexemes t = token t ∷ []

-- what stands before a token behind a value, or else
abbrev comma_before : Bool → Token → List Lexeme
comma_before c t = cond (c && begins t) (comma ∷ []) []

lex_comma : (b : Bool) (r : List ℕ) → lex between (cond b (44 ∷ []) [] ++ r) ≡ cond b (comma ∷ []) [] ++ lex between r
unfolding lex
lex_comma true r = refl
lex_comma false r = refl

lex_quoted : (s r : List ℕ) → lex between (quoted s ++ r) ≡ token (string s) ∷ lex between r
unfolding lex
lex_quoted s r =
    ap (λ l. lex between (34 ∷ l)) (append_assoc (escape s) (34 ∷ []) r) ∙ ap₂ (λ o l. token (string_token o) ∷ l) (content-escape s r) (lex-escape s r)

-- behind a value stands what ends a word, and no colon
value_ends : (ts : List Token) → ends_word (print_from true ts) ≡ true
unfolding print_from
value_ends [] = refl
value_ends (begin_object ∷ ts) = refl
value_ends (end_object ∷ ts) = refl
value_ends (begin_array ∷ ts) = refl
value_ends (end_array ∷ ts) = refl
value_ends (key s ∷ ts) = refl
value_ends (string s ∷ ts) = refl
value_ends (number s ∷ ts) = refl
value_ends (boolean b ∷ ts) = refl
value_ends (null ∷ ts) = refl
value_ends (bad ∷ ts) = refl

no_colon : (ts : List Token) → begins_colon (lex between (print_from true ts)) ≡ false
unfolding lex print_from
no_colon [] = refl
no_colon (begin_object ∷ ts) = refl
no_colon (end_object ∷ ts) = refl
no_colon (begin_array ∷ ts) = refl
no_colon (end_array ∷ ts) = refl
no_colon (key s ∷ ts) = refl
no_colon (string s ∷ ts) = refl
no_colon (number s ∷ ts) = refl
no_colon (boolean b ∷ ts) = refl
no_colon (null ∷ ts) = refl
no_colon (bad ∷ ts) = refl

lex_token : (t : Token) (r : List ℕ) → IsPrintable t → (ends t ≡ true → ends_word r ≡ true) → lex between (token_text t ++ r) ≡ token_lexemes t ++ lex between r
unfolding lex word
lex_token begin_object r is ended = refl
lex_token end_object r is ended = refl
lex_token begin_array r is ended = refl
lex_token end_array r is ended = refl
lex_token (key s) r is ended = ap (lex between) (append_assoc (quoted s) (58 ∷ []) r) ∙ lex_quoted s (58 ∷ r)
lex_token (string s) r is ended = lex_quoted s r
lex_token (number s) r is ended = lex-number s r is (ended refl)
lex_token (boolean true) r is ended = ap₂ (λ b l. token (cond b (boolean true) bad) ∷ l) (ended refl) (in_word-ended r (ended refl))
lex_token (boolean false) r is ended = ap₂ (λ b l. token (cond b (boolean false) bad) ∷ l) (ended refl) (in_word-ended r (ended refl))
lex_token null r is ended = ap₂ (λ b l. token (cond b null bad) ∷ l) (ended refl) (in_word-ended r (ended refl))
lex_token bad r is ended = absurd is

-- ---- commas and colons

abbrev place : Bool → Place
place c = cond c after_value fresh

-- a token stands where it may, and the others follow
placed : (c : Bool) (t : Token) (ls : List Lexeme) → IsPrintable t → (ends t ≡ true → begins_colon ls ≡ false) → punctuate (place c) (comma_before c t ++ (token_lexemes t ++ ls)) ≡ t ∷ punctuate (place (ends t)) ls
unfolding punctuate
placed true begin_object ls is none = refl
placed true end_object ls is none = refl
placed true begin_array ls is none = refl
placed true end_array ls is none = refl
placed true (key s) ls is none = refl
placed true (string s) ls is none = rw (none refl) refl
placed true (number s) ls is none = refl
placed true (boolean b) ls is none = refl
placed true null ls is none = refl
placed true bad ls is none = absurd is
placed false begin_object ls is none = refl
placed false end_object ls is none = refl
placed false begin_array ls is none = refl
placed false end_array ls is none = refl
placed false (key s) ls is none = refl
placed false (string s) ls is none = rw (none refl) refl
placed false (number s) ls is none = refl
placed false (boolean b) ls is none = refl
placed false null ls is none = refl
placed false bad ls is none = absurd is

fault_placed : (c : Bool) (s : List ℕ) (ls : List Lexeme) → has_bad (punctuate (place c) (comma_before c (number s) ++ token bad ∷ ls)) ≡ true
unfolding punctuate
fault_placed true s ls = refl
fault_placed false s ls = refl

-- ---- printed tokens

-- the tokens that are read behind these, of a text that is printed
abbrev read_from : Bool → List Token → List Token
read_from c ts = punctuate (place c) (lex between (print_from c ts))

-- each is a token of JSON, or a fault is read
abbrev IsReadOrFaulty : Bool → List Token → Type 0
IsReadOrFaulty c ts = ArePrintable ts ⊎ IsTrue (has_bad (read_from c ts))

module _ (c : Bool) (t : Token) (ts : List Token) where
  lexed : (ls : List Lexeme) → lex between (token_text t ++ print_from (ends t) ts) ≡ ls → lex between (print_from c (t ∷ ts)) ≡ comma_before c t ++ ls
  unfolding print_from
  lexed ls is = lex_comma (c && begins t) (token_text t ++ print_from (ends t) ts) ∙ ap (λ l. comma_before c t ++ l) is

  behind : IsPrintable t → IsReadOrFaulty (ends t) ts → IsReadOrFaulty c (t ∷ ts)
  unfolding ArePrintable
  behind is (inl all) = inl (is, all)
  behind is (inr faulty) =
      let ended = λ (e : ends t ≡ true). ap (λ b. ends_word (print_from b ts)) e ∙ value_ends ts in
      let none = λ (e : ends t ≡ true). ap (λ b. begins_colon (lex between (print_from b ts))) e ∙ no_colon ts in
      let ls = lex between (print_from (ends t) ts) in
      let same : read_from c (t ∷ ts) ≡ t ∷ read_from (ends t) ts = ap (punctuate (place c)) (lexed (token_lexemes t ++ ls) (lex_token t (print_from (ends t) ts) is ended)) ∙ placed c t ls is none in
      inr (ap has_bad same ∙ or_right (is_bad t) (has_bad (read_from (ends t) ts)) faulty)

numbered : (c : Bool) (s : List ℕ) (ts : List Token) → IsNumeral s → IsReadOrFaulty true ts → IsReadOrFaulty c (number s ∷ ts)
numbered c s ts (inl is) rest = behind c (number s) ts is rest
numbered c s ts (inr fault) rest =
    let found = fault (print_from true ts) in
    inr (ap (λ l. has_bad (punctuate (place c) l)) (lexed c (number s) ts (token bad ∷ found.0) found.1) ∙ fault_placed c s found.0)

pub read_or_faulty : (c : Bool) (ts : List Token) → AreWritten ts → IsReadOrFaulty c ts
unfolding ArePrintable
read_or_faulty c [] all = inl tt
read_or_faulty c (begin_object ∷ ts) all = behind c begin_object ts tt (read_or_faulty false ts all.1)
read_or_faulty c (end_object ∷ ts) all = behind c end_object ts tt (read_or_faulty true ts all.1)
read_or_faulty c (begin_array ∷ ts) all = behind c begin_array ts tt (read_or_faulty false ts all.1)
read_or_faulty c (end_array ∷ ts) all = behind c end_array ts tt (read_or_faulty true ts all.1)
read_or_faulty c (key s ∷ ts) all = behind c (key s) ts tt (read_or_faulty false ts all.1)
read_or_faulty c (string s ∷ ts) all = behind c (string s) ts tt (read_or_faulty true ts all.1)
read_or_faulty c (number s ∷ ts) all = numbered c s ts all.0 (read_or_faulty true ts all.1)
read_or_faulty c (boolean b ∷ ts) all = behind c (boolean b) ts tt (read_or_faulty true ts all.1)
read_or_faulty c (null ∷ ts) all = behind c null ts tt (read_or_faulty true ts all.1)
read_or_faulty c (bad ∷ ts) all = absurd all.0

-- a printed tree without floats is read as its tokens, or with a fault
pub printed_or_faulty : (d : Data) → has_float d ≡ false → (tokens (compact_text d) ≡ json_tokens (outline d)) ⊎ IsTrue (has_bad (tokens (compact_text d)))
printed_or_faulty d floatless = by (read_or_faulty false (json_tokens (outline d)) (written d floatless))
  where
    text : tokens (compact_text d) ≡ tokens (print (json_tokens (outline d)))
    text = ap tokens (sym (print-outline d))

    by : IsReadOrFaulty false (json_tokens (outline d)) → (tokens (compact_text d) ≡ json_tokens (outline d)) ⊎ IsTrue (has_bad (tokens (compact_text d)))
    by (inl all) = inl (text ∙ tokens-print (json_tokens (outline d)) all)
    by (inr faulty) = inr (ap has_bad text ∙ faulty)
