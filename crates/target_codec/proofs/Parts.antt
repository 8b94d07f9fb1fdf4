-- The forms of paths, bytes, orders, cursors and limits.
use Rattle.std.proofs.Common.{◌≡◌, ◌≢◌, ◌∙◌, inl, inr, ℕ, suc, ◌%◌, ◌^◌, ◌<◌, ◌≤◌, Bool, true, false, List, [], ◌∷◌, length, get_or, refl, sym, ap, arith}
use Rattle.document_keys.specs.Names.{IsCollection}
use Rattle.document_keys.specs.Paths.{IsFieldPath, HasNamesFault}
use Rattle.document_keys.specs.declared.faults.FieldFault.{FieldFault}
use Rattle.document_keys.specs.declared.faults.FieldFault.TheVariants.{BadPath, ReservedField, NoMemory}
use Rattle.value_model.specs.Data.{Data}
use Rattle.queries.specs.declared.filter.Junction.{Junction}
use Rattle.queries.specs.declared.filter.Junction.TheVariants.{And, Or}
use Rattle.queries.specs.declared.filter.Operator.{Operator}
use Rattle.queries.specs.declared.filter.Operator.TheVariants.{Equal, LessThan, LessThanOrEqual, GreaterThan, GreaterThanOrEqual, NotEqual, IsIn, IsNotIn, ArrayContains, ArrayContainsAny}
use Rattle.queries.specs.declared.filter.UnaryOp.{UnaryOp}
use Rattle.queries.specs.declared.filter.UnaryOp.TheVariants.{IsNull, IsNotNull}
use Rattle.queries.specs.declared.order.Cursor.{Cursor}
use Rattle.queries.specs.declared.order.Order.{Order}
use Rattle.queries.specs.Codes.{from_operator, to_operator, operator_back}
use Rattle.record_parts.specs.Reading.{Begins, BeginsNone}
use Rattle.record_parts.specs.Spelling.{text, many, path, AreSpelled, IsText, IsSegmentText}
use Rattle.record_parts.proofs.Wide.{IsUnique}
use Rattle.record_parts.proofs.Forms.{narrower_none, narrower_other, unique_narrower}
use Rattle.record_parts.proofs.Basics.{half, flag, text_form, segment}
use Rattle.record_parts.proofs.Values.{value_within}
use Rattle.record_parts.proofs.Combine.{Form, Made, IsKind, has_kind, narrow, both, list, unique_kinds}
use Rattle.target_codec.specs.Spelling.{junction_number, operator_number, test_number, direction_number, order, cursor, limit, IsSpelledQueryPath, IsSpelledCollection, IsSpelledOrder, IsSpelledCursor, IsSpelledLimit}

-- ---- paths of fields

pub query_texts : (p : List (List ℕ)) → IsSpelledQueryPath p → AreSpelled IsText p
query_texts p fits = record { count = omega (arith, fits.most); each = λ i d below. record { utf8 = fits.texts i d below; many = omega (arith, (fits.names.long i d below).most) } }

abbrev pub query_path : Form (List (List ℕ))
query_path = record { spell = path; Fits = IsSpelledQueryPath; unique = unique_narrower path (AreSpelled IsText) IsSpelledQueryPath query_texts (list text_form).unique }

pub path_none : (bytes : List ℕ) → BeginsNone path (AreSpelled IsText) bytes → BeginsNone path IsSpelledQueryPath bytes
path_none bytes none = narrower_none path (AreSpelled IsText) IsSpelledQueryPath query_texts bytes none

path_not : (bytes : List ℕ) (p rest : _) → Begins path (AreSpelled IsText) bytes p rest → ¬ (IsSpelledQueryPath p) → BeginsNone path IsSpelledQueryPath bytes
path_not bytes p rest first not = narrower_other path (AreSpelled IsText) IsSpelledQueryPath query_texts (list text_form).unique bytes p rest first not

pub path_long : (bytes : List ℕ) (p : List (List ℕ)) (rest : List ℕ) → Begins path (AreSpelled IsText) bytes p rest → 21 < length p → BeginsNone path IsSpelledQueryPath bytes
path_long bytes p rest first long = path_not bytes p rest first (λ fits. omega (arith, fits.most, long))

not_path : (p : List (List ℕ)) (fault : FieldFault) → HasNamesFault p fault → ¬ (IsFieldPath p)
not_path p BadPath why fits = elim why [ inl none ↦ omega (arith, none, fits.some) | inr short ↦ short fits.long ]
not_path p ReservedField why fits = fits.free why.2
not_path p NoMemory never fits = never

pub path_other : (bytes : List ℕ) (p : List (List ℕ)) (rest : List ℕ) (fault : FieldFault) → Begins path (AreSpelled IsText) bytes p rest → HasNamesFault p fault → BeginsNone path IsSpelledQueryPath bytes
path_other bytes p rest fault first why = path_not bytes p rest first (λ fits. not_path p fault why fits.names)

pub path_read : (bytes : List ℕ) (p is : List (List ℕ)) (rest : List ℕ) → Begins path (AreSpelled IsText) bytes p rest → is ≡ p → IsFieldPath p → length p ≤ 21 → Begins path IsSpelledQueryPath bytes is rest
path_read bytes p is rest first same names most =
    rw same (record { parts = first.parts; fits = record { most = most; names = names; texts = λ i d below. (first.fits.each i d below).utf8 } })

-- ---- paths of collections

pub collection_texts : (k : List (List ℕ)) → IsSpelledCollection k → AreSpelled IsSegmentText k
collection_texts k fits = record { count = fits.many; each = λ i d below. record { utf8 = fits.texts i d below; segment = fits.names.segments i d below } }

abbrev pub collection : Form (List (List ℕ))
collection = record { spell = many text; Fits = IsSpelledCollection; unique = unique_narrower (many text) (AreSpelled IsSegmentText) IsSpelledCollection collection_texts (list segment).unique }

pub collection_none : (bytes : List ℕ) → BeginsNone (many text) (AreSpelled IsSegmentText) bytes → BeginsNone (many text) IsSpelledCollection bytes
collection_none bytes none = narrower_none (many text) (AreSpelled IsSegmentText) IsSpelledCollection collection_texts bytes none

pub collection_even : (bytes : List ℕ) (k : List (List ℕ)) (rest : List ℕ) → Begins (many text) (AreSpelled IsSegmentText) bytes k rest → length k % 2 ≡ 0 → BeginsNone (many text) IsSpelledCollection bytes
collection_even bytes k rest first even =
    narrower_other (many text) (AreSpelled IsSegmentText) IsSpelledCollection collection_texts (list segment).unique bytes k rest first (λ fits. omega (arith, fits.names.odd, even))

pub collection_read : (bytes : List ℕ) (k is : List (List ℕ)) (rest : List ℕ) → Begins (many text) (AreSpelled IsSegmentText) bytes k rest → is ≡ k → IsCollection k → Begins (many text) IsSpelledCollection bytes is rest
collection_read bytes k is rest first same names =
    rw same (record { parts = first.parts; fits = record { names = names; texts = λ i d below. (first.fits.each i d below).utf8; many = first.fits.count } })

-- ---- one byte

behind : (x y : ℕ) (s t : List ℕ) → x ∷ s ≡ y ∷ t → s ≡ t
behind x y s t e = cc

first_byte : (x y : ℕ) (s t : List ℕ) → x ∷ s ≡ y ∷ t → x ≡ y
first_byte x y s t e = ap (λ (l : List ℕ). get_or l 0 0) e

abbrev pub IsOne : {X : Type 0} → (X → ℕ) → Type 0
IsOne {X} tag = (a b : X) → tag a ≡ tag b → a ≡ b

pub unique_byte : {X : Type 0} (tag : X → ℕ) → IsOne tag → IsUnique (λ (x : X). tag x ∷ []) (λ _. Unit {0})
unique_byte tag one a b s t fits_a fits_b e = (one a b (first_byte (tag a) (tag b) s t e), behind (tag a) (tag b) s t e)

abbrev pub byte_form : {X : Type 0} → (tag : X → ℕ) → IsOne tag → Form X
byte_form {X} tag one = record { spell = λ (x : X). tag x ∷ []; Fits = λ _. Unit {0}; unique = unique_byte tag one }

pub byte_read : {X : Type 0} (tag : X → ℕ) (bytes rest : List ℕ) (byte : ℕ) (x : X) → bytes ≡ byte ∷ rest → tag x ≡ byte → Begins (λ (y : X). tag y ∷ []) (λ _. Unit {0}) bytes x rest
byte_read tag bytes rest byte x is same = record { parts = is ∙ ap (λ (n : ℕ). n ∷ rest) (sym same); fits = tt }

pub byte_none : {X : Type 0} (tag : X → ℕ) (bytes : List ℕ) → bytes ≡ [] → BeginsNone (λ (y : X). tag y ∷ []) (λ _. Unit {0}) bytes
byte_none tag bytes none x more b = cc (none, b.parts)

pub byte_other : {X : Type 0} (tag : X → ℕ) (bytes rest : List ℕ) (byte : ℕ) → bytes ≡ byte ∷ rest → ((x : X) → tag x ≢ byte) → BeginsNone (λ (y : X). tag y ∷ []) (λ _. Unit {0}) bytes
byte_other tag bytes rest byte is not x more b = not x (first_byte (tag x) byte more rest (sym b.parts ∙ is))

numbered : (op : Operator) → operator_number op ≡ suc (from_operator op)
numbered Equal = refl
numbered LessThan = refl
numbered LessThanOrEqual = refl
numbered GreaterThan = refl
numbered GreaterThanOrEqual = refl
numbered NotEqual = refl
numbered IsIn = refl
numbered IsNotIn = refl
numbered ArrayContains = refl
numbered ArrayContainsAny = refl

pub one_operator : IsOne operator_number
one_operator a b same =
    let codes : from_operator a ≡ from_operator b = omega (arith, same, numbered a, numbered b) in
    sym (operator_back a) ∙ ap to_operator codes ∙ operator_back b

pub one_junction : IsOne junction_number
one_junction And And same = refl
one_junction And Or same = absurd (omega (arith, same))
one_junction Or And same = absurd (omega (arith, same))
one_junction Or Or same = refl

pub one_test : IsOne test_number
one_test IsNull IsNull same = refl
one_test IsNull IsNotNull same = absurd (omega (arith, same))
one_test IsNotNull IsNull same = absurd (omega (arith, same))
one_test IsNotNull IsNotNull same = refl

pub one_direction : IsOne direction_number
one_direction true true same = refl
one_direction true false same = absurd (omega (arith, same))
one_direction false true same = absurd (omega (arith, same))
one_direction false false same = refl

abbrev pub operator_form : Form Operator
operator_form = byte_form operator_number one_operator

abbrev pub junction_form : Form Junction
junction_form = byte_form junction_number one_junction

abbrev pub test_form : Form UnaryOp
test_form = byte_form test_number one_test

abbrev pub direction_form : Form Bool
direction_form = byte_form direction_number one_direction

-- ---- orders

abbrev pub order_parts : Form (List (List ℕ) × Bool)
order_parts = both query_path direction_form

abbrev pub order_of_parts : List (List ℕ) × Bool → Order
order_of_parts p = record { path = p.0; descending = p.1 }

pub order_made : (o : Order) → IsSpelledOrder o → Made order_of_parts order_parts o
order_made o fits = record { content = (o.path, o.descending); is = refl; fits = (fits.path, tt) }

pub order_kind : IsKind order IsSpelledOrder [] order_of_parts order_parts
unfolding order
order_kind = record { on = λ x. refl; fits = λ x fits. record { path = fits.0 }; back = λ o rest bytes e fits. order_made o fits }

abbrev pub order_form : Form Order
order_form = record { spell = order; Fits = IsSpelledOrder; unique = unique_kinds order IsSpelledOrder (λ o fits. has_kind order_kind o (order_made o fits)) }

-- ---- cursors

abbrev pub cursor_parts : Form (List Data × Bool)
cursor_parts = both (list (value_within 20)) flag

abbrev pub cursor_of_parts : List Data × Bool → Cursor
cursor_of_parts p = record { values = p.0; before = p.1 }

pub cursor_made : (c : Cursor) → IsSpelledCursor c → Made cursor_of_parts cursor_parts c
cursor_made c fits = record { content = (c.values, c.before); is = refl; fits = (fits.values, tt) }

pub cursor_kind : IsKind cursor IsSpelledCursor [] cursor_of_parts cursor_parts
unfolding cursor
cursor_kind = record { on = λ x. refl; fits = λ x fits. record { values = fits.0 }; back = λ c rest bytes e fits. cursor_made c fits }

abbrev pub cursor_form : Form Cursor
cursor_form = record { spell = cursor; Fits = IsSpelledCursor; unique = unique_kinds cursor IsSpelledCursor (λ c fits. has_kind cursor_kind c (cursor_made c fits)) }

-- ---- limits

pub limit_half : (n : ℕ) → IsSpelledLimit n → n < 2 ^ 32
limit_half n fits = omega (arith, fits.0, fits.1)

abbrev pub limit_form : Form ℕ
limit_form = narrow half IsSpelledLimit limit_half

pub limit_none : (bytes : List ℕ) → BeginsNone limit (λ n. n < 2 ^ 32) bytes → BeginsNone limit IsSpelledLimit bytes
limit_none bytes none = narrower_none limit (λ n. n < 2 ^ 32) IsSpelledLimit limit_half bytes none

pub limit_other : (bytes : List ℕ) (n : ℕ) (rest : List ℕ) → Begins limit (λ n. n < 2 ^ 32) bytes n rest → ¬ (IsSpelledLimit n) → BeginsNone limit IsSpelledLimit bytes
limit_other bytes n rest first not = narrower_other limit (λ n. n < 2 ^ 32) IsSpelledLimit limit_half half.unique bytes n rest first not
