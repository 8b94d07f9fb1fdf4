-- texts of paths, cut at each `/`: their parts one after another, and the order of the parts by the bytes of the text
use Rattle.std.proofs.Common.{◌≤◌, ◌≡◌, ◌≢◌, ◌∙◌, ◌↔◌, ℕ, zero, suc, ◌<◌, ◌+◌, ◌-◌, Bool, true, false, not, cond, IsTrue, is_some, nat_eq, Ordering, Less, Equal, Greater, Option, Some, None, MatchOption, Bor, List, [], ◌∷◌, ◌++◌, length, min, take, drop, get_or, inl, inr, refl, sym, ap, subst, append-nil, append_assoc, arith}
use Rattle.std.specs.Bool.{◌==◌}
use Rattle.std.specs.Cmp.{nat_cmp_total, tied_itself}
use Rattle.std.specs.Cmp.Lexicographic.{pointwise, bytes_decides, slice_cmp}
use Rattle.std.specs.Int.{from_be_bytes, to_be_bytes, w64}
use Rattle.std.specs.List.{All, onto_first, slice_get}
use Rattle.std.specs.Ordering.{MatchOrdering, nat_cmp, ordering_then}
use Rattle.std.proofs.lemmas.Bool.{cases_lt, eq-eqb, ne_eqb}
use Rattle.std.proofs.lemmas.Bool.Decides.{eqb_tells}
use native.Mathlib.Numerals.{unary_clauses}
use Rattle.std.proofs.lemmas.Cmp.{ranked}
use Rattle.std.proofs.lemmas.List.{get_or-take, get_or_past, append_cancel_left, drop_more, length-append, length-drop, length-take, take-append-drop, take_more}
use Rattle.std.proofs.lemmas.Nat.{be_bytes_8}
use Rattle.std.proofs.lemmas.List.Elements.{All-cons, All-head, All-same, All-tail}
use Rattle.std.proofs.lemmas.List.Splits.{length-slice_split, slice_split-cons_no, slice_split-cons_yes}
use Rattle.document_keys.specs.Names.{IsSegment, parts_of, path_text, relative_path}
use Rattle.document_keys.specs.Order.{byte_order}
use Rattle.document_keys.proofs.Order.{numbers_compute}
use Rattle.document_keys.proofs.Parts.{path_text-push}

-- ---- parts one after another

-- there is a first part
pub some_part : (text : List ℕ) → (part : List ℕ) × (others : List (List ℕ)) × (parts_of text ≡ part ∷ others)
some_part text = by (parts_of text) refl
  where
    by : (parts : List (List ℕ)) → parts_of text ≡ parts → (part : List ℕ) × (others : List (List ℕ)) × (parts_of text ≡ part ∷ others)
    by [] is = let none = ap length is in absurd (omega (arith, length-slice_split (λ byte. byte == 47) text, none))
    by (part ∷ others) is = (part, others, is)

-- all parts are segments exactly where the first is one and the others are
pub all_from : (text part : List ℕ) (others : List (List ℕ)) → parts_of text ≡ part ∷ others → IsSegment part → All IsSegment others → All IsSegment (parts_of text)
all_from text part others is one rest = All-same IsSegment _ _ is (All-cons IsSegment part others one rest)

pub first_from : (text part : List ℕ) (others : List (List ℕ)) → parts_of text ≡ part ∷ others → All IsSegment (parts_of text) → IsSegment part
first_from text part others is all = All-head IsSegment part others (All-same IsSegment _ _ (sym is) all)

pub others_from : (text part : List ℕ) (others : List (List ℕ)) → parts_of text ≡ part ∷ others → All IsSegment (parts_of text) → All IsSegment others
others_from text part others is all = All-tail IsSegment part others (All-same IsSegment _ _ (sym is) all)

pub all_more : (path text part next : List ℕ) → parts_of text ≡ part ∷ parts_of next → IsSegment part → All IsSegment (parts_of path) ↔ All IsSegment (parts_of text) → All IsSegment (parts_of path) ↔ All IsSegment (parts_of next)
all_more path text part next is one same = (λ all. others_from text part (parts_of next) is (same.0 all), λ rest. same.1 (all_from text part (parts_of next) is one rest))

-- a part is the first one, whether others follow it or not
pub first_of : (text part : List ℕ) (next : Option (Bor (List ℕ))) → MatchOption next (parts_of text ≡ part ∷ []) (λ rest. parts_of text ≡ part ∷ parts_of rest.now) → (others : List (List ℕ)) × (parts_of text ≡ part ∷ others)
first_of text part None is = ([], is)
first_of text part (Some rest) is = (parts_of rest.now, is)

-- a walk from part to part
next_suc : {X : Type 0} (xs : List X) (i : ℕ) (x : X) (ys : List X) → drop i xs ≡ x ∷ ys → drop (suc i) xs ≡ ys
next_suc [] zero x ys is = cc
next_suc [] (suc i) x ys is = cc
next_suc (y ∷ xs) zero x ys is = cc
next_suc (y ∷ xs) (suc i) x ys is = next_suc xs i x ys is

pub next_from : {X : Type 0} (xs : List X) (i : ℕ) (x : X) (ys : List X) → drop i xs ≡ x ∷ ys → drop (i + 1) xs ≡ ys
next_from xs i x ys is = simp unary_clauses (next_suc xs i x ys is)

pub get_from : {X : Type 0} (xs : List X) (i : ℕ) (x : X) (ys : List X) → drop i xs ≡ x ∷ ys → slice_get xs i ≡ Some x
get_from [] zero x ys is = cc
get_from [] (suc i) x ys is = cc
get_from (y ∷ xs) zero x ys is = cc
get_from (y ∷ xs) (suc i) x ys is = get_from xs i x ys is

pub none_behind : {X : Type 0} (xs : List X) (i k : ℕ) (x : X) → drop i xs ≡ x ∷ [] → i < k → slice_get xs k ≡ None
none_behind [] i k x is past = refl
none_behind (y ∷ []) zero (suc k) x is past = refl
none_behind (y ∷ z ∷ xs) zero (suc k) x is past = cc
none_behind (y ∷ xs) zero zero x is past = absurd (omega arith)
none_behind (y ∷ xs) (suc i) zero x is past = absurd (omega arith)
none_behind (y ∷ xs) (suc i) (suc k) x is past = none_behind xs i k x is (omega arith)

from : (segments : List (List ℕ)) (i : ℕ) (segment : List ℕ) → i < length segments → segment ≡ get_or segments i segment → (id : List ℕ) → segments ++ id ∷ [] ≡ take i segments ++ segment ∷ (drop (i + 1) segments ++ id ∷ [])
from segments i segment below item id =
    ap (λ s. s ++ id ∷ []) (sym (take-append-drop i segments)) ∙ append_assoc (take i segments) (drop i segments) (id ∷ [])
    ∙ ap (λ tail. take i segments ++ (tail ++ id ∷ [])) (drop_more segments i segment below ∙ ap (λ s. s ∷ drop (i + 1) segments) (sym item))

-- a walk over segments beside the parts: a part that is not the next segment, a last part, and one step
pub other_part : (parts segments others : List (List ℕ)) (i : ℕ) (part segment : List ℕ) → i < length segments → segment ≡ get_or segments i segment → part ≢ segment → parts ≡ take i segments ++ part ∷ others → (id : List ℕ) → parts ≢ segments ++ id ∷ []
other_part parts segments others i part segment below item differ is id whole =
    let same : part ∷ others ≡ segment ∷ (drop (i + 1) segments ++ id ∷ []) = append_cancel_left (take i segments) _ _ (sym is ∙ whole ∙ from segments i segment below item id) in
    differ cc

pub last_part : (parts segments : List (List ℕ)) (i : ℕ) (part segment : List ℕ) → i < length segments → segment ≡ get_or segments i segment → parts ≡ take i segments ++ part ∷ [] → (id : List ℕ) → parts ≢ segments ++ id ∷ []
last_part parts segments i part segment below item is id whole =
    let same : part ∷ [] ≡ segment ∷ (drop (i + 1) segments ++ id ∷ []) = append_cancel_left (take i segments) _ _ (sym is ∙ whole ∙ from segments i segment below item id) in
    let sizes = ap length same in omega (arith, sizes, length-append (drop (i + 1) segments) (id ∷ []))

pub one_part_more : (parts segments others : List (List ℕ)) (i : ℕ) (part segment : List ℕ) → i < length segments → segment ≡ get_or segments i segment → part ≡ segment → parts ≡ take i segments ++ part ∷ others → parts ≡ take (i + 1) segments ++ others
one_part_more parts segments others i part segment below item same is =
    is ∙ ap (λ s. take i segments ++ s ∷ others) (same ∙ item) ∙ sym (append_assoc (take i segments) (get_or segments i segment ∷ []) others) ∙ ap (λ front. front ++ others) (sym (take_more segments i segment below))

-- what a test of two texts says
pub differ_from : (a b : List ℕ) (unequal : Bool) → unequal ≡ not (pointwise nat_eq a b) → unequal ≡ true → a ≢ b
differ_from a b unequal test is same = let equal = (bytes_decides a b).1 same in cc

pub same_from : (a b : List ℕ) (unequal : Bool) → unequal ≡ not (pointwise nat_eq a b) → unequal ≡ false → a ≡ b
same_from a b unequal test is = (bytes_decides a b).0 (by (pointwise nat_eq a b) (sym test ∙ is))
  where
    by : (t : Bool) → not t ≡ false → t ≡ true
    by true e = refl
    by false e = cc

-- one part more than the segments
pub one_below : (parts segments : List (List ℕ)) (rest part : List ℕ) (next : Option (Bor (List ℕ))) (yes : Bool) → is_some next ≡ not yes → parts ≡ segments ++ parts_of rest → MatchOption next (parts_of rest ≡ part ∷ []) (λ behind. parts_of rest ≡ part ∷ parts_of behind.now) → IsTrue yes ↔ ((id : List ℕ) × (parts ≡ segments ++ id ∷ []))
one_below parts segments rest part None true says is one = (λ yes. (part, is ∙ ap (λ ps. segments ++ ps) one), λ below. refl)
one_below parts segments rest part None false says is one = cc
one_below parts segments rest part (Some behind) true says is more = cc
one_below parts segments rest part (Some behind) false says is more = (
  λ no. cc,
  λ below.
      let same : part ∷ parts_of behind.now ≡ below.0 ∷ [] = append_cancel_left segments _ _ (ap (λ ps. segments ++ ps) (sym more) ∙ sym is ∙ below.1) in
      let sizes = ap length same in absurd (omega (arith, sizes, length-slice_split (λ byte. byte == 47) behind.now)),
)

-- ---- the order

abbrev texts_cmp : List ℕ → List ℕ → Ordering
texts_cmp = slice_cmp nat_cmp

-- the order of two texts by their bytes
abbrev pub order_of : List ℕ → List ℕ → Ordering
order_of [] [] = Equal
order_of [] (y ∷ ys) = Less
order_of (x ∷ xs) [] = Greater
order_of (x ∷ xs) (y ∷ ys) = cond (x == y) (order_of xs ys) (byte_order x y)

parts_yes : (x : ℕ) (xs : List ℕ) → x ≡ 47 → parts_of (x ∷ xs) ≡ [] ∷ parts_of xs
parts_yes x xs is = slice_split-cons_yes (λ byte. byte == 47) x xs (ap (λ z. z == 47) is)

parts_no : (x : ℕ) (xs : List ℕ) → x ≢ 47 → parts_of (x ∷ xs) ≡ (x ∷ (some_part xs).0) ∷ (some_part xs).1
parts_no x xs other = slice_split-cons_no (λ byte. byte == 47) x xs (ne_eqb x 47 other) ∙ ap (onto_first x) (some_part xs).2

by_parts : {a b p q : List (List ℕ)} → a ≡ p → b ≡ q → slice_cmp texts_cmp a b ≡ slice_cmp texts_cmp p q
by_parts one two i = slice_cmp texts_cmp (one i) (two i)

-- the two orders agree, where the first bytes differ
split_bytes : (x y : ℕ) (xs ys : List ℕ) → x ≢ y → slice_cmp texts_cmp (parts_of (x ∷ xs)) (parts_of (y ∷ ys)) ≡ byte_order x y
split_bytes x y xs ys differ =
    elim (eqb_tells x 47) [
      | inl slash ↦ by_parts (parts_yes x xs slash.1) (parts_no y ys (λ e. differ (slash.1 ∙ sym e))) ∙ sym (ap (λ t. cond t Less (cond (y == 47) Greater (nat_cmp x y))) slash.0)
      | inr other ↦ elim (eqb_tells y 47) [
        | inl slash ↦ by_parts (parts_no x xs other.1) (parts_yes y ys slash.1) ∙ sym (later other.0 ∙ ap (λ t. cond t Greater (nat_cmp x y)) slash.0)
        | inr also ↦ by_parts (parts_no x xs other.1) (parts_no y ys also.1) ∙ decided (nat_cmp x y) refl _ _ ∙ sym (later other.0 ∙ ap (λ t. cond t Greater (nat_cmp x y)) also.0)
      ]
    ]
  where
    later : (x == 47) ≡ false → byte_order x y ≡ cond (y == 47) Greater (nat_cmp x y)
    later e = ap (λ t. cond t Less (cond (y == 47) Greater (nat_cmp x y))) e

    decided : (o : Ordering) → nat_cmp x y ≡ o → (p q : Ordering) → ordering_then (ordering_then o p) q ≡ o
    decided Less is p q = refl
    decided Equal is p q = absurd (differ (numbers_compute.exact x y is))
    decided Greater is p q = refl

-- and where they are the same
same_bytes : (x : ℕ) (xs ys : List ℕ) → slice_cmp texts_cmp (parts_of xs) (parts_of ys) ≡ slice_cmp texts_cmp (parts_of (x ∷ xs)) (parts_of (x ∷ ys))
same_bytes x xs ys =
    elim (eqb_tells x 47) [
      | inl slash ↦ sym (by_parts (parts_yes x xs slash.1) (parts_yes x ys slash.1))
      | inr other ↦
          by_parts (some_part xs).2 (some_part ys).2
          ∙ ap (λ o. ordering_then (ordering_then o (texts_cmp (some_part xs).0 (some_part ys).0)) (slice_cmp texts_cmp (some_part xs).1 (some_part ys).1)) (sym (tied_itself nat_cmp_total x))
          ∙ sym (by_parts (parts_no x xs other.1) (parts_no x ys other.1))
    ]

pub order_of_parts : (xs ys : List ℕ) → order_of xs ys ≡ slice_cmp texts_cmp (parts_of xs) (parts_of ys)
order_of_parts [] [] = refl
order_of_parts [] (y ∷ ys) =
    elim (eqb_tells y 47) [
      | inl slash ↦ sym (by_parts {a = parts_of []} refl (parts_yes y ys slash.1 ∙ ap (λ ps. [] ∷ ps) (some_part ys).2))
      | inr other ↦ sym (by_parts {a = parts_of []} refl (parts_no y ys other.1))
    ]
order_of_parts (x ∷ xs) [] =
    elim (eqb_tells x 47) [
      | inl slash ↦ sym (by_parts {b = parts_of []} (parts_yes x xs slash.1 ∙ ap (λ ps. [] ∷ ps) (some_part xs).2) refl)
      | inr other ↦ sym (by_parts {b = parts_of []} (parts_no x xs other.1) refl)
    ]
order_of_parts (x ∷ xs) (y ∷ ys) =
    elim (eqb_tells x y) [
      | inl same ↦ chosen same.0 ∙ order_of_parts xs ys ∙ subst (λ z. slice_cmp texts_cmp (parts_of xs) (parts_of ys) ≡ slice_cmp texts_cmp (parts_of (x ∷ xs)) (parts_of (z ∷ ys))) same.1 (same_bytes x xs ys)
      | inr other ↦ chosen other.0 ∙ sym (split_bytes x y xs ys other.1)
    ]
  where
    chosen : {t : Bool} → (x == y) ≡ t → order_of (x ∷ xs) (y ∷ ys) ≡ cond t (order_of xs ys) (byte_order x y)
    chosen is = ap (λ t. cond t (order_of xs ys) (byte_order x y)) is

-- the first bytes that differ
pub order_at : (xs ys : List ℕ) (i : ℕ) → i < length xs → i < length ys → get_or xs i 0 ≢ get_or ys i 0 → order_of (drop i xs) (drop i ys) ≡ byte_order (get_or xs i 0) (get_or ys i 0)
order_at xs ys i one two differ =
    (λ k. order_of (drop_more xs i 0 one k) (drop_more ys i 0 two k))
    ∙ ap (λ t. cond t (order_of (drop (i + 1) xs) (drop (i + 1) ys)) (byte_order (get_or xs i 0) (get_or ys i 0))) (ne_eqb _ _ differ)

abbrev pub IsBytes : List ℕ → Type 0
IsBytes bytes = (i : ℕ) → get_or bytes i 0 < 256

IsBytes-take : (n : ℕ) (bytes : List ℕ) → IsBytes bytes → IsBytes (take n bytes)
IsBytes-take n bytes h i =
    elim (cases_lt i n) [
      | inl lt ↦ rw (get_or-take n bytes i 0 lt) (h i)
      | inr le ↦ rw (get_or_past (take n bytes) i 0 (omega (arith, length-take n bytes))) (omega arith)
    ]

-- a word and what follows it
pub word_read : (bytes front rest : List ℕ) (n : ℕ) → IsBytes bytes → n ≡ from_be_bytes w64 front → front ≡ take 8 bytes → rest ≡ drop 8 bytes → 8 ≤ length bytes → to_be_bytes w64 n ++ rest ≡ bytes
word_read bytes front rest n fits read front-is rest-is long =
    let word : to_be_bytes w64 n ≡ take 8 bytes = be_bytes_8 (take 8 bytes) n (omega (arith, length-take 8 bytes)) (IsBytes-take 8 bytes fits) (read ∙ ap (from_be_bytes w64) front-is) in
    (λ i. word i ++ rest-is i) ∙ take-append-drop 8 bytes

-- what the two have in common at their fronts
pub order_front : (same xs ys : List ℕ) → order_of (same ++ xs) (same ++ ys) ≡ order_of xs ys
order_front [] xs ys = refl
order_front (x ∷ same) xs ys = ap (λ t. cond t (order_of (same ++ xs) (same ++ ys)) (byte_order x x)) (eq-eqb x x refl) ∙ order_front same xs ys

pub order_behind : {whole other : List ℕ} (xs ys : List ℕ) → (same : List ℕ) × (whole ≡ same ++ xs) × (other ≡ same ++ ys) → order_of xs ys ≡ slice_cmp texts_cmp (parts_of whole) (parts_of other)
order_behind {whole} {other} xs ys split = sym (order_front split.0 xs ys) ∙ (λ i. order_of (sym split.1 i) (sym split.2 i)) ∙ order_of_parts whole other

-- one text ends
pub order_end : (xs ys : List ℕ) (i : ℕ) (o : Ordering) → o ≡ nat_cmp (length xs) (length ys) → i ≡ min (length xs) (length ys) → order_of (drop i xs) (drop i ys) ≡ o
order_end xs ys i o is least = by o (ranked (length xs) (length ys) o is) (drop i xs) (drop i ys) (length-drop i xs) (length-drop i ys)
  where
    by : (o : Ordering) → MatchOrdering o (length xs < length ys) (length xs ≡ length ys) (length ys < length xs) → (a b : List ℕ) → length a ≡ length xs - i → length b ≡ length ys - i → order_of a b ≡ o
    by Less h [] [] l r = absurd (omega (arith, least))
    by Less h [] (y ∷ b) l r = refl
    by Less h (x ∷ a) [] l r = absurd (omega (arith, least))
    by Less h (x ∷ a) (y ∷ b) l r = absurd (omega (arith, least))
    by Equal h [] [] l r = refl
    by Equal h [] (y ∷ b) l r = absurd (omega (arith, least))
    by Equal h (x ∷ a) [] l r = absurd (omega (arith, least))
    by Equal h (x ∷ a) (y ∷ b) l r = absurd (omega (arith, least))
    by Greater h [] [] l r = absurd (omega (arith, least))
    by Greater h [] (y ∷ b) l r = absurd (omega (arith, least))
    by Greater h (x ∷ a) [] l r = refl
    by Greater h (x ∷ a) (y ∷ b) l r = absurd (omega (arith, least))

-- ---- the joined text

pub joined_path : (first : List ℕ) (others : List (List ℕ)) → first ++ path_text others ≡ relative_path (first ∷ others)
joined_path first [] = append-nil first
joined_path first (other ∷ others) = ap (λ t. first ++ 47 ∷ t) (joined_path other others)

pub more_segments : (text : List ℕ) (others : List (List ℕ)) (i : ℕ) (x slashed longer old : List ℕ) → i < length others → x ≡ get_or others i x → text ≡ old ++ path_text (take i others) → slashed ≡ text ++ 47 ∷ [] → longer ≡ slashed ++ x → longer ≡ old ++ path_text (take (i + 1) others)
more_segments text others i x slashed longer old below item so_far slash more =
    more ∙ ap (λ t. t ++ x) slash ∙ append_assoc text (47 ∷ []) x ∙ ap (λ t. t ++ 47 ∷ x) so_far
    ∙ append_assoc old (path_text (take i others)) (47 ∷ x)
    ∙ ap (λ t. old ++ t) (sym (path_text-push (take i others) x) ∙ ap path_text (ap (λ y. take i others ++ y ∷ []) item ∙ sym (take_more others i x below)))
