-- The parts of a file as they are read: each is found, and there is one way to read them.
use Rattle.std.proofs.Common.{◌≡◌, ◌≢◌, ℕ, ◌-◌, ◌^◌, ◌≤◌, ◌<◌, ⊎_elim, List, [], ◌∷◌, ◌++◌, length, take, drop, get_or, refl, ap, sym, ◌∙◌, subst, arith, append_assoc, length-append}
use Rattle.std.specs.Prelude.{All, flat_map}
use Rattle.std.specs.Int.{w64, to_be_bytes, from_be_bytes}
use Rattle.std.proofs.lemmas.Nat.{be_bytes_8, from_be_bytes-to_be_bytes_8}
use Rattle.std.proofs.lemmas.List.{take-append-drop, length-take, length-take-le, get_or-take, append_cancel_left}
use Rattle.std.proofs.lemmas.List.Elements.{All-head, All-tail}
use Rattle.std.proofs.lemmas.Bool.{cases_lt}
use Rattle.std.proofs.Math.Seq.{take-length, take-append_seam}
use Rattle.std.proofs.Math.ListN.{get_or-eq_default}
use Rattle.disk_journal.specs.File.{header_of, record_of}
use Rattle.disk_journal.specs.Parts.{start, number, IsShut, IsRecords}

-- two lists whose fronts are of one length
pub fronts_same : (a b xs ys : List ℕ) → length a ≡ length b → a ++ xs ≡ b ++ ys → (a ≡ b) × (xs ≡ ys)
fronts_same a b xs ys size e =
    let front : a ≡ b = sym (take-append_seam a xs) ∙ ap (λ (l : List ℕ). take (length a) l) e ∙ ap (λ (k : ℕ). take k (b ++ ys)) size ∙ take-append_seam b ys in
    (front, append_cancel_left b xs ys (ap (λ (l : List ℕ). l ++ xs) (sym front) ∙ e))

-- ---- numbers

pub length-number : (n : ℕ) → length (number n) ≡ 8
unfolding number
length-number n = refl

pub number_same : (m n : ℕ) → m < 2 ^ 64 → n < 2 ^ 64 → number m ≡ number n → m ≡ n
unfolding number
number_same m n p q e = sym (from_be_bytes-to_be_bytes_8 m p) ∙ ap (λ (l : List ℕ). from_be_bytes w64 l) e ∙ from_be_bytes-to_be_bytes_8 n q

pub numbers_same : (m n : ℕ) (xs ys : List ℕ) → m < 2 ^ 64 → n < 2 ^ 64 → number m ++ xs ≡ number n ++ ys → (m ≡ n) × (xs ≡ ys)
numbers_same m n xs ys p q e =
    let both = fronts_same (number m) (number n) xs ys (length-number m ∙ sym (length-number n)) e in
    (number_same m n p q both.0, both.1)

is_below : (bytes : List ℕ) (n : ℕ) → ((i : ℕ) → get_or bytes i 0 < 256) → (i : ℕ) → get_or (take n bytes) i 0 < 256
is_below bytes n each i =
    ⊎_elim
    (λ lt. rw (get_or-take n bytes i 0 lt) (each i))
    (λ le. rw (get_or-eq_default (take n bytes) 0 (past le)) (omega arith))
    (cases_lt i n)
  where
    past : n ≤ i → length (take n bytes) ≤ i
    past le = omega (arith, length-take n bytes)

-- the first eight bytes are a number
pub is_number : (bytes front rest : List ℕ) (n : ℕ) → ((i : ℕ) → get_or bytes i 0 < 256) → 8 ≤ length bytes → front ≡ take 8 bytes → rest ≡ drop 8 bytes → n ≡ from_be_bytes w64 front → bytes ≡ number n ++ rest
unfolding number
is_number bytes front rest n each long front_is rest_is n_is =
    let whole : front ++ rest ≡ bytes = rw (front_is, rest_is) (take-append-drop 8 bytes) in
    let below : (i : ℕ) → get_or front i 0 < 256 = rw front_is (is_below bytes 8 each) in
    let size : length front ≡ 8 = ap length front_is ∙ length-take-le 8 bytes long in
    sym whole ∙ ap (λ (l : List ℕ). l ++ rest) (sym (be_bytes_8 front n size below n_is))

-- ---- headers

pub header_parts : (g : ℕ) → header_of g ≡ start ++ number g
unfolding header_of number
header_parts g = refl

pub header_joins : (g : ℕ) (bytes behind rest : List ℕ) → bytes ≡ start ++ behind → behind ≡ number g ++ rest → bytes ≡ header_of g ++ rest
header_joins g bytes behind rest first second = first ∙ ap (λ (l : List ℕ). start ++ l) second ∙ sym (append_assoc start (number g) rest) ∙ ap (λ (l : List ℕ). l ++ rest) (sym (header_parts g))

pub header_splits : (g : ℕ) (bytes rest : List ℕ) → bytes ≡ header_of g ++ rest → bytes ≡ start ++ (number g ++ rest)
header_splits g bytes rest e = e ∙ ap (λ (l : List ℕ). l ++ rest) (header_parts g) ∙ append_assoc start (number g) rest

pub headers_same : (g h : ℕ) (xs ys : List ℕ) → g < 2 ^ 64 → h < 2 ^ 64 → header_of g ++ xs ≡ header_of h ++ ys → (g ≡ h) × (xs ≡ ys)
headers_same g h xs ys p q e =
    let parts = sym (header_splits g (header_of g ++ xs) xs refl) ∙ header_splits h (header_of g ++ xs) ys e in
    numbers_same g h xs ys p q (append_cancel_left start (number g ++ xs) (number h ++ ys) parts)

-- ---- records

pub record_parts : (p rest : List ℕ) → record_of p ++ rest ≡ 1 ∷ (number (length p) ++ (p ++ rest))
unfolding record_of number
record_parts p rest = ap (λ (l : List ℕ). 1 ∷ l) (append_assoc (to_be_bytes w64 (length p)) p rest)

cons_tail : (x y : ℕ) (xs ys : List ℕ) → x ∷ xs ≡ y ∷ ys → (x ≡ y) × (xs ≡ ys)
cons_tail x y xs ys e = (cc, cc)

-- a payload and what is behind it are found in one way
pub payloads_same : (p q xs ys : List ℕ) → length p < 2 ^ 64 → length q < 2 ^ 64 → number (length p) ++ (p ++ xs) ≡ number (length q) ++ (q ++ ys) → (p ≡ q) × (xs ≡ ys)
payloads_same p q xs ys short_p short_q e =
    let sizes = numbers_same (length p) (length q) (p ++ xs) (q ++ ys) short_p short_q e in
    fronts_same p q xs ys sizes.0 sizes.1

pub records_of_same : (p q xs ys : List ℕ) → length p < 2 ^ 64 → length q < 2 ^ 64 → record_of p ++ xs ≡ record_of q ++ ys → (p ≡ q) × (xs ≡ ys)
records_of_same p q xs ys short_p short_q e =
    payloads_same p q xs ys short_p short_q (cons_tail 1 1 _ _ (sym (record_parts p xs) ∙ e ∙ record_parts q ys)).1

-- the records but for the first one
pub record HasFirst (p tail : List ℕ) (payloads : List (List ℕ)) : Type 0 where
  pub others : List (List ℕ)
  pub are : payloads ≡ p ∷ others
  pub records : IsRecords others tail

pub open_first : (payloads : List (List ℕ)) (p tail : List ℕ) → length p < 2 ^ 64 → IsRecords payloads (record_of p ++ tail) → HasFirst p tail payloads
open_first [] p tail short is = absurd (is.shut.shut (sym (cons_tail 1 is.shut.gate _ _ (sym (record_parts p tail) ∙ is.split ∙ is.shut.split)).0))
open_first (q ∷ others) p tail short is =
    let same = records_of_same p q tail (flat_map record_of others ++ is.behind) short (All-head (λ (l : List ℕ). length l < 2 ^ 64) q others is.short) (is.split ∙ append_assoc (record_of q) (flat_map record_of others) is.behind) in
    record {
      others = others;
      are = ap (λ (l : List ℕ). l ∷ others) (sym same.0);
      records = record { short = All-tail (λ (l : List ℕ). length l < 2 ^ 64) q others is.short; behind = is.behind; shut = is.shut; split = same.1 };
    }

-- the records behind the first ones
pub record HasFront (done : List (List ℕ)) (tail : List ℕ) (payloads : List (List ℕ)) : Type 0 where
  pub others : List (List ℕ)
  pub are : payloads ≡ done ++ others
  pub records : IsRecords others tail

pub open_front : (done : List (List ℕ)) (payloads : List (List ℕ)) (tail : List ℕ) → All (λ p. length p < 2 ^ 64) done → IsRecords payloads (flat_map record_of done ++ tail) → HasFront done tail payloads
open_front [] payloads tail short is = record { others = payloads; are = refl; records = is }
open_front (p ∷ done) payloads tail short is =
    let first = open_first payloads p (flat_map record_of done ++ tail) (All-head (λ (l : List ℕ). length l < 2 ^ 64) p done short) (subst (λ (l : List ℕ). IsRecords payloads l) (append_assoc (record_of p) (flat_map record_of done) tail) is) in
    let more = open_front done first.others tail (All-tail (λ (l : List ℕ). length l < 2 ^ 64) p done short) first.records in
    record { others = more.others; are = first.are ∙ ap (λ (l : List (List ℕ)). p ∷ l) more.are; records = more.records }

-- behind a closed gate there is no record
pub shut_none : (payloads : List (List ℕ)) (bytes : List ℕ) → IsShut bytes → IsRecords payloads bytes → payloads ≡ []
shut_none [] bytes shut is = refl
shut_none (p ∷ others) bytes shut is = absurd (shut.shut (cons_tail shut.gate 1 _ _ (sym shut.split ∙ is.split ∙ append_assoc (record_of p) (flat_map record_of others) is.behind ∙ record_parts p (flat_map record_of others ++ is.behind))).0)

-- ---- what an entry is not

pub nothing_broken : (payloads : List (List ℕ)) → ¬ IsRecords payloads []
nothing_broken payloads is = omega (arith, ap length is.split, ap length is.shut.split, length-append (flat_map record_of payloads) is.behind)

-- an open gate, and behind it no payload
pub open_broken : (bytes : List ℕ) → ((p rest : List ℕ) → length p < 2 ^ 64 → bytes ≢ number (length p) ++ (p ++ rest)) → (payloads : List (List ℕ)) → ¬ IsRecords payloads (1 ∷ bytes)
open_broken bytes none [] is = is.shut.shut (sym (cons_tail 1 is.shut.gate _ _ (is.split ∙ is.shut.split)).0)
open_broken bytes none (p ∷ others) is =
    none p (flat_map record_of others ++ is.behind) (All-head (λ (l : List ℕ). length l < 2 ^ 64) p others is.short)
    (cons_tail 1 1 _ _ (is.split ∙ append_assoc (record_of p) (flat_map record_of others) is.behind ∙ record_parts p (flat_map record_of others ++ is.behind))).1

-- where the number is larger than what is left
pub too_long : (bytes rest : List ℕ) (size : ℕ) → bytes ≡ number size ++ rest → size < 2 ^ 64 → length rest < size → (p behind : List ℕ) → length p < 2 ^ 64 → bytes ≢ number (length p) ++ (p ++ behind)
too_long bytes rest size is fits large p behind short e =
    let same = numbers_same size (length p) rest (p ++ behind) fits short (sym is ∙ e) in
    omega (arith, same.0, ap length same.1, length-append p behind)

pub too_short : (bytes : List ℕ) → length bytes < 8 → (n : ℕ) (rest : List ℕ) → bytes ≢ number n ++ rest
too_short bytes few n rest e = omega (arith, ap length e, length-append (number n) rest, length-number n)

-- the first byte and the rest, as a pattern takes them
pub first_and_rest : (x : ℕ) (bytes : List ℕ) → 1 ≤ length bytes → get_or bytes 0 0 ≡ x → bytes ≡ x ∷ take (length bytes - 1) (drop 1 bytes)
first_and_rest x [] some is = absurd (omega arith)
first_and_rest x (y ∷ ys) some is =
    let size : length (y ∷ ys) - 1 ≡ length ys = omega arith in
    ap (λ (z : ℕ). z ∷ ys) is ∙ ap (λ (l : List ℕ). x ∷ l) (sym (ap (λ (k : ℕ). take k ys) size ∙ take-length ys))

pub no_header : (bytes behind : List ℕ) (g : ℕ) (rest : List ℕ) → bytes ≡ start ++ behind → bytes ≡ header_of g ++ rest → behind ≡ number g ++ rest
no_header bytes behind g rest first second = append_cancel_left start behind (number g ++ rest) (sym first ∙ header_splits g bytes rest second)

pub is_payload : (bytes rest : List ℕ) (size : ℕ) (p behind : List ℕ) → bytes ≡ number size ++ rest → size < 2 ^ 64 → p ≡ take size rest → behind ≡ drop size rest → length p ≡ size → (length p < 2 ^ 64) × (bytes ≡ number (length p) ++ (p ++ behind))
is_payload bytes rest size p behind is fits front back len =
    let whole : p ++ behind ≡ rest = rw (front, back) (take-append-drop size rest) in
    (omega arith, is ∙ ap (λ (n : ℕ). number n ++ rest) (sym len) ∙ ap (λ (l : List ℕ). number (length p) ++ l) (sym whole))
