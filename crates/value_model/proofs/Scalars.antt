-- comparisons of two steps, and the orders of the scalar kinds
use Rattle.std.proofs.Common.{◌≡◌, ◌≢◌, ◌∙◌, ◌⊎◌, inl, inr, ℕ, zero, suc, ◌<◌, ◌<ℤ◌, Ordering, Less, Equal, Greater, List, [], ◌∷◌, length, get_or, take, min, refl, sym, ap, arith}
use Rattle.std.specs.Cmp.{nat_cmp_total, int_cmp_total, nat_cmp_is, int_cmp_is, on_total, then_total}
use Rattle.std.specs.Cmp.Lexicographic.{slice_cmp}
use Rattle.std.specs.Ordering.{ordering_then, ordering_reverse, nat_cmp, int_cmp}
use Rattle.std.proofs.lemmas.Cmp.{ranked, int_ranked}
use Rattle.document_keys.proofs.Order.{Computes}
use Rattle.value_model.specs.declared.timestamp.Timestamp.{Timestamp}
use Rattle.value_model.specs.Order.{Earlier}

-- ---- one comparison, and then another

pub then_less : (o p : Ordering) → ordering_then o p ≡ Less → (o ≡ Less) ⊎ ((o ≡ Equal) × (p ≡ Less))
then_less Less p e = inl refl
then_less Equal p e = inr (refl, e)
then_less Greater p e = cc

pub then_equal : (o p : Ordering) → ordering_then o p ≡ Equal → (o ≡ Equal) × (p ≡ Equal)
then_equal Less p e = cc
then_equal Equal p e = (refl, e)
then_equal Greater p e = cc

pub then_reverse : (o p : Ordering) → ordering_reverse (ordering_then o p) ≡ ordering_then (ordering_reverse o) (ordering_reverse p)
then_reverse Less p = refl
then_reverse Equal p = refl
then_reverse Greater p = refl

pub decided : (o p : Ordering) → o ≢ Equal → ordering_then o p ≡ o
decided Less p apart = refl
decided Equal p apart = absurd (apart refl)
decided Greater p apart = refl

pub then_chain : (o p q : Ordering) (r s t : Ordering) → (o ≡ Less → p ≡ Less → q ≡ Less) → (o ≡ Equal → q ≡ p) → (p ≡ Equal → q ≡ o) → (r ≡ Less → s ≡ Less → t ≡ Less) → ordering_then o r ≡ Less → ordering_then p s ≡ Less → ordering_then q t ≡ Less
then_chain Less Less q r s t both first second more e f = ap (λ k. ordering_then k t) (both refl refl)
then_chain Less Equal q r s t both first second more e f = ap (λ k. ordering_then k t) (second refl)
then_chain Less Greater q r s t both first second more e f = cc
then_chain Equal Less q r s t both first second more e f = ap (λ k. ordering_then k t) (first refl)
then_chain Equal Equal q r s t both first second more e f = ap (λ k. ordering_then k t) (first refl) ∙ more e f
then_chain Equal Greater q r s t both first second more e f = cc
then_chain Greater p q r s t both first second more e f = cc

-- ---- lists that are equal up to a place

module _ {A : Type 0} (R : A → A → Ordering) (itself : (x : A) → R x x ≡ Equal) where
  pub slice_at : (xs ys : List A) (i : ℕ) (d e : A) (o : Ordering) → take i xs ≡ take i ys → i < length xs → i < length ys → R (get_or xs i d) (get_or ys i e) ≡ o → o ≢ Equal → slice_cmp R xs ys ≡ o
  slice_at [] ys i d e o front a b is apart = absurd (omega arith)
  slice_at (x ∷ xs) [] i d e o front a b is apart = absurd (omega arith)
  slice_at (x ∷ xs) (y ∷ ys) zero d e o front a b is apart = ap (λ k. ordering_then k (slice_cmp R xs ys)) is ∙ decided o (slice_cmp R xs ys) apart
  slice_at (x ∷ xs) (y ∷ ys) (suc i) d e o front a b is apart =
      let heads : x ≡ y = cc in
      let tails : take i xs ≡ take i ys = cc in
      let tied : R x y ≡ Equal = ap (λ z. R x z) (sym heads) ∙ itself x in
      ap (λ k. ordering_then k (slice_cmp R xs ys)) tied ∙ slice_at xs ys i d e o tails (omega arith) (omega arith) is apart

  pub slice_end : (xs ys : List A) (i : ℕ) → take i xs ≡ take i ys → min (length xs) (length ys) ≡ i → slice_cmp R xs ys ≡ nat_cmp (length xs) (length ys)
  slice_end [] [] i front is = refl
  slice_end [] (y ∷ ys) i front is = nat_cmp_is 0 (length (y ∷ ys)) Less (omega arith)
  slice_end (x ∷ xs) [] i front is = nat_cmp_is (length (x ∷ xs)) 0 Greater (omega arith)
  slice_end (x ∷ xs) (y ∷ ys) zero front is = absurd (omega arith)
  slice_end (x ∷ xs) (y ∷ ys) (suc i) front is =
      let heads : x ≡ y = cc in
      let tails : take i xs ≡ take i ys = cc in
      let tied : R x y ≡ Equal = ap (λ z. R x z) (sym heads) ∙ itself x in
      ap (λ k. ordering_then k (slice_cmp R xs ys)) tied ∙ slice_end xs ys i tails (omega arith) ∙ more (length xs) (length ys)
    where
      more : (m n : ℕ) → nat_cmp m n ≡ nat_cmp (suc m) (suc n)
      more m n = grind arith

-- ---- whole numbers and moments

pub ints_compute : Computes int_cmp ◌<ℤ◌
ints_compute = record {
  total = int_cmp_total;
  exact = λ x y e. int_ranked x y Equal (sym e);
  below = λ x y e. int_ranked x y Less (sym e);
  less = λ x y before. sym (int_cmp_is x y Less before);
}

abbrev pub time_cmp : Timestamp → Timestamp → Ordering
time_cmp t u = ordering_then (int_cmp t.seconds u.seconds) (nat_cmp t.nanos u.nanos)

time_exact : (t u : Timestamp) → time_cmp t u ≡ Equal → t ≡ u
time_exact t u e =
    let both = then_equal (int_cmp t.seconds u.seconds) (nat_cmp t.nanos u.nanos) e in
    let seconds = int_ranked t.seconds u.seconds Equal (sym both.0) in
    let nanos = ranked t.nanos u.nanos Equal (sym both.1) in
    λ i. record { seconds = seconds i; nanos = nanos i }

time_below : (t u : Timestamp) → time_cmp t u ≡ Less → Earlier t u
time_below t u e = elim (then_less (int_cmp t.seconds u.seconds) (nat_cmp t.nanos u.nanos) e) [
  | inl first ↦ inl (int_ranked t.seconds u.seconds Less (sym first))
  | inr second ↦ inr (int_ranked t.seconds u.seconds Equal (sym second.0), ranked t.nanos u.nanos Less (sym second.1))
]

time_less : (t u : Timestamp) → Earlier t u → time_cmp t u ≡ Less
time_less t u (inl first) = ap (λ o. ordering_then o (nat_cmp t.nanos u.nanos)) (sym (int_cmp_is t.seconds u.seconds Less first))
time_less t u (inr second) =
    ap (λ o. ordering_then o (nat_cmp t.nanos u.nanos)) (sym (int_cmp_is t.seconds u.seconds Equal second.0))
    ∙ sym (nat_cmp_is t.nanos u.nanos Less second.1)

pub times_compute : Computes time_cmp Earlier
times_compute = record {
  total = then_total (on_total (λ (t : Timestamp). t.seconds) int_cmp_total) (on_total (λ (t : Timestamp). t.nanos) nat_cmp_total);
  exact = time_exact;
  below = time_below;
  less = time_less;
}
