-- The order of moments.
use Rattle.std.proofs.Common.{◌≡◌, ◌∙◌, inl, inr, ap, ℕ, ◌<◌, Ordering, Less, Equal, Greater, arith, ℤ, ◌<ℤ◌}
use Rattle.std.specs.Ordering.{MatchOrdering, ordering_then, int_cmp, nat_cmp}
use Rattle.std.specs.Cmp.{int_ranks}
use Rattle.std.proofs.lemmas.Bool.Decides.{nat_tests}
use Rattle.jiff_core.proofs.SignedLemmas.{signed_arith}
use Rattle.value_model.specs.declared.timestamp.Timestamp.{Timestamp}
use Rattle.value_model.specs.Order.{Earlier}
use Rattle.value_model.specs.Time.{IsMoment, instant}
use Rattle.value_model.specs.Versions.{TimesAreOrdered}

nat_ranks : (x y : ℕ) → MatchOrdering (nat_cmp x y) (x < y) (x ≡ y) (y < x)
nat_ranks x y = grind (arith, nat_tests)

-- seconds rank first, and then nanoseconds
ranked : (a b : Timestamp) (s n : Ordering) → a.nanos < 1000000000 → b.nanos < 1000000000 → MatchOrdering s (a.seconds <ℤ b.seconds) (a.seconds ≡ b.seconds) (b.seconds <ℤ a.seconds)
    → MatchOrdering n (a.nanos < b.nanos) (a.nanos ≡ b.nanos) (b.nanos < a.nanos)
    → MatchOrdering (ordering_then s n) (instant a <ℤ instant b) (a ≡ b) (instant b <ℤ instant a)
ranked a b Less n a_small b_small by_s by_n = omega (arith, signed_arith, by_s)
ranked a b Greater n a_small b_small by_s by_n = omega (arith, signed_arith, by_s)
ranked a b Equal Less a_small b_small by_s by_n = omega (arith, signed_arith, by_s, by_n)
ranked a b Equal Greater a_small b_small by_s by_n = omega (arith, signed_arith, by_s, by_n)
ranked a b Equal Equal a_small b_small by_s by_n = ap (λ (z : ℤ). record a { seconds = z }) by_s ∙ ap (λ (m : ℕ). record b { nanos = m }) by_n

pub order_is : (a b : Timestamp) (o : Ordering) → IsMoment a → IsMoment b → o ≡ ordering_then (int_cmp a.seconds b.seconds) (nat_cmp a.nanos b.nanos)
    → MatchOrdering o (instant a <ℤ instant b) (a ≡ b) (instant b <ℤ instant a)
order_is a b o a_is b_is is = rw is (ranked a b _ _ a_is.nanos b_is.nanos (int_ranks a.seconds b.seconds) (nat_ranks a.nanos b.nanos))

sooner : (t u : Timestamp) → t.nanos < 1000000000 → u.nanos < 1000000000 → Earlier t u → instant t <ℤ instant u
sooner t u a b (inl before) = omega (arith, signed_arith)
sooner t u a b (inr (same, before)) = omega (arith, signed_arith)

before_by : (t u : Timestamp) → t.nanos < 1000000000 → u.nanos < 1000000000 → instant t <ℤ instant u → (s n : Ordering) → MatchOrdering s (t.seconds <ℤ u.seconds) (t.seconds ≡ u.seconds) (u.seconds <ℤ t.seconds)
    → MatchOrdering n (t.nanos < u.nanos) (t.nanos ≡ u.nanos) (u.nanos < t.nanos) → Earlier t u
before_by t u a b less Less n by_s by_n = inl by_s
before_by t u a b less Greater n by_s by_n = absurd (omega (arith, signed_arith, by_s))
before_by t u a b less Equal Less by_s by_n = inr (by_s, by_n)
before_by t u a b less Equal Equal by_s by_n = absurd (omega (arith, signed_arith, by_s, by_n))
before_by t u a b less Equal Greater by_s by_n = absurd (omega (arith, signed_arith, by_s, by_n))

pub times_ordered : TimesAreOrdered
times_ordered t u t_is u_is = (
  sooner t u t_is.nanos u_is.nanos,
  λ less. before_by t u t_is.nanos u_is.nanos less (int_cmp t.seconds u.seconds) (nat_cmp t.nanos u.nanos) (int_ranks t.seconds u.seconds) (nat_ranks t.nanos u.nanos),
)
