-- the laws of values and their order
use Rattle.std.proofs.Common.{◌≡◌, ◌∙◌, ◌⊎◌, inl, inr, Ordering, Less, Equal, Greater, refl, subst, lit<}
use Rattle.std.specs.Cmp.{tied_itself}
use Rattle.value_model.specs.Data.{Data}
use Rattle.value_model.specs.Order.{Before, kind_first, RanksValues}
use Rattle.value_model.specs.Laws.{ValuesAreOrdered, TiesAreEqual, PendingTimesStand}
use Rattle.value_model.proofs.Exact.{cmp, values_compute, ranks_values}

total_by : (a b : Data) (order : Ordering) → RanksValues order a b → Before a b ⊎ ((a ≡ b) ⊎ Before b a)
total_by a b Less ranks = inl (ranks.less.0 refl)
total_by a b Equal ranks = inr (inl (ranks.equal.0 refl))
total_by a b Greater ranks = inr (inr (ranks.greater.0 refl))

strict : (a : Data) → Before a a → ⊥
strict a before = let less = values_compute.less a a before in let same = tied_itself values_compute.total a in cc (less, same)

pub ordered : ValuesAreOrdered
ordered = record {
  strict = strict;
  transitive = λ a b c ab bc. values_compute.below a c (values_compute.total.trans a b c (values_compute.less a b ab) (values_compute.less b c bc));
  total = λ a b. total_by a b (cmp a b) (ranks_values (cmp a b) a b refl);
}

tied : (a b : Data) → a ≡ b → ¬ (Before a b) × ¬ (Before b a)
tied a b same = (λ before. strict b (subst (λ d. Before d b) same before), λ before. strict b (subst (λ d. Before b d) same before))

level : (a b : Data) → (¬ (Before a b) × ¬ (Before b a)) → a ≡ b
level a b none = let ranks = ranks_values (cmp a b) a b refl in ranks.equal.0 (ranks.neither.1 none)

pub tie_laws : TiesAreEqual
tie_laws = record {
  reflexive = λ a. tied a a refl;
  symmetric = λ a b none. (none.1, none.0);
  transitive = λ a b c ab bc. tied a c (level a b ab ∙ level b c bc);
  same = λ a b. (level a b, tied a b);
}

pub pending_laws : PendingTimesStand
pending_laws = record { after_times = λ at t. kind_first (lit< tt); before_texts = λ at s. kind_first (lit< tt) }
