-- targets in their order
use Rattle.std.proofs.Common.{◌≡◌, ◌≢◌, ◌⊎◌, inl, inr, ℕ, ◌+◌, ◌<◌, ◌≤◌, List, length, get_or, sym, subst, arith}
use Rattle.std.proofs.lemmas.Bool.{cases_lt}
use Rattle.std.proofs.lemmas.List.{get_or_default}
use Rattle.std.specs.List.{All, AllPairs}
use Rattle.document_keys.specs.Order.{PathBefore}
use Rattle.document_keys.proofs.Lawful.{ordered}
use Rattle.queries.specs.declared.target.Target.{Target}
use Rattle.queries.specs.declared.target.Target.TheVariants.{Document, Collection}
use Rattle.target_cache.specs.Order.{IsBefore, IsLower, IsUpTo, no_target}

-- if a path is before another, any third one is after the first or before the second
between : (p r q : List (List ℕ)) → PathBefore p r → PathBefore p q ⊎ PathBefore q r
between p r q before = elim (ordered.total p q) [
  | inl ahead ↦ inl ahead
  | inr or ↦ elim or [ inl same ↦ inr (subst (λ x. PathBefore x r) same before) | inr back ↦ inr (ordered.transitive q p r back before) ]
]

pub parted : (a c b : Target) → IsBefore a c → IsBefore a b ⊎ IsBefore b c
parted (Document a) (Document c) (Document b) before = between a c b before
parted (Document a) (Document c) (Collection b) before = inl tt
parted (Document a) (Collection c) (Document b) before = inr tt
parted (Document a) (Collection c) (Collection b) before = inl tt
parted (Collection a) (Document c) b before = absurd before
parted (Collection a) (Collection c) (Document b) before = inr tt
parted (Collection a) (Collection c) (Collection b) before = between a.collection c.collection b.collection before

pub never_itself : (a : Target) → IsBefore a a → ⊥
never_itself (Document a) before = ordered.strict a before
never_itself (Collection a) before = ordered.strict a.collection before

pub record IsBetween (targets : List Target) (target : Target) (low high : ℕ) : Type 0 where
  pub apart : low ≤ high
  pub inside : high ≤ length targets
  pub below : (k : ℕ) → k < low → IsBefore (get_or targets k no_target) target
  pub above : (k : ℕ) → high ≤ k → k < length targets → IsBefore (get_or targets k no_target) target → ⊥

module _ (targets : List Target) (target : Target) (ascending : AllPairs IsUpTo targets) (low high middle : ℕ) (so_far : IsBetween targets target low high) (first : low ≤ middle) (last : middle < high) where
  pub goes_up : IsBefore (get_or targets middle no_target) target → IsBetween targets target (middle + 1) high
  goes_up before = record {
    apart = let inside = so_far.inside in omega arith;
    inside = so_far.inside;
    below = λ k under. elim (cases_lt k middle) [
      | inl less ↦ elim (parted (get_or targets middle no_target) target (get_or targets k no_target) before) [
        | inl back ↦ absurd (ascending k middle no_target less (let inside = so_far.inside in omega arith) back)
        | inr ahead ↦ ahead
      ]
      | inr not_less ↦ let same : middle ≡ k = omega arith in subst (λ i. IsBefore (get_or targets i no_target) target) same before
    ];
    above = so_far.above;
  }

  pub goes_down : (IsBefore (get_or targets middle no_target) target → ⊥) → IsBetween targets target low middle
  goes_down never = record {
    apart = first;
    inside = let inside = so_far.inside in omega arith;
    below = so_far.below;
    above = λ k over within before. elim (cases_lt middle k) [
      | inl more ↦ elim (parted (get_or targets k no_target) target (get_or targets middle no_target) before) [
        | inl back ↦ ascending middle k no_target more within back
        | inr ahead ↦ never ahead
      ]
      | inr not_more ↦ let same : k ≡ middle = omega arith in never (subst (λ i. IsBefore (get_or targets i no_target) target) same before)
    ];
  }

pub all_between : (targets : List Target) (target : Target) (long : ℕ) → long ≡ length targets → IsBetween targets target 0 long
all_between targets target long is = record {
  apart = omega arith;
  inside = omega arith;
  below = λ k under. absurd (omega arith);
  above = λ k over within before. absurd (omega arith);
}

pub met : (targets : List Target) (target : Target) (low high : ℕ) → IsBetween targets target low high → high ≤ low → IsLower targets target low
met targets target low high is done = record {
  inside = let a = is.inside in let b = is.apart in omega arith;
  below = is.below;
  above = λ k over within. is.above k (omega arith) within;
}

-- a target that is before another isn't that
pub apart_before : (a b : Target) → IsBefore a b → a ≢ b
apart_before a b before same = never_itself b (subst (λ x. IsBefore x b) same before)

pub none_below : (targets : List Target) (target : Target) (index : ℕ) → IsLower targets target index → (k : ℕ) → k < index → get_or targets k no_target ≢ target
none_below targets target index is k under = apart_before (get_or targets k no_target) target (is.below k under)

-- none of all, where those so far aren't and the target is before the next one
pub none_behind : (targets : List Target) (target : Target) (i : ℕ) → AllPairs IsUpTo targets → i < length targets → ((k : ℕ) → k < i → get_or targets k no_target ≢ target)
    → IsBefore target (get_or targets i no_target) → All (λ t. t ≢ target) targets
none_behind targets target i ascending inside so_far ahead k d within = subst (λ t. t ≢ target) (get_or_default targets k no_target d within) (by k within)
  where
    by : (k : ℕ) → k < length targets → get_or targets k no_target ≢ target
    by k within = elim (cases_lt k i) [
      | inl less ↦ so_far k less
      | inr not_less ↦ elim (cases_lt i k) [
        | inl more ↦ elim (parted target (get_or targets i no_target) (get_or targets k no_target) ahead) [
          | inl before ↦ λ same. apart_before target (get_or targets k no_target) before (sym same)
          | inr back ↦ absurd (ascending i k no_target more within back)
        ]
        | inr not_more ↦ λ same. let here : k ≡ i = omega arith in apart_before target (get_or targets i no_target) ahead (sym (subst (λ n. get_or targets n no_target ≡ target) here same))
      ]
    ]

pub none_at_all : (targets : List Target) (target : Target) (i : ℕ) → length targets ≤ i → ((k : ℕ) → k < i → get_or targets k no_target ≢ target) → All (λ t. t ≢ target) targets
none_at_all targets target i end so_far k d within = subst (λ t. t ≢ target) (get_or_default targets k no_target d within) (so_far k (omega arith))

pub one_way : (a b : Target) → IsBefore a b → IsBefore b a → ⊥
one_way (Document a) (Document b) ahead back = ordered.strict a (ordered.transitive a b a ahead back)
one_way (Document a) (Collection b) ahead back = absurd back
one_way (Collection a) (Document b) ahead back = absurd ahead
one_way (Collection a) (Collection b) ahead back = ordered.strict a.collection (ordered.transitive a.collection b.collection a.collection ahead back)
