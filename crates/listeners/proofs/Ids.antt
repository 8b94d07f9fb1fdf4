-- ids, and sets of them
use Rattle.std.proofs.Common.{◌≡◌, ◌≢◌, ◌∙◌, ◌⊎◌, inl, inr, ℕ, Bool, true, false, ◌||◌, cond, IsTrue, List, [], ◌∷◌, Ordering, Less, Equal, Greater, refl, sym, ap, subst}
use Rattle.std.specs.BTreeSet.{BTreeSet}
use Rattle.std.specs.Cmp.{nat_cmp_total, tied_itself}
use Rattle.std.specs.List.{list_any}
use Rattle.std.specs.Ordering.{is_eq, nat_cmp}
use Rattle.std.proofs.lemmas.Map.Lookups.{exact_unsigned}
use Rattle.listeners.specs.Concerns.{IsConcerned}
use Rattle.listeners.specs.Ids.{has_id}
use Rattle.listeners.specs.Table.{Table, is_id}

pub is_equal : (o : Ordering) → is_eq o ≡ true → o ≡ Equal
is_equal Less e = cc
is_equal Equal e = refl
is_equal Greater e = cc

-- two ids that tie are the same
pub one_id : (id q : ℕ) → is_id id q ≡ true → id ≡ q
one_id id q e = exact_unsigned id q (is_equal (nat_cmp id q) e)

pub id_itself : (id : ℕ) → is_id id id ≡ true
id_itself id = ap is_eq (tied_itself nat_cmp_total id)

-- ids that are told apart are different
pub other_ids : (id q : ℕ) → is_id id q ≡ false → q ≢ id
other_ids id q e same = let yes = subst (λ x. is_id id x ≡ true) (sym same) (id_itself id) in cc

-- a test of different ids
pub apart : (id q : ℕ) → q ≢ id → is_id id q ≡ false
apart id q other = by (is_id id q) refl
  where
    by : (b : Bool) → is_id id q ≡ b → is_id id q ≡ false
    by true e = absurd (other (sym (one_id id q e)))
    by false e = e

either : (a b : Bool) → IsTrue (a || b) → IsTrue a ⊎ IsTrue b
either true b e = inl refl
either false b e = inr e

-- what is in a set after one id was put to it
module _ (old new : BTreeSet ℕ) (id : ℕ) (is : (q : ℕ) → has_id new q ≡ cond (is_id id q) true (has_id old q)) where
  pub has_it : IsTrue (has_id new id)
  has_it = is id ∙ ap (λ b. cond b true (has_id old id)) (id_itself id)

  pub has_others : (q : ℕ) → IsTrue (has_id old q) → IsTrue (has_id new q)
  has_others q there = by (is_id id q) refl
    where
      by : (b : Bool) → is_id id q ≡ b → IsTrue (has_id new q)
      by true e = is q ∙ ap (λ b. cond b true (has_id old q)) e
      by false e = is q ∙ ap (λ b. cond b true (has_id old q)) e ∙ there

  pub only_it : (q : ℕ) → IsTrue (has_id new q) → IsTrue (has_id old q) ⊎ (id ≡ q)
  only_it q there = by (is_id id q) refl
    where
      by : (b : Bool) → is_id id q ≡ b → IsTrue (has_id old q) ⊎ (id ≡ q)
      by true e = inr (one_id id q e)
      by false e = inl (sym (is q ∙ ap (λ b. cond b true (has_id old q)) e) ∙ there)

-- what is in a set after one id was taken from it
pub has_rest : (old new : BTreeSet ℕ) (id : ℕ) → ((q : ℕ) → has_id new q ≡ cond (is_id id q) false (has_id old q)) → (q : ℕ) → q ≢ id → IsTrue (has_id old q) → IsTrue (has_id new q)
has_rest old new id is q other there = is q ∙ ap (λ b. cond b false (has_id old q)) (apart id q other) ∙ there

-- an empty set has none
pub has_none : (ids : BTreeSet ℕ) → ids.keys ≡ [] → (q : ℕ) → IsTrue (has_id ids q) → ⊥
has_none ids none q there = let never = sym there ∙ ap (list_any (is_id q)) none in cc

-- Of the ids at a place those that are concerned were added to the others, as far as these are left.
pub record IsAdded (table : Table) (key : List (List ℕ)) (place left : List ℕ) (was now : BTreeSet ℕ) : Type 0 where
  pub kept : (q : ℕ) → IsTrue (has_id was q) → IsTrue (has_id now q)
  pub only : (q : ℕ) → IsTrue (has_id now q) → IsTrue (has_id was q) ⊎ IsConcerned table key q
  pub each : (q : ℕ) → IsTrue (list_any (is_id q) place) → IsConcerned table key q → IsTrue (has_id now q) ⊎ IsTrue (list_any (is_id q) left)

module _ (table : Table) (key : List (List ℕ)) (place : List ℕ) (was : BTreeSet ℕ) where
  pub added_none : (left : List ℕ) (now : BTreeSet ℕ) → left ≡ place → now.keys ≡ was.keys → IsAdded table key place left was now
  added_none left now all same = record {
    kept = λ q there. ap (list_any (is_id q)) same ∙ there;
    only = λ q there. inl (sym (ap (list_any (is_id q)) same) ∙ there);
    each = λ q there concerned. inr (ap (list_any (is_id q)) all ∙ there);
  }

  module _ (rest left : List ℕ) (now : BTreeSet ℕ) (id : ℕ) (step : rest ≡ id ∷ left) (so_far : IsAdded table key place rest was now) where
    -- the id at hand, or one behind it
    at_hand : (q : ℕ) → IsTrue (list_any (is_id q) rest) → (q ≡ id) ⊎ IsTrue (list_any (is_id q) left)
    at_hand q there = elim (either (is_id q id) (list_any (is_id q) left) (sym (ap (list_any (is_id q)) step) ∙ there)) [
      | inl here ↦ inl (one_id q id here)
      | inr behind ↦ inr behind
    ]

    -- it is concerned, and was put to the others
    pub added_it : (after : BTreeSet ℕ) → ((q : ℕ) → has_id after q ≡ cond (is_id id q) true (has_id now q)) → IsConcerned table key id → IsAdded table key place left was after
    added_it after is concerned = record {
      kept = λ q there. has_others now after id is q (so_far.kept q there);
      only = λ q there. elim (only_it now after id is q there) [
        | inl before ↦ so_far.only q before
        | inr same ↦ inr (subst (IsConcerned table key) same concerned)
      ];
      each = λ q there it. elim (so_far.each q there it) [
        | inl before ↦ inl (has_others now after id is q before)
        | inr ahead ↦ elim (at_hand q ahead) [
          | inl here ↦ inl (subst (λ x. IsTrue (has_id after x)) (sym here) (has_it now after id is))
          | inr behind ↦ inr behind
        ]
      ];
    }

    -- it isn't concerned
    pub passed_it : (IsConcerned table key id → ⊥) → IsAdded table key place left was now
    passed_it never = record {
      kept = so_far.kept;
      only = so_far.only;
      each = λ q there it. elim (so_far.each q there it) [
        | inl before ↦ inl before
        | inr ahead ↦ elim (at_hand q ahead) [
          | inl here ↦ absurd (never (subst (IsConcerned table key) here it))
          | inr behind ↦ inr behind
        ]
      ];
    }

  -- all were looked at
  pub added_all : (left : List ℕ) (now : BTreeSet ℕ) → left ≡ [] → IsAdded table key place left was now → (q : ℕ) → IsTrue (list_any (is_id q) place) → IsConcerned table key q → IsTrue (has_id now q)
  added_all left now none added q there it = elim (added.each q there it) [
    | inl has ↦ has
    | inr ahead ↦ (let never = sym ahead ∙ ap (list_any (is_id q)) none in cc)
  ]
