-- documents that a comparison sorts
use Rattle.std.proofs.Common.{◌≡◌, ◌∙◌, ◌↔◌, ◌⊎◌, inl, inr, ℕ, Bool, true, false, IsTrue, Ordering, Less, Equal, Greater, List, get_or, Option, refl, sym, ap, subst, arith}
use Rattle.std.specs.Bool.{Decides, one_answer}
use Rattle.std.specs.Cmp.{IsStrictWeakOrder}
use Rattle.std.specs.List.Sorted.{IsPermutation, IsSortedBy}
use Rattle.std.specs.Ordering.{is_lt}
use Rattle.std.proofs.lemmas.List.Sorted.{All-permutation, sorted_far}
use Rattle.document_keys.specs.Names.{Root}
use Rattle.value_model.specs.Data.{Data, Entries}
use Rattle.value_model.specs.declared.documents.DocRef.{DocRef}
use Rattle.queries.specs.Checked.{IsChecked}
use Rattle.queries.specs.declared.order.Order.{Order}
use Rattle.queries.specs.declared.target.Target.{Target}
use Rattle.queries.specs.declared.target.Target.TheVariants.{Document, Collection}
use Rattle.queries.specs.Holding.{standing}
use Rattle.queries.specs.Matching.{Matches, IsBefore, RanksInOrder, AreRows, AreInOrder}
use Rattle.queries.specs.Rows.{Precedes, row_values}
use Rattle.queries.proofs.Candidates.{false_from}
use Rattle.queries.proofs.Counting.{apart_permuted}
use Rattle.queries.proofs.Lawful.{rows_law, answers_law}
use Rattle.queries.proofs.Ordered.{row_values_are, row_values_length}

-- whether it is the first of two cases
abbrev is_first : {A B : Type 0} → A ⊎ B → Bool
is_first (inl a) = true
is_first (inr b) = false

first_decides : {A B : Type 0} (s : A ⊎ B) → (B → A → ⊥) → Decides (is_first s) A
first_decides (inl a) never = (λ e. a, λ there. refl)
first_decides (inr b) never = (λ e. absurd (let no : false ≡ true = e in cc), λ there. absurd (never b there))

module _ (orders : List Order) where
  pub ranked : (at there : List (List ℕ) → Option Data) → Precedes orders (row_values at orders) (row_values there orders) ⊎ ((row_values at orders ≡ row_values there orders) ⊎ Precedes orders (row_values there orders) (row_values at orders))
  ranked at there = rows_law.total orders (row_values at orders) (row_values there orders) (row_values_length at orders) (row_values_length there orders)

  not_both : (xs ys : List Data) → (xs ≡ ys) ⊎ Precedes orders ys xs → Precedes orders xs ys → ⊥
  not_both xs ys other ahead = elim other [
    | inl same ↦ rows_law.strict orders ys (subst (λ zs. Precedes orders zs ys) same ahead)
    | inr back ↦ rows_law.strict orders xs (rows_law.transitive orders xs ys xs ahead back)
  ]

  abbrev precedes : (at there : List (List ℕ) → Option Data) → Bool
  precedes at there = is_first (ranked at there)

  precedes_decides : (at there : List (List ℕ) → Option Data) → Decides (precedes at there) (Precedes orders (row_values at orders) (row_values there orders))
  precedes_decides at there = first_decides (ranked at there) (not_both (row_values at orders) (row_values there orders))

  one_way : (at there : List (List ℕ) → Option Data) → precedes at there ≡ true → precedes there at ≡ false
  one_way at there said = false_from (precedes there at) (λ back.
      not_both (row_values at orders) (row_values there orders) (inr ((precedes_decides there at).0 back)) ((precedes_decides at there).0 said))

  chained : (at there last : List (List ℕ) → Option Data) → precedes at there ≡ false → precedes there last ≡ false → precedes at last ≡ false
  chained at there last first second = false_from (precedes at last) (λ yes.
      let ahead = (precedes_decides at last).0 yes in
      elim (ranked at there) [
        | inl before ↦ let no = (precedes_decides at there).1 before in let same : true ≡ false = sym no ∙ first in cc
        | inr other ↦ elim other [
          | inl same ↦ let no = (precedes_decides there last).1 (subst (λ xs. Precedes orders xs (row_values last orders)) same ahead) in let e : true ≡ false = sym no ∙ second in cc
          | inr back ↦ let no = (precedes_decides there last).1 (rows_law.transitive orders (row_values there orders) (row_values at orders) (row_values last orders) back ahead) in let e : true ≡ false = sym no ∙ second in cc
        ]
      ])

-- whether one document comes before another, where null stands for a value that is missing
abbrev pub test : Target → Root → DocRef → DocRef → Bool
test (Document wanted) root a b = false
test (Collection target) root a b = precedes target.orders (standing root a.key.now a.fields.now) (standing root b.key.now b.fields.now)

pub strict_weak : (target : Target) (root : Root) → IsStrictWeakOrder (test target root)
strict_weak (Document wanted) root = record { one_way = λ x y yes. refl; chain = λ x y z first second. refl }
strict_weak (Collection target) root = record {
  one_way = λ x y yes. one_way target.orders (standing root x.key.now x.fields.now) (standing root y.key.now y.fields.now) yes;
  chain = λ x y z first second. chained target.orders (standing root x.key.now x.fields.now) (standing root y.key.now y.fields.now) (standing root z.key.now z.fields.now) first second;
}

less_decides : (r : Ordering) (P : Type 0) → ((r ≡ Less) ↔ P) → Decides (is_lt r) P
less_decides Less P h = (λ e. h.0 refl, λ p. refl)
less_decides Equal P h = (λ e. absurd (let no : false ≡ true = e in cc), λ p. let e = h.1 p in cc)
less_decides Greater P h = (λ e. absurd (let no : false ≡ true = e in cc), λ p. let e = h.1 p in cc)

-- a comparison answers Less where the test passes
pub ranks_as_test : (target : Target) (root : Root) (a b : DocRef) (r : Ordering) → RanksInOrder target a.key.now a.fields.now b.key.now b.fields.now r → is_lt r ≡ test target root a b
ranks_as_test (Document wanted) root a b r ranks = ap is_lt ranks
ranks_as_test (Collection target) root a b r ranks =
    one_answer (is_lt r) _ (less_decides r _ (ranks root).less) (precedes_decides target.orders (standing root a.key.now a.fields.now) (standing root b.key.now b.fields.now))

before_tests : (target : Target) (root : Root) (a b : DocRef) → IsBefore target root a.key.now a.fields.now b.key.now b.fields.now → test target root a b ≡ true
before_tests (Document wanted) root a b before = absurd before
before_tests (Collection target) root a b before =
    let at = standing root a.key.now a.fields.now in
    let there = standing root b.key.now b.fields.now in
    let xs = row_values_are at target.orders before.xs before.has in
    let ys = row_values_are there target.orders before.ys before.other_has in
    (precedes_decides target.orders at there).1 (subst (λ l. Precedes target.orders l (row_values there target.orders)) (sym xs) (subst (Precedes target.orders before.xs) (sym ys) before.precedes))

pub sorted_rows : (target : Target) (root : Root) (rows sorted : List DocRef) → IsChecked target → IsPermutation rows sorted → AreRows target root rows → IsSortedBy (test target root) sorted → AreInOrder target root sorted
sorted_rows target root rows sorted checked moves are up i j d before inside =
    let matching = All-permutation (λ row. Matches target root row.key.now row.fields.now) rows sorted moves are.matching in
    let apart = apart_permuted (λ (row : DocRef). row.key.now) rows sorted moves are.distinct i j d before inside in
    let none = sorted_far (test target root) (strict_weak target root) sorted up i j d (omega arith) inside in
    let a = get_or sorted i d in
    let b = get_or sorted j d in
    elim (answers_law.total target root a.key.now a.fields.now b.key.now b.fields.now checked (matching i d (omega arith)) (matching j d inside) apart) [
      | inl ahead ↦ ahead
      | inr back ↦ absurd (let yes = before_tests target root b a back in let e : true ≡ false = sym yes ∙ none in cc)
    ]

-- what a comparison answers of documents that match
pub tells_before : (target : Target) (root : Root) (key : List (List ℕ)) (fields : Entries) (other : List (List ℕ)) (others : Entries) (r : Ordering) → RanksInOrder target key fields other others r → Matches target root key fields → Matches target root other others → IsTrue (is_lt r) ↔ IsBefore target root key fields other others
tells_before (Document wanted) root key fields other others r ranks a b = (λ yes. let e : false ≡ true = ap is_lt (sym ranks) ∙ yes in cc, λ before. absurd before)
tells_before (Collection target) root key fields other others r ranks a b =
    let at = standing root key fields in
    let there = standing root other others in
    let decides = less_decides r _ (ranks root).less in
    let xs = row_values_are at target.orders a.values a.ordered in
    let ys = row_values_are there target.orders b.values b.ordered in (
      λ yes. record { xs = a.values; ys = b.values; has = a.ordered; other_has = b.ordered; precedes = subst (Precedes target.orders a.values) ys (subst (λ l. Precedes target.orders l (row_values there target.orders)) xs (decides.0 yes)) },
      λ before. decides.1 (subst (λ l. Precedes target.orders l (row_values there target.orders)) (sym (row_values_are at target.orders before.xs before.has)) (subst (Precedes target.orders before.xs) (sym (row_values_are there target.orders before.ys before.other_has)) before.precedes)),
    )
