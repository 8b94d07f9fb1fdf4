-- the laws of queries
use Rattle.std.proofs.Common.{◌≡◌, ◌≢◌, ◌∙◌, ◌⊎◌, inl, inr, ℕ, zero, suc, ◌<◌, Bool, true, false, List, [], ◌∷◌, length, get_or, Option, Some, refl, sym, ap, subst, arith}
use Rattle.document_keys.specs.Names.{Root}
use Rattle.value_model.specs.Data.{Data, Entries, null, reference}
use Rattle.value_model.proofs.Lawful.{ordered}
use Rattle.queries.specs.declared.order.Order.{Order}
use Rattle.queries.specs.declared.target.CollectionTarget.{CollectionTarget}
use Rattle.queries.specs.declared.target.Target.{Target}
use Rattle.queries.specs.declared.target.Target.TheVariants.{Document, Collection}
use Rattle.queries.specs.Checked.{IsChecked, IsCheckedCollection}
use Rattle.queries.specs.Holding.{name_path, reference_to, standing}
use Rattle.queries.specs.Laws.{WholeOrdersAreOne, RowsAreOrdered, AnswersAreOrdered}
use Rattle.queries.specs.Matching.{Matches, MatchesCollection, IsBefore, ComesBefore}
use Rattle.queries.specs.Orders.{paths_of}
use Rattle.queries.specs.Rows.{DirectedBefore, HasValues, Precedes}
use Rattle.queries.proofs.Ordered.{not_itself, values_length}
use Rattle.queries.proofs.Whole.{whole_once}

pub whole_law : WholeOrdersAreOne
whole_law = whole_once

strict : (orders : List Order) (xs : List Data) → Precedes orders xs xs → ⊥
strict [] xs before = before
strict (o ∷ os) [] before = before
strict (o ∷ os) (x ∷ xs) before = elim before as (λ _. ⊥) [ inl here ↦ not_itself o.descending x here | inr there ↦ strict os xs there.1 ]

chained : (d : Bool) (x y z : Data) → DirectedBefore d x y → DirectedBefore d y z → DirectedBefore d x z
chained false x y z xy yz = ordered.transitive x y z xy yz
chained true x y z xy yz = ordered.transitive z y x yz xy

transitive : (orders : List Order) (xs ys zs : List Data) → Precedes orders xs ys → Precedes orders ys zs → Precedes orders xs zs
transitive [] xs ys zs first second = first
transitive (o ∷ os) [] ys zs first second = first
transitive (o ∷ os) (x ∷ xs) [] zs first second = absurd first
transitive (o ∷ os) (x ∷ xs) (y ∷ ys) [] first second = second
transitive (o ∷ os) (x ∷ xs) (y ∷ ys) (z ∷ zs) first second =
    elim first [
      | inl xy ↦ elim second [ inl yz ↦ inl (chained o.descending x y z xy yz) | inr same ↦ inl (subst (DirectedBefore o.descending x) same.0 xy) ]
      | inr same ↦ elim second [ inl yz ↦ inl (subst (λ d. DirectedBefore o.descending d z) (sym same.0) yz) | inr more ↦ inr (same.0 ∙ more.0, transitive os xs ys zs same.1 more.1) ]
    ]

directed_total : (d : Bool) (x y : Data) → DirectedBefore d x y ⊎ ((x ≡ y) ⊎ DirectedBefore d y x)
directed_total false x y = ordered.total x y
directed_total true x y = elim (ordered.total x y) [ inl xy ↦ inr (inr xy) | inr other ↦ elim other [ inl same ↦ inr (inl same) | inr yx ↦ inl yx ] ]

total : (orders : List Order) (xs ys : List Data) → length xs ≡ length orders → length ys ≡ length orders → Precedes orders xs ys ⊎ ((xs ≡ ys) ⊎ Precedes orders ys xs)
total [] [] [] long also = inr (inl refl)
total [] [] (y ∷ ys) long also = absurd (omega arith)
total [] (x ∷ xs) ys long also = absurd (omega arith)
total (o ∷ os) [] ys long also = absurd (omega arith)
total (o ∷ os) (x ∷ xs) [] long also = absurd (omega arith)
total (o ∷ os) (x ∷ xs) (y ∷ ys) long also =
    elim (directed_total o.descending x y) [
      | inl xy ↦ inl (inl xy)
      | inr other ↦ elim other [
        | inl same ↦ elim (total os xs ys (omega arith) (omega arith)) [
          | inl rest ↦ inl (inr (same, rest))
          | inr more ↦ elim more [ inl equal ↦ inr (inl (λ i. same i ∷ equal i)) | inr rest ↦ inr (inr (inr (sym same, rest))) ]
        ]
        | inr yx ↦ inr (inr (inl yx))
      ]
    ]

pub rows_law : RowsAreOrdered
rows_law = record { strict = strict; transitive = transitive; total = total }

-- a document has its values once
values_once : (at : List (List ℕ) → Option Data) (os : List Order) (xs ys : List Data) → HasValues at os xs → HasValues at os ys → xs ≡ ys
values_once at [] [] [] has also = refl
values_once at [] [] (y ∷ ys) has also = absurd also
values_once at [] (x ∷ xs) ys has also = absurd has
values_once at (o ∷ os) [] ys has also = absurd has
values_once at (o ∷ os) (x ∷ xs) [] has also = absurd also
values_once at (o ∷ os) (x ∷ xs) (y ∷ ys) has also =
    let e : Some x ≡ Some y = sym has.0 ∙ also.0 in
    let head : x ≡ y = cc in
    let rest = values_once at os xs ys has.1 also.1 in
    λ i. head i ∷ rest i

-- documents that have the same values have the same name, which is among them
name_value : (root : Root) (key : List (List ℕ)) (fields : Entries) (os : List Order) (xs : List Data) (i : ℕ) → HasValues (standing root key fields) os xs → i < length (paths_of os) → get_or (paths_of os) i name_path ≡ name_path → get_or xs i null ≡ reference_to root key
name_value root key fields [] [] i has inside is = absurd (omega arith)
name_value root key fields [] (x ∷ xs) i has inside is = absurd has
name_value root key fields (o ∷ os) [] i has inside is = absurd has
name_value root key fields (o ∷ os) (x ∷ xs) zero has inside is =
    let there : Some (reference_to root key) ≡ Some x = ap (standing root key fields) (sym is) ∙ has.0 in cc
name_value root key fields (o ∷ os) (x ∷ xs) (suc i) has inside is = name_value root key fields os xs i has.1 (omega arith) is

abbrev named_key : Data → List (List ℕ)
named_key (reference r) = r.key
named_key _ = []

same_key : (root : Root) (key other : List (List ℕ)) → reference_to root key ≡ reference_to root other → key ≡ other
same_key root key other same = ap named_key same

ahead : (target : CollectionTarget) (root : Root) (key : List (List ℕ)) (fields : Entries) (other : List (List ℕ)) (others : Entries) → IsCheckedCollection target → MatchesCollection target root key fields → MatchesCollection target root other others → key ≢ other → ComesBefore target root key fields other others ⊎ ComesBefore target root other others key fields
ahead target root key fields other others checked a b apart =
    let at = standing root key fields in
    let there = standing root other others in
    elim (total target.orders a.values b.values (values_length at target.orders a.values a.ordered) (values_length there target.orders b.values b.ordered)) [
      | inl ab ↦ inl (record { xs = a.values; ys = b.values; has = a.ordered; other_has = b.ordered; precedes = ab })
      | inr more ↦ elim more [
        | inl same ↦
            let mine = name_value root key fields target.orders a.values checked.named.0 a.ordered checked.named.1 checked.named.2 in
            let theirs = name_value root other others target.orders b.values checked.named.0 b.ordered checked.named.1 checked.named.2 in
            absurd (apart (same_key root key other (sym mine ∙ ap (λ xs. get_or xs checked.named.0 null) same ∙ theirs)))
        | inr ba ↦ inr (record { xs = b.values; ys = a.values; has = b.ordered; other_has = a.ordered; precedes = ba })
      ]
    ]

answers_strict : (target : Target) (root : Root) (key : List (List ℕ)) (fields : Entries) → IsBefore target root key fields key fields → ⊥
answers_strict (Document wanted) root key fields before = before
answers_strict (Collection target) root key fields before =
    strict target.orders before.xs (subst (Precedes target.orders before.xs) (values_once (standing root key fields) target.orders before.ys before.xs before.other_has before.has) before.precedes)

answers_total : (target : Target) (root : Root) (key : List (List ℕ)) (fields : Entries) (other : List (List ℕ)) (others : Entries) → IsChecked target → Matches target root key fields → Matches target root other others → key ≢ other → IsBefore target root key fields other others ⊎ IsBefore target root other others key fields
answers_total (Document wanted) root key fields other others checked a b apart = absurd (apart (a ∙ sym b))
answers_total (Collection target) root key fields other others checked a b apart = ahead target root key fields other others checked a b apart

answers_transitive : (target : Target) (root : Root) (key : List (List ℕ)) (fields : Entries) (other : List (List ℕ)) (others : Entries) (last : List (List ℕ)) (lasts : Entries) → IsBefore target root key fields other others → IsBefore target root other others last lasts → IsBefore target root key fields last lasts
answers_transitive (Document wanted) root key fields other others last lasts first second = first
answers_transitive (Collection target) root key fields other others last lasts first second = record {
  xs = first.xs;
  ys = second.ys;
  has = first.has;
  other_has = second.other_has;
  precedes = transitive target.orders first.xs first.ys second.ys first.precedes (subst (λ m. Precedes target.orders m second.ys) (values_once (standing root other others) target.orders second.xs first.ys second.has first.other_has) second.precedes);
}

pub answers_law : AnswersAreOrdered
answers_law = record { strict = answers_strict; transitive = answers_transitive; total = answers_total }
