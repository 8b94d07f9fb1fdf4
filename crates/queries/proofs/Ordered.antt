-- rows compared value by value
use Rattle.std.proofs.Common.{◌≡◌, ◌≢◌, ◌∙◌, inl, inr, ℕ, zero, suc, ◌+◌, ◌<◌, Bool, true, false, List, [], ◌∷◌, ◌++◌, length, take, get_or, Option, Some, Ordering, Less, Equal, Greater, refl, sym, ap, subst, arith}
use Rattle.std.proofs.lemmas.List.{take_all, take_more}
use Rattle.std.proofs.lemmas.List.Elements.{All-head, All-tail}
use Rattle.std.specs.List.{All}
use Rattle.std.specs.Prelude.{unwrap_or}
use Rattle.value_model.specs.Data.{Data, null}
use Rattle.value_model.proofs.Lawful.{ordered}
use Rattle.queries.specs.declared.order.Order.{Order}
use Rattle.queries.specs.Rows.{DirectedBefore, HasValues, Precedes, RanksDirected, RanksRows, row_values}

pub not_itself : (d : Bool) (x : Data) → DirectedBefore d x x → ⊥
not_itself false x before = ordered.strict x before
not_itself true x before = ordered.strict x before

-- a document has as many values as there are orders, and at each order's field the one for it
pub values_length : (at : List (List ℕ) → Option Data) (os : List Order) (xs : List Data) → HasValues at os xs → length xs ≡ length os
values_length at [] [] has = refl
values_length at [] (x ∷ xs) has = absurd has
values_length at (o ∷ os) [] has = absurd has
values_length at (o ∷ os) (x ∷ xs) has = ap suc (values_length at os xs has.1)

value_for : (at : List (List ℕ) → Option Data) (os : List Order) (xs : List Data) (i : ℕ) (o : Order) (x : Data) → HasValues at os xs → i < length os → at (get_or os i o).path ≡ Some (get_or xs i x)
value_for at [] [] i o x has below = absurd (omega arith)
value_for at [] (y ∷ xs) i o x has below = absurd has
value_for at (p ∷ os) [] i o x has below = absurd has
value_for at (p ∷ os) (y ∷ xs) zero o x has below = has.0
value_for at (p ∷ os) (y ∷ xs) (suc i) o x has below = value_for at os xs i o x has.1 (omega arith)

-- the value at an order's field
pub value_there : (at : List (List ℕ) → Option Data) (os : List Order) (xs : List Data) (i : ℕ) (o : Order) (x : Data) → HasValues at os xs → i < length os → o ≡ get_or os i o → at o.path ≡ Some x → x ≡ get_or xs i x
value_there at os xs i o x has below is there =
    let e : Some x ≡ Some (get_or xs i x) = sym there ∙ ap (λ (p : Order). at p.path) is ∙ value_for at os xs i o x has below in cc

-- what is the same so far, and the first values that differ
pub rows_apart : (os : List Order) (xs ys : List Data) (i : ℕ) (o : Order) (x y : Data) (r : Ordering) → i < length os → i < length xs → i < length ys → take i xs ≡ take i ys → RanksDirected (get_or os i o).descending (get_or xs i x) (get_or ys i y) r → r ≢ Equal → RanksRows os xs ys r
rows_apart [] xs ys i o x y r in_os in_xs in_ys same ranks apart = absurd (omega arith)
rows_apart (p ∷ os) [] ys i o x y r in_os in_xs in_ys same ranks apart = absurd (omega arith)
rows_apart (p ∷ os) (a ∷ xs) [] i o x y r in_os in_xs in_ys same ranks apart = absurd (omega arith)
rows_apart (p ∷ os) (a ∷ xs) (b ∷ ys) zero o x y r in_os in_xs in_ys same ranks apart = record {
  less = (λ e. inl (ranks.less.0 e), λ before. elim before as (λ _. r ≡ Less) [ inl here ↦ ranks.less.1 here | inr there ↦ absurd (apart (ranks.equal.1 there.0)) ]);
  greater = (λ e. inl (ranks.greater.0 e), λ before. elim before as (λ _. r ≡ Greater) [ inl here ↦ ranks.greater.1 here | inr there ↦ absurd (apart (ranks.equal.1 (sym there.0))) ]);
  equal = (λ e. absurd (apart e), λ e. absurd (apart (ranks.equal.1 (let f : a ≡ b = cc in f))));
}
rows_apart (p ∷ os) (a ∷ xs) (b ∷ ys) (suc i) o x y r in_os in_xs in_ys same ranks apart =
    let heads : a ≡ b = cc in
    let tails : take i xs ≡ take i ys = cc in
    let rest = rows_apart os xs ys i o x y r (omega arith) (omega arith) (omega arith) tails ranks apart in
    record {
      less = (λ e. inr (heads, rest.less.0 e), λ before. elim before as (λ _. r ≡ Less) [ inl here ↦ absurd (not_itself p.descending b (subst (λ d. DirectedBefore p.descending d b) heads here)) | inr there ↦ rest.less.1 there.1 ]);
      greater = (λ e. inr (sym heads, rest.greater.0 e), λ before. elim before as (λ _. r ≡ Greater) [ inl here ↦ absurd (not_itself p.descending b (subst (λ d. DirectedBefore p.descending b d) heads here)) | inr there ↦ rest.greater.1 there.1 ]);
      equal = (λ e. absurd (apart e), λ e. absurd (apart (rest.equal.1 (let f : take (length ys) xs ≡ ys = cc in f))));
    }

-- lists that are the same as far as the second goes
none_precedes : (os : List Order) (xs ys : List Data) → take (length ys) xs ≡ ys → Precedes os xs ys → ⊥
none_precedes [] xs ys same before = before
none_precedes (o ∷ os) [] ys same before = before
none_precedes (o ∷ os) (x ∷ xs) [] same before = before
none_precedes (o ∷ os) (x ∷ xs) (y ∷ ys) same before =
    let heads : x ≡ y = cc in
    let tails : take (length ys) xs ≡ ys = cc in
    elim before as (λ _. ⊥) [ inl here ↦ not_itself o.descending y (subst (λ d. DirectedBefore o.descending d y) heads here) | inr there ↦ none_precedes os xs ys tails there.1 ]

none_follows : (os : List Order) (xs ys : List Data) → take (length ys) xs ≡ ys → Precedes os ys xs → ⊥
none_follows [] xs ys same before = before
none_follows (o ∷ os) xs [] same before = before
none_follows (o ∷ os) [] (y ∷ ys) same before = before
none_follows (o ∷ os) (x ∷ xs) (y ∷ ys) same before =
    let heads : x ≡ y = cc in
    let tails : take (length ys) xs ≡ ys = cc in
    elim before as (λ _. ⊥) [ inl here ↦ not_itself o.descending y (subst (λ d. DirectedBefore o.descending y d) heads here) | inr there ↦ none_follows os xs ys tails there.1 ]

pub rows_tie : (os : List Order) (xs ys : List Data) (i : ℕ) → i ≡ length ys → take i xs ≡ take i ys → RanksRows os xs ys Equal
rows_tie os xs ys i done same =
    let whole : take (length ys) xs ≡ ys = subst (λ n. take n xs ≡ take n ys) done same ∙ take_all (length ys) ys (omega arith) in
    record {
      less = (λ e. cc, λ before. absurd (none_precedes os xs ys whole before));
      greater = (λ e. cc, λ before. absurd (none_follows os xs ys whole before));
      equal = (λ e. whole, λ e. refl);
    }

-- an order's field is there
abbrev pub IsThere : (List (List ℕ) → Option Data) → Order → Type 0
IsThere at o = (x : Data) × (at o.path ≡ Some x)

pub all_there : (at : List (List ℕ) → Option Data) (os : List Order) → All (IsThere at) os → (xs : List Data) × HasValues at os xs
all_there at [] all = ([], tt)
all_there at (o ∷ os) all =
    let first = All-head (IsThere at) o os all in
    let rest = all_there at os (All-tail (IsThere at) o os all) in
    (first.0 ∷ rest.0, (first.1, rest.1))

-- a document that has the values has one at each order's field
pub value_of : (at : List (List ℕ) → Option Data) (os : List Order) (xs : List Data) (i : ℕ) (o : Order) (d : Data) → HasValues at os xs → i < length os → o ≡ get_or os i o → at o.path ≡ Some (get_or xs i d)
value_of at os xs i o d has below is = ap (λ (p : Order). at p.path) is ∙ value_for at os xs i o d has below

-- the first values that differ, and values that don't
pub rows_differ : (os : List Order) (xs ys : List Data) (i : ℕ) (o : Order) (d e x y : Data) (r : Ordering) → i < length os → i < length xs → i < length ys → take i xs ≡ take i ys → o ≡ get_or os i o → x ≡ get_or xs i d → y ≡ get_or ys i e → RanksDirected o.descending x y r → r ≢ Equal → RanksRows os xs ys r
rows_differ os xs ys i o d e x y r in_os in_xs in_ys same order_is x_is y_is ranks apart =
    let at_y = subst (λ b. RanksDirected o.descending x b r) y_is ranks in
    let at_x = subst (λ a. RanksDirected o.descending a (get_or ys i e) r) x_is at_y in
    rows_apart os xs ys i o d e r in_os in_xs in_ys same (subst (λ (p : Order). RanksDirected p.descending (get_or xs i d) (get_or ys i e) r) order_is at_x) apart

pub rows_go_on : (xs ys : List Data) (i : ℕ) (d e x y : Data) → i < length xs → i < length ys → take i xs ≡ take i ys → x ≡ get_or xs i d → y ≡ get_or ys i e → x ≡ y → take (i + 1) xs ≡ take (i + 1) ys
rows_go_on xs ys i d e x y in_xs in_ys same x_is y_is tie =
    take_more xs i d in_xs ∙ (λ k. same k ++ (sym x_is ∙ tie ∙ y_is) k ∷ []) ∙ sym (take_more ys i e in_ys)

-- with null for what is missing a document has as many values as there are orders
pub row_values_length : (at : List (List ℕ) → Option Data) (os : List Order) → length (row_values at os) ≡ length os
row_values_length at [] = refl
row_values_length at (o ∷ os) = ap suc (row_values_length at os)

row_value_for : (at : List (List ℕ) → Option Data) (os : List Order) (i : ℕ) (o : Order) (d : Data) → i < length os → unwrap_or (at (get_or os i o).path) null ≡ get_or (row_values at os) i d
row_value_for at [] i o d below = absurd (omega arith)
row_value_for at (p ∷ os) zero o d below = refl
row_value_for at (p ∷ os) (suc i) o d below = row_value_for at os i o d (omega arith)

pub row_value_of : (at : List (List ℕ) → Option Data) (os : List Order) (i : ℕ) (o : Order) (d : Data) → i < length os → o ≡ get_or os i o → unwrap_or (at o.path) null ≡ get_or (row_values at os) i d
row_value_of at os i o d below is = ap (λ (p : Order). unwrap_or (at p.path) null) is ∙ row_value_for at os i o d below

-- where nothing is missing they are the document's values
pub row_values_are : (at : List (List ℕ) → Option Data) (os : List Order) (xs : List Data) → HasValues at os xs → row_values at os ≡ xs
row_values_are at [] [] has = refl
row_values_are at [] (x ∷ xs) has = absurd has
row_values_are at (o ∷ os) [] has = absurd has
row_values_are at (o ∷ os) (x ∷ xs) has =
    let first : unwrap_or (at o.path) null ≡ x = ap (λ v. unwrap_or v null) has.0 in
    let rest = row_values_are at os xs has.1 in
    λ i. first i ∷ rest i
