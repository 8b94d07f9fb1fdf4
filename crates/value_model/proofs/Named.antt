-- the names of fields: that each is a field's name, and that they ascend
use Rattle.std.proofs.Common.{◌≡◌, ◌∙◌, Bool, true, is_ge, ℕ, zero, suc, ◌+◌, ◌-◌, ◌<◌, Less, List, [], ◌∷◌, length, get_or, refl, sym, ap, subst, arith}
use Rattle.std.specs.Cmp.Lexicographic.{slice_cmp}
use Rattle.std.specs.Ordering.{nat_cmp}
use Rattle.std.specs.List.{All, AllPairs, AllAdjacentBelow}
use Rattle.std.specs.Map.{keys_of}
use Rattle.document_keys.specs.Order.{TextBefore}
use Rattle.document_keys.proofs.Order.{texts_compute}
use Rattle.value_model.specs.declared.fields.Field.{Field}
use Rattle.value_model.specs.Named.{fields_data}

pub names_count : (fields : List Field) → length (keys_of (fields_data fields)) ≡ length fields
names_count [] = refl
names_count (x ∷ fields) = ap suc (names_count fields)

-- the name at a place
pub name_at : (fields : List Field) (i : ℕ) (d : Field) (e : List ℕ) → i < length fields → get_or (keys_of (fields_data fields)) i e ≡ (get_or fields i d).name
name_at [] i d e below = absurd (omega arith)
name_at (x ∷ fields) zero d e below = refl
name_at (x ∷ fields) (suc i) d e below = name_at fields i d e (omega arith)

pub names_all : (P : List ℕ → Type 0) (fields : List Field) → All (λ field. P field.name) fields → All P (keys_of (fields_data fields))
names_all P [] all k d below = absurd (omega arith)
names_all P (x ∷ fields) all k d below =
    let count = names_count (x ∷ fields) in
    let here : k < length (x ∷ fields) = omega arith in
    subst P (sym (name_at (x ∷ fields) k x d here)) (all k x here)

pub names_each : (P : List ℕ → Type 0) (fields : List Field) (i : ℕ) (field : Field) → i < length fields → field ≡ get_or fields i field → All P (keys_of (fields_data fields)) → P field.name
names_each P fields i field below is all =
    let count = names_count fields in
    subst P (name_at fields i field field.name below ∙ ap (λ f. f.name) (sym is)) (all i field.name (omega arith))

-- each name below a place and the next one are in order
abbrev pub AdjacentBelow : List Field → ℕ → Type 0
AdjacentBelow fields high = AllAdjacentBelow (λ a b. slice_cmp nat_cmp a.name b.name ≡ Less) fields high

-- names that ascend step by step ascend over any distance
pub chained : (fields : List Field) (i n : ℕ) (d : Field) → AdjacentBelow fields (length fields) → i + suc n < length fields → slice_cmp nat_cmp (get_or fields i d).name (get_or fields (i + suc n) d).name ≡ Less
chained fields i zero d steps inside = steps i d inside
chained fields i (suc n) d steps inside =
    texts_compute.total.trans (get_or fields i d).name (get_or fields (i + suc n) d).name (get_or fields (i + suc (suc n)) d).name (chained fields i n d steps (omega arith))
    (subst (λ k. slice_cmp nat_cmp (get_or fields (i + suc n) d).name (get_or fields k d).name ≡ Less) (let e : i + suc n + 1 ≡ i + suc (suc n) = omega arith in e) (steps (i + suc n) d (omega arith)))

pub ascending_from : (fields : List Field) → AdjacentBelow fields (length fields) → AllPairs TextBefore (keys_of (fields_data fields))
ascending_from [] steps i j d before below = absurd (omega arith)
ascending_from (x ∷ fields) steps i j d before below =
    let all = x ∷ fields in
    let count = names_count all in
    let here : j < length all = omega arith in
    let there : i < length all = omega arith in
    let span : i + suc (j - suc i) ≡ j = omega arith in
    let less : slice_cmp nat_cmp (get_or all i x).name (get_or all j x).name ≡ Less = subst (λ k. slice_cmp nat_cmp (get_or all i x).name (get_or all k x).name ≡ Less) span (chained all i (j - suc i) x steps (omega arith)) in
    texts_compute.below (get_or (keys_of (fields_data all)) i d) (get_or (keys_of (fields_data all)) j d) (ap (λ n. slice_cmp nat_cmp n (get_or (keys_of (fields_data all)) j d)) (name_at all i x d there) ∙ ap (λ n. slice_cmp nat_cmp (get_or all i x).name n) (name_at all j x d here) ∙ less)

-- two names next to each other in an ascending list
pub ascending_step : (fields : List Field) (i j : ℕ) (a b : Field) → i < j → j < length fields → AllPairs TextBefore (keys_of (fields_data fields)) → slice_cmp nat_cmp (get_or fields i a).name (get_or fields j b).name ≡ Less
ascending_step fields i j a b before below all =
    let count = names_count fields in
    let names = keys_of (fields_data fields) in
    let less = texts_compute.less (get_or names i []) (get_or names j []) (all i j [] before (omega arith)) in
    ap (λ n. slice_cmp nat_cmp n (get_or fields j b).name) (sym (name_at fields i a [] (omega arith)))
    ∙ ap (λ n. slice_cmp nat_cmp (get_or names i []) n) (sym (name_at fields j b [] below)) ∙ less

pub not_behind : (m n : List ℕ) (t : Bool) → t ≡ is_ge (slice_cmp nat_cmp m n) → t ≡ true → slice_cmp nat_cmp m n ≡ Less → ⊥
not_behind m n t is told less = let e : t ≡ is_ge Less = is ∙ ap is_ge less in cc
