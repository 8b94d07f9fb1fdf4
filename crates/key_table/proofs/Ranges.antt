-- where the documents of a collection stand among all keys in their order
use Rattle.std.proofs.Common.{◌≡◌, ◌≢◌, ◌∙◌, ℕ, zero, suc, ◌+◌, ◌<◌, Bool, true, false, not, ◌&&◌, cond, IsTrue, nat_eq, ◌⊎◌, inl, inr, List, [], ◌∷◌, ◌++◌, length, take, drop, Some, None, Ordering, Less, Equal, Greater, refl, sym, ap, subst, arith}
use Rattle.std.specs.Cmp.{tied_itself}
use Rattle.std.specs.BTreeMap.Range.{range_contains}
use Rattle.std.specs.Cmp.Lexicographic.{bytes_decides, pointwise, slice_cmp}
use Rattle.std.specs.List.{All, Contains, filter, slice_get}
use Rattle.std.specs.List.Sorted.{IsStrictlySortedBy}
use Rattle.std.specs.declared.ops.Bound.TheVariants.{Included, Unbounded}
use Rattle.std.specs.Ordering.{is_le, nat_cmp, ordering_reverse, ordering_then}
use Rattle.std.proofs.lemmas.List.{get_or_append_left, length-append, take-append-drop, take_more}
use Rattle.std.proofs.lemmas.List.Elements.{All-contains, All-contains_itself, All-filter, Contains-append_cases, Contains-append_left, Contains-append_right, filter_passes}
use Rattle.std.proofs.lemmas.List.Kept.{IsStrictlySortedBy-filter}
use Rattle.std.proofs.lemmas.Option.{get_or_from_slice_get, slice_get-get_or, slice_get_within}
use Rattle.document_keys.specs.Order.{differs}
use Rattle.document_keys.proofs.Order.{texts_compute}
use Rattle.key_table.specs.Ranges.{IsBelow, least_in}

-- a path below the collection has its segments
same_at : (collection path : List (List ℕ)) (i : ℕ) → IsBelow collection path → i < length collection → slice_get path i ≡ slice_get collection i
same_at collection path i (rest, is) inside =
    let long = length-append collection rest in
    rw is (slice_get-get_or (collection ++ rest) i [] (omega (arith, long)) ∙ ap Some (get_or_append_left collection rest [] i inside) ∙ sym (slice_get-get_or collection i [] inside))

pub none_at : (collection path : List (List ℕ)) (i : ℕ) → slice_get path i ≡ None → i < length collection → ¬ (IsBelow collection path)
none_at collection path i none inside below = let at = sym none ∙ same_at collection path i below inside ∙ slice_get-get_or collection i [] inside in cc

pub other_at : (collection path : List (List ℕ)) (i : ℕ) → slice_get path i ≢ slice_get collection i → i < length collection → ¬ (IsBelow collection path)
other_at collection path i other inside below = other (same_at collection path i below inside)

not_false : (b : Bool) → false ≡ not b → b ≡ true
not_false true e = refl
not_false false e = cc

pub equal_texts : (x y : List ℕ) → false ≡ not (pointwise nat_eq x y) → x ≡ y
equal_texts x y e = (bytes_decides x y).0 (not_false _ e)

pub other_texts : (x y : List ℕ) → true ≡ not (pointwise nat_eq x y) → x ≢ y
other_texts x y e same = let yes = (bytes_decides x y).1 same in cc

-- one segment more is the same
pub same_more : (collection path : List (List ℕ)) (i : ℕ) (segment : List ℕ) → take i path ≡ take i collection → slice_get path i ≡ Some segment → slice_get collection i ≡ Some segment → take (i + 1) path ≡ take (i + 1) collection
same_more collection path i segment so_far here there =
    take_more path i [] (slice_get_within path i segment here) ∙ (λ j. so_far j ++ (get_or_from_slice_get path i segment [] here ∙ sym (get_or_from_slice_get collection i segment [] there)) j ∷ []) ∙ sym (take_more collection i [] (slice_get_within collection i segment there))

pub all_same : (collection path : List (List ℕ)) (i : ℕ) → take i path ≡ take i collection → take i collection ≡ collection → IsBelow collection path
all_same collection path i so_far all = (drop i path, sym (take-append-drop i path) ∙ ap (λ front. front ++ drop i path) (so_far ∙ all))

abbrev pub order : List (List ℕ) → List (List ℕ) → Ordering
order = slice_cmp (slice_cmp nat_cmp)

-- what stands between two paths below the collection is below it
pub between : (collection a b path : List (List ℕ)) → IsTrue (is_le (order (collection ++ a) path)) → order path (collection ++ b) ≡ Less → IsBelow collection path
between [] a b path low high = (path, refl)
between (x ∷ collection) a b [] low high = cc
between (x ∷ collection) a b (y ∷ path) low high = by (slice_cmp nat_cmp x y) refl (between collection a b path)
  where
    by : (o : Ordering) → slice_cmp nat_cmp x y ≡ o → (IsTrue (is_le (order (collection ++ a) path)) → order path (collection ++ b) ≡ Less → IsBelow collection path) → IsBelow (x ∷ collection) (y ∷ path)
    by Less is further = let turned : slice_cmp nat_cmp y x ≡ Greater = texts_compute.total.antisymm y x ∙ ap ordering_reverse is in let h = rw turned at high in cc
    by Equal is further =
        let turned : slice_cmp nat_cmp y x ≡ Equal = texts_compute.total.antisymm y x ∙ ap ordering_reverse is in
        let rest = further (rw is at low) (rw turned at high) in
        (rest.0, λ i. sym (texts_compute.exact x y is) i ∷ rest.1 i)
    by Greater is further = let h = rw is at low in cc

least_id : (id : List ℕ) → 0 < length id → IsTrue (is_le (slice_cmp nat_cmp (0 ∷ []) id))
least_id [] some = absurd (omega arith)
least_id (zero ∷ []) some = refl
least_id (zero ∷ y ∷ id) some = refl
least_id (suc x ∷ id) some = rw (texts_compute.less (0 ∷ []) (suc x ∷ id) (differs [] 0 (suc x) [] id (omega arith))) refl

-- no document of the collection stands before the least key
pub from_least : (collection : List (List ℕ)) (id : List ℕ) → 0 < length id → IsTrue (is_le (order (least_in collection) (collection ++ id ∷ [])))
from_least [] id some = by (slice_cmp nat_cmp (0 ∷ []) id) (least_id id some)
  where
    by : (o : Ordering) → IsTrue (is_le o) → IsTrue (is_le (ordering_then o Equal))
    by Less le = refl
    by Equal le = refl
    by Greater le = cc
from_least (x ∷ collection) id some = rw (tied_itself texts_compute.total x) (from_least collection id some)

-- the path isn't before the least key of the collection
abbrev pub IsFrom : List (List ℕ) → List (List ℕ) → Type 0
IsFrom collection path = IsTrue (is_le (order (least_in collection) path))

left_true : (b : Bool) → (b && true) ≡ true → b ≡ true
left_true true e = refl
left_true false e = cc

pub only : {X : Type 0} (x y : X) → Contains (x ∷ []) y → x ≡ y
only x y (zero, below, is) = is
only x y (suc i, below, is) = absurd (omega arith)

-- the part of some keys from the least one on
abbrev pub part : List (List ℕ) → List (List (List ℕ)) → List (List (List ℕ))
part collection keys = filter (range_contains order (Included (least_in collection)) Unbounded) keys

pub part_is : (collection least : List (List ℕ)) (keys range whole : List (List (List ℕ))) → least ≡ least_in collection → range ≡ filter (range_contains order (Included least) Unbounded) keys → whole ≡ range → whole ≡ part collection keys
part_is collection least keys range whole is between is_range = is_range ∙ between ∙ ap (λ k. filter (range_contains order (Included k) Unbounded) keys) is

pub part_from : (collection : List (List ℕ)) (keys : List (List (List ℕ))) → All (IsFrom collection) (part collection keys)
part_from collection keys = λ i d below. left_true _ (filter_passes (range_contains order (Included (least_in collection)) Unbounded) keys i d below)

pub part_sorted : (collection : List (List ℕ)) (keys : List (List (List ℕ))) → IsStrictlySortedBy order keys → IsStrictlySortedBy order (part collection keys)
part_sorted collection keys sorted = IsStrictlySortedBy-filter order (range_contains order (Included (least_in collection)) Unbounded) keys sorted

kept : (p : List (List ℕ) → Bool) (keys : List (List (List ℕ))) (q : List (List ℕ)) → p q ≡ true → Contains keys q → Contains (filter p keys) q
kept p [] q passes there = there
kept p (k ∷ keys) q passes there = by (p k) refl (kept p keys q passes) (Contains-append_cases (k ∷ []) keys q there)
  where
    by : (b : Bool) → p k ≡ b → (Contains keys q → Contains (filter p keys) q) → Contains (k ∷ []) q ⊎ Contains keys q → Contains (cond b (k ∷ filter p keys) (filter p keys)) q
    by true is further (inl here) = Contains-append_left (k ∷ []) (filter p keys) q here
    by true is further (inr behind) = Contains-append_right (k ∷ []) (filter p keys) q (further behind)
    by false is further (inl here) = let same = only k q here in let no = subst (λ z. p z ≡ false) same is in cc
    by false is further (inr behind) = further behind

pub in_part : (collection : List (List ℕ)) (keys : List (List (List ℕ))) (q : List (List ℕ)) → IsFrom collection q → Contains keys q → Contains (part collection keys) q
in_part collection keys q from there = kept (range_contains order (Included (least_in collection)) Unbounded) keys q (ap (λ b. b && true) from) there

pub in_whole : (collection : List (List ℕ)) (keys : List (List (List ℕ))) (q : List (List ℕ)) → Contains (part collection keys) q → Contains keys q
in_whole collection keys q there = All-contains (Contains keys) (part collection keys) q (All-filter (range_contains order (Included (least_in collection)) Unbounded) (Contains keys) keys (All-contains_itself keys)) there
