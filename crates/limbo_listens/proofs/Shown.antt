-- the keys that are shown, by listener and all together
use Rattle.std.proofs.Common.{◌≡◌, ◌∙◌, ◌↔◌, inl, inr, ℕ, suc, Bool, IsTrue, true, false, cond, List, [], ◌∷◌, ◌++◌, length, get_or, Option, Some, Result, Ok, Err, IfOk, refl, sym, ap, subst, append-nil, arith}
use Rattle.std.specs.BTreeMap as tree
use Rattle.std.specs.BTreeMap.{BTreeMap}
use Rattle.std.specs.Cmp.{nat_cmp_total}
use Rattle.std.specs.Cmp.Lexicographic.{pointwise}
use Rattle.std.specs.Prelude.{nat_eq}
use Rattle.std.proofs.lemmas.Bool.Decides.{Decides-eqb}
use Rattle.std.proofs.lemmas.Slice.Eq.{slice_eq-Decides}
use Rattle.std.specs.List.{Contains, flat_map, slice_get}
use Rattle.std.specs.List.Sorted.{IsPermutation}
use Rattle.std.specs.Map.{lookup}
use Rattle.std.specs.Option.{unwrap_or}
use Rattle.std.specs.Ordering.{nat_cmp}
use Rattle.std.proofs.lemmas.List.Elements.{Contains-append_cases, Contains-append_left, Contains-append_right}
use Rattle.std.proofs.lemmas.List.Sorted.{Contains-permutation, IsPermutation-sym}
use Rattle.std.proofs.lemmas.Map.Entries.{btree_map_get_place}
use Rattle.document_keys.specs.KeySet.{Inserts, IsAscending}
use Rattle.limbo_resolver.specs.Limbo.{Key, Limbo}
use Rattle.limbo_listens.specs.Listens.{AreInLimbo, IsInLimbo, Listens, is_id, limbo_at}

abbrev Shown : Type 0
Shown = List (ℕ × List Key)

abbrev pub all_of : Shown → List Key
all_of shown = flat_map (λ p. p.1) shown

pub none_here : (key : Key) → Contains [] key → ⊥
none_here key there = absurd (let inside = there.1 in omega arith)

-- where the key stands
place_in : (shown : Shown) (key : Key) → Contains (all_of shown) key → (i : ℕ) × (id : ℕ) × (keys : List Key) × (slice_get shown i ≡ Some (id, keys)) × Contains keys key
place_in [] key there = absurd (none_here key there)
place_in (e ∷ shown) key there = elim (Contains-append_cases e.1 (all_of shown) key there) [
  | inl here ↦ (0, e.0, e.1, refl, here)
  | inr later ↦ (let found = place_in shown key later in (suc found.0, found.1, found.2, found.3, found.4))
]

-- what a look-up finds is among all
found_in : (test : ℕ → Bool) (shown : Shown) (key : Key) → Contains (unwrap_or (lookup test shown) []) key → Contains (all_of shown) key
found_in test [] key there = there
found_in test (e ∷ shown) key there = go (test e.0) (found_in test shown key) there
  where
    go : (b : Bool) → (Contains (unwrap_or (lookup test shown) []) key → Contains (all_of shown) key) → Contains (unwrap_or (cond b (Some e.1) (lookup test shown)) []) key → Contains (e.1 ++ all_of shown) key
    go true rest there = Contains-append_left e.1 (all_of shown) key there
    go false rest there = Contains-append_right e.1 (all_of shown) key (rest there)

pub all_in_limbo : (map : BTreeMap ℕ (List Key)) (limbo : Limbo) → tree.IsOrdered nat_cmp map → (key : Key) → Contains (all_of map.entries) key ↔ IsInLimbo (record { shown = map.entries; limbo = limbo }) key
all_in_limbo map limbo ordered key = (there, λ shows. found_in (is_id shows.0) map.entries key shows.1)
  where
    there : Contains (all_of map.entries) key → IsInLimbo (record { shown = map.entries; limbo = limbo }) key
    there among =
        let found = place_in map.entries key among in
        let at = btree_map_get_place nat_cmp_total map found.0 found.1 found.2 ordered found.3 in
        (found.1, subst (λ (o : Option (List Key)). Contains (unwrap_or o []) key) (sym at) found.4)

-- the set of them
pub are_in_limbo : (map : BTreeMap ℕ (List Key)) (limbo : Limbo) (keys : List Key) → tree.IsOrdered nat_cmp map → IsAscending keys → ((key : Key) → Contains keys key ↔ Contains (all_of map.entries) key) → AreInLimbo (record { shown = map.entries; limbo = limbo }) keys
are_in_limbo map limbo keys ordered ascending members = record {
  ascending = ascending;
  each = λ key. let all = all_in_limbo map limbo ordered key in (λ has. all.0 ((members key).0 has), λ shows. (members key).1 (all.1 shows));
}

-- listeners with the same keys
pub are_same : (a b : Listens) (keys : List Key) → ((id : ℕ) → limbo_at b id ≡ limbo_at a id) → AreInLimbo a keys → AreInLimbo b keys
are_same a b keys same are = record {
  ascending = are.ascending;
  each = λ key. (
    λ has. (let shows = (are.each key).0 has in (shows.0, subst (λ l. Contains l key) (sym (same shows.0)) shows.1)),
    λ shows. (are.each key).1 (shows.0, subst (λ l. Contains l key) (same shows.0) shows.1),
  );
}

-- ---- the keys put into a set one by one

only_it : (key k : Key) → Contains (key ∷ []) k → k ≡ key
only_it key k there = let inside = there.1 in let first : there.0 ≡ 0 = omega arith in sym there.2 ∙ ap (λ i. get_or (key ∷ []) i k) first

pub one_more : (so_far now next : List Key) (key : Key) → ((k : Key) → Contains now k ↔ Contains so_far k) → Inserts key now next → (k : Key) → Contains next k ↔ Contains (so_far ++ key ∷ []) k
one_more so_far now next key members inserts k = (there, back)
  where
    there : Contains next k → Contains (so_far ++ key ∷ []) k
    there has = elim ((inserts k).0 has) [
      | inl same ↦ Contains-append_right so_far (key ∷ []) k (0, omega arith, sym same)
      | inr before ↦ Contains-append_left so_far (key ∷ []) k ((members k).0 before)
    ]

    back : Contains (so_far ++ key ∷ []) k → Contains next k
    back has = elim (Contains-append_cases so_far (key ∷ []) k has) [
      | inl before ↦ (inserts k).1 (inr ((members k).1 before))
      | inr here ↦ (inserts k).1 (inl (only_it key k here))
    ]

pub at_end : (all so_far rest : List Key) → all ≡ so_far ++ rest → length rest ≡ 0 → so_far ≡ all
at_end all so_far [] split none = sym (split ∙ append-nil so_far)
at_end all so_far (key ∷ rest) split none = cc

-- whatever their order
pub sorted_members : {E : Type 0} (shown : Shown) (all sorted : List Key) (result : Result (List Key) E) → all ≡ all_of shown → IsPermutation all sorted → IfOk result (λ keys. (key : Key) → Contains keys key ↔ Contains sorted key) → IfOk result (λ keys. (key : Key) → Contains keys key ↔ Contains (all_of shown) key)
sorted_members shown all sorted (Err e) is order members = tt
sorted_members shown all sorted (Ok keys) is order members = λ key. (
  λ has. subst (λ l. Contains l key) is (Contains-permutation sorted all key (IsPermutation-sym all sorted order) ((members key).0 has)),
  λ has. (members key).1 (Contains-permutation all sorted key order (subst (λ l. Contains l key) (sym is) has)),
)

-- what `==` of two lists of keys says
pub same_lists : (a b : List Key) (r : Bool) → r ≡ pointwise (pointwise (pointwise nat_eq)) a b → IsTrue r → a ≡ b
same_lists a b r is same = (slice_eq-Decides (λ x y. slice_eq-Decides (λ s t. slice_eq-Decides Decides-eqb s t _ refl) x y _ refl) a b r is).0 same
