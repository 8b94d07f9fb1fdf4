-- those of some targets of which something holds
use Rattle.std.proofs.Common.{◌≡◌, ◌↔◌, ◌⊎◌, ⊎_elim, ℕ, ◌+◌, ◌<◌, ◌≤◌, suc, zero, ℤ, ◌<ℤ◌, List, [], ◌∷◌, ◌++◌, take, length, get_or, Less, refl, sym, ap, subst, ◌∙◌, arith}
use Rattle.std.specs.BTreeSet.{BTreeSet}
use Rattle.std.specs.BTreeSet as set
use Rattle.std.specs.Cmp.{int_ranks}
use Rattle.std.specs.List.{All, AllPairs, Contains}
use Rattle.std.specs.Ordering.{MatchOrdering, int_cmp}
use Rattle.std.proofs.lemmas.Cmp.{int_cmp_total}
use Rattle.std.proofs.lemmas.Map.Keys.{Less-from_sorted}
use Rattle.std.proofs.lemmas.Map.Lookups.{exact_signed}
use Rattle.std.proofs.lemmas.Map.Views.{btree_set_contains_from_list, btree_set_contains_iff}
use Rattle.std.proofs.lemmas.List.{take_more, get_or-take, length-take-le}
use Rattle.std.proofs.lemmas.List.Quantifiers.{all_pairs_push}
use Rattle.std.proofs.lemmas.List.Elements.{All-contains, All-from_get_or, Contains-get_or, Contains-append_left, Contains-push, Contains-push_cases}
use Rattle.sync_engine.specs.Requesting.{Picked}

-- an item inside a list is the same with any default
pub item_at : {X : Type 0} (l : List X) (i : ℕ) (d e : X) → i < length l → get_or l i d ≡ get_or l i e
item_at [] i d e inside = absurd (omega (arith, inside))
item_at (x ∷ l) zero d e inside = refl
item_at (x ∷ l) (suc i) d e inside = item_at l i d e (omega (arith, inside))

-- of what holds of the same targets the same are picked
pub picked_with : (P Q : ℤ → Type 0) (ids those : List ℤ) → ((t : ℤ) → P t ↔ Q t) → Picked P ids those → Picked Q ids those
picked_with P Q ids those same it = record {
  ascending = it.ascending;
  each = λ t. (
    λ there. let both = (it.each t).0 there in (both.0, (same t).0 both.1),
    λ both. (it.each t).1 (both.0, (same t).1 both.1),
  );
}

-- one target more of those in front
pub taken_more : (ids : List ℤ) (n : ℕ) (x : ℤ) → n < length ids → x ≡ get_or ids n x → take (n + 1) ids ≡ take n ids ++ x ∷ []
taken_more ids n x inside at = take_more ids n x inside ∙ ap (λ y. take n ids ++ y ∷ []) (sym at)

-- one target more
module _ (P : ℤ → Type 0) (ids those : List ℤ) (n : ℕ) (x : ℤ) (ascending : AllPairs ◌<ℤ◌ ids) (inside : n < length ids) (at : x ≡ get_or ids n x) (it : Picked P (take n ids) those) where
  grown : take (n + 1) ids ≡ take n ids ++ x ∷ []
  grown = taken_more ids n x inside at

  -- those in front are lower
  lowers : All (λ (t : ℤ). t <ℤ x) (take n ids)
  lowers = All-from_get_or (λ (t : ℤ). t <ℤ x) (take n ids) x (λ i within.
      let few : n ≤ length ids = omega (arith, inside) in
      let short : i < n = omega (arith, within, length-take-le n ids few) in
      subst (λ (y : ℤ). y <ℤ x) (sym (get_or-take n ids i x short)) (subst (λ (y : ℤ). get_or ids i x <ℤ y) (sym at) (ascending i n x short inside)))

  lower : (t : ℤ) → Contains those t → t <ℤ x
  lower t there = All-contains (λ (u : ℤ). u <ℤ x) (take n ids) t lowers ((it.each t).0 there).0

  in_grown : (t : ℤ) → Contains (take n ids ++ x ∷ []) t → Contains (take (n + 1) ids) t
  in_grown t there = subst (λ (l : List ℤ). Contains l t) (sym grown) there

  of_grown : (t : ℤ) → Contains (take (n + 1) ids) t → Contains (take n ids) t ⊎ (x ≡ t)
  of_grown t there = Contains-push_cases (take n ids) x t (subst (λ (l : List ℤ). Contains l t) grown there)

  pub picked_one : P x → Picked P (take (n + 1) ids) (those ++ x ∷ [])
  picked_one holds = record {
    ascending = all_pairs_push ◌<ℤ◌ those x it.ascending (λ k d within. lower (get_or those k d) (Contains-get_or those k d within));
    each = λ t. (
      λ there. ⊎_elim
          (λ (was : Contains those t). let both = (it.each t).0 was in (in_grown t (Contains-append_left (take n ids) (x ∷ []) t both.0), both.1))
          (λ (same : x ≡ t). subst (λ (u : ℤ). Contains (take (n + 1) ids) u × P u) same (in_grown x (Contains-push (take n ids) x), holds))
          (Contains-push_cases those x t there),
      λ both. ⊎_elim
          (λ (was : Contains (take n ids) t). Contains-append_left those (x ∷ []) t ((it.each t).1 (was, both.1)))
          (λ (same : x ≡ t). subst (Contains (those ++ x ∷ [])) same (Contains-push those x))
          (of_grown t both.0),
    );
  }

  pub picked_less : (P x → ⊥) → Picked P (take (n + 1) ids) those
  picked_less never = record {
    ascending = it.ascending;
    each = λ t. (
      λ there. let both = (it.each t).0 there in (in_grown t (Contains-append_left (take n ids) (x ∷ []) t both.0), both.1),
      λ both. ⊎_elim
          (λ (was : Contains (take n ids) t). (it.each t).1 (was, both.1))
          (λ (same : x ≡ t). absurd (never (subst P (sym same) both.1)))
          (of_grown t both.0),
    );
  }

-- ---- sets of ids

less_is : (x y : ℤ) → int_cmp x y ≡ Less → x <ℤ y
less_is x y is = subst (λ o. MatchOrdering o (x <ℤ y) (x ≡ y) (y <ℤ x)) is (int_ranks x y)

-- the items of a set ascend
pub ids_ascend : (s : BTreeSet ℤ) (ids : List ℤ) → set.IsOrdered int_cmp s → ids ≡ s.keys → AllPairs ◌<ℤ◌ ids
ids_ascend s ids ordered same i j d before inside =
    let all = ap (λ (l : List ℤ). length l) same in
    subst (λ (l : List ℤ). get_or l i d <ℤ get_or l j d) (sym same) (less_is (get_or s.keys i d) (get_or s.keys j d) (Less-from_sorted int_cmp s.keys i j d ordered before (omega (arith, inside, all))))

-- they are those of which the set was made
pub ids_members : (s : BTreeSet ℤ) (ids from : List ℤ) → set.IsFromIterResult int_cmp from s → ids ≡ s.keys → (t : ℤ) → Contains ids t ↔ Contains from t
ids_members s ids from made same t =
    let has = btree_set_contains_iff int_cmp_total exact_signed s t in
    let is = btree_set_contains_from_list int_cmp_total exact_signed from s made t in
    (λ there. is.0 (has.1 (subst (λ (l : List ℤ). Contains l t) same there)), λ there. subst (λ (l : List ℤ). Contains l t) (sym same) (has.0 (is.1 there)))
