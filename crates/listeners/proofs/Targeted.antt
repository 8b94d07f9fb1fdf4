-- the ids of listeners at their targets
use Rattle.std.proofs.Common.{◌≡◌, ◌≢◌, ◌∙◌, ◌↔◌, ◌<◌, ◌<ℤ◌, ℕ, ℤ, Bool, true, false, ◌&&◌, cond, IsTrue, List, [], ◌∷◌, length, Option, Some, None, Result, Ok, Err, IfOk, OnOk, Less, arith, refl, sym, ap, subst}
use Rattle.std.specs.BTreeMap as tree
use Rattle.std.specs.BTreeMap.{BTreeMap}
use Rattle.std.specs.BTreeSet as set
use Rattle.std.specs.BTreeSet.{BTreeSet}
use Rattle.std.specs.Cmp.{int_cmp_total, int_ranks, nat_cmp_total, tied_itself}
use Rattle.std.specs.List.{AllPairs, Contains}
use Rattle.std.specs.List.Sorted.{IsStrictlySortedBy}
use Rattle.std.specs.Map.{lookup}
use Rattle.std.specs.Option.{IsSome, is_some, option_map}
use Rattle.std.specs.Ordering.{MatchOrdering, int_cmp, is_eq, nat_cmp}
use Rattle.std.specs.Global.{Vec}
use Rattle.std.proofs.lemmas.List.Kept.{AllPairs-from_increasing}
use Rattle.std.proofs.lemmas.Map.Keys.{IsStrictlyIncreasing-from_sorted, Less-from_sorted}
use Rattle.std.proofs.lemmas.Map.Lookups.{exact_signed, exact_unsigned}
use Rattle.std.proofs.lemmas.Map.Views.{btree_map_contains_key_iff, btree_set_contains_iff}
use Rattle.listeners.specs.Ids.{has_id}
use Rattle.listeners.specs.Places.{is_among}
use Rattle.listeners.specs.Table.{IsWanted, KeepsTargets, Table, is_id, target_of}
use Rattle.listeners.specs.Targets.{AreFilled, IsTargeted, SameServed, SetsServed, TargetIndex, is_target, serves}
use Rattle.listeners.proofs.Ids.{is_equal, one_id}

-- two targets' ids that tie are the same
pub one_target : (target t : ℤ) → is_target target t ≡ true → target ≡ t
one_target target t e = exact_signed target t (is_equal (int_cmp target t) e)

pub target_itself : (target : ℤ) → is_target target target ≡ true
target_itself target = ap is_eq (tied_itself int_cmp_total target)

-- ---- what is listed ascends

pub ascending_ids : (ids : List ℕ) → IsStrictlySortedBy nat_cmp ids → AllPairs (λ a b. a < b) ids
ascending_ids ids sorted = AllPairs-from_increasing ids (IsStrictlyIncreasing-from_sorted ids sorted)

below : (x y : ℤ) → int_cmp x y ≡ Less → x <ℤ y
below x y is = subst (λ o. MatchOrdering o (x <ℤ y) (x ≡ y) (y <ℤ x)) is (int_ranks x y)

pub ascending_targets : (targets : List ℤ) → IsStrictlySortedBy int_cmp targets → AllPairs ◌<ℤ◌ targets
ascending_targets targets sorted i j d ahead inside = below _ _ (Less-from_sorted int_cmp targets i j d sorted ahead inside)

-- the ids at a target
abbrev pub at : TargetIndex → ℤ → Option (BTreeSet ℕ)
at index target = lookup (is_target target) index

-- ---- the listeners' targets

module _ (old new : Table) (index after : TargetIndex) (target : ℤ) (id : ℕ) (there : Bool) (w : Option ℤ)
    (is : (q : ℕ) → target_of new q ≡ cond (is_id id q) w (target_of old q)) (sets : SetsServed target id there index after) (targeted : IsTargeted old index) where
  -- after a change of the listener of one id
  pub targeted_after : IsTrue there ↔ (w ≡ Some target) → ((t : ℤ) → is_target target t ≡ false → IsTrue (serves index t id) ↔ (w ≡ Some t)) → IsTargeted new after
  targeted_after here elsewhere t q = by (is_target target t) (is_id id q) refl refl
    where
      by : (b c : Bool) → is_target target t ≡ b → is_id id q ≡ c → IsTrue (serves after t q) ↔ (target_of new q ≡ Some t)
      by true true e f =
          let served : serves after t q ≡ there = sets t q ∙ ap (λ b. cond (b && is_id id q) there (serves index t q)) e ∙ ap (λ b. cond b there (serves index t q)) f in
          let listens : target_of new q ≡ w = is q ∙ ap (λ b. cond b w (target_of old q)) f in
          let one : target ≡ t = one_target target t e in
          (λ yes. listens ∙ here.0 (sym served ∙ yes) ∙ ap Some one, λ yes. served ∙ here.1 (sym listens ∙ yes ∙ ap Some (sym one)))
      by false true e f =
          let served : serves after t q ≡ serves index t id = sets t q ∙ ap (λ b. cond (b && is_id id q) there (serves index t q)) e ∙ ap (serves index t) (sym (one_id id q f)) in
          let listens : target_of new q ≡ w = is q ∙ ap (λ b. cond b w (target_of old q)) f in
          (λ yes. listens ∙ (elsewhere t e).0 (sym served ∙ yes), λ yes. served ∙ (elsewhere t e).1 (sym listens ∙ yes))
      by true false e f =
          let served : serves after t q ≡ serves index t q = sets t q ∙ ap (λ b. cond (b && is_id id q) there (serves index t q)) e ∙ ap (λ b. cond b there (serves index t q)) f in
          let listens : target_of new q ≡ target_of old q = is q ∙ ap (λ b. cond b w (target_of old q)) f in
          (λ yes. listens ∙ (targeted t q).0 (sym served ∙ yes), λ yes. served ∙ (targeted t q).1 (sym listens ∙ yes))
      by false false e f =
          let served : serves after t q ≡ serves index t q = sets t q ∙ ap (λ b. cond (b && is_id id q) there (serves index t q)) e in
          let listens : target_of new q ≡ target_of old q = is q ∙ ap (λ b. cond b w (target_of old q)) f in
          (λ yes. listens ∙ (targeted t q).0 (sym served ∙ yes), λ yes. served ∙ (targeted t q).1 (sym listens ∙ yes))

-- a listener was added under an id that none had
pub targeted_added : (old new : Table) (index after : TargetIndex) (target : ℤ) (id : ℕ) → ((q : ℕ) → target_of new q ≡ cond (is_id id q) (Some target) (target_of old q))
    → SetsServed target id true index after → target_of old id ≡ None → IsTargeted old index → IsTargeted new after
targeted_added old new index after target id is sets none targeted =
    targeted_after old new index after target id true (Some target) is sets targeted (λ _. refl, λ _. refl)
    (λ t other. (
      λ yes. (let was = sym none ∙ (targeted t id).0 yes in cc),
      λ same. (let one : target ≡ t = cc in let tied = subst (λ x. is_target target x ≡ true) one (target_itself target) in cc),
    ))

-- the listener of the id was removed
pub targeted_removed : (old new : Table) (index after : TargetIndex) (target : ℤ) (id : ℕ) → ((q : ℕ) → target_of new q ≡ cond (is_id id q) None (target_of old q))
    → SetsServed target id false index after → target_of old id ≡ Some target → IsTargeted old index → IsTargeted new after
targeted_removed old new index after target id is sets was targeted =
    targeted_after old new index after target id false None is sets targeted (λ never. cc, λ never. cc)
    (λ t other. (
      λ yes. (let same = sym was ∙ (targeted t id).0 yes in let one : target ≡ t = cc in let tied = subst (λ x. is_target target x ≡ true) one (target_itself target) in cc),
      λ never. cc,
    ))

-- the same listen, and the same stand at each target
pub targeted_same : (old new : Table) (index after : TargetIndex) → KeepsTargets old new → SameServed index after → IsTargeted old index → IsTargeted new after
targeted_same old new index after keeps same targeted t q = (λ yes. keeps q ∙ (targeted t q).0 (sym (same t q) ∙ yes), λ yes. same t q ∙ (targeted t q).1 (sym (keeps q) ∙ yes))

-- an id that no listener has was put to a target, and taken again
pub taken_again : (table : Table) (index mid after : TargetIndex) (target : ℤ) (id : ℕ) → SetsServed target id true index mid → SetsServed target id false mid after
    → target_of table id ≡ None → IsTargeted table index → SameServed index after
taken_again table index mid after target id puts takes none targeted t q = by (is_target target t && is_id id q) refl
  where
    absent : (b c : Bool) → is_target target t ≡ b → is_id id q ≡ c → (b && c) ≡ true → serves index t q ≡ false
    absent true true e f _ = rest (serves index t q) refl
      where
        rest : (b : Bool) → serves index t q ≡ b → serves index t q ≡ false
        rest true there = let was = sym none ∙ ap (target_of table) (one_id id q f) ∙ (targeted t q).0 there in cc
        rest false never = never
    absent true false e f never = cc
    absent false c e f never = cc

    by : (b : Bool) → (is_target target t && is_id id q) ≡ b → serves after t q ≡ serves index t q
    by true e = takes t q ∙ ap (λ b. cond b false (serves mid t q)) e ∙ sym (absent (is_target target t) (is_id id q) refl refl e)
    by false e = takes t q ∙ ap (λ b. cond b false (serves mid t q)) e ∙ puts t q ∙ ap (λ b. cond b true (serves index t q)) e

-- ---- look-ups

-- the first id of a set that isn't empty
first_in : (ids : BTreeSet ℕ) (keys : List ℕ) → ids.keys ≡ keys → keys ≢ [] → (id : ℕ) × IsTrue (has_id ids id)
first_in ids [] is some = absurd (some refl)
first_in ids (k ∷ ks) is some = (k, (btree_set_contains_iff nat_cmp_total exact_unsigned ids k).1 (subst (λ xs. Contains xs k) (sym is) (0, omega arith, refl)))

module _ (table : Table) (index : TargetIndex) (target : ℤ) (targeted : IsTargeted table index) where
  -- the target is wanted where something stands there
  pub wanted_there : AreFilled index → IsSome (at index target) → IsWanted table target
  wanted_there filled there = by (at index target) refl
    where
      by : (found : Option (BTreeSet ℕ)) → at index target ≡ found → IsWanted table target
      by None e = let never = sym there ∙ ap is_some e in cc
      by (Some ids) e =
          let first = first_in ids ids.keys refl (filled target ids e) in
          (first.0, (targeted target first.0).0 (ap (λ i. is_among i first.0) e ∙ first.1))

  pub there_wanted : IsWanted table target → IsSome (at index target)
  there_wanted (id, listens) = by (at index target) refl
    where
      by : (found : Option (BTreeSet ℕ)) → at index target ≡ found → IsSome (at index target)
      by None e = let never = sym ((targeted target id).1 listens) ∙ ap (λ i. is_among i id) e in cc
      by (Some ids) e = ap is_some e

  -- the ids of a target are those of its listeners
  pub members_there : (ids : BTreeSet ℕ) → at index target ≡ Some ids → (id : ℕ) → Contains ids.keys id ↔ (target_of table id ≡ Some target)
  members_there ids there id =
      let served : serves index target id ≡ has_id ids id = ap (λ i. is_among i id) there in
      let has = btree_set_contains_iff nat_cmp_total exact_unsigned ids id in
      (λ yes. (targeted target id).0 (served ∙ has.1 yes), λ yes. has.0 (sym served ∙ (targeted target id).1 yes))

  pub none_there : at index target ≡ None → (id : ℕ) → target_of table id ≡ Some target → ⊥
  none_there none id listens = let never = sym ((targeted target id).1 listens) ∙ ap (λ i. is_among i id) none in cc

-- what is lent is there where something stands
pub is_found : {X Y : Type 0} (f : X → Y) (lent : Option X) (found : Option Y) → option_map f lent ≡ found → is_some lent ≡ is_some found
is_found f None found is = ap is_some is
is_found f (Some x) found is = ap is_some is

pub no_member : (ids : List ℕ) (id : ℕ) → ids ≡ [] → Contains ids id → ⊥
no_member ids id none (k, inside, is) = omega (arith, subst (λ xs. k < length xs) none inside)

module _ {E : Type 0} where
  -- the ids of a target that were listed
  pub ids_ascending : (ids : BTreeSet ℕ) (result : Result (Vec ℕ) E) → IfOk result (λ v. v.items ≡ ids.keys) → OnOk result (set.IsOrdered nat_cmp ids) → IfOk result (λ v. AllPairs (λ a b. a < b) v.items)
  ids_ascending ids (Ok v) is sorted = subst (AllPairs (λ a b. a < b)) (sym is) (ascending_ids ids.keys sorted)
  ids_ascending ids (Err e) is sorted = tt

  pub ids_there : (table : Table) (index : TargetIndex) (target : ℤ) → IsTargeted table index → (ids : BTreeSet ℕ) → at index target ≡ Some ids
      → (result : Result (Vec ℕ) E) → IfOk result (λ v. v.items ≡ ids.keys) → IfOk result (λ v. (id : ℕ) → Contains v.items id ↔ (target_of table id ≡ Some target))
  ids_there table index target targeted ids there (Ok v) is = λ id. subst (λ xs. Contains xs id ↔ (target_of table id ≡ Some target)) (sym is) (members_there table index target targeted ids there id)
  ids_there table index target targeted ids there (Err e) is = tt

-- the targets at which something stands are those that are wanted
pub wanted_members : (table : Table) (map : BTreeMap ℤ (BTreeSet ℕ)) → IsTargeted table map.entries → AreFilled map.entries → (target : ℤ) → Contains (tree.keys map) target ↔ IsWanted table target
wanted_members table map targeted filled target =
    let has = btree_map_contains_key_iff int_cmp_total exact_signed map target in
    (λ yes. wanted_there table map.entries target targeted filled (has.1 yes), λ yes. has.0 (there_wanted table map.entries target targeted yes))

module _ {E : Type 0} where
  -- the targets that were listed
  pub all_ascending : (map : BTreeMap ℤ (BTreeSet ℕ)) (result : Result (Vec ℤ) E) → IfOk result (λ v. v.items ≡ tree.keys map) → OnOk result (tree.IsOrdered int_cmp map) → IfOk result (λ v. AllPairs ◌<ℤ◌ v.items)
  all_ascending map (Ok v) is sorted = subst (AllPairs ◌<ℤ◌) (sym is) (ascending_targets (tree.keys map) sorted)
  all_ascending map (Err e) is sorted = tt

  pub all_wanted : (table : Table) (map : BTreeMap ℤ (BTreeSet ℕ)) → IsTargeted table map.entries → AreFilled map.entries
      → (result : Result (Vec ℤ) E) → IfOk result (λ v. v.items ≡ tree.keys map) → IfOk result (λ v. (target : ℤ) → Contains v.items target ↔ IsWanted table target)
  all_wanted table map targeted filled (Ok v) is = λ target. subst (λ xs. Contains xs target ↔ IsWanted table target) (sym is) (wanted_members table map targeted filled target)
  all_wanted table map targeted filled (Err e) is = tt
