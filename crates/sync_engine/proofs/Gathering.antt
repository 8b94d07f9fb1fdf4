-- the listeners that writes concern are gathered
use Rattle.std.proofs.Common.{◌≡◌, ⊎_elim, ℕ, ◌+◌, ◌<◌, Bool, true, false, IsTrue, nat_lt, List, [], ◌∷◌, ◌++◌, length, take, get_or, Less, Equal, Greater, refl, sym, ap, subst, ◌∙◌, arith}
use Rattle.std.specs.BTreeSet.{BTreeSet}
use Rattle.std.specs.BTreeSet as set
use Rattle.std.specs.Cmp.{nat_cmp_is, nat_cmp_total}
use Rattle.std.specs.List.{AllPairs, Contains}
use Rattle.std.specs.Ordering.{nat_cmp}
use Rattle.std.proofs.lemmas.Bool.{ltb-true, ltb-false}
use Rattle.std.proofs.Math.Seq.{take-length}
use Rattle.std.proofs.lemmas.List.{take_more}
use Rattle.std.proofs.lemmas.List.Elements.{Contains-push_cases}
use Rattle.std.proofs.lemmas.Map.Keys.{Less-from_sorted}
use Rattle.std.proofs.lemmas.Map.Lookups.{exact_unsigned}
use Rattle.std.proofs.lemmas.Map.Views.{btree_set_contains_iff}
use Rattle.listeners.specs.Concerns.{HasAllConcerned, IsConcerned}
use Rattle.listeners.specs.Ids.{KeepsMembers, has_id}
use Rattle.listeners.specs.Table.{Table}
use Rattle.mutations.specs.Written.{written_key}
use Rattle.mutations.specs.declared.write.Write.{Write}
use Rattle.sync_engine.specs.Concerned.{ConcernsOne}

less_is : (x y : ℕ) → nat_cmp x y ≡ Less → x < y
less_is x y is = by (nat_lt x y) refl (nat_lt y x) refl
  where
    by : (a : Bool) → nat_lt x y ≡ a → (b : Bool) → nat_lt y x ≡ b → x < y
    by true less b other = ltb-true x y less
    by false not_less true more = let greater : Greater ≡ nat_cmp x y = nat_cmp_is x y Greater (ltb-true y x more) in cc
    by false not_less false not_more =
        let up = ltb-false x y not_less in
        let down = ltb-false y x not_more in
        let equal : Equal ≡ nat_cmp x y = nat_cmp_is x y Equal (omega (arith, up, down)) in
        cc

-- the items of a set ascend
pub items_ascend : (s : BTreeSet ℕ) (ids : List ℕ) → set.IsOrdered nat_cmp s → ids ≡ s.keys → AllPairs (λ a b. a < b) ids
items_ascend s ids ordered same i j d before inside =
    let all = ap (λ (l : List ℕ). length l) same in
    subst (λ (l : List ℕ). get_or l i d < get_or l j d) (sym same) (less_is (get_or s.keys i d) (get_or s.keys j d) (Less-from_sorted nat_cmp s.keys i j d ordered before (omega (arith, inside, all))))

pub items_have : (s : BTreeSet ℕ) (ids : List ℕ) (id : ℕ) → ids ≡ s.keys → IsTrue (has_id s id) → Contains ids id
items_have s ids id same has = subst (λ (l : List ℕ). Contains l id) (sym same) ((btree_set_contains_iff nat_cmp_total exact_unsigned s id).0 has)

-- the set has each listener that one of these writes concerns
pub record HasConcerned (table : Table) (writes : List Write) (s : BTreeSet ℕ) : Type 0 where
  pub each : (id : ℕ) → ConcernsOne table writes id → IsTrue (has_id s id)

pub none_concerned : (table : Table) (s : BTreeSet ℕ) → HasConcerned table [] s
none_concerned table s = record { each = λ id one. absurd (omega (arith, one.one.1)) }

pub one_concerned : (table : Table) (writes : List Write) (i : ℕ) (write : Write) (key : List (List ℕ)) (old new : BTreeSet ℕ) → i < length writes → write ≡ get_or writes i write → key ≡ written_key write
    → HasConcerned table (take i writes) old → KeepsMembers old new → HasAllConcerned table key new → HasConcerned table (take (i + 1) writes) new
one_concerned table writes i write key old new inside is of_write has keeps adds = record {
  each = λ id one.
      let grown : take (i + 1) writes ≡ take i writes ++ write ∷ [] = take_more writes i write inside ∙ ap (λ (w : Write). take i writes ++ w ∷ []) (sym is) in
      ⊎_elim
      (λ before. keeps id (has.each id (record { write = one.write; one = before; concerned = one.concerned })))
      (λ here. adds id (subst (λ (k : List (List ℕ)). IsConcerned table k id) (ap written_key (sym here) ∙ sym of_write) one.concerned))
      (Contains-push_cases (take i writes) write one.write (subst (λ (l : List Write). Contains l one.write) grown one.one));
}

pub all_concerned : (table : Table) (writes : List Write) (i : ℕ) (s : BTreeSet ℕ) → i ≡ length writes → HasConcerned table (take i writes) s → (id : ℕ) → ConcernsOne table writes id → IsTrue (has_id s id)
all_concerned table writes i s whole has id one =
    let same : take i writes ≡ writes = ap (λ n. take n writes) whole ∙ take-length writes in
    has.each id (record { write = one.write; one = subst (λ (l : List Write). Contains l one.write) (sym same) one.one; concerned = one.concerned })
