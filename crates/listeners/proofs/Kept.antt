-- the ids that listeners have
use Rattle.std.proofs.Common.{◌≡◌, ◌∙◌, ◌↔◌, ◌<◌, ℕ, cond, [], ◌∷◌, length, Some, None, Result, Ok, Err, IfOk, OnOk, refl, sym, ap, subst}
use Rattle.std.specs.BTreeMap as tree
use Rattle.std.specs.BTreeMap.{BTreeMap}
use Rattle.std.specs.Cmp.{nat_cmp_total}
use Rattle.std.specs.Global.{Vec}
use Rattle.std.specs.List.{AllPairs, Contains}
use Rattle.std.specs.Map.{lookup}
use Rattle.std.specs.Option.{IsSome, is_some, option_map}
use Rattle.std.specs.Ordering.{nat_cmp}
use Rattle.std.proofs.lemmas.Map.Lookups.{exact_unsigned}
use Rattle.std.proofs.lemmas.Map.Views.{btree_map_contains_key_iff}
use Rattle.listeners.specs.Table.{Listening, Table, is_id, viewed}
use Rattle.listeners.proofs.Ids.{id_itself}
use Rattle.listeners.proofs.Tabled.{heard}
use Rattle.listeners.proofs.Targeted.{ascending_ids, is_found}

-- ---- no listener

-- where there are listeners, the first has its view
first_viewed : (table : Table) → ((id : ℕ) → viewed table id ≡ None) → length table ≡ 0
first_viewed [] none = refl
first_viewed ((id, l) ∷ rest) none =
    let never : Some l.view ≡ None = sym (ap (λ b. option_map (λ (x : Listening). x.view) (cond b (Some l) (lookup (is_id id) rest))) (id_itself id)) ∙ none id in
    cc

none_viewed : (table : Table) → length table ≡ 0 → (id : ℕ) → viewed table id ≡ None
none_viewed [] none id = refl
none_viewed (entry ∷ rest) none id = cc

pub nobody : (table : Table) → (length table ≡ 0) ↔ ((id : ℕ) → viewed table id ≡ None)
nobody table = (none_viewed table, first_viewed table)

-- ---- their ids

-- an id stands among the keys exactly where its listener shows something
pub key_viewed : (map : BTreeMap ℕ Listening) (id : ℕ) → Contains (tree.keys map) id ↔ IsSome (viewed map.entries id)
key_viewed map id =
    let has = btree_map_contains_key_iff nat_cmp_total exact_unsigned map id in
    let same : is_some (heard map.entries id) ≡ is_some (viewed map.entries id) = is_found (λ (l : Listening). l.view) (heard map.entries id) (viewed map.entries id) refl in
    (λ yes. sym same ∙ has.1 yes, λ yes. has.0 (same ∙ yes))

module _ {E : Type 0} (map : BTreeMap ℕ Listening) where
  pub keys_ascending : (result : Result (Vec ℕ) E) → IfOk result (λ v. v.items ≡ tree.keys map) → OnOk result (tree.IsOrdered nat_cmp map) → IfOk result (λ v. AllPairs (λ a b. a < b) v.items)
  keys_ascending (Ok v) is sorted = subst (AllPairs (λ a b. a < b)) (sym is) (ascending_ids (tree.keys map) sorted)
  keys_ascending (Err e) is sorted = tt

  pub keys_viewed : (result : Result (Vec ℕ) E) → IfOk result (λ v. v.items ≡ tree.keys map) → IfOk result (λ v. (id : ℕ) → Contains v.items id ↔ IsSome (viewed map.entries id))
  keys_viewed (Ok v) is = λ id. subst (λ xs. Contains xs id ↔ IsSome (viewed map.entries id)) (sym is) (key_viewed map id)
  keys_viewed (Err e) is = tt
