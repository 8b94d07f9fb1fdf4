-- the keys of a table, put in order one by one
use Rattle.std.proofs.Common.{◌≡◌, ◌∙◌, ◌||◌, ℕ, Bool, true, false, cond, nat_eq, List, [], ◌∷◌, refl, sym, ap, subst}
use Rattle.std.specs.Cmp.{eq_by_cmp_equiv}
use Rattle.std.specs.Cmp.Lexicographic.{pointwise}
use Rattle.std.specs.List.{AllPairs, IsDistinct, list_any}
use Rattle.std.specs.Map.{lookup}
use Rattle.std.specs.Option.{is_some}
use Rattle.std.proofs.lemmas.Map.Keys.{apart_from_distinct}
use Rattle.document_keys.specs.KeySet.{is_key}
use Rattle.document_keys.proofs.Order.{paths_compute}
use Rattle.key_table.specs.Table.{Differ, HasKeysOf, Pairs}
use Rattle.key_table.proofs.Tables.{same_test}

-- what a table by hash shows of its keys
pub keys_of_table : {V : Type 0} (table : Pairs V) (keys : List (List (List ℕ))) → ((q : List (List ℕ)) → is_some (lookup (pointwise (pointwise nat_eq) q) table) ≡ list_any (pointwise (pointwise nat_eq) q) keys) → HasKeysOf table keys
keys_of_table table keys has = λ q. sym (subst (λ test. is_some (lookup (test q) table) ≡ list_any (test q) keys) same_test (has q))

pub each_once : (keys : List (List (List ℕ))) → IsDistinct (pointwise (pointwise nat_eq)) keys → AllPairs Differ keys
each_once keys once i j d before below = apart_from_distinct is_key keys i j d (subst (λ test. IsDistinct test keys) same_test once) before below

-- the keys that were put, and those that are left, are those of the whole
abbrev pub ArePut : List (List (List ℕ)) → List (List (List ℕ)) → List (List (List ℕ)) → Type 0
ArePut whole left put = (q : List (List ℕ)) → list_any (is_key q) whole ≡ (list_any (is_key q) put || list_any (is_key q) left)

pub none_put : (whole put : List (List (List ℕ))) → put ≡ [] → ArePut whole whole put
none_put whole put none q = ap (λ l. list_any (is_key q) l || list_any (is_key q) whole) (sym none)

pub one_put : (whole : List (List (List ℕ))) (k : List (List ℕ)) (left rest put after : List (List (List ℕ))) → rest ≡ k ∷ left → ((q : List (List ℕ)) → list_any (is_key q) after ≡ cond (is_key k q) true (list_any (is_key q) put)) → ArePut whole rest put → ArePut whole left after
one_put whole k left rest put after is more so_far q =
    so_far q ∙ ap (λ l. list_any (is_key q) put || list_any (is_key q) l) is ∙ ap (λ b. list_any (is_key q) put || (b || list_any (is_key q) left)) ((eq_by_cmp_equiv paths_compute.total).symm q k)
    ∙ moved (list_any (is_key q) put) (is_key k q) (list_any (is_key q) left) ∙ ap (λ b. b || list_any (is_key q) left) (sym (more q))
  where
    moved : (o b l : Bool) → (o || (b || l)) ≡ (cond b true o || l)
    moved true true l = refl
    moved true false l = refl
    moved false true l = refl
    moved false false l = refl

pub all_put : {V : Type 0} (table : Pairs V) (whole left put : List (List (List ℕ))) → left ≡ [] → HasKeysOf table whole → ArePut whole left put → HasKeysOf table put
all_put table whole left put none has are q = sym (or_false (list_any (is_key q) put)) ∙ ap (λ l. list_any (is_key q) put || list_any (is_key q) l) (sym none) ∙ sym (are q) ∙ has q
  where
    or_false : (b : Bool) → (b || false) ≡ b
    or_false true = refl
    or_false false = refl
