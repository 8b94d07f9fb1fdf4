-- entries as a finite map
use Rattle.std.proofs.Common.{◌≡◌, ◌∙◌, ℕ, Bool, true, false, cond, List, [], ◌∷◌, Option, Some, None, Ordering, refl, sym, ap, subst}
use Rattle.std.specs.Cmp.{IsTotalOrder, eq_by_cmp_equiv}
use Rattle.std.specs.Cmp.Lexicographic.{slice_cmp, lists_total, nat_list_cmp_total}
use Rattle.std.specs.FinMap as map
use Rattle.std.specs.List.{AllByRecursion, IsDistinct, filter_map, cons_option}
use Rattle.std.specs.Map.{keys_of, lookup}
use Rattle.std.specs.Option.{option_and_then, option_map}
use Rattle.std.specs.Ordering.{nat_cmp}
use Rattle.document_keys.specs.KeySet.{is_key}
use Rattle.document_keys.proofs.Exact.{key_is}
use Rattle.key_table.specs.Table.{HasEachKeyOnce}
use Rattle.value_model.specs.declared.document.Entry.{Entry}
use Rattle.value_model.specs.declared.document.Seal.{Seal}
use Rattle.remote_documents.specs.declared.slot.Slot.{Slot}
use Rattle.remote_documents.specs.Table.{EntryMap, IsMapOf, Table, held}

abbrev pub order : List (List ℕ) → List (List ℕ) → Ordering
order = slice_cmp (slice_cmp nat_cmp)

abbrev pub keys_total : IsTotalOrder order
keys_total = lists_total nat_list_cmp_total

pub turned : (k q : List (List ℕ)) → is_key q k ≡ is_key k q
turned k q = (eq_by_cmp_equiv keys_total).symm q k

-- two maps that have the same entry for each key are one
pub one_map : (m n : EntryMap) → ((q : List (List ℕ)) → map.get m q ≡ map.get n q) → m ≡ n
one_map m n same = map.same_map keys_total (map.slice_cmp-IsAntisymmetric (map.slice_cmp-IsAntisymmetric map.nat_cmp-IsAntisymmetric)) m n same

pub get_with : (m : EntryMap) (k : List (List ℕ)) (p : Entry × Seal) (q : List (List ℕ)) → map.get (map.insert m k p) q ≡ cond (is_key k q) (Some p) (map.get m q)
get_with m k p q = map.get-insert keys_total m k p q ∙ ap (λ b. cond b (Some p) (map.get m q)) (turned k q)

pub get_without : (m : EntryMap) (k q : List (List ℕ)) → map.get (map.remove m k) q ≡ cond (is_key k q) None (map.get m q)
get_without m k q = map.get-remove keys_total m k q ∙ ap (λ b. cond b None (map.get m q)) (turned k q)

-- ---- the map of a table

abbrev pair_of : (List (List ℕ) × Slot) → Option (List (List ℕ) × (Entry × Seal))
pair_of place = option_map (λ pair. (place.0, pair)) (held place.1)

-- a key that stands before others, and not among them, has no place there
absent : (k q : List (List ℕ)) (es : Table) → is_key k q ≡ true → AllByRecursion (λ x. is_key k x ≡ false) (keys_of es) → lookup (is_key q) es ≡ None
absent k q [] same apart = refl
absent k q (e ∷ es) same apart =
    let other : is_key q e.0 ≡ false = subst (λ x. is_key x e.0 ≡ false) (key_is k q same) apart.0 in
    ap (λ b. cond b (Some e.1) (lookup (is_key q) es)) other ∙ absent k q es same apart.1

-- the first place, if it holds an entry, or those behind it
at_place : (k q : List (List ℕ)) (pair : Option (Entry × Seal)) (rest : List (List (List ℕ) × (Entry × Seal))) (behind : Option (Entry × Seal)) (b : Bool) → is_key k q ≡ b → map.find order q rest ≡ behind → (b ≡ true → behind ≡ None)
    → map.find order q (cons_option (option_map (λ p. (k, p)) pair) rest) ≡ cond b pair behind
at_place k q None rest behind true same is none = is ∙ none refl
at_place k q None rest behind false same is none = is
at_place k q (Some p) rest behind b same is none = ap (λ t. cond t (Some p) (map.find order q rest)) (turned k q ∙ same) ∙ ap (cond b (Some p)) is

found : (es : Table) (q : List (List ℕ)) → HasEachKeyOnce es → map.find order q (filter_map pair_of es) ≡ option_and_then held (lookup (is_key q) es)
unfolding IsDistinct
found [] q once = refl
found ((k, slot) ∷ es) q once =
    at_place k q (held slot) (filter_map pair_of es) (option_and_then held (lookup (is_key q) es)) (is_key k q) refl (found es q once.1) (λ same. ap (option_and_then held) (absent k q es same once.0))
    ∙ by (is_key k q) refl
  where
    by : (b : Bool) → is_key k q ≡ b → cond b (held slot) (option_and_then held (lookup (is_key q) es)) ≡ option_and_then held (lookup (is_key q) ((k, slot) ∷ es))
    by true same = ap (λ t. option_and_then held (cond t (Some slot) (lookup (is_key q) es))) (sym (turned k q ∙ same))
    by false same = ap (λ t. option_and_then held (cond t (Some slot) (lookup (is_key q) es))) (sym (turned k q ∙ same))

pub is_map_of : (table : Table) → HasEachKeyOnce table → IsMapOf table
is_map_of table once = λ q. map.get-from_entries keys_total (filter_map pair_of table) q ∙ found table q once
