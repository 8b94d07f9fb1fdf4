-- the entries of a table as a list by ascending key
use Rattle.std.proofs.Common.{◌≡◌, ◌∙◌, ◌⊎◌, inl, inr, Bool, true, false, cond, List, [], ◌∷◌, map, Less, Some, refl, sym, ap, subst, arith}
use Rattle.std.specs.Option.{option_map}
use Rattle.std.specs.Map.{keys_of, lookup}
use Rattle.std.specs.List.{All, AllByRecursion, AllPairs, Contains, find}
use Rattle.std.specs.List.Sorted.{IsStrictlySortedBy}
use Rattle.std.proofs.lemmas.List.Elements.{All-cons, All-nil}
use Rattle.std.proofs.lemmas.List.Kept.{AllPairs-cons}
use Rattle.std.proofs.lemmas.Option.{same_Some}
use Rattle.document_keys.specs.KeySet.{is_key}
use Rattle.document_keys.specs.Order.{PathBefore}
use Rattle.document_keys.proofs.Exact.{key_is, key_same}
use Rattle.document_keys.proofs.Lawful.{ordered}
use Rattle.document_keys.proofs.Order.{paths_compute}
use Rattle.acknowledgements.proofs.Times.{contains_cases, contains_here, contains_none, contains_there}
use Rattle.value_model.specs.declared.document.Entry.{Entry}
use Rattle.listen_protocol.specs.Calls.{Key, key_cmp}
use Rattle.outcome_codec.specs.declared.parts.KeyedEntry.{KeyedEntry}
use Rattle.watch_points.specs.PointCommit.{entry_among}
use Rattle.watch_points.specs.Steps.{keyed_entry}
use Rattle.watch_points.proofs.Lists.{first_below, rest_ascends}

abbrev pub KeysAscend : List KeyedEntry → Type 0
KeysAscend es = AllPairs (λ a b. PathBefore a.key b.key) es

below_all : (k : Key) (es : List (Key × Entry)) → AllByRecursion (λ y. key_cmp k y ≡ Less) (keys_of es) → All (λ (e : KeyedEntry). PathBefore k e.key) (map keyed_entry es)
below_all k [] below = All-nil (λ (e : KeyedEntry). PathBefore k e.key)
below_all k (e ∷ es) below = All-cons (λ (x : KeyedEntry). PathBefore k x.key) (keyed_entry e) (map keyed_entry es) (paths_compute.below k e.0 below.0) (below_all k es below.1)

-- what is sorted by key ascends
pub keyed_ascend : (es : List (Key × Entry)) → IsStrictlySortedBy key_cmp (keys_of es) → KeysAscend (map keyed_entry es)
unfolding IsStrictlySortedBy
keyed_ascend [] sorted = λ i j d before inside. absurd (omega arith)
keyed_ascend (e ∷ es) sorted =
    AllPairs-cons (λ (a b : KeyedEntry). PathBefore a.key b.key) (keyed_entry e) (map keyed_entry es) (below_all e.0 es sorted.0) (keyed_ascend es sorted.1)

-- the entry of a key among them is that of the table
pub among_keyed : (k : Key) (es : List (Key × Entry)) → entry_among (map keyed_entry es) k ≡ lookup (is_key k) es
among_keyed k [] = refl
among_keyed k (e ∷ es) = by (is_key k e.0) (among_keyed k es)
  where
    by : (b : Bool) → entry_among (map keyed_entry es) k ≡ lookup (is_key k) es → option_map (λ (x : KeyedEntry). x.entry) (cond b (Some (keyed_entry e)) (find (λ (x : KeyedEntry). is_key k x.key) (map keyed_entry es))) ≡ cond b (Some e.1) (lookup (is_key k) es)
    by true rest = refl
    by false rest = rest

-- ---- a member, and the entry of a key

pub has_among : (es : List KeyedEntry) (k : Key) (x : Entry) → entry_among es k ≡ Some x → Contains es (record { key = k; entry = x })
has_among [] k x is = cc
has_among (e ∷ es) k x is = by (is_key k e.key) refl is (has_among es k x)
  where
    by : (b : Bool) → is_key k e.key ≡ b → option_map (λ (y : KeyedEntry). y.entry) (cond b (Some e) (find (λ (y : KeyedEntry). is_key k y.key) es)) ≡ Some x
        → (entry_among es k ≡ Some x → Contains es (record { key = k; entry = x })) → Contains (e ∷ es) (record { key = k; entry = x })
    by true same found rest =
        let one : e ≡ record { key = k; entry = x } = λ i. record { key = sym (key_is k e.key same) i; entry = same_Some e.entry x found i } in
        subst (Contains (e ∷ es)) one (contains_here e es)
    by false other found rest = contains_there e es (record { key = k; entry = x }) (rest found)

false_true : false ≡ true → ⊥
false_true e = cc

pub among_has : (es : List KeyedEntry) → KeysAscend es → (e : KeyedEntry) → Contains es e → entry_among es e.key ≡ Some e.entry
among_has [] ascend e has = absurd (contains_none e has)
among_has (f ∷ fs) ascend e has = by (is_key e.key f.key) refl (contains_cases f fs e has) (among_has fs (rest_ascends (λ (a b : KeyedEntry). PathBefore a.key b.key) f fs ascend) e)
  where
    by : (b : Bool) → is_key e.key f.key ≡ b → (f ≡ e) ⊎ Contains fs e → (Contains fs e → entry_among fs e.key ≡ Some e.entry)
        → option_map (λ (y : KeyedEntry). y.entry) (cond b (Some f) (find (λ (y : KeyedEntry). is_key e.key y.key) fs)) ≡ Some e.entry
    by true same (inl here) rest = ap (λ (y : KeyedEntry). Some y.entry) here
    by true same (inr later) rest =
        let before = first_below (λ (a b : KeyedEntry). PathBefore a.key b.key) f fs ascend e later in
        absurd (ordered.strict f.key (subst (PathBefore f.key) (key_is e.key f.key same) before))
    by false other (inl here) rest = absurd (false_true (sym other ∙ key_same e.key f.key (ap (λ (y : KeyedEntry). y.key) (sym here))))
    by false other (inr later) rest = rest later
