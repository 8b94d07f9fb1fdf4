-- A table by document key, as contracts see it: the list of its pairs, in an order that is left open.
use Rattle.std.specs.Prelude.{◌≡◌, ℕ, List, Bool, false, Option, is_some, option_map, IfSome, IsTrue, if◌then◌else◌}
use Rattle.std.specs.BTreeSet.{BTreeSet}
use Rattle.std.specs.List.{IsDistinct, list_any}
use Rattle.std.specs.Map.{keys_of, lookup}
use Rattle.document_keys.specs.KeySet.{is_key}
use Rattle.document_keys.specs.Names.{IsKey}

-- the keys with their values
abbrev pub Pairs : Type 0 → Type 0
Pairs V = List (List (List ℕ) × V)

module _ {V : Type 0} where
  -- the value at a key
  abbrev pub value_at : Pairs V → List (List ℕ) → Option V
  value_at table key = lookup (is_key key) table

  -- the table has the key
  abbrev pub has_key : Pairs V → List (List ℕ) → Bool
  has_key table key = is_some (value_at table key)

  -- no key stands twice
  abbrev pub HasEachKeyOnce : Pairs V → Type 0
  HasEachKeyOnce table = IsDistinct is_key (keys_of table)

  -- one key has this value, or none, and every other the one that it had
  abbrev pub Puts : List (List ℕ) → Option V → Pairs V → Pairs V → Type 0
  Puts key value old new = (q : List (List ℕ)) → value_at new q ≡ (if is_key key q then value else value_at old q)

  -- no value changes
  abbrev pub SameValues : Pairs V → Pairs V → Type 0
  SameValues old new = (key : List (List ℕ)) → value_at new key ≡ value_at old key

  -- every key stays
  abbrev pub KeepsKeys : Pairs V → Pairs V → Type 0
  KeepsKeys old new = (key : List (List ℕ)) → IsTrue (has_key old key) → IsTrue (has_key new key)

  -- every key stays, but this one
  abbrev pub KeepsOtherKeys : List (List ℕ) → Pairs V → Pairs V → Type 0
  KeepsOtherKeys key old new = (q : List (List ℕ)) → is_key key q ≡ false
      → IsTrue (has_key old q) → IsTrue (has_key new q)

  -- no other key comes or goes
  abbrev pub SameOtherKeys : List (List ℕ) → Pairs V → Pairs V → Type 0
  SameOtherKeys key old new = (q : List (List ℕ)) → is_key key q ≡ false → has_key new q ≡ has_key old q

  -- the list has just the keys of the table
  abbrev pub HasKeysOf : Pairs V → List (List (List ℕ)) → Type 0
  HasKeysOf table keys = (key : List (List ℕ)) → list_any (is_key key) keys ≡ has_key table key

  -- the keys of a table are those of documents, and where they are kept in order, just they are
  pub record AreInOrder (table : Pairs V) (order : Option (BTreeSet (List (List ℕ)))) : Type 0 where
    pub of_documents : (key : List (List ℕ)) → IsTrue (has_key table key) → IsKey key
    pub same : IfSome order (λ set. HasKeysOf table set.keys)

-- whether a key stands in the order, where there is one
abbrev pub ordered : Option (BTreeSet (List (List ℕ))) → List (List ℕ) → Option Bool
ordered order key = option_map (λ set. list_any (is_key key) set.keys) order

-- one key stands in the order, or doesn't, and every other as it did; and there is no order where there was none
abbrev pub Orders : List (List ℕ) → Bool
    → Option (BTreeSet (List (List ℕ))) → Option (BTreeSet (List (List ℕ))) → Type 0
Orders key there old new = (q : List (List ℕ))
    → ordered new q ≡ option_map (λ had. if is_key key q then there else had) (ordered old q)

-- the two keys differ
abbrev pub Differ : List (List ℕ) → List (List ℕ) → Type 0
Differ x y = is_key x y ≡ false
