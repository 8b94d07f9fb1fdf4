-- The order of values (Firestore's order of data types): by kind, and within a kind by that kind's rule.
use Rattle.std.specs.Prelude.{◌≡◌, ◌↔◌, ◌⊎◌, ℕ, ◌<◌, ◌<ℤ◌, ℤ, false, true, List, ◌∷◌, ◌++◌}
use Rattle.std.specs.declared.cmp.Ordering.{Ordering}
use Rattle.std.specs.declared.cmp.Ordering.TheVariants.{Less, Equal, Greater}
use Rattle.document_keys.specs.Order.{TextBefore, PathBefore}
use Rattle.value_model.specs.declared.reference.RefName.{RefName}
use Rattle.value_model.specs.declared.timestamp.Timestamp.{Timestamp}
use Rattle.value_model.specs.Data.{Data, null, boolean, integer, time, pending, text, bytes, reference, array, map, Entries, array_of, map_of}

-- the place of a value's kind among the kinds
abbrev pub rank : Data → ℕ
rank null = 0
rank (boolean b) = 1
rank (integer n) = 2
rank (time t) = 3
rank (pending t) = 4
rank (text s) = 5
rank (bytes s) = 6
rank (reference r) = 7
rank (array ds) = 8
rank (map ms) = 9

-- one moment is before another: by its second, and within a second by its nanosecond
abbrev pub Earlier : Timestamp → Timestamp → Type 0
Earlier t u = (t.seconds <ℤ u.seconds) ⊎ ((t.seconds ≡ u.seconds) × (t.nanos < u.nanos))

-- the whole name of a document: project, database, and the segments of its key
abbrev pub whole_path : RefName → List (List ℕ)
whole_path r = r.project ∷ r.database ∷ r.key

-- one value is before another
pub data Before : Data → Data → Type 0 where
  -- by kind
  kind_first : {a b : Data} → rank a < rank b → Before a b
  -- false is before true
  false_first : Before (boolean false) (boolean true)
  -- whole numbers as numbers
  number_below : {m n : ℤ} → m <ℤ n → Before (integer m) (integer n)
  -- times as moments, and times that aren't known yet by the local time of their writes
  time_earlier : {t u : Timestamp} → Earlier t u → Before (time t) (time u)
  write_earlier : {t u : Timestamp} → Earlier t u → Before (pending t) (pending u)
  -- texts and bytes by their bytes, a front first
  text_first : {s t : List ℕ} → TextBefore s t → Before (text s) (text t)
  bytes_first : {s t : List ℕ} → TextBefore s t → Before (bytes s) (bytes t)
  -- names segment by segment over project, database and key, a front first
  path_first : {r s : RefName} → PathBefore (whole_path r) (whole_path s) → Before (reference r) (reference s)
  -- arrays by the first item that differs, a front first
  item_first : (same : List Data) (x y : Data) (xs ys : List Data) → Before x y → Before (array_of (same ++ x ∷ xs)) (array_of (same ++ y ∷ ys))
  array_ends : (same : List Data) (y : Data) (ys : List Data) → Before (array_of same) (array_of (same ++ y ∷ ys))
  -- maps by the first field that differs, by its name and then by its value, a front first
  name_first : (same : Entries) (m n : List ℕ) (x y : Data) (xs ys : Entries) → TextBefore m n → Before (map_of (same ++ (m, x) ∷ xs)) (map_of (same ++ (n, y) ∷ ys))
  value_first : (same : Entries) (n : List ℕ) (x y : Data) (xs ys : Entries) → Before x y → Before (map_of (same ++ (n, x) ∷ xs)) (map_of (same ++ (n, y) ∷ ys))
  map_ends : (same : Entries) (n : List ℕ) (y : Data) (ys : Entries) → Before (map_of same) (map_of (same ++ (n, y) ∷ ys))

-- what a comparison of two values answers: Less and Greater exactly where one is before the other, and Equal exactly
-- where neither is, which is where they are the same
pub record RanksValues (order : Ordering) (a b : Data) : Type 0 where
  pub less : (order ≡ Less) ↔ Before a b
  pub greater : (order ≡ Greater) ↔ Before b a
  pub equal : (order ≡ Equal) ↔ (a ≡ b)
  pub neither : (order ≡ Equal) ↔ (¬ (Before a b) × ¬ (Before b a))
