-- Targets of queries as bytes (StructuredQuery, Target).
use Rattle.std.specs.Prelude.{ℕ, ◌<◌, ◌≤◌, ◌^◌, Bool, if◌then◌else◌, List, [], ◌∷◌, ◌++◌, length, IfSome}
use Rattle.std.specs.List.{All}
use Rattle.std.specs.Int.{w32, to_be_bytes}
use Rattle.std.specs.Str.{IsUtf8}
use Rattle.document_keys.specs.Names.{IsCollection}
use Rattle.document_keys.specs.Paths.{IsFieldPath}
use Rattle.value_model.specs.Data.{Data}
use Rattle.value_model.specs.Storable.{IsCountable}
use Rattle.queries.specs.declared.filter.Junction.{Junction}
use Rattle.queries.specs.declared.filter.Junction.TheVariants.{And, Or}
use Rattle.queries.specs.declared.filter.Operator.{Operator}
use Rattle.queries.specs.declared.filter.Operator.TheVariants.{Equal, LessThan, LessThanOrEqual, GreaterThan, GreaterThanOrEqual, NotEqual, IsIn, IsNotIn, ArrayContains, ArrayContainsAny}
use Rattle.queries.specs.declared.filter.UnaryOp.{UnaryOp}
use Rattle.queries.specs.declared.filter.UnaryOp.TheVariants.{IsNull, IsNotNull}
use Rattle.queries.specs.declared.order.Cursor.{Cursor}
use Rattle.queries.specs.declared.order.Order.{Order}
use Rattle.queries.specs.declared.raw.RawCollection.{RawCollection}
use Rattle.queries.specs.declared.target.CollectionTarget.{CollectionTarget}
use Rattle.queries.specs.declared.target.Target.{Target}
use Rattle.queries.specs.declared.target.Target.TheVariants.{Document, Collection}
use Rattle.queries.specs.Filters.{FilterData, composite, field, unary, FilterItems, no_filters, filter_item, list_of, nesting}
use Rattle.queries.specs.Queried.{IsTargetOf}
use Rattle.record_parts.specs.Spelling.{number, boolean, text, many, opt, key, value, path, AreSpelled, IsSpelledKey, IsSpelledValue}

-- ---- bytes

abbrev pub junction_number : Junction → ℕ
junction_number And = 1
junction_number Or = 2

abbrev pub operator_number : Operator → ℕ
operator_number Equal = 1
operator_number LessThan = 2
operator_number LessThanOrEqual = 3
operator_number GreaterThan = 4
operator_number GreaterThanOrEqual = 5
operator_number NotEqual = 6
operator_number IsIn = 7
operator_number IsNotIn = 8
operator_number ArrayContains = 9
operator_number ArrayContainsAny = 10

abbrev pub test_number : UnaryOp → ℕ
test_number IsNull = 1
test_number IsNotNull = 2

-- 1 for ascending and 2 for descending
abbrev pub direction_number : Bool → ℕ
direction_number descending = if descending then 2 else 1

-- one byte
abbrev pub junction : Junction → List ℕ
junction op = junction_number op ∷ []

abbrev pub operator : Operator → List ℕ
operator op = operator_number op ∷ []

abbrev pub test : UnaryOp → List ℕ
test op = test_number op ∷ []

abbrev pub direction : Bool → List ℕ
direction descending = direction_number descending ∷ []

-- A byte for the kind: filters joined, by a byte for how, and their number and each of them; a field's path, a byte for how
-- it is compared, and the operand; or a byte for a test, and the path.
unfoldable mutual
  pub filter : FilterData → List ℕ
  filter (composite op fs) = 1 ∷ (junction op ++ (number (length (list_of fs)) ++ filters fs))
  filter (field p op operand) = 2 ∷ (path p ++ (operator op ++ value operand))
  filter (unary p op) = 3 ∷ (test op ++ path p)

  pub filters : FilterItems → List ℕ
  filters no_filters = []
  filters (filter_item f fs) = filter f ++ filters fs

-- the path, and the direction
unfoldable pub order : Order → List ℕ
order o = path o.path ++ direction o.descending

-- the values, and whether the cursor is before them
unfoldable pub cursor : Cursor → List ℕ
cursor c = many value c.values ++ boolean c.before

-- four bytes
abbrev pub limit : ℕ → List ℕ
limit n = to_be_bytes w32 n

-- the collection's segments, the filter, the orders, the two cursors, and the limit
unfoldable pub query : CollectionTarget → List ℕ
query t = many text t.collection ++ (opt filter t.filter ++ (many order t.orders ++ (opt cursor t.start_at ++ (opt cursor t.end_at ++ opt limit t.limit))))

-- 1 and a key, or 2 and the query of a collection
unfoldable pub target : Target → List ℕ
target (Document k) = 1 ∷ key k
target (Collection t) = 2 ∷ query t

-- ---- what has a spelling

-- a path of a query: 1 to 21 names of fields, or `__name__` by itself
pub record IsSpelledQueryPath (p : List (List ℕ)) : Type 0 where
  pub most : length p ≤ 21
  pub names : IsFieldPath p
  pub texts : All IsUtf8 p

-- a field against an operand, nested at most 20 deep
pub record IsSpelledComparison (p : List (List ℕ)) (against : Data) : Type 0 where
  pub path : IsSpelledQueryPath p
  pub operand : IsSpelledValue 20 against

abbrev mutual
  -- each field and each operand in a filter has a spelling, and the number of filters that are joined fits eight bytes
  pub HasSpelledParts : FilterData → Type 0
  HasSpelledParts (composite op fs) = IsCountable (list_of fs) × HaveSpelledParts fs
  HasSpelledParts (field p op operand) = IsSpelledComparison p operand
  HasSpelledParts (unary p op) = IsSpelledQueryPath p

  pub HaveSpelledParts : FilterItems → Type 0
  HaveSpelledParts no_filters = Unit {0}
  HaveSpelledParts (filter_item f fs) = HasSpelledParts f × HaveSpelledParts fs

-- a filter that nests at most so deep
pub record IsSpelledFilter (most : ℕ) (f : FilterData) : Type 0 where
  pub parts : HasSpelledParts f
  pub nested : nesting f ≤ most

pub record IsSpelledOrder (o : Order) : Type 0 where
  pub path : IsSpelledQueryPath o.path

pub record IsSpelledCursor (c : Cursor) : Type 0 where
  pub values : AreSpelled (IsSpelledValue 20) c.values

-- the path of a collection, whose segments are texts
pub record IsSpelledCollection (segments : List (List ℕ)) : Type 0 where
  pub names : IsCollection segments
  pub texts : All IsUtf8 segments
  pub many : length segments < 2 ^ 64

-- a limit of 1 to 2,147,483,647
abbrev pub IsSpelledLimit : ℕ → Type 0
IsSpelledLimit n = (0 < n) × (n < 2 ^ 31)

-- the parts of a query that have spellings
pub record HasSpelledQuery (t : CollectionTarget) : Type 0 where
  pub collection : IsSpelledCollection t.collection
  pub filter : IfSome t.filter (IsSpelledFilter 20)
  pub orders : AreSpelled IsSpelledOrder t.orders
  pub start_at : IfSome t.start_at IsSpelledCursor
  pub end_at : IfSome t.end_at IsSpelledCursor
  pub limit : IfSome t.limit IsSpelledLimit

-- it is what a query that breaks no rule is once it is checked, so it has its whole list of orders
abbrev pub IsOfCheckedQuery : CollectionTarget → Type 0
IsOfCheckedQuery t = (raw : RawCollection) × IsTargetOf raw t

pub record IsSpelledQuery (t : CollectionTarget) : Type 0 where
  pub parts : HasSpelledQuery t
  pub checked : IsOfCheckedQuery t

-- a target that has a spelling
abbrev pub IsSpelledTarget : Target → Type 0
IsSpelledTarget (Document k) = IsSpelledKey k
IsSpelledTarget (Collection t) = IsSpelledQuery t
