-- Targets, and queries as they are read, that the journal can hold.
use Rattle.std.specs.Prelude.{ℕ, ◌<◌, ◌≤◌, ◌^◌, List, IfSome, IsUtf8, FitsSigned}
use Rattle.std.specs.Int.{w32}
use Rattle.std.specs.List.{All}
use Rattle.document_keys.specs.Names.{IsCollection}
use Rattle.value_model.specs.Data.{Data, array, depth}
use Rattle.value_model.specs.Storable.{IsCountable, IsStorable, IsStorableKey, IsStorableSegment}
use Rattle.json_model.specs.Faults.{max_nesting}
use Rattle.json_model.specs.Storable.{IsStorableQueryPath}
use Rattle.queries.specs.declared.filter.Operator.{Operator}
use Rattle.queries.specs.declared.filter.Operator.TheVariants.{IsIn, IsNotIn, ArrayContainsAny}
use Rattle.queries.specs.declared.order.Cursor.{Cursor}
use Rattle.queries.specs.declared.order.Order.{Order}
use Rattle.queries.specs.declared.raw.RawCollection.{RawCollection}
use Rattle.queries.specs.declared.raw.RawQuery.{RawQuery}
use Rattle.queries.specs.declared.raw.RawQuery.TheVariants as raw
use Rattle.queries.specs.declared.target.CollectionTarget.{CollectionTarget}
use Rattle.queries.specs.declared.target.Target.{Target}
use Rattle.queries.specs.declared.target.Target.TheVariants.{Document, Collection}
use Rattle.queries.specs.Filters.{FilterData, composite, field, unary, FilterItems, no_filters, filter_item, list_of, nesting}

-- a value of a query, which nests at most 20 deep
pub record IsStorableOperand (value : Data) : Type 0 where
  pub storable : IsStorable value
  pub deep : depth value ≤ max_nesting

-- ---- filters

abbrev pub IsArray : Data → Type 0
IsArray (array values) = Unit {0}
IsArray _ = ⊥

-- an operator that asks for one of several operands has an array of them
abbrev pub TakesOperand : Operator → Data → Type 0
TakesOperand IsIn operand = IsArray operand
TakesOperand IsNotIn operand = IsArray operand
TakesOperand ArrayContainsAny operand = IsArray operand
TakesOperand _ operand = Unit {0}

-- a field against an operand
pub record IsStorableComparison (path : List (List ℕ)) (op : Operator) (operand : Data) : Type 0 where
  pub names : IsStorableQueryPath path
  pub value : IsStorableOperand operand
  pub takes : TakesOperand op operand

abbrev mutual
  -- each field and each operand in a filter can be stored
  pub HasStorableParts : FilterData → Type 0
  HasStorableParts (composite op filters) = HaveStorableParts filters
  HasStorableParts (field path op operand) = IsStorableComparison path op operand
  HasStorableParts (unary path op) = IsStorableQueryPath path

  pub HaveStorableParts : FilterItems → Type 0
  HaveStorableParts no_filters = Unit {0}
  HaveStorableParts (filter_item filter filters) = HasStorableParts filter × HaveStorableParts filters

-- a filter: it nests at most 20 deep
pub record IsStorableFilter (filter : FilterData) : Type 0 where
  pub parts : HasStorableParts filter
  pub deep : nesting filter ≤ max_nesting

-- ---- targets

-- the path of a collection, whose segments are in UTF-8
pub record IsStorableCollection (path : List (List ℕ)) : Type 0 where
  pub sound : IsCollection path
  pub utf8 : All IsUtf8 path
  pub count : IsCountable path

-- orders by fields
pub record AreStorableOrders (orders : List Order) : Type 0 where
  pub count : IsCountable orders
  pub each : All (λ order. IsStorableQueryPath order.path) orders

-- the values of a cursor
pub record IsStorableCursor (cursor : Cursor) : Type 0 where
  pub count : IsCountable cursor.values
  pub each : All IsStorableOperand cursor.values

-- a query of a collection: its limit is a number of 32 bits with sign
pub record IsStorableQuery (target : CollectionTarget) : Type 0 where
  pub collection : IsStorableCollection target.collection
  pub filter : IfSome target.filter IsStorableFilter
  pub orders : AreStorableOrders target.orders
  pub start_at : IfSome target.start_at IsStorableCursor
  pub end_at : IfSome target.end_at IsStorableCursor
  pub limit : IfSome target.limit (λ limit. limit < 2 ^ 31)

-- a target: one document, or the query of a collection
abbrev pub IsStorableTarget : Target → Type 0
IsStorableTarget (Document key) = IsStorableKey key
IsStorableTarget (Collection target) = IsStorableQuery target

-- ---- queries as they are read

abbrev mutual
  -- each field and each operand in a filter can be stored, and the filters that are joined can be counted
  pub HasCountedParts : FilterData → Type 0
  HasCountedParts (composite op filters) = IsCountable (list_of filters) × HaveCountedParts filters
  HasCountedParts (field path op operand) = IsStorableComparison path op operand
  HasCountedParts (unary path op) = IsStorableQueryPath path

  pub HaveCountedParts : FilterItems → Type 0
  HaveCountedParts no_filters = Unit {0}
  HaveCountedParts (filter_item filter filters) = HasCountedParts filter × HaveCountedParts filters

-- a filter as it is read: it nests at most 20 deep
pub record IsStorableRawFilter (filter : FilterData) : Type 0 where
  pub parts : HasCountedParts filter
  pub deep : nesting filter ≤ max_nesting

-- a query of collections as it is read: its limit is any number of 32 bits with sign
pub record IsStorableRawCollection (query : RawCollection) : Type 0 where
  pub parent : IfSome query.parent IsStorableKey
  pub from : All IsStorableSegment query.from
  pub filter : IfSome query.filter IsStorableRawFilter
  pub orders : AreStorableOrders query.orders
  pub start_at : IfSome query.start_at IsStorableCursor
  pub end_at : IfSome query.end_at IsStorableCursor
  pub limit : IfSome query.limit (FitsSigned w32)

-- a query as it is read: one document, or collections
abbrev pub IsStorableRawQuery : RawQuery → Type 0
IsStorableRawQuery (raw.Document key) = IsStorableKey key
IsStorableRawQuery (raw.Collection query) = IsStorableRawCollection query
