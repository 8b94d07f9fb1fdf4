-- The queries that trees without faults spell, as google.firestore.v1 writes targets in proto3 JSON. The form of these trees is
-- said by their faults. A member whose value is null counts as left out.
use Rattle.std.specs.Prelude.{◌≡◌, ◌⊎◌, ℕ, ℤ, List, [], ◌∷◌, Bool, true, false, codes, Option, Some, None}
use Rattle.serde_json.specs.Data.{Data as Json, boolean, array, object as an_object, string, Members, Items, no_items, item}
use Rattle.document_keys.specs.Names.{Root}
use Rattle.value_model.specs.Data.{Data}
use Rattle.json_model.specs.declared.place.Object.TheVariants as object
use Rattle.json_model.specs.Forms.{IsGiven, InObject, ByChoice, SpellsEach}
use Rattle.json_model.specs.Grammar.{SpellsId, SpellsName, SpellsParent, SpellsQueryPathTree, SpellsList, SpellsValue}
use Rattle.json_model.specs.Members.{given, chosen}
use Rattle.json_model.specs.Numbers.{SpellsShort}
use Rattle.queries.specs.declared.filter.Junction.{Junction}
use Rattle.queries.specs.declared.filter.Operator.{Operator}
use Rattle.queries.specs.declared.filter.UnaryOp.{UnaryOp}
use Rattle.queries.specs.declared.order.Cursor.{Cursor}
use Rattle.queries.specs.declared.order.Order.{Order}
use Rattle.queries.specs.declared.raw.RawCollection.{RawCollection}
use Rattle.queries.specs.declared.raw.RawQuery.{RawQuery}
use Rattle.queries.specs.declared.raw.RawQuery.TheVariants as raw
use Rattle.queries.specs.Filters.{FilterData, composite, field, unary, FilterItems, no_filters, filter_item}
use Rattle.json_queries.specs.Constants.{junction_text, operator_text, test_text}

-- `{"fieldPath":".."}`
abbrev pub SpellsField : Json → List (List ℕ) → Type 0
SpellsField d path = InObject d (λ ms. IsGiven (given (codes "fieldPath") ms) (λ text. SpellsQueryPathTree text path))

-- ---- collections, orders and cursors

-- an item of `from`: `{"collectionId":".."}`
abbrev pub SpellsSelector : Json → List ℕ → Type 0
SpellsSelector d id = InObject d (λ ms. IsGiven (given (codes "collectionId") ms) (λ text. SpellsId text id))

-- `direction`; where it is left out the order ascends
abbrev pub SpellsDirection : Option Json → Bool → Type 0
SpellsDirection None descending = descending ≡ false
SpellsDirection (Some d) true = d ≡ string (codes "DESCENDING")
SpellsDirection (Some d) false = (d ≡ string (codes "ASCENDING")) ⊎ (d ≡ string (codes "DIRECTION_UNSPECIFIED"))

-- the members of an item of `orderBy`
pub record SpellsOrderIn (ms : Members) (order : Order) : Type 0 where
  pub path : IsGiven (given (codes "field") ms) (λ d. SpellsField d order.path)
  pub direction : SpellsDirection (given (codes "direction") ms) order.descending

-- an item of `orderBy`: `{"direction":"DESCENDING","field":{..}}`
abbrev pub SpellsOrder : Json → Order → Type 0
SpellsOrder d order = InObject d (λ ms. SpellsOrderIn ms order)

-- a boolean, which is false where it is left out
abbrev pub SpellsFlag : Option Json → Bool → Type 0
SpellsFlag None is = is ≡ false
SpellsFlag (Some d) is = d ≡ boolean is

-- the members of a cursor
pub record SpellsCursorIn (ms : Members) (cursor : Cursor) : Type 0 where
  pub values : SpellsList (given (codes "values") ms) cursor.values
  pub before : SpellsFlag (given (codes "before") ms) cursor.before

-- `startAt` or `endAt`: `{"before":true,"values":[..]}`
abbrev pub SpellsCursor : Option Json → Option Cursor → Type 0
SpellsCursor None cursor = cursor ≡ None
SpellsCursor (Some d) None = ⊥
SpellsCursor (Some d) (Some cursor) = InObject d (λ ms. SpellsCursorIn ms cursor)

-- ---- filters

-- a filter of a field: `{"field":{..},"op":"EQUAL","value":{..}}`
pub record SpellsFieldFilter (ms : Members) (path : List (List ℕ)) (op : Operator) (operand : Data) : Type 0 where
  pub names : IsGiven (given (codes "field") ms) (λ d. SpellsField d path)
  pub compares : IsGiven (given (codes "op") ms) (λ d. d ≡ string (operator_text op))
  pub holds : IsGiven (given (codes "value") ms) (λ d. SpellsValue d operand)

-- a test of a field: `{"field":{..},"op":"IS_NULL"}`
pub record SpellsUnaryFilter (ms : Members) (path : List (List ℕ)) (op : UnaryOp) : Type 0 where
  pub names : IsGiven (given (codes "field") ms) (λ d. SpellsField d path)
  pub tests : IsGiven (given (codes "op") ms) (λ d. d ≡ string (test_text op))

mutual
  -- a filter: an object with exactly one kind
  pub data SpellsFilter : Json → FilterData → Type 0 where
    of_kind : {d : Json} {f : FilterData} (ms : Members) (name : List ℕ) (inner : Json) → d ≡ an_object ms → chosen object.Filter ms ≡ (name, inner) ∷ [] → SpellsFilterUnder name inner f → SpellsFilter d f

  -- what stands under the kind's name: `{"filters":[..],"op":"AND"}`, a filter of a field, or a test of one
  pub data SpellsFilterUnder : List ℕ → Json → FilterData → Type 0 where
    as_composite : {name : List ℕ} {d : Json} {fs : FilterItems} (ms : Members) (op : Junction) → name ≡ codes "compositeFilter" → d ≡ an_object ms → IsGiven (given (codes "op") ms) (λ text. text ≡ string (junction_text op))
        → SpellsFilters (given (codes "filters") ms) fs → SpellsFilterUnder name d (composite op fs)
    as_field : {name : List ℕ} {d : Json} (ms : Members) (path : List (List ℕ)) (op : Operator) (operand : Data) → name ≡ codes "fieldFilter" → d ≡ an_object ms → SpellsFieldFilter ms path op operand → SpellsFilterUnder name d (field path op operand)
    as_unary : {name : List ℕ} {d : Json} (ms : Members) (path : List (List ℕ)) (op : UnaryOp) → name ≡ codes "unaryFilter" → d ≡ an_object ms → SpellsUnaryFilter ms path op → SpellsFilterUnder name d (unary path op)

  -- a list of filters, which may be left out where it is empty
  pub data SpellsFilters : Option Json → FilterItems → Type 0 where
    no_list : SpellsFilters None no_filters
    a_list : {fs : FilterItems} (items : Items) (d : Json) → d ≡ array items → SpellsFilterItems items fs → SpellsFilters (Some d) fs

  pub data SpellsFilterItems : Items → FilterItems → Type 0 where
    no_item : SpellsFilterItems no_items no_filters
    an_item : {d : Json} {items : Items} {f : FilterData} {fs : FilterItems} → SpellsFilter d f → SpellsFilterItems items fs → SpellsFilterItems (item d items) (filter_item f fs)

-- `where`; where it is left out there is no filter
abbrev pub SpellsWhere : Option Json → Option FilterData → Type 0
SpellsWhere None filter = filter ≡ None
SpellsWhere (Some d) None = ⊥
SpellsWhere (Some d) (Some filter) = SpellsFilter d filter

-- ---- queries

-- `limit`
abbrev pub SpellsLimit : Option Json → Option ℤ → Type 0
SpellsLimit None limit = limit ≡ None
SpellsLimit (Some d) None = ⊥
SpellsLimit (Some d) (Some limit) = SpellsShort d limit

-- the members of `structuredQuery`
pub record SpellsStructured (ms : Members) (query : RawCollection) : Type 0 where
  pub from : SpellsEach SpellsSelector (given (codes "from") ms) query.from
  pub filter : SpellsWhere (given (codes "where") ms) query.filter
  pub orders : SpellsEach SpellsOrder (given (codes "orderBy") ms) query.orders
  pub start_at : SpellsCursor (given (codes "startAt") ms) query.start_at
  pub end_at : SpellsCursor (given (codes "endAt") ms) query.end_at
  pub limit : SpellsLimit (given (codes "limit") ms) query.limit

-- the members of `query`: `{"parent":"..","structuredQuery":{..}}`
pub record SpellsCollectionIn (root : Root) (ms : Members) (query : RawCollection) : Type 0 where
  pub parent : IsGiven (given (codes "parent") ms) (λ d. SpellsParent root d query.parent)
  pub structured : IsGiven (given (codes "structuredQuery") ms) (λ d. InObject d (λ inside. SpellsStructured inside query))

-- a list of one name
abbrev pub SpellsOnlyName : Root → Json → List (List ℕ) → Type 0
SpellsOnlyName root d key = (name : Json) × ((d ≡ array (item name no_items)) × SpellsName root name key)

-- what `documents` holds: `{"documents":[".."]}`
abbrev pub SpellsDocuments : Root → Json → List (List ℕ) → Type 0
SpellsDocuments root d key = InObject d (λ ms. IsGiven (given (codes "documents") ms) (λ names. SpellsOnlyName root names key))

-- the one target, by its name
abbrev pub SpellsQueryUnder : Root → List ℕ → Json → RawQuery → Type 0
SpellsQueryUnder root name d (raw.Document key) = (name ≡ codes "documents") × SpellsDocuments root d key
SpellsQueryUnder root name d (raw.Collection query) = (name ≡ codes "query") × InObject d (λ ms. SpellsCollectionIn root ms query)

-- a target: `{"documents":{..}}` or `{"query":{..}}`
abbrev pub SpellsQuery : Root → Json → RawQuery → Type 0
SpellsQuery root d query = ByChoice object.Target d (λ ms name inner. SpellsQueryUnder root name inner query)
