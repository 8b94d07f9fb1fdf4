-- The printed form of targets: one tree for each. Lists that are empty are left out, and so is a cursor's flag that is false;
-- the direction of an order is always printed.
use Rattle.std.specs.Prelude.{ℕ, List, [], ◌∷◌, Bool, true, false, codes, Option, Some, None, option_map}
use Rattle.serde_json.specs.Data.{Data as Json, boolean, number, unsigned, string, array, object, Items, no_items, item}
use Rattle.document_keys.specs.Names.{Root, name_text}
use Rattle.document_keys.specs.Paths.{printed_path}
use Rattle.json_model.specs.Forms.{present, unless_empty, printed_each}
use Rattle.json_model.specs.Printed.{printed_value}
use Rattle.json_model.specs.Trees.{one, two}
use Rattle.queries.specs.declared.order.Cursor.{Cursor}
use Rattle.queries.specs.declared.order.Order.{Order}
use Rattle.queries.specs.declared.target.CollectionTarget.{CollectionTarget}
use Rattle.queries.specs.declared.target.Target.{Target}
use Rattle.queries.specs.declared.target.Target.TheVariants.{Document, Collection}
use Rattle.queries.specs.Filters.{FilterData, composite, field, unary, FilterItems, no_filters, filter_item}
use Rattle.json_queries.specs.Constants.{direction_text, junction_text, operator_text, test_text}

-- ---- parts

-- a field by its path
abbrev pub printed_field : List (List ℕ) → Json
printed_field path = one (codes "fieldPath") (string (printed_path path))

-- an order, with its direction
abbrev pub printed_order : Order → Json
printed_order order = two (codes "direction") (string (direction_text order.descending)) (codes "field") (printed_field order.path)

-- a boolean, unless it is false
abbrev pub unless_false : Bool → Option Json
unless_false false = None
unless_false true = Some (boolean true)

-- a cursor: its values, and whether it is before them
abbrev pub printed_cursor : Cursor → Json
printed_cursor cursor = object (present ((codes "before", unless_false cursor.before) ∷ (codes "values", unless_empty (printed_each printed_value cursor.values)) ∷ []))

-- ---- filters

-- a filter of a field, of these parts
abbrev pub field_filter_tree : Json → List ℕ → Json → Json
field_filter_tree path op operand = object (present ((codes "field", Some path) ∷ (codes "op", Some (string op)) ∷ (codes "value", Some operand) ∷ []))

-- a composite filter, of its list and how it is joined
abbrev pub composite_filter_tree : Items → List ℕ → Json
composite_filter_tree filters op = object (present ((codes "filters", unless_empty filters) ∷ (codes "op", Some (string op)) ∷ []))

abbrev mutual
  -- a filter under the name of its kind
  pub printed_filter : FilterData → Json
  printed_filter (composite op filters) = one (codes "compositeFilter") (composite_filter_tree (printed_filters filters) (junction_text op))
  printed_filter (field path op operand) = one (codes "fieldFilter") (field_filter_tree (printed_field path) (operator_text op) (printed_value operand))
  printed_filter (unary path op) = one (codes "unaryFilter") (two (codes "field") (printed_field path) (codes "op") (string (test_text op)))

  -- each of a list
  pub printed_filters : FilterItems → Items
  printed_filters no_filters = no_items
  printed_filters (filter_item filter filters) = item (printed_filter filter) (printed_filters filters)

-- ---- targets

-- the path of the document that has a collection, which is empty at the root: all segments but the last
abbrev pub parent_of : List (List ℕ) → List (List ℕ)
parent_of [] = []
parent_of (id ∷ []) = []
parent_of (segment ∷ next ∷ path) = segment ∷ parent_of (next ∷ path)

-- the id of a collection: the last segment of its path
abbrev pub id_of : List (List ℕ) → List ℕ
id_of [] = []
id_of (id ∷ []) = id
id_of (segment ∷ next ∷ path) = id_of (next ∷ path)

-- a list of the one item
abbrev pub only : Json → Json
only d = array (item d no_items)

-- a limit, as a number
abbrev pub printed_limit : ℕ → Json
printed_limit limit = number (unsigned limit)

-- what `structuredQuery` holds
abbrev pub printed_structured : CollectionTarget → Json
printed_structured target =
    object (present (
    (codes "endAt", option_map printed_cursor target.end_at) ∷
    (codes "from", Some (only (one (codes "collectionId") (string (id_of target.collection))))) ∷
    (codes "limit", option_map printed_limit target.limit) ∷
    (codes "orderBy", unless_empty (printed_each printed_order target.orders)) ∷
    (codes "startAt", option_map printed_cursor target.start_at) ∷
    (codes "where", option_map printed_filter target.filter) ∷
    []))

-- a target, with the names of documents under the root: one document, or the query of a collection in its parent
abbrev pub target_tree : Root → Target → Json
target_tree root (Document key) = one (codes "documents") (one (codes "documents") (only (string (name_text root key))))
target_tree root (Collection target) = one (codes "query") (two (codes "parent") (string (name_text root (parent_of target.collection))) (codes "structuredQuery") (printed_structured target))
