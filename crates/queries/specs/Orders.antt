-- The whole list of a query's orders: the explicit ones, then the fields that its filters compare, then the name.
use Rattle.std.specs.Prelude.{◌≡◌, ◌≢◌, ◌⊎◌, ◌↔◌, ℕ, Bool, true, false, List, [], ◌∷◌, ◌++◌, map, Option, Some, None}
use Rattle.std.specs.List.{AllPairs, Contains}
use Rattle.document_keys.specs.Order.{PathBefore}
use Rattle.queries.specs.declared.filter.Operator.TheVariants.{LessThan, LessThanOrEqual, GreaterThan, GreaterThanOrEqual, NotEqual, IsNotIn}
use Rattle.queries.specs.declared.filter.UnaryOp.TheVariants.{IsNotNull}
use Rattle.queries.specs.declared.order.Order.{Order}
use Rattle.queries.specs.Filters.{FilterData, composite, field, unary, nodes}
use Rattle.queries.specs.Holding.{name_path}

-- a filter that makes its field an order
abbrev pub is_inequality : FilterData → Bool
is_inequality (field path LessThan operand) = true
is_inequality (field path LessThanOrEqual operand) = true
is_inequality (field path GreaterThan operand) = true
is_inequality (field path GreaterThanOrEqual operand) = true
is_inequality (field path NotEqual operand) = true
is_inequality (field path IsNotIn operand) = true
is_inequality (unary path IsNotNull) = true
is_inequality _ = false

-- the field of a comparison or a test
abbrev pub path_of : FilterData → List (List ℕ)
path_of (composite op joined) = []
path_of (field path op operand) = path
path_of (unary path op) = path

-- the fields of orders
abbrev pub paths_of : List Order → List (List (List ℕ))
paths_of orders = map (λ o. o.path) orders

-- one of the filters compares the field, which isn't the name and isn't among the explicit orders
pub record IsImplied (explicit : List Order) (filters : List FilterData) (path : List (List ℕ)) : Type 0 where
  pub filter : FilterData
  pub there : Contains filters filter
  pub compares : is_inequality filter ≡ true
  pub field : path_of filter ≡ path
  pub other : path ≢ name_path
  pub unnamed : Contains (paths_of explicit) path → ⊥

-- the filters of a query
abbrev pub all_nodes : Option FilterData → List FilterData
all_nodes None = []
all_nodes (Some filter) = nodes filter

-- the direction of the last explicit order, and ascending where there is none
abbrev pub last_direction : List Order → Bool
last_direction [] = false
last_direction (o ∷ []) = o.descending
last_direction (o ∷ p ∷ os) = last_direction (p ∷ os)

-- an order by a field
abbrev pub order_by : Bool → List (List ℕ) → Order
order_by descending path = record { path = path; descending = descending }

-- These are the whole orders: behind the explicit ones the implied fields in the order of their paths, and then the name,
-- if it isn't among the explicit ones; all that are added have the last explicit direction.
pub record AreWhole (explicit : List Order) (filter : Option FilterData) (orders : List Order) : Type 0 where
  pub added : List (List (List ℕ))
  pub ascending : AllPairs PathBefore added
  pub members : (path : List (List ℕ)) → Contains added path ↔ IsImplied explicit (all_nodes filter) path
  pub last : List Order
  pub named : Contains (paths_of explicit) name_path → last ≡ []
  pub unnamed : (Contains (paths_of explicit) name_path → ⊥) → last ≡ order_by (last_direction explicit) name_path ∷ []
  pub are : orders ≡ explicit ++ (map (order_by (last_direction explicit)) added ++ last)

-- the new paths are the old ones, and those that the filters imply
abbrev pub Gathers : List Order → List FilterData → List (List (List ℕ)) → List (List (List ℕ)) → Type 0
Gathers explicit filters old new = (path : List (List ℕ)) → Contains new path ↔ (Contains old path ⊎ IsImplied explicit filters path)

-- the new paths are the old ones and this one, if it isn't the name and isn't among the explicit orders
abbrev pub Implies : List Order → List (List ℕ) → List (List (List ℕ)) → List (List (List ℕ)) → Type 0
Implies explicit path old new = (p : List (List ℕ)) → Contains new p ↔ (Contains old p ⊎ ((p ≡ path) × (p ≢ name_path) × (Contains (paths_of explicit) p → ⊥)))

-- the filter makes an order by the path
abbrev pub IsInequalityBy : FilterData → List (List ℕ) → Type 0
IsInequalityBy filter path = (is_inequality filter ≡ true) × (path_of filter ≡ path)

-- the order by the name that stands behind the explicit ones, where these have none
abbrev pub IsNameOrder : List Order → Bool → Option Order → Type 0
IsNameOrder explicit descending None = Contains (paths_of explicit) name_path
IsNameOrder explicit descending (Some last) = (Contains (paths_of explicit) name_path → ⊥) × (last ≡ order_by descending name_path)
