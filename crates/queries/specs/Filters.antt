-- What contracts see of a filter: junctions of filters, and at the leaves a comparison or a test of one field.
use Rattle.std.specs.Prelude.{ℕ, suc, max, List, [], ◌∷◌, ◌++◌}
use Rattle.value_model.specs.Data.{Data}
use Rattle.queries.specs.declared.filter.Junction.{Junction}
use Rattle.queries.specs.declared.filter.Operator.{Operator}
use Rattle.queries.specs.declared.filter.UnaryOp.{UnaryOp}

mutual
  -- filters joined, a field against an operand, or a field tested
  pub data FilterData : Type 0 where
    composite : Junction → FilterItems → FilterData
    field : List (List ℕ) → Operator → Data → FilterData
    unary : List (List ℕ) → UnaryOp → FilterData

  -- the filters that are joined
  pub data FilterItems : Type 0 where
    no_filters : FilterItems
    filter_item : FilterData → FilterItems → FilterItems

-- the same filters as a list, and back
abbrev pub filters_of : List FilterData → FilterItems
filters_of [] = no_filters
filters_of (f ∷ fs) = filter_item f (filters_of fs)

abbrev pub list_of : FilterItems → List FilterData
list_of no_filters = []
list_of (filter_item f fs) = f ∷ list_of fs

-- filters joined
abbrev pub composite_of : Junction → List FilterData → FilterData
composite_of op fs = composite op (filters_of fs)

-- the filter, and all filters that stand inside it
abbrev mutual
  pub nodes : FilterData → List FilterData
  nodes (composite op fs) = composite op fs ∷ nodes_in fs
  nodes (field path op operand) = field path op operand ∷ []
  nodes (unary path op) = unary path op ∷ []

  pub nodes_in : FilterItems → List FilterData
  nodes_in no_filters = []
  nodes_in (filter_item f fs) = nodes f ++ nodes_in fs

-- how deep filters nest: 1 for a comparison or a test, and one more than its deepest member for a composite filter
abbrev mutual
  pub nesting : FilterData → ℕ
  nesting (composite op fs) = suc (nesting_in fs)
  nesting (field path op operand) = 1
  nesting (unary path op) = 1

  pub nesting_in : FilterItems → ℕ
  nesting_in no_filters = 0
  nesting_in (filter_item f fs) = max (nesting f) (nesting_in fs)
