-- How junctions, operators, tests and directions are spelled.
use Rattle.std.specs.Prelude.{ℕ, List, Bool, true, false, codes}
use Rattle.queries.specs.declared.filter.Junction.{Junction}
use Rattle.queries.specs.declared.filter.Junction.TheVariants.{And, Or}
use Rattle.queries.specs.declared.filter.Operator.{Operator}
use Rattle.queries.specs.declared.filter.Operator.TheVariants.{Equal, LessThan, LessThanOrEqual, GreaterThan, GreaterThanOrEqual, NotEqual, IsIn, IsNotIn, ArrayContains, ArrayContainsAny}
use Rattle.queries.specs.declared.filter.UnaryOp.{UnaryOp}
use Rattle.queries.specs.declared.filter.UnaryOp.TheVariants.{IsNull, IsNotNull}

-- how filters are joined
abbrev pub junction_text : Junction → List ℕ
junction_text And = codes "AND"
junction_text Or = codes "OR"

-- how a field stands to an operand
abbrev pub operator_text : Operator → List ℕ
operator_text Equal = codes "EQUAL"
operator_text LessThan = codes "LESS_THAN"
operator_text LessThanOrEqual = codes "LESS_THAN_OR_EQUAL"
operator_text GreaterThan = codes "GREATER_THAN"
operator_text GreaterThanOrEqual = codes "GREATER_THAN_OR_EQUAL"
operator_text NotEqual = codes "NOT_EQUAL"
operator_text IsIn = codes "IN"
operator_text IsNotIn = codes "NOT_IN"
operator_text ArrayContains = codes "ARRAY_CONTAINS"
operator_text ArrayContainsAny = codes "ARRAY_CONTAINS_ANY"

-- a test of a field
abbrev pub test_text : UnaryOp → List ℕ
test_text IsNull = codes "IS_NULL"
test_text IsNotNull = codes "IS_NOT_NULL"

-- the direction of an order, by whether it descends
abbrev pub direction_text : Bool → List ℕ
direction_text true = codes "DESCENDING"
direction_text false = codes "ASCENDING"
