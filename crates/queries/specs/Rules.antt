-- The rules of queries, by what stands anywhere in a filter.
use Rattle.std.specs.Prelude.{◌≡◌, ◌≢◌, ◌⊎◌, ◌<ℤ◌, pos, ℕ, ℤ, ◌<◌, Bool, true, false, ◌||◌, nat_lt, nat_eq, List, length, Option, Some, None}
use Rattle.std.specs.List.{count_by}
use Rattle.value_model.specs.Arrays.{items_in}
use Rattle.value_model.specs.Data.{Data}
use Rattle.queries.specs.declared.filter.Junction.TheVariants.{And, Or}
use Rattle.queries.specs.declared.filter.Operator.TheVariants.{NotEqual, IsIn, IsNotIn, ArrayContains, ArrayContainsAny}
use Rattle.queries.specs.declared.order.Cursor.{Cursor}
use Rattle.queries.specs.declared.order.Order.{Order}
use Rattle.queries.specs.declared.rules.Mark.{Mark}
use Rattle.queries.specs.declared.rules.Mark.TheVariants as mark
use Rattle.queries.specs.declared.raw.RawCollection.{RawCollection}
use Rattle.queries.specs.declared.raw.QueryRule.{QueryRule}
use Rattle.queries.specs.declared.raw.QueryRule.TheVariants as rule
use Rattle.queries.specs.Orders.{AreWhole}
use Rattle.queries.specs.Filters.{FilterData, composite, field, list_of, nodes}

-- a filter that compares by NOT_EQUAL or NOT_IN
abbrev pub is_negation : FilterData → Bool
is_negation (field path NotEqual operand) = true
is_negation (field path IsNotIn operand) = true
is_negation _ = false

abbrev pub is_not_in : FilterData → Bool
is_not_in (field path IsNotIn operand) = true
is_not_in _ = false

-- an OR, or a filter that asks for one of several operands
abbrev pub is_disjunction : FilterData → Bool
is_disjunction (composite Or joined) = true
is_disjunction (field path IsIn operand) = true
is_disjunction (field path ArrayContainsAny operand) = true
is_disjunction _ = false

-- a list of operands that is empty, or longer than this
abbrev pub has_bad_length : ℕ → Data → Bool
has_bad_length most operand = nat_eq (length (items_in operand)) 0 || nat_lt most (length (items_in operand))

-- a list of filters that is empty, or a list of operands that is empty or too long
abbrev pub has_bad_list : FilterData → Bool
has_bad_list (composite op filters) = nat_eq (length (list_of filters)) 0
has_bad_list (field path IsIn operand) = has_bad_length 30 operand
has_bad_list (field path ArrayContainsAny operand) = has_bad_length 30 operand
has_bad_list (field path IsNotIn operand) = has_bad_length 10 operand
has_bad_list _ = false

-- a filter that asks what an array has
abbrev pub is_array_filter : FilterData → Bool
is_array_filter (field path ArrayContains operand) = true
is_array_filter (field path ArrayContainsAny operand) = true
is_array_filter _ = false

-- an AND of which two direct members ask what an array has
abbrev pub repeats_array_filter : FilterData → Bool
repeats_array_filter (composite And filters) = nat_lt 1 (count_by is_array_filter (list_of filters))
repeats_array_filter _ = false

-- what the code looks for in a filter
abbrev pub is_marked : Mark → FilterData → Bool
is_marked mark.Negation = is_negation
is_marked mark.NotIn = is_not_in
is_marked mark.Disjunction = is_disjunction
is_marked mark.BadList = has_bad_list
is_marked mark.RepeatedArrayFilter = repeats_array_filter

-- how many filters in a query's filter are such
abbrev pub marked_count : Mark → Option FilterData → ℕ
marked_count m None = 0
marked_count m (Some f) = count_by (is_marked m) (nodes f)

-- a cursor that has no value, or more values than there are orders
abbrev pub BadCursor : List Order → Option Cursor → Type 0
BadCursor orders None = ⊥
BadCursor orders (Some c) = (length c.values ≡ 0) ⊎ (length orders < length c.values)

-- a limit below 1
abbrev pub BadLimit : Option ℤ → Type 0
BadLimit None = ⊥
BadLimit (Some n) = n <ℤ pos 1

-- more than one filter by NOT_EQUAL or NOT_IN, or a NOT_IN beside an OR, IN or ARRAY_CONTAINS_ANY
abbrev pub HasBadNegations : Option FilterData → Type 0
HasBadNegations filter = (1 < marked_count mark.Negation filter) ⊎ ((0 < marked_count mark.NotIn filter) × (0 < marked_count mark.Disjunction filter))

-- one of the cursors is bad for the whole list of orders
pub record HasBadCursor (raw : RawCollection) : Type 0 where
  pub orders : List Order
  pub whole : AreWhole raw.orders raw.filter orders
  pub bad : BadCursor orders raw.start_at ⊎ BadCursor orders raw.end_at

-- A query of collections breaks a rule (the rules of product queries, by their numbers).
abbrev pub Breaks : QueryRule → RawCollection → Type 0
Breaks rule.OneCollection raw = length raw.from ≢ 1
Breaks rule.Negations raw = HasBadNegations raw.filter
Breaks rule.Lists raw = 0 < marked_count mark.BadList raw.filter
Breaks rule.Cursors raw = HasBadCursor raw
Breaks rule.Limit raw = BadLimit raw.limit
Breaks rule.ArrayFilters raw = 0 < marked_count mark.RepeatedArrayFilter raw.filter

-- the number of a rule
abbrev pub number_of : QueryRule → ℕ
number_of rule.OneCollection = 1
number_of rule.Negations = 2
number_of rule.Lists = 3
number_of rule.Cursors = 4
number_of rule.Limit = 5
number_of rule.ArrayFilters = 6

-- it breaks the rule, and none of a lesser number
pub record BreaksFirst (raw : RawCollection) (broken : QueryRule) : Type 0 where
  pub breaks : Breaks broken raw
  pub least : (other : QueryRule) → number_of other < number_of broken → Breaks other raw → ⊥

-- it breaks no rule
abbrev pub IsSound : RawCollection → Type 0
IsSound raw = (any : QueryRule) → Breaks any raw → ⊥
