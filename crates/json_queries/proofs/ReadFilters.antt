-- What is printed of filters is of the form, and spells them.
use Rattle.std.proofs.Common.{◌≡◌, ℕ, ◌-◌, ◌≤◌, List, [], ◌∷◌, Bool, true, false, codes, Some, None, cond, refl, sym, ap, subst, ◌∙◌, inr, arith}
use Rattle.std.specs.Bool.{if◌then◌else◌}
use Rattle.document_keys.specs.Paths.{printed_path}
use Rattle.document_keys.proofs.Fields.{printed_spells}
use Rattle.serde_json.specs.Data.{Data as Json, string, object as an_object, array as an_array, Items, no_items, item, Members, no_members, member}
use Rattle.value_model.specs.Data.{Data, null, boolean, integer, time, pending, text, bytes, reference, array, map, Items as Values, no_items as no_values, item as value_item}
use Rattle.value_model.proofs.ReadBack.{time_read}
use Rattle.json_model.specs.declared.place.Place.TheVariants as place
use Rattle.json_model.specs.declared.place.Object.{Object}
use Rattle.json_model.specs.declared.place.Object.TheVariants as object
use Rattle.json_model.specs.declared.place.Series.TheVariants as series
use Rattle.json_model.specs.Constants.{is_junction, is_operator, is_test, is_list_operator}
use Rattle.json_model.specs.Faults.{Takes, max_nesting}
use Rattle.json_model.specs.Fits.{Fits, ItemsFit, MembersFit}
use Rattle.json_model.specs.Grammar.{SpellsValue, SpellsItems, an_item}
use Rattle.json_model.specs.Leaves.{SpellsQueryPath}
use Rattle.json_model.specs.Members.{is_null, given, refined}
use Rattle.json_model.specs.Origin.{Origin}
use Rattle.json_model.specs.Places.{required, value_rows, filter_rows, composite_filter_rows, field_filter_rows, list_filter_rows, unary_filter_rows}
use Rattle.json_model.specs.Printed.{printed_value}
use Rattle.json_model.specs.Storable.{IsStorableQueryPath}
use Rattle.json_model.proofs.ReadBack.{items_fit, items_spelled}
use Rattle.queries.specs.declared.filter.Junction.{Junction}
use Rattle.queries.specs.declared.filter.Junction.TheVariants.{And, Or}
use Rattle.queries.specs.declared.filter.Operator.{Operator}
use Rattle.queries.specs.declared.filter.Operator.TheVariants.{Equal, LessThan, LessThanOrEqual, GreaterThan, GreaterThanOrEqual, NotEqual, IsIn, IsNotIn, ArrayContains, ArrayContainsAny}
use Rattle.queries.specs.declared.filter.UnaryOp.{UnaryOp}
use Rattle.queries.specs.declared.filter.UnaryOp.TheVariants.{IsNull, IsNotNull}
use Rattle.queries.specs.Filters.{FilterData, composite, field, unary, FilterItems, no_filters, filter_item, nesting, nesting_in}
use Rattle.json_queries.specs.Constants.{junction_text, operator_text, test_text}
use Rattle.json_queries.specs.Grammar.{SpellsField, SpellsFilter, of_kind, no_list, a_list, SpellsFilterItems, no_item, an_item as a_filter, as_composite, as_field, as_unary}
use Rattle.json_queries.specs.Printed.{printed_field, printed_filter, printed_filters, field_filter_tree, composite_filter_tree}
use Rattle.json_queries.specs.Storable.{IsStorableOperand, IsStorableComparison, HasStorableParts, HaveStorableParts, IsArray, TakesOperand}

-- ---- fields

path_read : (path : List (List ℕ)) → IsStorableQueryPath path → SpellsQueryPath (printed_path path) path
path_read path stored = record { spelled = printed_spells path stored.names.some; path = stored.names; few = stored.few }

pub field_fits : (o : Origin) (limit : ℕ) (path : List (List ℕ)) → IsStorableQueryPath path → Fits o limit (place.Object object.Field) (printed_field path)
unfolding Fits
field_fits o limit path stored = record { chooses = refl; no_vector = refl; levels = 0; takes = refl; room = omega arith; inside = (refl, inr (refl, (tt, (printed_path path, (refl, (path, path_read path stored))))), refl) }

pub field_spelled : (path : List (List ℕ)) → IsStorableQueryPath path → SpellsField (printed_field path) path
field_spelled path stored = record {
  members = member (codes "fieldPath") (string (printed_path path)) no_members;
  is = refl;
  spells = record { tree = string (printed_path path); is = refl; spells = (printed_path path, (refl, path_read path stored)) };
}

-- ---- values

pub operand_fits : (o : Origin) (v : Data) → IsStorableOperand v → Fits o max_nesting (place.Object object.Value) (printed_value v)
unfolding Fits
operand_fits o v stored = let deep = stored.deep in (items_fit time_read o max_nesting (value_item v no_values) (stored.storable, tt) (omega (arith, deep))).0

first_spelled : (d : Json) (ds : Items) (v : Data) (vs : List Data) → SpellsItems (item d ds) (v ∷ vs) → SpellsValue d v
first_spelled d ds v vs (an_item first rest) = first

pub operand_spelled : (v : Data) → IsStorableOperand v → SpellsValue (printed_value v) v
operand_spelled v stored = first_spelled _ _ v [] (items_spelled time_read (value_item v no_values) (stored.storable, tt))

-- the members of a printed value
record IsObject (d : Json) : Type 0 where
  members : Members
  is : d ≡ an_object members

value_object : (v : Data) → IsObject (printed_value v)
value_object null = record { members = _; is = refl }
value_object (boolean b) = record { members = _; is = refl }
value_object (integer z) = record { members = _; is = refl }
value_object (time t) = record { members = _; is = refl }
value_object (pending t) = record { members = _; is = refl }
value_object (text s) = record { members = _; is = refl }
value_object (bytes s) = record { members = _; is = refl }
value_object (reference r) = record { members = _; is = refl }
value_object (array ds) = record { members = _; is = refl }
value_object (map ms) = record { members = _; is = refl }

-- an array may stand where a list of operands is to
array_fits : (o : Origin) (ds : Values) → IsStorableOperand (array ds) → Fits o max_nesting (place.Object object.ListOperand) (printed_value (array ds))
unfolding Fits value_rows
array_fits o no_values stored = let fits = operand_fits o (array no_values) stored in record { chooses = refl; no_vector = refl; levels = fits.levels; takes = fits.takes; room = fits.room; inside = fits.inside }
array_fits o (value_item d ds) stored = let fits = operand_fits o (array (value_item d ds)) stored in record { chooses = refl; no_vector = refl; levels = fits.levels; takes = fits.takes; room = fits.room; inside = fits.inside }

an_array_fits : (o : Origin) (v : Data) → IsStorableOperand v → IsArray v → Fits o max_nesting (place.Object object.ListOperand) (printed_value v)
an_array_fits o (array ds) stored takes = array_fits o ds stored
an_array_fits o null stored takes = absurd takes
an_array_fits o (boolean b) stored takes = absurd takes
an_array_fits o (integer z) stored takes = absurd takes
an_array_fits o (time t) stored takes = absurd takes
an_array_fits o (pending t) stored takes = absurd takes
an_array_fits o (text s) stored takes = absurd takes
an_array_fits o (bytes s) stored takes = absurd takes
an_array_fits o (reference r) stored takes = absurd takes
an_array_fits o (map ms) stored takes = absurd takes

-- ---- texts

junction_known : (op : Junction) → is_junction (junction_text op) ≡ true
unfolding is_junction
junction_known And = refl
junction_known Or = refl

test_known : (op : UnaryOp) → is_test (test_text op) ≡ true
unfolding is_test
test_known IsNull = refl
test_known IsNotNull = refl

operator_known : (op : Operator) → is_operator (operator_text op) ≡ true
unfolding is_operator
operator_known Equal = refl
operator_known LessThan = refl
operator_known LessThanOrEqual = refl
operator_known GreaterThan = refl
operator_known GreaterThanOrEqual = refl
operator_known NotEqual = refl
operator_known IsIn = refl
operator_known IsNotIn = refl
operator_known ArrayContains = refl
operator_known ArrayContainsAny = refl

-- ---- filters of a field

-- what stands under `value`
abbrev OperandObject : Bool → Object
OperandObject asks = if asks then object.ListOperand else object.Value

abbrev FieldObject : Bool → Object
FieldObject asks = if asks then object.ListFilter else object.FieldFilter

comparison_fits : (o : Origin) (limit : ℕ) (path : List (List ℕ)) (op : List ℕ) (inner : Members) (asks : Bool) → is_list_operator op ≡ asks → is_operator op ≡ true → IsStorableQueryPath path → Fits o max_nesting (place.Object (OperandObject asks)) (an_object inner)
    → Fits o limit (place.Object object.FieldFilter) (field_filter_tree (printed_field path) op (an_object inner))
unfolding Fits field_filter_rows list_filter_rows
comparison_fits o limit path op inner asks is known stored operand =
    let ms : Members = member (codes "field") (printed_field path) (member (codes "op") (string op) (member (codes "value") (an_object inner) no_members)) in
    let same : refined object.FieldFilter ms ≡ FieldObject asks = ap FieldObject is in
    record {
      chooses = refl;
      no_vector = refl;
      levels = 0;
      takes = subst (λ k. Takes k ms 0) (sym same) (by_takes asks ms);
      room = omega arith;
      inside = subst (λ k. MembersFit o max_nesting k (required k) ms) (sym same) (by asks operand);
    }
  where
    by_takes : (b : Bool) (ms : Members) → Takes (FieldObject b) ms 0
    by_takes true ms = refl
    by_takes false ms = refl

    by : (b : Bool) → Fits o max_nesting (place.Object (OperandObject b)) (an_object inner)
        → MembersFit o max_nesting (FieldObject b) (required (FieldObject b)) (member (codes "field") (printed_field path) (member (codes "op") (string op) (member (codes "value") (an_object inner) no_members)))
    by true fits = (refl, inr (refl, (tt, field_fits o max_nesting path stored)), (refl, inr (refl, (tt, (op, (refl, known)))), (refl, inr (refl, (tt, fits)), refl)))
    by false fits = (refl, inr (refl, (tt, field_fits o max_nesting path stored)), (refl, inr (refl, (tt, (op, (refl, known)))), (refl, inr (refl, (tt, fits)), refl)))

-- what stands as the operand of the operator
list_fits : (o : Origin) (v : Data) → IsStorableOperand v → (op : Operator) → TakesOperand op v → Fits o max_nesting (place.Object (OperandObject (is_list_operator (operator_text op)))) (printed_value v)
unfolding is_list_operator
list_fits o v stored Equal takes = operand_fits o v stored
list_fits o v stored LessThan takes = operand_fits o v stored
list_fits o v stored LessThanOrEqual takes = operand_fits o v stored
list_fits o v stored GreaterThan takes = operand_fits o v stored
list_fits o v stored GreaterThanOrEqual takes = operand_fits o v stored
list_fits o v stored NotEqual takes = operand_fits o v stored
list_fits o v stored ArrayContains takes = operand_fits o v stored
list_fits o v stored IsIn takes = an_array_fits o v stored takes
list_fits o v stored IsNotIn takes = an_array_fits o v stored takes
list_fits o v stored ArrayContainsAny takes = an_array_fits o v stored takes

field_filter_fits : (o : Origin) (limit : ℕ) (path : List (List ℕ)) (op : Operator) (v : Data) → IsStorableComparison path op v → Fits o limit (place.Object object.FieldFilter) (field_filter_tree (printed_field path) (operator_text op) (printed_value v))
field_filter_fits o limit path op v stored =
    let inner = value_object v in
    subst (λ d. Fits o limit (place.Object object.FieldFilter) (field_filter_tree (printed_field path) (operator_text op) d)) (sym inner.is)
    (comparison_fits o limit path (operator_text op) inner.members (is_list_operator (operator_text op)) refl (operator_known op) stored.names
    (subst (λ d. Fits o max_nesting (place.Object (OperandObject (is_list_operator (operator_text op)))) d) inner.is (list_fits o v stored.value op stored.takes)))

field_filter_spelled : (path : List (List ℕ)) (op : Operator) (v : Data) → IsStorableComparison path op v → SpellsFilter (printed_filter (field path op v)) (field path op v)
unfolding filter_rows
field_filter_spelled path op v stored =
    let ms : Members = member (codes "field") (printed_field path) (member (codes "op") (string (operator_text op)) (member (codes "value") (printed_value v) no_members)) in
    of_kind (member (codes "fieldFilter") (an_object ms) no_members) (codes "fieldFilter") (an_object ms) refl refl
    (as_field ms path op v refl refl (record {
      names = record { tree = printed_field path; is = refl; spells = field_spelled path stored.names };
      compares = record { tree = string (operator_text op); is = refl; spells = refl };
      holds = record { tree = printed_value v; is = given_value; spells = operand_spelled v stored.value };
    }))
  where
    given_value : given (codes "value") (member (codes "field") (printed_field path) (member (codes "op") (string (operator_text op)) (member (codes "value") (printed_value v) no_members))) ≡ Some (printed_value v)
    given_value = let inner = value_object v in ap (λ d. cond (is_null d) None (Some d)) inner.is ∙ ap (λ d. Some d) (sym inner.is)

unary_filter_fits : (o : Origin) (limit : ℕ) (path : List (List ℕ)) (op : UnaryOp) → IsStorableQueryPath path → Fits o limit (place.Object object.UnaryFilter) (an_object (member (codes "field") (printed_field path) (member (codes "op") (string (test_text op)) no_members)))
unfolding Fits unary_filter_rows
unary_filter_fits o limit path op stored = record {
  chooses = refl;
  no_vector = refl;
  levels = 0;
  takes = refl;
  room = omega arith;
  inside = (refl, inr (refl, (tt, field_fits o (limit - 0) path stored)), (refl, inr (refl, (tt, (test_text op, (refl, test_known op)))), refl));
}

unary_filter_spelled : (path : List (List ℕ)) (op : UnaryOp) → IsStorableQueryPath path → SpellsFilter (printed_filter (unary path op)) (unary path op)
unfolding filter_rows
unary_filter_spelled path op stored =
    let ms : Members = member (codes "field") (printed_field path) (member (codes "op") (string (test_text op)) no_members) in
    of_kind (member (codes "unaryFilter") (an_object ms) no_members) (codes "unaryFilter") (an_object ms) refl refl
    (as_unary ms path op refl refl (record {
      names = record { tree = printed_field path; is = refl; spells = field_spelled path stored };
      tests = record { tree = string (test_text op); is = refl; spells = refl };
    }))

-- ---- filters

-- a filter under the name of its kind
kind_fits : (o : Origin) (limit : ℕ) (inner : Members) → 1 ≤ limit → Fits o (limit - 1) (place.Object object.FieldFilter) (an_object inner) → Fits o limit (place.Object object.Filter) (an_object (member (codes "fieldFilter") (an_object inner) no_members))
unfolding Fits filter_rows
kind_fits o limit inner room fits = record { chooses = refl; no_vector = refl; levels = 1; takes = refl; room = room; inside = (refl, inr (refl, (tt, fits)), refl) }

test_kind_fits : (o : Origin) (limit : ℕ) (inner : Members) → 1 ≤ limit → Fits o (limit - 1) (place.Object object.UnaryFilter) (an_object inner) → Fits o limit (place.Object object.Filter) (an_object (member (codes "unaryFilter") (an_object inner) no_members))
unfolding Fits filter_rows
test_kind_fits o limit inner room fits = record { chooses = refl; no_vector = refl; levels = 1; takes = refl; room = room; inside = (refl, inr (refl, (tt, fits)), refl) }

junction_kind_fits : (o : Origin) (limit : ℕ) (inner : Members) → 1 ≤ limit → Fits o (limit - 1) (place.Object object.CompositeFilter) (an_object inner) → Fits o limit (place.Object object.Filter) (an_object (member (codes "compositeFilter") (an_object inner) no_members))
unfolding Fits filter_rows
junction_kind_fits o limit inner room fits = record { chooses = refl; no_vector = refl; levels = 1; takes = refl; room = room; inside = (refl, inr (refl, (tt, fits)), refl) }

composite_fits : (o : Origin) (limit : ℕ) (op : Junction) (ds : Items) → ItemsFit o limit series.Filters ds → Fits o limit (place.Object object.CompositeFilter) (composite_filter_tree ds (junction_text op))
unfolding Fits composite_filter_rows
composite_fits o limit op no_items fits = record { chooses = refl; no_vector = refl; levels = 0; takes = refl; room = omega arith; inside = (refl, inr (refl, (tt, (junction_text op, (refl, junction_known op)))), refl) }
composite_fits o limit op (item d ds) fits = record {
  chooses = refl;
  no_vector = refl;
  levels = 0;
  takes = refl;
  room = omega arith;
  inside = (
    refl,
    inr (refl, (tt, (refl, subst (λ n. ItemsFit o n series.Filters (item d ds)) (all_levels limit) fits))),
    (refl, inr (refl, (tt, (junction_text op, (refl, junction_known op)))), refl),
  );
}
  where
    all_levels : (n : ℕ) → n ≡ n - 0
    all_levels n = omega arith

composite_spelled : (op : Junction) (fs : FilterItems) → SpellsFilterItems (printed_filters fs) fs → SpellsFilter (printed_filter (composite op fs)) (composite op fs)
unfolding filter_rows
composite_spelled op no_filters spelled =
    let ms : Members = member (codes "op") (string (junction_text op)) no_members in
    of_kind (member (codes "compositeFilter") (an_object ms) no_members) (codes "compositeFilter") (an_object ms) refl refl (as_composite ms op refl refl (record { tree = string (junction_text op); is = refl; spells = refl }) no_list)
composite_spelled op (filter_item f fs) spelled =
    let list = an_array (printed_filters (filter_item f fs)) in
    let ms : Members = member (codes "filters") list (member (codes "op") (string (junction_text op)) no_members) in
    of_kind (member (codes "compositeFilter") (an_object ms) no_members) (codes "compositeFilter") (an_object ms) refl refl
    (as_composite ms op refl refl (record { tree = string (junction_text op); is = refl; spells = refl }) (a_list (printed_filters (filter_item f fs)) list refl spelled))

mutual
  pub filter_spelled : (f : FilterData) → HasStorableParts f → SpellsFilter (printed_filter f) f
  filter_spelled (composite op fs) stored = composite_spelled op fs (filters_spelled fs stored)
  filter_spelled (field path op v) stored = field_filter_spelled path op v stored
  filter_spelled (unary path op) stored = unary_filter_spelled path op stored

  filters_spelled : (fs : FilterItems) → HaveStorableParts fs → SpellsFilterItems (printed_filters fs) fs
  filters_spelled no_filters stored = no_item
  filters_spelled (filter_item f fs) stored = a_filter (filter_spelled f stored.0) (filters_spelled fs stored.1)

mutual
  unfolding Fits

  pub filter_fits : (o : Origin) (limit : ℕ) (f : FilterData) → HasStorableParts f → nesting f ≤ limit → Fits o limit (place.Object object.Filter) (printed_filter f)
  filter_fits o limit (composite op fs) stored deep = junction_kind_fits o limit _ (omega (arith, deep)) (composite_fits o (limit - 1) op (printed_filters fs) (filters_fit o (limit - 1) fs stored (omega (arith, deep))))
  filter_fits o limit (field path op v) stored deep = kind_fits o limit _ (omega (arith, deep)) (field_filter_fits o (limit - 1) path op v stored)
  filter_fits o limit (unary path op) stored deep = test_kind_fits o limit _ (omega (arith, deep)) (unary_filter_fits o (limit - 1) path op stored)

  filters_fit : (o : Origin) (limit : ℕ) (fs : FilterItems) → HaveStorableParts fs → nesting_in fs ≤ limit → ItemsFit o limit series.Filters (printed_filters fs)
  filters_fit o limit no_filters stored deep = tt
  filters_fit o limit (filter_item f fs) stored deep = (filter_fits o limit f stored.0 (omega (arith, deep)), filters_fit o limit fs stored.1 (omega (arith, deep)))
