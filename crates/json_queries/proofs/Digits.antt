-- What is printed of a target has no floats.
use Rattle.std.proofs.Common.{◌≡◌, Bool, false, true, ◌||◌, codes, refl}
use Rattle.document_keys.specs.Names.{Root}
use Rattle.serde_json.specs.Written.{has_float, items_have_float}
use Rattle.json_model.specs.Forms.{unless_empty, printed_each}
use Rattle.json_model.specs.Printed.{printed_value}
use Rattle.json_model.proofs.Digits.{NoFloat, neither, row_digits, rows_digits, each_digits, list_digits, option_digits, value_digits}
use Rattle.queries.specs.declared.order.Cursor.{Cursor}
use Rattle.queries.specs.declared.target.CollectionTarget.{CollectionTarget}
use Rattle.queries.specs.declared.target.Target.{Target}
use Rattle.queries.specs.declared.target.Target.TheVariants.{Document, Collection}
use Rattle.queries.specs.Filters.{FilterData, composite, field, unary, FilterItems, no_filters, filter_item}
use Rattle.json_queries.specs.Constants.{junction_text}
use Rattle.json_queries.proofs.Rows.{CursorRows, QueryRows}
use Rattle.json_queries.specs.Printed.{printed_order, unless_false, printed_cursor, composite_filter_tree, printed_filter, printed_filters, printed_limit, printed_structured, target_tree}

flag_digits : (is : Bool) → NoFloat (unless_false is)
flag_digits false = tt
flag_digits true = refl

cursor_digits : (cursor : Cursor) → has_float (printed_cursor cursor) ≡ false
cursor_digits cursor = rows_digits (CursorRows cursor) (flag_digits cursor.before, (list_digits (printed_each printed_value cursor.values) (each_digits printed_value value_digits cursor.values), tt))

mutual
  filter_digits : (f : FilterData) → has_float (printed_filter f) ≡ false
  filter_digits (composite op fs) =
      neither (has_float (composite_filter_tree (printed_filters fs) (junction_text op))) false
      (row_digits (codes "filters") (unless_empty (printed_filters fs)) _ (list_digits (printed_filters fs) (filters_digits fs)) refl) refl
  filter_digits (field path op v) = neither (has_float (printed_value v) || false) false (neither (has_float (printed_value v)) false (value_digits v) refl) refl
  filter_digits (unary path op) = refl

  filters_digits : (fs : FilterItems) → items_have_float (printed_filters fs) ≡ false
  filters_digits no_filters = refl
  filters_digits (filter_item f fs) = neither (has_float (printed_filter f)) (items_have_float (printed_filters fs)) (filter_digits f) (filters_digits fs)

structured_digits : (target : CollectionTarget) → has_float (printed_structured target) ≡ false
structured_digits target = rows_digits (QueryRows target) (
  option_digits printed_cursor cursor_digits target.end_at,
  (
    refl,
    (
      option_digits printed_limit (λ limit. refl) target.limit,
      (
        list_digits (printed_each printed_order target.orders) (each_digits printed_order (λ order. refl) target.orders),
        (
          option_digits printed_cursor cursor_digits target.start_at,
          (
            option_digits printed_filter filter_digits target.filter,
            tt,
          ),
        ),
      ),
    ),
  ),
)

pub target_digits : (root : Root) (target : Target) → has_float (target_tree root target) ≡ false
target_digits root (Document key) = refl
target_digits root (Collection target) = neither (has_float (printed_structured target) || false) false (neither (has_float (printed_structured target)) false (structured_digits target) refl) refl
