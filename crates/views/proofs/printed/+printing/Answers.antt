use Rattle.std.proofs.Common.{rules, IsTrue, arith}
use Rattle.value_model.proofs.Sizes.{item_below, field_below}
use Rattle.views.proofs.Printing.{ApartKinds, array_first, map_first, neither_first, kinds_print, arrays_print, maps_print, values_apart, names_apart, field_values_apart}
use Rattle.views.proofs.printed.+printing.Goals as goal
use Rattle.views.proofs.printed.+printing.Goals.{is_printed_as-in_default-via-in-Array+in_default, is_printed_as-in_default-via-in-Map+in_default, is_printed_as-in_default-via-in_default}

pub is_printed_as-returns-in_default : goal.is_printed_as-returns-in_default
is_printed_as-returns-in_default t c =
    let k = c.value.inside.kind in
    let l = c.other.inside.kind in
    let apart : ApartKinds k l = elim c.in_default.branch [
      | is_printed_as-in_default-via-in-Array+in_default w ↦ array_first k l w.in_default.field-0-0 w.in_default.is-0 w.in_default.not-Array-1
      | is_printed_as-in_default-via-in-Map+in_default w ↦ map_first k l w.in_default.field-0-0 w.in_default.is-0 w.in_default.not-Map-1
      | is_printed_as-in_default-via-in_default w ↦ neither_first k l w.in_default.not-Array-0 w.in_default.not-Map-0
    ] in
    let both = kinds_print k l apart in
    let is = rw (← c.value.view_is, ← c.other.view_is) at c.are_null_or_equal.ensures in
    rw (← c.value.view_is, ← c.other.view_is) (λ yes. both.0 (is.0 yes), λ same. is.1 (both.1 same))

pub is_printed_as-returns-in-Array-Array : goal.is_printed_as-returns-in-Array-Array
is_printed_as-returns-in-Array-Array t c =
    let both = arrays_print c.in-Array-Array.values c.in-Array-Array.others in
    let is = rw (c.as_slice.ensures, c.as_slice-in-Array-Array.ensures) at c.are_printed_as.ensures in
    rw (← c.value.view_is, ← c.other.view_is, c.in-Array-Array.is-0, c.in-Array-Array.is-1) (λ yes. both.1 (is.0 yes), λ same. is.1 (both.0 same))

pub are_printed_as-is_printed_as-requires : goal.are_printed_as-is_printed_as-requires
are_printed_as-is_printed_as-requires t c = let within = item_below c.args.values.now c.loop-i.i c.index-values-i.result (omega arith) in search rules

pub fields_are_printed_as-is_printed_as-requires : goal.fields_are_printed_as-is_printed_as-requires
fields_are_printed_as-is_printed_as-requires t c = let within = field_below c.args.fields.now c.loop-i.i c.index-fields-i-in-loop-i.result (omega arith) in search rules

pub are_printed_as-returns-then-not-is_printed_as : goal.are_printed_as-returns-then-not-is_printed_as
are_printed_as-returns-then-not-is_printed_as t c =
    let no : IsTrue c.is_printed_as.result → ⊥ = λ yes. cc in
    (λ no. cc, λ same. absurd (values_apart c.args.values.now c.args.others.now c.loop-i.i c.index-values-i.result c.index-others-i.result (omega arith) (omega arith) c.index-values-i.is c.index-others-i.is (λ e. no (c.is_printed_as.ensures.1 e)) same))

pub fields_are_printed_as-returns-then-not-has_name_of : goal.fields_are_printed_as-returns-then-not-has_name_of
fields_are_printed_as-returns-then-not-has_name_of t c =
    let no : IsTrue c.has_name_of.result → ⊥ = λ yes. cc in
    (λ no. cc, λ same. absurd (names_apart c.args.fields.now c.args.others.now c.loop-i.i c.index-fields-i.result c.index-others-i.result (omega arith) (omega arith) c.index-fields-i.is c.index-others-i.is (λ e. no (c.has_name_of.ensures.1 e)) same))

pub fields_are_printed_as-returns-then-not-is_printed_as : goal.fields_are_printed_as-returns-then-not-is_printed_as
fields_are_printed_as-returns-then-not-is_printed_as t c =
    let no : IsTrue c.is_printed_as.result → ⊥ = λ yes. cc in
    (λ no. cc, λ same. absurd (field_values_apart c.args.fields.now c.args.others.now c.loop-i.i c.index-fields-i-in-loop-i.result c.index-others-i-in-loop-i.result (omega arith) (omega arith) (λ e. no (c.is_printed_as.ensures.1 e)) same))

pub is_printed_as-returns-in-Map-Map : goal.is_printed_as-returns-in-Map-Map
is_printed_as-returns-in-Map-Map t c =
    let both = maps_print c.in-Map-Map.fields c.in-Map-Map.others in
    let is = rw (c.as_slice-in-Map-Map.ensures.shown, c.as_fields.ensures, c.as_slice-in-Map-Map-2.ensures.shown, c.as_fields-in-Map-Map.ensures) at c.fields_are_printed_as.ensures in
    rw (← c.value.view_is, ← c.other.view_is, c.in-Map-Map.is-0, c.in-Map-Map.is-1) (λ yes. both.1 (is.0 yes), λ same. is.1 (both.0 same))
