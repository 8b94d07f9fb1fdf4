use Rattle.std.proofs.Common.{rules, ◌++◌, length}
use Rattle.record_parts.specs.Spelling.{number, many, value, fields}
use Rattle.record_parts.proofs.Puts.{byte_put}
use Rattle.record_parts.proofs.Values.{array_value, map_value}
use Rattle.record_parts.proofs.Entries.{field_put, fields_put}
use Rattle.value_model.proofs.Sizes.{item_below, field_below}
use Rattle.record_parts.proofs.writing.+putting.Goals as goal

pub put_value-returns-in_ok-put_values-in-Array : goal.put_value-returns-in_ok-put_values-in-Array
put_value-returns-in_ok-put_values-in-Array t c =
    byte_put c.args.out.now.items c.push-in-Array.new.self.items c.put_values.new.out.items (many value c.in-Array.values) (value c.args.content.now) 8
    c.in_ok-push-in-Array.ensures.items (rw c.as_slice-in-Array.ensures at c.in_ok-put_values-in-Array.ensures) (rw (← c.content.view_is, c.in-Array.is) (array_value c.in-Array.values))

pub put_value-returns-in_ok-put_fields-in-Map : goal.put_value-returns-in_ok-put_fields-in-Map
put_value-returns-in_ok-put_fields-in-Map t c =
    byte_put c.args.out.now.items c.push-in-Map.new.self.items c.put_fields.new.out.items (fields c.in-Map.content) (value c.args.content.now) 9
    c.in_ok-push-in-Map.ensures.items (rw c.as_fields.ensures at c.in_ok-put_fields-in-Map.ensures) (rw (← c.content.view_is, c.in-Map.is) (map_value c.in-Map.content))

pub put_values-put_value-requires : goal.put_values-put_value-requires
put_values-put_value-requires t c =
    let within = item_below c.args.values.now c.loop-value.value-index c.value-item.result c.loop-value-test.true in
    search rules

pub put_fields-put_value-requires : goal.put_fields-put_value-requires
put_fields-put_value-requires t c =
    let within = rw c.as_slice-entries.ensures.shown at (field_below c.as_slice-entries.result.now c.loop-entry.entry-index c.entry-item.result c.loop-entry-test.true) in
    search rules

pub put_fields-loop-entry-preserved : goal.put_fields-loop-entry-preserved
put_fields-loop-entry-preserved t c =
    field_put (c.args.out.now.items ++ number (length c.as_slice-entries.result.now)) c.loop-entry.out.items c.put_text.new.out.items c.put_value.new.out.items c.as_slice-entries.result.now c.loop-entry.entry-index c.entry-item.result
    c.loop-entry-test.true c.entry-item.is c.loop-entry.invariant (rw c.as_str.ensures at c.in_ok-put_text.ensures) c.in_ok-put_value.ensures

pub put_fields-returns : goal.put_fields-returns
put_fields-returns t c =
    fields_put c.args.out.now.items c.loop-entry.out.items c.as_slice-entries.result.now c.args.content.now c.loop-entry.entry-index c.loop-entry-test.false c.as_slice-entries.ensures.shown c.loop-entry.invariant
