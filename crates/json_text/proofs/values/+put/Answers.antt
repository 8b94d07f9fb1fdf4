use Rattle.std.proofs.Common.{rules, sym, ap, codes, ◌∙◌}
use Rattle.value_model.proofs.Sizes.{item_below}
use Rattle.json_model.specs.Trees.{one}
use Rattle.json_model.proofs.Shown.{field_below}
use Rattle.json_text.specs.Puts.{tokens_of}
use Rattle.json_text.proofs.Adding.{onto, then_token, same}
use Rattle.json_text.proofs.Left.{is_empty, is_some, no_fields, some_fields}
use Rattle.json_text.proofs.values.+put.Goals as goal

pub put_array-returns-then-is_empty : goal.put_array-returns-then-is_empty
put_array-returns-then-is_empty t c = same (ap (λ d. tokens_of (one (codes "arrayValue") d)) (sym (is_empty c.args.values.now c.if-is_empty.ensures))) c.in_ok-put_empty.ensures

pub put_array-returns : goal.put_array-returns
put_array-returns t c =
    same (ap (λ d. tokens_of (one (codes "arrayValue") d)) (sym (is_some c.args.values.now c.if-is_empty.ensures)))
    (then_token (then_token (onto (then_token c.in_ok-open_inner.ensures c.in_ok-begin_array.ensures) c.in_ok-put_items.ensures) c.in_ok-end_object.ensures) c.in_ok-end_object-2.ensures)

pub put_map-returns-then-len-eq0 : goal.put_map-returns-then-len-eq0
put_map-returns-then-len-eq0 t c =
    same (ap (λ d. tokens_of (one (codes "mapValue") d)) (sym (no_fields c.args.fields.now (sym c.len.ensures.count ∙ c.if-len-eq0.true)))) c.in_ok-put_empty.ensures

pub put_map-returns : goal.put_map-returns
put_map-returns t c =
    same (ap (λ d. tokens_of (one (codes "mapValue") d)) (sym (some_fields c.args.fields.now (λ none. c.if-len-eq0.false (c.len.ensures.count ∙ none)))))
    (then_token (then_token (onto (then_token c.in_ok-open_inner.ensures c.in_ok-begin_object.ensures) c.in_ok-put_each.ensures) c.in_ok-end_object.ensures) c.in_ok-end_object-2.ensures)

pub put_items-put_value-requires : goal.put_items-put_value-requires
put_items-put_value-requires t c =
    let within = item_below c.args.values.now c.loop-value.value-index c.value-item.result c.loop-value-test.true in
    search rules

pub put_each-put_value-requires : goal.put_each-put_value-requires
put_each-put_value-requires t c =
    let within = field_below c.as_slice-field-items.result.now c.loop-field.field-index c.field-item.result c.args.fields.now c.loop-field-test.true c.field-item.is c.as_slice-field-items.ensures.shown in
    search rules
