use Rattle.std.proofs.Common.{◌≡◌, ◌-◌, [], suc, arith}
use Rattle.std.proofs.lemmas.Result.{err_from_is_err_and}
use Rattle.record_parts.proofs.Wide.{fails_also}
use Rattle.record_parts.proofs.Basics.{field_name}
use Rattle.record_parts.proofs.Values.{no_array, no_map, no_bytes, value_within}
use Rattle.record_parts.proofs.Entries.{array_done, array_not, map_done, map_not, field_parts, field_of_parts, field_kind, field_form, fields_none, fields_not, fields_read}
use Rattle.record_parts.proofs.Combine.{no_first, no_second, pair_read, kind_read, kind_none, no_count, no_item, list_read}
use Rattle.record_parts.proofs.fields.+values.Goals as goal

pub value_of-returns-in_default : goal.value_of-returns-in_default
value_of-returns-in_default t c = no_bytes c.args.limit c.args.bytes.now c.in_default.ensures.cases

pub value_of-returns-in_default-tag : goal.value_of-returns-in_default-tag
value_of-returns-in_default-tag t c = rw c.in-Some.ensures.cases.0 (c.scalar_of.ensures c.args.limit)

pub values_of-returns-in_err-count : goal.values_of-returns-in_err-count
values_of-returns-in_err-count t c =
    let p = err_from_is_err_and c.from_residual.result c.from_residual.ensures.1 in
    rw (p.1, p.2) (fails_also c.in_err-count.field-0.0 (no_count (value_within c.args.limit) c.args.bytes.now) c.in_err-count.ensures)

pub values_of-returns-in_err-value : goal.values_of-returns-in_err-value
values_of-returns-in_err-value t c =
    let p = err_from_is_err_and c.from_residual-in_err-value.result c.from_residual-in_err-value.ensures.1 in
    rw (p.1, p.2) (fails_also c.in_err-value.field-0.0 (no_item (value_within c.args.limit) c.args.bytes.now c.in_ok-count.count c.in_ok-count.start.now c.loop.counter c.loop.values.items c.loop.rest.now c.in_ok-count.ensures c.loop-test.true c.loop.invariant) c.in_err-value.ensures)

pub values_of-returns : goal.values_of-returns
values_of-returns t c = list_read (value_within c.args.limit) c.args.bytes.now c.in_ok-count.count c.in_ok-count.start.now c.loop.counter c.loop.values.items c.loop.rest.now c.in_ok-count.ensures (omega (arith, c.loop-test.false)) c.loop.invariant

pub array_of-returns-then-limit-eq0 : goal.array_of-returns-then-limit-eq0
array_of-returns-then-limit-eq0 t c = rw c.if-limit-eq0.true (no_array c.args.bytes.now)

pub array_of-returns-in_err-values : goal.array_of-returns-in_err-values
array_of-returns-in_err-values t c =
    let p = err_from_is_err_and c.from_residual.result c.from_residual.ensures.1 in
    let is : c.args.limit ≡ suc (c.args.limit - 1) = omega arith in
    rw (p.1, p.2) (fails_also c.in_err-values.field-0.0 (array_not c.args.limit (c.args.limit - 1) c.args.bytes.now is) c.in_err-values.ensures)

pub array_of-returns : goal.array_of-returns
array_of-returns t c =
    let is : c.args.limit ≡ suc (c.args.limit - 1) = omega arith in
    rw c.in_ok-array.ensures (array_done c.args.limit (c.args.limit - 1) c.args.bytes.now c.in_ok-values.values.items c.in_ok-values.rest.now is c.in_ok-values.ensures)

pub map_of-returns-then-limit-eq0 : goal.map_of-returns-then-limit-eq0
map_of-returns-then-limit-eq0 t c = rw c.if-limit-eq0.true (no_map c.args.bytes.now)

pub map_of-returns-in_err-content : goal.map_of-returns-in_err-content
map_of-returns-in_err-content t c =
    let p = err_from_is_err_and c.from_residual.result c.from_residual.ensures.1 in
    let is : c.args.limit ≡ suc (c.args.limit - 1) = omega arith in
    rw (p.1, p.2) (fails_also c.in_err-content.field-0.0 (map_not c.args.limit (c.args.limit - 1) c.args.bytes.now is) c.in_err-content.ensures)

pub map_of-returns : goal.map_of-returns
map_of-returns t c =
    let is : c.args.limit ≡ suc (c.args.limit - 1) = omega arith in
    rw c.in_ok-map.ensures (map_done c.args.limit (c.args.limit - 1) c.args.bytes.now c.in_ok-content.content c.in_ok-content.rest.now is c.in_ok-content.ensures)

pub field_of-returns-in_err-name : goal.field_of-returns-in_err-name
field_of-returns-in_err-name t c =
    let p = err_from_is_err_and c.from_residual.result c.from_residual.ensures.1 in
    rw (p.1, p.2) (fails_also c.in_err-name.field-0.0 (λ none. kind_none [] field_of_parts (field_parts c.args.limit) (field_kind c.args.limit) c.args.bytes.now (no_first field_name (λ _. value_within c.args.limit) c.args.bytes.now none)) c.in_err-name.ensures)

pub field_of-returns-in_err-value : goal.field_of-returns-in_err-value
field_of-returns-in_err-value t c =
    let p = err_from_is_err_and c.from_residual-in_err-value.result c.from_residual-in_err-value.ensures.1 in
    rw (p.1, p.2) (fails_also c.in_err-value.field-0.0
    (λ none. kind_none [] field_of_parts (field_parts c.args.limit) (field_kind c.args.limit) c.args.bytes.now (no_second field_name (λ _. value_within c.args.limit) c.args.bytes.now c.in_ok-name.name c.in_ok-name.rest.now c.in_ok-name.ensures none)) c.in_err-value.ensures)

pub field_of-returns : goal.field_of-returns
field_of-returns t c = kind_read [] field_of_parts (field_parts c.args.limit) (field_kind c.args.limit) c.args.bytes.now (c.in_ok-name.name, c.in_ok-value.value) c.in_ok-value.rest.now
    (pair_read field_name (λ _. value_within c.args.limit) c.args.bytes.now c.in_ok-name.name c.in_ok-name.rest.now c.in_ok-value.value c.in_ok-value.rest.now c.in_ok-name.ensures c.in_ok-value.ensures)

pub entries_of-returns-in_err-count : goal.entries_of-returns-in_err-count
entries_of-returns-in_err-count t c =
    let p = err_from_is_err_and c.from_residual.result c.from_residual.ensures.1 in
    rw (p.1, p.2) (fails_also c.in_err-count.field-0.0 (no_count (field_form c.args.limit) c.args.bytes.now) c.in_err-count.ensures)

pub entries_of-returns-in_err-entry : goal.entries_of-returns-in_err-entry
entries_of-returns-in_err-entry t c =
    let p = err_from_is_err_and c.from_residual-in_err-entry.result c.from_residual-in_err-entry.ensures.1 in
    rw (p.1, p.2) (fails_also c.in_err-entry.field-0.0 (no_item (field_form c.args.limit) c.args.bytes.now c.in_ok-count.count c.in_ok-count.start.now c.loop.counter c.loop.entries.items c.loop.rest.now c.in_ok-count.ensures c.loop-test.true c.loop.invariant) c.in_err-entry.ensures)

pub entries_of-returns : goal.entries_of-returns
entries_of-returns t c = list_read (field_form c.args.limit) c.args.bytes.now c.in_ok-count.count c.in_ok-count.start.now c.loop.counter c.loop.entries.items c.loop.rest.now c.in_ok-count.ensures (omega (arith, c.loop-test.false)) c.loop.invariant

pub fields_of-returns-in_err-entries : goal.fields_of-returns-in_err-entries
fields_of-returns-in_err-entries t c =
    let p = err_from_is_err_and c.from_residual.result c.from_residual.ensures.1 in
    rw (p.1, p.2) (fails_also c.in_err-entries.field-0.0 (fields_none c.args.limit c.args.bytes.now) c.in_err-entries.ensures)

pub fields_of-returns-in-Some : goal.fields_of-returns-in-Some
fields_of-returns-in-Some t c = fields_read c.args.limit c.args.bytes.now c.in_ok-entries.entries.items c.in-Some.content c.in_ok-entries.rest.now c.in_ok-entries.ensures c.in-Some.ensures.some.0 c.in-Some.ensures.some.1

pub fields_of-returns-in-None : goal.fields_of-returns-in-None
fields_of-returns-in-None t c = fields_not c.args.limit c.args.bytes.now c.in_ok-entries.entries.items c.in_ok-entries.rest.now c.in_ok-entries.ensures c.in-None.ensures.none
