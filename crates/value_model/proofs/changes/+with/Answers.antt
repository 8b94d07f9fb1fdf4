use Rattle.std.proofs.Common.{◌∙◌, ◌≤◌, [], Some, length, sym, ap, arith}
use Rattle.std.proofs.lemmas.List.{drop_all, drop_more}
use Rattle.std.proofs.lemmas.Result.{IfOk-weaker}
use Rattle.value_model.specs.Changes.{members_in, with_value}
use Rattle.value_model.specs.Data.{map_of}
use Rattle.value_model.specs.Fields.{with_field}
use Rattle.value_model.specs.Paths.{value_in}
use Rattle.value_model.proofs.Changing.{by_members, field_name, put_inner}
use Rattle.value_model.proofs.Parts.{entries_members}
use Rattle.value_model.proofs.Removing.{held_still, same_inner}
use Rattle.value_model.proofs.changes.+with.Goals as goal

pub with_inner-returns-then-from-len-clause-done : goal.with_inner-returns-then-from-len-clause-done
with_inner-returns-then-from-len-clause-done t c =
    let count = c.len.ensures.count in
    let past : length c.args.path.now ≤ c.args.from = let here = c.if-from-len.true in omega arith in
    sym (ap (λ p. with_value c.args.value p c.args.new) (drop_all c.args.from c.args.path.now past))

pub with_inner-returns-then-from-len-clause-same : goal.with_inner-returns-then-from-len-clause-same
with_inner-returns-then-from-len-clause-same t c there =
    let count = c.len.ensures.count in
    let past : length c.args.path.now ≤ c.args.from = let here = c.if-from-len.true in omega arith in
    let here = sym (ap (value_in c.args.value) (drop_all c.args.from c.args.path.now past)) ∙ there in
    cc

pub with_inner-returns-clause-done : goal.with_inner-returns-clause-done
with_inner-returns-clause-done t c =
    let count = c.len.ensures.count in
    let names = drop_more c.args.path.now c.args.from [] (let here = c.if-from-len.false in omega arith) in
    let inner = by_members c.args.value c.in_ok-members.field-0 _ _ _ c.args.new names c.in_ok-members.ensures in
    IfOk-weaker c.map.result _ _ (λ value is. is ∙ c.in_ok-fields.ensures.done ∙ inner) c.map.ensures

pub with_inner-returns-clause-same : goal.with_inner-returns-clause-same
with_inner-returns-clause-same t c =
    let count = c.len.ensures.count in
    let names = drop_more c.args.path.now c.args.from [] (let here = c.if-from-len.false in omega arith) in
    IfOk-weaker c.map.result _ _ (λ value is there. is ∙ held_still c.args.value c.in_ok-members.field-0 c.in_ok-fields.fields _ _ _ c.args.new names c.in_ok-members.ensures c.in_ok-fields.ensures.same there) c.map.ensures

pub with_member-overflow_add-from : goal.with_member-overflow_add-from
with_member-overflow_add-from t c =
    let below = c.requires.inside in
    let count = c.len-names.ensures.count in
    let fits = c.len-names.type_inv in
    omega arith

pub with_member-put-requires : goal.with_member-put-requires
with_member-put-requires t c = field_name c.args.path.now c.args.from c.in_ok-from_str.field-0 c.len-names.ensures.path c.requires.path (sym c.in-Some.ensures ∙ ap Some (sym c.in_ok-from_str.ensures))

pub with_member-returns-clause-done : goal.with_member-returns-clause-done
with_member-returns-clause-done t c =
    let put = c.in_ok-put.ensures.done ∙ ap (λ n. with_field c.replace.new.self n c.in_ok-changed.changed) c.in_ok-from_str.ensures in
    put_inner (map_of c.args.fields) c.or_null-inner.result c.args.fields c.replace.new.self c.put.new.self c.args.path.now c.args.from c.in-Some.name.now c.replace.result c.in_ok-changed.changed c.args.new (sym c.in-Some.ensures) (sym (entries_members c.args.fields)) c.replace.ensures.before c.replace.ensures.there c.replace.ensures.missing c.or_null-inner.ensures c.in_ok-changed.ensures.done put

pub with_member-returns-clause-same : goal.with_member-returns-clause-same
with_member-returns-clause-same t c there =
    let put = c.in_ok-put.ensures.done ∙ ap (λ n. with_field c.replace.new.self n c.in_ok-changed.changed) c.in_ok-from_str.ensures in
    let whole = same_inner (map_of c.args.fields) c.or_null-inner.result c.args.fields c.replace.new.self c.put.new.self c.args.path.now c.args.from c.in-Some.name.now c.replace.result c.in_ok-changed.changed c.args.new (sym c.in-Some.ensures) (sym (entries_members c.args.fields)) c.len-count.ensures.fields c.replace.ensures.before c.replace.ensures.there c.or_null-inner.ensures c.in_ok-changed.ensures.same put there in
    sym (entries_members c.put.new.self) ∙ ap members_in whole ∙ entries_members c.args.fields
