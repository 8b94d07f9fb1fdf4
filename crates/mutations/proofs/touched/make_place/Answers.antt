use Rattle.std.proofs.Common.{refl, ap}
use Rattle.value_model.specs.Data.{null}
use Rattle.value_model.specs.Fields.{field}
use Rattle.mutations.proofs.Touching.{put_has, put_but, put_keeps, grown_more, none_told}
use Rattle.mutations.proofs.touched.make_place.Goals as goal

pub returns-in_err-copy-2-clause-grown : goal.returns-in_err-copy-2-clause-grown
returns-in_err-copy-2-clause-grown c old so =
    let none = none_told c.is_some.result c.get.result (λ value. value.now) _ c.is_some.ensures c.if-is_some.false (rw c.as_str.ensures at c.get.ensures) in
    grown_more c.args.made.now c.put.new.self old c.args.fields.now c.args.fields.now c.args.name.now none (put_has c.args.made.now c.put.new.self c.in_ok-copy.field-0 c.args.name.now null c.in_ok-copy.ensures c.in_ok-put.ensures.done) (put_but c.args.made.now c.put.new.self c.in_ok-copy.field-0 c.args.name.now null c.in_ok-copy.ensures c.in_ok-put.ensures.done) (λ other apart. refl) so

pub returns-in_err-copy-2-clause-within : goal.returns-in_err-copy-2-clause-within
returns-in_err-copy-2-clause-within c = put_but c.args.made.now c.put.new.self c.in_ok-copy.field-0 c.args.name.now null c.in_ok-copy.ensures c.in_ok-put.ensures.done

pub returns-in_err-put-2-clause-grown : goal.returns-in_err-put-2-clause-grown
returns-in_err-put-2-clause-grown c old so =
    let none = none_told c.is_some.result c.get.result (λ value. value.now) _ c.is_some.ensures c.if-is_some.false (rw c.as_str.ensures at c.get.ensures) in
    grown_more c.args.made.now c.put.new.self old c.args.fields.now c.put-2.new.self c.args.name.now none (put_has c.args.made.now c.put.new.self c.in_ok-copy.field-0 c.args.name.now null c.in_ok-copy.ensures c.in_ok-put.ensures.done) (put_but c.args.made.now c.put.new.self c.in_ok-copy.field-0 c.args.name.now null c.in_ok-copy.ensures c.in_ok-put.ensures.done) (λ other apart. ap (λ f. field f other) c.in_err-put-2.ensures.undone) so

pub returns-in_err-put-2-clause-within : goal.returns-in_err-put-2-clause-within
returns-in_err-put-2-clause-within c = put_but c.args.made.now c.put.new.self c.in_ok-copy.field-0 c.args.name.now null c.in_ok-copy.ensures c.in_ok-put.ensures.done

pub returns-clause-there : goal.returns-clause-there
returns-clause-there c = put_has c.args.fields.now c.put-2.new.self c.in_ok-copy-2.field-0 c.args.name.now null c.in_ok-copy-2.ensures c.in_ok-put-2.ensures.done

pub returns-clause-kept : goal.returns-clause-kept
returns-clause-kept c = put_keeps c.args.fields.now c.put-2.new.self c.in_ok-copy-2.field-0 c.args.name.now null c.in_ok-copy-2.ensures c.in_ok-put-2.ensures.done

pub returns-clause-grown : goal.returns-clause-grown
returns-clause-grown c old so =
    let none = none_told c.is_some.result c.get.result (λ value. value.now) _ c.is_some.ensures c.if-is_some.false (rw c.as_str.ensures at c.get.ensures) in
    grown_more c.args.made.now c.put.new.self old c.args.fields.now c.put-2.new.self c.args.name.now none (put_has c.args.made.now c.put.new.self c.in_ok-copy.field-0 c.args.name.now null c.in_ok-copy.ensures c.in_ok-put.ensures.done) (put_but c.args.made.now c.put.new.self c.in_ok-copy.field-0 c.args.name.now null c.in_ok-copy.ensures c.in_ok-put.ensures.done) (put_but c.args.fields.now c.put-2.new.self c.in_ok-copy-2.field-0 c.args.name.now null c.in_ok-copy-2.ensures c.in_ok-put-2.ensures.done) so

pub returns-clause-within : goal.returns-clause-within
returns-clause-within c = put_but c.args.made.now c.put.new.self c.in_ok-copy.field-0 c.args.name.now null c.in_ok-copy.ensures c.in_ok-put.ensures.done
