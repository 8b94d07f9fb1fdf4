use Rattle.value_model.specs.declared.fields.Field.{Field}
use Rattle.value_model.proofs.Places.{put_done, put_kept, insert_done, insert_kept}
use Rattle.value_model.proofs.fields.Fields.put.Goals as goal

pub invariant_of-self : goal.invariant_of-self
invariant_of-self c =
    let field : Field = record { name = c.args.name; value = c.args.value } in
    put_kept c.as_slice.result.now c.self.inside.entries.items c.as_str.result.now c.args.name c.as_slice.ensures.value c.as_str.ensures c.set_value.new.fields.items c.args.value c.in-Ok.at field (c.set_value.ensures field) c.self.invariant

pub invariant_of-self-in-Err : goal.invariant_of-self-in-Err
invariant_of-self-in-Err c =
    let field : Field = record { name = c.args.name; value = c.args.value } in
    insert_kept c.as_slice.result.now c.self.inside.entries.items c.as_str.result.now c.args.name c.as_slice.ensures.value c.as_str.ensures c.insert.new.self.items c.args.value c.in-Err.at field c.in-Err.ensures.gap c.in_ok-insert-in-Err.ensures.items c.requires c.self.invariant

pub returns-in-Ok-clause-done : goal.returns-in-Ok-clause-done
returns-in-Ok-clause-done c =
    let field : Field = record { name = c.args.name; value = c.args.value } in
    rw (← c.self.view_is) (put_done c.as_slice.result.now c.self.inside.entries.items c.as_str.result.now c.args.name c.as_slice.ensures.value c.as_str.ensures c.set_value.new.fields.items c.args.value c.in-Ok.at field c.in-Ok.ensures.found (c.set_value.ensures field))

pub returns-in-Ok-clause-fields : goal.returns-in-Ok-clause-fields
returns-in-Ok-clause-fields c =
    let field : Field = record { name = c.args.name; value = c.args.value } in
    put_kept c.as_slice.result.now c.self.inside.entries.items c.as_str.result.now c.args.name c.as_slice.ensures.value c.as_str.ensures c.set_value.new.fields.items c.args.value c.in-Ok.at field (c.set_value.ensures field) c.self.invariant

pub returns-in_ok-insert-in-Err-clause-done : goal.returns-in_ok-insert-in-Err-clause-done
returns-in_ok-insert-in-Err-clause-done c =
    let field : Field = record { name = c.args.name; value = c.args.value } in
    rw (← c.self.view_is) (insert_done c.as_slice.result.now c.self.inside.entries.items c.as_str.result.now c.args.name c.as_slice.ensures.value c.as_str.ensures c.insert.new.self.items c.args.value c.in-Err.at field c.in-Err.ensures.gap c.in_ok-insert-in-Err.ensures.items)

pub returns-in_ok-insert-in-Err-clause-fields : goal.returns-in_ok-insert-in-Err-clause-fields
returns-in_ok-insert-in-Err-clause-fields c =
    let field : Field = record { name = c.args.name; value = c.args.value } in
    insert_kept c.as_slice.result.now c.self.inside.entries.items c.as_str.result.now c.args.name c.as_slice.ensures.value c.as_str.ensures c.insert.new.self.items c.args.value c.in-Err.at field c.in-Err.ensures.gap c.in_ok-insert-in-Err.ensures.items c.requires c.self.invariant
