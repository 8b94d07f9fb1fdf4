use Rattle.std.proofs.Common.{◌∙◌, Some, ap, refl}
use Rattle.value_model.specs.declared.fields.Field.{Field}
use Rattle.value_model.proofs.Places.{put_done, put_kept, got_none}
use Rattle.value_model.proofs.Changing.{taken}
use Rattle.value_model.proofs.fields.Fields.replace.Goals as goal

pub invariant_of-self : goal.invariant_of-self
invariant_of-self c =
    let field : Field = record { name = c.args.name.now; value = c.args.value } in
    put_kept c.as_slice.result.now c.self.inside.entries.items c.args.name.now c.args.name.now c.as_slice.ensures.value refl c.swap_value.new.fields.items c.args.value c.in-Ok.at field (c.swap_value.ensures.after field) c.self.invariant

pub returns-in-Ok-clause-before : goal.returns-in-Ok-clause-before
returns-in-Ok-clause-before c =
    let field : Field = record { name = c.args.name.now; value = c.args.value } in
    rw (← c.self.view_is) (ap Some (c.swap_value.ensures.before field) ∙ taken c.as_slice.result.now c.self.inside.entries.items c.args.name.now c.args.name.now c.as_slice.ensures.value refl c.in-Ok.at field c.in-Ok.ensures.found)

pub returns-in-Ok-clause-there : goal.returns-in-Ok-clause-there
returns-in-Ok-clause-there c =
    let field : Field = record { name = c.args.name.now; value = c.args.value } in
    rw (← c.self.view_is) (put_done c.as_slice.result.now c.self.inside.entries.items c.args.name.now c.args.name.now c.as_slice.ensures.value refl c.swap_value.new.fields.items c.args.value c.in-Ok.at field c.in-Ok.ensures.found (c.swap_value.ensures.after field))

pub returns-in-Ok-clause-fields : goal.returns-in-Ok-clause-fields
returns-in-Ok-clause-fields c =
    let field : Field = record { name = c.args.name.now; value = c.args.value } in
    put_kept c.as_slice.result.now c.self.inside.entries.items c.args.name.now c.args.name.now c.as_slice.ensures.value refl c.swap_value.new.fields.items c.args.value c.in-Ok.at field (c.swap_value.ensures.after field) c.self.invariant

pub returns-in-Err-clause-before : goal.returns-in-Err-clause-before
returns-in-Err-clause-before c = rw (← c.self.view_is) (got_none c.as_slice.result.now c.self.inside.entries.items c.args.name.now c.args.name.now c.as_slice.ensures.value refl c.in-Err.field-0 c.in-Err.ensures.gap)
