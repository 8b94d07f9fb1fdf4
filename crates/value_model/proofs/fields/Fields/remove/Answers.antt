use Rattle.std.proofs.Common.{refl}
use Rattle.value_model.proofs.Places.{remove_done, remove_kept, remove_missed}
use Rattle.value_model.proofs.fields.Fields.remove.Goals as goal

pub invariant_of-self : goal.invariant_of-self
invariant_of-self c =
    remove_kept c.as_slice.result.now c.self.inside.entries.items c.args.name.now c.args.name.now c.as_slice.ensures.value refl c.take_out.new.fields.items c.in-Ok.at c.in-Ok.ensures.found c.take_out.ensures c.self.invariant

pub returns-in-Ok-clause-done : goal.returns-in-Ok-clause-done
returns-in-Ok-clause-done c =
    rw (← c.self.view_is) (remove_done c.as_slice.result.now c.self.inside.entries.items c.args.name.now c.args.name.now c.as_slice.ensures.value refl c.take_out.new.fields.items c.in-Ok.at c.in-Ok.ensures.found c.take_out.ensures)

pub returns-in-Ok-clause-fields : goal.returns-in-Ok-clause-fields
returns-in-Ok-clause-fields c =
    remove_kept c.as_slice.result.now c.self.inside.entries.items c.args.name.now c.args.name.now c.as_slice.ensures.value refl c.take_out.new.fields.items c.in-Ok.at c.in-Ok.ensures.found c.take_out.ensures c.self.invariant

pub returns-in_default-clause-done : goal.returns-in_default-clause-done
returns-in_default-clause-done c =
    rw (← c.self.view_is) (remove_missed c.as_slice.result.now c.self.inside.entries.items c.args.name.now c.args.name.now c.as_slice.ensures.value refl c.in_default.field-0 c.in_default.ensures.gap)
