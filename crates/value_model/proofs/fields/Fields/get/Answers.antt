use Rattle.std.proofs.Common.{refl}
use Rattle.value_model.proofs.Places.{got, got_none}
use Rattle.value_model.proofs.fields.Fields.get.Goals as goal

pub returns-in-Ok : goal.returns-in-Ok
returns-in-Ok c = rw (← c.self.view_is) (got c.as_slice.result.now c.self.inside.entries.items c.args.name.now c.args.name.now c.as_slice.ensures.value refl c.in-Ok.at c.index.result.now c.in-Ok.ensures.found c.index.ensures)

pub returns-in-Err : goal.returns-in-Err
returns-in-Err c = rw (← c.self.view_is) (got_none c.as_slice.result.now c.self.inside.entries.items c.args.name.now c.args.name.now c.as_slice.ensures.value refl c.in-Err.field-0 c.in-Err.ensures.gap)
