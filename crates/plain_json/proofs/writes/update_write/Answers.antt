use Rattle.std.proofs.Common.{ap}
use Rattle.mutations.specs.declared.write.Write.TheVariants.{Update}
use Rattle.plain_json.proofs.Gathered.{write}
use Rattle.plain_json.proofs.writes.update_write.Goals as goal

pub returns : goal.returns
returns c =
    let parts = c.in-Some.parts in
    let updated = c.in-Some-update.field-0 in
    write _ _ parts updated _ (rw c.in-Some.is at c.in_ok-parts.ensures) c.in-Some-update.is (ap (λ transforms. Update updated.key updated.fields parts.mask transforms parts.condition) c.transforms_or_none.ensures)
