-- a write that has a spelling has no path `__name__`
use Rattle.std.proofs.Common.{ℕ, List, [], codes, Option, Some, None, refl, subst, arith}
use Rattle.std.specs.List.{All}
use Rattle.std.specs.Option.{IfSome}
use Rattle.mutations.specs.declared.batch.Batch.{Batch}
use Rattle.mutations.specs.declared.write.Write.{Write}
use Rattle.mutations.specs.declared.write.Write.TheVariants.{Update, Delete}
use Rattle.mutations.specs.Effect.{HasMaskOfFields, IsOfFields, IsOfFieldsOnly}
use Rattle.record_parts.specs.Spelling.{AreSpelled, IsSpelledPath, IsSpelledWrite, IsNameText}
use Rattle.record_codec.specs.Spelling.{IsSpelledBatch}
use Rattle.overlays.specs.Table.{IsBatchOfFields}

path_of_fields : (path : List (List ℕ)) → IsSpelledPath path → IsOfFields path
path_of_fields path spelled is =
    let name : IsNameText (codes "__name__") = (subst (All IsNameText) is spelled.each) 0 [] (omega arith) in
    name.field.free (codes "name", refl)

mask_of_fields : (mask : Option (List (List (List ℕ)))) → IfSome mask (AreSpelled IsSpelledPath) → HasMaskOfFields mask
mask_of_fields None spelled = tt
mask_of_fields (Some paths) spelled = λ k d below. path_of_fields _ (spelled.each k d below)

write_of_fields : (write : Write) → IsSpelledWrite write → IsOfFieldsOnly write
write_of_fields (Update key fields mask transforms condition) spelled = (mask_of_fields mask spelled.mask, λ k d below. path_of_fields _ (spelled.transforms.each k d below).path)
write_of_fields (Delete key condition) spelled = tt

pub batch_of_fields : (batch : Batch) → IsSpelledBatch batch → IsBatchOfFields batch
batch_of_fields batch spelled = λ k d below. write_of_fields _ (spelled.writes.each k d below)
