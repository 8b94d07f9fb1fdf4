-- A write whose parts can be stored names no `__name__`, so it can be stored.
use Rattle.std.proofs.Common.{ℕ, List, [], codes, Option, Some, None, IfSome, refl, subst}
use Rattle.std.specs.List.{All}
use Rattle.std.proofs.lemmas.List.Elements.{All-head, All-weaker}
use Rattle.document_keys.specs.Paths.{IsFieldName}
use Rattle.json_model.specs.Storable.{IsStorablePath}
use Rattle.mutations.specs.Effect.{IsOfFields, HasMaskOfFields, IsOfFieldsOnly}
use Rattle.mutations.specs.declared.write.Write.{Write}
use Rattle.mutations.specs.declared.write.Write.TheVariants.{Update, Delete}
use Rattle.json_rpc.specs.Storable.{AreAllStorable, IsStorableTransform, HasStorableParts, IsStorableWrite}

path_of_fields : (path : List (List ℕ)) → IsStorablePath path → IsOfFields path
path_of_fields path stored is = (All-head IsFieldName (codes "__name__") [] (subst (All IsFieldName) is stored.names)).free (codes "name", refl)

mask_of_fields : (mask : Option (List (List (List ℕ)))) → IfSome mask (AreAllStorable IsStorablePath) → HasMaskOfFields mask
mask_of_fields None stored = tt
mask_of_fields (Some mask) stored = All-weaker IsStorablePath IsOfFields path_of_fields mask stored.each

of_fields : (write : Write) → HasStorableParts write → IsOfFieldsOnly write
of_fields (Update key fields mask transforms condition) stored = (mask_of_fields mask stored.masks, All-weaker IsStorableTransform (λ transform. IsOfFields transform.path) (λ transform is. path_of_fields transform.path is.path) transforms stored.changes.each)
of_fields (Delete key condition) stored = tt

pub write_storable : (write : Write) → HasStorableParts write → IsStorableWrite write
write_storable write stored = record { of_fields = of_fields write stored; parts = stored }
