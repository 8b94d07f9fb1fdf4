-- The members of printed writes, as rows of which some may be left out.
use Rattle.std.proofs.Common.{ℕ, List, [], ◌∷◌, codes, Option, Some, option_map}
use Rattle.document_keys.specs.Names.{Root, name_text}
use Rattle.serde_json.specs.Data.{Data as Json, string}
use Rattle.value_model.specs.Data.{Entries}
use Rattle.json_model.specs.Forms.{unless_empty, printed_each}
use Rattle.mutations.specs.declared.transform.Transform.{Transform}
use Rattle.mutations.specs.declared.write.Precondition.{Precondition}
use Rattle.json_rpc.specs.Printed.{printed_condition, printed_mask, printed_transform, printed_update}

abbrev pub Rows : Type 0
Rows = List (List ℕ × Option Json)

abbrev pub rows_of_update : Root → List (List ℕ) → Entries → Option (List (List (List ℕ))) → List Transform → Precondition → Rows
rows_of_update root key fields mask transforms condition =
    (codes "currentDocument", printed_condition condition) ∷
    (codes "update", Some (printed_update root key fields)) ∷
    (codes "updateMask", option_map printed_mask mask) ∷
    (codes "updateTransforms", unless_empty (printed_each printed_transform transforms)) ∷
    []

abbrev pub rows_of_delete : Root → List (List ℕ) → Precondition → Rows
rows_of_delete root key condition = (codes "currentDocument", printed_condition condition) ∷ (codes "delete", Some (string (name_text root key))) ∷ []
