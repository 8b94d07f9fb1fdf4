-- What is printed of a write has no floats.
use Rattle.std.proofs.Common.{◌≡◌, ℕ, List, [], ◌∷◌, false, codes, Option, Some, None, option_map, refl}
use Rattle.document_keys.specs.Names.{Root, name_text}
use Rattle.document_keys.specs.Paths.{printed_path}
use Rattle.serde_json.specs.Data.{Data as Json, string, no_members}
use Rattle.serde_json.specs.Written.{has_float}
use Rattle.value_model.specs.Data.{Data, Entries}
use Rattle.json_model.specs.Forms.{present, unless_empty, printed_each}
use Rattle.json_model.specs.Printed.{printed_value}
use Rattle.json_model.proofs.Digits.{NoFloat, neither, row_digits, rows_digits, each_digits, list_digits, value_digits, printed_fields_digits}
use Rattle.mutations.specs.declared.transform.Change.{Change}
use Rattle.mutations.specs.declared.transform.Change.TheVariants.{Append, RemoveAll}
use Rattle.mutations.specs.declared.transform.Transform.{Transform}
use Rattle.mutations.specs.declared.write.Precondition.{Precondition}
use Rattle.mutations.specs.declared.write.Precondition.TheVariants.{Free, Exists, UpdateTime}
use Rattle.mutations.specs.declared.write.Write.{Write}
use Rattle.mutations.specs.declared.write.Write.TheVariants.{Update, Delete}
use Rattle.json_rpc.proofs.Rows.{rows_of_update, rows_of_delete}
use Rattle.json_rpc.specs.Printed.{printed_condition, printed_elements, printed_change, printed_transform, path_tree, printed_mask, fields_given, printed_update, printed_write}

printed_digits : {X : Type 0} (print : X → Json) → ((x : X) → has_float (print x) ≡ false) → (xs : List X) → NoFloat (unless_empty (printed_each print xs))
printed_digits print none xs = list_digits (printed_each print xs) (each_digits print none xs)

elements_digits : (vs : List Data) → has_float (printed_elements vs) ≡ false
elements_digits vs = row_digits (codes "values") (unless_empty (printed_each printed_value vs)) no_members (printed_digits printed_value value_digits vs) refl

change_digits : (path : List ℕ) (change : Change) → has_float (printed_change path change) ≡ false
change_digits path (Append vs) = neither (has_float (printed_elements vs)) false (elements_digits vs) refl
change_digits path (RemoveAll vs) = neither (has_float (printed_elements vs)) false (elements_digits vs) refl
change_digits path _ = refl

transform_digits : (transform : Transform) → has_float (printed_transform transform) ≡ false
transform_digits transform = change_digits (printed_path transform.path) transform.change

mask_digits : (mask : Option (List (List (List ℕ)))) → NoFloat (option_map printed_mask mask)
mask_digits None = tt
mask_digits (Some mask) = row_digits (codes "fieldPaths") (unless_empty (printed_each path_tree mask)) no_members (printed_digits path_tree (λ path. refl) mask) refl

condition_digits : (condition : Precondition) → NoFloat (printed_condition condition)
condition_digits Free = tt
condition_digits (Exists is) = refl
condition_digits (UpdateTime time) = refl

fields_digits : (fields : Entries) → NoFloat (fields_given fields)
fields_digits [] = tt
fields_digits (field ∷ fields) = printed_fields_digits (field ∷ fields)

update_digits : (root : Root) (key : List (List ℕ)) (fields : Entries) → has_float (printed_update root key fields) ≡ false
update_digits root key fields = row_digits (codes "fields") (fields_given fields) (present ((codes "name", Some (string (name_text root key))) ∷ [])) (fields_digits fields) refl

pub write_digits : (root : Root) (write : Write) → has_float (printed_write root write) ≡ false
write_digits root (Update key fields mask transforms condition) =
    rows_digits (rows_of_update root key fields mask transforms condition)
    (condition_digits condition, (update_digits root key fields, (mask_digits mask, (printed_digits printed_transform transform_digits transforms, tt))))
write_digits root (Delete key condition) = rows_digits (rows_of_delete root key condition) (condition_digits condition, (refl, tt))
