-- The printed form of writes: one tree for each. Lists that are empty are left out, and so are fields where there are none.
use Rattle.std.specs.Prelude.{ℕ, List, [], ◌∷◌, Option, Some, None, option_map, codes}
use Rattle.serde_json.specs.Data.{Data as Json, boolean, string, object}
use Rattle.document_keys.specs.Names.{Root, name_text}
use Rattle.document_keys.specs.Paths.{printed_path}
use Rattle.value_model.specs.Data.{Data, integer, Entries}
use Rattle.value_model.specs.Time.{time_text}
use Rattle.json_model.specs.Forms.{present, unless_empty, printed_each}
use Rattle.json_model.specs.Printed.{printed_value, printed_fields}
use Rattle.json_model.specs.Trees.{one, two}
use Rattle.mutations.specs.declared.transform.Change.{Change}
use Rattle.mutations.specs.declared.transform.Change.TheVariants.{ServerTime, Increment, Maximum, Minimum, Append, RemoveAll}
use Rattle.mutations.specs.declared.transform.Transform.{Transform}
use Rattle.mutations.specs.declared.write.Precondition.{Precondition}
use Rattle.mutations.specs.declared.write.Precondition.TheVariants.{Free, Exists, UpdateTime}
use Rattle.mutations.specs.declared.write.Write.{Write}
use Rattle.mutations.specs.declared.write.Write.TheVariants.{Update, Delete}

-- what `currentDocument` holds; it is left out where nothing is asked
abbrev pub printed_condition : Precondition → Option Json
printed_condition Free = None
printed_condition (Exists is) = Some (one (codes "exists") (boolean is))
printed_condition (UpdateTime time) = Some (one (codes "updateTime") (string (time_text time)))

-- the elements of a transform of an array
abbrev pub printed_elements : List Data → Json
printed_elements values = object (present ((codes "values", unless_empty (printed_each printed_value values)) ∷ []))

-- a transform at the path of this text
abbrev pub printed_change : List ℕ → Change → Json
printed_change path ServerTime = two (codes "fieldPath") (string path) (codes "setToServerValue") (string (codes "REQUEST_TIME"))
printed_change path (Increment by) = two (codes "fieldPath") (string path) (codes "increment") (printed_value (integer by))
printed_change path (Maximum other) = two (codes "fieldPath") (string path) (codes "maximum") (printed_value (integer other))
printed_change path (Minimum other) = two (codes "fieldPath") (string path) (codes "minimum") (printed_value (integer other))
printed_change path (Append values) = two (codes "appendMissingElements") (printed_elements values) (codes "fieldPath") (string path)
printed_change path (RemoveAll values) = two (codes "fieldPath") (string path) (codes "removeAllFromArray") (printed_elements values)

abbrev pub printed_transform : Transform → Json
printed_transform transform = printed_change (printed_path transform.path) transform.change

-- the path of a field
abbrev pub path_tree : List (List ℕ) → Json
path_tree path = string (printed_path path)

-- what `updateMask` holds
abbrev pub printed_mask : List (List (List ℕ)) → Json
printed_mask paths = object (present ((codes "fieldPaths", unless_empty (printed_each path_tree paths)) ∷ []))

-- fields, unless there are none
abbrev pub fields_given : Entries → Option Json
fields_given [] = None
fields_given (field ∷ fields) = Some (printed_fields (field ∷ fields))

-- what `update` holds
abbrev pub printed_update : Root → List (List ℕ) → Entries → Json
printed_update root key fields = object (present ((codes "fields", fields_given fields) ∷ (codes "name", Some (string (name_text root key))) ∷ []))

-- a write, with the names of documents under the root
abbrev pub printed_write : Root → Write → Json
printed_write root (Update key fields mask transforms condition) =
    object (present (
    (codes "currentDocument", printed_condition condition) ∷
    (codes "update", Some (printed_update root key fields)) ∷
    (codes "updateMask", option_map printed_mask mask) ∷
    (codes "updateTransforms", unless_empty (printed_each printed_transform transforms)) ∷
    []))
printed_write root (Delete key condition) =
    object (present (
    (codes "currentDocument", printed_condition condition) ∷
    (codes "delete", Some (string (name_text root key))) ∷
    []))
