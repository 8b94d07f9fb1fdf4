-- References: names of documents of any database, `projects/{p}/databases/{d}/documents/{path}`.
use Rattle.std.specs.Prelude.{◌≡◌, ℕ, List, ◌∷◌, ◌++◌}
use Rattle.document_keys.specs.Names.{Root, IsRoot, IsKey, name_text, documents_text}
use Rattle.document_keys.specs.Faults.{HasKeyFault}
use Rattle.document_keys.specs.Paths.{HasNameFault}
use Rattle.document_keys.specs.declared.faults.NameFault.TheVariants as name
use Rattle.document_keys.specs.declared.faults.FieldFault.TheVariants as field
use Rattle.value_model.specs.declared.reference.RefName.{RefName}
use Rattle.json_model.specs.declared.fault.NamingFault.{NamingFault}
use Rattle.json_model.specs.declared.fault.NamingFault.TheVariants.{WrongRoot, BadSegment, OddLength, BadPath, ReservedField}

-- the database of a reference
abbrev pub root_of : RefName → Root
root_of name = record { project = name.project; name = name.database }

-- the text is the name of the document
pub record SpellsReference (text : List ℕ) (name : RefName) : Type 0 where
  pub database : IsRoot (root_of name)
  pub names : IsKey name.key
  pub is : text ≡ name_text (root_of name) name.key

-- the text begins as the name of a document of that database does
abbrev pub IsUnder : Root → List ℕ → Type 0
IsUnder root text = (rest : List ℕ) × (text ≡ documents_text root ++ 47 ∷ rest)

-- why a text isn't the name of a document of the database
abbrev pub HasDocumentFault : Root → List ℕ → NamingFault → Type 0
HasDocumentFault root text WrongRoot = HasKeyFault root text name.WrongRoot
HasDocumentFault root text BadSegment = HasKeyFault root text name.BadSegment
HasDocumentFault root text OddLength = HasKeyFault root text name.OddLength
HasDocumentFault root text BadPath = ⊥
HasDocumentFault root text ReservedField = ⊥

-- why a text isn't the name of a document of any database
abbrev pub HasReferenceFault : List ℕ → NamingFault → Type 0
-- it doesn't begin with `projects/{p}/databases/{d}/documents/`, for segments p and d
HasReferenceFault text WrongRoot = (root : Root) → IsRoot root → ¬ (IsUnder root text)
-- it does, and has this fault under that database
HasReferenceFault text BadSegment = (root : Root) × IsRoot root × HasKeyFault root text name.BadSegment
HasReferenceFault text OddLength = (root : Root) × IsRoot root × HasKeyFault root text name.OddLength
HasReferenceFault text BadPath = ⊥
HasReferenceFault text ReservedField = ⊥

-- why a text isn't the name of a field
abbrev pub HasFieldFault : List ℕ → NamingFault → Type 0
HasFieldFault text WrongRoot = ⊥
HasFieldFault text BadSegment = ⊥
HasFieldFault text OddLength = ⊥
HasFieldFault text BadPath = HasNameFault text field.BadPath
HasFieldFault text ReservedField = HasNameFault text field.ReservedField
