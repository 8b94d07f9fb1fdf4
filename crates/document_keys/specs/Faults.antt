-- When a text isn't the name that was to be read, and which fault it then has: no text has two, and none that is a name
-- has one.
use Rattle.std.specs.Prelude.{◌≡◌, ◌≢◌, ℕ, ◌<◌, ◌%◌, List, ◌∷◌, ◌++◌, length}
use Rattle.std.specs.List.{All}
use Rattle.document_keys.specs.declared.faults.NameFault.{NameFault}
use Rattle.document_keys.specs.declared.faults.NameFault.TheVariants.{WrongRoot, BadSegment, OddLength, NoMemory}
use Rattle.document_keys.specs.Names.{IsPart, IsSegment, Root, IsRoot, root_text, documents_text, name_text}

-- Of a database: the text, cut at each `/`, is these four parts.
pub record IsRootOfParts (text : List ℕ) (root : Root) : Type 0 where
  pub project : IsPart root.project
  pub name : IsPart root.name
  pub text_is : text ≡ root_text root

-- the fault of a database's name
abbrev pub HasRootFault : List ℕ → NameFault → Type 0
-- it isn't four parts of which the first is `projects` and the third `databases`
HasRootFault text WrongRoot = (root : Root) → ¬ (IsRootOfParts text root)
-- it is, and the second or the fourth isn't a segment
HasRootFault text BadSegment = (root : Root) × IsRootOfParts text root × ¬ (IsRoot root)
HasRootFault text OddLength = ⊥
HasRootFault text NoMemory = Unit {0}

-- Of a document: the text is the root, `/documents`, and per part `/` and the part, which has no `/`.
pub record IsNameOfParts (root : Root) (text : List ℕ) (parts : List (List ℕ)) : Type 0 where
  pub some : 0 < length parts
  pub cut : All IsPart parts
  pub text_is : text ≡ name_text root parts

-- the fault of a document name
abbrev pub HasKeyFault : Root → List ℕ → NameFault → Type 0
-- it doesn't begin with `{root}/documents/`
HasKeyFault root text WrongRoot = (rest : List ℕ) → text ≢ documents_text root ++ 47 ∷ rest
-- it does, and some part after that isn't a segment
HasKeyFault root text BadSegment = (parts : List (List ℕ)) × IsNameOfParts root text parts × ¬ (All IsSegment parts)
-- all parts are segments, and their number is odd
HasKeyFault root text OddLength = (parts : List (List ℕ)) × IsNameOfParts root text parts × All IsSegment parts × (length parts % 2 ≡ 1)
HasKeyFault root text NoMemory = Unit {0}

-- The parent of a collection is `{root}/documents`, whose path is empty, or a document name.
pub record IsParent (root : Root) (parent : List ℕ) (path : List (List ℕ)) : Type 0 where
  pub even : length path % 2 ≡ 0
  pub segments : All IsSegment path
  pub text_is : parent ≡ name_text root path

-- the fault of a collection's parent and id: one of the parent, which comes first, or else the id isn't a segment
pub data HasCollectionFault (root : Root) (parent id : List ℕ) : NameFault → Type 0 where
  of_parent : {fault : NameFault} → parent ≢ documents_text root → HasKeyFault root parent fault → HasCollectionFault root parent id fault
  of_id : (path : List (List ℕ)) → IsParent root parent path → ¬ (IsSegment id) → HasCollectionFault root parent id BadSegment
  of_memory : HasCollectionFault root parent id NoMemory
