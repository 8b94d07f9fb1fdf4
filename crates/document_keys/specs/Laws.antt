-- Laws of names, paths and their order.
use Rattle.std.specs.Prelude.{◌≡◌, ◌≢◌, ◌↔◌, ◌⊎◌, ℕ, ◌<◌, List, length}
use Rattle.std.specs.List.{All, Contains}
use Rattle.document_keys.specs.declared.faults.FieldFault.{FieldFault}
use Rattle.document_keys.specs.declared.faults.FieldFault.TheVariants as field
use Rattle.document_keys.specs.declared.faults.NameFault.{NameFault}
use Rattle.document_keys.specs.declared.faults.NameFault.TheVariants.{NoMemory}
use Rattle.document_keys.specs.Names.{IsKey, IsPart, Root, name_text}
use Rattle.document_keys.specs.Faults.{HasCollectionFault, HasKeyFault, HasRootFault}
use Rattle.document_keys.specs.KeySet.{IsAscending}
use Rattle.document_keys.specs.Order.{PathBefore}
use Rattle.document_keys.specs.Paths.{HasPathFault, SpellsPath, printed_path}

-- paths are in a strict order, in which of two paths one is before the other or they are equal
pub record PathsAreOrdered : Type 0 where
  pub transitive : (p q r : List (List ℕ)) → PathBefore p q → PathBefore q r → PathBefore p r
  pub strict : (p : List (List ℕ)) → ¬ (PathBefore p p)
  pub total : (p q : List (List ℕ)) → PathBefore p q ⊎ ((p ≡ q) ⊎ PathBefore q p)

-- under one root, a text names at most one path
abbrev pub NamesOnePath : Type 0
NamesOnePath = (root : Root) (p q : List (List ℕ)) → All IsPart p → All IsPart q → name_text root p ≡ name_text root q → p ≡ q

-- a text has at most one fault as a document name, and the name of a key has none
pub record KeyFaultsExclude : Type 0 where
  pub one : (root : Root) (text : List ℕ) (e f : NameFault) → e ≢ NoMemory → f ≢ NoMemory → HasKeyFault root text e → HasKeyFault root text f → e ≡ f
  pub none : (root : Root) (key : List (List ℕ)) (e : NameFault) → IsKey key → HasKeyFault root (name_text root key) e → e ≡ NoMemory

-- a text spells at most one field path, and the printed text of a path spells it
pub record PathsReadBack : Type 0 where
  pub one : (text : List ℕ) (p q : List (List ℕ)) → SpellsPath text p → SpellsPath text q → p ≡ q
  pub printed : (path : List (List ℕ)) → 0 < length path → SpellsPath (printed_path path) path

-- a text has at most one fault as the name of a database, a parent and an id at most one as a collection, and a text at most
-- one as a field path
pub record FaultsExclude : Type 0 where
  pub root : (text : List ℕ) (e f : NameFault) → e ≢ NoMemory → f ≢ NoMemory → HasRootFault text e → HasRootFault text f → e ≡ f
  pub collection : (root : Root) (parent id : List ℕ) (e f : NameFault) → e ≢ NoMemory → f ≢ NoMemory → HasCollectionFault root parent id e → HasCollectionFault root parent id f → e ≡ f
  pub path : (text : List ℕ) (e f : FieldFault) → e ≢ field.NoMemory → f ≢ field.NoMemory → HasPathFault text e → HasPathFault text f → e ≡ f

-- ascending lists with the same members are one list
abbrev pub SameMembersAreOneSet : Type 0
SameMembersAreOneSet = (a b : List (List (List ℕ))) → IsAscending a → IsAscending b → ((key : List (List ℕ)) → Contains a key ↔ Contains b key) → a ≡ b
