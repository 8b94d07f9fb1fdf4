-- The words that the program is called with, without its name.
use Rattle.std.specs.Prelude.{◌≡◌, ◌≢◌, ℕ, ◌<◌, List, [], ◌∷◌, length, slice_index, codes}
use Rattle.document_keys.specs.Names.{Root, IsRoot, root_text}

-- a folder: it isn't empty and doesn't begin with `-`
pub record IsFolder (folder : List ℕ) : Type 0 where
  pub some : 0 < length folder
  pub plain : slice_index folder 0 ≢ 45

-- `projects/demo/databases/(default)`
abbrev pub default_root : Root
default_root = record { project = codes "demo"; name = codes "(default)" }

-- the words behind the folder name this database: none the one above, and one the database of that
-- name
abbrev pub NamesRoot : List (List ℕ) → Root → Type 0
NamesRoot [] root = root ≡ default_root
NamesRoot (text ∷ []) root = IsRoot root × (text ≡ root_text root)
NamesRoot (text ∷ (more ∷ rest)) root = ⊥

-- `run DIR` or `run DIR DATABASE`, and the database
pub record AsksRun (words : List (List ℕ)) (root : Root) : Type 0 where
  pub folder : List ℕ
  pub rest : List (List ℕ)
  pub are : words ≡ codes "run" ∷ folder ∷ rest
  pub is_folder : IsFolder folder
  pub names : NamesRoot rest root

-- the words ask for no run
abbrev pub AsksNothing : List (List ℕ) → Type 0
AsksNothing words = (root : Root) → ¬ AsksRun words root

-- the folder: the second word, or nothing where there is none
abbrev pub folder_in : List (List ℕ) → List ℕ
folder_in [] = []
folder_in (command ∷ []) = []
folder_in (command ∷ (folder ∷ rest)) = folder
