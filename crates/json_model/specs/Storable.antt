-- What the journal can hold of paths.
use Rattle.std.specs.Prelude.{ℕ, ◌<◌, ◌≤◌, List, length, IsUtf8}
use Rattle.std.specs.List.{All}
use Rattle.document_keys.specs.Paths.{IsFieldName, IsFieldPath}
use Rattle.json_model.specs.Leaves.{max_names}

-- the path of a field in a write: 1 to 21 names of fields, in UTF-8
pub record IsStorablePath (path : List (List ℕ)) : Type 0 where
  pub some : 0 < length path
  pub few : length path ≤ max_names
  pub names : All IsFieldName path
  pub utf8 : All IsUtf8 path

-- the path of a field in a query: 1 to 21 names of fields, or `__name__` by itself, in UTF-8
pub record IsStorableQueryPath (path : List (List ℕ)) : Type 0 where
  pub few : length path ≤ max_names
  pub names : IsFieldPath path
  pub utf8 : All IsUtf8 path
