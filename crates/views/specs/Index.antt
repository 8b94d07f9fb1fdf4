-- Where rows are found by their keys.
use Rattle.std.specs.Prelude.{◌≡◌, ℕ, List, Some, option_map}
use Rattle.std.specs.Global.{Global}
use Rattle.std.specs.List.{All, Contains}
use Rattle.std.specs.Map.{lookup}
use Rattle.std.specs.declared.rc.Rc.{Rc}
use Rattle.std.specs.Rc.{rc_value}
use Rattle.document_keys.specs.KeySet.{is_key}
use Rattle.value_model.specs.Documents.{Stored}
use Rattle.views.specs.Row.{Row, row}

-- documents by key
abbrev pub Index : Type 0
Index = List (List (List ℕ) × Rc Stored Global)

-- the index finds the row's document by its key
abbrev pub IsFoundIn : Index → Row → Type 0
IsFoundIn index r = option_map rc_value (lookup (is_key r.key) index) ≡ Some r.document

-- the index finds the rows, and nothing else
pub record IsIndexOf (rows : List Row) (index : Index) : Type 0 where
  pub found : (key : List (List ℕ)) (document : Rc Stored Global) → lookup (is_key key) index ≡ Some document → Contains rows (row key document.value)
  pub each : All (IsFoundIn index) rows
