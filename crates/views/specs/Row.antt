-- The documents that a snapshot shows, each with its key.
use Rattle.std.specs.Prelude.{◌≡◌, ◌↔◌, ℕ, List, map as each, Option, Some, None, option_map, refl}
use Rattle.std.specs.Coded.{Coded, code_by, coded×, coded_list, coded_option, coded_ℕ}
use Rattle.std.specs.FinMap as map
use Rattle.std.specs.List.{All, Contains}
use Rattle.value_model.specs.contracts.document.DocState as state
use Rattle.value_model.specs.contracts.timestamp.Timestamp as time
use Rattle.value_model.specs.declared.document.DocState.{DocState}
use Rattle.value_model.specs.declared.timestamp.Timestamp.{Timestamp}
use Rattle.value_model.specs.Codes.{entries_code}
use Rattle.value_model.specs.Data.{Entries}
use Rattle.value_model.specs.Documents.{DocumentMap, Stored}
use Rattle.views.specs.Printed.{printed}

-- a document is stored as its fields
abbrev pub stored_code : Coded Stored
stored_code = code_by (Entries × (Option Timestamp × DocState)) (coded× entries_code (coded× (coded_option time.the_row.coded) state.the_row.coded)) (λ d. (d.fields, (d.update_time, d.state))) (λ p. record { fields = p.0; update_time = p.1.0; state = p.1.1 }) (λ _. refl)

-- a key, and what is printed of its document
pub record Row : Type 0 where
  pub key : List (List ℕ)
  pub document : Stored

-- a row is stored as the pair of its parts
abbrev pub row_code : Coded Row
row_code = code_by (List (List ℕ) × Stored) (coded× (coded_list (coded_list coded_ℕ)) stored_code) (λ r. (r.key, r.document)) (λ p. record { key = p.0; document = p.1 }) (λ _. refl)

abbrev pub row : List (List ℕ) → Stored → Row
row key document = record { key = key; document = document }

-- the keys of rows
abbrev pub keys_of : List Row → List (List (List ℕ))
keys_of rows = each (λ (r : Row). r.key) rows

-- the row has what is printed of its key's document
abbrev pub IsPrinted : DocumentMap → Row → Type 0
IsPrinted documents r = option_map printed (map.get documents r.key) ≡ Some r.document

-- the row is that of the key, and has what is printed of its document
abbrev pub PrintsAt : DocumentMap → List (List ℕ) → Row → Type 0
PrintsAt documents key r = (r.key ≡ key) × IsPrinted documents r

-- The rows are those of the keys, in their order, and each has what is printed of the key's document.
pub record Prints (documents : DocumentMap) (wanted : List (List (List ℕ))) (rows : List Row) : Type 0 where
  pub keys : keys_of rows ≡ wanted
  pub each_printed : All (IsPrinted documents) rows

-- what the rows have of a key: nothing, or this document and no other
abbrev pub HasAtKey : List Row → List (List ℕ) → Option Stored → Type 0
HasAtKey rows key None = (document : Stored) → Contains rows (row key document) → ⊥
HasAtKey rows key (Some found) = (document : Stored) → Contains rows (row key document) ↔ (document ≡ found)
