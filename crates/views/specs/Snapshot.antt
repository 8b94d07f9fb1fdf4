-- A snapshot that is lent, as contracts see it: what was raised, and the documents of the store.
use Rattle.std.specs.Prelude.{◌≡◌, ℕ, Some, refl}
use Rattle.std.specs.Coded.{Coded, code_by, coded×, coded_list, coded_ℕ}
use Rattle.std.specs.FinMap as map
use Rattle.std.specs.List.{slice_get}
use Rattle.value_model.specs.declared.documents.DocRef.{DocRef}
use Rattle.value_model.specs.Documents.{DocumentMap}
use Rattle.views.specs.contracts.raised.Raised as raised
use Rattle.views.specs.declared.raised.Raised.{Raised}
use Rattle.views.specs.Printed.{printed, stored_of}
use Rattle.views.specs.Row.{row, stored_code}

pub record Lent : Type 0 where
  pub raised : Raised
  pub documents : DocumentMap

-- it is stored as the pair of its parts
abbrev pub lent_code : Coded Lent
lent_code = code_by (Raised × DocumentMap) (coded× raised.the_row.coded (map.code (coded_list (coded_list coded_ℕ)) stored_code)) (λ l. (l.raised, l.documents)) (λ p. record { raised = p.0; documents = p.1 }) (λ _. refl)

-- the document is what the store has for its key, and is printed as the row at the index
pub record LendsAt (lent : Lent) (index : ℕ) (document : DocRef) : Type 0 where
  pub stored : map.get lent.documents document.key.now ≡ Some (stored_of document)
  pub shown : slice_get lent.raised.rows index ≡ Some (row document.key.now (printed (stored_of document)))
