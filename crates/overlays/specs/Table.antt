-- The overlays, as contracts see them: a finite map from keys to optional documents, and beside it the room for more.
use Rattle.std.specs.Prelude.{◌≡◌, ℕ, List, Option, Some, None, option_and_then, unwrap_or, if◌then◌else◌}
use Rattle.std.specs.Coded.{Coded, coded×, coded_list, coded_ℕ}
use Rattle.std.specs.List.{All}
use Rattle.document_keys.specs.KeySet.{is_key}
use Rattle.key_table.specs.Table.{Pairs, value_at}
use Rattle.value_model.specs.declared.document.Document.{Document}
use Rattle.mutations.specs.declared.batch.Batch.{Batch}
use Rattle.mutations.specs.Effect.{IsOfFieldsOnly}
use Rattle.overlays.specs.contracts.slot.Slot as slot
use Rattle.overlays.specs.declared.slot.Slot.{Slot}
use Rattle.overlays.specs.declared.slot.Slot.TheVariants.{Reserved, Laid}

-- the places of the table by key, in an order that is left open: each is made for an overlay, or holds one
abbrev pub Table : Type 0
Table = Pairs Slot

abbrev pub table_code : Coded Table
table_code = coded_list (coded× (coded_list (coded_list coded_ℕ)) slot.the_row.coded)

-- the overlay that a place holds
abbrev pub laid : Slot → Option (Option Document)
laid Reserved = None
laid (Laid document) = Some document

-- the overlay of a key: its document, or that there is none
abbrev pub overlay_of : Table → List (List ℕ) → Option (Option Document)
overlay_of table key = option_and_then laid (value_at table key)

-- the document of a key that has this one without an overlay
abbrev pub shown : Table → List (List ℕ) → Option Document → Option Document
shown table key base = unwrap_or (overlay_of table key) base

-- no path of a batch's writes is `__name__`
abbrev pub IsBatchOfFields : Batch → Type 0
IsBatchOfFields batch = All IsOfFieldsOnly batch.writes

-- no overlay changes
abbrev pub SameOverlays : Table → Table → Type 0
SameOverlays old new = (key : List (List ℕ)) → overlay_of new key ≡ overlay_of old key

-- one key has this overlay, or none, and every other the one that it had
abbrev pub Changes : List (List ℕ) → Option (Option Document) → Table → Table → Type 0
Changes key overlay old new = (q : List (List ℕ)) → overlay_of new q ≡ (if is_key key q then overlay else overlay_of old q)
