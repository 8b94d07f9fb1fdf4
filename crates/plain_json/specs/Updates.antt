-- What an update holds: the key of a document, and its fields.
use Rattle.std.specs.Prelude.{◌≤◌}
use Rattle.serde_json.specs.Data.{Data}
use Rattle.document_keys.specs.Names.{Root}
use Rattle.value_model.specs.Data.{entries_depth}
use Rattle.value_model.specs.Storable.{AreStorable, IsStorableKey}
use Rattle.json_model.specs.Faults.{max_nesting}
use Rattle.json_rpc.specs.Grammar.{SpellsDocument}
use Rattle.plain_json.specs.declared.documents.Updated.{Updated}

-- the tree spells it
abbrev pub SpellsUpdated : Root → Data → Updated → Type 0
SpellsUpdated root d updated = SpellsDocument root d updated.key updated.fields

-- the journal can hold it
pub record IsStoredUpdate (updated : Updated) : Type 0 where
  pub names : IsStorableKey updated.key
  pub holds : AreStorable updated.fields
  pub deep : entries_depth updated.fields ≤ max_nesting
