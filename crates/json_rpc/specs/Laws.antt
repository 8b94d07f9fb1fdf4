-- Laws of the trees of writes.
use Rattle.std.specs.Prelude.{◌≡◌, []}
use Rattle.serde_json.specs.Data.{Data as Json}
use Rattle.document_keys.specs.Names.{Root}
use Rattle.json_model.specs.Origin.{Origin}
use Rattle.mutations.specs.declared.write.Write.{Write}
use Rattle.json_rpc.specs.Faults.{WriteFaults}
use Rattle.json_rpc.specs.Grammar.{SpellsWrite}
use Rattle.json_rpc.specs.Printed.{printed_write}
use Rattle.json_rpc.specs.Storable.{IsStorableWrite}

-- a tree spells one write at most
abbrev pub ATreeSpellsOneWrite : Type 0
ATreeSpellsOneWrite = (root : Root) (d : Json) (a b : Write) → SpellsWrite root d a → SpellsWrite root d b → a ≡ b

-- the printed tree of a write that can be stored has no fault, whoever wrote it, and spells the write
abbrev pub PrintedWritesReadBack : Type 0
PrintedWritesReadBack = (o : Origin) (write : Write) → IsStorableWrite write → WriteFaults o (printed_write o.root write) [] × SpellsWrite o.root (printed_write o.root write) write
