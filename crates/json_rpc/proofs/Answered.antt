-- What is answered of the printed tree of a write.
use Rattle.std.proofs.Common.{◌≡◌, [], codes, sym, subst}
use Rattle.serde_json.specs.Data.{Data as Json}
use Rattle.json_model.specs.declared.place.Place.TheVariants as place
use Rattle.json_model.specs.declared.place.Object.TheVariants as object
use Rattle.json_model.specs.declared.fault.JsonFault.{JsonFault}
use Rattle.json_model.specs.declared.fault.JsonFault.TheVariants as json_fault
use Rattle.json_model.specs.Faults.{IsFault, max_nesting}
use Rattle.json_model.specs.Origin.{Origin}
use Rattle.json_model.proofs.OneLeaf.{no_fault}
use Rattle.json_model.proofs.OneList.{faults_one}
use Rattle.mutations.specs.declared.write.Write.{Write}
use Rattle.json_rpc.specs.Faults.{WriteFaults}
use Rattle.json_rpc.specs.Grammar.{SpellsWrite}
use Rattle.json_rpc.specs.Printed.{printed_write}
use Rattle.json_rpc.specs.Storable.{IsStorableWrite}
use Rattle.json_rpc.proofs.Once.{write_once}
use Rattle.json_rpc.proofs.ReadBack.{printed_writes_read_back}

pub printed_fault : (o : Origin) (d : Json) (fault : JsonFault) (write : Write) → IsFault (WriteFaults o d) fault → IsStorableWrite write → d ≡ printed_write o.root write → fault ≡ json_fault.NoMemory
printed_fault o d fault write is stored printed =
    no_fault (WriteFaults o d) fault (faults_one o max_nesting (place.Object object.Write) (codes "writes") d) (subst (λ e. WriteFaults o e []) (sym printed) (printed_writes_read_back o write stored).0) is

pub printed_spelled : (o : Origin) (d : Json) (found write : Write) → SpellsWrite o.root d found → IsStorableWrite write → d ≡ printed_write o.root write → found ≡ write
printed_spelled o d found write spelled stored printed = write_once o.root d found write spelled (subst (λ e. SpellsWrite o.root e write) (sym printed) (printed_writes_read_back o write stored).1)
