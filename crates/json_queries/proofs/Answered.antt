-- What is answered of the printed tree of a target.
use Rattle.std.proofs.Common.{◌≡◌, [], codes, sym, subst}
use Rattle.serde_json.specs.Data.{Data as Json}
use Rattle.json_model.specs.declared.place.Place.TheVariants as place
use Rattle.json_model.specs.declared.place.Object.TheVariants as object
use Rattle.json_model.specs.declared.fault.JsonFault.{JsonFault}
use Rattle.json_model.specs.declared.fault.JsonFault.TheVariants as json_fault
use Rattle.json_model.specs.Faults.{IsFault, max_nesting}
use Rattle.json_model.specs.Origin.{Origin}
use Rattle.json_model.proofs.OneLeaf.{no_fault}
use Rattle.json_model.proofs.OneList.{faults_one}
use Rattle.queries.specs.declared.raw.RawQuery.{RawQuery}
use Rattle.queries.specs.declared.target.Target.{Target}
use Rattle.json_queries.specs.Faults.{QueryFaults}
use Rattle.json_queries.specs.Grammar.{SpellsQuery}
use Rattle.json_queries.specs.Laws.{target_read}
use Rattle.json_queries.specs.Printed.{target_tree}
use Rattle.json_queries.specs.Storable.{IsStorableTarget}
use Rattle.json_queries.proofs.Once.{query_once}
use Rattle.json_queries.proofs.ReadBack.{printed_targets_read_back}

pub printed_fault : (o : Origin) (d : Json) (fault : JsonFault) (target : Target) → IsFault (QueryFaults o d) fault → IsStorableTarget target → d ≡ target_tree o.root target → fault ≡ json_fault.NoMemory
printed_fault o d fault target is stored printed =
    no_fault (QueryFaults o d) fault (faults_one o max_nesting (place.Object object.Target) (codes "target") d) (subst (λ e. QueryFaults o e []) (sym printed) (printed_targets_read_back o target stored).0) is

pub printed_spelled : (o : Origin) (d : Json) (found : RawQuery) (target : Target) → SpellsQuery o.root d found → IsStorableTarget target → d ≡ target_tree o.root target → found ≡ target_read target
printed_spelled o d found target spelled stored printed = query_once o.root d found (target_read target) spelled (subst (λ e. SpellsQuery o.root e (target_read target)) (sym printed) (printed_targets_read_back o target stored).1)
