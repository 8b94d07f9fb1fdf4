use Rattle.json_rpc.proofs.Deep.{change_storable}
use Rattle.json_rpc.proofs.Names.{path_clean}
use Rattle.json_rpc.proofs.transform.clean_transform.Goals as goal

pub clean_path-requires : goal.clean_path-requires
clean_path-requires c = path_clean _ _ _ c.in-Some.ensures.clean

pub returns-clause-storable : goal.returns-clause-storable
returns-clause-storable c = record {
  path = c.in_ok-path.ensures.storable;
  change = change_storable _ _ _ _ _ _ _ c.clean_object-members.ensures.clean c.in-Some.ensures.is c.in_ok-path.ensures.path c.clean_choice.ensures.only c.in_ok-change.ensures.change c.in_ok-change.ensures.stored;
}
