use Rattle.json_rpc.proofs.Stored.{write_storable}
use Rattle.json_rpc.proofs.write.clean_beside.Goals as goal

pub returns-clause-storable : goal.returns-clause-storable
returns-clause-storable c = λ names holds deep. write_storable _ (record {
  names = names;
  holds = holds;
  deep = deep;
  masks = c.in_ok-mask.ensures.storable;
  changes = c.in_ok-transforms.ensures.storable;
  asks = c.clean_condition-condition.ensures.storable;
})
