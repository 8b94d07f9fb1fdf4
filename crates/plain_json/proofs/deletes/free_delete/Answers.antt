use Rattle.plain_json.proofs.Removed.{free}
use Rattle.plain_json.proofs.deletes.free_delete.Goals as goal

pub returns : goal.returns
returns c = free _ _ _ c.in-Some-2.key c.in-Some.ensures.is (rw c.in-Some-2.is at c.in_ok-key.ensures.key) (rw c.in-Some-2.is at c.in_ok-key.ensures.storable)
