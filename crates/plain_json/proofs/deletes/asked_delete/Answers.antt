use Rattle.plain_json.proofs.Removed.{asked_for}
use Rattle.plain_json.proofs.deletes.asked_delete.Goals as goal

pub returns : goal.returns
returns c =
    asked_for _ _ _ _ c.in-Some-2.key c.in-Some-plain_condition.condition c.in-Some.ensures c.in-Some-plain_condition.ensures (rw c.in-Some-2.is at c.in_ok-key.ensures.key) (rw c.in-Some-2.is at c.in_ok-key.ensures.storable)
