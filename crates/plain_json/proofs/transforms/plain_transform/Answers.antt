use Rattle.plain_json.proofs.Transformed.{transform}
use Rattle.plain_json.proofs.transforms.plain_transform.Goals as goal

pub returns : goal.returns
returns c =
    transform _ _ _ _ _ _ c.in-Some.ensures (rw c.in-Some-2.is at c.in_ok-path.ensures.path) (rw c.in-Some-2.is at c.in_ok-path.ensures.storable) (rw (c.in-Some-3.is, c.len-names.ensures.count) at c.in_ok-change.ensures)
