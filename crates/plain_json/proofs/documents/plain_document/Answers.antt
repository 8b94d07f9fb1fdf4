use Rattle.std.proofs.Common.{refl}
use Rattle.plain_json.proofs.Updates.{document}
use Rattle.plain_json.proofs.documents.plain_document.Goals as goal

pub returns : goal.returns
returns c =
    document _ _ _ _ c.in-Some-2.key c.in-Some-3.fields _ c.in-Some.ensures (rw c.in-Some-2.is at c.in_ok-key.ensures.key) (rw c.in-Some-2.is at c.in_ok-key.ensures.storable) (rw c.in-Some-3.is at c.in_ok-fields.ensures) refl c.in_ok-fields-2.ensures
