use Rattle.document_keys.proofs.Order.{paths_compute}
use Rattle.document_keys.proofs.Sets.{decides, searched_slice}
use Rattle.document_keys.proofs.key_set.KeySet.has.Goals as goal

pub returns : goal.returns
returns c =
    let found = searched_slice paths_compute c.as_slice.result.now c.self.inside.keys.items c.args.key.now c.binary_search.result c.as_slice.ensures.value c.self.invariant c.binary_search.ensures.bound c.binary_search.ensures.position in
    rw (← c.self.view_is) (decides paths_compute c.self.inside.keys.items c.args.key.now c.binary_search.result found c.is_ok.result c.is_ok.ensures.value)
