use Rattle.std.proofs.lemmas.Result.{err_from_is_err_and}
use Rattle.document_keys.specs.Faults.{of_parent, of_memory}
use Rattle.document_keys.proofs.Collections.{fault_of_id, is_collection-from}
use Rattle.document_keys.proofs.collection.CollectionPath.read.Goals as goal

pub returns-in_err-segments-clause-fault : goal.returns-in_err-segments-clause-fault
returns-in_err-segments-clause-fault c =
    let p = err_from_is_err_and c.from_residual.result c.from_residual.ensures.1 in
    let of = c.in_err-segments.ensures.fault in
    rw (p.1, p.2) (of_parent of.0 of.1)

pub returns-in_err-id-clause-fault : goal.returns-in_err-id-clause-fault
returns-in_err-id-clause-fault c =
    let p = err_from_is_err_and c.from_residual-in_err-id.result c.from_residual-in_err-id.ensures.1 in
    rw (p.1, p.2) (fault_of_id _ _ _ _ _ c.in_ok-segments.ensures.parent c.in_err-id.ensures.fault)

pub returns-in_err-push-clause-fault : goal.returns-in_err-push-clause-fault
returns-in_err-push-clause-fault c =
    let p = err_from_is_err_and c.from_residual-in_err-push.result c.from_residual-in_err-push.ensures.1 in
    rw (p.1, p.2) of_memory

pub invariant_of-result : goal.invariant_of-result
invariant_of-result c = is_collection-from _ _ _ _ _ _ c.in_ok-segments.ensures.parent c.in_ok-push.ensures.items c.in_ok-id.ensures.segment.0 c.in_ok-id.ensures.segment.1

pub returns-clause-collection : goal.returns-clause-collection
returns-clause-collection c = is_collection-from _ _ _ _ _ _ c.in_ok-segments.ensures.parent c.in_ok-push.ensures.items c.in_ok-id.ensures.segment.0 c.in_ok-id.ensures.segment.1
