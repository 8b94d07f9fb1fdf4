use Rattle.document_keys.proofs.Order.{paths_compute}
use Rattle.document_keys.proofs.Sets.{ascending-insert, members-insert, members-there, searched_slice}
use Rattle.document_keys.proofs.path_set.PathSet.insert.Goals as goal

pub invariant_of-self-in-Err : goal.invariant_of-self-in-Err
invariant_of-self-in-Err c =
    let found = searched_slice paths_compute c.as_slice.result.now c.self.inside.paths.items c.args.path c.binary_search.result c.as_slice.ensures.value c.self.invariant c.binary_search.ensures.bound c.binary_search.ensures.position in
    let gap = rw c.in-Err.is at found in
    rw c.in_ok-insert-in-Err.ensures.items (ascending-insert paths_compute c.self.inside.paths.items c.in-Err.place c.args.path c.self.invariant gap.0 gap.1 gap.2)

pub returns-in-Ok-clause-done : goal.returns-in-Ok-clause-done
returns-in-Ok-clause-done c =
    let found = searched_slice paths_compute c.as_slice.result.now c.self.inside.paths.items c.args.path c.binary_search.result c.as_slice.ensures.value c.self.invariant c.binary_search.ensures.bound c.binary_search.ensures.position in
    let here = rw c.in-Ok.is at found in
    rw (← c.self.view_is) (λ k. members-there paths_compute c.self.inside.paths.items c.args.path k (c.in-Ok.field-0, here.0, here.1 c.args.path))

pub returns-in_ok-insert-in-Err-clause-done : goal.returns-in_ok-insert-in-Err-clause-done
returns-in_ok-insert-in-Err-clause-done c =
    rw (c.in_ok-insert-in-Err.ensures.items, ← c.self.view_is) (λ k. members-insert paths_compute c.self.inside.paths.items c.in-Err.place c.args.path k)

pub returns-in_ok-insert-in-Err-clause-ascending : goal.returns-in_ok-insert-in-Err-clause-ascending
returns-in_ok-insert-in-Err-clause-ascending c =
    let found = searched_slice paths_compute c.as_slice.result.now c.self.inside.paths.items c.args.path c.binary_search.result c.as_slice.ensures.value c.self.invariant c.binary_search.ensures.bound c.binary_search.ensures.position in
    let gap = rw c.in-Err.is at found in
    rw c.in_ok-insert-in-Err.ensures.items (ascending-insert paths_compute c.self.inside.paths.items c.in-Err.place c.args.path c.self.invariant gap.0 gap.1 gap.2)
