-- names of one database go by their keys
use Rattle.std.proofs.Common.{◌≡◌, ◌∙◌, ℕ, Ordering, Less, Equal, Greater, List, refl, sym, ap}
use Rattle.std.specs.Cmp.{tied_itself}
use Rattle.std.specs.Cmp.Lexicographic.{slice_cmp}
use Rattle.std.specs.Ordering.{ordering_then, ordering_reverse, nat_cmp}
use Rattle.document_keys.specs.Order.{Ranks}
use Rattle.document_keys.proofs.Order.{texts_compute, paths_compute}
use Rattle.value_model.specs.Data.{reference}
use Rattle.value_model.specs.Order.{RanksValues}
use Rattle.value_model.proofs.Exact.{ranks_values}

ranked_keys : (order : Ordering) (k l : List (List ℕ)) → Ranks order k l → order ≡ slice_cmp (slice_cmp nat_cmp) k l
ranked_keys Less k l ranks = sym (paths_compute.less k l (ranks.less.0 refl))
ranked_keys Equal k l ranks = sym (ap (λ p. slice_cmp (slice_cmp nat_cmp) k p) (sym (ranks.equal.0 refl)) ∙ tied_itself paths_compute.total k)
ranked_keys Greater k l ranks = sym (paths_compute.total.antisymm k l ∙ ap ordering_reverse (paths_compute.less l k (ranks.greater.0 refl)))

pub under_root : (project database : List ℕ) (k l : List (List ℕ)) (order : Ordering) → Ranks order k l → RanksValues order (reference (record { project = project; database = database; key = k })) (reference (record { project = project; database = database; key = l }))
under_root project database k l order ranks =
    let keys = slice_cmp (slice_cmp nat_cmp) k l in
    ranks_values order (reference (record { project = project; database = database; key = k })) (reference (record { project = project; database = database; key = l }))
    (ranked_keys order k l ranks ∙ sym (ap (λ o. ordering_then o (ordering_then (slice_cmp nat_cmp database database) keys)) (tied_itself texts_compute.total project) ∙ ap (λ o. ordering_then o keys) (tied_itself texts_compute.total database)))
