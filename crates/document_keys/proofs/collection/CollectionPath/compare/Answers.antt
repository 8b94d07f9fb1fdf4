use Rattle.std.proofs.Common.{◌∙◌}
use Rattle.std.specs.Cmp.Lexicographic.{slice_cmp}
use Rattle.std.specs.Ordering.{nat_cmp}
use Rattle.document_keys.proofs.Order.{ranks_from}
use Rattle.document_keys.proofs.collection.CollectionPath.compare.Goals as goal

pub returns : goal.returns
returns c = rw (← c.self.view_is, ← c.other.view_is) (ranks_from c.self.inside.segments.items c.other.inside.segments.items _ (c.cmp.ensures ∙ (λ i. slice_cmp (slice_cmp nat_cmp) (c.as_slice.ensures.value i) (c.as_slice-2.ensures.value i))))
