use Rattle.std.proofs.Common.{◌∙◌, sym, arith}
use Rattle.std.specs.Cmp.Lexicographic.{slice_cmp}
use Rattle.std.specs.Ordering.{nat_cmp}
use Rattle.document_keys.specs.Names.{parts_of}
use Rattle.document_keys.proofs.PathTexts.{order_at, order_behind, order_end}
use Rattle.document_keys.proofs.relative.compare_paths.Goals as goal

pub returns-then-left-i : goal.returns-then-left-i
returns-then-left-i c =
    let left = c.after_same_words.result.0.now in
    let right = c.after_same_words.result.1.now in
    c.compare_bytes.ensures ∙ sym (order_at left right c.loop-i.i (omega arith) (omega arith) c.if-left-i.true) ∙ sym c.loop-i.invariant ∙ order_behind left right c.after_same_words.ensures
    ∙ (λ i. slice_cmp (slice_cmp nat_cmp) (parts_of (c.as_bytes.ensures.value i)) (parts_of (c.as_bytes-2.ensures.value i)))

pub returns : goal.returns
returns c =
    let left = c.after_same_words.result.0.now in
    let right = c.after_same_words.result.1.now in
    sym (order_end left right c.loop-i.i c.cmp.result c.cmp.ensures (omega arith)) ∙ sym c.loop-i.invariant ∙ order_behind left right c.after_same_words.ensures
    ∙ (λ i. slice_cmp (slice_cmp nat_cmp) (parts_of (c.as_bytes.ensures.value i)) (parts_of (c.as_bytes-2.ensures.value i)))
