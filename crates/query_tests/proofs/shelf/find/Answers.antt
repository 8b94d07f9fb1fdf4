use Rattle.std.proofs.Common.{◌≡◌, ◌∙◌, true, Some, sym, ap, subst, arith}
use Rattle.std.specs.Cmp.Lexicographic.{slice_cmp}
use Rattle.std.specs.Ordering.{nat_cmp, is_eq}
use Rattle.query_tests.specs.declared.shelf.Held.{Held}
use Rattle.query_tests.proofs.Holding.{found_here, found_none}
use Rattle.query_tests.proofs.shelf.find.Goals as goal

pub returns-then-is_eq : goal.returns-then-is_eq
returns-then-is_eq c =
    let here = sym (c.is_eq.ensures ∙ ap is_eq c.cmp.ensures) ∙ c.if-is_eq.true in
    let there = found_here c.args.documents.now c.args.key.now c.loop-held.held-index c.held-item.result c.loop-held-test.true (λ k below. c.loop-held.invariant k c.held-item.result below)
    (subst (λ (h : Held). is_eq (slice_cmp (slice_cmp nat_cmp) c.args.key.now h.key) ≡ true) c.held-item.is here) in
    ap (λ (h : Held). Some h.fields) c.held-item.is ∙ sym there

pub returns : goal.returns
returns c = sym (found_none c.args.documents.now c.args.key.now c.loop-held.held-index (omega arith) c.loop-held.invariant)
