use Rattle.std.proofs.Common.{◌≡◌, ℕ, ◌<◌, false, get_or}
use Rattle.std.specs.Cmp.Lexicographic.{slice_cmp}
use Rattle.std.specs.Ordering.{nat_cmp, is_eq}
use Rattle.query_tests.specs.declared.shelf.Held.{Held}
use Rattle.query_tests.proofs.shelf.find.Given as goal

-- no document so far has the key
abbrev pub invariant-loop-held : goal.invariant-loop-held
invariant-loop-held l = (k : ℕ) (d : Held) → k < l.held-index → is_eq (slice_cmp (slice_cmp nat_cmp) l.key (get_or l.documents k d).key) ≡ false
