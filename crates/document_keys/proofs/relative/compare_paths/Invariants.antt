use Rattle.std.proofs.Common.{◌≡◌, drop}
use Rattle.document_keys.proofs.PathTexts.{order_of}
use Rattle.document_keys.proofs.relative.compare_paths.Given as goal

abbrev pub invariant-loop-i : goal.invariant-loop-i
invariant-loop-i l = order_of l.left l.right ≡ order_of (drop l.i l.left) (drop l.i l.right)
