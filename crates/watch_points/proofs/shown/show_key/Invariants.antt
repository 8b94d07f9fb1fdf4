use Rattle.std.proofs.Common.{ℕ, List, ◌<◌, get_or}
use Rattle.std.specs.Str.{IsUtf8}
use Rattle.watch_points.proofs.shown.show_key.Given as goal

abbrev pub invariant-loop-i : goal.invariant-loop-i
invariant-loop-i l = (k : ℕ) → k < l.i → (d : List ℕ) → IsUtf8 (get_or l.key k d)
