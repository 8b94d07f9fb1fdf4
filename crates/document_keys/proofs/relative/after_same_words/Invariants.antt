use Rattle.std.proofs.Common.{◌≡◌, ◌++◌, List, ℕ, length}
use Rattle.document_keys.proofs.relative.after_same_words.Given as goal

abbrev pub invariant-loop-word_of_one : goal.invariant-loop-word_of_one
invariant-loop-word_of_one l = (same : List ℕ) × (l.left ≡ same ++ l.one) × (l.right ≡ same ++ l.other)

abbrev pub decreases-loop-word_of_one : goal.decreases-loop-word_of_one
decreases-loop-word_of_one l = length l.one
