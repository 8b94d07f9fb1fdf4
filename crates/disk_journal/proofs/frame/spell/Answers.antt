use Rattle.std.proofs.Common.{◌≡◌, ℕ, List, [], ◌∷◌, ◌++◌, length, append_assoc, ap, ◌∙◌}
use Rattle.std.specs.Int.{w64, to_be_bytes}
use Rattle.disk_journal.specs.Frame.{framed}
use Rattle.disk_journal.proofs.frame.spell.Goals as goal

-- one part after the other
in_parts : (p a size b c d : List ℕ) → a ≡ [] → size ≡ to_be_bytes w64 (length p) → b ≡ a ++ size → c ≡ b ++ p → d ≡ c ++ 0 ∷ [] → d ≡ framed p
unfolding framed
in_parts p a size b c d none is first second third =
    third ∙ ap (λ (xs : List ℕ). xs ++ 0 ∷ []) (second ∙ ap (λ (xs : List ℕ). xs ++ p) (first ∙ ap (λ (xs : List ℕ). xs ++ size) none ∙ is)) ∙ append_assoc (to_be_bytes w64 (length p)) p (0 ∷ [])

pub returns : goal.returns
returns c = in_parts _ _ _ _ _ _ c.in_ok-bytes.ensures.items c.to_be_bytes.ensures c.in_ok-extend_from_slice.ensures.items c.in_ok-extend_from_slice-2.ensures.items c.in_ok-push.ensures.items
