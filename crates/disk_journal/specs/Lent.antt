-- Payloads as spans of one buffer.
use Rattle.std.specs.Prelude.{ℕ, ◌-◌, ◌+◌, ◌≤◌, List, [], ◌∷◌, ⊤, length, slice_range, All}
use Rattle.disk_journal.specs.declared.payloads.Span.{Span}

-- the bytes of the span, which is told from the end of the file
abbrev pub lent : List ℕ → Span → List ℕ
lent file span = slice_range file (length file - span.left) (length file - span.left + span.len)

-- The span stands within the file.
abbrev pub IsInside : List ℕ → Span → Type 0
IsInside file span = (span.len ≤ span.left) × (span.left ≤ length file)

-- Each span begins no earlier than those before it.
unfoldable pub Follow : List Span → Type 0
Follow [] = ⊤
Follow (span ∷ spans) = All (λ later. later.left ≤ span.left) spans × Follow spans
