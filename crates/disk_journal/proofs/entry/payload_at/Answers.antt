use Rattle.std.proofs.Common.{◌≡◌, ◌≢◌, ℕ, ◌^◌, ◌<◌, List, ◌++◌, length, Option, Some, None}
use Rattle.std.specs.Prelude.{MatchOption}
use Rattle.std.specs.List.{IsSplitAt}
use denote.Bor.{Bor}
use Rattle.disk_journal.specs.Parts.{number}
use Rattle.disk_journal.proofs.Parts.{too_long, too_short, is_payload}
use Rattle.disk_journal.proofs.entry.payload_at.Goals as goal

pub returns-in_err-size : goal.returns-in_err-size
returns-in_err-size c = rw c.from_residual.ensures (λ p rest short e. too_short c.args.bytes.now c.in_err-size.ensures (length p) (p ++ rest) e)

by_cases : (bytes rest : List ℕ) (size : ℕ) → bytes ≡ number size ++ rest → size < 2 ^ 64 → (o : Option (Bor (List ℕ) × Bor (List ℕ))) → MatchOption o (length rest < size) (λ x. IsSplitAt rest size x.0.now x.1.now) → MatchOption o ((p : List ℕ) (behind : List ℕ) → length p < 2 ^ 64 → bytes ≢ number (length p) ++ (p ++ behind)) (λ x. (length x.0.now < 2 ^ 64) × (bytes ≡ number (length x.0.now) ++ (x.0.now ++ x.1.now)))
by_cases bytes rest size is fits None few = too_long bytes rest size is fits few
by_cases bytes rest size is fits (Some x) parts = is_payload bytes rest size x.0.now x.1.now is fits parts.1 parts.2 parts.3

pub returns : goal.returns
returns c = by_cases c.args.bytes.now c.in_ok-size.rest.now c.in_ok-size.size c.in_ok-size.ensures.1 c.in_ok-size.ensures.0 c.split_at_checked.result c.split_at_checked.ensures.cases
