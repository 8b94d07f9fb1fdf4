-- Batches that wait in a line, as contracts see them.
use Rattle.std.specs.Prelude.{◌≡◌, ℕ, List, [], ◌∷◌, Option, Some, None, refl}
use Rattle.std.specs.Coded.{Coded, code_by, coded×, coded_list, coded_ℕ}
use Rattle.mutations.specs.contracts.batch.Batch as batch
use Rattle.mutations.specs.declared.batch.Batch.{Batch}

-- the batches in their order, and how many more find a place without memory
pub record Waiting : Type 0 where
  pub batches : List Batch
  pub spare : ℕ

-- the line is stored as the pair of its fields
abbrev pub waiting_code : Coded Waiting
waiting_code = code_by (List Batch × ℕ) (coded× (coded_list batch.the_row.coded) coded_ℕ) (λ w. (w.batches, w.spare)) (λ p. record { batches = p.0; spare = p.1 }) (λ _. refl)

-- the first batch was taken out, or there was none
abbrev pub TakesFirst : List Batch → Option Batch → List Batch → Type 0
TakesFirst old None new = (old ≡ []) × (new ≡ [])
TakesFirst old (Some batch) new = old ≡ batch ∷ new
