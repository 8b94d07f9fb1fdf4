-- a pipeline stands for some steps
use Rattle.std.proofs.Common.{◌≡◌, ℕ, suc, zero, Bool, true, false, List, [], ◌∷◌, refl, unwrap_or, arith}
use Rattle.write_pipeline.specs.Order.{Steps, is_ready, kept, latest_token, opened, outstanding, sent, shaken}
use Rattle.write_pipeline.specs.Standing.{StandsFor}
use Rattle.write_pipeline.specs.declared.pipeline.WritePipeline.{WritePipeline}

-- the stream was opened, and perhaps its handshake was done; this token came, and so many batches were sent
abbrev begun : Bool → Steps
begun true = shaken ∷ opened ∷ []
begun false = opened ∷ []

abbrev some_steps : Bool → List ℕ → ℕ → Steps
some_steps ready token zero = kept token ∷ begun ready
some_steps ready token (suc n) = sent ∷ some_steps ready token n

some_ready : (ready : Bool) (token : List ℕ) (n : ℕ) → ready ≡ is_ready (some_steps ready token n)
some_ready true token zero = refl
some_ready false token zero = refl
some_ready ready token (suc n) = some_ready ready token n

some_outstanding : (ready : Bool) (token : List ℕ) (n : ℕ) → n ≡ outstanding (some_steps ready token n)
some_outstanding true token zero = refl
some_outstanding false token zero = refl
some_outstanding ready token (suc n) = let less = some_outstanding ready token n in omega (arith, less)

some_token : (ready : Bool) (token : List ℕ) (n : ℕ) → token ≡ latest_token (some_steps ready token n)
some_token true [] zero = refl
some_token false [] zero = refl
some_token ready (byte ∷ token) zero = refl
some_token ready token (suc n) = some_token ready token n

pub stands_for_some : (p : WritePipeline) → (h : Steps) × StandsFor p h
stands_for_some p = (
  some_steps p.shaken (unwrap_or p.token []) p.outstanding,
  record {
    ready = some_ready p.shaken (unwrap_or p.token []) p.outstanding;
    count = some_outstanding p.shaken (unwrap_or p.token []) p.outstanding;
    latest = some_token p.shaken (unwrap_or p.token []) p.outstanding;
  },
)
