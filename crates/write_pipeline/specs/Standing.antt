-- Which steps a pipeline stands for, and how a response or a closing fits them.
use Rattle.std.specs.Prelude.{◌≡◌, ◌≢◌, ◌⊎◌, if◌then◌else◌, ℕ, ◌<◌, true, false, ◌&&◌, nat_lt, Option, Some, None, unwrap_or, [], ◌∷◌, length}
use Rattle.mutations.specs.Results.{FitsWrites}
use Rattle.mutations.specs.declared.batch.Batch.{Batch}
use Rattle.mutations.specs.declared.results.WriteResponse.{WriteResponse}
use Rattle.write_pipeline.specs.declared.pipeline.WritePipeline.{WritePipeline}
use Rattle.write_pipeline.specs.declared.answer.Answer.{Answer}
use Rattle.write_pipeline.specs.declared.answer.Answer.TheVariants.{Handshake, Acknowledges}
use Rattle.write_pipeline.specs.declared.answer.Closing.{Closing}
use Rattle.write_pipeline.specs.declared.answer.Closing.TheVariants.{Kept, Rejects}
use Rattle.write_pipeline.specs.declared.answer.WriteMember.{WriteMember}
use Rattle.write_pipeline.specs.declared.answer.WriteMember.TheVariants.{WriteResults, CommitTime, TransformResults}
use Rattle.write_pipeline.specs.Order.{Step, Steps, acknowledged, is_ready, latest_token, may_send, outstanding, rejects, shaken}

-- the pipeline stands for the steps
pub record StandsFor (p : WritePipeline) (h : Steps) : Type 0 where
  pub ready : p.shaken ≡ is_ready h
  pub count : p.outstanding ≡ outstanding h
  pub latest : unwrap_or p.token [] ≡ latest_token h

-- what stood for steps stands for them with one more
abbrev pub Takes : WritePipeline → WritePipeline → Step → Type 0
Takes old new step = (h : Steps) → StandsFor old h → StandsFor new (step ∷ h)

-- what stood for steps stands for them still
abbrev pub Stays : WritePipeline → WritePipeline → Type 0
Stays old new = (h : Steps) → StandsFor old h → StandsFor new h

-- the pipeline stands for steps after which a batch may be sent
pub record MaySend (p : WritePipeline) : Type 0 where
  pub steps : Steps
  pub stands : StandsFor p steps
  pub may : may_send steps ≡ true

-- the batch that a response is for is there, and the response has a result for each of its writes
abbrev pub HasResults : Option Batch → WriteResponse → Type 0
HasResults None response = ⊥
HasResults (Some batch) response = length response.results ≡ length batch.writes

-- each result can be that of its write
abbrev pub HasTransforms : Option Batch → WriteResponse → Type 0
HasTransforms None response = ⊥
HasTransforms (Some batch) response = FitsWrites batch.writes response.results

-- what a response that fits is: the handshake has no results; any other is for the first outstanding batch, says when it was
-- committed, and has its results
abbrev pub Fits : Steps → Option Batch → WriteResponse → Answer → Type 0
Fits h first response Handshake = (is_ready h ≡ false) × (response.results ≡ [])
Fits h first response Acknowledges =
    (is_ready h ≡ true) × (0 < outstanding h) × HasTransforms first response × (response.commit_time ≢ None)

-- the first member by which a response doesn't fit
abbrev pub Fails : Steps → Option Batch → WriteResponse → WriteMember → Type 0
Fails h first response WriteResults =
    ((is_ready h ≡ false) × (response.results ≢ []))
    ⊎ ((is_ready h ≡ true) × ((outstanding h ≡ 0) ⊎ ¬ (HasResults first response)))
Fails h first response CommitTime =
    (is_ready h ≡ true) × (0 < outstanding h) × HasResults first response × (response.commit_time ≡ None)
Fails h first response TransformResults =
    (is_ready h ≡ true) × (0 < outstanding h) × HasResults first response × (response.commit_time ≢ None)
    × ¬ (HasTransforms first response)

-- the step that a response is
abbrev pub step_of : Answer → Step
step_of Handshake = shaken
step_of Acknowledges = acknowledged

-- whether a closing with the code rejects the first outstanding batch
abbrev pub closing_of : Steps → ℕ → Closing
closing_of h code = if is_ready h && (nat_lt 0 (outstanding h) && rejects code) then Rejects else Kept
