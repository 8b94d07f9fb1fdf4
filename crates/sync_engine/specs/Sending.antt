-- What is handed out where batches go out.
use Rattle.std.specs.Prelude.{◌≡◌, ℕ, List, [], ◌∷◌, ◌++◌, length, Option, Some, None, zero, suc}
use Rattle.write_pipeline.specs.Order.{Steps, outstanding, sent}
use Rattle.write_pipeline.specs.Standing.{StandsFor as PipelineStandsFor}
use Rattle.sync_engine.specs.Standing.{ComesAs, Kept}
use Rattle.client_turns.specs.Writing.{sent_times, to_send}
use Rattle.sync_engine.specs.declared.out.Out.{Out}
use Rattle.sync_engine.specs.declared.out.Out.TheVariants.{SendBatch}

-- the client keeps all but how its batches go: its stream of writes stays open, or closed
pub record KeepsButPipeline (old new : Kept) : Type 0 where
  pub root : new.root ≡ old.root
  pub store : new.store ≡ old.store
  pub listeners : new.listeners ≡ old.listeners
  pub limbo : new.limbo ≡ old.limbo
  pub watch : new.watch ≡ old.watch
  pub opening : new.writes.is_open ≡ old.writes.is_open
  pub spent : new.spent ≡ old.spent

-- a batch was sent, or none
abbrev pub then_sent : Option ℕ → Steps → Steps
then_sent None h = h
then_sent (Some place) h = sent ∷ h

-- so many pending batches, from this place on
abbrev pub from_place : ℕ → ℕ → List Out
from_place place zero = []
from_place place (suc n) = SendBatch place ∷ from_place (suc place) n

-- The batches that go out were sent, from the first one that isn't outstanding on.
pub record Sends (old new : Kept) (before after : List Out) : Type 0 where
  pub count : ℕ
  pub stands : ComesAs old.writes (λ h. PipelineStandsFor new.writes.pipeline (sent_times count h))
  pub all : ComesAs old.writes (λ h. count ≡ length (to_send h old.store.state.batches))
  pub outs : ComesAs old.writes (λ h. after ≡ before ++ from_place (outstanding h) count)
