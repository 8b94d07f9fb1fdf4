-- What stays of the listens of documents in limbo, whatever comes on the stream: what stays where some of them end.
use Rattle.std.proofs.Common.{ℤ, Bool, true, false, not, ◌&&◌, List}
use Rattle.std.specs.Prelude.{if◌then◌else◌}
use Rattle.std.specs.List.{filter}
use Rattle.limbo_resolver.specs.Limbo.{Limbo}
use Rattle.listen_protocol.specs.Calls.{Calls, is_remove, lists}
use Rattle.listen_protocol.specs.Transcript.{is_live}
use Rattle.value_model.specs.declared.message.ListenResponse.{ListenResponse}
use Rattle.value_model.specs.declared.message.ListenResponse.TheVariants as message
use Rattle.client_turns.specs.LimboListens.{going_on, heard_limbo}
use Rattle.client_turns.specs.Watching.{WatchStep, closes, hears, opens, passes, rings}

-- the listens without those that the backend ended
abbrev pub but_ended : Calls → List ℤ → Limbo → Limbo
but_ended h ids limbo = record limbo { running = filter (λ p. not (lists ids p.0 && is_live p.0 h)) limbo.running }

module _ (P : Limbo → Type 0) (h : Calls) (limbo : Limbo) (ends : (ids : List ℤ) → P limbo → P (but_ended h ids limbo)) where
  heard_keeps : (m : ListenResponse) → P limbo → P (heard_limbo h m limbo)
  heard_keeps (message.Target change) was = by (is_remove change.kind)
    where
      by : (b : Bool) → P (if b then but_ended h change.target_ids limbo else limbo)
      by true = ends change.target_ids was
      by false = was
  heard_keeps (message.Change change) was = was
  heard_keeps (message.Delete delete) was = was
  heard_keeps (message.Remove removed) was = was
  heard_keeps (message.Filter count) was = was

  pub going_keeps : (step : WatchStep) → P limbo → P (going_on h step limbo)
  going_keeps opens was = was
  going_keeps closes was = was
  going_keeps (hears m) was = heard_keeps m was
  going_keeps rings was = was
  going_keeps passes was = was
