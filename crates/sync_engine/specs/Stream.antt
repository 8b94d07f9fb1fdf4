-- What happens to the stream of listeners as a client keeps it.
use Rattle.std.specs.Prelude.{◌≡◌, ℤ, Bool, true, false, ◌&&◌, not, List, [], ◌∷◌, Option, None, if◌then◌else◌}
use Rattle.std.specs.Ordering.{int_eq}
use Rattle.views.specs.declared.standing.Standing.{Standing}
use Rattle.listen_protocol.specs.Calls.{Calls, applied, came, lists, skipped}
use Rattle.value_model.specs.declared.message.ListenResponse.{ListenResponse}
use Rattle.watch_aggregator.specs.Points.{IsPointOf}
use Rattle.watch_aggregator.specs.Standing.{StandsFor as AggregatorStandsFor}
use Rattle.watch_aggregator.specs.declared.point.WatchPoint.{WatchPoint}
use Rattle.sync_engine.specs.declared.current.CurrentTargets.{CurrentTargets}
use Rattle.client_turns.specs.declared.online.OnlineState.{OnlineState}
use Rattle.client_turns.specs.declared.online.OnlineState.TheVariants.{Unknown, Online}
use Rattle.sync_engine.specs.declared.watch_stream.Due.{Due}
use Rattle.sync_engine.specs.declared.watch_stream.Due.TheVariants.{Nothing, One, Resets as due_resets, All}
use Rattle.sync_engine.specs.declared.watch_stream.WatchStream.{WatchStream}
use Rattle.sync_engine.specs.Standing.{standing_in}
use Rattle.client_turns.specs.Watching.{is_offline, online_closed, online_rung}

-- it was never opened
pub record IsNew (watch : WatchStream) : Type 0 where
  pub opening : watch.is_open ≡ false
  pub calls : AggregatorStandsFor watch.aggregator []
  pub online : watch.online ≡ Unknown
  pub current : watch.current.targets.items ≡ []
  pub due : watch.due ≡ Nothing

-- it was opened, and requests may be due for all targets
pub record IsOpened (old new : WatchStream) : Type 0 where
  pub opening : new.is_open ≡ true
  pub calls : AggregatorStandsFor new.aggregator []
  pub online : new.online ≡ old.online
  pub current : new.current ≡ old.current
  pub due : new.due ≡ All

-- no target stays current where the client is offline
abbrev pub unless_offline : OnlineState → Option Standing → Option Standing
unless_offline online standing = if is_offline online then None else standing

abbrev pub KeepsUnlessOffline : OnlineState → CurrentTargets → CurrentTargets → Type 0
KeepsUnlessOffline online old new = (t : ℤ)
    → standing_in new.targets.items t ≡ unless_offline online (standing_in old.targets.items t)

-- it was closed, while a target was wanted or none
pub record IsClosed (wanted : Bool) (old new : WatchStream) : Type 0 where
  pub opening : new.is_open ≡ false
  pub calls : AggregatorStandsFor new.aggregator []
  pub online : new.online ≡ online_closed wanted old.online
  pub current : KeepsUnlessOffline new.online old.current new.current
  pub due : new.due ≡ old.due

-- the timer of the online state went off
pub record IsRung (old new : WatchStream) : Type 0 where
  pub opening : new.is_open ≡ old.is_open
  pub aggregator : new.aggregator ≡ old.aggregator
  pub online : new.online ≡ online_rung old.online
  pub current : KeepsUnlessOffline new.online old.current new.current
  pub due : new.due ≡ old.due

-- a listener of the target ended, which is still wanted, or not, and a request may be due for it
pub record Ends (target : ℤ) (wanted : Bool) (old new : WatchStream) : Type 0 where
  pub opening : new.is_open ≡ old.is_open
  pub aggregator : new.aggregator ≡ old.aggregator
  pub online : new.online ≡ old.online
  pub current : (t : ℤ) → standing_in new.current.targets.items t
      ≡ (if int_eq target t && not wanted then None else standing_in old.current.targets.items t)
  pub due : new.due ≡ One target

-- the client is offline, and wasn't before
abbrev pub is_newly_offline : OnlineState → OnlineState → Bool
is_newly_offline was now = not (is_offline was) && is_offline now

-- the targets that are to be removed and added again
abbrev pub resets_of : Due → List ℤ
resets_of (due_resets ids) = ids.items
resets_of _ = []

-- ---- what messages make of it

-- a message came that isn't refused
pub record Hears (message : ListenResponse) (old new : WatchStream) : Type 0 where
  pub opening : new.is_open ≡ old.is_open
  pub calls : (h : Calls) → AggregatorStandsFor old.aggregator h → AggregatorStandsFor new.aggregator (came message ∷ h)
  pub online : new.online ≡ Online
  pub current : new.current ≡ old.current
  pub due : new.due ≡ old.due

-- all but what was done on it stays
pub record KeepsAllButCalls (old new : WatchStream) : Type 0 where
  pub opening : new.is_open ≡ old.is_open
  pub online : new.online ≡ old.online
  pub current : new.current ≡ old.current
  pub due : new.due ≡ old.due

-- the point that came is skipped
pub record Skips (old new : WatchStream) : Type 0 where
  pub rest : KeepsAllButCalls old new
  pub calls : (h : Calls) → AggregatorStandsFor old.aggregator h → AggregatorStandsFor new.aggregator (skipped ∷ h)

-- the point that came is applied, and this waited for it
pub record Applies (point : WatchPoint) (old new : WatchStream) : Type 0 where
  pub rest : KeepsAllButCalls old new
  pub calls : (h : Calls) → AggregatorStandsFor old.aggregator h
      → IsPointOf h point × AggregatorStandsFor new.aggregator (applied ∷ h)

-- the target is reset
pub record Resets (target : ℤ) (old new : WatchStream) : Type 0 where
  pub opening : new.is_open ≡ old.is_open
  pub aggregator : new.aggregator ≡ old.aggregator
  pub online : new.online ≡ old.online
  pub current : (t : ℤ) → standing_in new.current.targets.items t
      ≡ (if int_eq target t then None else standing_in old.current.targets.items t)
  pub due : resets_of new.due ≡ target ∷ []

-- the targets ended
pub record EndsAll (targets : List ℤ) (old new : WatchStream) : Type 0 where
  pub opening : new.is_open ≡ old.is_open
  pub aggregator : new.aggregator ≡ old.aggregator
  pub online : new.online ≡ old.online
  pub current : (t : ℤ) → standing_in new.current.targets.items t
      ≡ (if lists targets t then None else standing_in old.current.targets.items t)
  pub due : new.due ≡ old.due
