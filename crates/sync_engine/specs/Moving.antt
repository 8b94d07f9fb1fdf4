-- What a point moves: the listeners that it may concern, and which targets are current from it on.
use Rattle.std.specs.Prelude.{◌≡◌, ◌<◌, ℕ, ℤ, true, List, Some, None, IsSome}
use Rattle.std.specs.List.{AllPairs, Contains}
use Rattle.listeners.specs.Concerns.{IsConcerned}
use Rattle.listeners.specs.Table.{IsWanted, Table, target_of}
use Rattle.outcome_codec.specs.declared.parts.KeyedEntry.{KeyedEntry}
use Rattle.watch_aggregator.specs.declared.point.WatchTarget.{WatchTarget}
use Rattle.sync_engine.specs.declared.current.CurrentTarget.{CurrentTarget}
use Rattle.client_turns.specs.Settling.{current_with}
use Rattle.sync_engine.specs.Standing.{Kept, standing_in}

-- ascending ids, among them those of the listeners that an entry's key concerns, whose target is current, or is one of those that
-- are CURRENT at the point
pub record AreMoved (client : Kept) (entries : List KeyedEntry) (targets : List WatchTarget) (ids : List ℕ) : Type 0 where
  pub ascending : AllPairs (λ a b. a < b) ids
  pub concerned : (e : KeyedEntry) → Contains entries e → (id : ℕ) → IsConcerned client.listeners e.key id → Contains ids id
  pub was : (id : ℕ) (t : ℤ) → target_of client.listeners id ≡ Some t
      → IsSome (standing_in client.watch.current.targets.items t) → Contains ids id
  pub now : (id : ℕ) (target : WatchTarget) → Contains targets target → target.current ≡ true
      → target_of client.listeners id ≡ Some target.id → Contains ids id

-- the target is CURRENT at the point, and has a listener
pub record IsCurrentAt (table : Table) (targets : List WatchTarget) (target : WatchTarget) : Type 0 where
  pub one : Contains targets target
  pub current : target.current ≡ true
  pub wanted : IsWanted table target.id

-- just those are current, each with its told keys
pub record AreCurrentOf (table : Table) (targets : List WatchTarget) (current : List CurrentTarget) : Type 0 where
  pub each : (target : WatchTarget) → IsCurrentAt table targets target
      → standing_in current target.id ≡ Some (current_with target.told)
  pub none : (t : ℤ) → ((target : WatchTarget) → IsCurrentAt table targets target → target.id ≡ t → ⊥)
      → standing_in current t ≡ None
