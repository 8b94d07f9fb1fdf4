-- How documents in limbo go whose listens the backend ended, by what a client keeps.
use Rattle.std.specs.Prelude.{◌≡◌, ◌⊎◌, ◌↔◌, ◌<◌, ◌<ℤ◌, ◌||◌, ◌++◌, ℕ, nat_eq, ℤ, pos, true, List, [], map as each, Some, None, if◌then◌else◌}
use Rattle.std.specs.List.{AllPairs, Contains, list_any}
use Rattle.durable_state.specs.Rows.{HasRow}
use Rattle.limbo_resolver.specs.Limbo.{Key, ids_of}
use Rattle.local_store.specs.State.{committed}
use Rattle.record_codec.specs.declared.commit.Commit.TheVariants.{Drop}
use Rattle.listen_protocol.specs.Calls.{Calls, lists}
use Rattle.listen_protocol.specs.ToldKeys.{told_keys}
use Rattle.listen_protocol.specs.Transcript.{counts}
use Rattle.listeners.specs.Concerns.{IsConcerned}
use Rattle.listeners.specs.Table.{target_of}
use Rattle.target_cache.specs.Cache.{IsRow}
use Rattle.target_cache.specs.declared.row.Held.{Held}
use Rattle.target_cache.specs.declared.row.Row.{Row}
use Rattle.views.specs.declared.standing.Standing.{Standing}
use Rattle.client_turns.specs.LimboListens.{without_all}
use Rattle.sync_engine.specs.Standing.{Kept, limbo_in, standing_in}
use Rattle.sync_engine.specs.Stream.{resets_of}
use Rattle.sync_engine.specs.Telling.{RemovesAll}
use Rattle.sync_engine.specs.declared.dropping.Going.{Going}
use Rattle.sync_engine.specs.declared.watch_stream.WatchStream.{WatchStream}

-- one of the keys is among others
pub record ShareOne (keys others : List Key) : Type 0 where
  pub key : Key
  pub one : Contains keys key
  pub other : Contains others key

-- the row of the target holds one of the keys
pub record RowHoldsOne (client : Kept) (t : ℤ) (keys : List Key) : Type 0 where
  pub row : Row
  pub held : Held
  pub of_id : IsRow client.store.state.rows t row
  pub holds : row.held ≡ Some held
  pub share : ShareOne keys held.keys

-- the target counts, and was told one of the keys
abbrev pub WasToldOne : Calls → ℤ → List Key → Type 0
WasToldOne h t keys = (counts t h ≡ true) × ShareOne keys (told_keys t h)

-- the target is current with one of the keys
pub record IsCurrentWithOne (client : Kept) (t : ℤ) (keys : List Key) : Type 0 where
  pub standing : Standing
  pub current : standing_in client.watch.current.targets.items t ≡ Some standing
  pub share : ShareOne keys standing.keys

-- the target holds one of the keys
abbrev pub HoldsOne : Kept → Calls → ℤ → List Key → Type 0
HoldsOne client h t keys = RowHoldsOne client t keys ⊎ (WasToldOne h t keys ⊎ IsCurrentWithOne client t keys)

-- ascending, the ids of the rows that are made blank
pub record AreBlankedIn (client : Kept) (h : Calls) (ended : List ℤ) (keys : List Key) (those : List ℕ) : Type 0 where
  pub ascending : AllPairs (λ a b. a < b) those
  pub each : (n : ℕ) → Contains those n
      ↔ (HasRow client.store.state.rows n × (Contains ended (pos n) ⊎ HoldsOne client h (pos n) keys))

-- ascending, the ids of the listens of documents in limbo that were told one of the keys
pub record AreToldListens (client : Kept) (h : Calls) (keys : List Key) (ids : List ℤ) : Type 0 where
  pub ascending : AllPairs ◌<ℤ◌ ids
  pub each : (t : ℤ) → Contains ids t ↔ (Contains (ids_of client.limbo.limbo.running) t × WasToldOne h t keys)

-- ascending ids, among them those of the listeners that a key concerns, or whose target is one of these
pub record AreMovedBy (client : Kept) (keys : List Key) (targets : List ℤ) (ids : List ℕ) : Type 0 where
  pub ascending : AllPairs (λ a b. a < b) ids
  pub concerned : (key : Key) → Contains keys key → (id : ℕ) → IsConcerned client.listeners key id → Contains ids id
  pub linked : (id : ℕ) (t : ℤ) → Contains targets t → target_of client.listeners id ≡ Some t → Contains ids id

-- targets ended, and rows were made blank, those of ended ones among them; the resets are to be removed and added again
pub record Drops (ended blanked resets : List ℤ) (old new : WatchStream) : Type 0 where
  pub opening : new.is_open ≡ old.is_open
  pub aggregator : new.aggregator ≡ old.aggregator
  pub online : new.online ≡ old.online
  pub current : (t : ℤ) → standing_in new.current.targets.items t
      ≡ (if lists ended t || lists blanked t then None else standing_in old.current.targets.items t)
  pub due : resets_of new.due ≡ resets

-- What goes where targets ended and the keys with them: these rows are made blank, and the targets of these rows and the
-- listens of documents in limbo that were told one of the keys are to be removed and added again.
pub record IsGoing (client : Kept) (h : Calls) (ended : List ℤ) (keys : List Key) (going : Going) : Type 0 where
  pub rows : AreBlankedIn client h ended keys going.rows.items
  pub told : List ℤ
  pub told_are : AreToldListens client h keys told
  pub resets : going.resets.items ≡ each pos going.rows.items ++ told

-- The keys went, with what goes with them, and these listeners ended.
pub record LetsGo (ended : List ℤ) (keys : List Key) (going : Going) (those : List ℕ) (old new : Kept) : Type 0 where
  pub root : new.root ≡ old.root
  pub state : new.store.state ≡ committed old.store.state (Drop keys going.rows.items)
  pub writes : new.writes ≡ old.writes
  pub removed : RemovesAll those old.listeners new.listeners
  pub forgets : (q : ℕ) → limbo_in new q ≡ (if list_any (nat_eq q) those then [] else limbo_in old q)
  pub refuses : new.limbo.limbo ≡ record old.limbo.limbo { running = without_all ended old.limbo.limbo.running }
  pub watch : Drops ended going.blanked.items going.resets.items old.watch new.watch
