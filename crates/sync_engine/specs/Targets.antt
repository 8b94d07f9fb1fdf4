-- The id of a listener's target.
use Rattle.std.specs.Prelude.{◌≡◌, ℕ, ℤ, pos, true, length, List, [], ◌∷◌, Option, Some, None, if◌then◌else◌}
use Rattle.host_api.specs.Host.{View}
use Rattle.listeners.specs.Table.{Changes, ChangesTarget, fresh}
use Rattle.local_store.specs.Files.{Moves}
use Rattle.local_store.specs.State.{State, committed}
use Rattle.queries.specs.declared.target.Target.{Target}
use Rattle.record_codec.specs.declared.commit.Commit.TheVariants.{Allocate}
use Rattle.target_cache.specs.Cache.{TellsId, id_at}
use Rattle.client_turns.specs.Answers.{are_left}
use Rattle.sync_engine.specs.Standing.{Kept}
use Rattle.sync_engine.specs.Telling.{IsQuietOrAmong, KeepsRest, Raises}
use Rattle.sync_engine.specs.declared.out.Out.{Out}
use Rattle.sync_engine.specs.declared.out.Out.TheVariants.{Listening}
use Rattle.sync_engine.specs.declared.watch_stream.Due.TheVariants.{One}

-- the id that a target has, or gets where one is left
abbrev pub given_id : State → Option ℤ → Option ℤ
given_id s (Some id) = Some id
given_id s None = if are_left s then Some (pos (id_at (length s.rows))) else None

-- the state then
abbrev pub given_state : State → Target → Option ℤ → State
given_state s target (Some id) = s
given_state s target None = if are_left s then committed s (Allocate (id_at (length s.rows)) target) else s

-- the target has a row of this id, or gets one
pub record GivesTarget (s : State) (target : Target) (given : Option ℤ) (after_it : State) : Type 0 where
  pub found : Option ℤ
  pub tells : TellsId s.rows target found
  pub id : given ≡ given_id s found
  pub state : after_it ≡ given_state s target found

-- a crash finds the state before it, or the one in which the target has a row
pub record MovesForTarget (s : State) (target : Target) (old new : View) : Type 0 where
  pub found : Option ℤ
  pub tells : TellsId s.rows target found
  pub moves : Moves s (given_state s target found) old new

-- the target has no row, and gets one
pub record MakesRow (s : State) (target : Target) : Type 0 where
  pub tells : TellsId s.rows target None
  pub left : are_left s ≡ true

-- The listener of the query began, at this target, and raised its first snapshot, if it has one.
pub record HasBegun (id : ℕ) (query : Target) (target : ℤ) (old new : Kept) (outs : List Out) : Type 0 where
  pub mid : Kept
  pub root : mid.root ≡ old.root
  pub store : mid.store ≡ old.store
  pub limbo : mid.limbo ≡ old.limbo
  pub writes : mid.writes ≡ old.writes
  pub watch : mid.watch ≡ record old.watch { due = One target }
  pub listeners : Changes id (Some (fresh query)) old.listeners mid.listeners
  pub targets : ChangesTarget id (Some target) old.listeners mid.listeners
  pub rest : KeepsRest mid new
  pub raises : IsQuietOrAmong (id ∷ []) mid
      → Raises mid new (Listening id target mid.store.state.number ∷ []) outs
