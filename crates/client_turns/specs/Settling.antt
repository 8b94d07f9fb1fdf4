-- The snapshots that an event raises: each listener shows the answer of its query over the documents of the state after it.
use Rattle.std.specs.Prelude.{◌≡◌, ◌↔◌, ◌⊎◌, ℕ, ℤ, ◌<◌, Bool, true, false, IsTrue, nat_eq, List, [], ◌∷◌, Option, Some, None, option_and_then, option_map, if◌then◌else◌}
use Rattle.std.specs.List.{AllPairs, Contains}
use Rattle.std.specs.Option.{IsSome}
use Rattle.document_keys.specs.Names.{Root}
use Rattle.target_cache.specs.Cache.{IsRow}
use Rattle.target_cache.specs.declared.row.Row.{Row}
use Rattle.document_keys.specs.KeySet.{IsAscending}
use Rattle.listen_protocol.specs.Calls.{Key}
use Rattle.durable_state.specs.Documents.{documents_of, touched_keys_of}
use Rattle.durable_state.specs.State.{State}
use Rattle.queries.specs.Answer.{IsAnswer}
use Rattle.views.specs.Limbo.{IsInLimbo}
use Rattle.views.specs.Refresh.{Refreshes}
use Rattle.views.specs.Viewed.{Viewed}
use Rattle.views.specs.declared.raised.Raised.{Raised}
use Rattle.views.specs.declared.standing.Standing.{Standing}
use Rattle.views.specs.declared.view.Refresh.{Refresh}
use Rattle.client_turns.specs.declared.online.OnlineState.{OnlineState}
use Rattle.client_turns.specs.Lines.{Told}
use Rattle.client_turns.specs.Past.{Past}
use Rattle.client_turns.specs.Watching.{current_keys, is_offline, listened, online_of}

-- how a listener's target stands: its id, whether it is current, with its keys, and whether the client is offline
pub record Stance : Type 0 where
  pub target : Option ℤ
  pub standing : Standing
  pub offline : Bool

-- a target with these keys is current
abbrev pub current_with : List Key → Standing
current_with keys = record { current = true; keys = keys }

-- how a target stands; it isn't current where nothing is known of it
abbrev pub standing_or : Option Standing → Standing
standing_or None = record { current = false; keys = [] }
standing_or (Some standing) = standing

abbrev pub stance_by : Option ℤ → (ℤ → Option Standing) → OnlineState → Stance
stance_by target standing online =
    record { target = target; standing = standing_or (option_and_then standing target); offline = is_offline online }

-- how the target of a listener stands
abbrev pub stance_of : Past → ℕ → Stance
stance_of past id = stance_by (listened id past) (λ t. option_map current_with (current_keys t past)) (online_of past)

-- the id has a row
abbrev pub HasTargetRow : List Row → ℤ → Type 0
HasTargetRow rows t = (row : Row) × IsRow rows t row

-- the row of the target holds what the backend told at a point
pub record IsHeldRow (rows : List Row) (t : ℤ) : Type 0 where
  pub row : Row
  pub of_id : IsRow rows t row
  pub held : IsSome row.held

abbrev pub IsHeldFor : List Row → Option ℤ → Type 0
IsHeldFor rows None = ⊥
IsHeldFor rows (Some t) = IsHeldRow rows t

-- a listener may start with nothing to show where its target's row isn't blank, or the client is offline
abbrev pub MayStart : State → Stance → Bool → Type 0
MayStart s stance may_start = IsTrue may_start ↔ (IsHeldFor s.rows stance.target ⊎ (stance.offline ≡ true))

-- the snapshot that a refresh raised, if it did
abbrev pub raised_by : Refresh → Viewed → Option Raised
raised_by refresh view = if refresh.raised then view.raised else None

-- The listener is refreshed over the documents of the state, and this is the snapshot that it raises, if it does.
pub record Shows (root : Root) (s : State) (stance : Stance) (old : Viewed) (raised : Option Raised) : Type 0 where
  pub may_start : Bool
  pub start : MayStart s stance may_start
  pub new : Viewed
  pub refresh : Refresh
  pub refreshes :
      Refreshes root (documents_of s) (touched_keys_of s) stance.standing may_start old new refresh
  pub is : raised ≡ raised_by refresh new

-- who is no listener raises nothing
abbrev pub ShowsAt : Root → State → Stance → Option Viewed → Option Raised → Type 0
ShowsAt root s stance None raised = raised ≡ None
ShowsAt root s stance (Some view) raised = Shows root s stance view raised

-- the snapshot of the listener of an id, if it is among these
abbrev pub told_to : ℕ → List Told → Option Raised
told_to id [] = None
told_to id (told ∷ others) = if nat_eq told.id id then Some told.raised else told_to id others

-- a snapshot is that of a listener with a lower id
abbrev pub IsBelow : Told → Told → Type 0
IsBelow told other = told.id < other.id

-- The snapshots stand in the order of the listeners' ids, and there is one of each listener that raises one.
pub record Settles (root : Root) (s : State) (stance : ℕ → Stance) (listening : ℕ → Option Viewed) (told : List Told)
    : Type 0 where
  pub ascending : AllPairs IsBelow told
  pub each : (id : ℕ) → ShowsAt root s (stance id) (listening id) (told_to id told)

-- ---- documents in limbo

-- the listener shows the key's document, which is in limbo
pub record ShowsInLimbo (root : Root) (s : State) (stance : Stance) (key : Key) (view : Viewed) : Type 0 where
  pub answer : List Key
  pub is_answer : IsAnswer view.target root (documents_of s) answer
  pub shown : Contains answer key
  pub limbo : IsInLimbo stance.standing (touched_keys_of s) key

-- who is no listener shows nothing
abbrev pub ShowsInLimboAt : Root → State → Stance → Key → Option Viewed → Type 0
ShowsInLimboAt root s stance key None = ⊥
ShowsInLimboAt root s stance key (Some view) = ShowsInLimbo root s stance key view

-- ascending, the keys of the documents that are in limbo for some listener
pub record AreInLimbo (root : Root) (s : State) (stance : ℕ → Stance) (listening : ℕ → Option Viewed) (keys : List Key)
    : Type 0 where
  pub ascending : IsAscending keys
  pub each : (key : Key) → Contains keys key ↔ ((id : ℕ) × ShowsInLimboAt root s (stance id) key (listening id))
