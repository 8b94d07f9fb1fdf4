-- The laws of agreement.
use Rattle.std.specs.Prelude.{◌≡◌, ◌↔◌, ℕ, ◌<◌, Bool, true, false, List, [], ◌∷◌}
use Rattle.std.specs.Prelude.{drop, Option, ◌<ℤ◌}
use Rattle.value_model.specs.Documents.{DocumentMap}
use Rattle.value_model.specs.Time.{IsMoment, instant}
use Rattle.value_model.specs.declared.timestamp.Timestamp.{Timestamp}
use Rattle.queries.specs.declared.target.Target.{Target}
use Rattle.agreement.specs.Backend.{Key, Id, Setting, DocumentsStand, IsInAnswer, tick}
use Rattle.agreement.specs.History.{Write, IsHistory}
use Rattle.agreement.specs.Transcript.{Event, Message, told}
use Rattle.agreement.specs.Follows.{Follows, AreUnique, HonestFilter}
use Rattle.agreement.specs.Stated.{FollowsAsStated}
use Rattle.agreement.specs.Client.{Client, Turn, run, after}
use Rattle.agreement.specs.Allowed.{IsAllowed, AreAllowed, Numbers}
use Rattle.agreement.specs.MessageTurns.{turn_of, IsVerdict, IsUnused, Spares}
use Rattle.agreement.specs.Sound.{Sound, Live}
use Rattle.agreement.specs.Agrees.{IsTouched, AreLocal, IsSynced, Agrees}
use Rattle.agreement.specs.View.{IsView}
use Rattle.agreement.specs.NextRun.{started, next_run, empty}

-- The premises of a run: the client is sound at its start, its turns are allowed, and all that was sent and
-- heard follows the backend's documents. The backend gives no token twice for different points of a query.
pub record IsHonestRun (s : Setting) (version : List Event → ℕ) (first : Client) (turns : List Turn)
    : Type 0 where
  pub stand : DocumentsStand s
  pub sound : Sound s first
  pub live : Live s version first
  pub allowed : AreAllowed s turns first
  pub follows : Follows s version (run s turns first).past
  pub unique : AreUnique s (run s turns first).past

-- what the client keeps stays sound
abbrev pub SoundnessIsKept : Type 0
SoundnessIsKept = (s : Setting) (version : List Event → ℕ) (first : Client) (turns : List Turn)
    → IsHonestRun s version first turns
    → Sound s (run s turns first) × Live s version (run s turns first)

-- each snapshot that isn't from the cache agrees with the backend's documents at the last read time
abbrev pub SyncedSnapshotsAgree : Type 0
SyncedSnapshotsAgree = (s : Setting) (version : List Event → ℕ) (first : Client) (turns : List Turn)
    → IsHonestRun s version first turns
    → (pending : Key → Bool) (local : DocumentMap) (id : Id) (shown : List Key)
    → AreLocal pending (run s turns first) local → IsSynced s pending (run s turns first) local id shown
    → Agrees s pending (run s turns first) local ((run s turns first).target id) shown

-- a view is flagged as not from the cache exactly where it is such a snapshot
abbrev pub FlagsTell : Type 0
FlagsTell = (s : Setting) (pending : Key → Bool) (c : Client) (local : DocumentMap) (id : Id)
    → (shown limbo : List Key) (from_cache : Bool) → IsView s pending c local id shown limbo from_cache
    → (from_cache ≡ false) ↔ IsSynced s pending c local id shown

-- an empty store is sound for each backend
abbrev pub EmptyIsSound : Type 0
EmptyIsSound = (s : Setting) → Sound s empty

-- a sound store is sound for the next run
abbrev pub SoundCarriesOver : Type 0
SoundCarriesOver = (s : Setting) (c : Client) → Sound s c → Sound (next_run s c.past) (started c)

-- What stands on the disk at any moment of a run is sound for the next run, with the tuples of the whole run:
-- k is how many of the last turns a crash has cut off.
abbrev pub MomentsAreSound : Type 0
MomentsAreSound = (s : Setting) (version : List Event → ℕ) (first : Client) (turns : List Turn) (k : ℕ)
    → IsHonestRun s version first turns
    → Sound (next_run s (run s turns first).past) (started (run s (drop k turns) first))

-- a client that has just started has nothing volatile to be wrong
abbrev pub StartsAreLive : Type 0
StartsAreLive = (s : Setting) (version : List Event → ℕ) (c : Client) → Live s version (started c)

-- a document of a history stands from its last write on
abbrev pub HistoriesStand : Type 0
HistoriesStand = (writes : List Write) (s : Setting) → IsHistory writes s → DocumentsStand s

-- told keys that contain an answer, and are as many, are that answer
abbrev pub FiltersTell : Type 0
FiltersTell = (s : Setting) (past : List Event) (version : ℕ) (id : Id) (query : Target) (count : ℕ)
    → HonestFilter s past version id query count → Numbers (told id past) count
    → (key : Key) → told id past key ≡ true → IsInAnswer s query version key

-- the turn that a message makes is allowed
abbrev pub MessagesAreAllowed : Type 0
MessagesAreAllowed = (s : Setting) (limbo : Id → Option Key) (agrees : Bool) (c : Client) (m : Message)
    → IsVerdict c.past m agrees → IsAllowed s c (turn_of s limbo agrees c m)

-- an id that nothing uses stays so until it is asked for, so it may stand for another query
abbrev pub IdsWait : Type 0
IdsWait = (s : Setting) (c : Client) (turn : Turn) (id : Id)
    → Spares id turn → IsUnused c id → IsUnused (after s turn c) id

-- what follows by the longer words follows
abbrev pub WordsSuffice : Type 0
WordsSuffice = (s : Setting) (version : List Event → ℕ) (past : List Event)
    → FollowsAsStated s version past → Follows s version past

-- moments are before one another as their ticks are, and none has the tick 0
pub record TicksAreOrdered : Type 0 where
  pub positive : (time : Timestamp) → 0 < tick time
  pub before : (time other : Timestamp) → IsMoment time → IsMoment other
      → (instant time <ℤ instant other) ↔ (tick time < tick other)
  pub same : (time other : Timestamp) → IsMoment time → IsMoment other
      → tick time ≡ tick other → time ≡ other

-- A run from an empty store that meets all premises, and ends in a snapshot of one document that no
-- unfinished write touches.
pub record SyncedRun : Type 0 where
  pub setting : Setting
  pub version : List Event → ℕ
  pub turns : List Turn
  pub pending : Key → Bool
  pub local : DocumentMap
  pub id : Id
  pub key : Key
  pub honest : IsHonestRun setting version empty turns
  pub are_local : AreLocal pending (run setting turns empty) local
  pub synced : IsSynced setting pending (run setting turns empty) local id (key ∷ [])
  pub untouched : IsTouched pending (run setting turns empty) key → ⊥
