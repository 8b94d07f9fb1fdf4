-- What comes on the stream of listeners.
use Rattle.std.specs.Prelude.{◌≡◌, ◌≢◌, ◌⊎◌, ◌↔◌, ◌<◌, ◌≤◌, ℕ, ℤ, pos, Bool, true, false, List, [], ◌∷◌, map as each, nat_lt, codes, Option, Some, None, if◌then◌else◌}
use Rattle.std.specs.List.{AllPairs, Contains}
use Rattle.document_keys.specs.KeySet.{IsAscending}
use Rattle.durable_state.specs.Rows.{HasRow, IsHeld}
use Rattle.durable_state.specs.State.{IsNotBelow, State, most_commits}
use Rattle.limbo_resolver.specs.Limbo.{Limbo, key_in}
use Rattle.listen_protocol.specs.Calls.{Key, came}
use Rattle.listen_protocol.specs.ToldKeys.{told_keys}
use Rattle.listen_protocol.specs.Transcript.{counts}
use Rattle.record_codec.specs.declared.commit.Commit.{Commit}
use Rattle.record_codec.specs.declared.commit.Commit.TheVariants as commit
use Rattle.target_cache.specs.Cache.{IsRow}
use Rattle.target_cache.specs.declared.row.Held.{Held}
use Rattle.target_cache.specs.declared.row.Row.{Row}
use Rattle.outcome_codec.specs.declared.parts.KeyedEntry.{KeyedEntry}
use Rattle.outcome_codec.specs.declared.parts.PointRow.{PointRow}
use Rattle.value_model.specs.Order.{Earlier}
use Rattle.value_model.specs.declared.document.RpcStatus.{RpcStatus}
use Rattle.value_model.specs.declared.message.ListenResponse.{ListenResponse}
use Rattle.value_model.specs.declared.message.StreamName.TheVariants as stream
use Rattle.value_model.specs.declared.timestamp.Timestamp.{Timestamp}
use Rattle.watch_aggregator.specs.Effects.{Gives, Refuses}
use Rattle.watch_aggregator.specs.declared.effect.Effect.TheVariants as effect
use Rattle.watch_aggregator.specs.declared.effect.WatchFault.TheVariants as fault
use Rattle.watch_aggregator.specs.declared.effect.WatchMember.{WatchMember}
use Rattle.watch_aggregator.specs.declared.effect.WatchMember.TheVariants as member
use Rattle.watch_points.specs.PointCommit.{IsPointCommit}
use Rattle.client_turns.specs.declared.refusal.Refusal.TheVariants.{BadMessage, IdsSpent, StreamState}
use Rattle.client_turns.specs.LimboListens.{limbo_of}
use Rattle.client_turns.specs.Lines.{Line, error}
use Rattle.client_turns.specs.Past.{Turn, Past}
use Rattle.client_turns.specs.Turns.{answered, commits, refused}
use Rattle.client_turns.specs.Watching.{calls_of, current_keys, listened}

-- the event makes this commit, where a number is left for it
abbrev pub commits_if_left : State → Commit → List Line → Turn
commits_if_left s made lines = if nat_lt s.number most_commits then commits made lines else refused IdsSpent

-- ascending, those of the ids that have a row
pub record HaveRows (rows : List Row) (ids : List ℤ) (those : List ℕ) : Type 0 where
  pub ascending : AllPairs (λ a b. a < b) those
  pub each : (n : ℕ) → Contains those n ↔ (Contains ids (pos n) × HasRow rows n)

-- one of the ids has a row that holds something
abbrev pub IsAnyHeld : List Row → List ℕ → Type 0
IsAnyHeld rows ids = (n : ℕ) × Contains ids n × IsHeld rows n

-- the rows of the ids are made blank by a commit, where one of them isn't blank
pub data Blanks (s : State) (ids : List ℕ) (lines : List Line) (t : Turn) : Type 0 where
  held : IsAnyHeld s.rows ids → t ≡ commits_if_left s (commit.Reset ids) lines → Blanks s ids lines t
  none_held : ¬ (IsAnyHeld s.rows ids) → t ≡ answered lines → Blanks s ids lines t

-- ascending, the listeners of the targets
pub record AreListenersOf (past : Past) (ids : List ℤ) (listeners : List ℕ) : Type 0 where
  pub ascending : AllPairs (λ a b. a < b) listeners
  pub each : (l : ℕ) → Contains listeners l ↔ ((t : ℤ) × Contains ids t × (listened l past ≡ Some t))

-- ascending, the keys of the documents in limbo that are listened to under these ids
pub record AreDropped (limbo : Limbo) (ids : List ℤ) (keys : List Key) : Type 0 where
  pub ascending : IsAscending keys
  pub each : (key : Key) → Contains keys key ↔ ((t : ℤ) × Contains ids t × (key_in limbo.running t ≡ Some key))

-- the target holds the key: its row does, its counting incarnation was told it, or it is current with it
pub data Holds (s : State) (past : Past) (t : ℤ) (key : Key) : Type 0 where
  by_row : (row : Row) (held : Held) → IsRow s.rows t row → row.held ≡ Some held → Contains held.keys key
      → Holds s past t key
  by_told : counts t (calls_of past) ≡ true → Contains (told_keys t (calls_of past)) key → Holds s past t key
  by_current : (keys : List Key) → current_keys t past ≡ Some keys → Contains keys key → Holds s past t key

-- ascending, the ids of rows that are made blank where the keys go: those of ended targets, and of targets that hold a key
pub record AreBlankedFor (s : State) (past : Past) (ended : List ℤ) (keys : List Key) (those : List ℕ) : Type 0 where
  pub ascending : AllPairs (λ a b. a < b) those
  pub each : (n : ℕ) → Contains those n
      ↔ (HasRow s.rows n × (Contains ended (pos n) ⊎ ((key : Key) × Contains keys key × Holds s past (pos n) key)))

-- the read time is before the last one
abbrev pub IsOld : Option Timestamp → Timestamp → Type 0
IsOld None at = ⊥
IsOld (Some last) at = Earlier at last

-- the name of the member for which a message is refused
abbrev pub watch_member_name : WatchMember → List ℕ
watch_member_name member.TargetIds = codes "targetIds"
watch_member_name member.Cause = codes "cause"

-- What a message on the open stream comes to: it changes nothing durable, it is a point that is too old, a point that is
-- committed, or for which no number is left, a filter by which a target is reset, an end of targets, which their listeners are
-- told, or of listens of documents in limbo among them, which are dropped; or it is a bad message.
pub data IsHeard (s : State) (past : Past) (response : ListenResponse) (t : Turn) : Type 0 where
  nothing : Gives (calls_of past) response effect.Nothing → t ≡ answered [] → IsHeard s past response t
  old_point : (at : Timestamp) → Gives (calls_of past) response (effect.Point at) → IsOld s.last_read at
      → t ≡ answered [] → IsHeard s past response t
  point : (at : Timestamp) (entries : List KeyedEntry) (rows : List PointRow)
      → Gives (calls_of past) response (effect.Point at) → IsNotBelow s.last_read at
      → IsPointCommit s (came response ∷ calls_of past) at entries rows
      → t ≡ commits_if_left s (commit.Point at entries rows) [] → IsHeard s past response t
  point_spent : (at : Timestamp) → Gives (calls_of past) response (effect.Point at) → IsNotBelow s.last_read at
      → most_commits ≤ s.number → t ≡ refused IdsSpent → IsHeard s past response t
  mismatch : (id : ℤ) (told count : ℕ) (ids : List ℕ)
      → Gives (calls_of past) response (effect.Mismatch id told count) → HaveRows s.rows (id ∷ []) ids
      → Blanks s ids [] t → IsHeard s past response t
  ended : (ids : List ℤ) (status : RpcStatus) (those listeners : List ℕ)
      → Gives (calls_of past) response (effect.Ended ids status) → AreDropped (limbo_of past) ids []
      → HaveRows s.rows ids those → AreListenersOf past ids listeners
      → Blanks s those (each (λ l. error l status) listeners) t → IsHeard s past response t
  dropped : (ids : List ℤ) (status : RpcStatus) (keys : List Key) (those listeners : List ℕ)
      → Gives (calls_of past) response (effect.Ended ids status) → AreDropped (limbo_of past) ids keys → keys ≢ []
      → AreBlankedFor s past ids keys those → AreListenersOf past ids listeners
      → t ≡ commits_if_left s (commit.Drop keys those) (each (λ l. error l status) listeners) → IsHeard s past response t
  fails : (why : WatchMember) → Refuses (calls_of past) response (fault.BadMessage why)
      → t ≡ refused (BadMessage stream.Watch (watch_member_name why)) → IsHeard s past response t

-- a message comes, if the stream is open
abbrev pub HeardTurn : State → Past → ListenResponse → Bool → Turn → Type 0
HeardTurn s past response true t = IsHeard s past response t
HeardTurn s past response false t = t ≡ refused (StreamState stream.Watch false)
