-- The premises of the laws can be met: a first sync.
use Rattle.std.specs.Prelude.{◌≡◌, ℕ, false, List, [], ◌∷◌, Option, Some}
use Rattle.std.specs.List.{Contains}
use Rattle.agreement.specs.Agrees.{IsTouched}
use Rattle.agreement.specs.Backend.{Key}
use Rattle.agreement.specs.History.{Write}
use Rattle.agreement.specs.Transcript.{Event}
use Rattle.document_keys.specs.Names.{Root}
use Rattle.durable_state.specs.Documents.{is_named}
use Rattle.durable_state.specs.State.{State, start}
use Rattle.client_turns.specs.Lines.{Told, snapshot}
use Rattle.client_turns.specs.Past.{Entry, Past, listener}
use Rattle.client_turns.specs.Turns.{after}
use Rattle.value_model.specs.declared.timestamp.Timestamp.{Timestamp}
use Rattle.views.specs.Row.{keys_of}
use Rattle.views.specs.Viewed.{Viewed}
use Rattle.client_agreement.specs.Durable.{client_of, setting_of}
use Rattle.client_agreement.specs.Laws.{IsHonestRun}

-- no unfinished write touches the key
abbrev pub IsUntouched : State → Key → Type 0
IsUntouched s key = IsTouched (is_named s) (client_of s) key → ⊥

-- An honest run of a client with an empty store, at a backend of which no tokens are known. Its last event
-- raises a snapshot that isn't from the cache, and shows a document that no unfinished write touches.
pub record SyncedRun : Type 0 where
  -- the backend: its writes, its database, and the time that each filter spoke of
  pub writes : List Write
  pub root : Root
  pub version : List Event → ℕ
  -- what was heard
  pub e : Entry
  pub past : Past
  pub honest : IsHonestRun (setting_of writes root []) root start version (e ∷ past)
  -- the snapshot
  pub number : ℕ
  pub read_time : Option Timestamp
  pub told : Told
  pub view : Viewed
  pub line : Contains e.turn.lines (snapshot number read_time told)
  pub synced : told.raised.from_cache ≡ false
  pub listening : listener told.id (e ∷ past) ≡ Some view
  -- the document
  pub key : Key
  pub shown : Contains (keys_of told.raised.rows) key
  pub untouched : IsUntouched (after e.state e.turn.commit) key
