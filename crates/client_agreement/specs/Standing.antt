-- The theorem's client of a past: it stands for the state, and for what was heard.
use Rattle.std.specs.Prelude.{◌≡◌, List, [], ◌∷◌, Some, option_map, IfSome}
use Rattle.agreement.specs.Backend.{Id, Key, tick_of}
use Rattle.agreement.specs.Client.{Client}
use Rattle.agreement.specs.Entries as agreed
use Rattle.agreement.specs.MessageTurns.{has}
use Rattle.document_keys.specs.KeySet.{IsAscending}
use Rattle.client_events.specs.Spelled.{IsSpelledEvent}
use Rattle.listen_protocol.specs.Buffer.{buffered}
use Rattle.durable_state.specs.Documents.{sealed_entry_of}
use Rattle.durable_state.specs.State.{State}
use Rattle.client_turns.specs.Past.{Past}
use Rattle.client_turns.specs.Watching.{calls_of, current_keys}
use Rattle.target_cache.specs.Cache.{IsRow}
use Rattle.target_cache.specs.declared.row.Row.{Row}
use Rattle.value_model.specs.Time.{IsMoment}
use Rattle.value_model.specs.Versions.{version_of}
use Rattle.value_model.specs.declared.document.Entry.{Entry}
use Rattle.value_model.specs.declared.document.Seal.{Seal}
use Rattle.value_model.specs.declared.document.Seal.TheVariants.{Seen, Committed}
use Rattle.client_agreement.specs.Durable.{entry_at, entry_of, tuple_at}
use Rattle.client_agreement.specs.Transcript.{transcript}

-- an entry that a message makes
abbrev pub seen_entry : Entry → agreed.Entry
seen_entry entry = entry_of (entry, Seen)

-- Each part is that of the state, or read off what was heard. An id that has a row stands for the row's
-- query.
pub record StandsAs (c : Client) (s : State) (heard : Past) : Type 0 where
  pub entry : (key : Key) → c.entry key ≡ entry_at s key
  pub read : c.read ≡ tick_of s.last_read
  pub row : (id : Id) → c.row id ≡ tuple_at s.rows id
  pub target : (id : Id) (row : Row) → IsRow s.rows id row → c.target id ≡ row.target
  pub current : (id : Id) → c.current id ≡ option_map has (current_keys id heard)
  pub buffer : (key : Key) → c.buffer key ≡ option_map seen_entry (buffered key (calls_of heard))
  pub past : c.past ≡ transcript heard

-- a time of the years 1 to 9999, if there is one
abbrev pub IsMomentSeal : Seal → Type 0
IsMomentSeal Seen = Unit {0}
IsMomentSeal (Committed at) = IsMoment at

-- the times of what is known of documents, and the last read time, are moments of the years 1 to 9999
pub record HasMoments (s : State) : Type 0 where
  pub entries : (key : Key) (known : Entry × Seal) → sealed_entry_of s key ≡ Some known
      → IsMoment (version_of known.0) × IsMomentSeal known.1
  pub read : IfSome s.last_read IsMoment

-- what each event that was heard commits, or brings to a later commit, has a spelling
abbrev pub AreSpelled : Past → Type 0
AreSpelled [] = Unit {0}
AreSpelled (e ∷ past) = IsSpelledEvent e.event × AreSpelled past

-- the keys of what rows hold ascend
abbrev pub KeysAscend : List Row → Type 0
KeysAscend [] = Unit {0}
KeysAscend (row ∷ rows) = IfSome row.held (λ held. IsAscending held.keys) × KeysAscend rows

-- What each state is that commits lead to: its times are moments, and the keys of its rows ascend.
pub record IsWellMade (s : State) : Type 0 where
  pub moments : HasMoments s
  pub ascending : KeysAscend s.rows
