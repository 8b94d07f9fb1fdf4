-- Which requests go out on the stream of listeners: those that make the asked targets the sought ones, which are the wanted ones
-- and the listens of documents in limbo.
use Rattle.std.specs.Prelude.{◌≡◌, ◌↔◌, ◌⊎◌, ◌<ℤ◌, ℤ, Bool, true, false, ◌&&◌, ◌||◌, List, [], ◌++◌, map as each, Option, Some}
use Rattle.std.specs.List.{AllPairs, AllZip, Contains, list_any}
use Rattle.client_events.specs.declared.event.Event.{Event}
use Rattle.client_events.specs.declared.event.Event.TheVariants as event
use Rattle.limbo_resolver.specs.Limbo.{Limbo, key_in}
use Rattle.durable_state.specs.Documents.{is_among}
use Rattle.listen_protocol.specs.Calls.{Key}
use Rattle.listen_protocol.specs.ToldKeys.{told_keys}
use Rattle.listen_protocol.specs.Transcript.{counts, is_asked_in}
use Rattle.durable_state.specs.State.{State}
use Rattle.queries.specs.declared.target.Target.TheVariants.{Document}
use Rattle.record_codec.specs.declared.commit.Commit.{Commit}
use Rattle.record_codec.specs.declared.commit.Commit.TheVariants.{Drop}
use Rattle.target_cache.specs.Cache.{IsRow, blank}
use Rattle.target_cache.specs.declared.row.Row.{Row}
use Rattle.client_turns.specs.LimboListens.{is_running, is_sought, limbo_of}
use Rattle.client_turns.specs.Lines.{Line, add, remove}
use Rattle.client_turns.specs.Past.{Past}
use Rattle.client_turns.specs.Watching.{calls_of, is_dropped_by, is_mismatch, is_wanted}

-- the listen of a document in limbo was told a key that the commit drops
abbrev pub is_told_dropped : Option Commit → Past → ℤ → Bool
is_told_dropped (Some (Drop keys ids)) past t =
    is_running t (limbo_of past)
    && (counts t (calls_of past) && list_any (is_among (told_keys t (calls_of past))) keys)
is_told_dropped _ past t = false

-- The event resets the target: it is a filter whose count isn't the number of told keys, or it drops keys and makes the target's row
-- blank, or the target is the listen of a document in limbo that was told one of these.
abbrev pub resets_by : Event → Option Commit → Past → ℤ → Bool
resets_by (event.Watch response) commit past t =
    is_mismatch (calls_of past) response t || (is_dropped_by commit t || is_told_dropped commit past t)
resets_by _ commit past t = false

-- a target is removed that is asked, and isn't sought any more or was reset
pub record IsRemoved (next : Past) (reset : ℤ → Bool) (t : ℤ) : Type 0 where
  pub asking : is_asked_in t (calls_of next) ≡ true
  pub why : (is_sought t next (limbo_of next) ≡ false) ⊎ (reset t ≡ true)

-- a target is added that is wanted, and isn't asked or was removed
pub record IsAdded (next : Past) (removed : List ℤ) (t : ℤ) : Type 0 where
  pub wanted : is_wanted t next ≡ true
  pub why : (is_asked_in t (calls_of next) ≡ false) ⊎ Contains removed t

-- the listen of a document in limbo is added that runs, and isn't asked or was removed
pub record IsListenAdded (next : Past) (removed : List ℤ) (t : ℤ) : Type 0 where
  pub running : is_running t (limbo_of next) ≡ true
  pub why : (is_asked_in t (calls_of next) ≡ false) ⊎ Contains removed t

-- ascending ids, which are just those of which this holds
pub record AreJust (P : ℤ → Type 0) (ids : List ℤ) : Type 0 where
  pub ascending : AllPairs ◌<ℤ◌ ids
  pub each : (t : ℤ) → Contains ids t ↔ P t

-- the request that adds a target, as its row stands
pub record IsAddLine (s : State) (t : ℤ) (line : Line) : Type 0 where
  pub row : Row
  pub of_id : IsRow s.rows t row
  pub is : line ≡ add t row

-- the request that adds the listen of a document in limbo: it goes on from nothing
pub record IsListenLine (limbo : Limbo) (t : ℤ) (line : Line) : Type 0 where
  pub key : Key
  pub of_id : key_in limbo.running t ≡ Some key
  pub is : line ≡ add t (blank (Document key))

-- the removes go out, then the adds of wanted targets, then those of the listens of documents in limbo
pub record Asks (s : State) (next : Past) (reset : ℤ → Bool) (lines : List Line) : Type 0 where
  pub removed : List ℤ
  pub added : List ℤ
  pub listens : List ℤ
  pub are_removed : AreJust (IsRemoved next reset) removed
  pub are_added : AreJust (IsAdded next removed) added
  pub are_listens : AreJust (IsListenAdded next removed) listens
  pub adds : List Line
  pub rows : AllZip (IsAddLine s) added adds
  pub listen_adds : List Line
  pub keys : AllZip (IsListenLine (limbo_of next)) listens listen_adds
  pub is : lines ≡ each remove removed ++ adds ++ listen_adds

-- nothing is requested where nothing may be
abbrev pub AsksIf : Bool → State → Past → (ℤ → Bool) → List Line → Type 0
AsksIf true s next reset lines = Asks s next reset lines
AsksIf false s next reset lines = lines ≡ []
