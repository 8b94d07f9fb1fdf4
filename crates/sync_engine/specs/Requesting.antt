-- How the requests on the stream of listeners are made.
use Rattle.std.specs.Prelude.{◌≡◌, ◌↔◌, ◌⊎◌, ◌<ℤ◌, ℤ, true, false, List, ◌++◌, map as each}
use Rattle.std.specs.List.{All, AllPairs, AllZip, Contains}
use Rattle.limbo_listens.specs.Listens.{Listens, Settles}
use Rattle.listen_protocol.specs.Calls.{Calls}
use Rattle.listen_protocol.specs.Transcript.{is_asked_in}
use Rattle.listeners.specs.Table.{IsWanted}
use Rattle.watch_aggregator.specs.Standing.{StandsFor as AggregatorStandsFor}
use Rattle.client_turns.specs.Asking.{IsAddLine, IsListenLine}
use Rattle.sync_engine.specs.declared.out.Out.{Out}
use Rattle.sync_engine.specs.declared.out.Out.TheVariants.{AddLimboTarget, AddTarget, RemoveTarget}
use Rattle.sync_engine.specs.declared.watch_stream.Due.{Due}
use Rattle.sync_engine.specs.declared.watch_stream.Due.TheVariants.{Nothing, One, Resets, All as due_all}
use Rattle.client_turns.specs.LimboListens.{is_running}
use Rattle.client_turns.specs.Lines.{Line, remove}
use Rattle.client_turns.specs.Settling.{HasTargetRow}
use Rattle.sync_engine.specs.Standing.{Kept}
use Rattle.sync_engine.specs.Stream.{resets_of}
use Rattle.client_turns.specs.Watching.{requested_in, unasked_all}

-- the client keeps all but what was requested on the stream of listeners
pub record KeepsButCalls (old new : Kept) : Type 0 where
  pub root : new.root ≡ old.root
  pub store : new.store ≡ old.store
  pub listeners : new.listeners ≡ old.listeners
  pub limbo : new.limbo ≡ old.limbo
  pub writes : new.writes ≡ old.writes
  pub spent : new.spent ≡ old.spent
  pub opening : new.watch.is_open ≡ old.watch.is_open
  pub online : new.watch.online ≡ old.watch.online
  pub current : new.watch.current ≡ old.watch.current

-- and the targets for which a request may be due
pub record KeepsDue (old new : Kept) : Type 0 where
  pub rest : KeepsButCalls old new
  pub due : new.watch.due ≡ old.watch.due

-- this holds of whatever the aggregator stands for
abbrev pub CallsAre : Kept → (Calls → Type 0) → Type 0
CallsAre client P = (h : Calls) → AggregatorStandsFor client.watch.aggregator h → P h

-- the target is wanted, or is the listen of a document in limbo
abbrev pub IsSought : Kept → ℤ → Type 0
IsSought client t = IsWanted client.listeners t ⊎ (is_running t client.limbo.limbo ≡ true)

-- the target is asked, and isn't sought any more or is reset
pub record IsToRemove (client : Kept) (resets : List ℤ) (h : Calls) (t : ℤ) : Type 0 where
  pub asking : is_asked_in t h ≡ true
  pub why : (IsSought client t → ⊥) ⊎ Contains resets t

-- the target is wanted, and isn't asked
pub record IsToAdd (client : Kept) (h : Calls) (t : ℤ) : Type 0 where
  pub wanted : IsWanted client.listeners t
  pub unasking : is_asked_in t h ≡ false

-- the listen of a document in limbo runs, and isn't asked
pub record IsListenToAdd (client : Kept) (h : Calls) (t : ℤ) : Type 0 where
  pub running : is_running t client.limbo.limbo ≡ true
  pub unasking : is_asked_in t h ≡ false

-- those of some ascending ids of which this holds
pub record Picked (P : ℤ → Type 0) (ids those : List ℤ) : Type 0 where
  pub ascending : AllPairs ◌<ℤ◌ those
  pub each : (t : ℤ) → Contains those t ↔ (Contains ids t × P t)

-- the removes went out
pub record Removes (old new : Kept) (targets : List ℤ) (before after : List Out) : Type 0 where
  pub outs : after ≡ before ++ each RemoveTarget targets
  pub calls : CallsAre old (λ h. AggregatorStandsFor new.watch.aggregator (unasked_all targets h))

-- the adds of targets went out, by these lines
pub record AddsBy (is_line : ℤ → Line → Type 0) (out : ℤ → Out) (old new : Kept) (targets : List ℤ) (before after : List Out) : Type 0 where
  pub lines : List Line
  pub are_lines : AllZip is_line targets lines
  pub outs : after ≡ before ++ each out targets
  pub calls : CallsAre old (λ h. AggregatorStandsFor new.watch.aggregator (requested_in lines h))

-- the adds of targets went out, as their rows stand
abbrev pub Adds : Kept → Kept → List ℤ → List Out → List Out → Type 0
Adds old new targets before after = AddsBy (IsAddLine old.store.state) AddTarget old new targets before after

-- the adds of listens of documents in limbo went out
abbrev pub AddsListens : Kept → Kept → List ℤ → List Out → List Out → Type 0
AddsListens old new targets before after = AddsBy (IsListenLine old.limbo.limbo) AddLimboTarget old new targets before after

-- each of the targets has a row
abbrev pub HaveTargetRows : Kept → List ℤ → Type 0
HaveTargetRows client targets = All (HasTargetRow client.store.state.rows) targets

-- each of the targets is wanted
abbrev pub AllWanted : Kept → List ℤ → Type 0
AllWanted client targets = All (IsWanted client.listeners) targets

-- under each of these ids the listen of a document in limbo runs
abbrev pub AllRun : Kept → List ℤ → Type 0
AllRun client targets = All (λ t. is_running t client.limbo.limbo ≡ true) targets

-- a request may be due for the target, by what the client keeps
abbrev pub IsDueIn : Kept → Due → ℤ → Type 0
IsDueIn client Nothing t = ⊥
IsDueIn client (One id) t = t ≡ id
IsDueIn client (Resets ids) t = Contains ids.items t
IsDueIn client due_all t = IsSought client t

-- ascending ids, those for which a request may be due, these among them
pub record AreDue (client : Kept) (due : Due) (changed ids : List ℤ) : Type 0 where
  pub ascending : AllPairs ◌<ℤ◌ ids
  pub each : (t : ℤ) → Contains ids t ↔ (IsDueIn client due t ⊎ Contains changed t)

-- The removes went out of those of the targets that are asked and not sought any more, or are reset, and then the adds of those
-- that are wanted and not asked, or were removed, and those of the listens of documents in limbo.
pub record Requests (old new : Kept) (targets resets : List ℤ) (before after : List Out) : Type 0 where
  pub removed : List ℤ
  pub added : List ℤ
  pub listens : List ℤ
  pub lines : List Line
  pub listen_lines : List Line
  pub are_removed : CallsAre old (λ h. Picked (IsToRemove old resets h) targets removed)
  pub are_added : CallsAre old (λ h. Picked (IsToAdd old (unasked_all removed h)) targets added)
  pub are_listens : CallsAre old (λ h. Picked (IsListenToAdd old (unasked_all removed h)) targets listens)
  pub are_lines : AllZip (IsAddLine old.store.state) added lines
  pub are_listen_lines : AllZip (IsListenLine old.limbo.limbo) listens listen_lines
  pub outs : after ≡ before ++ each RemoveTarget removed ++ each AddTarget added ++ each AddLimboTarget listens
  pub calls : CallsAre old
      (λ h. AggregatorStandsFor new.watch.aggregator (requested_in (each remove removed ++ lines ++ listen_lines) h))

-- the requests went out that were due, for the listens that changed too
pub record AsksFor (old new : Kept) (changed : List ℤ) (before after : List Out) : Type 0 where
  pub targets : List ℤ
  pub are_due : AreDue old old.watch.due changed targets
  pub requests : Requests old new targets (resets_of old.watch.due) before after

-- ---- the listens of documents in limbo, and then the requests

-- a client whose listens of documents in limbo are these
abbrev pub with_listens : Kept → Listens → Kept
with_listens client limbo = record {
  root = client.root;
  store = client.store;
  listeners = client.listeners;
  limbo = limbo;
  watch = client.watch;
  writes = client.writes;
  spent = client.spent;
}

-- the client keeps its database, its store, its listeners, the stream of writes and whether it is spent
pub record KeepsButRequests (old new : Kept) : Type 0 where
  pub root : new.root ≡ old.root
  pub store : new.store ≡ old.store
  pub listeners : new.listeners ≡ old.listeners
  pub writes : new.writes ≡ old.writes
  pub spent : new.spent ≡ old.spent

-- Just the documents in limbo have or await a listen, and then the requests went out that were due, if the stream is open.
pub record SettlesLimbo (old new : Kept) (before after : List Out) : Type 0 where
  pub limbo : Listens
  pub changed : List ℤ
  pub settles : Settles old.limbo limbo changed
  pub rest : KeepsButCalls (with_listens old limbo) new
  pub idle : new.watch.due ≡ Nothing
  pub closed : old.watch.is_open ≡ false → (new.watch.aggregator ≡ old.watch.aggregator) × (after ≡ before)
  pub asks : old.watch.is_open ≡ true
      → ((t : ℤ) → IsWanted old.listeners t → HasTargetRow old.store.state.rows t)
      → AsksFor (with_listens old limbo) new changed before after
