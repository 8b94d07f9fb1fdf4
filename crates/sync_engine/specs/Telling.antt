-- What a client hands out for an event.
use Rattle.std.specs.Prelude.{◌≡◌, ◌⊎◌, ◌↔◌, ℕ, ◌<◌, nat_eq, ℤ, Bool, true, if◌then◌else◌, List, [], ◌++◌, map as each, Option, Some, None, is_some, IfSome, IsSome, IsTrue}
use Rattle.std.specs.List.{AllPairs, AllZip, Contains, list_any, slice_get}
use Rattle.client_events.specs.declared.event.Event.{Event}
use Rattle.limbo_listens.specs.Listens.{Listens, limbo_at}
use Rattle.listeners.specs.Table.{KeepsTargets, Table, target_of, viewed}
use Rattle.local_store.specs.Documents.{document_of, documents_of, standing_of}
use Rattle.local_store.specs.Files.{Moves}
use Rattle.local_store.specs.State.{State}
use Rattle.host_api.specs.Host.{View}
use Rattle.views.specs.declared.raised.Raised.{Raised}
use Rattle.views.specs.Snapshot.{Lent}
use Rattle.views.specs.Viewed.{Viewed}
use Rattle.mutations.specs.declared.batch.Batch.{Batch}
use Rattle.record_codec.specs.declared.commit.Commit.{Commit}
use Rattle.mutations.specs.declared.results.WriteRequest.TheVariants.{Handshake}
use Rattle.write_pipeline.specs.Order.{Steps, latest_token}
use Rattle.write_pipeline.specs.Standing.{StandsFor as PipelineStandsFor}
use Rattle.client_turns.specs.Answers.{Answers}
use Rattle.client_turns.specs.Asking.{IsAddLine, IsListenLine, resets_by}
use Rattle.client_turns.specs.LimboListens.{without_all}
use Rattle.client_turns.specs.Lines.{Line, Told, wrote, listening, unlistened, document, result, rejected, error, snapshot, remove, send}
use Rattle.client_turns.specs.Past.{Turn, Past, told as told_of}
use Rattle.client_turns.specs.Settling.{Settles, ShowsAt, told_to}
use Rattle.sync_engine.specs.Standing.{Kept, IsQuiet, StandsAfter, StandsFor, limbo_in, stance_in}
use Rattle.client_turns.specs.Turn.{IsSettled, IsTurn, heard_then, is_heard}
use Rattle.client_turns.specs.Turns.{after}
use Rattle.client_turns.specs.Writing.{request_of}
use Rattle.value_model.specs.declared.message.StreamName.TheVariants as stream
use Rattle.sync_engine.specs.Stream.{IsClosed, is_newly_offline, resets_of}
use Rattle.client_turns.specs.declared.refusal.Refusal.TheVariants.{StreamState}
use Rattle.sync_engine.specs.declared.watch_stream.Due.TheVariants.{Nothing}
use Rattle.sync_engine.specs.declared.watch_stream.WatchStream.{WatchStream}
use Rattle.sync_engine.specs.declared.out.Out.{Out}
use Rattle.sync_engine.specs.declared.out.Out.TheVariants.{Wrote, Listening, Unlistened, Document, Result, Rejected, Error, Raised as RaisedBy, AddLimboTarget, AddTarget, RemoveTarget, SendHandshake, SendBatch}
use Rattle.sync_engine.specs.declared.out.Outcome.{Outcome}
use Rattle.sync_engine.specs.declared.out.Outcome.TheVariants.{Done, Refused}

-- the snapshot that the listener of an id raised last, as a line over the state
pub record IsRaised (client : Kept) (id : ℕ) (line : Line) : Type 0 where
  pub view : Viewed
  pub there : viewed client.listeners id ≡ Some view
  pub raised : Raised
  pub last : view.raised ≡ Some raised
  pub is : line ≡ snapshot client.store.state.number client.store.state.last_read (record { id = id; raised = raised })

-- the request with the pending batch at this place, and the latest token of the stream
pub record IsSent (client : Kept) (place : ℕ) (line : Line) : Type 0 where
  pub steps : Steps
  pub stands : PipelineStandsFor client.writes.pipeline steps
  pub batch : Batch
  pub there : slice_get client.store.state.batches place ≡ Some batch
  pub is : line ≡ request_of (latest_token steps) batch

-- what is handed out, as a line over what the client keeps
abbrev pub IsShown : Kept → Out → Line → Type 0
IsShown client (Wrote batch commit) line = line ≡ wrote batch commit
IsShown client (Listening id target commit) line = line ≡ listening id target commit
IsShown client (Unlistened id commit) line = line ≡ unlistened id commit
IsShown client (Document key) line =
    line ≡ document key (document_of client.store.state key) (standing_of client.store.state key)
IsShown client (Result batch commit time) line = line ≡ result batch commit time
IsShown client (Rejected batch commit status) line = line ≡ rejected batch commit status
IsShown client (Error id status) line = line ≡ error id status
IsShown client (RaisedBy id) line = IsRaised client id line
IsShown client (AddTarget t) line = IsAddLine client.store.state t line
IsShown client (AddLimboTarget t) line = IsListenLine client.limbo.limbo t line
IsShown client (RemoveTarget t) line = line ≡ remove t
IsShown client SendHandshake line = line ≡ send Handshake
IsShown client (SendBatch place) line = IsSent client place line

-- what was handed out is the turn's refusal, if it has one, and its lines
abbrev pub IsOutcome : Outcome → Kept → Turn → Type 0
IsOutcome (Done outs) client t = (t.refusal ≡ None) × AllZip (IsShown client) outs.items t.lines
IsOutcome (Refused refusal outs) client t = (t.refusal ≡ Some refusal) × AllZip (IsShown client) outs.items t.lines

-- The target is reset by the event just where the client keeps that it is to be removed and added again.
abbrev pub ResetsAsDue : Past → Event → Option Commit → Kept → Type 0
ResetsAsDue past event commit client =
    (t : ℤ) → (resets_by event commit past t ≡ true) ↔ Contains (resets_of client.watch.due) t

-- this is so where the event wasn't refused
abbrev pub IfDone : Outcome → Type 0 → Type 0
IfDone (Done outs) P = P
IfDone (Refused refusal outs) P = Unit {0}

-- this is so where the event was refused
abbrev pub IfRefused : Outcome → Type 0 → Type 0
IfRefused (Done outs) P = Unit {0}
IfRefused (Refused refusal outs) P = P

-- the event was handled, but for the listens of documents in limbo and the requests that go out: the client then stands for
-- what it has heard and for the state after it, and hands out the lines so far
pub record HandsSettled (s : State) (past : Past) (event : Event) (handed : Outcome) (client : Kept) : Type 0 where
  pub turn : Turn
  pub is_settled : IsSettled client.root s past event turn
  pub stands :
      StandsAfter client (after s turn.commit) (record { state = s; event = event; turn = turn }) past
      (is_heard turn.refusal)
  pub outcome : IsOutcome handed client turn
  pub idle : IfRefused handed (client.watch.due ≡ Nothing)
  pub resets : IfDone handed (ResetsAsDue past event turn.commit client)

-- the event has a turn: the client then stands for what it has heard and for the state after it, and hands out its lines
pub record HandsOut (s : State) (past : Past) (event : Event) (handed : Outcome) (client : Kept) : Type 0 where
  pub turn : Turn
  pub is_turn : IsTurn client.root s past event turn
  pub stands :
      StandsFor client (after s turn.commit)
      (heard_then (record { state = s; event = event; turn = turn }) past)
  pub outcome : IsOutcome handed client turn

-- it makes this one
abbrev pub Makes : State → Past → Event → Commit → Type 0
Makes s past event made = (answer : Turn) × Answers s past event answer × (answer.commit ≡ Some made)

-- the event makes a commit
pub record MakesOne (s : State) (past : Past) (event : Event) : Type 0 where
  pub made : Commit
  pub makes : Makes s past event made

-- a crash finds the state before the event, or the one after its commit, if it makes one
pub record MovesBy (s : State) (past : Past) (event : Event) (old new : View) : Type 0 where
  pub commit : Option Commit
  pub makes : IfSome commit (Makes s past event)
  pub moves : Moves s (after s commit) old new

-- the client keeps its database, its store, the listeners' targets, the listens of documents in limbo, its streams and whether
-- it is spent
pub record KeepsRest (old new : Kept) : Type 0 where
  pub root : new.root ≡ old.root
  pub store : new.store ≡ old.store
  pub targets : KeepsTargets old.listeners new.listeners
  pub limbo : new.limbo.limbo ≡ old.limbo.limbo
  pub watch : new.watch ≡ old.watch
  pub writes : new.writes ≡ old.writes
  pub spent : new.spent ≡ old.spent

-- Every listener has raised what it had to: these snapshots, in their order.
pub record Raises (old new : Kept) (before after_them : List Out) : Type 0 where
  pub told : List Told
  pub settles : Settles old.root old.store.state (stance_in old) (viewed old.listeners) told
  pub outs : after_them ≡ before ++ each (λ (t : Told). RaisedBy t.id) told
  pub listeners : (id : ℕ) → viewed new.listeners id ≡ told_of (told_to id told) (viewed old.listeners id)
  pub quiet : (id : ℕ)
      → IfSome (viewed new.listeners id) (IsQuiet old.root old.store.state (stance_in old id) (limbo_in new id))
  pub unshown : (id : ℕ) → viewed old.listeners id ≡ None → limbo_in new id ≡ limbo_in old id

-- each listener is quiet, or its id is among these
abbrev pub IsQuietOrAmong : List ℕ → Kept → Type 0
IsQuietOrAmong ids client = (id : ℕ) (view : Viewed) → viewed client.listeners id ≡ Some view
    → Contains ids id ⊎ IsQuiet client.root client.store.state (stance_in client id) (limbo_in client id) view

-- each listener is quiet, unless this is so
abbrev pub IsQuietOr : Bool → Kept → Type 0
IsQuietOr so client = (id : ℕ) (view : Viewed) → viewed client.listeners id ≡ Some view
    → (so ≡ true) ⊎ IsQuiet client.root client.store.state (stance_in client id) (limbo_in client id) view

-- the listener of an id was refreshed, if there is one, and no other changed
pub record ShowsOne (id : ℕ) (old new : Kept) (is_raised : Bool) : Type 0 where
  pub raised : Option Raised
  pub is : is_raised ≡ is_some raised
  pub shows : ShowsAt old.root old.store.state (stance_in old id) (viewed old.listeners id) raised
  pub same : viewed new.listeners id ≡ told_of raised (viewed old.listeners id)
  pub others : (q : ℕ) → (q ≡ id → ⊥) → viewed new.listeners q ≡ viewed old.listeners q
  pub quiet : IfSome (viewed new.listeners id) (IsQuiet old.root old.store.state (stance_in old id) (limbo_in new id))
  pub unshown : viewed old.listeners id ≡ None → limbo_in new id ≡ limbo_in old id
  pub same_limbo : (q : ℕ) → (q ≡ id → ⊥) → limbo_in new q ≡ limbo_in old q

-- the client keeps its database, its store, the listeners' targets, the listens of documents in limbo, the stream of writes and
-- whether it is spent
pub record KeepsButStream (old new : Kept) : Type 0 where
  pub root : new.root ≡ old.root
  pub store : new.store ≡ old.store
  pub targets : KeepsTargets old.listeners new.listeners
  pub limbo : new.limbo.limbo ≡ old.limbo.limbo
  pub writes : new.writes ≡ old.writes
  pub spent : new.spent ≡ old.spent

-- a client whose stream of listeners is this
abbrev pub with_watch : Kept → WatchStream → Kept
with_watch client watch = record {
  root = client.root;
  store = client.store;
  listeners = client.listeners;
  limbo = client.limbo;
  watch = watch;
  writes = client.writes;
  spent = client.spent;
}

-- The stream of listeners was closed, while a target was wanted or none. Where the client is offline from then on, each listener
-- has raised what it had to.
pub record Loses (old new : Kept) (before after_them : List Out) : Type 0 where
  pub wanted : Bool
  pub is_wanted : IsTrue wanted ↔ ((id : ℕ) × IsSome (target_of old.listeners id))
  pub lost : WatchStream
  pub closed : IsClosed wanted old.watch lost
  pub rest : KeepsRest (with_watch old lost) new
  pub raises : IsQuietOr (is_newly_offline old.watch.online lost.online) (with_watch old lost)
      → Raises (with_watch old lost) new before after_them

-- an event was refused, since the stream of listeners is open, or isn't
abbrev pub RefusesStream : Bool → Outcome → Type 0
RefusesStream is_open (Refused refusal outs) = (refusal ≡ StreamState stream.Watch is_open) × (outs.items ≡ [])
RefusesStream is_open (Done outs) = ⊥

-- the database, the listeners with what is in limbo, and the streams stay, and whether it is spent
pub record KeepsListeners (old new : Kept) : Type 0 where
  pub root : new.root ≡ old.root
  pub listeners : new.listeners ≡ old.listeners
  pub limbo : new.limbo ≡ old.limbo
  pub watch : new.watch ≡ old.watch
  pub writes : new.writes ≡ old.writes
  pub spent : new.spent ≡ old.spent

-- the snapshot that the listener raised last, over the documents of the store
pub record IsLent (client : Kept) (view : Viewed) (lent : Lent) : Type 0 where
  pub raised : view.raised ≡ Some lent.raised
  pub documents : lent.documents ≡ documents_of client.store.state

-- no snapshot is lent of one who is no listener, or has raised none
abbrev pub LendsOf : Kept → Option Viewed → Option Lent → Type 0
LendsOf client None lent = lent ≡ None
LendsOf client (Some view) None = view.raised ≡ None
LendsOf client (Some view) (Some lent) = IsLent client view lent

abbrev pub Lends : Kept → ℕ → Option Lent → Type 0
Lends client id lent = LendsOf client (viewed client.listeners id) lent

-- the client keeps all but its listeners
pub record KeepsStreams (old new : Kept) : Type 0 where
  pub root : new.root ≡ old.root
  pub store : new.store ≡ old.store
  pub limbo : new.limbo.limbo ≡ old.limbo.limbo
  pub watch : new.watch ≡ old.watch
  pub writes : new.writes ≡ old.writes
  pub spent : new.spent ≡ old.spent

-- the listeners of these ids ended, and no other changed
pub record RemovesAll (ids : List ℕ) (old new : Table) : Type 0 where
  pub views : (q : ℕ) → viewed new q ≡ (if list_any (nat_eq q) ids then None else viewed old q)
  pub targets : (q : ℕ) → target_of new q ≡ (if list_any (nat_eq q) ids then None else target_of old q)

-- the listeners of these ids have no document in limbo now
pub record ForgetsAll (ids : List ℕ) (old new : Listens) : Type 0 where
  pub keys : (q : ℕ) → limbo_at new q ≡ (if list_any (nat_eq q) ids then [] else limbo_at old q)
  pub limbo : new.limbo ≡ old.limbo

-- the listens of these ids run no longer
pub record RefusesAll (ids : List ℤ) (old new : Listens) : Type 0 where
  pub keys : (q : ℕ) → limbo_at new q ≡ limbo_at old q
  pub limbo : new.limbo ≡ record old.limbo { running = without_all ids old.limbo.running }

-- ascending, the listeners of the targets
pub record AreListenersIn (table : Table) (targets : List ℤ) (ids : List ℕ) : Type 0 where
  pub ascending : AllPairs (λ a b. a < b) ids
  pub each : (l : ℕ) → Contains ids l ↔ ((t : ℤ) × Contains targets t × (target_of table l ≡ Some t))
