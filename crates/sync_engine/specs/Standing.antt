-- A client, as contracts see it, and what it stands for.
use Rattle.std.specs.Prelude.{◌≡◌, ◌⊎◌, ℕ, ◌≤◌, ℤ, List, [], ◌∷◌, length, Bool, true, false, Option, Some, None, IfSome, option_map, if◌then◌else◌, refl}
use Rattle.std.specs.Coded.{Coded, code_by, coded×, coded_bool, coded_list, coded_ℕ}
use Rattle.std.specs.List.{Contains}
use Rattle.std.specs.Ordering.{int_eq}
use Rattle.document_keys.specs.Names.{Root}
use Rattle.limbo_listens.specs.Listens.{Listens, limbo_at, listens_code}
use Rattle.limbo_resolver.specs.Laws.{IsSound}
use Rattle.limbo_resolver.specs.Limbo.{Key, Limbo}
use Rattle.listen_protocol.specs.Transcript.{is_asked_in}
use Rattle.listeners.specs.Laws.{IsSettled}
use Rattle.listeners.specs.Table.{Table, table_code, target_of, viewed}
use Rattle.local_store.specs.Documents.{documents_of, touched_keys_of}
use Rattle.local_store.specs.State.{State}
use Rattle.local_store.specs.Store.{IsSpent as IsStoreSpent, Store, store_code}
use Rattle.queries.specs.Answer.{IsAnswer}
use Rattle.views.specs.Limbo.{IsInLimbo}
use Rattle.views.specs.Picks.{Picks}
use Rattle.views.specs.Viewed.{Viewed}
use Rattle.views.specs.declared.standing.Standing.{Standing}
use Rattle.watch_aggregator.specs.Standing.{StandsFor as AggregatorStandsFor}
use Rattle.watch_points.specs.SpelledCalls.{AreSpelledCalls}
use Rattle.write_pipeline.specs.Order.{Steps, outstanding}
use Rattle.write_pipeline.specs.Standing.{StandsFor as PipelineStandsFor}
use Rattle.sync_engine.specs.contracts.write_stream.WriteStream as stream
use Rattle.sync_engine.specs.declared.write_stream.WriteStream.{WriteStream}
use Rattle.sync_engine.specs.contracts.watch_stream.WatchStream as watched
use Rattle.sync_engine.specs.declared.current.CurrentTarget.{CurrentTarget}
use Rattle.sync_engine.specs.declared.watch_stream.Due.{Due}
use Rattle.sync_engine.specs.declared.watch_stream.Due.TheVariants.{Nothing, One, Resets, All}
use Rattle.sync_engine.specs.declared.watch_stream.WatchStream.{WatchStream}
use Rattle.client_turns.specs.LimboListens.{going_on, is_sought, limbo_of}
use Rattle.client_turns.specs.Past.{Entry, Past, listener, steps_of}
use Rattle.client_turns.specs.Settling.{HasTargetRow, MayStart, Stance, current_with, stance_by, stance_of}
use Rattle.client_turns.specs.Watching.{calls_of, current_keys, is_watched, listened, online_of, step_of}
use Rattle.client_turns.specs.Writing.{is_open}

-- what a client keeps: its database, the store, its listeners, which of the documents that they show are in limbo, the stream
-- of listeners and that of writes, and whether it is spent
pub record Kept : Type 0 where
  pub root : Root
  pub store : Store
  pub listeners : Table
  pub limbo : Listens
  pub watch : WatchStream
  pub writes : WriteStream
  pub spent : Bool

-- a client is stored as its parts
abbrev pub kept_code : Coded Kept
kept_code = code_by (((List ℕ × List ℕ) × Store) × ((Table × Listens) × (WatchStream × (WriteStream × Bool))))
    (coded× (coded× (coded× (coded_list coded_ℕ) (coded_list coded_ℕ)) store_code)
    (coded× (coded× table_code listens_code) (coded× watched.the_row.coded (coded× stream.the_row.coded coded_bool))))
    (λ c. (((c.root.project, c.root.name), c.store), ((c.listeners, c.limbo), (c.watch, (c.writes, c.spent)))))
    (λ p. record {
      root = record { project = p.0.0.0; name = p.0.0.1 };
      store = p.0.1;
      listeners = p.1.0.0;
      limbo = p.1.0.1;
      watch = p.1.1.0;
      writes = p.1.1.1.0;
      spent = p.1.1.1.1;
    }) (λ _. refl)

-- an event met a fault, and every later one is answered so
abbrev pub IsSpent : Kept → Type 0
IsSpent client = client.spent ≡ true

-- between events its store met no fault, and no request is due
pub record IsAtRest (client : Kept) : Type 0 where
  pub store : ¬ (IsStoreSpent client.store)
  pub idle : client.watch.due ≡ Nothing

-- it met no fault yet, and its store didn't either
pub record IsLive (client : Kept) : Type 0 where
  pub whole : ¬ (IsSpent client)
  pub store : ¬ (IsStoreSpent client.store)

-- just these of the documents that the listener shows are in limbo, in the order of its answer
pub record HasLimbo (root : Root) (s : State) (standing : Standing) (limbo : List Key) (view : Viewed) : Type 0 where
  pub answer : List Key
  pub is_answer : IsAnswer view.target root (documents_of s) answer
  pub picks : Picks (IsInLimbo standing (touched_keys_of s)) answer limbo

-- a refresh of the listener over the documents of the state would raise nothing, and these of its documents are in limbo
pub record IsQuiet (root : Root) (s : State) (stance : Stance) (limbo : List Key) (view : Viewed) : Type 0 where
  pub may_start : Bool
  pub start : MayStart s stance may_start
  pub settled : IsSettled root (documents_of s) (touched_keys_of s) stance.standing may_start view
  pub in_limbo : HasLimbo root s stance.standing limbo view

-- a stream of writes stands for what was done on it
pub record StandsOn (writes : WriteStream) (h : Steps) : Type 0 where
  pub opening : writes.is_open ≡ is_open h
  pub pipeline : PipelineStandsFor writes.pipeline h

-- what stood for steps stands then for what is made of them
abbrev pub GoesOn : WriteStream → WriteStream → (Steps → Steps) → Type 0
GoesOn old new more = (h : Steps) → StandsOn old h → StandsOn new (more h)

-- this holds of whatever the stream's pipeline stands for
abbrev pub ComesAs : WriteStream → (Steps → Type 0) → Type 0
ComesAs writes P = (h : Steps) → PipelineStandsFor writes.pipeline h → P h

-- how a target stands that the client keeps as current
abbrev pub standing_in : List CurrentTarget → ℤ → Option Standing
standing_in [] t = None
standing_in (target ∷ targets) t = if int_eq target.id t then Some target.standing else standing_in targets t

-- how the target of a listener stands, by what the client keeps
abbrev pub stance_in : Kept → ℕ → Stance
stance_in client id =
    stance_by (target_of client.listeners id) (standing_in client.watch.current.targets.items) client.watch.online

-- a request may be due for the target, where these are the listens of documents in limbo
abbrev pub IsDue : Past → Limbo → Due → ℤ → Type 0
IsDue past limbo Nothing t = ⊥
IsDue past limbo (One id) t = t ≡ id
IsDue past limbo (Resets ids) t = Contains ids.items t
IsDue past limbo All t = is_sought t past limbo ≡ true

-- A stream of listeners stands for what was heard: whether it is open, what was done on it, the online state, and which targets
-- are current. What came on it has a spelling; and while it is open just the sought targets are asked, but where a request is
-- due.
pub record Watches (watch : WatchStream) (past : Past) (limbo : Limbo) : Type 0 where
  pub opening : watch.is_open ≡ is_watched past
  pub calls : AggregatorStandsFor watch.aggregator (calls_of past)
  pub online : watch.online ≡ online_of past
  pub current : (t : ℤ)
      → standing_in watch.current.targets.items t ≡ option_map current_with (current_keys t past)
  pub spelled : AreSpelledCalls (calls_of past)
  pub due : is_watched past ≡ true
      → (t : ℤ) → IsDue past limbo watch.due t ⊎ (is_asked_in t (calls_of past) ≡ is_sought t past limbo)

-- the keys in limbo of the listener of an id, by what the client keeps
abbrev pub limbo_in : Kept → ℕ → List Key
limbo_in client id = limbo_at client.limbo id

-- The client stands for this state, for these events, which it has heard, and for these listens of documents in limbo. Each
-- thing that it keeps beside the state is a field here, read off the events; every listener has raised what it had to, and its
-- target has a row; who is no listener has no document in limbo; and each batch that is outstanding is pending.
pub record StandsWith (client : Kept) (s : State) (past : Past) (limbo : Limbo) : Type 0 where
  pub state : client.store.state ≡ s
  pub listeners : (id : ℕ) → viewed client.listeners id ≡ listener id past
  pub targets : (id : ℕ) → target_of client.listeners id ≡ listened id past
  pub rows : (id : ℕ) → IfSome (listened id past) (HasTargetRow s.rows)
  pub quiet : (id : ℕ) → IfSome (listener id past) (IsQuiet client.root s (stance_of past id) (limbo_in client id))
  pub unshown : (id : ℕ) → listener id past ≡ None → limbo_in client id ≡ []
  pub limbo_is : client.limbo.limbo ≡ limbo
  pub sound : IsSound limbo
  pub watch : Watches client.watch past limbo
  pub writes : StandsOn client.writes (steps_of past)
  pub pending : outstanding (steps_of past) ≤ length s.batches

-- the client stands for a state and what it has heard
abbrev pub StandsFor : Kept → State → Past → Type 0
StandsFor client s past = StandsWith client s past (limbo_of past)

-- the client stands for an event more, if it was heard, but the documents in limbo weren't looked at since
abbrev pub StandsAfter : Kept → State → Entry → Past → Bool → Type 0
StandsAfter client s entry past true =
    StandsWith client s (entry ∷ past) (going_on (calls_of past) (step_of entry) (limbo_of past))
StandsAfter client s entry past false = StandsFor client s past

-- the client stands for something
abbrev pub IsStanding : Kept → Type 0
IsStanding client = (s : State) × ((past : Past) × StandsFor client s past)
