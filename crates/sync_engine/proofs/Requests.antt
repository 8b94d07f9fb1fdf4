-- the requests behind an event's turn
use Rattle.std.proofs.Common.{◌≡◌, ℕ, ◌≤◌, ℤ, Bool, true, false, ◌&&◌, List, [], ◌∷◌, ◌++◌, length, Option, Some, None, if◌then◌else◌, IfSome, Vec, Global, refl, sym, ap, subst, ◌∙◌}
use Rattle.std.proofs.lemmas.List.{append-nil, append_assoc}
use Rattle.std.specs.List.{AllZip, slice_get}
use Rattle.document_keys.specs.Names.{Root}
use Rattle.client_events.specs.declared.event.Event.{Event}
use Rattle.listen_protocol.specs.Calls.{Calls}
use Rattle.listeners.specs.Table.{Table, target_of, viewed}
use Rattle.local_store.specs.State.{State}
use Rattle.local_store.specs.Store.{Store}
use Rattle.mutations.specs.declared.batch.Batch.{Batch}
use Rattle.views.specs.Viewed.{Viewed}
use Rattle.write_pipeline.specs.Order.{Steps, latest_token, outstanding}
use Rattle.write_pipeline.specs.Standing.{StandsFor as PipelineStandsFor}
use Rattle.local_store.specs.Documents.{document_of, standing_of}
use Rattle.limbo_listens.specs.Listens.{Listens, limbo_at}
use Rattle.limbo_resolver.specs.Limbo.{Key}
use Rattle.client_turns.specs.Asking.{AsksIf, IsAddLine, IsListenLine, resets_by}
use Rattle.client_turns.specs.LimboListens.{limbo_of}
use Rattle.client_turns.specs.Lines.{Line, document, snapshot}
use Rattle.client_turns.specs.Past.{Past, Turn, asked as asked_of, is_refused_in, listener, raised_in, sent_in, steps_by, steps_of, told, unless_refused}
use Rattle.client_turns.specs.Settling.{Stance, stance_of, HasTargetRow}
use Rattle.sync_engine.specs.Sending.{KeepsButPipeline, Sends, from_place}
use Rattle.client_turns.specs.Writing.{sent_times, request_of, requests, to_send}
use Rattle.sync_engine.specs.Standing.{ComesAs, IsQuiet, Kept, StandsAfter, StandsFor, StandsOn, Watches, limbo_in}
use Rattle.sync_engine.specs.Telling.{HandsOut, HandsSettled, IsShown}
use Rattle.client_turns.specs.Turn.{IsSettled, IsTurn, LimboBehind, answered_next, batches_behind, heard_then, is_heard, with_limbo, with_lines}
use Rattle.client_turns.specs.Watching.{begun_by, begun_in, is_watched, listened_by, listened_in, requested_by, requested_in}
use Rattle.client_turns.specs.Turns.{after}
use Rattle.sync_engine.specs.declared.out.Out.{Out}
use Rattle.sync_engine.specs.declared.out.Out.TheVariants.{Wrote, Listening, Unlistened, Document, Result, Rejected, Error, Raised as RaisedBy, AddLimboTarget, AddTarget, RemoveTarget, SendHandshake, SendBatch}
use Rattle.sync_engine.specs.declared.watch_stream.WatchStream.{WatchStream}
use Rattle.sync_engine.specs.declared.out.Outcome.TheVariants.{Done, Refused}
use Rattle.client_turns.specs.declared.refusal.Refusal.{Refusal}
use Rattle.sync_engine.proofs.Handing.{refused_behind}
use Rattle.client_turns.proofs.Requested.{zip_append}
use Rattle.client_turns.proofs.Reading.{fold_sent, stance_behind, targets_behind}
use Rattle.sync_engine.proofs.Passing.{watches_behind}
use Rattle.client_turns.proofs.Sent.{requests_sent, sent_open, sent_token}
use Rattle.sync_engine.proofs.Sent.{shown_sent, within}
use Rattle.client_turns.proofs.Steps.{sent_behind}
use Rattle.client_turns.proofs.Requests.{raised_no, refused_no, raised_before}

-- ---- what was shown before requests went out is shown behind them

shown_kept : (mid new : Kept) (count : ℕ) → KeepsButPipeline mid new → ComesAs mid.writes (λ h. PipelineStandsFor new.writes.pipeline (sent_times count h)) → (out : Out) (line : Line) → IsShown mid out line → IsShown new out line
shown_kept mid new count kept stands (Wrote batch commit) line is = is
shown_kept mid new count kept stands (Listening id target commit) line is = is
shown_kept mid new count kept stands (Unlistened id commit) line is = is
shown_kept mid new count kept stands (Document key) line is = subst (λ (x : Store). line ≡ document key (document_of x.state key) (standing_of x.state key)) (sym kept.store) is
shown_kept mid new count kept stands (Result batch commit time) line is = is
shown_kept mid new count kept stands (Rejected batch commit status) line is = is
shown_kept mid new count kept stands (RaisedBy id) line is = record {
  view = is.view;
  there = ap (λ (t : Table). viewed t id) kept.listeners ∙ is.there;
  raised = is.raised;
  last = is.last;
  is = is.is ∙ ap (λ (x : Store). snapshot x.state.number x.state.last_read (record { id = id; raised = is.raised })) (sym kept.store);
}
shown_kept mid new count kept stands (Error id status) line is = is
shown_kept mid new count kept stands (AddTarget t) line is = subst (λ (x : Store). IsAddLine x.state t line) (sym kept.store) is
shown_kept mid new count kept stands (AddLimboTarget t) line is = subst (λ (l : Listens). IsListenLine l.limbo t line) (sym kept.limbo) is
shown_kept mid new count kept stands (RemoveTarget t) line is = is
shown_kept mid new count kept stands SendHandshake line is = is
shown_kept mid new count kept stands (SendBatch place) line is = record {
  steps = sent_times count is.steps;
  stands = stands is.steps is.stands;
  batch = is.batch;
  there = ap (λ (x : Store). slice_get x.state.batches place) kept.store ∙ is.there;
  is = is.is ∙ ap (λ token. request_of token is.batch) (sym (sent_token count is.steps));
}

all_kept : (mid new : Kept) (count : ℕ) → KeepsButPipeline mid new → ComesAs mid.writes (λ h. PipelineStandsFor new.writes.pipeline (sent_times count h)) → (outs : List Out) (lines : List Line) → AllZip (IsShown mid) outs lines → AllZip (IsShown new) outs lines
all_kept mid new count kept stands [] [] all = tt
all_kept mid new count kept stands [] (line ∷ lines) all = absurd all
all_kept mid new count kept stands (out ∷ outs) [] all = absurd all
all_kept mid new count kept stands (out ∷ outs) (line ∷ lines) all = (shown_kept mid new count kept stands out line all.0, all_kept mid new count kept stands outs lines all.1)

-- ---- the turn of an event whose requests went out

-- what an event comes to that is heard, with the documents in limbo then and its requests on the stream of listeners
pub record HandsAsked (s : State) (past : Past) (e : Event) (settled : Turn) (outs : List Out) (client : Kept) : Type 0 where
  pub is_settled : IsSettled client.root s past e settled
  pub heard : is_heard settled.refusal ≡ true
  pub limbo : List Key
  pub in_limbo : LimboBehind client.root s past e settled true limbo
  pub asked : List Line
  pub asks :
      AsksIf (is_watched (answered_next s past e (with_limbo settled limbo))) (after s settled.commit)
      (answered_next s past e (with_limbo settled limbo)) (resets_by e settled.commit past) asked
  pub silent : (g : Steps) → sent_in (settled.lines ++ asked) g ≡ g
  pub stands : StandsFor client (after s settled.commit) (answered_next s past e (with_lines (with_limbo settled limbo) asked))
  pub shown : AllZip (IsShown client) outs (settled.lines ++ asked)

-- its turn, with these batches behind it
module _ (root : Root) (s : State) (past : Past) (e : Event) (settled : Turn) (outs : List Out) (client : Kept) (same : client.root ≡ root) (it : HandsAsked s past e settled outs client) where
  abbrev turn_with : List Line → Turn
  turn_with lines = record { refusal = settled.refusal; commit = settled.commit; lines = lines; limbo = it.limbo }

  pub is_turn_with : (more : List Line) → batches_behind s past e settled ≡ more → IsTurn root s past e (turn_with ((settled.lines ++ it.asked) ++ more))
  is_turn_with more batches = subst (λ (r : Root). IsTurn r s past e (turn_with ((settled.lines ++ it.asked) ++ more))) same (record {
    settled = settled;
    is_settled = it.is_settled;
    limbo = it.limbo;
    in_limbo = subst (λ (b : Bool). LimboBehind client.root s past e settled b it.limbo) (sym it.heard) it.in_limbo;
    asked = it.asked;
    asks = subst (λ (b : Bool). AsksIf (b && is_watched (answered_next s past e (with_limbo settled it.limbo))) (after s settled.commit) (answered_next s past e (with_limbo settled it.limbo)) (resets_by e settled.commit past) it.asked) (sym it.heard) it.asks;
    is = ap turn_with (append_assoc settled.lines it.asked more ∙ ap (λ (ls : List Line). settled.lines ++ (it.asked ++ ls)) (sym batches));
  })

  pub stands_then : {new : Kept} {turn : Turn} → turn.refusal ≡ settled.refusal → StandsFor new (after s settled.commit) (answered_next s past e turn) → StandsFor new (after s settled.commit) (heard_then (record { state = s; event = e; turn = turn }) past)
  stands_then {new} {turn} refusal stands = subst (λ (b : Bool). StandsFor new (after s settled.commit) (if b then answered_next s past e turn else past)) (sym (ap is_heard refusal ∙ it.heard)) stands

module _ (mid new : Kept) (s : State) (past : Past) (e : Event) (settled : Turn) (outs : List Out) (vec : Vec Out Global)
    (kept : KeepsButPipeline mid new) (sends : Sends mid new outs vec.items) (done : settled.refusal ≡ None) (it : HandsAsked s past e settled outs mid) where
  abbrev h : Steps
  h = steps_by e settled.refusal (steps_of past)

  abbrev later : State
  later = after s settled.commit

  abbrev batches : List Batch
  batches = later.batches

  abbrev lines : List Line
  lines = settled.lines ++ it.asked

  abbrev behind : List Line
  behind = requests h batches

  abbrev turn : Turn
  turn = with_lines (with_limbo settled it.limbo) it.asked

  on : StandsOn mid.writes h
  on = subst (StandsOn mid.writes) (it.silent h) it.stands.writes

  same_batches : mid.store.state.batches ≡ batches
  same_batches = ap (λ (t : State). t.batches) it.stands.state

  all : sends.count ≡ length (to_send h batches)
  all = sends.all h on.pipeline ∙ ap (λ bs. length (to_send h bs)) same_batches

  steps : sent_in (lines ++ behind) h ≡ sent_times sends.count h
  steps = sent_behind lines behind h ∙ ap (sent_in behind) (it.silent h) ∙ requests_sent (latest_token h) (to_send h batches) h ∙ ap (λ n. sent_times n h) (sym all)

  unsaid : (id : ℕ) → raised_in id (lines ++ behind) ≡ raised_in id lines
  unsaid id = raised_before id lines behind (raised_no id (latest_token h) (to_send h batches))

  unrefused : (id : ℕ) → is_refused_in id (lines ++ behind) ≡ is_refused_in id lines
  unrefused id = refused_behind id lines behind (refused_no id (latest_token h) (to_send h batches))

  same_listener : (id : ℕ) → listener id (answered_next s past e (with_lines turn behind)) ≡ listener id (answered_next s past e turn)
  same_listener id =
      ap (λ r. told r (unless_refused (is_refused_in id (lines ++ behind)) (asked_of id e (listener id past)))) (unsaid id)
      ∙ ap (λ b. told (raised_in id lines) (unless_refused b (asked_of id e (listener id past)))) (unrefused id)

  no_target : (id : ℕ) (was : Option ℤ) → listened_in id behind was ≡ was
  no_target id was = fold_sent (listened_by id) (λ b token x. refl) (latest_token h) (to_send h batches) was

  no_begin : (ids : List ℕ) → begun_in behind ids ≡ ids
  no_begin ids = fold_sent begun_by (λ b token x. refl) (latest_token h) (to_send h batches) ids

  no_request : (g : Calls) → requested_in behind g ≡ g
  no_request g = fold_sent requested_by (λ b token x. refl) (latest_token h) (to_send h batches) g

  limbo_same : (id : ℕ) → limbo_in mid id ≡ limbo_in new id
  limbo_same id = ap (λ (l : Listens). limbo_at l id) (sym kept.limbo)

  now : StandsFor new later (answered_next s past e (with_lines turn behind))
  now = record {
    state = ap (λ (x : Store). x.state) kept.store ∙ it.stands.state;
    listeners = λ id. ap (λ (t : Table). viewed t id) kept.listeners ∙ it.stands.listeners id ∙ sym (same_listener id);
    targets = λ id. ap (λ (t : Table). target_of t id) kept.listeners ∙ it.stands.targets id ∙ sym (targets_behind past s e turn behind no_target no_begin id);
    rows = λ id. subst (λ (o : Option ℤ). IfSome o (HasTargetRow later.rows)) (sym (targets_behind past s e turn behind no_target no_begin id)) (it.stands.rows id);
    quiet = λ id.
        subst (λ (ks : List Key). IfSome (listener id (answered_next s past e (with_lines turn behind))) (IsQuiet new.root later (stance_of (answered_next s past e (with_lines turn behind)) id) ks)) (limbo_same id)
        (subst (λ (k : Stance). IfSome (listener id (answered_next s past e (with_lines turn behind))) (IsQuiet new.root later k (limbo_in mid id))) (sym (stance_behind past s e turn behind no_target no_begin id))
        (subst (λ (v : Option Viewed). IfSome v (IsQuiet new.root later (stance_of (answered_next s past e turn) id) (limbo_in mid id))) (sym (same_listener id))
        (subst (λ (r : Root). IfSome (listener id (answered_next s past e turn)) (IsQuiet r later (stance_of (answered_next s past e turn) id) (limbo_in mid id))) (sym kept.root) (it.stands.quiet id))));
    unshown = λ id none. sym (limbo_same id) ∙ it.stands.unshown id (sym (same_listener id) ∙ none);
    limbo_is = ap (λ (l : Listens). l.limbo) kept.limbo ∙ it.stands.limbo_is;
    sound = it.stands.sound;
    watch = subst (λ (w : WatchStream). Watches w (answered_next s past e (with_lines turn behind)) (limbo_of (answered_next s past e turn))) (sym kept.watch) (watches_behind past s e turn behind no_target no_begin no_request it.stands.watch);
    writes = subst (StandsOn new.writes) (sym steps) (record { opening = kept.opening ∙ on.opening ∙ sym (sent_open sends.count h); pipeline = sends.stands h on.pipeline });
    pending = subst (λ (g : Steps). outstanding g ≤ length batches) (sym steps)
        (within h batches sends.count all (subst (λ (g : Steps). outstanding g ≤ length batches) (it.silent h) it.stands.pending));
  }

  all_batches : batches_behind s past e settled ≡ behind
  all_batches = ap (λ r. Rattle.client_turns.specs.Turn.unless_refused r behind) done

  pub hands_out : HandsOut s past e (Done vec) new
  hands_out = record {
    turn = with_lines turn behind;
    is_turn = is_turn_with new.root s past e settled outs mid (sym kept.root) it behind all_batches;
    stands = stands_then new.root s past e settled outs mid (sym kept.root) it {new = new} {turn = with_lines turn behind} refl now;
    outcome = (
      done,
      subst (λ (os : List Out). AllZip (IsShown new) os (lines ++ behind)) (sym (sends.outs h on.pipeline))
          (zip_append (IsShown new) outs lines (from_place (outstanding h) sends.count) behind
          (all_kept mid new sends.count kept sends.stands outs lines it.shown)
          (shown_sent new h batches sends.count (ap (λ (x : Store). x.state.batches) kept.store ∙ same_batches) all (sends.stands h on.pipeline))),
    );
  }

-- an event that is heard though it is refused sends no batch
pub hands_heard : {client : Kept} {s : State} {past : Past} {e : Event} {settled : Turn} {outs : Vec Out Global} (refusal : Refusal) → settled.refusal ≡ Some refusal → HandsAsked s past e settled outs.items client → HandsOut s past e (Refused refusal outs) client
hands_heard {client} {s} {past} {e} {settled} {outs} refusal is it = record {
  turn = whole [];
  is_turn = is_turn_with client.root s past e settled outs.items client refl it [] none;
  stands = stands_then client.root s past e settled outs.items client refl it {new = client} {turn = whole []} refl
      (subst (λ (ls : List Line). StandsFor client (after s settled.commit) (answered_next s past e (of_lines ls))) (sym (append-nil (settled.lines ++ it.asked))) it.stands);
  outcome = (is, subst (AllZip (IsShown client) outs.items) (sym (append-nil (settled.lines ++ it.asked))) it.shown);
}
  where
    of_lines : List Line → Turn
    of_lines lines = record { refusal = settled.refusal; commit = settled.commit; lines = lines; limbo = it.limbo }

    whole : List Line → Turn
    whole more = of_lines ((settled.lines ++ it.asked) ++ more)

    none : batches_behind s past e settled ≡ []
    none = ap (λ r. Rattle.client_turns.specs.Turn.unless_refused r (requests (steps_by e settled.refusal (steps_of past)) (after s settled.commit).batches)) is

-- an event that isn't heard asks and sends nothing
pub hands_unheard : {client : Kept} {s : State} {past : Past} {e : Event} {outs : Vec Out Global} (refusal : Refusal) → is_heard (Some refusal) ≡ false → HandsSettled s past e (Refused refusal outs) client → HandsOut s past e (Refused refusal outs) client
hands_unheard {client} {s} {past} {e} {outs} refusal unheard it = record {
  turn = with_limbo it.turn [];
  is_turn = record {
    settled = it.turn;
    is_settled = it.is_settled;
    limbo = [];
    in_limbo = subst (λ (b : Bool). LimboBehind client.root s past e it.turn b []) (sym not_heard) refl;
    asked = [];
    asks = subst (λ (b : Bool). AsksIf (b && is_watched (answered_next s past e (with_limbo it.turn []))) (after s it.turn.commit) (answered_next s past e (with_limbo it.turn [])) (resets_by e it.turn.commit past) []) (sym not_heard) refl;
    is = ap (λ (ls : List Line). record { refusal = it.turn.refusal; commit = it.turn.commit; lines = ls; limbo = [] }) (sym (append-nil it.turn.lines) ∙ ap (λ (ls : List Line). it.turn.lines ++ ls) (sym none));
  };
  stands = subst (λ (b : Bool). StandsFor client (after s it.turn.commit) (if b then answered_next s past e (with_limbo it.turn []) else past)) (sym not_heard)
      (subst (StandsAfter client (after s it.turn.commit) (record { state = s; event = e; turn = it.turn }) past) not_heard it.stands);
  outcome = it.outcome;
}
  where
    not_heard : is_heard it.turn.refusal ≡ false
    not_heard = ap is_heard it.outcome.0 ∙ unheard

    none : batches_behind s past e it.turn ≡ []
    none = ap (λ r. Rattle.client_turns.specs.Turn.unless_refused r (requests (steps_by e it.turn.refusal (steps_of past)) (after s it.turn.commit).batches)) it.outcome.0
