-- what is handed out for what comes on the stream of writes
use Rattle.std.proofs.Common.{◌≡◌, ⊎_elim, inl, inr, ℕ, ℤ, ◌+◌, ◌≤◌, ◌<◌, Bool, true, false, List, [], ◌∷◌, length, Option, Some, None, if◌then◌else◌, IfSome, Vec, Global, refl, sym, ap, subst, ◌∙◌, arith}
use Rattle.std.proofs.lemmas.Bool.{lt-ltb, le-ltb}
use Rattle.std.proofs.lemmas.Option.{none-some}
use Rattle.std.specs.List.{AllZip, Contains, slice_get}
use Rattle.client_events.specs.declared.event.Event.{Event}
use Rattle.client_events.specs.declared.event.Event.TheVariants as event
use Rattle.durable_state.specs.Cached.{first_writes}
use Rattle.host_api.specs.Host.{View}
use Rattle.limbo_resolver.specs.Limbo.{Key}
use Rattle.listeners.specs.Table.{Table, viewed}
use Rattle.local_store.specs.Files.{Moves}
use Rattle.durable_state.specs.State.{IsAnswered}
use Rattle.local_store.specs.State.{Fits as FitsState, State, committed, most_commits}
use Rattle.local_store.specs.Store.{Store}
use Rattle.mutations.specs.Written.{written_key}
use Rattle.mutations.specs.declared.batch.Batch.{Batch}
use Rattle.mutations.specs.declared.results.WriteRequest.TheVariants.{Handshake as the_first}
use Rattle.mutations.specs.declared.results.WriteResponse.{WriteResponse}
use Rattle.mutations.specs.declared.results.WriteResult.{WriteResult}
use Rattle.mutations.specs.declared.write.Write.{Write}
use Rattle.record_codec.specs.declared.commit.Commit.{Commit}
use Rattle.record_codec.specs.declared.commit.Commit.TheVariants.{Acknowledge, Reject}
use Rattle.value_model.specs.declared.document.RpcStatus.{RpcStatus}
use Rattle.value_model.specs.declared.message.StreamName.{StreamName}
use Rattle.value_model.specs.declared.message.StreamName.TheVariants as stream
use Rattle.value_model.specs.Time.{IsMoment}
use Rattle.value_model.specs.declared.timestamp.Timestamp.{Timestamp}
use Rattle.views.specs.Viewed.{Viewed}
use Rattle.write_pipeline.specs.Order.{Steps, acknowledged, closed, is_ready, kept, opened, outstanding, shaken}
use Rattle.write_pipeline.specs.Standing.{Fails, Fits, HasTransforms, closing_of}
use Rattle.write_pipeline.specs.declared.answer.Answer.TheVariants.{Handshake, Acknowledges}
use Rattle.write_pipeline.specs.declared.answer.Closing.{Closing}
use Rattle.write_pipeline.specs.declared.answer.Closing.TheVariants.{Kept as KeepsAll, Rejects}
use Rattle.write_pipeline.specs.declared.answer.WriteMember.{WriteMember}
use Rattle.client_turns.specs.Answers.{Answers}
use Rattle.sync_engine.specs.Concerned.{AreConcerned}
use Rattle.client_turns.specs.Lines.{rejected, result, send}
use Rattle.client_turns.specs.Past.{Past, Turn, steps_by, steps_of}
use Rattle.client_turns.specs.Settling.{Stance}
use Rattle.sync_engine.specs.Standing.{Kept, IsQuiet, GoesOn, StandsFor, StandsOn, limbo_in, stance_in}
use Rattle.sync_engine.specs.Telling.{HandsSettled, IsQuietOrAmong, IsShown, KeepsRest, MakesOne, MovesBy, Raises}
use Rattle.client_turns.specs.Turn.{answered_next, is_heard}
use Rattle.client_turns.specs.Turns.{after, answered, commits, refused}
use Rattle.client_turns.specs.Writing.{IsWritten, WrittenTurn, acknowledges, bad_turn, closed_turn, closes, fails, first_batch, is_open, member_name, opened_turn, rejects, settles, shakes}
use Rattle.sync_engine.specs.declared.out.Out.{Out}
use Rattle.sync_engine.specs.declared.out.Out.TheVariants.{Rejected, Result, SendHandshake}
use Rattle.sync_engine.specs.declared.out.Outcome.TheVariants.{Done, Refused}
use Rattle.client_turns.specs.declared.refusal.Refusal.{Refusal}
use Rattle.client_turns.specs.declared.refusal.Refusal.TheVariants.{BadMessage, IdsSpent, StreamState}
use Rattle.sync_engine.specs.declared.watch_stream.Due.TheVariants.{Nothing}
use Rattle.sync_engine.specs.declared.write_stream.WriteStream.{WriteStream}
use Rattle.sync_engine.proofs.Committed.{makes_by, moves_by}
use Rattle.sync_engine.proofs.Following.{AreQuiet, IsPlain, are_quiet, follows_plain, quiet_kept}
use Rattle.sync_engine.proofs.Handing.{Handed, as_done, as_refused, handed, keeps_all, no_reset, raises_none}
use Rattle.client_turns.specs.Asking.{resets_by}
use Rattle.sync_engine.specs.Stream.{resets_of}
use Rattle.sync_engine.specs.declared.watch_stream.WatchStream.{WatchStream}
use Rattle.sync_engine.proofs.Quiet.{quiet_acknowledged, quiet_rejected}
use Rattle.client_turns.proofs.Steps.{few_by}
use Rattle.sync_engine.proofs.Turning.{among_or_not}

-- ---- nothing but the stream of writes changes

-- the client keeps all but its stream of writes
pub record KeepsButWrites (old new : Kept) : Type 0 where
  pub root : new.root ≡ old.root
  pub store : new.store ≡ old.store
  pub listeners : new.listeners ≡ old.listeners
  pub limbo : new.limbo ≡ old.limbo
  pub watch : new.watch ≡ old.watch

still_quiet : {old new : Kept} → KeepsButWrites old new → AreQuiet old → AreQuiet new
still_quiet {old} {new} rest quiet id view there =
    quiet_kept old new old.store.state id view rest.root (ap (λ (x : Store). x.state) rest.store) rest.listeners rest.limbo rest.watch
    (quiet id view (ap (λ (t : Table). viewed t id) (sym rest.listeners) ∙ there))

-- an event that is none of the stream's of listeners, by which no listener begins or ends, and that makes no commit
pub record IsOfWrites (s : State) (past : Past) (e : Event) (answer : Turn) : Type 0 where
  pub is_plain : IsPlain s past e answer
  pub unmade : answer.commit ≡ None

hands_of_writes : {old new : Kept} {s : State} {past : Past} {outs : List Out} (e : Event) (answer : Turn) → is_heard answer.refusal ≡ true → StandsFor old s past → KeepsButWrites old new → IsOfWrites s past e answer
    → StandsOn new.writes (steps_of (answered_next s past e answer)) → outstanding (steps_of (answered_next s past e answer)) ≤ length (after s answer.commit).batches → Answers s past e answer → AllZip (IsShown new) outs answer.lines → Handed s past e answer outs new
hands_of_writes {old} {new} {s} {past} {outs} e answer heard stands rest such writes pending answers shown =
    handed s past e answer new new outs outs answers heard
    (follows_plain new e answer stands such.is_plain
    (ap (λ (x : Store). x.state) rest.store ∙ stands.state ∙ ap (after s) (sym such.unmade)) rest.listeners rest.limbo rest.watch (ap (λ (c : Option Commit). (after s c).rows) such.unmade) writes pending)
    keeps_all (raises_none outs (still_quiet rest (are_quiet stands))) such.is_plain.unraised shown

-- a bad message closes the stream
pub hands_closed : {old new : Kept} {s : State} {past : Past} {vec : Vec Out Global} (e : Event) (refusal : Refusal) → is_heard (Some refusal) ≡ true → new.watch.due ≡ Nothing → StandsFor old s past → KeepsButWrites old new → IsOfWrites s past e (refused refusal)
    → StandsOn new.writes (steps_by e (Some refusal) (steps_of past)) → Answers s past e (refused refusal) → vec.items ≡ [] → HandsSettled s past e (Refused refusal vec) new
hands_closed {old} {new} {s} {past} {vec} e refusal heard idle stands rest such writes answers none =
    as_refused refusal refl heard idle
    (hands_of_writes {outs = vec.items} e (refused refusal) heard stands rest such writes (few_by s past e (refused refusal) answers stands.pending) answers (subst (λ (os : List Out). AllZip (IsShown new) os []) (sym none) tt))

-- the stream is opened by the first request
pub hands_opened : {old new : Kept} {s : State} {past : Past} {vec : Vec Out Global} → old.watch.due ≡ Nothing → StandsFor old s past → KeepsButWrites old new → StandsOn new.writes (opened ∷ steps_of past) → Answers s past (event.Opened stream.Write) (answered (send the_first ∷ []))
    → vec.items ≡ SendHandshake ∷ [] → HandsSettled s past (event.Opened stream.Write) (Done vec) new
hands_opened {old} {new} {s} {past} {vec} idle stands rest writes answers is =
    as_done refl (no_reset past (event.Opened stream.Write) None new (λ t. refl) (ap resets_of (ap (λ (w : WatchStream). w.due) rest.watch ∙ idle)))
    (hands_of_writes {outs = vec.items} (event.Opened stream.Write) (answered (send the_first ∷ [])) refl stands rest
    (record { is_plain = record { step = refl; plain = λ id. refl; targets = λ id. refl; began = refl; unrequested = λ h. refl; unraised = λ id. refl }; unmade = refl })
    writes (omega arith) answers (subst (λ (os : List Out). AllZip (IsShown new) os (send the_first ∷ [])) (sym is) (refl, tt)))

-- nothing is handed out
pub hands_nothing : {old new : Kept} {s : State} {past : Past} {vec : Vec Out Global} (e : Event) → ((t : ℤ) → resets_by e None past t ≡ false) → old.watch.due ≡ Nothing → StandsFor old s past → KeepsButWrites old new → IsOfWrites s past e (answered []) → StandsOn new.writes (steps_by e None (steps_of past)) → Answers s past e (answered [])
    → vec.items ≡ [] → HandsSettled s past e (Done vec) new
hands_nothing {old} {new} {s} {past} {vec} e never idle stands rest such writes answers is =
    as_done refl (no_reset past e None new never (ap resets_of (ap (λ (w : WatchStream). w.due) rest.watch ∙ idle)))
    (hands_of_writes {outs = vec.items} e (answered []) refl stands rest such writes (few_by s past e (answered []) answers stands.pending) answers (subst (λ (os : List Out). AllZip (IsShown new) os []) (sym is) tt))

-- ---- what the events come to

module _ {client : Kept} {s : State} {past : Past} (stands : StandsFor client s past) where
  open_is : (b : Bool) → client.writes.is_open ≡ b → is_open (steps_of past) ≡ b
  open_is b is = sym stands.writes.opening ∙ is

  pub opened_twice : client.writes.is_open ≡ true → Answers s past (event.Opened stream.Write) (refused (StreamState stream.Write true))
  opened_twice is = sym (ap (opened_turn stream.Write) (open_is true is))

  pub opened_now : client.writes.is_open ≡ false → Answers s past (event.Opened stream.Write) (answered (send the_first ∷ []))
  opened_now is = sym (ap (opened_turn stream.Write) (open_is false is))

  pub bad_unopened : (member : List ℕ) → client.writes.is_open ≡ false → Answers s past (event.BadMessage stream.Write member) (refused (StreamState stream.Write false))
  bad_unopened member is = sym (ap (bad_turn stream.Write member) (open_is false is))

  pub bad_now : (member : List ℕ) → client.writes.is_open ≡ true → Answers s past (event.BadMessage stream.Write member) (refused (BadMessage stream.Write member))
  bad_now member is = sym (ap (bad_turn stream.Write member) (open_is true is))

  pub closed_unopened : (status : RpcStatus) → client.writes.is_open ≡ false → Answers s past (event.Closed stream.Write status) (refused (StreamState stream.Write false))
  closed_unopened status is = sym (ap (closed_turn s (steps_of past) stream.Write status) (open_is false is))

  closed_as : (status : RpcStatus) (closing : Closing) → client.writes.is_open ≡ true → closing_of (steps_of past) status.code ≡ closing → closes s status closing ≡ closed_turn s (steps_of past) stream.Write status (is_open (steps_of past))
  closed_as status closing is such = ap (closes s status) (sym such) ∙ sym (ap (closed_turn s (steps_of past) stream.Write status) (open_is true is))

  pub closed_kept : (status : RpcStatus) → client.writes.is_open ≡ true → closing_of (steps_of past) status.code ≡ KeepsAll → Answers s past (event.Closed stream.Write status) (answered [])
  closed_kept status is such = closed_as status KeepsAll is such

  pub closed_rejects : (status : RpcStatus) → client.writes.is_open ≡ true → closing_of (steps_of past) status.code ≡ Rejects → Answers s past (event.Closed stream.Write status) (rejects s (first_batch s) status)
  closed_rejects status is such = closed_as status Rejects is such

  pub written_unopened : (response : WriteResponse) → client.writes.is_open ≡ false → Answers s past (event.Written response) (refused (StreamState stream.Write false))
  written_unopened response is = subst (λ (b : Bool). WrittenTurn s (steps_of past) response b (refused (StreamState stream.Write false))) (sym (open_is false is)) refl

  pub written_as : (response : WriteResponse) (t : Turn) → client.writes.is_open ≡ true → IsWritten s (steps_of past) response t → Answers s past (event.Written response) t
  written_as response t is it = subst (λ (b : Bool). WrittenTurn s (steps_of past) response b t) (sym (open_is true is)) it

-- ---- the handshake, and a message that doesn't fit

pub shaken_stands : {writes : WriteStream} {h : Steps} {token : List ℕ} → is_ready h ≡ false → StandsOn writes (kept token ∷ shaken ∷ h) → StandsOn writes (kept token ∷ (if is_ready h then acknowledged else shaken) ∷ h)
shaken_stands {writes} {h} {token} not stands = subst (λ (b : Bool). StandsOn writes (kept token ∷ (if b then acknowledged else shaken) ∷ h)) (sym not) stands

-- what holds of the state that the client keeps holds of the one that it stands for
module _ {client : Kept} {s : State} {past : Past} (stands : StandsFor client s past) where
  first_same : first_batch client.store.state ≡ first_batch s
  first_same = ap first_batch stands.state

  pub shaken_is : {response : WriteResponse} → Fits (steps_of past) (first_batch client.store.state) response Handshake → IsWritten s (steps_of past) response (answered [])
  shaken_is {response} fits = shakes (subst (λ (b : Option Batch). Fits (steps_of past) b response Handshake) first_same fits) refl

  unfit_so : {response : WriteResponse} (member : WriteMember) → Fails (steps_of past) (first_batch client.store.state) response member → IsWritten s (steps_of past) response (refused (BadMessage stream.Write (member_name member)))
  unfit_so {response} member not = fails member (subst (λ (b : Option Batch). Fails (steps_of past) b response member) first_same not) refl

pub unfit_is : {client : Kept} {s : State} {past : Past} {response : WriteResponse} {text : List ℕ} (member : WriteMember) → text ≡ member_name member → StandsFor client s past → Fails (steps_of past) (first_batch client.store.state) response member → IsWritten s (steps_of past) response (refused (BadMessage stream.Write text))
unfit_is {client} {s} {past} {response} {text} member is stands not = subst (λ (t : List ℕ). IsWritten s (steps_of past) response (refused (BadMessage stream.Write t))) (sym is) (unfit_so stands member not)

-- ---- the first batch leaves

first_is : (bs : List Batch) (batch : Batch) → slice_get bs 0 ≡ Some batch → first_writes bs ≡ batch.writes
first_is [] batch is = absurd (none-some batch is)
first_is (b ∷ bs) batch is = ap (λ (x : Batch). x.writes) (some_one b batch is)
  where
    some_one : (x y : Batch) → Some x ≡ Some y → x ≡ y
    some_one x y same = cc

-- the listeners that no write of it concerns stay quiet
quiet_or_first : {old : Kept} (mid : Kept) {past : Past} (batch : Batch) (ids : List ℕ) (commit : Commit) → StandsFor old old.store.state past → AreConcerned old.listeners batch.writes ids → first_batch old.store.state ≡ Some batch → mid.root ≡ old.root → mid.listeners ≡ old.listeners → mid.limbo ≡ old.limbo → mid.watch ≡ old.watch
    → mid.store.state ≡ committed old.store.state commit
    → ((stance : Stance) (limbo : List Key) (view : Viewed) → ((write : Write) → Contains (first_writes old.store.state.batches) write → Rattle.listeners.specs.Concerns.Concerns view.target (written_key write) → ⊥) → IsQuiet old.root old.store.state stance limbo view → IsQuiet old.root (committed old.store.state commit) stance limbo view)
    → IsQuietOrAmong ids mid
quiet_or_first {old} mid batch ids commit stands concerned first root listeners limbo watch state stays id view there = ⊎_elim inl (λ never. inr (quiet never)) (among_or_not ids id)
  where
    was : viewed old.listeners id ≡ Some view
    was = ap (λ (t : Table). viewed t id) (sym listeners) ∙ there

    writes : first_writes old.store.state.batches ≡ batch.writes
    writes = first_is old.store.state.batches batch first

    quiet : (Contains ids id → ⊥) → IsQuiet mid.root mid.store.state (stance_in mid id) (limbo_in mid id) view
    quiet never =
        quiet_kept old mid (committed old.store.state commit) id view root state listeners limbo watch
        (stays (stance_in old id) (limbo_in old id) view
        (λ write one concerns. never (concerned.each id (record { write = write; one = subst (λ (ws : List Write). Contains ws write) writes one; concerned = record { view = view; there = was; concerns = concerns } })))
        (are_quiet stands id view was))

pub rejects_is : (s : State) (batch : Batch) (status : RpcStatus) → s.number < most_commits → first_batch s ≡ Some batch → rejects s (first_batch s) status ≡ commits (Reject batch.id) (rejected batch.id (s.number + 1) status ∷ [])
rejects_is s batch status few first = ap (λ (b : Option Batch). rejects s b status) first ∙ ap (λ b. if b then commits (Reject batch.id) (rejected batch.id (s.number + 1) status ∷ []) else refused IdsSpent) (lt-ltb s.number most_commits few)

pub rejects_not : (s : State) (batch : Batch) (status : RpcStatus) → most_commits ≤ s.number → first_batch s ≡ Some batch → rejects s (first_batch s) status ≡ refused IdsSpent
rejects_not s batch status many first = ap (λ (b : Option Batch). rejects s b status) first ∙ ap (λ b. if b then commits (Reject batch.id) (rejected batch.id (s.number + 1) status ∷ []) else refused IdsSpent) (le-ltb s.number most_commits many)

pub rejects_none : (s : State) (status : RpcStatus) → first_batch s ≡ None → rejects s (first_batch s) status ≡ answered []
rejects_none s status none = ap (λ (b : Option Batch). rejects s b status) none

pub settles_is : (s : State) (batch : ℕ) (time : Timestamp) (results : List WriteResult) → s.number < most_commits → settles s batch time results ≡ commits (Acknowledge batch time results) (result batch (s.number + 1) time ∷ [])
settles_is s batch time results few = ap (λ b. if b then commits (Acknowledge batch time results) (result batch (s.number + 1) time ∷ []) else refused IdsSpent) (lt-ltb s.number most_commits few)

pub settles_not : (s : State) (batch : ℕ) (time : Timestamp) (results : List WriteResult) → most_commits ≤ s.number → settles s batch time results ≡ refused IdsSpent
settles_not s batch time results many = ap (λ b. if b then commits (Acknowledge batch time results) (result batch (s.number + 1) time ∷ []) else refused IdsSpent) (le-ltb s.number most_commits many)

-- a batch is rejected
pub hands_rejected : {old new : Kept} (mid : Kept) {past : Past} {before : List Out} {vec : Vec Out Global} {given : List ℕ} (batch : Batch) (status : RpcStatus) (ids : List ℕ) → old.watch.due ≡ Nothing → StandsFor old old.store.state past → AreConcerned old.listeners batch.writes ids
    → old.store.state.number < most_commits → first_batch old.store.state ≡ Some batch → old.writes.is_open ≡ true → closing_of (steps_of past) status.code ≡ Rejects
    → mid.root ≡ old.root → mid.listeners ≡ old.listeners → mid.limbo ≡ old.limbo → mid.watch ≡ old.watch → GoesOn old.writes mid.writes (λ h. closed ∷ h) → mid.store.state ≡ committed old.store.state (Reject batch.id)
    → KeepsRest mid new → given ≡ ids → (IsQuietOrAmong given mid → Raises mid new before vec.items) → before ≡ Rejected batch.id (old.store.state.number + 1) status ∷ []
    → HandsSettled old.store.state past (event.Closed stream.Write status) (Done vec) new
hands_rejected {old} {new} mid {past} {before} {vec} {given} batch status ids idle stands concerned few first opening such root listeners limbo watch goes state rest same raises begins =
    let answer = commits (Reject batch.id) (rejected batch.id (old.store.state.number + 1) status ∷ []) in
    let e = event.Closed stream.Write status in
    let answers : Answers old.store.state past e answer = sym (rejects_is old.store.state batch status few first) ∙ closed_rejects stands status opening such in
    as_done refl (no_reset past e answer.commit new (λ t. refl) (ap resets_of (ap (λ (w : WatchStream). w.due) (rest.watch ∙ watch) ∙ idle)))
    (handed old.store.state past e answer mid new before vec.items answers refl
    (follows_plain mid e answer stands (record { step = refl; plain = λ id. refl; targets = λ id. refl; began = refl; unrequested = λ h. refl; unraised = λ id. refl }) state listeners limbo watch refl (goes (steps_of past) stands.writes) (few_by old.store.state past e answer answers stands.pending))
    rest
    (raises (subst (λ (l : List ℕ). IsQuietOrAmong l mid) (sym same) (quiet_or_first mid batch ids (Reject batch.id) stands concerned first root listeners limbo watch state (λ stance held view never quiet. quiet_rejected old.root old.store.state stance batch.id held view never quiet))))
    (λ id. refl) (subst (λ (os : List Out). AllZip (IsShown new) os (rejected batch.id (old.store.state.number + 1) status ∷ [])) (sym begins) (refl, tt)))

-- a batch is acknowledged
pub hands_acknowledged : {old new : Kept} (mid : Kept) {past : Past} {before : List Out} {vec : Vec Out Global} {given : List ℕ} (batch : Batch) (time : Timestamp) (response : WriteResponse) (ids : List ℕ) → old.watch.due ≡ Nothing → StandsFor old old.store.state past → AreConcerned old.listeners batch.writes ids
    → old.store.state.number < most_commits → first_batch old.store.state ≡ Some batch → response.commit_time ≡ Some time → old.writes.is_open ≡ true → Fits (steps_of past) (first_batch old.store.state) response Acknowledges
    → mid.root ≡ old.root → mid.listeners ≡ old.listeners → mid.limbo ≡ old.limbo → mid.watch ≡ old.watch → GoesOn old.writes mid.writes (λ h. kept response.token ∷ acknowledged ∷ h) → mid.store.state ≡ committed old.store.state (Acknowledge batch.id time response.results)
    → KeepsRest mid new → given ≡ ids → (IsQuietOrAmong given mid → Raises mid new before vec.items) → before ≡ Result batch.id (old.store.state.number + 1) time ∷ []
    → HandsSettled old.store.state past (event.Written response) (Done vec) new
hands_acknowledged {old} {new} mid {past} {before} {vec} {given} batch time response ids idle stands concerned few first at opening fits root listeners limbo watch goes state rest same raises begins =
    let answer = commits (Acknowledge batch.id time response.results) (result batch.id (old.store.state.number + 1) time ∷ []) in
    let e = event.Written response in
    let answers : Answers old.store.state past e answer = written_as stands response _ opening (acknowledges batch time first at fits (sym (settles_is old.store.state batch.id time response.results few))) in
    as_done refl (no_reset past e answer.commit new (λ t. refl) (ap resets_of (ap (λ (w : WatchStream). w.due) (rest.watch ∙ watch) ∙ idle)))
    (handed old.store.state past e answer mid new before vec.items answers refl
    (follows_plain mid e answer stands (record { step = refl; plain = λ id. refl; targets = λ id. refl; began = refl; unrequested = λ h. refl; unraised = λ id. refl }) state listeners limbo watch refl
    (subst (λ (b : Bool). StandsOn mid.writes (kept response.token ∷ (if b then acknowledged else shaken) ∷ steps_of past)) (sym fits.0) (goes (steps_of past) stands.writes)) (few_by old.store.state past e answer answers stands.pending))
    rest
    (raises (subst (λ (l : List ℕ). IsQuietOrAmong l mid) (sym same) (quiet_or_first mid batch ids (Acknowledge batch.id time response.results) stands concerned first root listeners limbo watch state (λ stance held view never quiet. quiet_acknowledged old.root old.store.state stance batch.id time response.results held view never quiet))))
    (λ id. refl) (subst (λ (os : List Out). AllZip (IsShown new) os (result batch.id (old.store.state.number + 1) time ∷ [])) (sym begins) (refl, tt)))

pub some_moment : {found : Option Timestamp} {time : Timestamp} → found ≡ Some time → IfSome found IsMoment → IsMoment time
some_moment {found} {time} is of_it = subst (λ (t : Option Timestamp). IfSome t IsMoment) is of_it

pub opened_none : (name : StreamName) (opening : Bool) → (opened_turn name opening).commit ≡ None
opened_none name true = refl
opened_none stream.Watch false = refl
opened_none stream.Write false = refl

pub bad_none : (name : StreamName) (member : List ℕ) (opening : Bool) → (bad_turn name member opening).commit ≡ None
bad_none name member true = refl
bad_none name member false = refl

-- ---- what a crash finds

-- the first batch is one that the commit may take
fits_first : (bs : List Batch) (batch : Batch) (response : WriteResponse) → slice_get bs 0 ≡ Some batch → HasTransforms (slice_get bs 0) response → IsAnswered bs batch.id response.results
fits_first [] batch response is has = absurd (none-some batch is)
fits_first (b ∷ bs) batch response is has = record { first = ap (λ (x : Batch). x.id) (some_one b batch is); fit = has }
  where
    some_one : (x y : Batch) → Some x ≡ Some y → x ≡ y
    some_one x y same = cc

pub acknowledge_fits : (s : State) (batch : Batch) (id : ℕ) (time : Timestamp) (response : WriteResponse) → id ≡ batch.id → first_batch s ≡ Some batch → s.number < most_commits → HasTransforms (first_batch s) response → FitsState s (Acknowledge id time response.results)
acknowledge_fits s batch id time response same first few has =
    (subst (λ (n : ℕ). IsAnswered s.batches n response.results) (sym same) (fits_first s.batches batch response first has), few)

pub moves_rejected : {old : Kept} {past : Past} {before later : View} (batch : Batch) (status : RpcStatus) → StandsFor old old.store.state past → old.store.state.number < most_commits → first_batch old.store.state ≡ Some batch → old.writes.is_open ≡ true → closing_of (steps_of past) status.code ≡ Rejects
    → Moves old.store.state (committed old.store.state (Reject batch.id)) before later → MovesBy old.store.state past (event.Closed stream.Write status) before later
moves_rejected {old} {past} batch status stands few first opening such moves =
    moves_by (commits (Reject batch.id) (rejected batch.id (old.store.state.number + 1) status ∷ []))
    (sym (rejects_is old.store.state batch status few first) ∙ closed_rejects stands status opening such) moves

pub makes_rejected : {old : Kept} {past : Past} (batch : Batch) (status : RpcStatus) → StandsFor old old.store.state past → old.store.state.number < most_commits → first_batch old.store.state ≡ Some batch → old.writes.is_open ≡ true → closing_of (steps_of past) status.code ≡ Rejects
    → MakesOne old.store.state past (event.Closed stream.Write status)
makes_rejected {old} batch status stands few first opening such =
    makes_by (commits (Reject batch.id) (rejected batch.id (old.store.state.number + 1) status ∷ [])) (Reject batch.id)
    (sym (rejects_is old.store.state batch status few first) ∙ closed_rejects stands status opening such) refl

pub makes_acknowledged : {old : Kept} {past : Past} (batch : Batch) (time : Timestamp) (response : WriteResponse) → StandsFor old old.store.state past → old.store.state.number < most_commits → first_batch old.store.state ≡ Some batch → response.commit_time ≡ Some time → old.writes.is_open ≡ true
    → Fits (steps_of past) (first_batch old.store.state) response Acknowledges → MakesOne old.store.state past (event.Written response)
makes_acknowledged {old} batch time response stands few first at opening fits =
    makes_by (commits (Acknowledge batch.id time response.results) (result batch.id (old.store.state.number + 1) time ∷ [])) (Acknowledge batch.id time response.results)
    (written_as stands response _ opening (acknowledges batch time first at fits (sym (settles_is old.store.state batch.id time response.results few)))) refl

pub moves_acknowledged : {old : Kept} {past : Past} {before later : View} (batch : Batch) (time : Timestamp) (response : WriteResponse) → StandsFor old old.store.state past → old.store.state.number < most_commits → first_batch old.store.state ≡ Some batch → response.commit_time ≡ Some time → old.writes.is_open ≡ true
    → Fits (steps_of past) (first_batch old.store.state) response Acknowledges → Moves old.store.state (committed old.store.state (Acknowledge batch.id time response.results)) before later → MovesBy old.store.state past (event.Written response) before later
moves_acknowledged {old} {past} batch time response stands few first at opening fits moves =
    moves_by (commits (Acknowledge batch.id time response.results) (result batch.id (old.store.state.number + 1) time ∷ []))
    (written_as stands response _ opening (acknowledges batch time first at fits (sym (settles_is old.store.state batch.id time response.results few)))) moves

-- no number is left
pub spent_rejects : {client : Kept} {past : Past} (batch : Batch) (status : RpcStatus) → StandsFor client client.store.state past → most_commits ≤ client.store.state.number → first_batch client.store.state ≡ Some batch → client.writes.is_open ≡ true → closing_of (steps_of past) status.code ≡ Rejects
    → Answers client.store.state past (event.Closed stream.Write status) (refused IdsSpent)
spent_rejects {client} {past} batch status stands many first opening such = sym (rejects_not client.store.state batch status many first) ∙ closed_rejects stands status opening such

pub spent_acknowledges : {client : Kept} {past : Past} (response : WriteResponse) → StandsFor client client.store.state past → most_commits ≤ client.store.state.number → client.writes.is_open ≡ true → Fits (steps_of past) (first_batch client.store.state) response Acknowledges
    → Answers client.store.state past (event.Written response) (refused IdsSpent)
spent_acknowledges {client} {past} response stands many opening fits = by (first_batch client.store.state) refl response.commit_time refl
  where
    by : (found : Option Batch) → first_batch client.store.state ≡ found → (at : Option Timestamp) → response.commit_time ≡ at → Answers client.store.state past (event.Written response) (refused IdsSpent)
    by None first at is = absurd (subst (λ (b : Option Batch). HasTransforms b response) first fits.2)
    by (Some batch) first None is = absurd (fits.3 is)
    by (Some batch) first (Some time) is = written_as stands response _ opening (acknowledges batch time first is fits (sym (settles_not client.store.state batch.id time response.results many)))
