-- what an event that is heard is to the theorem's client
use Rattle.std.proofs.Common.{◌≡◌, ℕ, ℤ, Bool, true, false, nat_lt, List, [], length, Option, Some, None, if◌then◌else◌, refl, sym, ap, subst, ◌∙◌}
use Rattle.std.proofs.lemmas.Bool.{false≢true}
use Rattle.std.proofs.lemmas.Option.{none-some}
use Rattle.client_events.specs.declared.event.Event.{Event}
use Rattle.client_events.specs.declared.event.Event.TheVariants as event
use Rattle.durable_state.specs.State.{State, most_commits}
use Rattle.mutations.specs.declared.batch.Batch.{Batch}
use Rattle.mutations.specs.declared.results.WriteResponse.{WriteResponse}
use Rattle.mutations.specs.declared.results.WriteResult.{WriteResult}
use Rattle.queries.specs.declared.target.Target.{Target}
use Rattle.record_codec.specs.declared.commit.Commit.{Commit}
use Rattle.record_codec.specs.declared.commit.Commit.TheVariants.{Acknowledge, Allocate, Drop, Enqueue, Point, Reject, Reset}
use Rattle.target_cache.specs.Cache.{id_at}
use Rattle.value_model.specs.declared.document.RpcStatus.{RpcStatus}
use Rattle.value_model.specs.declared.message.ListenResponse.{ListenResponse}
use Rattle.value_model.specs.declared.message.StreamName.{StreamName}
use Rattle.value_model.specs.declared.message.StreamName.TheVariants as stream
use Rattle.value_model.specs.declared.timestamp.Timestamp.{Timestamp}
use Rattle.views.specs.Viewed.{Viewed}
use Rattle.write_pipeline.specs.Order.{Steps}
use Rattle.write_pipeline.specs.Standing.{closing_of}
use Rattle.write_pipeline.specs.declared.answer.Closing.{Closing}
use Rattle.write_pipeline.specs.declared.answer.Closing.TheVariants.{Kept as KeepsAll, Rejects}
use Rattle.client_turns.specs.Answers.{Answers, Begins, are_left, ends, listens}
use Rattle.client_turns.specs.Hearing.{HeardTurn, IsHeard, Blanks, dropped, ended, held, mismatch, none_held, nothing, old_point, point, point_spent, fails as fails_heard}
use Rattle.client_turns.specs.Past.{Past, Turn, listener, steps_of}
use Rattle.client_turns.specs.Turn.{is_heard}
use Rattle.client_turns.specs.Turns.{commits, refused}
use Rattle.client_turns.specs.Watching.{WatchStep, closes, is_watched, opens, passes, rings, step_by}
use Rattle.client_turns.specs.Writing as writing
use Rattle.client_turns.specs.Writing.{WrittenTurn, acknowledges, bad_turn, closed_turn, fails, first_batch, is_open, is_stream_open, opened_turn, rejects, shakes}
use Rattle.client_turns.specs.declared.refusal.Refusal.{Refusal}
use Rattle.client_turns.specs.declared.refusal.Refusal.TheVariants.{IdsSpent, ListenerTaken, NoListener, StreamState}

-- the step does nothing on the stream
abbrev pub IsIdle : WatchStep → Type 0
IsIdle passes = Unit {0}
IsIdle rings = Unit {0}
IsIdle _ = ⊥

-- the stream is opened or closed
abbrev pub IsBreak : WatchStep → Type 0
IsBreak opens = Unit {0}
IsBreak closes = Unit {0}
IsBreak _ = ⊥

-- the event is one of the stream's messages
abbrev pub IsMessage : Event → Type 0
IsMessage (event.Watch response) = Unit {0}
IsMessage _ = ⊥

-- What an event is: nothing that concerns the backend's documents, an open or a close, a batch that joins or is rejected, an
-- acknowledgement, a target that gets a row, or a message.
pub data Kind (s : State) (past : Past) (e : Event) (t : Turn) : Type 0 where
  idle : IsIdle (step_by e t.refusal) → t.commit ≡ None → ¬ (IsMessage e) → Kind s past e t
  breaks : IsBreak (step_by e t.refusal) → t.commit ≡ None → Kind s past e t
  enqueues : (batch : Batch) → step_by e t.refusal ≡ passes → t.commit ≡ Some (Enqueue batch) → ¬ (IsMessage e) → Kind s past e t
  rejecting : (id : ℕ) → step_by e t.refusal ≡ passes → t.commit ≡ Some (Reject id) → ¬ (IsMessage e) → Kind s past e t
  acks : (id : ℕ) (at : Timestamp) (results : List WriteResult) → step_by e t.refusal ≡ passes
      → t.commit ≡ Some (Acknowledge id at results) → ¬ (IsMessage e) → Kind s past e t
  allocates : (query : Target) → step_by e t.refusal ≡ passes
      → t.commit ≡ Some (Allocate (id_at (length s.rows)) query) → ¬ (IsMessage e) → Kind s past e t
  message : (response : ListenResponse) → e ≡ event.Watch response → t.refusal ≡ None
      → is_watched past ≡ true → IsHeard s past response t → Kind s past e t

unheard : {A : Type 0} (refusal : Refusal) → is_heard (Some refusal) ≡ false → (t : Turn) → t ≡ refused refusal → is_heard t.refusal ≡ true → A
unheard refusal not t is heard = absurd (false≢true (sym not ∙ sym (ap (λ (x : Turn). is_heard x.refusal) is) ∙ heard))

module _ (s : State) (past : Past) where
  -- an event that commits where a number is left
  kind_left : (b : Bool) (commit : Commit) (lines : List _) (e : Event) (t : Turn) → ((u : Turn) → u ≡ commits commit lines → Kind s past e u) → t ≡ (if b then commits commit lines else refused IdsSpent) → is_heard t.refusal ≡ true → Kind s past e t
  kind_left true commit lines e t made is heard = made t is
  kind_left false commit lines e t made is heard = unheard IdsSpent refl t is heard

  kind_begins : (id : ℕ) (query : Target) (view : Option Viewed) (t : Turn) → Begins s id query view t → is_heard t.refusal ≡ true → Kind s past (event.Listen id query) t
  kind_begins id query (Some view) t is heard = unheard (ListenerTaken id) refl t is heard
  kind_begins id query None t is heard = by is.0 is.2
    where
      by : (found : Option ℤ) → t ≡ listens s id query found → Kind s past (event.Listen id query) t
      by (Some target) same = idle tt (ap (λ (x : Turn). x.commit) same) (λ no. no)
      by None same = kind_left (are_left s) (Allocate (id_at (length s.rows)) query) _ (event.Listen id query) t (λ u is. allocates query refl (ap (λ (x : Turn). x.commit) is) (λ no. no)) same heard

  kind_ends : (id : ℕ) (view : Option Viewed) (t : Turn) → t ≡ ends s id view → is_heard t.refusal ≡ true → Kind s past (event.Unlisten id) t
  kind_ends id None t is heard = unheard (NoListener id) refl t is heard
  kind_ends id (Some view) t is heard = idle tt (ap (λ (x : Turn). x.commit) is) (λ no. no)

  kind_opened : (name : StreamName) (b : Bool) (t : Turn) → t ≡ opened_turn name b → is_heard t.refusal ≡ true → Kind s past (event.Opened name) t
  kind_opened name true t is heard = unheard (StreamState name true) refl t is heard
  kind_opened stream.Watch false t is heard = breaks tt (ap (λ (x : Turn). x.commit) is)
  kind_opened stream.Write false t is heard = idle tt (ap (λ (x : Turn). x.commit) is) (λ no. no)

  kind_bad : (name : StreamName) (member : List ℕ) (b : Bool) (t : Turn) → t ≡ bad_turn name member b → is_heard t.refusal ≡ true → Kind s past (event.BadMessage name member) t
  kind_bad stream.Watch member true t is heard = breaks tt (ap (λ (x : Turn). x.commit) is)
  kind_bad stream.Write member true t is heard = idle tt (ap (λ (x : Turn). x.commit) is) (λ no. no)
  kind_bad name member false t is heard = unheard (StreamState name false) refl t is heard

  kind_rejects : (status : RpcStatus) (first : Option Batch) (t : Turn) → t ≡ rejects s first status → is_heard t.refusal ≡ true → Kind s past (event.Closed stream.Write status) t
  kind_rejects status None t is heard = idle tt (ap (λ (x : Turn). x.commit) is) (λ no. no)
  kind_rejects status (Some batch) t is heard = kind_left (nat_lt s.number most_commits) (Reject batch.id) _ (event.Closed stream.Write status) t (λ u is. rejecting batch.id refl (ap (λ (x : Turn). x.commit) is) (λ no. no)) is heard

  kind_closes : (status : RpcStatus) (closing : Closing) (t : Turn) → t ≡ writing.closes s status closing → is_heard t.refusal ≡ true → Kind s past (event.Closed stream.Write status) t
  kind_closes status KeepsAll t is heard = idle tt (ap (λ (x : Turn). x.commit) is) (λ no. no)
  kind_closes status Rejects t is heard = kind_rejects status (first_batch s) t is heard

  kind_closed : (h : Steps) (name : StreamName) (status : RpcStatus) (b : Bool) (t : Turn) → t ≡ closed_turn s h name status b → is_heard t.refusal ≡ true → Kind s past (event.Closed name status) t
  kind_closed h name status false t is heard = unheard (StreamState name false) refl t is heard
  kind_closed h stream.Watch status true t is heard = breaks tt (ap (λ (x : Turn). x.commit) is)
  kind_closed h stream.Write status true t is heard = kind_closes status (closing_of h status.code) t is heard

  kind_written : (h : Steps) (response : WriteResponse) (b : Bool) (t : Turn) → WrittenTurn s h response b t → is_heard t.refusal ≡ true → Kind s past (event.Written response) t
  kind_written h response true t (shakes fits is) heard = idle (subst (λ (x : Turn). IsIdle (step_by (event.Written response) x.refusal)) (sym is) tt) (ap (λ (x : Turn). x.commit) is) (λ no. no)
  kind_written h response true t (acknowledges batch time first at fits is) heard = kind_left (nat_lt s.number most_commits) (Acknowledge batch.id time response.results) _ (event.Written response) t (λ u same. acks batch.id time response.results refl (ap (λ (x : Turn). x.commit) same) (λ no. no)) is heard
  kind_written h response true t (fails member not is) heard = idle tt (ap (λ (x : Turn). x.commit) is) (λ no. no)
  kind_written h response false t is heard = unheard (StreamState stream.Write false) refl t is heard

  -- a message that isn't refused, or a bad one
  message_by : (response : ListenResponse) (t : Turn) → IsHeard s past response t → is_watched past ≡ true → t.refusal ≡ None → Kind s past (event.Watch response) t
  message_by response t it watched none = message response refl none watched it

  left_unrefused : (b : Bool) (commit : Commit) (lines : List _) (t : Turn) → t ≡ (if b then commits commit lines else refused IdsSpent) → is_heard t.refusal ≡ true → t.refusal ≡ None
  left_unrefused true commit lines t is heard = ap (λ (x : Turn). x.refusal) is
  left_unrefused false commit lines t is heard = unheard IdsSpent refl t is heard

  blanks_unrefused : (ids : List ℕ) (lines : List _) (t : Turn) → Blanks s ids lines t → is_heard t.refusal ≡ true → t.refusal ≡ None
  blanks_unrefused ids lines t (held any is) heard = left_unrefused (nat_lt s.number most_commits) _ lines t is heard
  blanks_unrefused ids lines t (none_held not is) heard = ap (λ (x : Turn). x.refusal) is

  kind_heard : (response : ListenResponse) (b : Bool) (t : Turn) → is_watched past ≡ b → HeardTurn s past response b t → is_heard t.refusal ≡ true → Kind s past (event.Watch response) t
  kind_heard response false t watched is heard = unheard (StreamState stream.Watch false) refl t is heard
  kind_heard response true t watched (nothing gives is) heard = message_by response t (nothing gives is) watched (ap (λ (x : Turn). x.refusal) is)
  kind_heard response true t watched (old_point at gives old is) heard = message_by response t (old_point at gives old is) watched (ap (λ (x : Turn). x.refusal) is)
  kind_heard response true t watched (point at entries rows gives below commit is) heard = message_by response t (point at entries rows gives below commit is) watched (left_unrefused (nat_lt s.number most_commits) _ [] t is heard)
  kind_heard response true t watched (point_spent at gives below many is) heard = unheard IdsSpent refl t is heard
  kind_heard response true t watched (mismatch id told count ids gives have blanks) heard = message_by response t (mismatch id told count ids gives have blanks) watched (blanks_unrefused ids [] t blanks heard)
  kind_heard response true t watched (ended ids status those listeners gives none have are blanks) heard = message_by response t (ended ids status those listeners gives none have are blanks) watched (blanks_unrefused those _ t blanks heard)
  kind_heard response true t watched (dropped ids status keys those listeners gives drops some blanked are is) heard = message_by response t (dropped ids status keys those listeners gives drops some blanked are is) watched (left_unrefused (nat_lt s.number most_commits) _ _ t is heard)
  kind_heard response true t watched (fails_heard why refuses is) heard = breaks (subst (λ (x : Turn). IsBreak (step_by (event.Watch response) x.refusal)) (sym is) tt) (ap (λ (x : Turn). x.commit) is)

  pub kind_of : (e : Event) (t : Turn) → Answers s past e t → is_heard t.refusal ≡ true → Kind s past e t
  kind_of (event.Write at writes) t is heard = kind_left (nat_lt s.number most_commits) (Enqueue (record { id = s.next_batch; at = at; writes = writes })) _ (event.Write at writes) t (λ u same. enqueues (record { id = s.next_batch; at = at; writes = writes }) refl (ap (λ (x : Turn). x.commit) same) (λ no. no)) is heard
  kind_of (event.Get key) t is heard = idle tt (ap (λ (x : Turn). x.commit) is) (λ no. no)
  kind_of (event.Listen id query) t is heard = kind_begins id query (listener id past) t is heard
  kind_of (event.Unlisten id) t is heard = kind_ends id (listener id past) t is heard
  kind_of (event.Opened name) t is heard = kind_opened name (is_stream_open name past) t is heard
  kind_of (event.Closed name status) t is heard = kind_closed (steps_of past) name status (is_stream_open name past) t is heard
  kind_of (event.Written response) t is heard = kind_written (steps_of past) response (is_open (steps_of past)) t is heard
  kind_of (event.BadMessage name member) t is heard = kind_bad name member (is_stream_open name past) t is heard
  kind_of (event.Watch response) t is heard = kind_heard response (is_watched past) t refl is heard
  kind_of event.Timer t is heard = idle tt (ap (λ (x : Turn). x.commit) is) (λ no. no)

-- a message gives no target a row
allocates_left : (b : Bool) (commit : Commit) (lines : List _) (t : Turn) (number : ℕ) (target : Target) → t ≡ (if b then commits commit lines else refused IdsSpent) → (Some commit ≡ Some (Allocate number target) → ⊥) → t.commit ≡ Some (Allocate number target) → ⊥
allocates_left true commit lines t number target is other made = other (sym (ap (λ (x : Turn). x.commit) is) ∙ made)
allocates_left false commit lines t number target is other made = none-some _ (sym (ap (λ (x : Turn). x.commit) is) ∙ made)

allocates_blanks : (s : State) (ids : List ℕ) (lines : List _) (t : Turn) (number : ℕ) (target : Target) → Blanks s ids lines t → t.commit ≡ Some (Allocate number target) → ⊥
allocates_blanks s ids lines t number target (held any is) made = allocates_left (nat_lt s.number most_commits) (Reset ids) lines t number target is (λ same. cc) made
allocates_blanks s ids lines t number target (none_held not is) made = none-some _ (sym (ap (λ (x : Turn). x.commit) is) ∙ made)

heard_allocates : (s : State) (past : Past) (m : ListenResponse) (t : Turn) (number : ℕ) (target : Target) → IsHeard s past m t → t.commit ≡ Some (Allocate number target) → ⊥
heard_allocates s past m t number target (nothing gives is) made = none-some _ (sym (ap (λ (x : Turn). x.commit) is) ∙ made)
heard_allocates s past m t number target (old_point at gives old is) made = none-some _ (sym (ap (λ (x : Turn). x.commit) is) ∙ made)
heard_allocates s past m t number target (point at entries rows gives below commit is) made = allocates_left (nat_lt s.number most_commits) (Point at entries rows) [] t number target is (λ same. cc) made
heard_allocates s past m t number target (point_spent at gives below many is) made = none-some _ (sym (ap (λ (x : Turn). x.commit) is) ∙ made)
heard_allocates s past m t number target (mismatch id told count ids gives have blanks) made = allocates_blanks s ids [] t number target blanks made
heard_allocates s past m t number target (ended ids status those listeners gives none have are blanks) made = allocates_blanks s those _ t number target blanks made
heard_allocates s past m t number target (dropped ids status keys those listeners gives drops some blanked are is) made = allocates_left (nat_lt s.number most_commits) (Drop keys those) _ t number target is (λ same. cc) made
heard_allocates s past m t number target (fails_heard why refuses is) made = none-some _ (sym (ap (λ (x : Turn). x.commit) is) ∙ made)

pub message_allocates : (s : State) (past : Past) (e : Event) (t : Turn) → Answers s past e t → is_heard t.refusal ≡ true → IsMessage e → (number : ℕ) (target : Target) → t.commit ≡ Some (Allocate number target) → ⊥
message_allocates s past e t answers heard is_message number target made = by (kind_of s past e t answers heard)
  where
    by : Kind s past e t → ⊥
    by (idle step none plain) = plain is_message
    by (breaks step none) = none-some _ (sym none ∙ made)
    by (enqueues batch step is plain) = plain is_message
    by (rejecting id step is plain) = plain is_message
    by (acks id at results step is plain) = plain is_message
    by (allocates query step is plain) = plain is_message
    by (message m is fine watched it) = heard_allocates s past m t number target it made
