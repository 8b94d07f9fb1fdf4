-- The calls of one watch stream, as `listen_protocol` has them, and the same as events.
use Rattle.std.specs.Prelude.{◌≡◌, ◌↔◌, ◌==◌, Bool, true, false, not, List, [], ◌∷◌}
use Rattle.std.specs.Prelude.{Some}
use Rattle.std.specs.List.{Contains}
use Rattle.std.specs.Ordering.{int_eq}
use Rattle.value_model.specs.declared.message.ListenResponse.{ListenResponse}
use Rattle.value_model.specs.declared.message.ListenResponse.TheVariants as sent
use Rattle.listen_protocol.specs.Calls.{Call, Calls, asked, unasked, came, applied, skipped}
use Rattle.listen_protocol.specs.Transcript as stream
use Rattle.agreement.specs.Backend.{Key, Id, tick, tick_of}
use Rattle.agreement.specs.Transcript.{Message, Change, Sends, Deletes, Removes, Filter, Request, Event, Cut}
use Rattle.agreement.specs.Transcript.{Asked, Unasked, Heard, start_keys, is_asked, counts, is_current, told}
use Rattle.agreement.specs.Transcript.{token, point_time}

-- the message, with times as numbers
abbrev pub message_of : ListenResponse → Message
message_of (sent.Target change) =
    Change change.kind change.target_ids change.resume_token (tick_of change.read_time)
message_of (sent.Change change) =
    Sends change.key change.fields (tick change.update_time) change.target_ids change.removed_target_ids
message_of (sent.Delete delete) = Deletes delete.key (tick_of delete.read_time) delete.removed_target_ids
message_of (sent.Remove remove) = Removes remove.key remove.removed_target_ids
message_of (sent.Filter filter) = Filter filter.target_id filter.count

-- The events of a stream's calls, behind what came before it was opened. `opening` has what each add request
-- asked.
abbrev pub events : (Calls → Request) → List Event → Calls → List Event
events opening older [] = Cut ∷ older
events opening older (asked id keys document ∷ h) =
    Asked id (opening (asked id keys document ∷ h)) ∷ events opening older h
events opening older (unasked id ∷ h) = Unasked (λ i. int_eq i id) ∷ events opening older h
events opening older (came message ∷ h) = Heard (message_of message) ∷ events opening older h
events opening older (applied ∷ h) = events opening older h
events opening older (skipped ∷ h) = events opening older h

-- each add request starts with the keys of its call
abbrev pub StartWithKeys : (Calls → Request) → Calls → Type 0
StartWithKeys opening [] = Unit {0}
StartWithKeys opening (asked id keys document ∷ h) =
    ((key : Key)
    → (start_keys (Some (opening (asked id keys document ∷ h))) key ≡ true) ↔ Contains keys key)
    × StartWithKeys opening h
StartWithKeys opening (unasked id ∷ h) = StartWithKeys opening h
StartWithKeys opening (came message ∷ h) = StartWithKeys opening h
StartWithKeys opening (applied ∷ h) = StartWithKeys opening h
StartWithKeys opening (skipped ∷ h) = StartWithKeys opening h

-- the call is a point
abbrev pub is_point : Call → Bool
is_point (came message) = not (point_time (Heard (message_of message)) == 0)
is_point _ = false

-- it says what became of a point
abbrev pub is_taking : Call → Bool
is_taking applied = true
is_taking skipped = true
is_taking _ = false

-- A point is applied or skipped right behind its message, and nothing else is.
abbrev pub PointsAreTaken : Calls → Type 0
PointsAreTaken [] = Unit {0}
PointsAreTaken (call ∷ []) = is_taking call ≡ false
PointsAreTaken (call ∷ before ∷ h) = (is_taking call ≡ is_point before) × PointsAreTaken (before ∷ h)

-- the newest call isn't that a point was applied or skipped
abbrev pub EndsUntaken : Calls → Type 0
EndsUntaken [] = Unit {0}
EndsUntaken (call ∷ h) = is_taking call ≡ false

-- Both say the same of an id: whether it is asked, whether it counts, and of one that counts whether it is
-- CURRENT, its told keys and its token.
pub record StreamsAgree : Type 0 where
  pub asks : (opening : Calls → Request) (older : List Event) (h : Calls) (id : Id)
      → is_asked id (events opening older h) ≡ stream.is_asked_in id h
  pub counting : (opening : Calls → Request) (older : List Event) (h : Calls) (id : Id)
      → counts id (events opening older h) ≡ stream.counts id h
  pub current : (opening : Calls → Request) (older : List Event) (h : Calls) (id : Id)
      → stream.counts id h ≡ true → is_current id (events opening older h) ≡ stream.is_current_in id h
  pub tells : (opening : Calls → Request) (older : List Event) (h : Calls) (id : Id)
      → StartWithKeys opening h → stream.counts id h ≡ true
      → (key : Key) → (told id (events opening older h) key ≡ true) ↔ stream.IsTold id h key
  pub tokens : (opening : Calls → Request) (older : List Event) (h : Calls) (id : Id)
      → PointsAreTaken h → EndsUntaken h → stream.counts id h ≡ true
      → token id (events opening older h) ≡ stream.token_in id h
