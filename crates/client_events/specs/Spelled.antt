-- The events that a client takes: what each of them commits, or may bring to a later commit, has a spelling.
use Rattle.std.specs.Prelude.{ℕ, ◌<◌, ◌≤◌, ◌^◌, nat_lt, Bool, ◌&&◌, not, List, length, IfSome, Option}
use Rattle.value_model.specs.Storable.{AreStorableBytes}
use Rattle.value_model.specs.Time.{IsMoment}
use Rattle.value_model.specs.declared.document.Entry.TheVariants.{Found}
use Rattle.value_model.specs.declared.message.DocumentChange.{DocumentChange}
use Rattle.value_model.specs.declared.message.ListenResponse.{ListenResponse}
use Rattle.value_model.specs.declared.message.ListenResponse.TheVariants as message
use Rattle.value_model.specs.declared.message.TargetChange.{TargetChange}
use Rattle.value_model.specs.declared.timestamp.Timestamp.{Timestamp}
use Rattle.mutations.specs.declared.results.WriteResponse.{WriteResponse}
use Rattle.mutations.specs.declared.write.Write.{Write}
use Rattle.queries.specs.declared.target.Target.{Target}
use Rattle.record_parts.specs.Spelling.{AreSpelled, IsSpelledKey, IsSpelledWrite}
use Rattle.target_codec.specs.Spelling.{IsSpelledTarget}
use Rattle.outcome_codec.specs.Spelling.{IsSpelledKeyed, IsSpelledResult}
use Rattle.client_events.specs.declared.event.Event.{Event}
use Rattle.client_events.specs.declared.event.Event.TheVariants as event

-- how many writes may be made at once
abbrev pub max_writes : ℕ
max_writes = 500

-- so many writes may be made at once
abbrev pub is_batch : ℕ → Bool
is_batch count = nat_lt 0 count && not (nat_lt max_writes count)

-- 1 to 500 writes that have a spelling, at a time of the years 1 to 9999
pub record AreSpelledWrites (at : Timestamp) (writes : List Write) : Type 0 where
  pub moment : IsMoment at
  pub some : 1 ≤ length writes
  pub few : length writes ≤ max_writes
  pub each : AreSpelled IsSpelledWrite writes

-- a listener: its id fits four bytes, and its target has a spelling
pub record IsSpelledListener (id : ℕ) (query : Target) : Type 0 where
  pub fits : id < 2 ^ 32
  pub target : IsSpelledTarget query

-- a message of the stream of writes whose results have a spelling, at a time of the years 1 to 9999
pub record IsSpelledResponse (response : WriteResponse) : Type 0 where
  pub time : IfSome response.commit_time IsMoment
  pub results : AreSpelled IsSpelledResult response.results

-- what a change of targets tells at a point: a token, and a time of the years 1 to 9999
pub record IsSpelledTold (change : TargetChange) : Type 0 where
  pub token : AreStorableBytes change.resume_token
  pub time : IfSome change.read_time IsMoment

-- a document with its time, as an entry of a point
abbrev pub IsSpelledChange : DocumentChange → Type 0
IsSpelledChange change =
    IsSpelledKeyed (record { key = change.key; entry = Found change.fields change.update_time })

-- the key of a document that is gone, and since when
pub record IsSpelledGone (gone : List (List ℕ)) (since : Option Timestamp) : Type 0 where
  pub name : IsSpelledKey gone
  pub time : IfSome since IsMoment

-- a message of the stream of listeners: what of it comes to a point has a spelling
abbrev pub IsSpelledMessage : ListenResponse → Type 0
IsSpelledMessage (message.Target change) = IsSpelledTold change
IsSpelledMessage (message.Change change) = IsSpelledChange change
IsSpelledMessage (message.Delete gone) = IsSpelledGone gone.key gone.read_time
IsSpelledMessage _ = Unit {0}

-- the id of a listener fits four bytes and the code of a status one, and what the event commits, or brings to a later commit,
-- has a spelling
abbrev pub IsSpelledEvent : Event → Type 0
IsSpelledEvent (event.Write at writes) = AreSpelledWrites at writes
IsSpelledEvent (event.Listen id query) = IsSpelledListener id query
IsSpelledEvent (event.Unlisten id) = id < 2 ^ 32
IsSpelledEvent (event.Closed name status) = status.code < 2 ^ 8
IsSpelledEvent (event.Written response) = IsSpelledResponse response
IsSpelledEvent (event.Watch response) = IsSpelledMessage response
IsSpelledEvent _ = Unit {0}
