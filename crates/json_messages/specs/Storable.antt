-- What the journal can hold of messages.
use Rattle.std.specs.Prelude.{ℕ, ◌≤◌, List, Option, IfSome}
use Rattle.value_model.specs.declared.timestamp.Timestamp.{Timestamp}
use Rattle.value_model.specs.declared.message.DocumentChange.{DocumentChange}
use Rattle.value_model.specs.declared.message.ListenResponse.{ListenResponse}
use Rattle.value_model.specs.declared.message.ListenResponse.TheVariants.{Target, Change, Delete, Remove, Filter}
use Rattle.value_model.specs.Data.{entries_depth}
use Rattle.value_model.specs.Storable.{AreStorable, AreStorableBytes, IsStorableKey}
use Rattle.value_model.specs.Time.{IsMoment}
use Rattle.json_model.specs.Faults.{max_nesting}
use Rattle.json_rpc.specs.Storable.{AreAllStorable, IsStorableWithin}
use Rattle.mutations.specs.declared.results.WriteResponse.{WriteResponse}
use Rattle.mutations.specs.declared.results.WriteResult.{WriteResult}

-- a document: its key, its fields, which nest at most 20 deep, and its time
pub record IsStorableDocument (change : DocumentChange) : Type 0 where
  pub names : IsStorableKey change.key
  pub holds : AreStorable change.fields
  pub deep : entries_depth change.fields ≤ max_nesting
  pub updated : IsMoment change.update_time

-- the key of a document that is gone, and a time
pub record IsStorableGone (key : List (List ℕ)) (time : Option Timestamp) : Type 0 where
  pub names : IsStorableKey key
  pub at : IfSome time IsMoment

-- a message of a watch stream: its keys, fields, tokens and times
abbrev pub IsStorableResponse : ListenResponse → Type 0
IsStorableResponse (Target change) = AreStorableBytes change.resume_token × IfSome change.read_time IsMoment
IsStorableResponse (Change change) = IsStorableDocument change
IsStorableResponse (Delete gone) = IsStorableGone gone.key gone.read_time
IsStorableResponse (Remove gone) = IsStorableGone gone.key gone.read_time
IsStorableResponse (Filter filter) = Unit {0}

-- the result of a write: what its transforms made, each of which nests at most 20 deep, and its time
pub record IsStorableResult (answer : WriteResult) : Type 0 where
  pub values : AreAllStorable (IsStorableWithin max_nesting) answer.transforms
  pub time : IfSome answer.update_time IsMoment

-- a message of a write stream: its token, its results and its time
pub record IsStorableAnswer (response : WriteResponse) : Type 0 where
  pub token : AreStorableBytes response.token
  pub results : AreAllStorable IsStorableResult response.results
  pub time : IfSome response.commit_time IsMoment
