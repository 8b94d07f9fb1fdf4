-- What a message that can be stored tells has a spelling.
use Rattle.std.proofs.Common.{ℕ, List, Option}
use Rattle.std.proofs.lemmas.List.Elements.{All-weaker}
use Rattle.value_model.specs.Data.{Data}
use Rattle.value_model.specs.declared.message.DocumentChange.{DocumentChange}
use Rattle.value_model.specs.declared.message.ListenResponse.{ListenResponse}
use Rattle.value_model.specs.declared.message.ListenResponse.TheVariants.{Target, Change, Delete, Remove, Filter}
use Rattle.value_model.specs.declared.timestamp.Timestamp.{Timestamp}
use Rattle.json_model.specs.Faults.{max_nesting}
use Rattle.json_rpc.specs.Storable.{IsStorableWithin}
use Rattle.json_messages.specs.Storable.{IsStorableAnswer, IsStorableDocument, IsStorableGone, IsStorableResponse, IsStorableResult}
use Rattle.mutations.specs.declared.results.WriteResponse.{WriteResponse}
use Rattle.mutations.specs.declared.results.WriteResult.{WriteResult}
use Rattle.record_parts.specs.Spelling.{IsSpelledValue}
use Rattle.outcome_codec.specs.Spelling.{IsSpelledResult}
use Rattle.client_events.specs.Spelled.{IsSpelledChange, IsSpelledGone, IsSpelledMessage, IsSpelledResponse}
use Rattle.line_reader.proofs.Targets.{key_spelled}

value_spelled : (value : Data) → IsStorableWithin max_nesting value → IsSpelledValue 20 value
value_spelled value is = record { storable = is.storable; nested = is.deep }

result_spelled : (answer : WriteResult) → IsStorableResult answer → IsSpelledResult answer
result_spelled answer is = record {
  time = is.time;
  values = record { count = is.values.count; each = All-weaker (IsStorableWithin max_nesting) (IsSpelledValue 20) value_spelled answer.transforms is.values.each };
}

pub response_spelled : (response : WriteResponse) → IsStorableAnswer response → IsSpelledResponse response
response_spelled response is = record {
  time = is.time;
  results = record { count = is.results.count; each = All-weaker IsStorableResult IsSpelledResult result_spelled response.results is.results.each };
}

-- ---- messages of the stream of listeners

change_spelled : (change : DocumentChange) → IsStorableDocument change → IsSpelledChange change
change_spelled change is = record {
  name = key_spelled change.key is.names;
  content = (record { storable = is.holds; nested = is.deep }, is.updated);
}

gone_spelled : (gone : List (List ℕ)) (since : Option Timestamp) → IsStorableGone gone since → IsSpelledGone gone since
gone_spelled gone since is = record { name = key_spelled gone is.names; time = is.at }

pub message_spelled : (response : ListenResponse) → IsStorableResponse response → IsSpelledMessage response
message_spelled (Target change) is = record { token = is.0; time = is.1 }
message_spelled (Change change) is = change_spelled change is
message_spelled (Delete gone) is = gone_spelled gone.key gone.read_time is
message_spelled (Remove gone) is = tt
message_spelled (Filter filter) is = tt
