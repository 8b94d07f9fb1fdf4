-- The lines that answer an event, as values.
use Rattle.std.specs.Prelude.{ℕ, ℤ, List, Option}
use Rattle.mutations.specs.declared.results.WriteRequest.{WriteRequest}
use Rattle.value_model.specs.declared.document.DocState.{DocState}
use Rattle.value_model.specs.declared.document.Document.{Document}
use Rattle.value_model.specs.declared.document.RpcStatus.{RpcStatus}
use Rattle.target_cache.specs.declared.row.Row.{Row}
use Rattle.value_model.specs.declared.timestamp.Timestamp.{Timestamp}
use Rattle.views.specs.declared.raised.Raised.{Raised}

-- a snapshot that the listener of an id raised
pub record Told : Type 0 where
  pub id : ℕ
  pub raised : Raised

-- The batch and the commit of a write; a listener with the id of its target, or one that ended, each with the number of commits
-- then; the document of a key as it then stands; a batch that the backend committed at a time, or rejected with a status, and
-- the commit by which it left; a listener that ended since the backend refused its target with a status; a snapshot, with the
-- number of commits and the last read time then; a request on the stream of listeners that adds a target as its row has it, or
-- removes one; or a request on the stream of writes.
pub data Line : Type 0 where
  wrote : ℕ → ℕ → Line
  listening : ℕ → ℤ → ℕ → Line
  unlistened : ℕ → ℕ → Line
  document : List (List ℕ) → Option Document → DocState → Line
  result : ℕ → ℕ → Timestamp → Line
  rejected : ℕ → ℕ → RpcStatus → Line
  error : ℕ → RpcStatus → Line
  snapshot : ℕ → Option Timestamp → Told → Line
  add : ℤ → Row → Line
  remove : ℤ → Line
  send : WriteRequest → Line
