-- The messages that trees without faults spell, as google.firestore.v1 writes ListenResponse and WriteResponse, and google.rpc
-- Status, in proto3 JSON. The form of these trees is said by their faults. A member whose value is null counts as left out.
use Rattle.std.specs.Prelude.{◌≡◌, ℕ, ℤ, pos, List, [], codes, Option, Some, None}
use Rattle.serde_json.specs.Data.{Data as Json, string, Members}
use Rattle.document_keys.specs.Names.{Root}
use Rattle.value_model.specs.declared.timestamp.Timestamp.{Timestamp}
use Rattle.value_model.specs.declared.document.RpcStatus.{RpcStatus}
use Rattle.value_model.specs.declared.message.ChangeKind.{ChangeKind}
use Rattle.value_model.specs.declared.message.ChangeKind.TheVariants.{NoChange}
use Rattle.value_model.specs.declared.message.TargetChange.{TargetChange}
use Rattle.value_model.specs.declared.message.DocumentChange.{DocumentChange}
use Rattle.value_model.specs.declared.message.ExistenceFilter.{ExistenceFilter}
use Rattle.value_model.specs.declared.message.ListenResponse.{ListenResponse}
use Rattle.value_model.specs.declared.message.ListenResponse.TheVariants.{Target, Change, Delete, Remove, Filter}
use Rattle.mutations.specs.declared.results.WriteResponse.{WriteResponse}
use Rattle.mutations.specs.declared.results.WriteResult.{WriteResult}
use Rattle.json_model.specs.declared.place.Object.TheVariants as object
use Rattle.json_model.specs.Forms.{IsGiven, InObject, ByChoice, SpellsEach}
use Rattle.json_model.specs.Grammar.{SpellsTime, SpellsName, SpellsText, SpellsBytesTree, SpellsList}
use Rattle.json_model.specs.Members.{given}
use Rattle.json_model.specs.Numbers.{SpellsShort, SpellsUpTo, max_count, max_code}
use Rattle.json_rpc.specs.Grammar.{SpellsFieldsIn}
use Rattle.json_messages.specs.ChangeTypes.{change_text}

-- ---- members that may be left out

-- a number, which is then 0
abbrev pub SpellsNumber : ℕ → Option Json → ℕ → Type 0
SpellsNumber most None n = n ≡ 0
SpellsNumber most (Some d) n = SpellsUpTo most d n

-- the id of a target, which is then 0
abbrev pub SpellsTargetId : Option Json → ℤ → Type 0
SpellsTargetId None id = id ≡ pos 0
SpellsTargetId (Some d) id = SpellsShort d id

-- a text, which is then empty
abbrev pub SpellsTextIn : Option Json → List ℕ → Type 0
SpellsTextIn None text = text ≡ []
SpellsTextIn (Some d) text = SpellsText d text

-- a token, which is then empty
abbrev pub SpellsToken : Option Json → List ℕ → Type 0
SpellsToken None token = token ≡ []
SpellsToken (Some d) token = SpellsBytesTree d token

-- a time; there is then none
abbrev pub SpellsTimeIn : Option Json → Option Timestamp → Type 0
SpellsTimeIn None time = time ≡ None
SpellsTimeIn (Some d) None = ⊥
SpellsTimeIn (Some d) (Some time) = SpellsTime d time

-- what became of targets: then nothing
abbrev pub SpellsChangeType : Option Json → ChangeKind → Type 0
SpellsChangeType None change = change ≡ NoChange
SpellsChangeType (Some d) change = d ≡ string (change_text change)

-- ---- statuses

-- the members of a status
pub record SpellsStatusIn (ms : Members) (status : RpcStatus) : Type 0 where
  pub code : SpellsNumber max_code (given (codes "code") ms) status.code
  pub message : SpellsTextIn (given (codes "message") ms) status.message

-- a status: `{"code":5,"message":".."}`
abbrev pub SpellsStatus : Json → RpcStatus → Type 0
SpellsStatus d status = InObject d (λ ms. SpellsStatusIn ms status)

-- `cause`; where it is left out there is none
abbrev pub SpellsCause : Option Json → Option RpcStatus → Type 0
SpellsCause None cause = cause ≡ None
SpellsCause (Some d) None = ⊥
SpellsCause (Some d) (Some status) = SpellsStatus d status

-- ---- messages of a watch stream

-- the members of what `targetChange` holds
pub record SpellsTargetChange (ms : Members) (change : TargetChange) : Type 0 where
  pub becomes : SpellsChangeType (given (codes "targetChangeType") ms) change.kind
  pub ids : SpellsEach SpellsShort (given (codes "targetIds") ms) change.target_ids
  pub cause : SpellsCause (given (codes "cause") ms) change.cause
  pub token : SpellsToken (given (codes "resumeToken") ms) change.resume_token
  pub time : SpellsTimeIn (given (codes "readTime") ms) change.read_time

-- the members of a document: its key, its fields and the time of its last update
pub record SpellsDocumentIn (root : Root) (ms : Members) (change : DocumentChange) : Type 0 where
  pub names : IsGiven (given (codes "name") ms) (λ d. SpellsName root d change.key)
  pub holds : SpellsFieldsIn (given (codes "fields") ms) change.fields
  pub updated : IsGiven (given (codes "updateTime") ms) (λ d. SpellsTime d change.update_time)

-- the members of what `documentChange` holds
pub record SpellsDocumentChange (root : Root) (ms : Members) (change : DocumentChange) : Type 0 where
  pub document : IsGiven (given (codes "document") ms) (λ d. InObject d (λ inside. SpellsDocumentIn root inside change))
  pub ids : SpellsEach SpellsShort (given (codes "targetIds") ms) change.target_ids
  pub removed : SpellsEach SpellsShort (given (codes "removedTargetIds") ms) change.removed_target_ids

-- the members of what `documentDelete` or `documentRemove` holds: the key of a document, the targets that it left and a time
pub record SpellsDocumentGone (root : Root) (ms : Members) (key : List (List ℕ)) (removed : List ℤ) (time : Option Timestamp) : Type 0 where
  pub names : IsGiven (given (codes "document") ms) (λ d. SpellsName root d key)
  pub left : SpellsEach SpellsShort (given (codes "removedTargetIds") ms) removed
  pub at : SpellsTimeIn (given (codes "readTime") ms) time

-- the members of what `filter` of a message holds
pub record SpellsExistenceFilter (ms : Members) (filter : ExistenceFilter) : Type 0 where
  pub target : SpellsTargetId (given (codes "targetId") ms) filter.target_id
  pub counts : SpellsNumber max_count (given (codes "count") ms) filter.count

-- the one kind of a message, by its name
abbrev pub SpellsListenUnder : Root → List ℕ → Json → ListenResponse → Type 0
SpellsListenUnder root name d (Target change) = (name ≡ codes "targetChange") × InObject d (λ ms. SpellsTargetChange ms change)
SpellsListenUnder root name d (Change change) = (name ≡ codes "documentChange") × InObject d (λ ms. SpellsDocumentChange root ms change)
SpellsListenUnder root name d (Delete gone) = (name ≡ codes "documentDelete") × InObject d (λ ms. SpellsDocumentGone root ms gone.key gone.removed_target_ids gone.read_time)
SpellsListenUnder root name d (Remove gone) = (name ≡ codes "documentRemove") × InObject d (λ ms. SpellsDocumentGone root ms gone.key gone.removed_target_ids gone.read_time)
SpellsListenUnder root name d (Filter filter) = (name ≡ codes "filter") × InObject d (λ ms. SpellsExistenceFilter ms filter)

-- a message of a watch stream: an object with exactly one kind
abbrev pub SpellsListenResponse : Root → Json → ListenResponse → Type 0
SpellsListenResponse root d response = ByChoice object.ListenResponse d (λ ms name inner. SpellsListenUnder root name inner response)

-- ---- messages of a write stream

-- the members of the result of a write
pub record SpellsWriteResultIn (ms : Members) (answer : WriteResult) : Type 0 where
  pub time : SpellsTimeIn (given (codes "updateTime") ms) answer.update_time
  pub transforms : SpellsList (given (codes "transformResults") ms) answer.transforms

-- the result of a write: `{"transformResults":[..],"updateTime":".."}`
abbrev pub SpellsWriteResult : Json → WriteResult → Type 0
SpellsWriteResult d answer = InObject d (λ ms. SpellsWriteResultIn ms answer)

-- the members of a message of a write stream
pub record SpellsWriteResponseIn (ms : Members) (response : WriteResponse) : Type 0 where
  pub token : SpellsToken (given (codes "streamToken") ms) response.token
  pub results : SpellsEach SpellsWriteResult (given (codes "writeResults") ms) response.results
  pub time : SpellsTimeIn (given (codes "commitTime") ms) response.commit_time

-- a message of a write stream: `{"commitTime":"..","streamToken":"..","writeResults":[..]}`
abbrev pub SpellsWriteResponse : Json → WriteResponse → Type 0
SpellsWriteResponse d response = InObject d (λ ms. SpellsWriteResponseIn ms response)
