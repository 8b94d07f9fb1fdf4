-- Laws of the trees of messages.
use Rattle.std.specs.Prelude.{◌≡◌}
use Rattle.serde_json.specs.Data.{Data as Json}
use Rattle.document_keys.specs.Names.{Root}
use Rattle.value_model.specs.declared.document.RpcStatus.{RpcStatus}
use Rattle.value_model.specs.declared.message.ListenResponse.{ListenResponse}
use Rattle.mutations.specs.declared.results.WriteResponse.{WriteResponse}
use Rattle.json_messages.specs.Grammar.{SpellsStatus, SpellsListenResponse, SpellsWriteResponse}

-- a tree spells one message of a watch stream at most
abbrev pub ATreeSpellsOneResponse : Type 0
ATreeSpellsOneResponse = (root : Root) (d : Json) (a b : ListenResponse) → SpellsListenResponse root d a → SpellsListenResponse root d b → a ≡ b

-- and one status
abbrev pub ATreeSpellsOneStatus : Type 0
ATreeSpellsOneStatus = (d : Json) (a b : RpcStatus) → SpellsStatus d a → SpellsStatus d b → a ≡ b

-- and one message of a write stream
abbrev pub ATreeSpellsOneAnswer : Type 0
ATreeSpellsOneAnswer = (d : Json) (a b : WriteResponse) → SpellsWriteResponse d a → SpellsWriteResponse d b → a ≡ b
