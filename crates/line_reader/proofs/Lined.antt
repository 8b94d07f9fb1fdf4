-- What is made of the faults of lines and of messages.
use Rattle.std.proofs.Common.{◌≡◌, ℕ, List, Some, None, sym, ap, inl, inr, ◌∙◌}
use Rattle.document_keys.specs.Names.{Root}
use Rattle.host_api.specs.Items.{Bytes}
use Rattle.serde_json.specs.Data.{Data}
use Rattle.json_model.specs.declared.fault.JsonFault.{JsonFault}
use Rattle.json_model.specs.Faults.{IsFault}
use Rattle.line_reader.specs.Faults.{LineFaults}
use Rattle.line_reader.specs.Grammar.{IsBadMessage, member_of}
use Rattle.line_reader.specs.Reading.{IsJson, Reads, refusal_of, a_fault}
use Rattle.line_reader.specs.declared.refusal.Refusal.{Refusal}
use Rattle.line_reader.specs.Spelled.{HasCounts, IsSpelledReading}
use Rattle.line_reader.specs.declared.reading.Reading.{Reading}
use Rattle.line_reader.specs.declared.reading.Reading.TheVariants.{Line, Refused}

pub refused : (root : Root) (text : List ℕ) (d : Data) (bad : JsonFault) (refusal : Refusal) → IsJson text d → IsFault (LineFaults root d) bad → refusal_of bad ≡ Some refusal → Reads root (Bytes text) (Refused refusal)
refused root text d bad refusal json (inl memory) at = let e : None ≡ Some refusal = ap refusal_of (sym memory) ∙ at in cc
refused root text d bad refusal json (inr first) at = a_fault text d bad refusal json first at

-- what is read has counts that fit
pub counts_of : (reading : Reading) → IsSpelledReading reading → HasCounts reading
counts_of (Line e) is = tt
counts_of (Refused refusal) is = is

-- the member of the first fault of a message
pub bad_message : (Faults : List JsonFault → Type 0) (fault : JsonFault) (member : List ℕ) → IsFault Faults fault → member_of fault ≡ Some member → IsBadMessage Faults member
bad_message Faults fault member (inl memory) told = let e : None ≡ Some member = ap member_of (sym memory) ∙ told in cc
bad_message Faults fault member (inr first) told = record { fault = fault; first = first; told = told }
