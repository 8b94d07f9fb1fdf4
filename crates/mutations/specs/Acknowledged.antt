-- What the acknowledgement of writes makes of what is known of their document (WriteResponse, WriteResult).
use Rattle.std.specs.Prelude.{if◌then◌else◌, List, ◌∷◌, Option, Some, None, unwrap_or}
use Rattle.value_model.specs.Changes.{with_value_at}
use Rattle.value_model.specs.Data.{Data, Entries, array_of}
use Rattle.value_model.specs.Paths.{value_at}
use Rattle.value_model.specs.declared.document.Document.{Document}
use Rattle.value_model.specs.declared.document.Entry.{Entry}
use Rattle.value_model.specs.declared.document.Entry.TheVariants.{Found, Missing, Unknown}
use Rattle.value_model.specs.declared.timestamp.Timestamp.{Timestamp}
use Rattle.mutations.specs.declared.results.WriteResult.{WriteResult}
use Rattle.mutations.specs.declared.transform.Change.{Change}
use Rattle.mutations.specs.declared.transform.Change.TheVariants.{Append, RemoveAll}
use Rattle.mutations.specs.declared.transform.Transform.{Transform}
use Rattle.mutations.specs.declared.write.Write.{Write}
use Rattle.mutations.specs.declared.write.Write.TheVariants.{Update, Delete}
use Rattle.mutations.specs.Changes.{items_at}
use Rattle.mutations.specs.Effect.{fields_of}
use Rattle.mutations.specs.Local.{appended, holds, masked, others}

-- the document that an entry has, with its version as its update time
abbrev pub document_in : Option Entry → Option Document
document_in (Some (Found fields version)) = Some (record { fields = fields; update_time = Some version })
document_in _ = None

-- what stands at a transform's path once the backend has answered: an array is worked out from what is known, and all else is
-- what the backend returned
abbrev pub settled : Option Data → Change → Data → Data
settled found (Append values) returned = array_of (appended (items_at found) values)
settled found (RemoveAll values) returned = array_of (others values (items_at found))
settled found _ returned = returned

-- the fields after the transforms, in their order, each with its own result
abbrev pub settled_by : Entries → List Transform → List Data → Entries
settled_by fields (transform ∷ transforms) (returned ∷ results) =
    settled_by (with_value_at fields transform.path (settled (value_at fields transform.path) transform.change returned)) transforms results
settled_by fields _ _ = fields

-- The entry that an acknowledged write leaves, at the version that all writes of its document in the batch have. A delete
-- leaves that there is no document; an update of all fields leaves these. An update of some fields needs a document of which its precondition
-- holds, since what the backend had before isn't known otherwise.
unfoldable pub acknowledged : Option Entry → Write → WriteResult → Timestamp → Entry
acknowledged old (Delete key condition) result version = Missing version
acknowledged old (Update key fields None transforms condition) result version = Found (settled_by fields transforms result.transforms) version
acknowledged old (Update key fields (Some mask) transforms condition) result version =
    if holds condition (document_in old)
    then Found (settled_by (masked (fields_of (document_in old)) fields mask) transforms result.transforms) version
    else Unknown version

-- since when a write holds at the backend: its own update time, or the time of the commit
abbrev pub version_in : WriteResult → Timestamp → Timestamp
version_in result commit = unwrap_or result.update_time commit
