-- What is lent by its parts, as contracts see it: a name, and a document of a store.
use Rattle.value_model.specs.declared.documents.DocRef.{DocRef}
use Rattle.value_model.specs.declared.reference.NameRef.{NameRef}
use Rattle.value_model.specs.declared.reference.RefName.{RefName}
use Rattle.value_model.specs.Documents.{Stored}

abbrev pub lent_name : NameRef → RefName
lent_name name = record { project = name.project.now; database = name.database.now; key = name.key.now }

abbrev pub lent_document : DocRef → Stored
lent_document d = record { fields = d.fields.now; update_time = d.update_time; state = d.state }
