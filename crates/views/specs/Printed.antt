-- What is printed of a document (google.firestore.v1.Document, and how it stands to the backend): a time that the backend
-- sets, and that isn't known yet, is printed as null at any depth, and everything else as it is.
use Rattle.std.specs.Prelude.{◌≡◌, ◌⊎◌, map as each}
use Rattle.value_model.specs.declared.documents.DocRef.{DocRef}
use Rattle.value_model.specs.Data.{Data, null, pending, array, map, Items, no_items, item, Members, no_members, member, Entries}
use Rattle.value_model.specs.Documents.{Stored}

abbrev mutual
  pub printed_value : Data → Data
  printed_value (pending t) = null
  printed_value (array ds) = array (printed_items ds)
  printed_value (map ms) = map (printed_members ms)
  printed_value d = d

  -- each item as it is printed
  pub printed_items : Items → Items
  printed_items no_items = no_items
  printed_items (item d ds) = item (printed_value d) (printed_items ds)

  -- each member's value as it is printed, under its name
  pub printed_members : Members → Members
  printed_members no_members = no_members
  printed_members (member n d ms) = member n (printed_value d) (printed_members ms)

-- each field's value as it is printed, under its name
abbrev pub printed_fields : Entries → Entries
printed_fields fields = each (λ f. (f.0, printed_value f.1)) fields

-- a document as it is printed
abbrev pub printed : Stored → Stored
printed document = record { fields = printed_fields document.fields; update_time = document.update_time; state = document.state }

-- a lent document as it stands in the store
abbrev pub stored_of : DocRef → Stored
stored_of document = record { fields = document.fields.now; update_time = document.update_time; state = document.state }

-- both values are printed as null, or they are equal
abbrev pub AreNullOrEqual : Data → Data → Type 0
AreNullOrEqual value other = ((printed_value value ≡ null) × (printed_value other ≡ null)) ⊎ (value ≡ other)
