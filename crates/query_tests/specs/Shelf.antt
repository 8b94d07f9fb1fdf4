-- The documents that a shelf holds, as a finite map.
use Rattle.std.specs.Prelude.{◌≡◌, ◌↔◌, ◌⊎◌, ℕ, List, [], ◌∷◌, map as each, Option, Some, None, cond}
use Rattle.std.specs.Borrow.{Bor}
use Rattle.std.specs.Cmp.Lexicographic.{slice_cmp}
use Rattle.std.specs.FinMap as map
use Rattle.std.specs.List.{Contains}
use Rattle.std.specs.Ordering.{nat_cmp, is_eq}
use Rattle.value_model.specs.Data.{Entries}
use Rattle.value_model.specs.Documents.{DocumentMap, Stored, IsIn}
use Rattle.value_model.specs.declared.document.DocState.TheVariants.{Synced}
use Rattle.query_tests.specs.declared.shelf.Held.{Held}

-- a document with these fields
abbrev pub stored_of : Entries → Stored
stored_of fields = record { fields = fields; update_time = None; state = Synced }

abbrev pub held_fields : Bor Entries → Entries
held_fields fields = fields.now

-- the documents by key
abbrev pub documents_of : List Held → DocumentMap
documents_of [] = map.empty
documents_of (held ∷ rest) = map.insert (documents_of rest) held.key (stored_of held.fields)

-- the fields of the first document of the key
abbrev pub find_in : List Held → List (List ℕ) → Option Entries
find_in [] key = None
find_in (held ∷ rest) key = cond (is_eq (slice_cmp (slice_cmp nat_cmp) key held.key)) (Some held.fields) (find_in rest key)

abbrev pub keys_of : List Held → List (List (List ℕ))
keys_of documents = each (λ (held : Held). held.key) documents

-- a key came to the keys, if it is in the collection
abbrev pub Takes : List (List ℕ) → List (List ℕ) → List (List (List ℕ)) → List (List (List ℕ)) → Type 0
Takes collection key old new = (k : List (List ℕ)) → Contains new k ↔ ((IsIn collection k × (k ≡ key)) ⊎ Contains old k)

-- the keys of the documents in the collection, ascending
abbrev pub KeepsIn : List (List ℕ) → List Held → List (List (List ℕ)) → Type 0
KeepsIn collection documents keys = (k : List (List ℕ)) → Contains keys k ↔ (IsIn collection k × Contains (keys_of documents) k)
