-- Laws of the trees of queries.
use Rattle.std.specs.Prelude.{◌≡◌, pos, ℕ, List, [], ◌∷◌, Option, Some, None, option_map}
use Rattle.serde_json.specs.Data.{Data as Json}
use Rattle.document_keys.specs.Names.{Root}
use Rattle.json_model.specs.Origin.{Origin}
use Rattle.queries.specs.declared.raw.RawCollection.{RawCollection}
use Rattle.queries.specs.declared.raw.RawQuery.{RawQuery}
use Rattle.queries.specs.declared.raw.RawQuery.TheVariants as raw
use Rattle.queries.specs.declared.target.CollectionTarget.{CollectionTarget}
use Rattle.queries.specs.declared.target.Target.{Target}
use Rattle.queries.specs.declared.target.Target.TheVariants.{Document, Collection}
use Rattle.json_queries.specs.Faults.{QueryFaults}
use Rattle.json_queries.specs.Grammar.{SpellsQuery}
use Rattle.json_queries.specs.Printed.{id_of, parent_of, target_tree}
use Rattle.json_queries.specs.Storable.{IsStorableTarget}

-- a tree spells one query at most
abbrev pub ATreeSpellsOneQuery : Type 0
ATreeSpellsOneQuery = (root : Root) (d : Json) (a b : RawQuery) → SpellsQuery root d a → SpellsQuery root d b → a ≡ b

-- the document at the path; the empty path is the root's `documents`, which is none
abbrev pub document_at : List (List ℕ) → Option (List (List ℕ))
document_at [] = None
document_at (segment ∷ path) = Some (segment ∷ path)

-- the query of a collection as it is read: of one id in its parent, with all orders explicit
abbrev pub collection_read : CollectionTarget → RawCollection
collection_read target = record {
  parent = document_at (parent_of target.collection);
  from = id_of target.collection ∷ [];
  filter = target.filter;
  orders = target.orders;
  start_at = target.start_at;
  end_at = target.end_at;
  limit = option_map pos target.limit;
}

-- a target as it is read
abbrev pub target_read : Target → RawQuery
target_read (Document key) = raw.Document key
target_read (Collection target) = raw.Collection (collection_read target)

-- the printed tree of a target that can be stored has no fault, whoever wrote it, and spells the query with the same members
abbrev pub PrintedTargetsReadBack : Type 0
PrintedTargetsReadBack = (o : Origin) (target : Target) → IsStorableTarget target → QueryFaults o (target_tree o.root target) [] × SpellsQuery o.root (target_tree o.root target) (target_read target)
