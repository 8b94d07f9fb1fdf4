-- Which documents match a query, and which of two that do comes first.
use Rattle.std.specs.Prelude.{◌≡◌, ◌≢◌, ◌↔◌, ℕ, Bool, List, Option, Some, None, IsTrue}
use Rattle.std.specs.List.{All, AllPairs}
use Rattle.std.specs.declared.cmp.Ordering.{Ordering}
use Rattle.std.specs.declared.cmp.Ordering.TheVariants.{Equal}
use Rattle.document_keys.specs.Names.{Root}
use Rattle.value_model.specs.Data.{Data, Entries}
use Rattle.value_model.specs.Documents.{IsIn}
use Rattle.value_model.specs.declared.documents.DocRef.{DocRef}
use Rattle.queries.specs.declared.target.CollectionTarget.{CollectionTarget}
use Rattle.queries.specs.declared.target.Target.{Target}
use Rattle.queries.specs.declared.target.Target.TheVariants.{Document, Collection}
use Rattle.queries.specs.Filters.{FilterData}
use Rattle.queries.specs.Holding.{Meets, standing}
use Rattle.queries.specs.Rows.{HasValues, Precedes, RanksDocuments, StartKeeps, EndKeeps}

-- a filter that is there is met
abbrev pub MeetsAny : (List (List ℕ) → Option Data) → Option FilterData → Type 0
MeetsAny at None = Unit {0}
MeetsAny at (Some filter) = Meets at filter

-- A document matches a query of a collection: it is in the collection, meets the filter, has each ordered field, and the
-- cursors keep it.
pub record MatchesCollection (target : CollectionTarget) (root : Root) (key : List (List ℕ)) (fields : Entries) : Type 0 where
  pub inside : IsIn target.collection key
  pub meets : MeetsAny (standing root key fields) target.filter
  pub values : List Data
  pub ordered : HasValues (standing root key fields) target.orders values
  pub from_start : StartKeeps target.orders values target.start_at
  pub to_end : EndKeeps target.orders values target.end_at

-- A document matches a query: it is the one that is asked for, or it matches the query of its collection.
abbrev pub Matches : Target → Root → List (List ℕ) → Entries → Type 0
Matches (Document wanted) root key fields = key ≡ wanted
Matches (Collection target) root key fields = MatchesCollection target root key fields

-- One document comes before another in the order of a query of a collection.
pub record ComesBefore (target : CollectionTarget) (root : Root) (key : List (List ℕ)) (fields : Entries) (other : List (List ℕ)) (others : Entries) : Type 0 where
  pub xs : List Data
  pub ys : List Data
  pub has : HasValues (standing root key fields) target.orders xs
  pub other_has : HasValues (standing root other others) target.orders ys
  pub precedes : Precedes target.orders xs ys

-- The order of a query; a query of one document has none.
abbrev pub IsBefore : Target → Root → List (List ℕ) → Entries → List (List ℕ) → Entries → Type 0
IsBefore (Document wanted) root key fields other others = ⊥
IsBefore (Collection target) root key fields other others = ComesBefore target root key fields other others

-- What is answered on whether one document comes before another, where both match the query under a root.
abbrev pub TellsBefore : Target → List (List ℕ) → Entries → List (List ℕ) → Entries → Bool → Type 0
TellsBefore target key fields other others answer = (root : Root)
    → Matches target root key fields → Matches target root other others
    → (IsTrue answer ↔ IsBefore target root key fields other others)

-- What a comparison of two documents answers in the order of a query; that of one document has none.
abbrev pub RanksInOrder : Target → List (List ℕ) → Entries → List (List ℕ) → Entries → Ordering → Type 0
RanksInOrder (Document wanted) key fields other others order = order ≡ Equal
RanksInOrder (Collection target) key fields other others order = RanksDocuments target.orders key fields other others order

-- the documents match the query, and their keys are different
pub record AreRows (target : Target) (root : Root) (rows : List DocRef) : Type 0 where
  pub matching : All (λ row. Matches target root row.key.now row.fields.now) rows
  pub distinct : AllPairs (λ row other. row.key.now ≢ other.key.now) rows

-- the documents stand in the order of the query
abbrev pub AreInOrder : Target → Root → List DocRef → Type 0
AreInOrder target root rows = AllPairs (λ row other. IsBefore target root row.key.now row.fields.now other.key.now other.fields.now) rows

-- Where they match the query, and their keys are different, the sorted documents stand in its order.
abbrev pub SortsRows : Target → List DocRef → List DocRef → Type 0
SortsRows target rows sorted = (root : Root) → AreRows target root rows → AreInOrder target root sorted
