-- Laws of queries.
use Rattle.std.specs.Prelude.{◌≡◌, ◌≢◌, ◌⊎◌, ℕ, List, length, take, Option, Some, None, option_map, option_to_list}
use Rattle.std.specs.FinMap as map
use Rattle.std.specs.List.{All, Contains}
use Rattle.document_keys.specs.Names.{Root}
use Rattle.value_model.specs.Data.{Data, Entries}
use Rattle.value_model.specs.Documents.{DocumentMap}
use Rattle.queries.specs.declared.order.Order.{Order}
use Rattle.queries.specs.declared.target.CollectionTarget.{CollectionTarget}
use Rattle.queries.specs.declared.target.Target.{Target}
use Rattle.queries.specs.declared.target.Target.TheVariants.{Document, Collection}
use Rattle.queries.specs.Answer.{Finds, IsAnswer, IsPastLimit}
use Rattle.queries.specs.Checked.{IsChecked}
use Rattle.queries.specs.Filters.{FilterData}
use Rattle.queries.specs.Matching.{Matches, IsBefore}
use Rattle.queries.specs.Orders.{AreWhole}
use Rattle.queries.specs.Rows.{Precedes}

-- the whole list of orders is determined by the explicit ones and the filter
abbrev pub WholeOrdersAreOne : Type 0
WholeOrdersAreOne = (explicit : List Order) (filter : Option FilterData) (os ps : List Order) → AreWhole explicit filter os → AreWhole explicit filter ps → os ≡ ps

-- lists of values for the fields of orders are in a strict total order
pub record RowsAreOrdered : Type 0 where
  pub strict : (orders : List Order) (xs : List Data) → Precedes orders xs xs → ⊥
  pub transitive : (orders : List Order) (xs ys zs : List Data) → Precedes orders xs ys → Precedes orders ys zs → Precedes orders xs zs
  pub total : (orders : List Order) (xs ys : List Data) → length xs ≡ length orders → length ys ≡ length orders → Precedes orders xs ys ⊎ ((xs ≡ ys) ⊎ Precedes orders ys xs)

-- Documents are in a strict order of a query, in which of two with different keys that match the checked query one is before the other.
pub record AnswersAreOrdered : Type 0 where
  pub strict : (target : Target) (root : Root) (key : List (List ℕ)) (fields : Entries) → IsBefore target root key fields key fields → ⊥
  pub transitive : (target : Target) (root : Root) (key : List (List ℕ)) (fields : Entries) (other : List (List ℕ)) (others : Entries) (last : List (List ℕ)) (lasts : Entries)
      → IsBefore target root key fields other others → IsBefore target root other others last lasts → IsBefore target root key fields last lasts
  pub total : (target : Target) (root : Root) (key : List (List ℕ)) (fields : Entries) (other : List (List ℕ)) (others : Entries)
      → IsChecked target → Matches target root key fields → Matches target root other others → key ≢ other → IsBefore target root key fields other others ⊎ IsBefore target root other others key fields

-- a query has one answer over the documents of a store
abbrev pub AnswersAreOne : Type 0
AnswersAreOne = (target : Target) (root : Root) (documents : DocumentMap) (keys others : List (List (List ℕ)))
    → IsAnswer target root documents keys → IsAnswer target root documents others → keys ≡ others

-- the answer of a query of one document is its key, where there is such a document
abbrev pub DocumentsAnswer : Type 0
DocumentsAnswer = (wanted : List (List ℕ)) (root : Root) (documents : DocumentMap)
    → IsAnswer (Document wanted) root documents (option_to_list (option_map (λ _. wanted) (map.get documents wanted)))

-- the query of a collection without its limit
abbrev pub without_limit : CollectionTarget → CollectionTarget
without_limit target = record {
  collection = target.collection;
  filter = target.filter;
  orders = target.orders;
  start_at = target.start_at;
  end_at = target.end_at;
  limit = None;
}

-- with a limit the answer is the front of what it is without one
abbrev pub AnswersAreFronts : Type 0
AnswersAreFronts = (target : CollectionTarget) (root : Root) (documents : DocumentMap) (limit : ℕ) (keys all : List (List (List ℕ))) → target.limit ≡ Some limit
    → IsAnswer (Collection target) root documents keys → IsAnswer (Collection (without_limit target)) root documents all → keys ≡ take limit all

-- An answer stays where its documents do, and each other document that matches then is past its limit: the answer has as
-- many keys as the limit, and the documents of all of them come before.
abbrev pub AnswersStay : Type 0
AnswersStay = (target : Target) (root : Root) (before after : DocumentMap) (keys : List (List (List ℕ))) → IsAnswer target root before keys
    → All (λ key. map.get after key ≡ map.get before key) keys
    → ((key : List (List ℕ)) → Finds target root after key → Contains keys key ⊎ IsPastLimit target root after keys key)
    → IsAnswer target root after keys
