-- A target that is read again as a query.
use Rattle.std.specs.Prelude.{◌≡◌, ℕ, length}
use Rattle.queries.specs.declared.raw.RawCollection.{RawCollection}
use Rattle.queries.specs.declared.target.CollectionTarget.{CollectionTarget}
use Rattle.queries.specs.declared.target.Target.{Target}
use Rattle.queries.specs.declared.target.Target.TheVariants.{Document, Collection}
use Rattle.queries.specs.Queried.{IsSameLimit}

-- the target's parts as they may be read, under one id of a collection
pub record IsReadAgain (t : CollectionTarget) (raw : RawCollection) : Type 0 where
  pub from : length raw.from ≡ 1
  pub filter : raw.filter ≡ t.filter
  pub orders : raw.orders ≡ t.orders
  pub start_at : raw.start_at ≡ t.start_at
  pub end_at : raw.end_at ≡ t.end_at
  pub limit : IsSameLimit raw.limit t.limit

-- a query of a collection with so many orders
abbrev pub HasOrders : Target → ℕ → Type 0
HasOrders (Document key) count = ⊥
HasOrders (Collection t) count = length t.orders ≡ count
