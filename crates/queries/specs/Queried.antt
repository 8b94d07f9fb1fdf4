-- What a checked query is of the query that was read.
use Rattle.std.specs.Prelude.{◌≡◌, ◌++◌, ◌∷◌, [], pos, ℕ, ℤ, List, Option, Some, None}
use Rattle.document_keys.specs.Names.{parent_path}
use Rattle.queries.specs.declared.raw.QueryFault.{QueryFault}
use Rattle.queries.specs.declared.raw.QueryFault.TheVariants as fault
use Rattle.queries.specs.declared.raw.RawCollection.{RawCollection}
use Rattle.queries.specs.declared.raw.RawQuery.{RawQuery}
use Rattle.queries.specs.declared.raw.RawQuery.TheVariants as raw
use Rattle.queries.specs.declared.target.CollectionTarget.{CollectionTarget}
use Rattle.queries.specs.declared.target.Target.{Target}
use Rattle.queries.specs.declared.target.Target.TheVariants.{Document, Collection}
use Rattle.queries.specs.Orders.{AreWhole}
use Rattle.queries.specs.Rules.{BreaksFirst, IsSound}

-- the same number, without its sign
abbrev pub IsSameLimit : Option ℤ → Option ℕ → Type 0
IsSameLimit None limit = limit ≡ None
IsSameLimit (Some z) None = ⊥
IsSameLimit (Some z) (Some n) = z ≡ pos n

-- The query breaks no rule, its collection has the one id, its orders are the whole list, and the rest is the same.
pub record IsTargetOf (raw : RawCollection) (target : CollectionTarget) : Type 0 where
  pub sound : IsSound raw
  pub id : List ℕ
  pub from : raw.from ≡ id ∷ []
  pub collection : target.collection ≡ parent_path raw.parent ++ id ∷ []
  pub filter : target.filter ≡ raw.filter
  pub orders : AreWhole raw.orders raw.filter target.orders
  pub start_at : target.start_at ≡ raw.start_at
  pub end_at : target.end_at ≡ raw.end_at
  pub limit : IsSameLimit raw.limit target.limit

-- a query that was read, and what it is once it is checked
abbrev pub IsQueryOf : RawQuery → Target → Type 0
IsQueryOf (raw.Document key) target = target ≡ Document key
IsQueryOf (raw.Collection given) (Document key) = ⊥
IsQueryOf (raw.Collection given) (Collection target) = IsTargetOf given target

-- the fault of a query: the least rule that it breaks
abbrev pub HasQueryFault : RawQuery → QueryFault → Type 0
HasQueryFault query fault.NoMemory = Unit {0}
HasQueryFault (raw.Document key) (fault.BadQuery rule) = ⊥
HasQueryFault (raw.Collection given) (fault.BadQuery rule) = BreaksFirst given rule
