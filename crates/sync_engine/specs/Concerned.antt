-- The listeners that writes concern.
use Rattle.std.specs.Prelude.{ℕ, ◌<◌, List}
use Rattle.std.specs.List.{AllPairs, Contains}
use Rattle.listeners.specs.Concerns.{IsConcerned}
use Rattle.listeners.specs.Table.{Table}
use Rattle.mutations.specs.Written.{written_key}
use Rattle.mutations.specs.declared.write.Write.{Write}

-- one of the writes concerns the listener of the id
pub record ConcernsOne (table : Table) (writes : List Write) (id : ℕ) : Type 0 where
  pub write : Write
  pub one : Contains writes write
  pub concerned : IsConcerned table (written_key write) id

-- the ids ascend, and have each listener that one of the writes concerns
pub record AreConcerned (table : Table) (writes : List Write) (ids : List ℕ) : Type 0 where
  pub ascending : AllPairs (λ a b. a < b) ids
  pub each : (id : ℕ) → ConcernsOne table writes id → Contains ids id
