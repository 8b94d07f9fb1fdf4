-- What holds of each query that was checked.
use Rattle.std.specs.Prelude.{ℕ, ◌<◌, Option, Some, None}
use Rattle.std.specs.List.{Contains}
use Rattle.queries.specs.declared.target.CollectionTarget.{CollectionTarget}
use Rattle.queries.specs.declared.target.Target.{Target}
use Rattle.queries.specs.declared.target.Target.TheVariants.{Document, Collection}
use Rattle.queries.specs.Holding.{name_path}
use Rattle.queries.specs.Orders.{paths_of}
use Rattle.queries.specs.Rows.{FitsOrders}

-- a limit is at least 1
abbrev pub IsLimit : Option ℕ → Type 0
IsLimit None = Unit {0}
IsLimit (Some n) = 0 < n

-- the cursors have values for no more than the orders, the name is among these, and a limit is at least 1
pub record IsCheckedCollection (target : CollectionTarget) : Type 0 where
  pub start : FitsOrders target.orders target.start_at
  pub stop : FitsOrders target.orders target.end_at
  pub named : Contains (paths_of target.orders) name_path
  pub limit : IsLimit target.limit

abbrev pub IsChecked : Target → Type 0
IsChecked (Document key) = Unit {0}
IsChecked (Collection target) = IsCheckedCollection target
