-- The changes of a snapshot against the one before (DocumentChange of the client SDKs, without the indexes): first what was
-- removed, then what was added, then what was modified.
use Rattle.std.specs.Prelude.{◌≡◌, ◌≢◌, List, ◌++◌, map as each}
use Rattle.std.specs.List.{Contains}
use Rattle.value_model.specs.Documents.{Stored}
use Rattle.views.specs.declared.change.Change.{Change}
use Rattle.views.specs.declared.change.Kind.{Kind}
use Rattle.views.specs.declared.change.Kind.TheVariants.{Added, Removed, Modified}
use Rattle.views.specs.Picks.{Picks}
use Rattle.views.specs.Row.{Row, row, keys_of}

-- the rows don't have the row's key
abbrev pub IsNotIn : List Row → Row → Type 0
IsNotIn rows r = Contains (keys_of rows) r.key → ⊥

-- the rows have the row's key with a document that is printed otherwise
pub record IsModified (rows : List Row) (r : Row) : Type 0 where
  pub document : Stored
  pub there : Contains rows (row r.key document)
  pub other : document ≢ r.document

-- a change of this kind at the key of a row, and at the keys of rows
abbrev pub change : Kind → Row → Change
change kind r = record { kind = kind; key = r.key }

abbrev pub told : Kind → List Row → List Change
told kind rows = each (change kind) rows

-- The rows that went, in the old order; then those that came, in the new order; then those that are in both and are printed
-- otherwise, in the new order.
pub record HasChanges (old new : List Row) (changes : List Change) : Type 0 where
  pub removed : List Row
  pub added : List Row
  pub modified : List Row
  pub removed_are : Picks (IsNotIn new) old removed
  pub added_are : Picks (IsNotIn old) new added
  pub modified_are : Picks (IsModified old) new modified
  pub in_order : changes ≡ told Removed removed ++ (told Added added ++ told Modified modified)

-- to the changes came one of this kind for each row of which this holds
pub record Tells (kind : Kind) (P : Row → Type 0) (rows : List Row) (before after : List Change) : Type 0 where
  pub picked : List Row
  pub are : Picks P rows picked
  pub behind : after ≡ before ++ told kind picked
