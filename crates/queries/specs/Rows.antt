-- How documents stand in the order of a query, and to its cursors (StructuredQuery.Order and Cursor).
use Rattle.std.specs.Prelude.{◌≡◌, ◌↔◌, ◌⊎◌, ℕ, ◌≤◌, Bool, true, false, List, [], ◌∷◌, length, take, Option, Some, None, IsTrue, unwrap_or}
use Rattle.std.specs.declared.cmp.Ordering.{Ordering}
use Rattle.std.specs.declared.cmp.Ordering.TheVariants.{Less, Equal, Greater}
use Rattle.document_keys.specs.Names.{Root}
use Rattle.value_model.specs.Data.{Data, Entries, null}
use Rattle.value_model.specs.Order.{Before, RanksValues}
use Rattle.queries.specs.declared.order.Order.{Order}
use Rattle.queries.specs.declared.order.Cursor.{Cursor}
use Rattle.queries.specs.Holding.{standing}

-- one value is before another, in the direction of an order
abbrev pub DirectedBefore : Bool → Data → Data → Type 0
DirectedBefore false x y = Before x y
DirectedBefore true x y = Before y x

-- the values that a document has at the fields of the orders
abbrev pub HasValues : (List (List ℕ) → Option Data) → List Order → List Data → Type 0
HasValues at [] [] = Unit {0}
HasValues at (o ∷ os) (x ∷ xs) = (at o.path ≡ Some x) × HasValues at os xs
HasValues _ _ _ = ⊥

-- of two lists of values for the fields of the orders one precedes the other: the first values that differ decide
abbrev pub Precedes : List Order → List Data → List Data → Type 0
Precedes (o ∷ os) (x ∷ xs) (y ∷ ys) = DirectedBefore o.descending x y ⊎ ((x ≡ y) × Precedes os xs ys)
Precedes _ _ _ = ⊥

-- what a comparison of such lists answers, of which the second may be for fewer of the orders
pub record RanksRows (orders : List Order) (xs ys : List Data) (order : Ordering) : Type 0 where
  pub less : (order ≡ Less) ↔ Precedes orders xs ys
  pub greater : (order ≡ Greater) ↔ Precedes orders ys xs
  pub equal : (order ≡ Equal) ↔ (take (length ys) xs ≡ ys)

-- a cursor has values for no more than the orders
abbrev pub FitsOrders : List Order → Option Cursor → Type 0
FitsOrders orders None = Unit {0}
FitsOrders orders (Some c) = length c.values ≤ length orders

-- A start keeps what comes after the cursor, and what stands at it where the cursor is before its values.
abbrev pub StartKeeps : List Order → List Data → Option Cursor → Type 0
StartKeeps orders xs None = Unit {0}
StartKeeps orders xs (Some c) = Precedes orders c.values xs ⊎ ((c.before ≡ true) × (take (length c.values) xs ≡ c.values))

-- An end keeps what comes before the cursor, and what stands at it where the cursor isn't before its values.
abbrev pub EndKeeps : List Order → List Data → Option Cursor → Type 0
EndKeeps orders xs None = Unit {0}
EndKeeps orders xs (Some c) = Precedes orders xs c.values ⊎ ((c.before ≡ false) × (take (length c.values) xs ≡ c.values))

-- what a comparison of two values in the direction of an order answers
pub record RanksDirected (descending : Bool) (x y : Data) (order : Ordering) : Type 0 where
  pub less : (order ≡ Less) ↔ DirectedBefore descending x y
  pub greater : (order ≡ Greater) ↔ DirectedBefore descending y x
  pub equal : (order ≡ Equal) ↔ (x ≡ y)

-- a document has a value at the field of each order
abbrev pub IsOrdered : (List (List ℕ) → Option Data) → List Order → Type 0
IsOrdered at orders = (xs : List Data) × HasValues at orders xs

-- what a comparison of a document's values, where it has them, with those of a cursor for the first orders answers
abbrev pub RanksAgainst : (List (List ℕ) → Option Data) → List Order → List Data → Ordering → Type 0
RanksAgainst at orders values order = (xs : List Data) → HasValues at orders xs
    → length values ≤ length orders → RanksRows orders xs values order

-- the values of a document at the fields of the orders, with null where it has none
abbrev pub row_values : (List (List ℕ) → Option Data) → List Order → List Data
row_values at [] = []
row_values at (o ∷ os) = unwrap_or (at o.path) null ∷ row_values at os

-- what a comparison of two documents answers, where null stands for a value that is missing
abbrev pub RanksDocuments : List Order → List (List ℕ) → Entries → List (List ℕ) → Entries → Ordering → Type 0
RanksDocuments orders key fields other others order = (root : Root)
    → RanksRows orders (row_values (standing root key fields) orders) (row_values (standing root other others) orders) order

-- what a comparison of two documents at a path answers, where null stands for a value that is missing
abbrev pub RanksAt : List (List ℕ) → List (List ℕ) → Entries → List (List ℕ) → Entries → Ordering → Type 0
RanksAt path key fields other others order = (root : Root)
    → RanksValues order (unwrap_or (standing root key fields path) null) (unwrap_or (standing root other others path) null)

-- what is answered on whether a cursor that fits the orders keeps a document that has values for them
abbrev pub TellsKept : (List Order → List Data → Option Cursor → Type 0) → (List (List ℕ) → Option Data) → List Order → Option Cursor → Bool → Type 0
TellsKept Keeps at orders cursor answer = (xs : List Data) → HasValues at orders xs
    → FitsOrders orders cursor → (IsTrue answer ↔ Keeps orders xs cursor)
