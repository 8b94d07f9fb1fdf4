-- What contracts see of a value: plain data of ten kinds.
use Rattle.std.specs.Prelude.{ℕ, suc, max, ℤ, Bool, List, [], ◌∷◌}
use Rattle.value_model.specs.declared.reference.RefName.{RefName}
use Rattle.value_model.specs.declared.timestamp.Timestamp.{Timestamp}

mutual
  -- a value: null, a boolean, a whole number, a time, a time that isn't known yet with the local time of its write, a
  -- text by its bytes, bytes, the name of a document, a list of values, or fields
  pub data Data : Type 0 where
    null : Data
    boolean : Bool → Data
    integer : ℤ → Data
    time : Timestamp → Data
    pending : Timestamp → Data
    text : List ℕ → Data
    bytes : List ℕ → Data
    reference : RefName → Data
    array : Items → Data
    map : Members → Data

  -- the items of an array
  pub data Items : Type 0 where
    no_items : Items
    item : Data → Items → Items

  -- the members of a map, each with its name
  pub data Members : Type 0 where
    no_members : Members
    member : List ℕ → Data → Members → Members

-- fields: names and values
abbrev pub Entries : Type 0
Entries = List (List ℕ × Data)

-- the same items, members and lists
abbrev pub items_of : List Data → Items
items_of [] = no_items
items_of (d ∷ ds) = item d (items_of ds)

abbrev pub members_of : Entries → Members
members_of [] = no_members
members_of (e ∷ es) = member e.0 e.1 (members_of es)

abbrev pub list_of : Items → List Data
list_of no_items = []
list_of (item d ds) = d ∷ list_of ds

abbrev pub entries_of : Members → Entries
entries_of no_members = []
entries_of (member n d ms) = (n, d) ∷ entries_of ms

-- the array of these values, and the map of these fields
abbrev pub array_of : List Data → Data
array_of ds = array (items_of ds)

abbrev pub map_of : Entries → Data
map_of es = map (members_of es)

-- how deep values are nested: 0 for a scalar, and one more than the deepest part of an array or a map
abbrev mutual
  pub depth : Data → ℕ
  depth null = 0
  depth (boolean b) = 0
  depth (integer n) = 0
  depth (time t) = 0
  depth (pending t) = 0
  depth (text s) = 0
  depth (bytes s) = 0
  depth (reference r) = 0
  depth (array ds) = suc (items_depth ds)
  depth (map ms) = suc (members_depth ms)

  pub items_depth : Items → ℕ
  items_depth no_items = 0
  items_depth (item d ds) = max (depth d) (items_depth ds)

  pub members_depth : Members → ℕ
  members_depth no_members = 0
  members_depth (member n d ms) = max (depth d) (members_depth ms)

-- the depth of the deepest value of some fields
abbrev pub entries_depth : Entries → ℕ
entries_depth es = members_depth (members_of es)
