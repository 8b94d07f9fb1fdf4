-- What is printed has no floats, so that its text is compact_text's.
use Rattle.std.proofs.Common.{◌≡◌, ℕ, List, [], ◌∷◌, Bool, false, ◌||◌, Option, Some, None, option_map, refl}
use Rattle.serde_json.specs.Data as json
use Rattle.serde_json.specs.Written.{has_float, items_have_float, members_have_float}
use Rattle.value_model.specs.Data.{Data, array, map, Items, no_items, item, Members, no_members, member, Entries, members_of}
use Rattle.json_model.specs.Forms.{before, present, unless_empty, printed_each}
use Rattle.json_model.specs.Printed.{printed_value, printed_items, printed_members, printed_fields, values_tree, fields_tree}

pub neither : (a b : Bool) → a ≡ false → b ≡ false → (a || b) ≡ false
neither a b first second = rw (first, second)

-- ---- members and items, of which some are left out

-- what is there has none
abbrev pub NoFloat : Option json.Data → Type 0
NoFloat None = Unit {0}
NoFloat (Some d) = has_float d ≡ false

abbrev pub NoFloats : List (List ℕ × Option json.Data) → Type 0
NoFloats [] = Unit {0}
NoFloats (row ∷ rows) = NoFloat row.1 × NoFloats rows

pub row_digits : (name : List ℕ) (found : Option json.Data) (ms : json.Members) → NoFloat found → members_have_float ms ≡ false → members_have_float (before name found ms) ≡ false
row_digits name None ms none rest = rest
row_digits name (Some d) ms none rest = neither (has_float d) (members_have_float ms) none rest

pub rows_digits : (rows : List (List ℕ × Option json.Data)) → NoFloats rows → members_have_float (present rows) ≡ false
rows_digits [] none = refl
rows_digits (row ∷ rows) none = row_digits row.0 row.1 (present rows) none.0 (rows_digits rows none.1)

pub each_digits : {X : Type 0} (print : X → json.Data) → ((x : X) → has_float (print x) ≡ false) → (xs : List X) → items_have_float (printed_each print xs) ≡ false
each_digits print none [] = refl
each_digits print none (x ∷ xs) = neither (has_float (print x)) (items_have_float (printed_each print xs)) (none x) (each_digits print none xs)

pub list_digits : (ds : json.Items) → items_have_float ds ≡ false → NoFloat (unless_empty ds)
list_digits json.no_items none = tt
list_digits (json.item d ds) none = none

pub option_digits : {X : Type 0} (print : X → json.Data) → ((x : X) → has_float (print x) ≡ false) → (found : Option X) → NoFloat (option_map print found)
option_digits print none None = tt
option_digits print none (Some x) = none x

-- ---- values

values_digits : (ds : json.Items) → items_have_float ds ≡ false → has_float (values_tree ds) ≡ false
values_digits json.no_items none = refl
values_digits (json.item d ds) none = neither _ false none refl

fields_digits : (ms : json.Members) → members_have_float ms ≡ false → has_float (fields_tree ms) ≡ false
fields_digits json.no_members none = refl
fields_digits (json.member n d ms) none = neither _ false none refl

mutual
  pub value_digits : (d : Data) → has_float (printed_value d) ≡ false
  value_digits (array ds) = neither _ false (values_digits (printed_items ds) (items_digits ds)) refl
  value_digits (map ms) = neither _ false (fields_digits (printed_members ms) (members_digits ms)) refl
  value_digits _ = refl

  items_digits : (ds : Items) → items_have_float (printed_items ds) ≡ false
  items_digits no_items = refl
  items_digits (item d ds) = neither _ _ (value_digits d) (items_digits ds)

  members_digits : (ms : Members) → members_have_float (printed_members ms) ≡ false
  members_digits no_members = refl
  members_digits (member n d ms) = neither _ _ (value_digits d) (members_digits ms)

pub printed_fields_digits : (fields : Entries) → has_float (printed_fields fields) ≡ false
printed_fields_digits fields = members_digits (members_of fields)
