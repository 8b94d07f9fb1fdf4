-- Documents as they are printed: their numbers, how deep they nest, and that they are read.
use Rattle.std.proofs.Common.{◌≡◌, ◌∙◌, ℕ, ◌+◌, ◌*◌, ◌≤◌, List, [], ◌∷◌, codes, Option, Some, None, refl, ap, arith}
use Rattle.std.specs.Prelude.{option_and_then, option_map}
use Rattle.json.specs.Tree as tree
use Rattle.json.specs.Tree.{HasNumbers, ItemsHaveNumbers, MembersHaveNumbers}
use Rattle.serde_json.specs.Data as json
use Rattle.serde_json.specs.Read.{of_json, of_items, of_members}
use Rattle.serde_json.specs.Written.{outline, items_outline, members_outline}
use Rattle.value_model.specs.Data as kind
use Rattle.value_model.specs.Data.{Data, Items, Members, Entries, members_of, depth, items_depth, members_depth, entries_depth}
use Rattle.value_model.specs.declared.timestamp.Timestamp.{Timestamp}
use Rattle.json_model.specs.Printed.{printed_value, printed_items, printed_members, values_tree, fields_tree, printed_fields, with_time, document_tree as body_tree}
use Rattle.line_printer.specs.Trees.{one}
use Rattle.line_printer.specs.Lines.{existing}

-- ---- numbers

values_numbers : (ds : json.Items) → ItemsHaveNumbers (items_outline ds) → HasNumbers (outline (values_tree ds))
values_numbers json.no_items numbers = tt
values_numbers (json.item d ds) numbers = (numbers, tt)

fields_numbers : (ms : json.Members) → MembersHaveNumbers (members_outline ms) → HasNumbers (outline (fields_tree ms))
fields_numbers json.no_members numbers = tt
fields_numbers (json.member name d ms) numbers = (numbers, tt)

mutual
  pub value_numbers : (value : Data) → HasNumbers (outline (printed_value value))
  value_numbers kind.null = (tt, tt)
  value_numbers (kind.array ds) = (values_numbers (printed_items ds) (items_numbers ds), tt)
  value_numbers (kind.map ms) = (fields_numbers (printed_members ms) (members_numbers ms), tt)
  value_numbers value = (tt, tt)

  items_numbers : (ds : Items) → ItemsHaveNumbers (items_outline (printed_items ds))
  items_numbers kind.no_items = tt
  items_numbers (kind.item d ds) = (value_numbers d, items_numbers ds)

  pub members_numbers : (ms : Members) → MembersHaveNumbers (members_outline (printed_members ms))
  members_numbers kind.no_members = tt
  members_numbers (kind.member name d ms) = (value_numbers d, members_numbers ms)

time_numbers : (at : Option Timestamp) → MembersHaveNumbers (members_outline (with_time at))
time_numbers None = tt
time_numbers (Some time) = (tt, tt)

pub body_numbers : (name how : List ℕ) (fields : Entries) (at : Option Timestamp) → HasNumbers (outline (body_tree name fields at how))
body_numbers name how [] at = (tt, (tt, time_numbers at))
body_numbers name how (field ∷ fields) at = (members_numbers (members_of (field ∷ fields)), (tt, (tt, time_numbers at)))

pub existing_numbers : (name how : List ℕ) (fields : Entries) (at : Option Timestamp) → HasNumbers (outline (existing (body_tree name fields at how)))
existing_numbers name how [] at = (tt, (tt, (tt, time_numbers at)))
existing_numbers name how (field ∷ fields) at = (tt, (members_numbers (members_of (field ∷ fields)), (tt, (tt, time_numbers at))))

-- ---- depth: a value takes an object, and a list or a map two levels more

values_flat : (ds : json.Items) (most : ℕ) → tree.items_depth (items_outline ds) ≤ most → tree.depth (outline (values_tree ds)) ≤ 2 + most
values_flat json.no_items most flat = omega arith
values_flat (json.item d ds) most flat = omega (arith, flat)

fields_flat : (ms : json.Members) (most : ℕ) → tree.members_depth (members_outline ms) ≤ most → tree.depth (outline (fields_tree ms)) ≤ 2 + most
fields_flat json.no_members most flat = omega arith
fields_flat (json.member name d ms) most flat = omega (arith, flat)

mutual
  value_flat : (value : Data) → tree.depth (outline (printed_value value)) ≤ 1 + 3 * depth value
  value_flat kind.null = omega arith
  value_flat (kind.array ds) = let inside = values_flat (printed_items ds) (1 + 3 * items_depth ds) (items_flat ds) in omega (arith, inside)
  value_flat (kind.map ms) = let inside = fields_flat (printed_members ms) (1 + 3 * members_depth ms) (members_flat ms) in omega (arith, inside)
  value_flat value = omega arith

  items_flat : (ds : Items) → tree.items_depth (items_outline (printed_items ds)) ≤ 1 + 3 * items_depth ds
  items_flat kind.no_items = omega arith
  items_flat (kind.item d ds) = let first = value_flat d in let rest = items_flat ds in omega (arith, first, rest)

  members_flat : (ms : Members) → tree.members_depth (members_outline (printed_members ms)) ≤ 1 + 3 * members_depth ms
  members_flat kind.no_members = omega arith
  members_flat (kind.member name d ms) = let first = value_flat d in let rest = members_flat ms in omega (arith, first, rest)

time_flat : (at : Option Timestamp) → tree.members_depth (members_outline (with_time at)) ≡ 0
time_flat None = refl
time_flat (Some time) = refl

pub body_flat : (name how : List ℕ) (fields : Entries) (at : Option Timestamp) → tree.depth (outline (body_tree name fields at how)) ≤ 3 + 3 * entries_depth fields
body_flat name how [] at = let none = time_flat at in omega (arith, none)
body_flat name how (field ∷ fields) at = let inside = members_flat (members_of (field ∷ fields)) in let none = time_flat at in omega (arith, inside, none)

-- ---- what is read

-- there is one of these
pub record There {X : Type 0} (o : Option X) : Type 0 where
  pub it : X
  pub is : o ≡ Some it

values_there : (ds : json.Items) → There (of_items (items_outline ds)) → There (of_json (outline (values_tree ds)))
values_there json.no_items found = record { it = json.object json.no_members; is = refl }
values_there (json.item d ds) found = record {
  it = one (codes "values") (json.array found.it);
  is = ap (λ o. option_map json.object (option_and_then (λ e. Some (json.member (codes "values") e json.no_members)) (option_map json.array o))) found.is;
}

fields_there : (ms : json.Members) → There (of_members (members_outline ms) json.no_members) → There (of_json (outline (fields_tree ms)))
fields_there json.no_members found = record { it = json.object json.no_members; is = refl }
fields_there (json.member name d ms) found = record {
  it = one (codes "fields") (json.object found.it);
  is = ap (λ o. option_map json.object (option_and_then (λ e. Some (json.member (codes "fields") e json.no_members)) (option_map json.object o))) found.is;
}

-- an object with one member that is there
one_there : (name : List ℕ) (d : json.Data) → There (of_json (outline d)) → There (of_json (outline (one name d)))
one_there name d found = record {
  it = one name found.it;
  is = ap (λ o. option_map json.object (option_and_then (λ e. Some (json.member name e json.no_members)) o)) found.is;
}

-- an item before others, and a member before others
pub item_there : (d : json.Data) (ds : json.Items) → There (of_json (outline d)) → There (of_items (items_outline ds)) → There (of_items (items_outline (json.item d ds)))
item_there d ds first rest = record {
  it = json.item first.it rest.it;
  is = ap (option_and_then (λ e. option_map (json.item e) (of_items (items_outline ds)))) first.is ∙ ap (option_map (json.item first.it)) rest.is;
}

member_there : (name : List ℕ) (d : json.Data) (ms found : json.Members) → There (of_json (outline d)) → ((e : json.Data) → There (of_members (members_outline ms) (json.put name e found)))
    → There (of_members (members_outline (json.member name d ms)) found)
member_there name d ms found first rest = record {
  it = (rest first.it).it;
  is = ap (option_and_then (λ e. of_members (members_outline ms) (json.put name e found))) first.is ∙ (rest first.it).is;
}

mutual
  value_there : (value : Data) → There (of_json (outline (printed_value value)))
  value_there kind.null = record { it = _; is = refl }
  value_there (kind.array ds) = one_there (codes "arrayValue") (values_tree (printed_items ds)) (values_there (printed_items ds) (items_there ds))
  value_there (kind.map ms) = one_there (codes "mapValue") (fields_tree (printed_members ms)) (fields_there (printed_members ms) (members_there ms json.no_members))
  value_there value = record { it = _; is = refl }

  items_there : (ds : Items) → There (of_items (items_outline (printed_items ds)))
  items_there kind.no_items = record { it = json.no_items; is = refl }
  items_there (kind.item d ds) = item_there (printed_value d) (printed_items ds) (value_there d) (items_there ds)

  members_there : (ms : Members) (found : json.Members) → There (of_members (members_outline (printed_members ms)) found)
  members_there kind.no_members found = record { it = found; is = refl }
  members_there (kind.member name d ms) found = member_there name (printed_value d) (printed_members ms) found (value_there d) (λ e. members_there ms (json.put name e found))

pub object_there : (ms : json.Members) → There (of_members (members_outline ms) json.no_members) → There (of_json (outline (json.object ms)))
object_there ms found = record { it = json.object found.it; is = ap (option_map json.object) found.is }

time_there : (at : Option Timestamp) (found : json.Members) → There (of_members (members_outline (with_time at)) found)
time_there None found = record { it = found; is = refl }
time_there (Some time) found = record { it = _; is = refl }

-- the members of a document behind its fields
abbrev named : List ℕ → List ℕ → Option Timestamp → json.Members
named name how at = json.member (codes "name") (json.string name) (json.member (codes "state") (json.string how) (with_time at))

named_there : (name how : List ℕ) (at : Option Timestamp) (found : json.Members) → There (of_members (members_outline (named name how at)) found)
named_there name how at found = time_there at (json.put (codes "state") (json.string how) (json.put (codes "name") (json.string name) found))

pub body_there : (name how : List ℕ) (fields : Entries) (at : Option Timestamp) → There (of_json (outline (body_tree name fields at how)))
body_there name how [] at = object_there (named name how at) (named_there name how at json.no_members)
body_there name how (field ∷ fields) at =
    let inside = object_there (printed_members (members_of (field ∷ fields))) (members_there (members_of (field ∷ fields)) json.no_members) in
    object_there (json.member (codes "fields") (printed_fields (field ∷ fields)) (named name how at))
    (member_there (codes "fields") (printed_fields (field ∷ fields)) (named name how at) json.no_members inside (λ e. named_there name how at (json.put (codes "fields") e json.no_members)))
