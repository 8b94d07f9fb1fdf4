-- the parts of arrays and maps, as lists and as data
use Rattle.std.proofs.Common.{◌≡◌, ℕ, zero, suc, ◌<◌, ◌≤◌, List, [], ◌∷◌, length, get_or, refl, ap, arith}
use Rattle.std.specs.List.{All}
use Rattle.std.proofs.lemmas.List.Elements.{All-cons, All-head, All-nil, All-tail}
use Rattle.value_model.specs.Data.{Data, Items, no_items, item, Members, no_members, member, Entries, items_of, list_of, members_of, entries_of, depth, items_depth, entries_depth}
use Rattle.value_model.specs.Storable.{IsStorable, AreStorableItems, AreStorableMembers}

pub list_items : (ds : List Data) → list_of (items_of ds) ≡ ds
list_items [] = refl
list_items (d ∷ ds) = ap (λ l. d ∷ l) (list_items ds)

pub items_list : (ds : Items) → items_of (list_of ds) ≡ ds
items_list no_items = refl
items_list (item d ds) = ap (item d) (items_list ds)

pub entries_members : (es : Entries) → entries_of (members_of es) ≡ es
entries_members [] = refl
entries_members (e ∷ es) = ap (λ l. e ∷ l) (entries_members es)

pub members_entries : (ms : Members) → members_of (entries_of ms) ≡ ms
members_entries no_members = refl
members_entries (member n d ms) = ap (member n d) (members_entries ms)

-- a part isn't deeper than the whole
pub item_depth : (ds : List Data) (i : ℕ) (d : Data) → i < length ds → depth (get_or ds i d) ≤ items_depth (items_of ds)
item_depth [] i d below = absurd (omega arith)
item_depth (x ∷ ds) zero d below = omega arith
item_depth (x ∷ ds) (suc i) d below = let rest = item_depth ds i d (omega arith) in omega arith

pub entry_depth : (es : Entries) (i : ℕ) (d : List ℕ × Data) → i < length es → depth (get_or es i d).1 ≤ entries_depth es
entry_depth [] i d below = absurd (omega arith)
entry_depth (x ∷ es) zero d below = omega arith
entry_depth (x ∷ es) (suc i) d below = let rest = entry_depth es i d (omega arith) in omega arith

-- values that can be stored, one by one
pub items_storable : (ds : List Data) → All IsStorable ds → AreStorableItems (items_of ds)
items_storable [] all = tt
items_storable (d ∷ ds) all = (All-head IsStorable d ds all, items_storable ds (All-tail IsStorable d ds all))

pub storable_items : (ds : List Data) → AreStorableItems (items_of ds) → All IsStorable ds
storable_items [] all = All-nil IsStorable
storable_items (d ∷ ds) all = All-cons IsStorable d ds all.0 (storable_items ds all.1)

pub members_storable : (es : Entries) → All (λ e. IsStorable e.1) es → AreStorableMembers (members_of es)
members_storable [] all = tt
members_storable (e ∷ es) all = (All-head (λ e. IsStorable e.1) e es all, members_storable es (All-tail (λ e. IsStorable e.1) e es all))

pub storable_members : (es : Entries) → AreStorableMembers (members_of es) → All (λ e. IsStorable e.1) es
storable_members [] all = All-nil (λ e. IsStorable e.1)
storable_members (e ∷ es) all = All-cons (λ e. IsStorable e.1) e es all.0 (storable_members es all.1)
