-- What is built of a tree without faults is what it spells.
use Rattle.std.proofs.Common.{◌≡◌, ◌≢◌, ℕ, zero, suc, ◌+◌, ◌-◌, ◌<◌, ◌≤◌, List, [], ◌∷◌, ◌++◌, length, take, get_or, String, true, false, ◌||◌, codes, Some, None, refl, sym, ap, subst, inl, inr, ◌∙◌, arith}
use Rattle.std.specs.String.{string_bytes}
use Rattle.std.specs.declared.alloc.Global.{Global}
use Rattle.std.proofs.lemmas.Bool.{or_cases}
use Rattle.std.proofs.lemmas.List.{take_more}
use Rattle.std.proofs.Math.Seq.{take-length}
use Rattle.document_keys.specs.Paths.{IsFieldName}
use Rattle.serde_json.specs.Data as json
use Rattle.serde_json.specs.Find.{as_object, as_array}
use Rattle.serde_json.specs.View.{view, items_view, members_view}
use Rattle.serde_json.specs.declared.value.Value.{Value as Json}
use Rattle.value_model.specs.Data.{Data, Entries, items_of, array_of, map_of}
use Rattle.value_model.specs.Fields.{with_field}
use Rattle.value_model.specs.Storable.{IsStorable, AreStorableItems}
use Rattle.json_model.specs.declared.place.Place.{Place}
use Rattle.json_model.specs.declared.place.Place.TheVariants as place
use Rattle.json_model.specs.declared.place.Object.{Object}
use Rattle.json_model.specs.declared.place.Object.TheVariants as object
use Rattle.json_model.specs.declared.place.Leaf.{Leaf}
use Rattle.json_model.specs.declared.place.Series.{Series}
use Rattle.json_model.specs.Clean.{IsClean, ItemsAreClean, AreClean}
use Rattle.json_model.specs.Faults.{FaultsAt, ItemsFaults, OwnName}
use Rattle.json_model.specs.Grammar.{SpellsValue, of_kind, SpellsKind, as_array as by_array, as_map as by_map, SpellsList, no_list, a_list, SpellsMap, no_map, a_map, SpellsFields, SpellsItems, no_item, an_item, SpellsMembers, no_member, left_out, a_member, is_kind}
use Rattle.json_model.specs.Members.{is_null, given, chosen}
use Rattle.json_model.specs.Origin.{Origin}
use Rattle.json_model.specs.Places.{item_place, value_rows, value_member, is_unknown, required}
use Rattle.json_model.proofs.Among.{Among, each_at, entry_among}
use Rattle.json_model.proofs.Rows.{every_row}
use Rattle.json_model.proofs.Sound.{sound, each_clean, not_out, nothing_first, nothing_last}
use Rattle.json_model.proofs.Stored.{items_push}
use Rattle.json_model.proofs.Trees.{object_at, array_at}

-- ---- a value

pub kind_known : (name : List ℕ) → is_unknown (value_member name) ≡ false → is_kind (value_member name) ≡ true
unfolding value_rows
kind_known name known = elim (or_cases _ _ (every_row (λ p. is_kind p || is_unknown p) value_rows name refl refl)) [ inl is ↦ is | inr unknown ↦ let e = sym unknown ∙ known in cc ]

pub unsupported : (o : Origin) (limit : ℕ) (name : List ℕ) (d : json.Data) → FaultsAt o limit place.Unsupported name d [] → ⊥
unfolding FaultsAt
unsupported o limit name json.null h = cc
unsupported o limit name _ h = cc

pub no_other_kind : (o : Origin) (p : Place) (d : json.Data) → is_kind p ≡ true → IsClean o p d → ((kind : Object) → p ≢ place.Object kind) → ((kind : Leaf) → p ≢ place.Leaf kind) → ⊥
no_other_kind o (place.Object kind) d is clean objects leaves = objects kind refl
no_other_kind o (place.Leaf kind) d is clean objects leaves = leaves kind refl
no_other_kind o place.Unsupported d is clean objects leaves = unsupported o clean.0 clean.1 d clean.3
no_other_kind o _ d is clean objects leaves = cc

pub no_other_object : (kind : Object) → is_kind (place.Object kind) ≡ true → kind ≢ object.Array → kind ≢ object.Map → ⊥
no_other_object object.Array is array map = array refl
no_other_object object.Map is array map = map refl
no_other_object _ is array map = cc

-- ---- lists

-- the values of some items
pub record Items (items : List Json) (vs : List Data) : Type 0 where
  pub spelled : SpellsItems (items_view items) vs
  pub stored : AreStorableItems (items_of vs)

each_push : (items : List Json) (one : Json) (vs : List Data) (v : Data) → SpellsItems (items_view items) vs → SpellsValue (view one) v → SpellsItems (items_view (items ++ one ∷ [])) (vs ++ v ∷ [])
each_push [] one _ v no_item is = an_item is no_item
each_push (x ∷ items) one _ v (an_item {vs = ws} first rest) is = an_item first (each_push items one ws v rest is)

pub items_at : (items : List Json) (i : ℕ) (one : Json) → i < length items → one ≡ get_or items i one → take (i + 1) items ≡ take i items ++ one ∷ []
items_at items i one below is = take_more items i one below ∙ ap (λ x. take i items ++ x ∷ []) (sym is)

pub whole_list : (items : List Json) (i : ℕ) → length items ≤ i → i ≤ length items → take i items ≡ items
whole_list items i below above = let e : i ≡ length items = omega arith in ap (λ n. take n items) e ∙ take-length items

pub no_items : (vs : List Data) → vs ≡ [] → Items [] vs
no_items vs none = rw none (record { spelled = no_item; stored = tt })

pub one_more : (items : List Json) (i : ℕ) (one : Json) (old new : List Data) (v : Data) → i < length items → one ≡ get_or items i one → Items (take i items) old → SpellsValue (view one) v → IsStorable v → new ≡ old ++ v ∷ [] → Items (take (i + 1) items) new
one_more items i one old new v below is so_far spells stored pushed = rw (items_at items i one below is, pushed) (record {
  spelled = each_push (take i items) one old v so_far.spelled spells;
  stored = items_push old v so_far.stored stored;
})

-- ---- the items of a list without faults, and the members of fields without faults

pub item_faults : (o : Origin) (limit : ℕ) (kind : Series) (name : List ℕ) (d : json.Data) (ds : json.Items) → ItemsFaults o limit kind name (json.item d ds) [] → FaultsAt o limit (item_place kind) name d [] × ItemsFaults o limit kind name ds []
unfolding FaultsAt
item_faults o limit kind name d ds (first, rest, at, more, none) = (subst (FaultsAt o limit (item_place kind) name d) (nothing_first first rest none) at, subst (ItemsFaults o limit kind name ds) (nothing_last first rest none) more)

item_sound : (o : Origin) (limit : ℕ) (kind : Series) (name : List ℕ) (items : List Json) (i : ℕ) (one : Json) → i < length items → one ≡ get_or items i one → ItemsFaults o limit kind name (items_view items) [] → FaultsAt o limit (item_place kind) name (view one) []
item_sound o limit kind name [] i one below is clean = absurd (omega arith)
item_sound o limit kind name (x ∷ items) zero one below is clean = subst (λ j. FaultsAt o limit (item_place kind) name (view j) []) (sym is) (item_faults o limit kind name (view x) (items_view items) clean).0
item_sound o limit kind name (x ∷ items) (suc i) one below is clean = item_sound o limit kind name items i one (omega arith) is (item_faults o limit kind name (view x) (items_view items) clean).1

pub item_clean : (o : Origin) (kind : Series) (items : List Json) (i : ℕ) (one : Json) → i < length items → one ≡ get_or items i one → ItemsAreClean o kind (items_view items) → IsClean o (item_place kind) (view one)
item_clean o kind items i one below is (limit, name, room, clean) = (limit, name, room, item_sound o limit kind name items i one below is clean)

abbrev pub Entry : Type 0
Entry = String Global × Json

pub named : (name : List ℕ) → OwnName object.Fields name [] → IsFieldName name
named name (inl is) = is.0
named name (inr bad) = cc (bad.2)

pub field_clean : (o : Origin) (done rest : List Entry) (all : List Entry) (e : Entry) → all ≡ done ++ e ∷ rest → AreClean o object.Fields (members_view all) → is_null (view e.1) ≡ false → IsFieldName (string_bytes e.0) × IsClean o (place.Object object.Value) (view e.1)
field_clean o done rest all e is (limit, name, room, clean) some =
    let inside = sound o limit object.Fields name (members_view all) clean in
    let left = limit - inside.levels in
    let at = subst (λ (l : List Entry). Among (string_bytes e.0) (view e.1) (members_view l)) (sym is) (entry_among done rest e) in
    let here = each_at _ (members_view all) _ _ (each_clean o left object.Fields (required object.Fields) (members_view all) inside.inside) at (not_out (place.Object object.Value) (view e.1) some) in
    (named (string_bytes e.0) here.0, (left, string_bytes e.0, omega arith, here.1))

-- ---- fields

pub member_skip : (es : List Entry) (e : Entry) (old new : Entries) → is_null (view e.1) ≡ true → SpellsMembers (members_view es) old new → SpellsMembers (members_view (es ++ e ∷ [])) old new
member_skip [] e old _ nothing no_member = left_out nothing no_member
member_skip (x ∷ es) e old new nothing (left_out out rest) = left_out out (member_skip es e old new nothing rest)
member_skip (x ∷ es) e old new nothing (a_member v some spelled rest) = a_member v some spelled (member_skip es e _ new nothing rest)

member_push : (es : List Entry) (e : Entry) (old new : Entries) (v : Data) → is_null (view e.1) ≡ false → SpellsValue (view e.1) v → SpellsMembers (members_view es) old new → SpellsMembers (members_view (es ++ e ∷ [])) old (with_field new (string_bytes e.0) v)
member_push [] e old _ v some spells no_member = a_member v some spells no_member
member_push (x ∷ es) e old new v some spells (left_out out rest) = left_out out (member_push es e old new v some spells rest)
member_push (x ∷ es) e old new v some spells (a_member w kept spelled rest) = a_member w kept spelled (member_push es e _ new v some spells rest)

pub member_more : (es : List Entry) (key : String Global) (value : Json) (text name : List ℕ) (old new now : Entries) (v : Data) → text ≡ string_bytes key → name ≡ text → is_null (view value) ≡ false → SpellsValue (view value) v → SpellsMembers (members_view es) old new
    → now ≡ with_field new name v → SpellsMembers (members_view (es ++ (key, value) ∷ [])) old now
member_more es key value text name old new now v keyed named some spells so_far put =
    subst (SpellsMembers (members_view (es ++ (key, value) ∷ [])) old) (ap (λ n. with_field new n v) (sym (named ∙ keyed)) ∙ sym put) (member_push es (key, value) old new v some spells so_far)

-- ---- arrays and maps

at_object : (d : json.Data) (ms : json.Members) → as_object d ≡ Some ms → d ≡ json.object ms
at_object d ms is = object_at d ms (sym is)

pub empty_array : (d : json.Data) (ms : json.Members) (vs : List Data) (v : Data) → as_object d ≡ Some ms → None ≡ given (codes "values") ms → vs ≡ [] → v ≡ array_of vs → SpellsKind (place.Object object.Array) d v
empty_array d ms vs v is none empty means = by_array ms [] (at_object d ms is) (subst (λ g. SpellsList g []) none no_list) (means ∙ ap array_of empty)

pub full_array : (d e : json.Data) (ms : json.Members) (vs : List Data) (v : Data) → as_object d ≡ Some ms → Some e ≡ given (codes "values") ms → SpellsList (Some e) vs → v ≡ array_of vs → SpellsKind (place.Object object.Array) d v
full_array d e ms vs v is some list means = by_array ms vs (at_object d ms is) (subst (λ g. SpellsList g vs) some list) means

pub empty_map : (d : json.Data) (ms : json.Members) (es : Entries) (v : Data) → as_object d ≡ Some ms → None ≡ given (codes "fields") ms → es ≡ [] → v ≡ map_of es → SpellsKind (place.Object object.Map) d v
empty_map d ms es v is none empty means = by_map ms [] (at_object d ms is) (subst (λ g. SpellsMap g []) none no_map) (means ∙ ap map_of empty)

pub full_map : (d e : json.Data) (ms : json.Members) (es : Entries) (v : Data) → as_object d ≡ Some ms → Some e ≡ given (codes "fields") ms → SpellsFields e es → v ≡ map_of es → SpellsKind (place.Object object.Map) d v
full_map d e ms es v is some fields means = by_map ms es (at_object d ms is) (subst (λ g. SpellsMap g es) some (a_map fields.members e fields.is fields.spelled)) means

pub a_value : (d e : json.Data) (ms : json.Members) (name : List ℕ) (v : Data) → as_object d ≡ Some ms → chosen object.Value ms ≡ (name, e) ∷ [] → SpellsKind (value_member name) e v → SpellsValue d v
a_value d e ms name v is only spells = of_kind ms name e (at_object d ms is) only spells

pub a_full_list : (d : json.Data) (ds : json.Items) (vs : List Data) → as_array d ≡ Some ds → SpellsItems ds vs → SpellsList (Some d) vs
a_full_list d ds vs is spells = a_list ds d (array_at d ds (sym is)) spells
