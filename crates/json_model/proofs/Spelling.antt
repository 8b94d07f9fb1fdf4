-- A tree without faults spells what is to stand there.
use Rattle.std.proofs.Common.{rules, ◌≡◌, ◌⊎◌, ℕ, ◌-◌, List, [], ◌∷◌, Bool, true, false, not, codes, Option, Some, None, refl, sym, subst, inl, inr}
use Rattle.std.proofs.lemmas.Bool.{and_parts, not-true, not-false}
use Rattle.serde_json.specs.Data as json
use Rattle.serde_json.specs.Find.{get_member}
use Rattle.value_model.specs.Data.{Data, null, boolean, integer, time, text, bytes, reference, array_of, map_of, Entries}
use Rattle.value_model.specs.Fields.{with_field}
use Rattle.json_model.specs.declared.place.Place.{Place}
use Rattle.json_model.specs.declared.place.Place.TheVariants as place
use Rattle.json_model.specs.declared.place.Object.{Object}
use Rattle.json_model.specs.declared.place.Object.TheVariants as object
use Rattle.json_model.specs.declared.place.Leaf.{Leaf}
use Rattle.json_model.specs.declared.place.Leaf.TheVariants as leaf
use Rattle.json_model.specs.declared.place.Series.{Series}
use Rattle.json_model.specs.declared.place.Series.TheVariants as series
use Rattle.json_model.specs.Grammar.{SpellsScalar, SpellsValue, of_kind, SpellsKind, as_scalar, as_array as by_array, as_map as by_map, SpellsList, no_list, a_list, SpellsItems, no_item, an_item, SpellsMap, no_map, a_map, SpellsMembers, no_member, left_out, a_member, is_kind, is_scalar}
use Rattle.json_model.specs.Faults.{levels_inside}
use Rattle.json_model.specs.Fits.{Fits, FitsFlat, ItemsFit, MembersFit}
use Rattle.json_model.specs.Laws.{NoFaultSpells}
use Rattle.json_model.specs.Leaves.{FitsLeaf}
use Rattle.json_model.specs.Members.{is_null, is_left_out, given, chosen, is_one_known, lacks_choice, later, refined}
use Rattle.json_model.specs.Origin.{Origin}
use Rattle.json_model.specs.Places.{member_place, item_place, required, value_member, is_unknown}
use Rattle.json_model.proofs.Among.{OfEach, each_at, found_among, chosen_among}
use Rattle.json_model.proofs.Built.{kind_known}
use Rattle.json_model.proofs.Fitting.{clean_fits}
use Rattle.json_model.proofs.Sound.{given_some, not_out}

kept : (p : Place) (d : json.Data) (Named Value Found : Type 0) → (is_left_out p d ≡ true) ⊎ ((is_left_out p d ≡ false) × (Named × Value)) → (Value → Found) → is_left_out p d ≡ false → Found
kept p d Named Value Found (inl out) found some = cc
kept p d Named Value Found (inr at) found some = found at.1.1

-- what is to stand at a place of a value stands there
abbrev Spelled : Place → json.Data → Type 0
Spelled (place.Object object.Value) d = (v : Data) × SpellsValue d v
Spelled (place.Object object.Array) d = (v : Data) × SpellsKind (place.Object object.Array) d v
Spelled (place.Object object.Map) d = (v : Data) × SpellsKind (place.Object object.Map) d v
Spelled (place.Object object.Fields) d = (ms : json.Members) × ((d ≡ json.object ms) × ((start : Entries) → (es : Entries) × SpellsMembers ms start es))
Spelled (place.Series series.Values) d = (ds : List Data) × SpellsList (Some d) ds
Spelled (place.Leaf kind) d = is_scalar kind ≡ true → (v : Data) × SpellsScalar kind d v
Spelled place.Unsupported d = ⊥
Spelled _ d = Unit {0}

abbrev AllSpelled : Object → json.Members → Type 0
AllSpelled kind ms = OfEach (λ k d. is_left_out (member_place kind k) d ≡ false → Spelled (member_place kind k) d) ms

pub leaf_spelled : (o : Origin) (kind : Leaf) (d : json.Data) → FitsLeaf o.root kind d → is_scalar kind ≡ true → (v : Data) × SpellsScalar kind d v
leaf_spelled o leaf.Null d f is = (null, (f, refl))
leaf_spelled o leaf.Boolean d f is = (boolean f.0, (f.0, (f.1, refl)))
leaf_spelled o leaf.Integer d f is = (integer f.0, (f.0, (f.1, refl)))
leaf_spelled o leaf.Time d f is = (time f.1.1.0, (f.1.1.0, ((f.0, (f.1.0, f.1.1.1)), refl)))
leaf_spelled o leaf.Text d f is = (text f.0, (f.0, (f.1, refl)))
leaf_spelled o leaf.Bytes d f is = (bytes f.1.1.0, (f.1.1.0, ((f.0, (f.1.0, f.1.1.1)), refl)))
leaf_spelled o leaf.Reference d f is = (reference f.1.1.0, (f.1.1.0, ((f.0, (f.1.0, f.1.1.1)), refl)))
leaf_spelled o _ d f is = cc

-- a member, by its name
named_spelled : (kind : Object) (ms : json.Members) (k : List ℕ) (d : json.Data) → AllSpelled kind ms → get_member k ms ≡ Some d → is_null d ≡ false → Spelled (member_place kind k) d
named_spelled kind ms k d all is some = each_at _ ms k d all (found_among ms k d is) (not_out (member_place kind k) d some)

-- the only alternative of a value
only_spelled : (ms : json.Members) (k : List ℕ) (d : json.Data) → AllSpelled object.Value ms → chosen object.Value ms ≡ (k, d) ∷ [] → Spelled (value_member k) d
only_spelled ms k d all is =
    let at = chosen_among object.Value ms k d is in
    each_at _ ms k d all at.0 (not-true _ (and_parts (not (is_unknown (value_member k))) _ at.1).1)

one_of : (l : List (List ℕ × json.Data)) → is_one_known object.Value l ≡ true → (k : List ℕ) × ((d : json.Data) × ((l ≡ (k, d) ∷ []) × (is_unknown (value_member k) ≡ false)))
one_of [] is = cc
one_of (x ∷ []) is = (x.0, (x.1, (refl, not-true _ is)))
one_of (x ∷ y ∷ l) is = cc

kind_spelled : (p : Place) (d : json.Data) → is_kind p ≡ true → Spelled p d → (v : Data) × SpellsKind p d v
kind_spelled (place.Object object.Array) d is s = s
kind_spelled (place.Object object.Map) d is s = s
kind_spelled (place.Leaf kind) d is s = let found = s is in (found.0, as_scalar found.1)
kind_spelled place.Unsupported d is s = absurd s
kind_spelled _ d is s = cc

value_of : (ms : json.Members) → lacks_choice object.Value ms ≡ false → AllSpelled object.Value ms → (v : Data) × SpellsValue (json.object ms) v
value_of ms chooses all =
    let only = one_of (chosen object.Value ms) (not-false _ chooses) in
    let found = kind_spelled (value_member only.0) only.1.0 (kind_known only.0 only.1.1.1) (only_spelled ms only.0 only.1.0 all only.1.1.0) in
    (found.0, of_kind ms only.0 only.1.0 refl only.1.1.0 found.1)

array_in : (ms : json.Members) → AllSpelled object.Array ms → (v : Data) × SpellsKind (place.Object object.Array) (json.object ms) v
array_in ms all = by (given (codes "values") ms) refl
  where
    by : (found : Option json.Data) → given (codes "values") ms ≡ found → (v : Data) × SpellsKind (place.Object object.Array) (json.object ms) v
    by None is = (array_of [], by_array ms [] refl (subst (λ g. SpellsList g []) (sym is) no_list) refl)
    by (Some d) is =
        let there = given_some (get_member (codes "values") ms) d is in
        let list = named_spelled object.Array ms (codes "values") d all there.0 there.1 in
        (array_of list.0, by_array ms list.0 refl (subst (λ g. SpellsList g list.0) (sym is) list.1) refl)

map_in : (ms : json.Members) → AllSpelled object.Map ms → (v : Data) × SpellsKind (place.Object object.Map) (json.object ms) v
map_in ms all = by (given (codes "fields") ms) refl
  where
    by : (found : Option json.Data) → given (codes "fields") ms ≡ found → (v : Data) × SpellsKind (place.Object object.Map) (json.object ms) v
    by None is = (map_of [], by_map ms [] refl (subst (λ g. SpellsMap g []) (sym is) no_map) refl)
    by (Some d) is =
        let there = given_some (get_member (codes "fields") ms) d is in
        let found = named_spelled object.Map ms (codes "fields") d all there.0 there.1 in
        let fields = found.1.1 [] in
        (map_of fields.0, by_map ms fields.0 refl (subst (λ g. SpellsMap g fields.0) (sym is) (a_map found.0 d found.1.0 fields.1)) refl)

fields_in : (ms : json.Members) → AllSpelled object.Fields ms → (start : Entries) → (es : Entries) × SpellsMembers ms start es
fields_in json.no_members all start = (start, no_member)
fields_in (json.member k d ms) all start = by (is_null d) refl (fields_in ms all.1)
  where
    by : (b : Bool) → is_null d ≡ b → ((old : Entries) → (es : Entries) × SpellsMembers ms old es) → (es : Entries) × SpellsMembers (json.member k d ms) start es
    by true is behind = let rest = behind start in (rest.0, left_out is rest.1)
    by false is behind =
        let value = all.0 (not_out (place.Object object.Value) d is) in
        let rest = behind (with_field start k value.0) in
        (rest.0, a_member value.0 is value.1 rest.1)

object_spelled : (kind : Object) (ms : json.Members) → lacks_choice kind ms ≡ false → AllSpelled (refined kind ms) ms → Spelled (place.Object kind) (json.object ms)
object_spelled object.Value ms chooses all = value_of ms chooses all
object_spelled object.Array ms chooses all = array_in ms all
object_spelled object.Map ms chooses all = map_in ms all
object_spelled object.Fields ms chooses all = (ms, (refl, fields_in ms all))
object_spelled _ ms chooses all = tt

flat_spelled : (o : Origin) (p : Place) (d : json.Data) → FitsFlat o p d → Spelled p d
flat_spelled o (place.Leaf kind) d h = leaf_spelled o kind d h
flat_spelled o _ d h = search rules

list_spelled : (kind : Series) (ds : json.Items) → ((item_place kind ≡ place.Object object.Value) → (vs : List Data) × SpellsItems ds vs) → Spelled (place.Series kind) (json.array ds)
list_spelled series.Values ds items = let found = items refl in (found.0, a_list ds (json.array ds) refl found.1)
list_spelled _ ds items = tt

mutual
  unfolding Fits

  fits_spelled : (o : Origin) (limit : ℕ) (p : Place) (d : json.Data) → Fits o limit p d → Spelled p d
  fits_spelled o limit (place.Series kind) (json.array ds) h = list_spelled kind ds (λ is. items_spelled o limit kind ds is h.1)
  fits_spelled o limit (place.Object kind) (json.object ms) h = object_spelled kind ms h.chooses (members_spelled o (levels_inside kind (limit - h.levels)) (refined kind ms) (required (refined kind ms)) ms h.inside)
  fits_spelled o limit p (json.array ds) h = flat_spelled o p (json.array ds) h
  fits_spelled o limit p (json.object ms) h = flat_spelled o p (json.object ms) h
  fits_spelled o limit p d h = flat_spelled o p d h

  items_spelled : (o : Origin) (limit : ℕ) (kind : Series) (ds : json.Items) → item_place kind ≡ place.Object object.Value → ItemsFit o limit kind ds → (vs : List Data) × SpellsItems ds vs
  items_spelled o limit kind json.no_items is h = ([], no_item)
  items_spelled o limit kind (json.item d ds) is h =
      let first = subst (λ p. Spelled p d) is (fits_spelled o limit (item_place kind) d h.0) in
      let rest = items_spelled o limit kind ds is h.1 in
      (first.0 ∷ rest.0, an_item first.1 rest.1)

  members_spelled : (o : Origin) (limit : ℕ) (kind : Object) (names : List (List ℕ)) (ms : json.Members) → MembersFit o limit kind names ms → AllSpelled kind ms
  members_spelled o limit kind names json.no_members h = tt
  members_spelled o limit kind names (json.member k d ms) h = (kept (member_place kind k) d _ _ _ h.1 (fits_spelled o limit (member_place kind k) d), members_spelled o limit kind (later k names) ms h.2)

pub no_fault_spells : NoFaultSpells
no_fault_spells o limit name d h = fits_spelled o limit (place.Object object.Value) d (clean_fits o limit (place.Object object.Value) name d h)
