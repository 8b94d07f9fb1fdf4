-- What is read of a tree without faults nests no deeper than it may.
use Rattle.std.proofs.Common.{◌≡◌, ℕ, ◌-◌, ◌≤◌, suc, List, [], ◌∷◌, Ordering, Less, sym, ap, subst, codes, refl, arith}
use Rattle.std.specs.Ordering.{nat_cmp, match_ordering}
use Rattle.std.specs.Cmp.Lexicographic.{slice_cmp}
use Rattle.serde_json.specs.Data as json
use Rattle.std.specs.Prelude.{Option, Some}
use Rattle.value_model.specs.Data.{Data, Entries, items_of, members_of, depth, items_depth, members_depth, entries_depth}
use Rattle.value_model.specs.Fields.{with_field}
use Rattle.json_model.specs.declared.place.Place.{Place}
use Rattle.json_model.specs.declared.place.Place.TheVariants as place
use Rattle.json_model.specs.declared.place.Object.{Object}
use Rattle.json_model.specs.declared.place.Object.TheVariants as object
use Rattle.json_model.specs.declared.place.Leaf.{Leaf}
use Rattle.json_model.specs.declared.place.Leaf.TheVariants as leaf
use Rattle.json_model.specs.declared.place.Series.TheVariants as series
use Rattle.json_model.specs.Clean.{IsClean, AreClean}
use Rattle.json_model.specs.Faults.{FaultsAt, ItemsFaults, MembersFaults, max_nesting}
use Rattle.json_model.specs.Grammar.{SpellsScalar, SpellsValue, of_kind, SpellsKind, as_scalar, as_array as by_array, as_map as by_map, SpellsList, no_list, a_list, SpellsItems, no_item, an_item, SpellsMap, no_map, a_map, SpellsMembers, no_member, left_out, a_member, SpellsFields}
use Rattle.json_model.specs.Members.{given}
use Rattle.json_model.specs.Origin.{Origin}
use Rattle.json_model.specs.Places.{value_member}
use Rattle.json_model.proofs.Built.{item_faults}
use Rattle.json_model.proofs.Choices.{chosen_clean}
use Rattle.json_model.proofs.Sound.{Sound, sound, sound_list, first_of, at_clean, not_out, member_clean, given_some}

scalar_deep : (kind : Leaf) (d : json.Data) (v : Data) → SpellsScalar kind d v → depth v ≡ 0
scalar_deep leaf.Null d v s = ap depth s.1
scalar_deep leaf.Boolean d v s = ap depth s.1.1
scalar_deep leaf.Integer d v s = ap depth s.1.1
scalar_deep leaf.Time d v s = ap depth s.1.1
scalar_deep leaf.Text d v s = ap depth s.1.1
scalar_deep leaf.Bytes d v s = ap depth s.1.1
scalar_deep leaf.Reference d v s = ap depth s.1.1
scalar_deep _ d v s = absurd s

put_deep : (es : Entries) (name : List ℕ) (v : Data) (limit : ℕ) → entries_depth es ≤ limit → depth v ≤ limit → entries_depth (with_field es name v) ≤ limit
put_deep [] name v limit all one = omega arith
put_deep (e ∷ es) name v limit all one = by (slice_cmp nat_cmp name e.0) (put_deep es name v limit (omega arith) one)
  where
    by : (o : Ordering) → entries_depth (with_field es name v) ≤ limit → entries_depth (match_ordering o ((name, v) ∷ e ∷ es) ((e.0, v) ∷ es) (e ∷ with_field es name v)) ≤ limit
    by Less later = omega arith
    by _ later = omega arith

-- the faults at a place are those of the object or the list there
at : (o : Origin) (limit : ℕ) (p : Place) (d e : json.Data) → d ≡ e → (name : List ℕ) × FaultsAt o limit p name d [] → (name : List ℕ) × FaultsAt o limit p name e []
at o limit p d e is clean = (clean.0, subst (λ t. FaultsAt o limit p clean.0 t []) is clean.1)

sound_at : (o : Origin) (limit : ℕ) (kind : Object) (d : json.Data) (ms : json.Members) → d ≡ json.object ms
    → (clean : (name : List ℕ) × FaultsAt o limit (place.Object kind) name d []) → Sound o limit kind clean.0 ms
sound_at o limit kind d ms is clean = sound o limit kind clean.0 ms (subst (λ t. FaultsAt o limit (place.Object kind) clean.0 t []) is clean.1)

mutual
  pub value_deep : (o : Origin) (limit : ℕ) (d : json.Data) (v : Data) → (name : List ℕ) × FaultsAt o limit (place.Object object.Value) name d [] → SpellsValue d v → depth v ≤ limit
  value_deep o limit d v clean (of_kind ms k inner is only spelled) =
      let inside = sound_at o limit object.Value d ms is clean in
      let e : 0 ≡ inside.levels = sym inside.takes in
      let more = kind_deep o (limit - inside.levels) (value_member k) inner v (k, chosen_clean o (limit - inside.levels) object.Value ms [] ms k inner inside.inside only) spelled in
      omega arith

  kind_deep : (o : Origin) (limit : ℕ) (p : Place) (d : json.Data) (v : Data) → (name : List ℕ) × FaultsAt o limit p name d [] → SpellsKind p d v → depth v ≤ limit
  kind_deep o limit _ d v clean (as_scalar {kind = k} s) = let flat = scalar_deep k d v s in omega arith
  kind_deep o limit _ d v clean (by_array ms ds is list means) =
      let inside = sound_at o limit object.Array d ms is clean in
      let e : 1 ≡ inside.levels = sym inside.takes in
      let room = inside.room in
      let more = list_deep o (limit - inside.levels) ms ds inside.inside (given (codes "values") ms) refl list in
      let whole : depth v ≡ suc (items_depth (items_of ds)) = ap depth means in omega arith
  kind_deep o limit _ d v clean (by_map ms es is fields means) =
      let inside = sound_at o limit object.Map d ms is clean in
      let e : 1 ≡ inside.levels = sym inside.takes in
      let room = inside.room in
      let more = map_deep o (limit - inside.levels) ms es inside.inside (given (codes "fields") ms) refl fields in
      let whole : depth v ≡ suc (members_depth (members_of es)) = ap depth means in omega arith

  list_deep : (o : Origin) (limit : ℕ) (ms : json.Members) (ds : List Data) → MembersFaults o limit object.Array [] ms [] → (found : Option json.Data) → given (codes "values") ms ≡ found → SpellsList found ds → items_depth (items_of ds) ≤ limit
  list_deep o limit ms ds clean _ is no_list = omega arith
  list_deep o limit ms ds clean _ is (a_list items d held spelled) =
      let there = given_some _ d is in
      let here = at o limit (place.Series series.Values) d (json.array items) held (codes "values", member_clean o limit object.Array [] ms (codes "values") d clean there.0 there.1) in
      items_deep o limit here.0 items ds (sound_list o limit series.Values here.0 items here.1).1 spelled

  items_deep : (o : Origin) (limit : ℕ) (name : List ℕ) (items : json.Items) (ds : List Data) → ItemsFaults o limit series.Values name items [] → SpellsItems items ds → items_depth (items_of ds) ≤ limit
  items_deep o limit name _ ds clean no_item = omega arith
  items_deep o limit name _ ds clean (an_item {d = d} {items = items} {v = v} {vs = vs} first rest) =
      let here = item_faults o limit series.Values name d items clean in
      let one = value_deep o limit d v (name, here.0) first in
      let more = items_deep o limit name items vs here.1 rest in omega arith

  map_deep : (o : Origin) (limit : ℕ) (ms : json.Members) (es : Entries) → MembersFaults o limit object.Map [] ms [] → (found : Option json.Data) → given (codes "fields") ms ≡ found → SpellsMap found es → entries_depth es ≤ limit
  map_deep o limit ms es clean _ is no_map = omega arith
  map_deep o limit ms es clean _ is (a_map ns d held spelled) =
      let there = given_some _ d is in
      let inside = sound_at o limit object.Fields d ns held (codes "fields", member_clean o limit object.Map [] ms (codes "fields") d clean there.0 there.1) in
      let e : 0 ≡ inside.levels = sym inside.takes in
      let more = members_deep o (limit - inside.levels) ns [] es inside.inside (omega arith) spelled in
      omega arith

  pub members_deep : (o : Origin) (limit : ℕ) (ms : json.Members) (es fs : Entries) → MembersFaults o limit object.Fields [] ms [] → entries_depth es ≤ limit → SpellsMembers ms es fs → entries_depth fs ≤ limit
  members_deep o limit _ es fs clean start no_member = start
  members_deep o limit _ es fs clean start (left_out {name = k} {d = d} {ms = ms} is rest) = members_deep o limit ms es fs (first_of o limit object.Fields [] k d ms clean).rest start rest
  members_deep o limit _ es fs clean start (a_member {name = k} {d = d} {ms = ms} v some spelled rest) =
      let here = first_of o limit object.Fields [] k d ms clean in
      let value = at_clean o limit object.Fields k d [] here.at refl (not_out (place.Object object.Value) d some) in
      members_deep o limit ms (with_field es k v) fs here.rest (put_deep es k v limit start (value_deep o limit d v (k, value.1) spelled)) rest

-- the values of a list without faults nest no deeper than there are levels
pub values_deep : (o : Origin) (limit : ℕ) (name : List ℕ) (d : json.Data) (ds : List Data) → FaultsAt o limit (place.Series series.Values) name d [] → SpellsList (Some d) ds → items_depth (items_of ds) ≤ limit
values_deep o limit name d ds clean (a_list items _ is spelled) =
    let here = at o limit (place.Series series.Values) d (json.array items) is (name, clean) in
    items_deep o limit here.0 items ds (sound_list o limit series.Values here.0 items here.1).1 spelled

pub fields_deep : (o : Origin) (limit : ℕ) (name : List ℕ) (d : json.Data) (es : Entries) → FaultsAt o limit (place.Object object.Fields) name d [] → SpellsFields d es → entries_depth es ≤ limit
fields_deep o limit name d es clean spelled =
    let inside = sound_at o limit object.Fields d spelled.members spelled.is (name, clean) in
    let e : 0 ≡ inside.levels = sym inside.takes in
    let more = members_deep o (limit - inside.levels) spelled.members [] es inside.inside (omega arith) spelled.spelled in
    omega arith

pub clean_deep : (o : Origin) (ms : json.Members) (es : Entries) → AreClean o object.Fields ms → SpellsMembers ms [] es → entries_depth es ≤ max_nesting
clean_deep o ms es (limit, name, room, clean) spelled =
    let inside = sound o limit object.Fields name ms clean in
    let more = members_deep o (limit - inside.levels) ms [] es inside.inside (omega arith) spelled in
    omega arith

-- a value without faults, and the values of a list without faults, nest no deeper than a field's value may
pub value_within : (o : Origin) (d : json.Data) (v : Data) → IsClean o (place.Object object.Value) d → SpellsValue d v → depth v ≤ max_nesting
value_within o d v (limit, name, room, clean) spelled = let deep = value_deep o limit d v (name, clean) spelled in omega arith

pub values_within : (o : Origin) (d : json.Data) (ds : List Data) → IsClean o (place.Series series.Values) d → SpellsList (Some d) ds → items_depth (items_of ds) ≤ max_nesting
values_within o d ds (limit, name, room, clean) spelled = let deep = values_deep o limit name d ds clean spelled in omega arith
