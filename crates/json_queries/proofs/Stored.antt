-- What is read can be stored.
use Rattle.std.proofs.Common.{◌≡◌, ℕ, ◌+◌, ◌-◌, ◌<◌, ◌≤◌, ◌^◌, List, [], ◌∷◌, length, Bool, true, false, not, ◌||◌, codes, Option, Some, IfSome, Bor, refl, sym, ap, subst, ◌∙◌, arith}
use Rattle.std.specs.Bool.{if◌then◌else◌}
use Rattle.std.specs.List.{All}
use Rattle.std.specs.Option.{option_and_then}
use Rattle.std.specs.Str.{bytes_eq}
use Rattle.std.proofs.lemmas.List.Elements.{All-nil, All-cons, All-head, All-tail}
use Rattle.std.proofs.lemmas.Slice.Eq.{bytes_eq-Decides}
use Rattle.serde_json.specs.Data.{Data as Json, string, object as an_object, array as an_array, Items as Trees, Members}
use Rattle.serde_json.specs.Find.{as_str}
use Rattle.serde_json.specs.View.{view}
use Rattle.serde_json.specs.declared.value.Value.{Value as Tree}
use Rattle.value_model.specs.Data.{Data, items_of, items_depth}
use Rattle.value_model.specs.Storable.{IsCountable, AreStorableItems}
use Rattle.json_model.specs.declared.place.Place.{Place}
use Rattle.json_model.specs.declared.place.Place.TheVariants as place
use Rattle.json_model.specs.declared.place.Object.TheVariants as object
use Rattle.json_model.specs.declared.place.Series.TheVariants as series
use Rattle.json_model.specs.Clean.{IsClean, AreClean}
use Rattle.json_model.specs.Constants.{is_list_operator}
use Rattle.json_model.specs.Faults.{FaultsAt, ItemsFaults, MembersFaults, max_nesting}
use Rattle.json_model.specs.Fits.{Fits}
use Rattle.json_model.specs.Forms.{IsGiven}
use Rattle.json_model.specs.Grammar.{SpellsValue, of_kind as value_of_kind, SpellsKind, as_scalar, as_array, as_map}
use Rattle.json_model.specs.Members.{given, chosen, only_name, takes_list, asks_list}
use Rattle.json_model.specs.Origin.{Origin}
use Rattle.json_model.specs.Places.{member_place, required, value_rows, value_member, filter_rows, composite_filter_rows, field_filter_rows, list_filter_rows}
use Rattle.json_model.specs.Storable.{IsStorableQueryPath}
use Rattle.json_model.proofs.Built.{item_faults}
use Rattle.json_model.proofs.Choices.{chosen_clean, only_is}
use Rattle.json_model.proofs.Fitting.{clean_fits}
use Rattle.json_model.proofs.Sound.{sound, sound_list, member_clean, given_clean, given_some}
use Rattle.queries.specs.declared.filter.Operator.{Operator}
use Rattle.queries.specs.declared.filter.Operator.TheVariants.{Equal, LessThan, LessThanOrEqual, GreaterThan, GreaterThanOrEqual, NotEqual, IsIn, IsNotIn, ArrayContains, ArrayContainsAny}
use Rattle.queries.specs.declared.order.Order.{Order}
use Rattle.queries.specs.Filters.{FilterData, FilterItems, filters_of, list_of, nesting, nesting_in}
use Rattle.queries.proofs.Nodes.{list_filters}
use Rattle.json_queries.specs.Constants.{operator_text}
use Rattle.json_queries.specs.Grammar.{SpellsFilter, of_kind, SpellsFilterUnder, as_composite, as_field, as_unary, SpellsFilters, no_list, a_list, SpellsFilterItems, no_item, an_item}
use Rattle.json_queries.specs.Storable.{IsStorableOperand, IsArray, TakesOperand, HasCountedParts, HaveCountedParts, IsStorableRawFilter}

-- ---- values

-- values that nest no deeper than the deepest
pub operands : (vs : List Data) → AreStorableItems (items_of vs) → items_depth (items_of vs) ≤ max_nesting → All IsStorableOperand vs
operands [] stored deep = All-nil IsStorableOperand
operands (v ∷ vs) stored deep = All-cons IsStorableOperand v vs (record { storable = stored.0; deep = omega arith }) (operands vs stored.1 (omega arith))

pub no_operands : (vs : List Data) → vs ≡ [] → All IsStorableOperand vs
no_operands vs none = subst (All IsStorableOperand) (sym none) (All-nil IsStorableOperand)

-- ---- orders

abbrev pub HasQueryPath : Order → Type 0
HasQueryPath order = IsStorableQueryPath order.path

-- ---- a list of operands

kind_array : (p : Place) (d : Json) (v : Data) → p ≡ place.Object object.Array → SpellsKind p d v → IsArray v
kind_array _ d v at (as_scalar {kind = kind} s) = cc
kind_array _ d v at (as_array ms ds is list means) = subst IsArray (sym means) tt
kind_array _ d v at (as_map ms es is fields means) = cc

array_place : value_member (codes "arrayValue") ≡ place.Object object.Array
unfolding value_rows
array_place = refl

yes : (b : Bool) → (not b || false) ≡ false → b ≡ true
yes true e = refl
yes false e = cc

-- its one kind is that of an array
array_named : (o : Origin) (limit : ℕ) (ms : Members) → Fits o limit (place.Object object.ListOperand) (an_object ms) → only_name (chosen object.Value ms) ≡ codes "arrayValue"
unfolding Fits
array_named o limit ms fits = (bytes_eq-Decides (only_name (chosen object.Value ms)) (codes "arrayValue")).0 (yes (bytes_eq (only_name (chosen object.Value ms)) (codes "arrayValue")) fits.chooses)

-- a list of operands without faults spells an array
operand_array : (o : Origin) (d : Json) (v : Data) → IsClean o (place.Object object.ListOperand) d → SpellsValue d v → IsArray v
operand_array o d v (limit, name, room, clean) (value_of_kind ms k inner is only spelled) =
    let fits = clean_fits o limit (place.Object object.ListOperand) name (an_object ms) (subst (λ e. FaultsAt o limit (place.Object object.ListOperand) name e []) is clean) in
    let same : k ≡ codes "arrayValue" = sym (only_is object.Value ms k inner only) ∙ array_named o limit ms fits in
    kind_array (value_member k) inner v (ap value_member same ∙ array_place) spelled

-- what stands under `value`, by whether the operator asks for a list
list_place : (b : Bool) → b ≡ true → member_place (if b then object.ListFilter else object.FieldFilter) (codes "value") ≡ place.Object object.ListOperand
unfolding field_filter_rows list_filter_rows
list_place true is = refl
list_place false is = cc

asks : (ms : Members) (op : Operator) → IsGiven (given (codes "op") ms) (λ d. d ≡ string (operator_text op)) → takes_list ms ≡ is_list_operator (operator_text op)
asks ms op compares = ap (λ (found : Option Json). asks_list (option_and_then as_str found)) (compares.is ∙ ap (λ d. Some d) compares.spells)

an_array_of : (o : Origin) (ms : Members) (op : Operator) (v : Data) → AreClean o object.FieldFilter ms → IsGiven (given (codes "op") ms) (λ d. d ≡ string (operator_text op)) → IsGiven (given (codes "value") ms) (λ d. SpellsValue d v) → is_list_operator (operator_text op) ≡ true → IsArray v
an_array_of o ms op v clean compares holds list =
    let here = given_clean o object.FieldFilter ms (codes "value") holds.tree clean holds.is in
    operand_array o holds.tree v (subst (λ p. IsClean o p holds.tree) (list_place (takes_list ms) (asks ms op compares ∙ list)) here) holds.spells

pub takes_operand : (o : Origin) (ms : Members) (op : Operator) (v : Data) → AreClean o object.FieldFilter ms → IsGiven (given (codes "op") ms) (λ d. d ≡ string (operator_text op)) → IsGiven (given (codes "value") ms) (λ d. SpellsValue d v) → TakesOperand op v
unfolding is_list_operator
takes_operand o ms Equal v clean compares holds = tt
takes_operand o ms LessThan v clean compares holds = tt
takes_operand o ms LessThanOrEqual v clean compares holds = tt
takes_operand o ms GreaterThan v clean compares holds = tt
takes_operand o ms GreaterThanOrEqual v clean compares holds = tt
takes_operand o ms NotEqual v clean compares holds = tt
takes_operand o ms ArrayContains v clean compares holds = tt
takes_operand o ms IsIn v clean compares holds = an_array_of o ms IsIn v clean compares holds refl
takes_operand o ms IsNotIn v clean compares holds = an_array_of o ms IsNotIn v clean compares holds refl
takes_operand o ms ArrayContainsAny v clean compares holds = an_array_of o ms ArrayContainsAny v clean compares holds refl

-- ---- filters

pub all_parts : (fs : List FilterData) → All HasCountedParts fs → HaveCountedParts (filters_of fs)
all_parts [] all = tt
all_parts (f ∷ fs) all = (All-head HasCountedParts f fs all, all_parts fs (All-tail HasCountedParts f fs all))

pub no_parts : (fs : List FilterData) → fs ≡ [] → HaveCountedParts (filters_of fs)
no_parts fs none = subst (λ l. HaveCountedParts (filters_of l)) (sym none) tt

pub counted : (fs : List FilterData) → length fs < 2 ^ 64 → IsCountable (list_of (filters_of fs))
counted fs few = subst (λ (l : List FilterData). length l < 2 ^ 64) (sym (list_filters fs)) few

at : (o : Origin) (limit : ℕ) (p : Place) (d e : Json) → d ≡ e → (name : List ℕ) × FaultsAt o limit p name d [] → (name : List ℕ) × FaultsAt o limit p name e []
at o limit p d e is clean = (clean.0, subst (λ t. FaultsAt o limit p clean.0 t []) is clean.1)

composite_place : (name : List ℕ) → name ≡ codes "compositeFilter" → member_place object.Filter name ≡ place.Object object.CompositeFilter
unfolding filter_rows
composite_place name is = ap (member_place object.Filter) is

filters_place : member_place object.CompositeFilter (codes "filters") ≡ place.Series series.Filters
unfolding composite_filter_rows
filters_place = refl

mutual
  -- filters nest no deeper than there are levels
  filter_deep : (o : Origin) (limit : ℕ) (d : Json) (f : FilterData) → (name : List ℕ) × FaultsAt o limit (place.Object object.Filter) name d [] → SpellsFilter d f → nesting f ≤ limit
  filter_deep o limit d f clean (of_kind ms k inner is only spelled) =
      let here = at o limit (place.Object object.Filter) d (an_object ms) is clean in
      let inside = sound o limit object.Filter here.0 ms here.1 in
      let e : 1 ≡ inside.levels = sym inside.takes in
      let room = inside.room in
      let more = under_deep o (limit - inside.levels) k inner f (chosen_clean o (limit - inside.levels) object.Filter ms (required object.Filter) ms k inner inside.inside only) spelled in
      omega arith

  under_deep : (o : Origin) (left : ℕ) (k : List ℕ) (d : Json) (f : FilterData) → FaultsAt o left (member_place object.Filter k) k d [] → SpellsFilterUnder k d f → nesting f ≤ left + 1
  under_deep o left k d _ clean (as_composite {fs = fs} ms op named is joins filters) =
      let placed = subst (λ p. FaultsAt o left p k d []) (composite_place k named) clean in
      let here = at o left (place.Object object.CompositeFilter) d (an_object ms) is (k, placed) in
      let inside = sound o left object.CompositeFilter here.0 ms here.1 in
      let e : 0 ≡ inside.levels = sym inside.takes in
      let more = list_deep o (left - inside.levels) ms fs inside.inside (given (codes "filters") ms) refl filters in
      omega arith
  under_deep o left k d _ clean (as_field ms path op operand named is holds) = omega arith
  under_deep o left k d _ clean (as_unary ms path op named is holds) = omega arith

  list_deep : (o : Origin) (limit : ℕ) (ms : Members) (fs : FilterItems) → MembersFaults o limit object.CompositeFilter (required object.CompositeFilter) ms [] → (found : Option Json) → given (codes "filters") ms ≡ found → SpellsFilters found fs → nesting_in fs ≤ limit
  list_deep o limit ms _ clean _ is no_list = omega arith
  list_deep o limit ms fs clean _ is (a_list items d held spelled) =
      let there = given_some _ d is in
      let placed = subst (λ p. FaultsAt o limit p (codes "filters") d []) filters_place (member_clean o limit object.CompositeFilter (required object.CompositeFilter) ms (codes "filters") d clean there.0 there.1) in
      let here = at o limit (place.Series series.Filters) d (an_array items) held (codes "filters", placed) in
      items_deep o limit here.0 items fs (sound_list o limit series.Filters here.0 items here.1).1 spelled

  items_deep : (o : Origin) (limit : ℕ) (name : List ℕ) (items : Trees) (fs : FilterItems) → ItemsFaults o limit series.Filters name items [] → SpellsFilterItems items fs → nesting_in fs ≤ limit
  items_deep o limit name _ _ clean no_item = omega arith
  items_deep o limit name _ _ clean (an_item {d = d} {items = items} {f = f} {fs = fs} first rest) =
      let here = item_faults o limit series.Filters name d items clean in
      let one = filter_deep o limit d f (name, here.0) first in
      let more = items_deep o limit name items fs here.1 rest in omega arith

filter_stored : (o : Origin) (d : Json) (f : FilterData) → IsClean o (place.Object object.Filter) d → SpellsFilter d f → HasCountedParts f → IsStorableRawFilter f
filter_stored o d f (limit, name, room, clean) spelled parts = let deep = filter_deep o limit d f (name, clean) spelled in record { parts = parts; deep = omega arith }

pub where_stored : (o : Origin) (found : Option (Bor Tree)) (json : Bor Tree) (f : FilterData) → found ≡ Some json → IfSome found (λ j. IsClean o (place.Object object.Filter) (view j.now)) → SpellsFilter (view json.now) f → HasCountedParts f → IsStorableRawFilter f
where_stored o found json f is clean spelled parts = filter_stored o (view json.now) f (subst (λ (g : Option (Bor Tree)). IfSome g (λ j. IsClean o (place.Object object.Filter) (view j.now))) is clean) spelled parts
