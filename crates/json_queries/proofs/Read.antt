-- What is read of trees without faults.
use Rattle.std.proofs.Common.{◌≡◌, ℕ, List, [], ◌∷◌, Bool, true, false, codes, Some, None, refl, sym, ap, subst, ◌∙◌}
use Rattle.std.specs.Bool.{if◌then◌else◌}
use Rattle.std.specs.List.{slice_get}
use Rattle.serde_json.specs.Data.{Data as Json, array, Members, Items, item, no_items}
use Rattle.serde_json.specs.Find.{as_array}
use Rattle.serde_json.specs.View.{view, items_view}
use Rattle.serde_json.specs.declared.value.Value.{Value}
use Rattle.value_model.specs.Data.{Data}
use Rattle.json_model.specs.declared.place.Place.TheVariants as place
use Rattle.json_model.specs.declared.place.Object.TheVariants as object
use Rattle.json_model.specs.declared.place.Series.TheVariants as series
use Rattle.json_model.specs.declared.place.Leaf.TheVariants as leaf
use Rattle.json_model.specs.Clean.{IsClean}
use Rattle.json_model.specs.Faults.{FaultsAt, ItemsFaults}
use Rattle.json_model.specs.Forms.{Each, no_more, one_more, SpellsEach}
use Rattle.json_model.specs.Grammar.{SpellsList, no_list as no_values}
use Rattle.json_model.specs.Members.{given, refined, takes_list, lacks_only}
use Rattle.json_model.specs.Origin.{Origin}
use Rattle.json_model.specs.Places.{member_place, field_filter_rows, list_filter_rows, composite_filter_rows, filter_rows}
use Rattle.json_model.proofs.Built.{item_faults}
use Rattle.json_model.proofs.Fitting.{own_only}
use Rattle.json_model.proofs.Operands.{operand_value}
use Rattle.json_model.proofs.Sound.{sound_list}
use Rattle.json_model.proofs.Trees.{array_at}
use Rattle.queries.specs.Filters.{FilterData, no_filters, filters_of}
use Rattle.json_queries.specs.Grammar.{SpellsFilter, SpellsFilters, no_list, a_list, SpellsFilterItems, no_item, an_item}

pub left_out_values : (ms : Members) (vs : List Data) → None ≡ given (codes "values") ms → vs ≡ [] → SpellsList (given (codes "values") ms) vs
left_out_values ms vs none empty = subst (SpellsList (given (codes "values") ms)) (sym empty) (subst (λ g. SpellsList g []) none no_values)

pub left_out_filters : (ms : Members) (fs : List FilterData) → None ≡ given (codes "filters") ms → fs ≡ [] → SpellsFilters (given (codes "filters") ms) (filters_of fs)
left_out_filters ms fs none empty = subst (λ l. SpellsFilters (given (codes "filters") ms) (filters_of l)) (sym empty) (subst (λ g. SpellsFilters g no_filters) none no_list)

-- the operand of a filter is a value, whatever the operator
pub operand_clean : (o : Origin) (ms : Members) (d : Json) → IsClean o (member_place (refined object.FieldFilter ms) (codes "value")) d → IsClean o (place.Object object.Value) d
unfolding field_filter_rows list_filter_rows
operand_clean o ms d clean = by (takes_list ms) clean
  where
    by : (b : Bool) → IsClean o (member_place (if b then object.ListFilter else object.FieldFilter) (codes "value")) d → IsClean o (place.Object object.Value) d
    by true fine = operand_value o d fine
    by false fine = fine

pub composite_clean : (o : Origin) (name : List ℕ) (d : Json) → name ≡ codes "compositeFilter" → IsClean o (member_place object.Filter name) d → IsClean o (place.Object object.CompositeFilter) d
unfolding filter_rows
composite_clean o name d named clean = subst (λ n. IsClean o (member_place object.Filter n) d) named clean

pub filters_clean : (o : Origin) (d : Json) → IsClean o (member_place object.CompositeFilter (codes "filters")) d → IsClean o (place.Series series.Filters) d
unfolding composite_filter_rows
filters_clean o d clean = clean

each_items : (ds : Items) (fs : List FilterData) → Each SpellsFilter ds fs → SpellsFilterItems ds (filters_of fs)
each_items _ _ no_more = no_item
each_items _ _ (one_more {ds = ds} {xs = fs} first rest) = an_item first (each_items ds fs rest)

pub all_filters : (d : Json) (fs : List FilterData) → SpellsEach SpellsFilter (Some d) fs → SpellsFilters (Some d) (filters_of fs)
all_filters d fs (ds, is, each) = a_list ds d (array_at d ds (sym is)) (each_items ds fs each)

-- ---- a list of one name

-- its only item
pub record Only (o : Origin) (items : List Value) : Type 0 where
  pub one : Value
  pub is : items ≡ one ∷ []
  pub clean : IsClean o (place.Leaf leaf.Name) (view one)

pub only_item : (o : Origin) (d : Json) (items : List Value) → IsClean o (place.Series series.Names) d → as_array d ≡ Some (items_view items) → Only o items
only_item o d items (limit, name, room, h) is =
    let at = array_at d (items_view items) (sym is) in
    let both = sound_list o limit series.Names name (items_view items) (subst (λ e. FaultsAt o limit (place.Series series.Names) name e []) at h) in
    by items (own_only series.Names name (items_view items) both.0) both.1
  where
    by : (all : List Value) → lacks_only series.Names (items_view all) ≡ false → ItemsFaults o limit series.Names name (items_view all) [] → Only o all
    by [] few fine = cc
    by (x ∷ []) few fine = record { one = x; is = refl; clean = (limit, name, room, (item_faults o limit series.Names name (view x) no_items fine).0) }
    by (x ∷ y ∷ more) few fine = cc

pub first_is : (items rest : List Value) (one found : Value) → rest ≡ items → items ≡ one ∷ [] → Some found ≡ slice_get rest 0 → one ≡ found
first_is items rest one found same only is = let e : Some found ≡ Some one = is ∙ ap (λ l. slice_get l 0) (same ∙ only) in cc

pub first_there : (items rest : List Value) (one : Value) → rest ≡ items → items ≡ one ∷ [] → None ≡ slice_get rest 0 → ⊥
first_there items rest one same only is = let e : None ≡ Some one = is ∙ ap (λ l. slice_get l 0) (same ∙ only) in cc

pub only_tree : (d : Json) (items : List Value) (one found : Value) → as_array d ≡ Some (items_view items) → items ≡ one ∷ [] → one ≡ found → d ≡ array (item (view found) no_items)
only_tree d items one found is only same = array_at d (items_view items) (sym is) ∙ ap (λ l. array (items_view l)) only ∙ ap (λ v. array (item (view v) no_items)) same
