-- A value that has no other member than that of a scalar kind.
use native.Mathlib.Numerals.{unary_clauses}
use Rattle.std.proofs.Common.{◌≡◌, ℕ, List, [], ◌∷◌, length, String, true, false, Option, Some, refl, sym, ap, subst, ◌∙◌, inr, append-nil, arith}
use Rattle.std.specs.Prelude.{slice_get}
use Rattle.std.specs.String.{string_bytes}
use Rattle.std.specs.declared.alloc.Global.{Global}
use Rattle.serde_json.specs.Data.{Data as Tree, null, boolean, number, string, array, object as an_object, Members, no_members, member}
use Rattle.serde_json.specs.Find.{as_object}
use Rattle.serde_json.specs.View.{view, members_view}
use Rattle.serde_json.specs.declared.value.Value.{Value as Json}
use Rattle.json_model.specs.declared.place.Place.TheVariants as place
use Rattle.json_model.specs.declared.place.Object.{Object}
use Rattle.json_model.specs.declared.place.Object.TheVariants as object
use Rattle.json_model.specs.declared.place.Leaf.{Leaf}
use Rattle.json_model.specs.declared.fault.JsonFault.{JsonFault}
use Rattle.json_model.specs.Faults.{FirstOf, FaultsAt, FlatFaults, MembersFaults, OwnOr, own_faults}
use Rattle.json_model.specs.Clean.{IsClean, AreClean}
use Rattle.json_model.specs.Grammar.{SpellsScalar, SpellsValue, SpellsKind, as_scalar, is_scalar, is_kind}
use Rattle.json_model.specs.Members.{IsLone, is_chosen, is_left_out, chosen}
use Rattle.json_model.specs.Origin.{Origin}
use Rattle.json_model.specs.Ranks.{first_of_least}
use Rattle.json_model.specs.Places.{is_unknown, member_place}
use Rattle.value_model.specs.Data.{Data}
use Rattle.json_model.proofs.Built.{kind_known, a_value}
use Rattle.json_model.proofs.Choices.{choice_clean}
use Rattle.json_model.proofs.Fitting.{none_deep}
use Rattle.json_model.proofs.Walked.{at_object, or_inside, Within}

pub alone : (entries : List (String Global × Json)) (key : String Global) (json : Json) → length entries ≡ 1 → slice_get entries 0 ≡ Some (key, json) → members_view entries ≡ member (string_bytes key) (view json) no_members
alone (e ∷ []) key json one is = let same : e ≡ (key, json) = cc in ap (λ x. members_view (x ∷ [])) same
alone [] key json one is = cc
alone (e ∷ f ∷ entries) key json one is = cc

module _ (name : List ℕ) (inner : Tree) (known : is_unknown (member_place object.Value name) ≡ false) (there : is_left_out (member_place object.Value name) inner ≡ false) where
  pub is_given : is_chosen object.Value name inner ≡ true
  is_given = rw (known, there) refl

  no_fault_of_its_own : (under : List ℕ) → own_faults object.Value under (member name inner no_members) ≡ []
  no_fault_of_its_own under = rw (is_given, known) refl

  -- its faults are those of what stands under its kind
  inside : (o : Origin) (limit : ℕ) (faults : List JsonFault) → FaultsAt o limit (member_place object.Value name) name inner faults → MembersFaults o limit object.Value [] (member name inner no_members) faults
  unfolding FaultsAt
  inside o limit faults at = (faults, [], inr (there, ([], faults, refl, at, refl)), refl, sym (append-nil faults))

  of_value : (o : Origin) (limit : ℕ) (under : List ℕ) (found : Option JsonFault) → FirstOf (FaultsAt o limit (member_place object.Value name) name inner) found
      → FirstOf (OwnOr (own_faults object.Value under (member name inner no_members)) (Within o limit under found (member name inner no_members) object.Value)) found
  of_value o limit under found first =
      or_inside (own_faults object.Value under (member name inner no_members)) (Within o limit under found (member name inner no_members) object.Value) found (sym (ap first_of_least (no_fault_of_its_own under))) (record {
        faults = first.faults;
        are = record { levels = 0; takes = refl; inside = first.faults; are = simp unary_clauses (inside o limit first.faults first.are); is = rw (none_deep limit 0 (omega arith)) refl };
        first = first.first;
      })

-- a scalar isn't looked into
flat : (o : Origin) (limit : ℕ) (scalar : Leaf) (name : List ℕ) (d : Tree) (faults : List JsonFault) → FlatFaults o (place.Leaf scalar) name d faults → FaultsAt o limit (place.Leaf scalar) name d faults
unfolding FaultsAt
flat o limit scalar name null faults are = are
flat o limit scalar name (boolean b) faults are = are
flat o limit scalar name (number n) faults are = are
flat o limit scalar name (string text) faults are = are
flat o limit scalar name (array ds) faults are = are
flat o limit scalar name (an_object ms) faults are = are

pub lone_faults : (o : Origin) (limit : ℕ) (under : List ℕ) (found : Option JsonFault) (kind : Object) (d : Tree) (ms : Members) (scalar : Leaf) (name : List ℕ) (inner : Tree) → d ≡ an_object ms → IsLone kind ms scalar name inner → FirstOf (FlatFaults o (place.Leaf scalar) name inner) found
    → FirstOf (FaultsAt o limit (place.Object kind) under d) found
lone_faults o limit under found kind d ms scalar name inner is lone first =
    let known = ap is_unknown (sym lone.stands) in
    let there = subst (λ p. is_left_out p inner ≡ false) lone.stands lone.there in
    let at : FirstOf (FaultsAt o limit (member_place object.Value name) name inner) found = record { faults = first.faults; are = subst (λ p. FaultsAt o limit p name inner first.faults) lone.stands (flat o limit scalar name inner first.faults first.are); first = first.first } in
    subst (λ k. FirstOf (FaultsAt o limit (place.Object k) under d) found) (sym lone.value)
    (at_object o limit under found d (member name inner no_members) object.Value (is ∙ ap (λ l. an_object l) lone.alone) (of_value name inner known there o limit under found at))

-- the scalar is the one kind of the value
pub lone_chosen : (kind : Object) (ms : Members) (scalar : Leaf) (name : List ℕ) (inner : Tree) → IsLone kind ms scalar name inner → chosen object.Value ms ≡ (name, inner) ∷ []
lone_chosen kind ms scalar name inner lone =
    let given = is_given name inner (ap is_unknown (sym lone.stands)) (subst (λ p. is_left_out p inner ≡ false) lone.stands lone.there) in
    rw (lone.alone, given) refl

pub lone_is_scalar : (kind : Object) (ms : Members) (scalar : Leaf) (name : List ℕ) (inner : Tree) → IsLone kind ms scalar name inner → is_scalar scalar ≡ true
lone_is_scalar kind ms scalar name inner lone = subst (λ p. is_kind p ≡ true) (sym lone.stands) (kind_known name (ap is_unknown (sym lone.stands)))

pub lone_clean : (o : Origin) (kind : Object) (ms : Members) (scalar : Leaf) (name : List ℕ) (inner : Tree) → AreClean o object.Value ms → IsLone kind ms scalar name inner → IsClean o (place.Leaf scalar) inner
lone_clean o kind ms scalar name inner clean lone = subst (λ p. IsClean o p inner) (sym lone.stands) (choice_clean o object.Value ms name inner clean (lone_chosen kind ms scalar name inner lone))

pub lone_value : (d : Tree) (v : Data) (kind : Object) (ms : Members) (scalar : Leaf) (name : List ℕ) (inner : Tree) → as_object d ≡ Some ms → IsLone kind ms scalar name inner → SpellsScalar scalar inner v → SpellsValue d v
lone_value d v kind ms scalar name inner is lone spells = a_value d inner ms name v is (lone_chosen kind ms scalar name inner lone) (subst (λ p. SpellsKind p inner v) lone.stands (as_scalar spells))
