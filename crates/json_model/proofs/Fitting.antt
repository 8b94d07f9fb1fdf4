-- A tree is of the form exactly where it has no fault.
use Rattle.std.proofs.Common.{◌≡◌, ◌⊎◌, ℕ, ◌-◌, ◌≤◌, List, [], ◌∷◌, ◌++◌, Bool, true, false, nat_lt, codes, refl, sym, ap, subst, inl, inr, arith}
use borrow.Author.Tests.{ltb-true}
use Rattle.std.specs.Bool.{if◌then◌else◌}
use Rattle.serde_json.specs.Data.{Data as Json, array, object as an_object, Members, no_members, member, Items, no_items, item}
use Rattle.json_model.specs.declared.side.Side.{Side}
use Rattle.json_model.specs.declared.side.Side.TheVariants.{Caller, Backend}
use Rattle.json_model.specs.declared.place.Place.{Place}
use Rattle.json_model.specs.declared.place.Place.TheVariants as place
use Rattle.json_model.specs.declared.place.Object.{Object}
use Rattle.json_model.specs.declared.place.Object.TheVariants as object
use Rattle.json_model.specs.declared.place.Series.{Series}
use Rattle.json_model.specs.declared.fault.JsonFault.{JsonFault}
use Rattle.json_model.specs.declared.fault.JsonFault.TheVariants as json_fault
use Rattle.json_model.specs.Faults.{FlatFaults, FaultsAt, ItemsFaults, MembersFaults, OwnOr, InLevels, OwnName, AtMember, unknown_faults, own_faults, own_list_faults, depth_faults, levels_inside, missing, Takes}
use Rattle.json_model.specs.Fits.{Fits, ItemsFit, MembersFit, FitsFlat, FitsName}
use Rattle.json_model.specs.Members.{is_left_out, later, lacks_choice, is_vector_map, lacks_only, refined}
use Rattle.json_model.specs.Origin.{Origin}
use Rattle.json_model.specs.Places.{member_place, item_place, required}
use Rattle.json_model.proofs.Built.{named}
use Rattle.json_model.proofs.Fine.{leaf_fits, fits_leaf}
use Rattle.json_model.proofs.Sound.{nothing_first, nothing_last, no_missing, untold, sound, sound_list, first_of, end_of}

-- ---- what isn't looked into

flat_fits : (o : Origin) (p : Place) (name : List ℕ) (d : Json) → FlatFaults o p name d [] → FitsFlat o p d
flat_fits o (place.Leaf kind) name d h = leaf_fits o.root kind name d h
flat_fits o place.Unknown name d h = by o.side h
  where
    by : (side : Side) → [] ≡ unknown_faults side name → side ≡ Backend
    by Caller e = cc
    by Backend e = refl
flat_fits o place.Ignored name d h = tt
flat_fits o _ name d h = cc

fits_flat : (o : Origin) (p : Place) (name : List ℕ) (d : Json) → FitsFlat o p d → FlatFaults o p name d []
fits_flat o (place.Leaf kind) name d h = fits_leaf o.root kind name d h
fits_flat o place.Unknown name d h = ap (λ side. unknown_faults side name) (sym h)
fits_flat o place.Ignored name d h = refl
fits_flat o _ name d h = absurd h

-- ---- tests and the faults that they stand for

pub own_choice : (kind : Object) (name : List ℕ) (ms : Members) → own_faults kind name ms ≡ [] → (lacks_choice kind ms ≡ false) × (is_vector_map kind ms ≡ false)
own_choice kind name ms none = by (lacks_choice kind ms) (is_vector_map kind ms) none
  where
    by : (b c : Bool) → (if b then json_fault.BadShape name ∷ [] else if c then json_fault.Unsupported (codes "vectorValue") ∷ [] else []) ≡ [] → (b ≡ false) × (c ≡ false)
    by true c h = cc
    by false true h = cc
    by false false h = (refl, refl)

choice_own : (kind : Object) (name : List ℕ) (ms : Members) → lacks_choice kind ms ≡ false → is_vector_map kind ms ≡ false → own_faults kind name ms ≡ []
choice_own kind name ms chooses plain = λ i. if chooses i then json_fault.BadShape name ∷ [] else if plain i then json_fault.Unsupported (codes "vectorValue") ∷ [] else []

pub own_only : (kind : Series) (name : List ℕ) (ds : Items) → own_list_faults kind name ds ≡ [] → lacks_only kind ds ≡ false
own_only kind name ds none = untold (lacks_only kind ds) (json_fault.BadShape name) none

only_own : (kind : Series) (name : List ℕ) (ds : Items) → lacks_only kind ds ≡ false → own_list_faults kind name ds ≡ []
only_own kind name ds only = ap (λ (b : Bool). if b then json_fault.BadShape name ∷ [] else []) only

pub none_deep : (limit levels : ℕ) → levels ≤ limit → depth_faults limit levels ≡ []
none_deep limit levels room = by (nat_lt limit levels) refl
  where
    by : (b : Bool) → nat_lt limit levels ≡ b → (if b then json_fault.TooDeep ∷ [] else []) ≡ []
    by true is = let less = ltb-true limit levels is in absurd (omega arith)
    by false is = refl

no_own_faults : (own : List JsonFault) (Inside : List JsonFault → Type 0) → own ≡ [] → Inside [] → OwnOr own Inside []
no_own_faults own Inside none h = subst (λ (l : List JsonFault). OwnOr l Inside []) (sym none) h

name_fits : (kind : Object) (name : List ℕ) → OwnName kind name [] → FitsName kind name
name_fits object.Fields name h = named name h
name_fits _ name h = tt

fits_name : (kind : Object) (name : List ℕ) → FitsName kind name → OwnName kind name []
fits_name object.Fields name h = inl (h, refl)
fits_name _ name h = refl

-- ---- trees

-- a member fits its place
abbrev Fitting : Origin → ℕ → Object → List ℕ → Json → Type 0
Fitting o limit kind k d = (is_left_out (member_place kind k) d ≡ true) ⊎ ((is_left_out (member_place kind k) d ≡ false) × (FitsName kind k × Fits o limit (member_place kind k) d))

at_fits : (o : Origin) (limit : ℕ) (kind : Object) (k : List ℕ) (d : Json) → AtMember kind k d (FaultsAt o limit (member_place kind k) k d) [] → (FaultsAt o limit (member_place kind k) k d [] → Fits o limit (member_place kind k) d) → Fitting o limit kind k d
at_fits o limit kind k d (inl out) fits = inl out.0
at_fits o limit kind k d (inr (some, (own, inside, of_name, of_value, none))) fits =
    inr (some, (name_fits kind k (subst (OwnName kind k) (nothing_first own inside none) of_name), fits (subst (FaultsAt o limit (member_place kind k) k d) (nothing_last own inside none) of_value)))

fit_at : (o : Origin) (limit : ℕ) (kind : Object) (k : List ℕ) (d : Json) → Fitting o limit kind k d → (Fits o limit (member_place kind k) d → FaultsAt o limit (member_place kind k) k d []) → AtMember kind k d (FaultsAt o limit (member_place kind k) k d) []
fit_at o limit kind k d (inl out) clean = inl (out, refl)
fit_at o limit kind k d (inr (some, (of_name, of_value))) clean = inr (some, ([], [], fits_name kind k of_name, clean of_value, refl))

mutual
  unfolding Fits FaultsAt

  pub clean_fits : (o : Origin) (limit : ℕ) (p : Place) (name : List ℕ) (d : Json) → FaultsAt o limit p name d [] → Fits o limit p d
  clean_fits o limit (place.Series kind) name (array ds) h = let inside = sound_list o limit kind name ds h in (own_only kind name ds inside.0, items_fit o limit kind name ds inside.1)
  clean_fits o limit (place.Object kind) name (an_object ms) h =
      let inside = sound o limit kind name ms h in
      let own = own_choice kind name ms inside.own in
      record { chooses = own.0; no_vector = own.1; levels = inside.levels; takes = inside.takes; room = inside.room; inside = members_fit o (levels_inside kind (limit - inside.levels)) (refined kind ms) (required (refined kind ms)) ms inside.inside }
  clean_fits o limit p name (array ds) h = flat_fits o p name (array ds) h
  clean_fits o limit p name (an_object ms) h = flat_fits o p name (an_object ms) h
  clean_fits o limit p name d h = flat_fits o p name d h

  items_fit : (o : Origin) (limit : ℕ) (kind : Series) (name : List ℕ) (ds : Items) → ItemsFaults o limit kind name ds [] → ItemsFit o limit kind ds
  items_fit o limit kind name no_items h = tt
  items_fit o limit kind name (item d ds) (first, rest, at, more, none) =
      (clean_fits o limit (item_place kind) name d (subst (FaultsAt o limit (item_place kind) name d) (nothing_first first rest none) at), items_fit o limit kind name ds (subst (ItemsFaults o limit kind name ds) (nothing_last first rest none) more))

  members_fit : (o : Origin) (limit : ℕ) (kind : Object) (names : List (List ℕ)) (ms : Members) → MembersFaults o limit kind names ms [] → MembersFit o limit kind names ms
  members_fit o limit kind names no_members h = no_missing kind names (end_of o limit kind names h)
  members_fit o limit kind names (member k d ms) h =
      let here = first_of o limit kind names k d ms h in
      (here.none_missed, at_fits o limit kind k d here.at (clean_fits o limit (member_place kind k) k d), members_fit o limit kind (later k names) ms here.rest)

mutual
  unfolding Fits FaultsAt

  pub fits_clean : (o : Origin) (limit : ℕ) (p : Place) (name : List ℕ) (d : Json) → Fits o limit p d → FaultsAt o limit p name d []
  fits_clean o limit (place.Series kind) name (array ds) h = no_own_faults (own_list_faults kind name ds) (ItemsFaults o limit kind name ds) (only_own kind name ds h.0) (fit_items o limit kind name ds h.1)
  fits_clean o limit (place.Object kind) name (an_object ms) h =
      no_own_faults (own_faults kind name ms) (InLevels (refined kind ms) ms limit (λ inner. MembersFaults o (levels_inside kind inner) (refined kind ms) (required (refined kind ms)) ms)) (choice_own kind name ms h.chooses h.no_vector)
      (record { levels = h.levels; takes = h.takes; inside = []; are = fit_members o (levels_inside kind (limit - h.levels)) (refined kind ms) (required (refined kind ms)) ms h.inside; is = ap (λ (l : List JsonFault). l ++ []) (sym (none_deep limit h.levels h.room)) })
  fits_clean o limit p name (array ds) h = fits_flat o p name (array ds) h
  fits_clean o limit p name (an_object ms) h = fits_flat o p name (an_object ms) h
  fits_clean o limit p name d h = fits_flat o p name d h

  fit_items : (o : Origin) (limit : ℕ) (kind : Series) (name : List ℕ) (ds : Items) → ItemsFit o limit kind ds → ItemsFaults o limit kind name ds []
  fit_items o limit kind name no_items h = refl
  fit_items o limit kind name (item d ds) h = ([], [], fits_clean o limit (item_place kind) name d h.0, fit_items o limit kind name ds h.1, refl)

  fit_members : (o : Origin) (limit : ℕ) (kind : Object) (names : List (List ℕ)) (ms : Members) → MembersFit o limit kind names ms → MembersFaults o limit kind names ms []
  fit_members o limit kind names no_members h = ap (missing kind) (sym h)
  fit_members o limit kind names (member k d ms) h =
      ([], [], fit_at o limit kind k d h.1 (fits_clean o limit (member_place kind k) k d), fit_members o limit kind (later k names) ms h.2, ap (λ l. missing kind l ++ []) (sym h.0))

-- ---- objects of the form

-- one that takes up so many levels, and one that takes up none
pub object_fits : (o : Origin) (limit : ℕ) (kind : Object) (ms : Members) (levels : ℕ) → lacks_choice kind ms ≡ false → is_vector_map kind ms ≡ false → Takes (refined kind ms) ms levels → levels ≤ limit
    → MembersFit o (levels_inside kind (limit - levels)) (refined kind ms) (required (refined kind ms)) ms → Fits o limit (place.Object kind) (an_object ms)
unfolding Fits
object_fits o limit kind ms levels chooses plain takes room inside = record { chooses = chooses; no_vector = plain; levels = levels; takes = takes; room = room; inside = inside }

pub flat_object_fits : (o : Origin) (limit : ℕ) (kind : Object) (ms : Members) → lacks_choice kind ms ≡ false → is_vector_map kind ms ≡ false → Takes (refined kind ms) ms 0
    → MembersFit o (levels_inside kind limit) (refined kind ms) (required (refined kind ms)) ms → Fits o limit (place.Object kind) (an_object ms)
flat_object_fits o limit kind ms chooses plain takes inside =
    let all : limit ≡ limit - 0 = omega arith in
    object_fits o limit kind ms 0 chooses plain takes (omega arith) (subst (λ n. MembersFit o (levels_inside kind n) (refined kind ms) (required (refined kind ms)) ms) all inside)
