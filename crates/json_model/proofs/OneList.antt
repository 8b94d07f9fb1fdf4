-- A tree has one list of faults at each place.
use Rattle.std.proofs.Common.{◌≡◌, ◌∙◌, inl, inr, ℕ, ◌-◌, List, [], ◌∷◌, ◌++◌, length, true, false, Option, Some, refl, sym, ap, subst}
use Rattle.document_keys.specs.Names.{Root}
use Rattle.document_keys.specs.Paths.{SpellsPath}
use Rattle.document_keys.proofs.Spelled.{spells_one}
use Rattle.serde_json.specs.Data.{Data as Json, string, array, object as an_object, Members, no_members, member, Items, no_items, item}
use Rattle.json_model.specs.declared.place.Place.{Place}
use Rattle.json_model.specs.declared.place.Place.TheVariants as place
use Rattle.json_model.specs.declared.place.Object.{Object}
use Rattle.json_model.specs.declared.place.Object.TheVariants as object
use Rattle.json_model.specs.declared.place.Series.{Series}
use Rattle.json_model.specs.declared.place.Leaf.TheVariants as leaf
use Rattle.json_model.specs.declared.fault.JsonFault.{JsonFault}
use Rattle.json_model.specs.Faults.{FlatFaults, FaultsAt, ItemsFaults, MembersFaults, OwnOr, CountsPath, of_path, no_path, Takes, InLevels, InObject, InSeries, OwnName, AtMember, NameFaults, own_faults, own_list_faults, depth_faults, levels_inside, missing}
use Rattle.json_model.specs.Members.{missed, later, refined}
use Rattle.json_model.specs.Origin.{Origin}
use Rattle.json_model.specs.Places.{member_place, item_place, required}
use Rattle.json_model.proofs.OneLeaf.{IsOne, leaf_one, field_name_one}

flat_one : (o : Origin) (p : Place) (name : List ℕ) (d : Json) → IsOne (FlatFaults o p name d)
flat_one o (place.Leaf kind) name d a b x y = leaf_one o.root kind name d a b x y
flat_one o _ name d a b x y = x ∙ sym y

own_or_one : (own : List JsonFault) (Inside : List JsonFault → Type 0) → IsOne Inside → IsOne (OwnOr own Inside)
own_or_one [] Inside inside a b x y = inside a b x y
own_or_one (fault ∷ own) Inside inside a b x y = x ∙ sym y

count_one : (path : Option Json) (a b : ℕ) → CountsPath path a → CountsPath path b → a ≡ b
count_one path _ _ (of_path text names is spelled) (of_path other others also too) =
    let same : text ≡ other = (let e : Some (string text) ≡ Some (string other) = sym is ∙ also in cc) in
    ap length (spells_one other names others (subst (λ (t : List ℕ). SpellsPath t names) same spelled) too)
count_one path _ _ (of_path text names is spelled) (no_path none) = absurd (none text names is spelled)
count_one path _ _ (no_path none) (of_path text names is spelled) = absurd (none text names is spelled)
count_one path _ _ (no_path none) (no_path nor) = refl

takes_one : (kind : Object) (ms : Members) (a b : ℕ) → Takes kind ms a → Takes kind ms b → a ≡ b
takes_one object.ArrayTransform ms a b x y = count_one _ a b x y
takes_one _ ms a b x y = x ∙ sym y

in_levels_one : (kind : Object) (ms : Members) (limit : ℕ) (Inside : ℕ → List JsonFault → Type 0) → ((inner : ℕ) → IsOne (Inside inner)) → IsOne (InLevels kind ms limit Inside)
in_levels_one kind ms limit Inside inside a b x y =
    let levels = takes_one kind ms x.levels y.levels x.takes y.takes in
    let same = inside (limit - y.levels) x.inside y.inside (subst (λ (n : ℕ). Inside (limit - n) x.inside) levels x.are) y.are in
    x.is ∙ (λ i. depth_faults limit (levels i) ++ same i) ∙ sym y.is

in_object_one : (p : Place) (Inside : Object → List JsonFault → Type 0) (Other : List JsonFault → Type 0) → ((kind : Object) → IsOne (Inside kind)) → IsOne Other → IsOne (InObject p Inside Other)
in_object_one (place.Object kind) Inside Other inside other a b x y = inside kind a b x y
in_object_one _ Inside Other inside other a b x y = other a b x y

in_series_one : (p : Place) (Inside : Series → List JsonFault → Type 0) (Other : List JsonFault → Type 0) → ((kind : Series) → IsOne (Inside kind)) → IsOne Other → IsOne (InSeries p Inside Other)
in_series_one (place.Series kind) Inside Other inside other a b x y = inside kind a b x y
in_series_one _ Inside Other inside other a b x y = other a b x y

own_name_one : (kind : Object) (name : List ℕ) → IsOne (OwnName kind name)
own_name_one object.Fields name a b x y = field_name_one name a b x y
own_name_one _ name a b x y = x ∙ sym y

at_member_one : (kind : Object) (name : List ℕ) (d : Json) (Inside : List JsonFault → Type 0) → IsOne Inside → IsOne (AtMember kind name d Inside)
at_member_one kind name d Inside inside a b (inl x) (inl y) = x.1 ∙ sym y.1
at_member_one kind name d Inside inside a b (inl x) (inr y) = let e : true ≡ false = sym x.0 ∙ y.0 in cc
at_member_one kind name d Inside inside a b (inr x) (inl y) = let e : true ≡ false = sym y.0 ∙ x.0 in cc
at_member_one kind name d Inside inside a b (inr x) (inr y) =
    let own = own_name_one kind name x.1.0 y.1.0 x.1.2 y.1.2 in
    let within = inside x.1.1 y.1.1 x.1.3 y.1.3 in
    x.1.4 ∙ (λ i. own i ++ within i) ∙ sym y.1.4

joined_one : (first rest : List JsonFault → Type 0) (front : List JsonFault) → IsOne first → IsOne rest → (a b x y z w : List JsonFault) → first x → first y → rest z → rest w → a ≡ front ++ (x ++ z) → b ≡ front ++ (y ++ w) → a ≡ b
joined_one first rest front one other a b x y z w fx fy rz rw_ is also =
    let firsts = one x y fx fy in
    let rests = other z w rz rw_ in
    is ∙ (λ i. front ++ (firsts i ++ rests i)) ∙ sym also

mutual
  unfolding FaultsAt ItemsFaults MembersFaults

  pub faults_one : (o : Origin) (limit : ℕ) (p : Place) (name : List ℕ) (d : Json) → IsOne (FaultsAt o limit p name d)
  faults_one o limit p name (array ds) a b x y =
      in_series_one p (λ kind. OwnOr (own_list_faults kind name ds) (ItemsFaults o limit kind name ds)) (FlatFaults o p name (array ds))
      (λ kind. own_or_one (own_list_faults kind name ds) (ItemsFaults o limit kind name ds) (items_one o limit kind name ds)) (flat_one o p name (array ds)) a b x y
  faults_one o limit p name (an_object ms) a b x y =
      in_object_one p (λ kind. OwnOr (own_faults kind name ms) (InLevels (refined kind ms) ms limit (λ inner. MembersFaults o (levels_inside kind inner) (refined kind ms) (required (refined kind ms)) ms))) (FlatFaults o p name (an_object ms))
      (λ kind. own_or_one (own_faults kind name ms) (InLevels (refined kind ms) ms limit (λ inner. MembersFaults o (levels_inside kind inner) (refined kind ms) (required (refined kind ms)) ms))
      (in_levels_one (refined kind ms) ms limit (λ inner. MembersFaults o (levels_inside kind inner) (refined kind ms) (required (refined kind ms)) ms) (λ inner. members_one o (levels_inside kind inner) (refined kind ms) (required (refined kind ms)) ms))) (flat_one o p name (an_object ms)) a b x y
  faults_one o limit p name d a b x y = flat_one o p name d a b x y

  items_one : (o : Origin) (limit : ℕ) (kind : Series) (name : List ℕ) (ds : Items) → IsOne (ItemsFaults o limit kind name ds)
  items_one o limit kind name no_items a b x y = x ∙ sym y
  items_one o limit kind name (item d ds) a b x y =
      joined_one (FaultsAt o limit (item_place kind) name d) (ItemsFaults o limit kind name ds) [] (faults_one o limit (item_place kind) name d) (items_one o limit kind name ds) a b x.0 y.0 x.1 y.1 x.2 y.2 x.3 y.3 x.4 y.4

  members_one : (o : Origin) (limit : ℕ) (kind : Object) (names : List (List ℕ)) (ms : Members) → IsOne (MembersFaults o limit kind names ms)
  members_one o limit kind names no_members a b x y = x ∙ sym y
  members_one o limit kind names (member name d ms) a b x y =
      joined_one (AtMember kind name d (FaultsAt o limit (member_place kind name) name d)) (MembersFaults o limit kind (later name names) ms) (missing kind (missed name d names))
      (at_member_one kind name d (FaultsAt o limit (member_place kind name) name d) (faults_one o limit (member_place kind name) name d)) (members_one o limit kind (later name names) ms)
      a b x.0 y.0 x.1 y.1 x.2 y.2 x.3 y.3 x.4 y.4

pub name_faults_one : (root : Root) (d : Json) → IsOne (NameFaults root d)
name_faults_one root d a b x y = leaf_one root leaf.Name _ d a b x y
