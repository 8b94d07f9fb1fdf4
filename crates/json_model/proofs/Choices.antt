-- The one alternative of an object without faults.
use Rattle.std.proofs.Common.{◌≡◌, ◌≢◌, ℕ, ◌-◌, List, [], ◌∷◌, length, true, false, not, ◌&&◌, inl, inr, refl, sym, ap, subst, arith}
use Rattle.std.proofs.lemmas.Bool.{and_parts, and_cases, or_parts, not-true, not-false}
use Rattle.serde_json.specs.Data.{Data as Json, Members}
use Rattle.json_model.specs.declared.place.Object.{Object}
use Rattle.json_model.specs.declared.place.Object.TheVariants as object
use Rattle.json_model.specs.Clean.{IsClean, AreClean}
use Rattle.json_model.specs.Faults.{FaultsAt, MembersFaults, levels_inside}
use Rattle.json_model.specs.Members.{is_null, takes_null, is_left_out, is_chosen, chosen, is_one_known, only_name, lacks_array, refined}
use Rattle.json_model.specs.Origin.{Origin}
use Rattle.json_model.specs.Places.{write_rows, transform_rows, field_filter_rows, member_place, is_unknown, chooses, is_choice, required}
use Rattle.json_model.proofs.Fitting.{own_choice}
use Rattle.json_model.proofs.Rows.{every_row}
use Rattle.json_model.proofs.Among.{each_at, chosen_among}
use Rattle.json_model.proofs.Sound.{each_clean, sound, levels_few, not_out}

pub choice_there : (o : Origin) (kind : Object) (ms : Members) → AreClean o kind ms → chooses kind ≡ true → is_one_known kind (chosen kind ms) ≡ false → ⊥
choice_there o kind ms (limit, name, room, clean) must none =
    let lacks = (own_choice kind name ms (sound o limit kind name ms clean).own).0 in
    let e : (chooses kind && not (is_one_known kind (chosen kind ms))) ≡ true = λ i. must i && not (none i) in
    let f = (or_parts (lacks_array kind ms) (chooses kind && not (is_one_known kind (chosen kind ms))) lacks).1 in
    cc

-- null stands in no object that has another form by its members
same_place : (kind : Object) (ms : Members) (k : List ℕ) → takes_null (member_place kind k) ≡ true → refined kind ms ≡ kind
unfolding write_rows transform_rows field_filter_rows
same_place object.Write ms k takes = let h = every_row (λ p. not (takes_null p)) write_rows k refl refl in let e = ap not takes in cc
same_place object.Transform ms k takes = let h = every_row (λ p. not (takes_null p)) transform_rows k refl refl in let e = ap not takes in cc
same_place object.FieldFilter ms k takes = let h = every_row (λ p. not (takes_null p)) field_filter_rows k refl refl in let e = ap not takes in cc
same_place object.ListOperand ms k takes = cc
same_place _ ms k takes = refl

kept : (kind : Object) (ms : Members) (k : List ℕ) (d : Json) → is_chosen kind k d ≡ true → is_left_out (member_place (refined kind ms) k) d ≡ false
kept kind ms k d chosen_is =
    let out = not-true (is_left_out (member_place kind k) d) (and_parts (is_choice kind k) _ chosen_is).1 in
    elim (and_cases (not (takes_null (member_place kind k))) (is_null d) out) [
      | inl may ↦ subst (λ r. is_left_out (member_place r k) d ≡ false) (sym (same_place kind ms k (not-false _ may))) out
      | inr some ↦ not_out (member_place (refined kind ms) k) d some
    ]

-- the alternatives of some members are among those of all
pub chosen_clean : (o : Origin) (limit : ℕ) (kind : Object) (whole : Members) (names : List (List ℕ)) (ms : Members) (k : List ℕ) (d : Json) → MembersFaults o limit (refined kind whole) names ms [] → chosen kind ms ≡ (k, d) ∷ [] → FaultsAt o limit (member_place (refined kind whole) k) k d []
chosen_clean o limit kind whole names ms k d clean is =
    let at = chosen_among kind ms k d is in
    (each_at _ ms k d (each_clean o limit (refined kind whole) names ms clean) at.0 (kept kind whole k d at.1)).1

pub choice_clean : (o : Origin) (kind : Object) (ms : Members) (k : List ℕ) (d : Json) → AreClean o kind ms → chosen kind ms ≡ (k, d) ∷ [] → IsClean o (member_place (refined kind ms) k) d
choice_clean o kind ms k d (limit, name, room, clean) is =
    let inside = sound o limit kind name ms clean in
    let left = levels_inside kind (limit - inside.levels) in
    (left, k, levels_few kind (limit - inside.levels) (omega arith), chosen_clean o left kind ms (required (refined kind ms)) ms k d inside.inside is)

-- what is chosen is one of the alternatives
pub chosen_choice : (kind : Object) (ms : Members) (k : List ℕ) (d : Json) → chosen kind ms ≡ (k, d) ∷ [] → is_choice kind k ≡ true
chosen_choice kind ms k d is = (and_parts (is_choice kind k) _ (chosen_among kind ms k d is).1).0

-- the kind of a value that is given is known
pub kind_known : (ms : Members) (k : List ℕ) (d : Json) → chosen object.Value ms ≡ (k, d) ∷ [] → is_unknown (member_place object.Value k) ≡ false
kind_known ms k d is = not-true _ (chosen_choice object.Value ms k d is)

-- the one alternative that is given has this name
pub only_is : (kind : Object) (ms : Members) (k : List ℕ) (d : Json) → chosen kind ms ≡ (k, d) ∷ [] → only_name (chosen kind ms) ≡ k
only_is kind ms k d is = ap only_name is

-- there is no one alternative
pub no_only : (given : List (List ℕ × Json)) → length given ≢ 1 → [] ≡ only_name given
no_only [] many = refl
no_only (one ∷ []) many = absurd (many refl)
no_only (one ∷ two ∷ others) many = refl
