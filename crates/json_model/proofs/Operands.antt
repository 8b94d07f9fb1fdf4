-- A list of operands without faults is a value without faults.
use Rattle.std.proofs.Common.{◌≡◌, ℕ, List, [], ◌∷◌, false, not, ◌||◌, codes, refl, ap, ◌∙◌}
use Rattle.std.proofs.lemmas.Bool.{or_parts, not-false}
use Rattle.std.specs.Str.{bytes_eq}
use Rattle.std.proofs.lemmas.Slice.Eq.{bytes_eq-Decides}
use Rattle.serde_json.specs.Data.{Data as Json, object as an_object}
use Rattle.json_model.specs.declared.place.Place.TheVariants as place
use Rattle.json_model.specs.declared.place.Object.TheVariants as object
use Rattle.json_model.specs.Clean.{IsClean}
use Rattle.json_model.specs.Fits.{Fits}
use Rattle.json_model.specs.Members.{chosen, only_name, is_one_known}
use Rattle.json_model.specs.Origin.{Origin}
use Rattle.json_model.specs.Places.{value_rows, value_member, is_unknown}
use Rattle.json_model.proofs.Fitting.{clean_fits, fits_clean}

at_array : is_unknown (value_member (codes "arrayValue")) ≡ false
unfolding value_rows
at_array = refl

one_array : (found : List (List ℕ × Json)) → (not (bytes_eq (only_name found) (codes "arrayValue")) || false) ≡ false → not (is_one_known object.Value found) ≡ false
one_array [] h = cc
one_array (one ∷ two ∷ others) h = cc
one_array (one ∷ []) h =
    let same = (bytes_eq-Decides one.0 (codes "arrayValue")).0 (not-false _ (or_parts _ false h).0) in
    ap (λ (k : List ℕ). not (not (is_unknown (value_member k)))) same ∙ ap (λ b. not (not b)) at_array

as_value : (o : Origin) (limit : ℕ) (d : Json) → Fits o limit (place.Object object.ListOperand) d → Fits o limit (place.Object object.Value) d
unfolding Fits
as_value o limit (an_object ms) h = record { chooses = one_array (chosen object.Value ms) h.chooses; no_vector = refl; levels = h.levels; takes = h.takes; room = h.room; inside = h.inside }
as_value o limit _ h = absurd h

pub operand_value : (o : Origin) (d : Json) → IsClean o (place.Object object.ListOperand) d → IsClean o (place.Object object.Value) d
operand_value o d (limit, name, room, clean) =
    (limit, name, room, fits_clean o limit (place.Object object.Value) name d (as_value o limit d (clean_fits o limit (place.Object object.ListOperand) name d clean)))
