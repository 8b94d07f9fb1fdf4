-- What stands under which name, where there is no fault.
use Rattle.std.proofs.Common.{◌≡◌, ℕ, List, [], ◌∷◌, Bool, true, false, ◌||◌, codes, refl, ap, subst, ◌∙◌}
use Rattle.std.specs.Bool.{if◌then◌else◌}
use Rattle.std.specs.Str.{bytes_eq}
use Rattle.std.proofs.lemmas.Slice.Eq.{bytes_eq-Decides}
use Rattle.serde_json.specs.Data.{Data as Json, Members}
use Rattle.json_model.specs.declared.place.Place.{Place}
use Rattle.json_model.specs.declared.place.Place.TheVariants as place
use Rattle.json_model.specs.declared.place.Object.{Object}
use Rattle.json_model.specs.declared.place.Object.TheVariants as object
use Rattle.json_model.specs.declared.place.Leaf.TheVariants as leaf
use Rattle.json_model.specs.Clean.{IsClean}
use Rattle.json_model.specs.Members.{chosen, refined, only_name, is_of_array}
use Rattle.json_model.specs.Origin.{Origin}
use Rattle.json_model.specs.Places.{placed, operand_rows, transform_rows, write_rows, delete_write_rows, is_write_choice, member_place, is_unknown}
use Rattle.json_model.proofs.Built.{unsupported}
use Rattle.json_model.proofs.Choices.{only_is}

-- texts that are told apart
pub apart : (a b : List ℕ) → bytes_eq a b ≡ false → a ≡ b → ⊥
apart a b unlike is = let yes_is : bytes_eq a b ≡ true = (bytes_eq-Decides a b).1 is in cc

same : (a b : List ℕ) → bytes_eq a b ≡ true → a ≡ b
same a b is = (bytes_eq-Decides a b).0 is

-- the operand has just one name
pub operand_named : (o : Origin) (name : List ℕ) (d : Json) → is_unknown (placed operand_rows name) ≡ false → IsClean o (placed operand_rows name) d → name ≡ codes "integerValue"
unfolding operand_rows
operand_named o name d known clean = by (bytes_eq name (codes "doubleValue")) (bytes_eq name (codes "integerValue")) refl known clean
  where
    by : (a b : Bool) → bytes_eq name (codes "integerValue") ≡ b → is_unknown (if a then place.Unsupported else if b then place.Leaf leaf.Integer else place.Unknown) ≡ false
        → IsClean o (if a then place.Unsupported else if b then place.Leaf leaf.Integer else place.Unknown) d → name ≡ codes "integerValue"
    by true b is known_is fine = absurd (unsupported o fine.0 fine.1 d fine.3)
    by false true is known_is fine = same name (codes "integerValue") is
    by false false is known_is fine = cc

-- a transform has the same places, whatever its change
pub transform_place : (ms : Members) (name : List ℕ) → member_place (refined object.Transform ms) name ≡ placed transform_rows name
transform_place ms name = by (is_of_array (only_name (chosen object.Transform ms)))
  where
    by : (b : Bool) → member_place (if b then object.ArrayTransform else object.Transform) name ≡ placed transform_rows name
    by true = refl
    by false = refl

-- what stands at its path
pub path_clean : (o : Origin) (ms : Members) (d : Json) → IsClean o (member_place (refined object.Transform ms) (codes "fieldPath")) d → IsClean o (place.Leaf leaf.Path) d
unfolding transform_rows
path_clean o ms d clean = subst (λ p. IsClean o p d) (transform_place ms (codes "fieldPath")) clean

-- what object a write is, by the name of its alternative
write_is : (ms : Members) (name : List ℕ) (d : Json) (b : Bool) → chosen object.Write ms ≡ (name, d) ∷ [] → bytes_eq name (codes "delete") ≡ b → refined object.Write ms ≡ (if b then object.DeleteWrite else object.Write)
write_is ms name d b only is =
    ap (λ n. if bytes_eq n (codes "delete") then object.DeleteWrite else object.Write) (only_is object.Write ms name d only)
    ∙ ap (λ (c : Bool). if c then object.DeleteWrite else object.Write) is

-- and what stands under it
stands : (o : Origin) (ms : Members) (name : List ℕ) (d : Json) (kind : Object) (n : List ℕ) (p : Place) → refined object.Write ms ≡ kind → name ≡ n → member_place kind n ≡ p → IsClean o (member_place (refined object.Write ms) name) d → IsClean o p d
stands o ms name d kind n p is named at clean =
    subst (λ q. IsClean o q d) at (subst (λ (m : List ℕ). IsClean o (member_place kind m) d) named (subst (λ k. IsClean o (member_place k name) d) is clean))

pub update_clean : (o : Origin) (ms : Members) (name : List ℕ) (d : Json) → chosen object.Write ms ≡ (name, d) ∷ [] → name ≡ codes "update" → IsClean o (member_place (refined object.Write ms) name) d → IsClean o (place.Object object.Update) d
unfolding write_rows
update_clean o ms name d only named clean =
    stands o ms name d object.Write (codes "update") (place.Object object.Update) (write_is ms name d false only (ap (λ n. bytes_eq n (codes "delete")) named)) named refl clean

pub delete_clean : (o : Origin) (ms : Members) (name : List ℕ) (d : Json) → chosen object.Write ms ≡ (name, d) ∷ [] → name ≡ codes "delete" → IsClean o (member_place (refined object.Write ms) name) d → IsClean o (place.Leaf leaf.Name) d
unfolding delete_write_rows
delete_clean o ms name d only named clean =
    stands o ms name d object.DeleteWrite (codes "delete") (place.Leaf leaf.Name) (write_is ms name d true only (ap (λ n. bytes_eq n (codes "delete")) named)) named refl clean

-- there is no other
pub no_other_write : (o : Origin) (ms : Members) (name : List ℕ) (d : Json) → is_write_choice name ≡ true → (name ≡ codes "update" → ⊥) → (name ≡ codes "delete" → ⊥) → chosen object.Write ms ≡ (name, d) ∷ [] → IsClean o (member_place (refined object.Write ms) name) d → ⊥
unfolding is_write_choice write_rows
no_other_write o ms name d choice not_update not_delete only clean = by (bytes_eq name (codes "delete")) (bytes_eq name (codes "transform")) (bytes_eq name (codes "update")) refl refl refl choice
  where
    by : (a b c : Bool) → bytes_eq name (codes "delete") ≡ a → bytes_eq name (codes "transform") ≡ b → bytes_eq name (codes "update") ≡ c → (a || (b || c)) ≡ true → ⊥
    by true b c first second third one = not_delete (same name (codes "delete") first)
    by false true c first second third one =
        let fine = stands o ms name d object.Write (codes "transform") place.Unsupported (write_is ms name d false only first) (same name (codes "transform") second) refl clean in
        unsupported o fine.0 fine.1 d fine.3
    by false false true first second third one = not_update (same name (codes "update") third)
    by false false false first second third one = cc
