-- Scalars, and values of one member.
use Rattle.std.proofs.Common.{◌≡◌, ℕ, ℤ, List, Bool, false, Option, Some, None, Result, Ok, Err, refl, ap, inl, inr}
use Rattle.json.specs.Json as text
use Rattle.serde_json.specs.Data as json
use Rattle.serde_json.specs.Read.{of_json}
use Rattle.value_model.specs.Data.{Data, null, boolean, integer}
use Rattle.value_model.specs.Storable.{IsStorable}
use Rattle.json_model.specs.declared.place.Leaf.{Leaf}
use Rattle.json_model.specs.declared.place.Leaf.TheVariants as leaf
use Rattle.json_model.specs.declared.place.Object.TheVariants as object
use Rattle.json_model.specs.declared.place.Place.{Place}
use Rattle.json_model.specs.declared.place.Place.TheVariants as place
use Rattle.json_model.specs.Grammar.{SpellsScalar, SpellsValue, SpellsKind, as_scalar, as_array as by_array, as_map as by_map}
use Rattle.json_model.specs.Members.{is_left_out}
use Rattle.json_model.specs.Numbers.{SpellsInteger, SpellsWhole, as_number, as_text}
use Rattle.json_model.specs.Origin.{Origin}
use Rattle.json_model.specs.Places.{value_member}
use Rattle.json_model.specs.Scalars.{IsReadScalar}
use Rattle.plain_json.specs.Built.{IfBuilt}
use Rattle.plain_json.specs.Trees.{StandsFor, IsBuiltOf}
use Rattle.plain_json.proofs.Formed.{scalar_fits, value_fits, value_spelled}

-- ---- what stands under a kind isn't left out

whole_there : (d : json.Data) (z : ℤ) → SpellsWhole d z → is_left_out (place.Leaf leaf.Integer) d ≡ false
whole_there d z (as_number fits (inl n)) = ap (is_left_out (place.Leaf leaf.Integer)) n.1
whole_there d z (as_number fits (inr is)) = ap (is_left_out (place.Leaf leaf.Integer)) is
whole_there d z (as_text content is spelled) = ap (is_left_out (place.Leaf leaf.Integer)) is

scalar_there : (kind : Leaf) (d : json.Data) (v : Data) → SpellsScalar kind d v → is_left_out (place.Leaf kind) d ≡ false
scalar_there leaf.Null d v s = refl
scalar_there leaf.Boolean d v s = ap (is_left_out (place.Leaf leaf.Boolean)) s.1.0
scalar_there leaf.Integer d v s = whole_there d s.0 s.1.0
scalar_there leaf.Time d v (at, ((content, (is, of)), e)) = ap (is_left_out (place.Leaf leaf.Time)) is
scalar_there leaf.Text d v s = ap (is_left_out (place.Leaf leaf.Text)) s.1.0
scalar_there leaf.Bytes d v (those, ((content, (is, of)), e)) = ap (is_left_out (place.Leaf leaf.Bytes)) is
scalar_there leaf.Reference d v (name, ((content, (is, of)), e)) = ap (is_left_out (place.Leaf leaf.Reference)) is
scalar_there _ d v s = absurd s

kind_there : (p : Place) (d : json.Data) (v : Data) → SpellsKind p d v → is_left_out p d ≡ false
kind_there _ d v (as_scalar s) = scalar_there _ d v s
kind_there _ d v (by_array ms ds is list means) = ap (is_left_out (place.Object object.Array)) is
kind_there _ d v (by_map ms es is fields means) = ap (is_left_out (place.Object object.Map)) is

-- ---- scalars

pub null_stands : (tree : text.Json) → tree ≡ text.null → StandsFor tree (λ d. IsReadScalar leaf.Null d null)
null_stands tree is = record { seen = json.null; is = ap of_json is; holds = record { spelled = (inl refl, refl); storable = tt } }

pub boolean_stands : (tree : text.Json) (b : Bool) → tree ≡ text.boolean b → StandsFor tree (λ d. IsReadScalar leaf.Boolean d (boolean b))
boolean_stands tree b is = record { seen = json.boolean b; is = ap of_json is; holds = record { spelled = (b, (refl, refl)); storable = tt } }

pub integer_read : (content : List ℕ) (z : ℤ) → SpellsInteger content z → IsReadScalar leaf.Integer (json.string content) (integer z)
integer_read content z spells = record { spelled = (z, (as_text content refl spells, refl)); storable = spells.fits }

pub text_stands : {E : Type 0} (tree : text.Json) (content : List ℕ) (kind : Leaf) (read : Result (Option Data) E) → tree ≡ text.string content → IfBuilt read (IsReadScalar kind (json.string content)) → IfBuilt read (λ v. StandsFor tree (λ d. IsReadScalar kind d v))
text_stands tree content kind (Ok None) is holds = tt
text_stands tree content kind (Ok (Some v)) is holds = record { seen = json.string content; is = ap of_json is; holds = holds }
text_stands tree content kind (Err e) is holds = tt

-- ---- values

scalar : (o : Origin) (limit : ℕ) (kind : Leaf) (tree : text.Json) (v : Data) → StandsFor tree (λ d. IsReadScalar kind d v) → StandsFor tree (IsBuiltOf o limit (place.Leaf kind) (SpellsKind (place.Leaf kind)) IsStorable v)
scalar o limit kind tree v s = record {
  seen = s.seen;
  is = s.is;
  holds = record { fits = scalar_fits o limit kind s.seen v s.holds.spelled; spelled = as_scalar s.holds.spelled; stored = s.holds.storable };
}

pub scalar_built : {E : Type 0} (o : Origin) (limit : ℕ) (kind : Leaf) (tree : text.Json) (read : Result (Option Data) E) → IfBuilt read (λ v. StandsFor tree (λ d. IsReadScalar kind d v))
    → IfBuilt read (λ v. StandsFor tree (IsBuiltOf o limit (place.Leaf kind) (SpellsKind (place.Leaf kind)) IsStorable v))
scalar_built o limit kind tree (Ok None) holds = tt
scalar_built o limit kind tree (Ok (Some v)) holds = scalar o limit kind tree v holds
scalar_built o limit kind tree (Err e) holds = tt

pub value : (o : Origin) (limit : ℕ) (tree inner : text.Json) (name : List ℕ) (v : Data) → tree ≡ text.object (text.member name inner text.no_members)
    → StandsFor inner (IsBuiltOf o limit (value_member name) (SpellsKind (value_member name)) IsStorable v) → StandsFor tree (IsBuiltOf o limit (place.Object object.Value) SpellsValue IsStorable v)
value o limit tree inner name v is inside =
    let d = json.object (json.member name inside.seen json.no_members) in
    let there = kind_there (value_member name) inside.seen v inside.holds.spelled in
    record {
      seen = d;
      is = rw (is, inside.is) refl;
      holds = record {
        fits = value_fits o limit name inside.seen d v refl there inside.holds.spelled inside.holds.fits;
        spelled = value_spelled name inside.seen d v refl there inside.holds.spelled;
        stored = inside.holds.stored;
      };
    }
