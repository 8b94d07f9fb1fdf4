-- Changes under their names.
use Rattle.std.proofs.Common.{◌≡◌, ◌≤◌, ◌-◌, ℕ, ℤ, List, Some, codes, FitsSigned, refl, sym, ap, subst, inr, arith}
use Rattle.std.specs.Int.{w64}
use Rattle.json.specs.Json as text
use Rattle.serde_json.specs.Data.{Data, string, member, no_members}
use Rattle.serde_json.specs.Find.{as_object}
use Rattle.serde_json.specs.Read.{of_json}
use Rattle.value_model.specs.Data.{Data as Value, items_of}
use Rattle.value_model.specs.Storable.{AreStorableItems, IsCountable}
use Rattle.json_model.specs.declared.place.Object.TheVariants as object
use Rattle.json_model.specs.declared.place.Place.TheVariants as place
use Rattle.json_model.specs.declared.place.Series.TheVariants as series
use Rattle.json_model.specs.Faults.{max_nesting}
use Rattle.json_model.specs.Fits.{Fits}
use Rattle.json_model.specs.Grammar.{SpellsList}
use Rattle.json_model.specs.Numbers.{SpellsInteger, as_text}
use Rattle.json_model.specs.Origin.{Origin}
use Rattle.json_model.specs.Places.{value_rows, operand_rows, transform_rows}
use Rattle.json_model.proofs.Fitting.{flat_object_fits}
use Rattle.json_model.proofs.Sound.{not_out}
use Rattle.json_rpc.specs.Grammar.{SpellsOperand, SpellsElements}
use Rattle.mutations.specs.declared.transform.Change.TheVariants.{ServerTime, Increment, Maximum, Minimum, Append, RemoveAll}
use Rattle.plain_json.specs.Changes.{IsChange}
use Rattle.plain_json.specs.Trees.{HoldsOnly, HasOnly, StandsFor, IsBuiltOf, IsBuiltAnywhere}
use Rattle.plain_json.proofs.Members.{only}

abbrev IsNumber : ℤ → Data → Type 0
IsNumber number = IsBuiltAnywhere (place.Object object.Operand) SpellsOperand (FitsSigned w64) number

operand_built : (content : List ℕ) (number : ℤ) (d : Data) → HasOnly (codes "integerValue") (string content) d → SpellsInteger content number → IsNumber number d
unfolding Fits value_rows operand_rows
operand_built content number d held spells o =
    let ms = member (codes "integerValue") (string content) no_members in
    record {
      fits = subst (Fits o max_nesting (place.Object object.Operand)) (sym held.is) (flat_object_fits o max_nesting object.Operand ms refl refl refl (refl, inr (refl, (tt, (number, as_text content refl spells))), refl));
      spelled = record { members = ms; is = ap as_object held.is; name = codes "integerValue"; inner = string content; only = refl; spells = (refl, as_text content refl spells) };
      stored = spells.fits;
    }

pub operand : (tree inner : text.Json) (content : List ℕ) (number : ℤ) → HoldsOnly tree (codes "integerValue") inner → inner ≡ text.string content → SpellsInteger content number → StandsFor tree (IsNumber number)
operand tree inner content number held is spells =
    let all = only tree inner (codes "integerValue") (string content) held (ap of_json is) in
    record { seen = all.seen; is = all.is; holds = operand_built content number all.seen all.holds spells }

pub increment : (tree : text.Json) (number : ℤ) → StandsFor tree (IsNumber number) → (o : Origin) (names : ℕ) → StandsFor tree (IsChange o names (codes "increment") (Increment number))
unfolding transform_rows
increment tree number stands o names =
    let built = stands.holds o in
    record { seen = stands.seen; is = stands.is; holds = record { room = omega arith; fits = built.fits; spelled = (refl, built.spelled); stored = built.stored } }

pub maximum : (tree : text.Json) (number : ℤ) → StandsFor tree (IsNumber number) → (o : Origin) (names : ℕ) → StandsFor tree (IsChange o names (codes "maximum") (Maximum number))
unfolding transform_rows
maximum tree number stands o names =
    let built = stands.holds o in
    record { seen = stands.seen; is = stands.is; holds = record { room = omega arith; fits = built.fits; spelled = (refl, built.spelled); stored = built.stored } }

pub minimum : (tree : text.Json) (number : ℤ) → StandsFor tree (IsNumber number) → (o : Origin) (names : ℕ) → StandsFor tree (IsChange o names (codes "minimum") (Minimum number))
unfolding transform_rows
minimum tree number stands o names =
    let built = stands.holds o in
    record { seen = stands.seen; is = stands.is; holds = record { room = omega arith; fits = built.fits; spelled = (refl, built.spelled); stored = built.stored } }

pub server_time : (tree : text.Json) → tree ≡ text.string (codes "REQUEST_TIME") → (o : Origin) (names : ℕ) → StandsFor tree (IsChange o names (codes "setToServerValue") ServerTime)
unfolding Fits transform_rows
server_time tree is o names = record {
  seen = string (codes "REQUEST_TIME");
  is = ap of_json is;
  holds = record { room = omega arith; fits = refl; spelled = refl; stored = tt };
}

-- ---- of arrays

abbrev AreElements : Origin → ℕ → List Value → Data → Type 0
AreElements o limit values = IsBuiltOf o limit (place.Object object.Elements) SpellsElements (λ those. AreStorableItems (items_of those) × IsCountable those) values

elements_fit : (o : Origin) (limit : ℕ) (list d : Data) → HasOnly (codes "values") list d → Fits o limit (place.Series series.Values) list → Fits o limit (place.Object object.Elements) d
unfolding Fits
elements_fit o limit list d held fits =
    subst (Fits o limit (place.Object object.Elements)) (sym held.is)
    (flat_object_fits o limit object.Elements (member (codes "values") list no_members) refl refl refl (refl, inr (not_out (place.Series series.Values) list held.there, (tt, fits)), refl))

pub elements : (o : Origin) (limit : ℕ) (tree list : text.Json) (values : List Value) → HoldsOnly tree (codes "values") list
    → StandsFor list (IsBuiltOf o limit (place.Series series.Values) (λ d. SpellsList (Some d)) (λ those. AreStorableItems (items_of those)) values) → IsCountable values → StandsFor tree (AreElements o limit values)
elements o limit tree list values held inside count =
    let all = only tree list (codes "values") inside.seen held inside.is in
    record {
      seen = all.seen;
      is = all.is;
      holds = record {
        fits = elements_fit o limit inside.seen all.seen all.holds inside.holds.fits;
        spelled = record { members = member (codes "values") inside.seen no_members; is = ap as_object all.holds.is; spells = rw all.holds.there inside.holds.spelled };
        stored = (inside.holds.stored, count);
      };
    }

pub append : (o : Origin) (names : ℕ) (tree : text.Json) (values : List Value) → names ≤ max_nesting → StandsFor tree (AreElements o (max_nesting - names) values) → StandsFor tree (IsChange o names (codes "appendMissingElements") (Append values))
unfolding transform_rows
append o names tree values room stands = record { seen = stands.seen; is = stands.is; holds = record { room = room; fits = stands.holds.fits; spelled = (refl, stands.holds.spelled); stored = stands.holds.stored } }

pub remove_all : (o : Origin) (names : ℕ) (tree : text.Json) (values : List Value) → names ≤ max_nesting → StandsFor tree (AreElements o (max_nesting - names) values) → StandsFor tree (IsChange o names (codes "removeAllFromArray") (RemoveAll values))
unfolding transform_rows
remove_all o names tree values room stands = record { seen = stands.seen; is = stands.is; holds = record { room = room; fits = stands.holds.fits; spelled = (refl, stands.holds.spelled); stored = stands.holds.stored } }
