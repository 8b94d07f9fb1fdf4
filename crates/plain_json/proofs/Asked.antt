-- Preconditions, and the times in them.
use Rattle.std.proofs.Common.{◌≡◌, ℕ, List, Bool, Some, codes, refl, sym, ap, inr}
use Rattle.json.specs.Json as text
use Rattle.serde_json.specs.Data.{Data, boolean, string, object as an_object, member, no_members}
use Rattle.serde_json.specs.Read.{of_json}
use Rattle.value_model.specs.Time.{IsMoment, time_of}
use Rattle.value_model.specs.declared.timestamp.Timestamp.{Timestamp}
use Rattle.json_model.specs.declared.place.Object.TheVariants as object
use Rattle.json_model.specs.declared.place.Place.TheVariants as place
use Rattle.json_model.specs.Faults.{max_nesting}
use Rattle.json_model.specs.Fits.{Fits}
use Rattle.json_model.specs.Grammar.{SpellsTime}
use Rattle.json_model.specs.Places.{condition_rows}
use Rattle.json_model.proofs.Fitting.{flat_object_fits}
use Rattle.json_rpc.specs.Grammar.{SpellsCondition}
use Rattle.json_rpc.specs.Storable.{IsStorableCondition}
use Rattle.mutations.specs.declared.write.Precondition.{Precondition}
use Rattle.mutations.specs.declared.write.Precondition.TheVariants.{Exists, UpdateTime}
use Rattle.plain_json.specs.Trees.{StandsFor, IsBuiltAnywhere}

pub time : (tree : text.Json) (content : List ℕ) (at : Timestamp) → tree ≡ text.string content → Some at ≡ time_of content → StandsFor tree (λ d. SpellsTime d at)
time tree content at is spelled = record { seen = string content; is = ap of_json is; holds = (content, (refl, sym spelled)) }

abbrev IsCondition : Precondition → Data → Type 0
IsCondition condition = IsBuiltAnywhere (place.Object object.Condition) (λ d. SpellsCondition (Some d)) IsStorableCondition condition

pub exists : (tree inner : text.Json) (is : Bool) → tree ≡ text.object (text.member (codes "exists") inner text.no_members) → inner ≡ text.boolean is → StandsFor tree (IsCondition (Exists is))
unfolding Fits condition_rows
exists tree inner is holds inside =
    let ms = member (codes "exists") (boolean is) no_members in
    record {
      seen = an_object ms;
      is = rw (holds, inside) refl;
      holds = (λ o. record {
        fits = flat_object_fits o max_nesting object.Condition ms refl refl refl (refl, inr (refl, (tt, (is, refl))), refl);
        spelled = record { members = ms; is = refl; name = codes "exists"; inner = boolean is; only = refl; spells = (refl, refl) };
        stored = tt;
      });
    }

time_condition : (content : List ℕ) (at : Timestamp) → time_of content ≡ Some at → IsMoment at → IsCondition (UpdateTime at) (an_object (member (codes "updateTime") (string content) no_members))
unfolding Fits condition_rows
time_condition content at spelled moment o =
    let ms = member (codes "updateTime") (string content) no_members in
    record {
      fits = flat_object_fits o max_nesting object.Condition ms refl refl refl (refl, inr (refl, (tt, (content, (refl, (at, spelled))))), refl);
      spelled = record { members = ms; is = refl; name = codes "updateTime"; inner = string content; only = refl; spells = (refl, (content, (refl, spelled))) };
      stored = moment;
    }

pub update_time : (tree inner : text.Json) (at : Timestamp) → tree ≡ text.object (text.member (codes "updateTime") inner text.no_members) → StandsFor inner (λ d. SpellsTime d at) → IsMoment at → StandsFor tree (IsCondition (UpdateTime at))
update_time tree inner at holds stands moment = record {
  seen = an_object (member (codes "updateTime") (string stands.holds.0) no_members);
  is = rw (holds, stands.is, stands.holds.1.0) refl;
  holds = time_condition stands.holds.0 at stands.holds.1.1 moment;
}
