-- Deletes: the name of a document, and a precondition beside it.
use Rattle.std.proofs.Common.{◌≡◌, ℕ, List, [], codes, Some, refl, sym, ap, subst, inr}
use Rattle.document_keys.specs.Names.{Root}
use Rattle.json.specs.Json as text
use Rattle.serde_json.specs.Data.{Data, Members, member, no_members}
use Rattle.serde_json.specs.Find.{as_object}
use Rattle.value_model.specs.Storable.{IsStorableKey}
use Rattle.json_model.specs.declared.place.Object.{Object}
use Rattle.json_model.specs.declared.place.Object.TheVariants as object
use Rattle.json_model.specs.declared.place.Place.TheVariants as place
use Rattle.json_model.specs.declared.place.Leaf.TheVariants as leaf
use Rattle.json_model.specs.Faults.{max_nesting}
use Rattle.json_model.specs.Fits.{Fits, MembersFit}
use Rattle.json_model.specs.Grammar.{SpellsName}
use Rattle.json_model.specs.Members.{refined}
use Rattle.json_model.specs.Origin.{Origin}
use Rattle.json_model.specs.Places.{required, write_rows, delete_write_rows, is_write_choice}
use Rattle.json_model.proofs.Fitting.{flat_object_fits}
use Rattle.json_model.proofs.Sound.{not_out}
use Rattle.json_rpc.specs.Grammar.{SpellsCondition, SpellsWrite}
use Rattle.json_rpc.specs.Storable.{IsStorableCondition, IsStorableWrite}
use Rattle.mutations.specs.declared.write.Precondition.{Precondition}
use Rattle.mutations.specs.declared.write.Precondition.TheVariants.{Free}
use Rattle.mutations.specs.declared.write.Write.TheVariants.{Delete}
use Rattle.plain_json.specs.Trees.{HoldsOnly, HasOnly, HoldsBoth, HasBoth, StandsFor, IsBuiltOf, IsBuiltAnywhere}
use Rattle.plain_json.proofs.Fitted.{name_fits}
use Rattle.plain_json.proofs.Members.{only, both}

-- the members of a delete, alone and with a precondition
abbrev alone : Data → Members
alone name = member (codes "delete") name no_members

abbrev asked : Data → Data → Members
asked condition name = member (codes "currentDocument") condition (alone name)

free_fits : (o : Origin) (name d : Data) (key : List (List ℕ)) → HasOnly (codes "delete") name d → SpellsName o.root name key → Fits o max_nesting (place.Object object.Write) d
unfolding Fits write_rows delete_write_rows is_write_choice
free_fits o name d key held names =
    let ms = alone name in
    let some = held.there in
    let inside : MembersFit o max_nesting object.DeleteWrite (required object.DeleteWrite) ms = (refl, inr (not_out (place.Leaf leaf.Name) name some, (tt, name_fits o max_nesting name key names)), refl) in
    let same : refined object.Write ms ≡ object.DeleteWrite = rw some refl in
    subst (Fits o max_nesting (place.Object object.Write)) (sym held.is)
    (flat_object_fits o max_nesting object.Write ms (rw some refl) refl (rw same refl)
    (subst (λ (kind : Object). MembersFit o max_nesting kind (required kind) ms) (sym same) inside))

free_spelled : (root : Root) (name d : Data) (key : List (List ℕ)) → HasOnly (codes "delete") name d → SpellsName root name key → SpellsWrite root d (Delete key Free)
unfolding write_rows is_write_choice
free_spelled root name d key held names = record { members = alone name; is = ap as_object held.is; name = codes "delete"; inner = name; only = rw held.there refl; spells = (refl, record { names = names; asks = refl }) }

abbrev IsDelete : Origin → List (List ℕ) → Precondition → Data → Type 0
IsDelete o key condition = IsBuiltOf o max_nesting (place.Object object.Write) (SpellsWrite o.root) IsStorableWrite (Delete key condition)

deleted : (key : List (List ℕ)) (condition : Precondition) → IsStorableKey key → IsStorableCondition condition → IsStorableWrite (Delete key condition)
deleted key condition names asks = record { of_fields = tt; parts = record { names = names; asks = asks } }

pub free : (o : Origin) (tree name : text.Json) (key : List (List ℕ)) → HoldsOnly tree (codes "delete") name → StandsFor name (λ d. SpellsName o.root d key) → IsStorableKey key → StandsFor tree (IsDelete o key Free)
free o tree name key held names storable =
    let all = only tree name (codes "delete") names.seen held names.is in
    record {
      seen = all.seen;
      is = all.is;
      holds = record {
        fits = free_fits o names.seen all.seen key all.holds names.holds;
        spelled = free_spelled o.root names.seen all.seen key all.holds names.holds;
        stored = deleted key Free storable tt;
      };
    }

-- ---- with a precondition

asked_fits : (o : Origin) (condition name d : Data) (key : List (List ℕ)) → HasBoth (codes "currentDocument") (codes "delete") condition name d → Fits o max_nesting (place.Object object.Condition) condition → SpellsName o.root name key → Fits o max_nesting (place.Object object.Write) d
unfolding Fits write_rows delete_write_rows is_write_choice
asked_fits o condition name d key held fits names =
    let ms = asked condition name in
    let some = held.other in
    let last : MembersFit o max_nesting object.DeleteWrite [] (alone name) = (refl, inr (not_out (place.Leaf leaf.Name) name some, (tt, name_fits o max_nesting name key names)), refl) in
    let inside : MembersFit o max_nesting object.DeleteWrite (required object.DeleteWrite) ms = (refl, inr (not_out (place.Object object.Condition) condition held.one, (tt, fits)), last) in
    let same : refined object.Write ms ≡ object.DeleteWrite = rw some refl in
    subst (Fits o max_nesting (place.Object object.Write)) (sym held.is)
    (flat_object_fits o max_nesting object.Write ms (rw some refl) refl (rw same refl)
    (subst (λ (kind : Object). MembersFit o max_nesting kind (required kind) ms) (sym same) inside))

asked_spelled : (root : Root) (condition name d : Data) (key : List (List ℕ)) (precondition : Precondition) → HasBoth (codes "currentDocument") (codes "delete") condition name d → SpellsCondition (Some condition) precondition
    → SpellsName root name key → SpellsWrite root d (Delete key precondition)
unfolding write_rows is_write_choice
asked_spelled root condition name d key precondition held asks names = record {
  members = asked condition name;
  is = ap as_object held.is;
  name = codes "delete";
  inner = name;
  only = rw held.other refl;
  spells = (refl, record { names = names; asks = rw held.one asks });
}

pub asked_for : (o : Origin) (tree condition name : text.Json) (key : List (List ℕ)) (precondition : Precondition) → HoldsBoth tree (codes "currentDocument") (codes "delete") condition name
    → StandsFor condition (IsBuiltAnywhere (place.Object object.Condition) (λ d. SpellsCondition (Some d)) IsStorableCondition precondition) → StandsFor name (λ d. SpellsName o.root d key) → IsStorableKey key → StandsFor tree (IsDelete o key precondition)
asked_for o tree condition name key precondition held asks names storable =
    let all = both tree condition name (codes "currentDocument") (codes "delete") asks.seen names.seen refl held asks.is names.is in
    let built = asks.holds o in
    record {
      seen = all.seen;
      is = all.is;
      holds = record {
        fits = asked_fits o asks.seen names.seen all.seen key all.holds built.fits names.holds;
        spelled = asked_spelled o.root asks.seen names.seen all.seen key precondition all.holds built.spelled names.holds;
        stored = deleted key precondition storable built.stored;
      };
    }
