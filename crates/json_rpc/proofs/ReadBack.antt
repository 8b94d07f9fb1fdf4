-- What is printed of a write that can be stored is of the form, and spells it.
use Rattle.std.proofs.Common.{◌≡◌, ◌≤◌, ℕ, List, [], ◌∷◌, true, not, codes, Option, Some, None, option_map, refl, sym, ap, subst, inr, ◌∙◌}
use Rattle.std.specs.Bool.{if◌then◌else◌}
use Rattle.std.specs.Str.{bytes_eq}
use Rattle.document_keys.specs.Names.{Root, name_text}
use Rattle.serde_json.specs.Data.{Data as Json, string, object as an_object, Members}
use Rattle.value_model.specs.Data.{Entries, entries_depth}
use Rattle.value_model.specs.Storable.{AreStorable, IsStorableKey}
use Rattle.value_model.proofs.ReadBack.{time_read}
use Rattle.json_model.specs.declared.place.Place.TheVariants as place
use Rattle.json_model.specs.declared.place.Leaf.TheVariants as leaf
use Rattle.json_model.specs.declared.place.Object.{Object}
use Rattle.json_model.specs.declared.place.Object.TheVariants as object
use Rattle.json_model.specs.Faults.{Takes, max_nesting}
use Rattle.json_model.specs.Fits.{Fits, MembersFit}
use Rattle.json_model.specs.Forms.{SpellsEach, present, unless_empty, printed_each}
use Rattle.json_model.specs.Grammar.{SpellsName}
use Rattle.json_model.specs.Members.{given, chosen, refined, only_name, is_one_known}
use Rattle.json_model.specs.Origin.{Origin}
use Rattle.json_model.specs.Places.{write_rows, delete_write_rows, update_rows, is_write_choice, required}
use Rattle.json_model.proofs.Fitting.{fits_clean, flat_object_fits}
use Rattle.json_model.proofs.ReadBack.{fields_spelled, printed_fits}
use Rattle.mutations.specs.declared.transform.Transform.{Transform}
use Rattle.mutations.specs.declared.write.Precondition.{Precondition}
use Rattle.mutations.specs.declared.write.Precondition.TheVariants.{Free}
use Rattle.mutations.specs.declared.write.Write.{Write}
use Rattle.mutations.specs.declared.write.Write.TheVariants.{Update, Delete}
use Rattle.json_rpc.specs.Grammar.{SpellsCondition, SpellsMaskIn, SpellsFieldsIn, SpellsTransform, SpellsDocument, SpellsWrite}
use Rattle.json_rpc.specs.Laws.{PrintedWritesReadBack}
use Rattle.json_rpc.specs.Printed.{printed_condition, printed_mask, printed_transform, printed_update, printed_write}
use Rattle.json_rpc.specs.Storable.{IsStorableTransform, IsStorableUpdate, IsStorableDelete, IsStorableWrite}
use Rattle.json_rpc.proofs.Rows.{rows_of_update, rows_of_delete}
use Rattle.json_rpc.proofs.Parts.{rows_fit, condition_fits, condition_spelled, mask_fits, mask_spelled, transforms_fit, transform_spelled, list_spelled}

-- ---- names

name_fits : (o : Origin) (limit : ℕ) (key : List (List ℕ)) → IsStorableKey key → Fits o limit (place.Leaf leaf.Name) (string (name_text o.root key))
unfolding Fits
name_fits o limit key stored = (name_text o.root key, (refl, (key, (stored.sound, refl))))

name_spelled : (root : Root) (key : List (List ℕ)) → IsStorableKey key → SpellsName root (string (name_text root key)) key
name_spelled root key stored = record { names = stored.sound; is = refl }

-- ---- what `update` holds

update_fits : (o : Origin) (key : List (List ℕ)) (fields : Entries) → IsStorableKey key → AreStorable fields → entries_depth fields ≤ max_nesting → Fits o max_nesting (place.Object object.Update) (printed_update o.root key fields)
unfolding Fits update_rows
update_fits o key [] stored holds deep = flat_object_fits o max_nesting object.Update _ refl refl refl (refl, inr (refl, (tt, name_fits o max_nesting key stored)), refl)
update_fits o key (field ∷ fields) stored holds deep =
    flat_object_fits o max_nesting object.Update _ refl refl refl
    (refl, inr (refl, (tt, printed_fits time_read o max_nesting (field ∷ fields) holds deep)), (refl, inr (refl, (tt, name_fits o max_nesting key stored)), refl))

spelled_in : (root : Root) (key : List (List ℕ)) (fields : Entries) (ms : Members) → IsStorableKey key
    → given (codes "name") ms ≡ Some (string (name_text root key)) → SpellsFieldsIn (given (codes "fields") ms) fields → SpellsDocument root (an_object ms) key fields
spelled_in root key fields ms stored at holds =
    record { members = ms; is = refl; spells = record { names = record { tree = string (name_text root key); is = at; spells = name_spelled root key stored }; holds = holds } }

update_spelled : (root : Root) (key : List (List ℕ)) (fields : Entries) → IsStorableKey key → AreStorable fields → SpellsDocument root (printed_update root key fields) key fields
update_spelled root key [] stored holds = spelled_in root key [] _ stored refl refl
update_spelled root key (field ∷ fields) stored holds = spelled_in root key _ _ stored refl (fields_spelled time_read (field ∷ fields) holds)

-- ---- an update with what stands beside it

module _ (root : Root) (key : List (List ℕ)) (fields : Entries) where
  abbrev Beside : Option (List (List (List ℕ))) → List Transform → Precondition → Members
  Beside mask transforms condition = present (rows_of_update root key fields mask transforms condition)

  update_chosen : (mask : Option (List (List (List ℕ)))) (transforms : List Transform) (condition : Precondition) → chosen object.Write (Beside mask transforms condition) ≡ (codes "update", printed_update root key fields) ∷ []
  unfolding write_rows is_write_choice
  update_chosen None [] Free = refl
  update_chosen (Some mask) [] Free = refl
  update_chosen _ _ Free = refl
  update_chosen _ _ _ = refl

  -- what is given beside it
  record Beside_is (mask : Option (List (List (List ℕ)))) (transforms : List Transform) (condition : Precondition) : Type 0 where
    condition_is : given (codes "currentDocument") (Beside mask transforms condition) ≡ printed_condition condition
    mask_is : given (codes "updateMask") (Beside mask transforms condition) ≡ option_map printed_mask mask
    transforms_are : given (codes "updateTransforms") (Beside mask transforms condition) ≡ unless_empty (printed_each printed_transform transforms)

  beside_is : (mask : Option (List (List (List ℕ)))) (transforms : List Transform) (condition : Precondition) → Beside_is mask transforms condition
  beside_is None [] Free = record { condition_is = refl; mask_is = refl; transforms_are = refl }
  beside_is (Some mask) [] Free = record { condition_is = refl; mask_is = refl; transforms_are = refl }
  beside_is _ _ Free = record { condition_is = refl; mask_is = refl; transforms_are = refl }
  beside_is _ _ _ = record { condition_is = refl; mask_is = refl; transforms_are = refl }

  update_write_spelled : (mask : Option (List (List (List ℕ)))) (transforms : List Transform) (condition : Precondition) → IsStorableUpdate key fields mask transforms condition → SpellsWrite root (an_object (Beside mask transforms condition)) (Update key fields mask transforms condition)
  update_write_spelled mask transforms condition stored =
      let beside = beside_is mask transforms condition in
      record {
        members = Beside mask transforms condition;
        is = refl;
        name = codes "update";
        inner = printed_update root key fields;
        only = update_chosen mask transforms condition;
        spells = (
          refl,
          record {
            document = update_spelled root key fields stored.names stored.holds;
            masks = subst (λ found. SpellsMaskIn found mask) (sym beside.mask_is) (mask_spelled mask stored.masks);
            changes = subst (λ found. SpellsEach SpellsTransform found transforms) (sym beside.transforms_are) (list_spelled printed_transform SpellsTransform IsStorableTransform transform_spelled transforms stored.changes.each);
            asks = subst (λ found. SpellsCondition found condition) (sym beside.condition_is) (condition_spelled condition stored.asks);
          },
        );
      }

-- the object of a write, by its one alternative
write_fits : (o : Origin) (ms : Members) (name : List ℕ) (d : Json) (kind : Object) → chosen object.Write ms ≡ (name, d) ∷ [] → is_one_known object.Write ((name, d) ∷ []) ≡ true → (if bytes_eq name (codes "delete") then object.DeleteWrite else object.Write) ≡ kind → required kind ≡ [] → Takes kind ms 0 → MembersFit o max_nesting kind [] ms
    → Fits o max_nesting (place.Object object.Write) (an_object ms)
unfolding Fits
write_fits o ms name d kind only known is none takes members =
    let same : refined object.Write ms ≡ kind = ap (λ l. if bytes_eq (only_name l) (codes "delete") then object.DeleteWrite else object.Write) only ∙ is in
    flat_object_fits o max_nesting object.Write ms (ap (λ l. not (is_one_known object.Write l)) only ∙ ap not known) refl (subst (λ k. Takes k ms 0) (sym same) takes)
    (subst (λ k. MembersFit o max_nesting k (required k) ms) (sym same) (subst (λ l. MembersFit o max_nesting kind l ms) (sym none) members))

update_write_fits : (o : Origin) (key : List (List ℕ)) (fields : Entries) (mask : Option (List (List (List ℕ)))) (transforms : List Transform) (condition : Precondition) → IsStorableUpdate key fields mask transforms condition
    → Fits o max_nesting (place.Object object.Write) (an_object (Beside o.root key fields mask transforms condition))
unfolding write_rows is_write_choice Fits
update_write_fits o key fields mask transforms condition stored =
    write_fits o (Beside o.root key fields mask transforms condition) (codes "update") (printed_update o.root key fields) object.Write (update_chosen o.root key fields mask transforms condition) refl refl refl refl
    (rows_fit o max_nesting object.Write (rows_of_update o.root key fields mask transforms condition) (
      tt,
      condition_fits o condition stored.asks,
      (
        tt,
        (refl, update_fits o key fields stored.names stored.holds stored.deep),
        (tt, mask_fits o mask stored.masks, (tt, transforms_fit o transforms stored.changes.each, tt)),
      ),
    ))

-- ---- a delete

abbrev Deleted : Root → List (List ℕ) → Precondition → Members
Deleted root key condition = present (rows_of_delete root key condition)

delete_chosen : (root : Root) (key : List (List ℕ)) (condition : Precondition) → chosen object.Write (Deleted root key condition) ≡ (codes "delete", string (name_text root key)) ∷ []
unfolding write_rows is_write_choice
delete_chosen root key Free = refl
delete_chosen root key _ = refl

delete_asks : (root : Root) (key : List (List ℕ)) (condition : Precondition) → given (codes "currentDocument") (Deleted root key condition) ≡ printed_condition condition
delete_asks root key Free = refl
delete_asks root key _ = refl

delete_write_spelled : (root : Root) (key : List (List ℕ)) (condition : Precondition) → IsStorableDelete key condition → SpellsWrite root (an_object (Deleted root key condition)) (Delete key condition)
delete_write_spelled root key condition stored = record {
  members = Deleted root key condition;
  is = refl;
  name = codes "delete";
  inner = string (name_text root key);
  only = delete_chosen root key condition;
  spells = (refl, record { names = name_spelled root key stored.names; asks = subst (λ found. SpellsCondition found condition) (sym (delete_asks root key condition)) (condition_spelled condition stored.asks) });
}

delete_write_fits : (o : Origin) (key : List (List ℕ)) (condition : Precondition) → IsStorableDelete key condition → Fits o max_nesting (place.Object object.Write) (an_object (Deleted o.root key condition))
unfolding write_rows delete_write_rows is_write_choice Fits
delete_write_fits o key condition stored =
    write_fits o (Deleted o.root key condition) (codes "delete") (string (name_text o.root key)) object.DeleteWrite (delete_chosen o.root key condition) refl refl refl refl
    (rows_fit o max_nesting object.DeleteWrite (rows_of_delete o.root key condition) (tt, condition_fits o condition stored.asks, (tt, (refl, name_fits o max_nesting key stored.names), tt)))

-- ---- a write

write_spelled : (root : Root) (write : Write) → IsStorableWrite write → SpellsWrite root (printed_write root write) write
write_spelled root (Update key fields mask transforms condition) stored = update_write_spelled root key fields mask transforms condition stored.parts
write_spelled root (Delete key condition) stored = delete_write_spelled root key condition stored.parts

printed_fits_write : (o : Origin) (write : Write) → IsStorableWrite write → Fits o max_nesting (place.Object object.Write) (printed_write o.root write)
printed_fits_write o (Update key fields mask transforms condition) stored = update_write_fits o key fields mask transforms condition stored.parts
printed_fits_write o (Delete key condition) stored = delete_write_fits o key condition stored.parts

pub printed_writes_read_back : PrintedWritesReadBack
printed_writes_read_back o write stored = (fits_clean o max_nesting (place.Object object.Write) (codes "writes") (printed_write o.root write) (printed_fits_write o write stored), write_spelled o.root write stored)
