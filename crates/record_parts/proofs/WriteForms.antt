-- The forms of paths, transforms, preconditions and writes.
use Rattle.std.proofs.Common.{◌≡◌, ◌≢◌, ℕ, ◌-◌, List, [], ◌∷◌, length, refl, sym, arith, Option}
use Rattle.value_model.specs.Data.{Data, Entries}
use Rattle.mutations.specs.declared.transform.Change.{Change}
use Rattle.mutations.specs.declared.transform.Change.TheVariants.{ServerTime, Increment, Maximum, Minimum, Append, RemoveAll}
use Rattle.mutations.specs.declared.transform.Transform.{Transform}
use Rattle.mutations.specs.declared.write.Precondition.{Precondition}
use Rattle.mutations.specs.declared.write.Precondition.TheVariants.{Free, Exists, UpdateTime}
use Rattle.mutations.specs.declared.write.Write.{Write}
use Rattle.mutations.specs.declared.write.Write.TheVariants.{Update, Delete}
use Rattle.record_parts.specs.Spelling.{path, many, value, precondition, change, transform, write, AreSpelled, IsSpelledPath, IsSpelledPrecondition, AreSpelledElements, IsSpelledChange, IsSpelledTransform, IsSpelledWrite, IsNameText, IsSpelledValue}
use Rattle.record_parts.proofs.Forms.{unique_narrower}
use Rattle.record_parts.proofs.Basics.{whole_number, flag, moment, field_name, document_key}
use Rattle.record_parts.proofs.Values.{value_within, fields_within}
use Rattle.record_parts.proofs.Options.{optional}
use Rattle.record_parts.proofs.Combine.{Form, Made, IsKind, HasKind, has_kind, IsTagged, empty, pair, both, list, unique_kinds, tag_first}

-- ---- paths

pub path_names : (p : List (List ℕ)) → IsSpelledPath p → AreSpelled IsNameText p
path_names p fits = record { count = omega (arith, fits.most); each = fits.each }

abbrev pub field_path : Form (List (List ℕ))
field_path = record { spell = path; Fits = IsSpelledPath; unique = unique_narrower path (AreSpelled IsNameText) IsSpelledPath path_names (list field_name).unique }

-- ---- preconditions

abbrev precondition_tag : Precondition → ℕ
precondition_tag Free = 0
precondition_tag (Exists is) = 1
precondition_tag (UpdateTime t) = 2

pub precondition_tagged : IsTagged precondition precondition_tag
unfolding precondition
precondition_tagged Free = refl
precondition_tagged (Exists is) = refl
precondition_tagged (UpdateTime t) = refl

free_made : (c : Precondition) → precondition_tag c ≡ 0 → Made (λ _. Free) empty c
free_made Free e = record { content = tt; is = refl; fits = tt }
free_made c e = absurd (omega (arith, e))

exists_made : (c : Precondition) → precondition_tag c ≡ 1 → Made Exists flag c
exists_made (Exists is) e = record { content = is; is = refl; fits = tt }
exists_made c e = absurd (omega (arith, e))

update_time_made : (c : Precondition) → precondition_tag c ≡ 2 → IsSpelledPrecondition c → Made UpdateTime moment c
update_time_made (UpdateTime t) e fits = record { content = t; is = refl; fits = fits }
update_time_made c e fits = absurd (omega (arith, e))

pub free_kind : IsKind precondition IsSpelledPrecondition (0 ∷ []) (λ _. Free) empty
unfolding precondition
free_kind = record { on = λ x. refl; fits = λ x fits. tt; back = λ c rest bytes e fits. free_made c (tag_first precondition_tagged c rest bytes 0 e) }

pub exists_kind : IsKind precondition IsSpelledPrecondition (1 ∷ []) Exists flag
unfolding precondition
exists_kind = record { on = λ x. refl; fits = λ x fits. tt; back = λ c rest bytes e fits. exists_made c (tag_first precondition_tagged c rest bytes 1 e) }

pub update_time_kind : IsKind precondition IsSpelledPrecondition (2 ∷ []) UpdateTime moment
unfolding precondition
update_time_kind = record { on = λ x. refl; fits = λ x fits. fits; back = λ c rest bytes e fits. update_time_made c (tag_first precondition_tagged c rest bytes 2 e) fits }

pub precondition_kinds : (c : Precondition) → IsSpelledPrecondition c → HasKind precondition IsSpelledPrecondition c
precondition_kinds Free fits = has_kind (free_kind) Free (free_made Free refl)
precondition_kinds (Exists is) fits = has_kind (exists_kind) (Exists is) (exists_made (Exists is) refl)
precondition_kinds (UpdateTime t) fits = has_kind (update_time_kind) (UpdateTime t) (update_time_made (UpdateTime t) refl fits)

abbrev pub condition : Form Precondition
condition = record { spell = precondition; Fits = IsSpelledPrecondition; unique = unique_kinds precondition IsSpelledPrecondition precondition_kinds }

pub precondition_other : (byte : ℕ) → byte ≢ 0 → byte ≢ 1 → byte ≢ 2 → (c : Precondition) → IsSpelledPrecondition c → precondition_tag c ≢ byte
precondition_other byte a b d Free fits e = a (sym e)
precondition_other byte a b d (Exists is) fits e = b (sym e)
precondition_other byte a b d (UpdateTime t) fits e = d (sym e)

-- ---- changes, at a path of so many names

pub element_values : (names : ℕ) (ds : List Data) → AreSpelledElements names ds → AreSpelled (IsSpelledValue (20 - names)) ds
element_values names ds fits = fits.values

abbrev pub elements : ℕ → Form (List Data)
elements names = record { spell = many value; Fits = AreSpelledElements names; unique = unique_narrower (many value) (AreSpelled (IsSpelledValue (20 - names))) (AreSpelledElements names) (element_values names) (list (value_within (20 - names))).unique }

abbrev change_tag : Change → ℕ
change_tag ServerTime = 1
change_tag (Increment z) = 2
change_tag (Maximum z) = 3
change_tag (Minimum z) = 4
change_tag (Append ds) = 5
change_tag (RemoveAll ds) = 6

pub change_tagged : IsTagged change change_tag
unfolding change
change_tagged ServerTime = refl
change_tagged (Increment z) = refl
change_tagged (Maximum z) = refl
change_tagged (Minimum z) = refl
change_tagged (Append ds) = refl
change_tagged (RemoveAll ds) = refl

server_made : (c : Change) → change_tag c ≡ 1 → Made (λ _. ServerTime) empty c
server_made ServerTime e = record { content = tt; is = refl; fits = tt }
server_made c e = absurd (omega (arith, e))

increment_made : (names : ℕ) (c : Change) → change_tag c ≡ 2 → IsSpelledChange names c → Made Increment whole_number c
increment_made names (Increment x) e fits = record { content = x; is = refl; fits = fits }
increment_made names c e fits = absurd (omega (arith, e))

maximum_made : (names : ℕ) (c : Change) → change_tag c ≡ 3 → IsSpelledChange names c → Made Maximum whole_number c
maximum_made names (Maximum x) e fits = record { content = x; is = refl; fits = fits }
maximum_made names c e fits = absurd (omega (arith, e))

minimum_made : (names : ℕ) (c : Change) → change_tag c ≡ 4 → IsSpelledChange names c → Made Minimum whole_number c
minimum_made names (Minimum x) e fits = record { content = x; is = refl; fits = fits }
minimum_made names c e fits = absurd (omega (arith, e))

append_made : (names : ℕ) (c : Change) → change_tag c ≡ 5 → IsSpelledChange names c → Made Append (elements names) c
append_made names (Append x) e fits = record { content = x; is = refl; fits = fits }
append_made names c e fits = absurd (omega (arith, e))

remove_made : (names : ℕ) (c : Change) → change_tag c ≡ 6 → IsSpelledChange names c → Made RemoveAll (elements names) c
remove_made names (RemoveAll x) e fits = record { content = x; is = refl; fits = fits }
remove_made names c e fits = absurd (omega (arith, e))

pub server_kind : (names : ℕ) → IsKind change (IsSpelledChange names) (1 ∷ []) (λ _. ServerTime) empty
unfolding change
server_kind names = record { on = λ x. refl; fits = λ x fits. tt; back = λ c rest bytes e fits. server_made c (tag_first change_tagged c rest bytes 1 e) }

pub increment_kind : (names : ℕ) → IsKind change (IsSpelledChange names) (2 ∷ []) Increment whole_number
unfolding change
increment_kind names = record { on = λ x. refl; fits = λ x fits. fits; back = λ c rest bytes e fits. increment_made names c (tag_first change_tagged c rest bytes 2 e) fits }

pub maximum_kind : (names : ℕ) → IsKind change (IsSpelledChange names) (3 ∷ []) Maximum whole_number
unfolding change
maximum_kind names = record { on = λ x. refl; fits = λ x fits. fits; back = λ c rest bytes e fits. maximum_made names c (tag_first change_tagged c rest bytes 3 e) fits }

pub minimum_kind : (names : ℕ) → IsKind change (IsSpelledChange names) (4 ∷ []) Minimum whole_number
unfolding change
minimum_kind names = record { on = λ x. refl; fits = λ x fits. fits; back = λ c rest bytes e fits. minimum_made names c (tag_first change_tagged c rest bytes 4 e) fits }

pub append_kind : (names : ℕ) → IsKind change (IsSpelledChange names) (5 ∷ []) Append (elements names)
unfolding change
append_kind names = record { on = λ x. refl; fits = λ x fits. fits; back = λ c rest bytes e fits. append_made names c (tag_first change_tagged c rest bytes 5 e) fits }

pub remove_kind : (names : ℕ) → IsKind change (IsSpelledChange names) (6 ∷ []) RemoveAll (elements names)
unfolding change
remove_kind names = record { on = λ x. refl; fits = λ x fits. fits; back = λ c rest bytes e fits. remove_made names c (tag_first change_tagged c rest bytes 6 e) fits }

pub change_kinds : (names : ℕ) (c : Change) → IsSpelledChange names c → HasKind change (IsSpelledChange names) c
change_kinds names ServerTime fits = has_kind (server_kind names) ServerTime (server_made ServerTime refl)
change_kinds names (Increment x) fits = has_kind (increment_kind names) (Increment x) (increment_made names (Increment x) refl fits)
change_kinds names (Maximum x) fits = has_kind (maximum_kind names) (Maximum x) (maximum_made names (Maximum x) refl fits)
change_kinds names (Minimum x) fits = has_kind (minimum_kind names) (Minimum x) (minimum_made names (Minimum x) refl fits)
change_kinds names (Append x) fits = has_kind (append_kind names) (Append x) (append_made names (Append x) refl fits)
change_kinds names (RemoveAll x) fits = has_kind (remove_kind names) (RemoveAll x) (remove_made names (RemoveAll x) refl fits)

abbrev pub change_at : ℕ → Form Change
change_at names = record { spell = change; Fits = IsSpelledChange names; unique = unique_kinds change (IsSpelledChange names) (change_kinds names) }

pub change_other : (names byte : ℕ) → byte ≢ 1 → byte ≢ 2 → byte ≢ 3 → byte ≢ 4 → byte ≢ 5 → byte ≢ 6 → (c : Change) → IsSpelledChange names c → change_tag c ≢ byte
change_other names byte a b d f g h ServerTime fits e = a (sym e)
change_other names byte a b d f g h (Increment z) fits e = b (sym e)
change_other names byte a b d f g h (Maximum z) fits e = d (sym e)
change_other names byte a b d f g h (Minimum z) fits e = f (sym e)
change_other names byte a b d f g h (Append ds) fits e = g (sym e)
change_other names byte a b d f g h (RemoveAll ds) fits e = h (sym e)

-- ---- transforms

abbrev pub transform_parts : Form (List (List ℕ) × Change)
transform_parts = pair field_path (λ p. change_at (length p))

abbrev pub transform_of_parts : List (List ℕ) × Change → Transform
transform_of_parts p = record { path = p.0; change = p.1 }

pub transform_made : (t : Transform) → IsSpelledTransform t → Made transform_of_parts transform_parts t
transform_made t fits = record { content = (t.path, t.change); is = refl; fits = (fits.path, fits.change) }

pub transform_kind : IsKind transform IsSpelledTransform [] transform_of_parts transform_parts
unfolding transform
transform_kind = record { on = λ x. refl; fits = λ x fits. record { path = fits.0; change = fits.1 }; back = λ t rest bytes e fits. transform_made t fits }

abbrev pub transform_form : Form Transform
transform_form = record { spell = transform; Fits = IsSpelledTransform; unique = unique_kinds transform IsSpelledTransform (λ t fits. has_kind transform_kind t (transform_made t fits)) }

-- ---- writes

abbrev write_tag : Write → ℕ
write_tag (Update k fs mask ts c) = 1
write_tag (Delete k c) = 2

pub write_tagged : IsTagged write write_tag
unfolding write
write_tagged (Update k fs mask ts c) = refl
write_tagged (Delete k c) = refl

abbrev pub mask_form : Form (Option (List (List (List ℕ))))
mask_form = optional (list field_path)

abbrev pub from_transforms : Form (List Transform × Precondition)
from_transforms = both (list transform_form) condition

abbrev pub from_mask : Form (Option (List (List (List ℕ))) × (List Transform × Precondition))
from_mask = both mask_form from_transforms

abbrev pub from_fields : Form (Entries × (Option (List (List (List ℕ))) × (List Transform × Precondition)))
from_fields = both (fields_within 20) from_mask

abbrev pub UpdateParts : Type 0
UpdateParts = List (List ℕ) × (Entries × (Option (List (List (List ℕ))) × (List Transform × Precondition)))

abbrev pub update_parts : Form UpdateParts
update_parts = both document_key from_fields

abbrev pub update_of_parts : UpdateParts → Write
update_of_parts p = Update p.0 p.1.0 p.1.1.0 p.1.1.1.0 p.1.1.1.1

update_made : (w : Write) → write_tag w ≡ 1 → IsSpelledWrite w → Made update_of_parts update_parts w
update_made (Update k fs mask ts c) e fits = record { content = (k, (fs, (mask, (ts, c)))); is = refl; fits = (fits.key, (fits.fields, (fits.mask, (fits.transforms, fits.condition)))) }
update_made w e fits = absurd (omega (arith, e))

pub update_kind : IsKind write IsSpelledWrite (1 ∷ []) update_of_parts update_parts
unfolding write
update_kind = record {
  on = λ x. refl;
  fits = λ x fits. record { key = fits.0; fields = fits.1.0; mask = fits.1.1.0; transforms = fits.1.1.1.0; condition = fits.1.1.1.1 };
  back = λ w rest bytes e fits. update_made w (tag_first write_tagged w rest bytes 1 e) fits;
}

abbrev pub delete_parts : Form (List (List ℕ) × Precondition)
delete_parts = both document_key condition

abbrev pub delete_of_parts : List (List ℕ) × Precondition → Write
delete_of_parts p = Delete p.0 p.1

delete_made : (w : Write) → write_tag w ≡ 2 → IsSpelledWrite w → Made delete_of_parts delete_parts w
delete_made (Delete k c) e fits = record { content = (k, c); is = refl; fits = fits }
delete_made w e fits = absurd (omega (arith, e))

pub delete_kind : IsKind write IsSpelledWrite (2 ∷ []) delete_of_parts delete_parts
unfolding write
delete_kind = record { on = λ x. refl; fits = λ x fits. fits; back = λ w rest bytes e fits. delete_made w (tag_first write_tagged w rest bytes 2 e) fits }

pub write_kinds : (w : Write) → IsSpelledWrite w → HasKind write IsSpelledWrite w
write_kinds (Update k fs mask ts c) fits = has_kind (update_kind) (Update k fs mask ts c) (update_made (Update k fs mask ts c) refl fits)
write_kinds (Delete k c) fits = has_kind (delete_kind) (Delete k c) (delete_made (Delete k c) refl fits)

abbrev pub write_form : Form Write
write_form = record { spell = write; Fits = IsSpelledWrite; unique = unique_kinds write IsSpelledWrite write_kinds }

pub write_other : (byte : ℕ) → byte ≢ 1 → byte ≢ 2 → (w : Write) → IsSpelledWrite w → write_tag w ≢ byte
write_other byte a b (Update k fs mask ts c) fits e = a (sym e)
write_other byte a b (Delete k c) fits e = b (sym e)
