-- What is read can be stored.
use Rattle.std.proofs.Common.{◌≡◌, ℕ, ℤ, ◌<◌, ◌^◌, List, [], ◌∷◌, ◌++◌, length, Vec, Global, FitsSigned, w64, Ordering, Less, Equal, Greater, sym, subst}
use Rattle.std.specs.List.{All}
use Rattle.std.specs.Map.{keys_of}
use Rattle.std.specs.Ordering.{nat_cmp, match_ordering}
use Rattle.std.specs.Cmp.Lexicographic.{slice_cmp}
use Rattle.std.specs.Str.{IsUtf8}
use Rattle.serde_json.specs.Data as json
use Rattle.value_model.specs.Data.{Data, Entries, items_of, members_of, array_of, map_of}
use Rattle.value_model.specs.Fields.{with_field}
use Rattle.value_model.proofs.Parts.{list_items, entries_members}
use Rattle.value_model.specs.Storable.{IsStorable, AreStorableItems, AreStorableMembers, AreStorableBytes, AreStorable, HasStorableNames}
use Rattle.std.proofs.lemmas.Map.Views.{All-keys-insert_entry}
use Rattle.std.proofs.lemmas.List.Elements.{All-from_get_or}
use Rattle.json_model.specs.Bytes.{SpellsBytes}
use Rattle.json_model.specs.Numbers.{SpellsWhole, as_number, as_text}

pub whole_fits : (d : json.Data) (z : ℤ) → SpellsWhole d z → FitsSigned w64 z
whole_fits d z (as_number fits is) = fits
whole_fits d z (as_text text is spelled) = spelled.fits

pub items_push : (ds : List Data) (d : Data) → AreStorableItems (items_of ds) → IsStorable d → AreStorableItems (items_of (ds ++ d ∷ []))
items_push [] d all one = (one, tt)
items_push (x ∷ ds) d all one = (all.0, items_push ds d all.1 one)

pub members_put : (es : Entries) (name : List ℕ) (d : Data) → AreStorableMembers (members_of es) → IsStorable d → AreStorableMembers (members_of (with_field es name d))
members_put [] name d all one = (one, tt)
members_put (e ∷ es) name d all one = by (slice_cmp nat_cmp name e.0) (members_put es name d all.1 one)
  where
    by : (o : Ordering) → AreStorableMembers (members_of (with_field es name d)) → AreStorableMembers (members_of (match_ordering o ((name, d) ∷ e ∷ es) ((e.0, d) ∷ es) (e ∷ with_field es name d)))
    by Less later = (one, all)
    by Equal later = (one, all.1)
    by Greater later = (all.0, later)

-- an array, and a map, whose parts can be stored
pub array_stored : (vs : Vec Data Global) (v : Data) → v ≡ array_of vs.items → AreStorableItems (items_of vs.items) → length vs.items < 2 ^ 64 → IsStorable v
array_stored vs v is all count = subst IsStorable (sym is) (all, subst (λ l. length l < 2 ^ 64) (sym (list_items vs.items)) count)

pub map_stored : (es : Entries) (v : Data) → v ≡ map_of es → AreStorable es → IsStorable v
map_stored es v is all = subst IsStorable (sym is) (subst HasStorableNames (sym (entries_members es)) all.0, all.1)

pub keys_put : (es : Entries) (name : List ℕ) (d : Data) → All IsUtf8 (keys_of es) → IsUtf8 name → All IsUtf8 (keys_of (with_field es name d))
keys_put es name d all one = All-keys-insert_entry (slice_cmp nat_cmp) name d IsUtf8 es all one

pub bytes_stored : (text : List ℕ) (bytes : List ℕ) → SpellsBytes text bytes → length bytes < 2 ^ 64 → AreStorableBytes bytes
bytes_stored text bytes s count = record { each = All-from_get_or (λ byte. byte < 256) bytes 0 (λ k below. s.each k); count = count }
