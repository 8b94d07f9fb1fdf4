-- values with another at a path, one name at a time
use Rattle.std.proofs.Common.{◌≡◌, ◌≢◌, ◌∙◌, ℕ, zero, suc, ◌+◌, ◌<◌, Ordering, Less, Equal, Greater, Option, Some, None, List, [], ◌∷◌, length, get_or, drop, codes, unwrap_or, refl, sym, ap, subst, arith}
use Rattle.std.specs.Prelude.{OnSome, IfNone}
use Rattle.std.specs.Cmp.{tied_itself}
use Rattle.std.specs.Cmp.Lexicographic.{slice_cmp}
use Rattle.std.specs.List.{slice_get}
use Rattle.std.specs.Map.{keys_of}
use Rattle.std.specs.Ordering.{nat_cmp, match_ordering}
use Rattle.std.proofs.lemmas.Option.{slice_get_within, get_or_from_slice_get}
use Rattle.document_keys.specs.Names.{HasNameLength}
use Rattle.document_keys.specs.Paths.{IsFieldName, IsFieldPath}
use Rattle.document_keys.proofs.Order.{texts_compute}
use Rattle.value_model.specs.Changes.{members_in, with_value}
use Rattle.value_model.specs.Data.{Data, null, Entries, map_of}
use Rattle.value_model.specs.Fields.{IsAt, field, with_field}
use Rattle.value_model.specs.Named.{fields_data}
use Rattle.value_model.specs.declared.fields.Field.{Field}
use Rattle.value_model.proofs.Named.{names_count}
use Rattle.value_model.proofs.Places.{place_here, got}
use Rattle.value_model.proofs.Inner.{names_from}
use Rattle.value_model.proofs.Parts.{entries_members}

-- the second of two puts at a name counts
pub put_twice : (es : Entries) (n : List ℕ) (v w : Data) → with_field (with_field es n v) n w ≡ with_field es n w
put_twice [] n v w = ap (λ o. match_ordering o ((n, w) ∷ (n, v) ∷ []) ((n, w) ∷ []) ((n, v) ∷ with_field [] n w)) (tied_itself texts_compute.total n)
put_twice (e ∷ es) n v w = by (slice_cmp nat_cmp n e.0) refl (put_twice es n v w)
  where
    by : (o : Ordering) → slice_cmp nat_cmp n e.0 ≡ o → with_field (with_field es n v) n w ≡ with_field es n w → with_field (match_ordering o ((n, v) ∷ e ∷ es) ((e.0, v) ∷ es) (e ∷ with_field es n v)) n w ≡ match_ordering o ((n, w) ∷ e ∷ es) ((e.0, w) ∷ es) (e ∷ with_field es n w)
    by Less is rest = ap (λ o. match_ordering o ((n, w) ∷ (n, v) ∷ e ∷ es) ((n, w) ∷ e ∷ es) ((n, v) ∷ with_field (e ∷ es) n w)) (tied_itself texts_compute.total n)
    by Equal is rest = ap (λ o. match_ordering o ((n, w) ∷ (e.0, v) ∷ es) ((e.0, w) ∷ es) ((e.0, v) ∷ with_field es n w)) is
    by Greater is rest = ap (λ o. match_ordering o ((n, w) ∷ e ∷ with_field es n v) ((e.0, w) ∷ with_field es n v) (e ∷ with_field (with_field es n v) n w)) is ∙ ap (λ l. e ∷ l) rest

-- what a replacement takes out is what stood there
stands : (items : List Field) (i : ℕ) (d e : Field) → i < length items → get_or items i d ≡ get_or items i e
stands [] i d e below = absurd (omega arith)
stands (x ∷ items) zero d e below = refl
stands (x ∷ items) (suc i) d e below = stands items i d e (omega arith)

pub taken : (shown items : List Field) (text name : List ℕ) (same : shown ≡ items) (spelled : text ≡ name) (i : ℕ) (d : Field) → IsAt (keys_of (fields_data shown)) text i → Some (get_or items i d).value ≡ field (fields_data items) name
taken shown items text name same spelled i d at =
    let here = place_here shown items text name same spelled i at in
    let inside = here.inside in
    let count = names_count items in
    let x = get_or items i d in
    got shown items text name same spelled i x at (stands items i d x (omega arith))

-- a name of a path that isn't the document's own name is a field's
pub field_name : (path : List (List ℕ)) (i : ℕ) (name : List ℕ) → IsFieldPath path → path ≢ codes "__name__" ∷ [] → slice_get path i ≡ Some name → IsFieldName name
field_name path i name sound other is =
    let below = slice_get_within path i name is in
    let at : get_or path i name ≡ name = get_or_from_slice_get path i name name is in
    record {
      long = subst HasNameLength at (sound.long i name below);
      free = λ reserved. sound.free (record { not_key = other; name = name; there = (i, below, at); reserved = reserved });
    }

replaced : (inner : Option Data) (es after : Entries) (name : List ℕ) (value : Data) → OnSome inner (after ≡ with_field es name null) → IfNone inner (after ≡ es) → with_field after name value ≡ with_field es name value
replaced (Some x) es after name value there none = ap (λ l. with_field l name value) there ∙ put_twice es name null value
replaced None es after name value there none = ap (λ l. with_field l name value) none

-- one name further in
pub put_inner : (d inner : Data) (es after done : Entries) (path : List (List ℕ)) (i : ℕ) (name : List ℕ) (was : Option Data) (changed new : Data) → slice_get path i ≡ Some name → es ≡ members_in d → was ≡ field es name → OnSome was (after ≡ with_field es name null) → IfNone was (after ≡ es) → inner ≡ unwrap_or was null → changed ≡ with_value inner (drop (i + 1) path) new → done ≡ with_field after name changed → map_of done ≡ with_value d (drop i path) new
put_inner d inner es after done path i name was changed new is members stood there none within to put =
    ap map_of (put ∙ replaced was es after name changed there none)
    ∙ ap (λ v. map_of (with_field es name v)) (to ∙ ap (λ v. with_value v (drop (i + 1) path) new) (within ∙ ap (λ o. unwrap_or o null) stood))
    ∙ ap (λ l. map_of (with_field l name (with_value (unwrap_or (field l name) null) (drop (i + 1) path) new))) members
    ∙ sym (ap (λ p. with_value d p new) (names_from path i name is))

-- what a path makes of a value is what it makes of its members
pub by_members : (d : Data) (es : Entries) (path : List (List ℕ)) (name : List ℕ) (rest : List (List ℕ)) (new : Data) → path ≡ name ∷ rest → es ≡ members_in d → with_value (map_of es) path new ≡ with_value d path new
by_members d es path name rest new is members =
    ap (λ p. with_value (map_of es) p new) is
    ∙ ap (λ l. map_of (with_field l name (with_value (unwrap_or (field l name) null) rest new))) (entries_members es ∙ members)
    ∙ sym (ap (λ p. with_value d p new) is)
