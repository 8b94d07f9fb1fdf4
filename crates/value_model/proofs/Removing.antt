-- values without what stands at a path, one name at a time
use Rattle.std.proofs.Common.{◌≡◌, ◌≢◌, ◌∙◌, ℕ, ◌+◌, ◌<◌, ◌≤◌, cond, Ordering, Less, Equal, Greater, Option, Some, None, List, [], ◌∷◌, length, get_or, drop, option_and_then, option_map, unwrap_or, refl, sym, ap, subst}
use Rattle.std.specs.Prelude.{OnSome}
use Rattle.std.specs.Cmp.Lexicographic.{slice_cmp}
use Rattle.std.specs.List.{AllPairs, slice_get}
use Rattle.std.specs.Map.{keys_of}
use Rattle.std.specs.Ordering.{nat_cmp, is_eq, match_ordering}
use Rattle.std.proofs.lemmas.List.{drop_all, drop_more}
use Rattle.document_keys.specs.Order.{TextBefore}
use Rattle.document_keys.proofs.Order.{texts_compute}
use Rattle.value_model.specs.Changes.{members_in, without_value_at, on_members}
use Rattle.value_model.specs.Data.{Data, null, map, Entries, entries_of, map_of}
use Rattle.value_model.specs.Fields.{AreFields, field, with_field, without_field}
use Rattle.value_model.specs.Paths.{value_in, value_at, member_at}
use Rattle.value_model.specs.View.{kind_data}
use Rattle.value_model.specs.declared.value.Kind.{Kind}
use Rattle.value_model.specs.declared.value.Kind.TheVariants.{Map}
use Rattle.value_model.proofs.Changing.{put_twice}
use Rattle.value_model.proofs.Inner.{member_of_map, names_from}
use Rattle.value_model.proofs.Mapped.{tail_pairs, gap_under, removed_here, put_here, first}
use Rattle.value_model.proofs.Parts.{entries_members, members_entries}
use Rattle.value_model.proofs.Places.{no_field}

-- what isn't a map has no members
pub unmapped : (k : Kind) → ((fields : Entries) → k ≢ Map fields) → (change : Entries → Entries) → on_members change (kind_data k) ≡ kind_data k
unmapped (Map fields) other change = absurd (other fields refl)
unmapped k other change = refl

memberless : (k : Kind) → ((fields : Entries) → k ≢ Map fields) → (name : List ℕ) → member_at (kind_data k) name ≡ None
memberless (Map fields) other name = absurd (other fields refl)
memberless k other name = refl

pub nothing_in : (k : Kind) (name : List ℕ) (path rest : List (List ℕ)) → path ≡ name ∷ rest → ((fields : Entries) → k ≢ Map fields) → value_in (kind_data k) path ≡ None
nothing_in k name path rest is other = ap (value_in (kind_data k)) is ∙ ap (option_and_then (λ d. value_in d rest)) (memberless k other name)

pub on_map : (es : Entries) (change : Entries → Entries) → on_members change (map_of es) ≡ map_of (change es)
on_map es change = ap (λ l. map_of (change l)) (entries_members es)

-- what stands at a path of fields, by its first name
pub at_first : (es : Entries) (name : List ℕ) (path : List (List ℕ)) → value_at es (name ∷ path) ≡ option_and_then (λ d. value_in d path) (field es name)
at_first es name path = ap (option_and_then (λ d. value_in d path)) (member_of_map (map_of es) es name refl)

-- a value put where it stands changes nothing, and nothing is taken where nothing stands
pub put_same : (es : Entries) (n : List ℕ) (v : Data) → AllPairs TextBefore (keys_of es) → field es n ≡ Some v → with_field es n v ≡ es
put_same [] n v all there = let none : None ≡ Some v = there in absurd cc
put_same (e ∷ es) n v all there = by (slice_cmp nat_cmp n e.0) refl (put_same es n v (tail_pairs e.0 (keys_of es) all))
  where
    by : (o : Ordering) → slice_cmp nat_cmp n e.0 ≡ o → (field es n ≡ Some v → with_field es n v ≡ es) → match_ordering o ((n, v) ∷ e ∷ es) ((e.0, v) ∷ es) (e ∷ with_field es n v) ≡ e ∷ es
    by Less is rest =
        let none = no_field (e ∷ es) n 0 (gap_under n e.0 (keys_of es) (texts_compute.below n e.0 is) all) in
        absurd (cc (none, there))
    by Equal is rest =
        let here = first e es n (texts_compute.exact n e.0 is) in
        let same : Some e.1 ≡ Some v = sym here ∙ there in
        let value : v ≡ e.1 = cc in
        ap (λ x. (e.0, x) ∷ es) value
    by Greater is rest =
        let inner : field es n ≡ Some v = sym (ap (λ o. cond (is_eq o) (Some e.1) (field es n)) is) ∙ there in
        ap (λ l. e ∷ l) (rest inner)

pub removed_none : (es : Entries) (n : List ℕ) → field es n ≡ None → without_field es n ≡ es
removed_none [] n none = refl
removed_none (e ∷ es) n none = by (slice_cmp nat_cmp n e.0) refl (removed_none es n)
  where
    by : (o : Ordering) → slice_cmp nat_cmp n e.0 ≡ o → (field es n ≡ None → without_field es n ≡ es) → cond (is_eq o) es (e ∷ without_field es n) ≡ e ∷ es
    by Less is rest = ap (λ l. e ∷ l) (rest (sym (ap (λ o. cond (is_eq o) (Some e.1) (field es n)) is) ∙ none))
    by Equal is rest = let here : Some e.1 ≡ None = sym (ap (λ o. cond (is_eq o) (Some e.1) (field es n)) is) ∙ none in absurd cc
    by Greater is rest = ap (λ l. e ∷ l) (rest (sym (ap (λ o. cond (is_eq o) (Some e.1) (field es n)) is) ∙ none))

-- the last name of a path
module _ (es : Entries) (path : List (List ℕ)) (i : ℕ) (name : List ℕ) (is : slice_get path i ≡ Some name) (last : length path ≤ i + 1) where
  only : drop i path ≡ name ∷ []
  only = names_from path i name is ∙ ap (λ p. name ∷ p) (drop_all (i + 1) path last)

  pub last_done : without_field es name ≡ without_value_at es (drop i path)
  last_done = sym (ap (without_value_at es) only)

  pub last_gone : AreFields es → value_at (without_field es name) (drop i path) ≡ None
  last_gone are = ap (value_at (without_field es name)) only ∙ at_first (without_field es name) name [] ∙ ap (option_and_then (λ d. value_in d [])) (removed_here es name are.ascending)

  pub last_missing : value_at es (drop i path) ≡ None → without_field es name ≡ es
  last_missing none = removed_none es name (no_such (field es name) (sym (at_first es name []) ∙ sym (ap (value_at es) only) ∙ none))
    where
      no_such : (o : Option Data) → option_and_then (λ d. value_in d []) o ≡ None → o ≡ None
      no_such None e = refl
      no_such (Some d) e = e

-- a name with others behind it
module _ (es : Entries) (path : List (List ℕ)) (i : ℕ) (name : List ℕ) (is : slice_get path i ≡ Some name) (more : i + 1 < length path) where
  behind : drop (i + 1) path ≡ get_or path (i + 1) [] ∷ drop (i + 1 + 1) path
  behind = drop_more path (i + 1) [] more

  whole : drop i path ≡ name ∷ get_or path (i + 1) [] ∷ drop (i + 1 + 1) path
  whole = names_from path i name is ∙ ap (λ p. name ∷ p) behind

  pub none_done : (after : Entries) → field es name ≡ None → after ≡ es → after ≡ without_value_at es (drop i path)
  none_done after none same =
      same ∙ sym (ap (without_value_at es) whole
      ∙ ap (λ o. unwrap_or (option_map (λ d. with_field es name (on_members (λ inner. without_value_at inner (get_or path (i + 1) [] ∷ drop (i + 1 + 1) path)) d)) o) es) none)

  pub some_done : (inner changed : Data) (after done : Entries) → field es name ≡ Some inner → changed ≡ on_members (λ fields. without_value_at fields (drop (i + 1) path)) inner → after ≡ with_field es name null → done ≡ with_field after name changed → done ≡ without_value_at es (drop i path)
  some_done inner changed after done was within lifted put =
      put ∙ ap (λ l. with_field l name changed) lifted ∙ put_twice es name null changed
      ∙ ap (with_field es name) (within ∙ ap (λ p. on_members (λ fields. without_value_at fields p) inner) behind)
      ∙ sym (ap (without_value_at es) whole
      ∙ ap (λ o. unwrap_or (option_map (λ d. with_field es name (on_members (λ inner. without_value_at inner (get_or path (i + 1) [] ∷ drop (i + 1 + 1) path)) d)) o) es) was)

module _ (es : Entries) (path : List (List ℕ)) (i : ℕ) (name : List ℕ) (is : slice_get path i ≡ Some name) where
  pub at_place : (fields : Entries) → value_at fields (drop i path) ≡ option_and_then (λ d. value_in d (drop (i + 1) path)) (field fields name)
  at_place fields = ap (value_at fields) (names_from path i name is) ∙ at_first fields name (drop (i + 1) path)

  pub none_gone : (after : Entries) → field es name ≡ None → after ≡ es → value_at after (drop i path) ≡ None
  none_gone after none same = at_place after ∙ ap (option_and_then (λ d. value_in d (drop (i + 1) path))) (ap (λ l. field l name) same ∙ none)

  pub some_gone : (changed : Data) (after done : Entries) → value_in changed (drop (i + 1) path) ≡ None → done ≡ with_field after name changed → value_at done (drop i path) ≡ None
  some_gone changed after done gone put =
      at_place done ∙ ap (option_and_then (λ d. value_in d (drop (i + 1) path))) (ap (λ l. field l name) put ∙ put_here after name changed) ∙ gone

  pub some_missing : (inner changed : Data) (after done : Entries) → AreFields es → field es name ≡ Some inner → (value_in inner (drop (i + 1) path) ≡ None → changed ≡ inner) → after ≡ with_field es name null → done ≡ with_field after name changed → value_at es (drop i path) ≡ None → done ≡ es
  some_missing inner changed after done are was within lifted put none =
      let empty : value_in inner (drop (i + 1) path) ≡ None = sym (at_place es ∙ ap (option_and_then (λ d. value_in d (drop (i + 1) path))) was) ∙ none in
      put ∙ ap (λ l. with_field l name changed) lifted ∙ put_twice es name null changed ∙ ap (with_field es name) (within empty) ∙ put_same es name inner are.ascending was

-- a value put where it stands
stood : (o : Option Data) (path : List (List ℕ)) (new : Data) → option_and_then (λ d. value_in d path) o ≡ Some new → (o ≡ Some (unwrap_or o null)) × (value_in (unwrap_or o null) path ≡ Some new)
stood None path new there = absurd (let none : None ≡ Some new = there in cc)
stood (Some d) path new there = (refl, there)

same_member : (d : Data) (path : List (List ℕ)) (name : List ℕ) (new changed : Data) (after done : Entries) → AreFields (members_in d) → OnSome (field (members_in d) name) (after ≡ with_field (members_in d) name null) → (value_in (unwrap_or (field (members_in d) name) null) path ≡ Some new → changed ≡ unwrap_or (field (members_in d) name) null) → done ≡ with_field after name changed → value_in d (name ∷ path) ≡ Some new → map_of done ≡ d
same_member (map ms) path name new changed after done are lifted within put there =
    let es = entries_of ms in
    let told = stood (field es name) path new there in
    let inner = unwrap_or (field es name) null in
    let filled : after ≡ with_field es name null = subst (λ o. OnSome o (after ≡ with_field es name null)) told.0 lifted in
    ap map_of (put ∙ ap (λ l. with_field l name changed) filled ∙ put_twice es name null changed ∙ ap (with_field es name) (within told.1) ∙ put_same es name inner are.ascending told.0)
    ∙ ap map (members_entries ms)
same_member d path name new changed after done are lifted within put there = absurd (let none : None ≡ Some new = there in cc)

pub same_inner : (d inner : Data) (es after done : Entries) (path : List (List ℕ)) (i : ℕ) (name : List ℕ) (was : Option Data) (changed new : Data) → slice_get path i ≡ Some name → es ≡ members_in d → AreFields es → was ≡ field es name → OnSome was (after ≡ with_field es name null) → inner ≡ unwrap_or was null → (value_in inner (drop (i + 1) path) ≡ Some new → changed ≡ inner) → done ≡ with_field after name changed → value_in d (drop i path) ≡ Some new → map_of done ≡ d
same_inner d inner es after done path i name was changed new is members are before lifted within same put there =
    let here : was ≡ field (members_in d) name = before ∙ ap (λ l. field l name) members in
    let level : inner ≡ unwrap_or (field (members_in d) name) null = within ∙ ap (λ o. unwrap_or o null) here in
    same_member d (drop (i + 1) path) name new changed after done
    (subst AreFields members are)
    (subst (λ o. OnSome o (after ≡ with_field (members_in d) name null)) here (subst (λ l. OnSome was (after ≡ with_field l name null)) members lifted))
    (subst (λ x. value_in x (drop (i + 1) path) ≡ Some new → changed ≡ x) level same)
    put
    (sym (ap (value_in d) (names_from path i name is)) ∙ there)

-- a value is as it was where its members are
held : (d : Data) (es after : Entries) (name : List ℕ) (rest : List (List ℕ)) (new : Data) → es ≡ members_in d → (value_at es (name ∷ rest) ≡ Some new → after ≡ es) → value_in d (name ∷ rest) ≡ Some new → map_of after ≡ d
held (map ms) es after name rest new members same there =
    let whole : map_of es ≡ map ms = ap map_of members ∙ ap map (members_entries ms) in
    ap map_of (same (ap (λ x. value_in x (name ∷ rest)) whole ∙ there)) ∙ whole
held d es after name rest new members same there = absurd (let none : None ≡ Some new = there in cc)

pub held_still : (d : Data) (es after : Entries) (path : List (List ℕ)) (name : List ℕ) (rest : List (List ℕ)) (new : Data) → path ≡ name ∷ rest → es ≡ members_in d → (value_at es path ≡ Some new → after ≡ es) → value_in d path ≡ Some new → map_of after ≡ d
held_still d es after path name rest new is members same there =
    held d es after name rest new members (subst (λ p. value_at es p ≡ Some new → after ≡ es) is same) (subst (λ p. value_in d p ≡ Some new) is there)

-- inside a map, and inside what isn't one
pub mapped : (value : Data) (es after : Entries) (path : List (List ℕ)) → map_of es ≡ value → after ≡ without_value_at es path → map_of after ≡ on_members (λ fields. without_value_at fields path) value
mapped value es after path is done = ap map_of done ∙ sym (on_map es (λ fields. without_value_at fields path)) ∙ ap (on_members (λ fields. without_value_at fields path)) is

pub left_alone : (k : Kind) (value : Data) (path : List (List ℕ)) → ((fields : Entries) → k ≢ Map fields) → kind_data k ≡ value → kind_data k ≡ on_members (λ fields. without_value_at fields path) value
left_alone k value path other is = sym (unmapped k other (λ fields. without_value_at fields path)) ∙ ap (on_members (λ fields. without_value_at fields path)) is

-- a second replacement
pub filled_again : (was : Option Data) (es after : Entries) (name : List ℕ) (value changed : Data) (done : Entries) → was ≡ field after name → after ≡ with_field es name value → OnSome was (done ≡ with_field after name changed) → done ≡ with_field after name changed
filled_again None es after name value changed done before is there =
    let here = put_here es name value in
    let at = ap (λ l. field l name) is in
    absurd (cc (here, at, before))
filled_again (Some x) es after name value changed done before is there = there
