-- The members of a write, in whichever order they stand in the text, and the update that they make.
use Rattle.std.proofs.Common.{◌≡◌, ℕ, ◌+◌, ◌<◌, ◌≤◌, List, [], ◌∷◌, ◌++◌, length, take, get_or, Bool, true, false, Option, Some, None, codes, cond, option_and_then, Bor, Ordering, Less, Equal, Greater, ◌⊎◌, refl, sym, ap, subst, inl, inr, ◌∙◌, arith}
use Rattle.std.proofs.lemmas.List.{take_more}
use Rattle.std.proofs.lemmas.List.Elements.{All-nil}
use Rattle.std.specs.Cmp.Lexicographic.{slice_cmp}
use Rattle.std.specs.Ordering.{nat_cmp, match_ordering}
use Rattle.document_keys.proofs.Order.{texts_compute}
use Rattle.json.specs.Json as text
use Rattle.json.specs.Value.{value_view, members_view}
use Rattle.json.specs.declared.value.Value.{Value}
use Rattle.serde_json.specs.Data.{Data, null, boolean, number, string, array, object as an_object, Members, member, no_members, Items, put}
use Rattle.serde_json.specs.Find.{as_object, as_array}
use Rattle.serde_json.specs.Read.{of_members}
use Rattle.serde_json.proofs.Views.{get_member-put, get_member-put_other}
use Rattle.json_model.specs.declared.place.Object.TheVariants as object
use Rattle.json_model.specs.declared.place.Place.TheVariants as place
use Rattle.json_model.specs.declared.place.Series.TheVariants as series
use Rattle.json_model.specs.Faults.{max_nesting}
use Rattle.json_model.specs.Forms.{SpellsEach}
use Rattle.json_model.specs.Members.{is_null, unless_null, given, is_chosen, chosen}
use Rattle.json_model.specs.Origin.{Origin}
use Rattle.json_model.specs.Places.{write_rows, is_write_choice}
use Rattle.json_model.specs.Storable.{IsStorablePath}
use Rattle.json_model.proofs.Sound.{not_out}
use Rattle.json_rpc.specs.Grammar.{SpellsMask, SpellsCondition, SpellsTransform, SpellsWrite}
use Rattle.json_rpc.specs.Storable.{AreAllStorable, IsStorableCondition, IsStorableTransform, IsStorableWrite}
use Rattle.json_rpc.proofs.Names.{apart}
use Rattle.json_rpc.proofs.Stored.{write_storable}
use Rattle.mutations.specs.declared.transform.Transform.{Transform}
use Rattle.mutations.specs.declared.write.Precondition.{Precondition}
use Rattle.mutations.specs.declared.write.Precondition.TheVariants.{Free}
use Rattle.mutations.specs.declared.write.Write.{Write}
use Rattle.mutations.specs.declared.write.Write.TheVariants.{Update}
use Rattle.plain_json.specs.Beside.{FitsInWrite, FitBeside}
use Rattle.plain_json.specs.Parts.{IsPart, Puts, HasUpdate, AreParts, HasParts, transforms_of}
use Rattle.plain_json.specs.Trees.{StandsFor, IsBuiltOf, IsBuiltAnywhere}
use Rattle.plain_json.specs.Updates.{SpellsUpdated, IsStoredUpdate}
use Rattle.plain_json.specs.declared.documents.Updated.{Updated}
use Rattle.plain_json.specs.declared.parts.Part.{Part}
use Rattle.plain_json.specs.declared.parts.Part.TheVariants as part
use Rattle.plain_json.specs.declared.parts.Parts.{Parts}
use Rattle.plain_json.proofs.Fields.{seen_push}
use Rattle.plain_json.proofs.Fitted.{write_fits, write_spelled}
use Rattle.plain_json.proofs.Lists.{whole}

-- ---- a member is put among others

there : (d : Data) (ms : Members) → as_object d ≡ Some ms → is_null d ≡ false
there null ms is = cc
there (boolean b) ms is = refl
there (number n) ms is = refl
there (string s) ms is = refl
there (array ds) ms is = refl
there (an_object os) ms is = refl

listed_there : (d : Data) (ds : Items) → as_array d ≡ Some ds → is_null d ≡ false
listed_there null ds is = cc
listed_there (boolean b) ds is = refl
listed_there (number n) ds is = refl
listed_there (string s) ds is = refl
listed_there (array es) ds is = refl
listed_there (an_object os) ds is = refl

beside_put : (o : Origin) (name : List ℕ) (d : Data) (ms : Members) → (name ≡ codes "update") ⊎ FitsInWrite o name d → FitBeside o ms → FitBeside o (put name d ms)
beside_put o name d no_members fits all = (fits, tt)
beside_put o name d (member l e ms) fits all = by (slice_cmp nat_cmp name l) refl (beside_put o name d ms fits all.1)
  where
    by : (c : Ordering) → slice_cmp nat_cmp name l ≡ c → FitBeside o (put name d ms) → FitBeside o (match_ordering c (member name d (member l e ms)) (member l d ms) (member l e (put name d ms)))
    by Less is later = (fits, all)
    by Equal is later = (subst (λ (n : List ℕ). (n ≡ codes "update") ⊎ FitsInWrite o n d) (texts_compute.exact name l is) fits, all.1)
    by Greater is later = (all.0, later)

-- one that is no alternative
chosen_beside : (name : List ℕ) (d : Data) (ms : Members) → ((e : Data) → is_chosen object.Write name e ≡ false) → chosen object.Write (put name d ms) ≡ chosen object.Write ms
chosen_beside name d no_members never = rw (never d) refl
chosen_beside name d (member l e ms) never = by (slice_cmp nat_cmp name l) refl (chosen_beside name d ms never)
  where
    by : (c : Ordering) → slice_cmp nat_cmp name l ≡ c → chosen object.Write (put name d ms) ≡ chosen object.Write ms
        → chosen object.Write (match_ordering c (member name d (member l e ms)) (member l d ms) (member l e (put name d ms))) ≡ chosen object.Write (member l e ms)
    by Less is later = rw (never d) refl
    by Equal is later =
        let same : name ≡ l = texts_compute.exact name l is in
        let never_there = subst (λ (n : List ℕ). (x : Data) → is_chosen object.Write n x ≡ false) same never in
        rw (never_there d, never_there e) refl
    by Greater is later = rw later refl

not_first : (b : Bool) (one : List ℕ × Data) (others : List (List ℕ × Data)) → cond b (one ∷ others) others ≡ [] → (b ≡ false) × (others ≡ [])
not_first true one others none = cc
not_first false one others none = (refl, none)

-- the first alternative
chosen_put : (name : List ℕ) (d : Data) (ms : Members) → is_chosen object.Write name d ≡ true → chosen object.Write ms ≡ [] → chosen object.Write (put name d ms) ≡ (name, d) ∷ []
chosen_put name d no_members is none = rw is refl
chosen_put name d (member l e ms) is none = by (slice_cmp nat_cmp name l) refl (chosen_put name d ms is others.1)
  where
    others : (is_chosen object.Write l e ≡ false) × (chosen object.Write ms ≡ [])
    others = not_first (is_chosen object.Write l e) (l, e) (chosen object.Write ms) none

    by : (c : Ordering) → slice_cmp nat_cmp name l ≡ c → chosen object.Write (put name d ms) ≡ (name, d) ∷ []
        → chosen object.Write (match_ordering c (member name d (member l e ms)) (member l d ms) (member l e (put name d ms))) ≡ (name, d) ∷ []
    by Less c later = rw (is, none) refl
    by Equal c later =
        let same : name ≡ l = texts_compute.exact name l c in
        subst (λ (n : List ℕ). chosen object.Write (member n d ms) ≡ (name, d) ∷ []) same (rw (is, others.1) refl)
    by Greater c later = rw (others.0, later) refl

given_put : (name : List ℕ) (d : Data) (ms : Members) → is_null d ≡ false → given name (put name d ms) ≡ Some d
given_put name d ms some = rw (get_member-put name d ms, some) refl

given_beside : (name other : List ℕ) (d : Data) (ms : Members) → (name ≡ other → ⊥) → given name (put other d ms) ≡ given name ms
given_beside name other d ms apart = ap (option_and_then unless_null) (get_member-put_other name other d ms apart)

update_stays : (o : Origin) (found : Option Updated) (old new : Members) → chosen object.Write new ≡ chosen object.Write old → HasUpdate o old found → HasUpdate o new found
update_stays o None old new is none = is ∙ none
update_stays o (Some updated) old new is has = (has.0, (is ∙ has.1.0, has.1.1))

-- ---- a part is put beside others

update_chosen : (d : Data) → is_null d ≡ false → is_chosen object.Write (codes "update") d ≡ true
unfolding write_rows is_write_choice
update_chosen d some = rw some refl

mask_never : (d : Data) → is_chosen object.Write (codes "updateMask") d ≡ false
unfolding is_write_choice
mask_never d = refl

transforms_never : (d : Data) → is_chosen object.Write (codes "updateTransforms") d ≡ false
unfolding is_write_choice
transforms_never d = refl

condition_never : (d : Data) → is_chosen object.Write (codes "currentDocument") d ≡ false
unfolding is_write_choice
condition_never d = refl

put_update : (o : Origin) (old : Parts) (updated : Updated) (d : Data) (ms : Members) → IsBuiltOf o max_nesting (place.Object object.Update) (SpellsUpdated o.root) IsStoredUpdate updated d → old.update ≡ None → AreParts o old ms
    → AreParts o (record { update = Some updated; mask = old.mask; transforms = old.transforms; condition = old.condition }) (put (codes "update") d ms)
put_update o old updated d ms built none all = record {
  beside = beside_put o (codes "update") d ms (inl refl) all.beside;
  update = (d, (chosen_put (codes "update") d ms (update_chosen d (there d _ built.spelled.is)) (rw none at all.update), built));
  masks = rw (given_beside (codes "updateMask") (codes "update") d ms (apart (codes "updateMask") (codes "update") refl)) all.masks;
  mask_stored = all.mask_stored;
  changes = rw (given_beside (codes "updateTransforms") (codes "update") d ms (apart (codes "updateTransforms") (codes "update") refl)) all.changes;
  changes_stored = all.changes_stored;
  asks = rw (given_beside (codes "currentDocument") (codes "update") d ms (apart (codes "currentDocument") (codes "update") refl)) all.asks;
  asks_stored = all.asks_stored;
}

put_mask : (o : Origin) (old : Parts) (mask : List (List (List ℕ))) (d : Data) (ms : Members) → IsBuiltOf o max_nesting (place.Object object.Mask) SpellsMask (AreAllStorable IsStorablePath) mask d → AreParts o old ms
    → AreParts o (record { update = old.update; mask = Some mask; transforms = old.transforms; condition = old.condition }) (put (codes "updateMask") d ms)
unfolding write_rows
put_mask o old mask d ms built all =
    let some = there d _ built.spelled.is in
    record {
      beside = beside_put o (codes "updateMask") d ms (inr (inr (not_out (place.Object object.Mask) d some, built.fits))) all.beside;
      update = update_stays o old.update ms _ (chosen_beside (codes "updateMask") d ms mask_never) all.update;
      masks = rw (given_put (codes "updateMask") d ms some) built.spelled;
      mask_stored = built.stored;
      changes = rw (given_beside (codes "updateTransforms") (codes "updateMask") d ms (apart (codes "updateTransforms") (codes "updateMask") refl)) all.changes;
      changes_stored = all.changes_stored;
      asks = rw (given_beside (codes "currentDocument") (codes "updateMask") d ms (apart (codes "currentDocument") (codes "updateMask") refl)) all.asks;
      asks_stored = all.asks_stored;
    }

put_transforms : (o : Origin) (old : Parts) (transforms : List Transform) (d : Data) (ms : Members)
    → IsBuiltOf o max_nesting (place.Series series.Transforms) (λ tree. SpellsEach SpellsTransform (Some tree)) (AreAllStorable IsStorableTransform) transforms d → AreParts o old ms
    → AreParts o (record { update = old.update; mask = old.mask; transforms = Some transforms; condition = old.condition }) (put (codes "updateTransforms") d ms)
unfolding write_rows
put_transforms o old transforms d ms built all =
    let some = listed_there d _ built.spelled.1 in
    record {
      beside = beside_put o (codes "updateTransforms") d ms (inr (inr (not_out (place.Series series.Transforms) d some, built.fits))) all.beside;
      update = update_stays o old.update ms _ (chosen_beside (codes "updateTransforms") d ms transforms_never) all.update;
      masks = rw (given_beside (codes "updateMask") (codes "updateTransforms") d ms (apart (codes "updateMask") (codes "updateTransforms") refl)) all.masks;
      mask_stored = all.mask_stored;
      changes = rw (given_put (codes "updateTransforms") d ms some) built.spelled;
      changes_stored = built.stored;
      asks = rw (given_beside (codes "currentDocument") (codes "updateTransforms") d ms (apart (codes "currentDocument") (codes "updateTransforms") refl)) all.asks;
      asks_stored = all.asks_stored;
    }

put_condition : (o : Origin) (old : Parts) (condition : Precondition) (d : Data) (ms : Members) → IsBuiltOf o max_nesting (place.Object object.Condition) (λ tree. SpellsCondition (Some tree)) IsStorableCondition condition d → AreParts o old ms
    → AreParts o (record { update = old.update; mask = old.mask; transforms = old.transforms; condition = condition }) (put (codes "currentDocument") d ms)
unfolding write_rows
put_condition o old condition d ms built all =
    let some = there d _ built.spelled.is in
    record {
      beside = beside_put o (codes "currentDocument") d ms (inr (inr (not_out (place.Object object.Condition) d some, built.fits))) all.beside;
      update = update_stays o old.update ms _ (chosen_beside (codes "currentDocument") d ms condition_never) all.update;
      masks = rw (given_beside (codes "updateMask") (codes "currentDocument") d ms (apart (codes "updateMask") (codes "currentDocument") refl)) all.masks;
      mask_stored = all.mask_stored;
      changes = rw (given_beside (codes "updateTransforms") (codes "currentDocument") d ms (apart (codes "updateTransforms") (codes "currentDocument") refl)) all.changes;
      changes_stored = all.changes_stored;
      asks = rw (given_put (codes "currentDocument") d ms some) built.spelled;
      asks_stored = built.stored;
    }

moved : (o : Origin) (made new : Parts) (name key : List ℕ) (d : Data) (ms : Members) → name ≡ key → new ≡ made → AreParts o made (put key d ms) → AreParts o new (put name d ms)
moved o made new name key d ms named is all = subst (λ (n : List ℕ). AreParts o new (put n d ms)) (sym named) (subst (λ (p : Parts). AreParts o p (put key d ms)) (sym is) all)

put_part : (o : Origin) (old new : Parts) (name : List ℕ) (one : Part) (d : Data) (ms : Members) → IsPart o name one d → Puts one old new → AreParts o old ms → AreParts o new (put name d ms)
put_part o old new name (part.Update updated) d ms (named, built) (none, is) all = moved o _ new name (codes "update") d ms named is (put_update o old updated d ms built none all)
put_part o old new name (part.Mask mask) d ms (named, built) (none, is) all = moved o _ new name (codes "updateMask") d ms named is (put_mask o old mask d ms built all)
put_part o old new name (part.Transforms transforms) d ms (named, built) (none, is) all = moved o _ new name (codes "updateTransforms") d ms named is (put_transforms o old transforms d ms built all)
put_part o old new name (part.Condition condition) d ms (named, built) (none, is) all = moved o _ new name (codes "currentDocument") d ms named is (put_condition o old condition d ms built all)

-- ---- one part, whatever stands beside it

pub of_mask : (tree : text.Json) (mask : List (List (List ℕ))) → StandsFor tree (IsBuiltAnywhere (place.Object object.Mask) SpellsMask (AreAllStorable IsStorablePath) mask) → (o : Origin) → StandsFor tree (IsPart o (codes "updateMask") (part.Mask mask))
of_mask tree mask stands o = record { seen = stands.seen; is = stands.is; holds = (refl, stands.holds o) }

pub of_condition : (tree : text.Json) (condition : Precondition) → StandsFor tree (IsBuiltAnywhere (place.Object object.Condition) (λ d. SpellsCondition (Some d)) IsStorableCondition condition) → (o : Origin)
    → StandsFor tree (IsPart o (codes "currentDocument") (part.Condition condition))
of_condition tree condition stands o = record { seen = stands.seen; is = stands.is; holds = (refl, stands.holds o) }

-- ---- the members that are read so far

abbrev Member : Type 0 → Type 0
Member A = Bor (List ℕ) × Value A

pub record PartsSoFar {A : Type 0} (o : Origin) (trees : List (Member A)) (made : Parts) : Type 0 where
  pub seen : Members
  pub is : of_members (members_view trees) no_members ≡ Some seen
  pub parts : AreParts o made seen

pub no_parts : {A : Type 0} (o : Origin) (parts : Parts) → parts ≡ record { update = None; mask = None; transforms = None; condition = Free } → PartsSoFar {A = A} o [] parts
no_parts {A} o parts none = subst (PartsSoFar {A = A} o []) (sym none) (record {
  seen = no_members;
  is = refl;
  parts = record {
    beside = tt;
    update = refl;
    masks = refl;
    mask_stored = tt;
    changes = refl;
    changes_stored = record { count = omega arith; each = All-nil _ };
    asks = refl;
    asks_stored = tt;
  };
})

pub more_parts : {A : Type 0} (o : Origin) (trees : List (Member A)) (i : ℕ) (one : Member A) (old new : Parts) (made : Part) → i < length trees → one ≡ get_or trees i one → PartsSoFar o (take i trees) old
    → StandsFor (value_view one.1) (IsPart o one.0.now made) → Puts made old new → PartsSoFar o (take (i + 1) trees) new
more_parts {A} o trees i one old new made below is so_far stands puts =
    let all : PartsSoFar o (take i trees ++ one ∷ []) new = record {
      seen = put one.0.now stands.seen so_far.seen;
      is = seen_push (take i trees) one no_members so_far.seen stands.seen so_far.is stands.is;
      parts = put_part o old new one.0.now made stands.seen so_far.seen stands.holds puts so_far.parts;
    } in
    let taken : take (i + 1) trees ≡ take i trees ++ one ∷ [] = take_more trees i one below ∙ ap (λ t. take i trees ++ t ∷ []) (sym is) in
    subst (λ (ts : List (Member A)). PartsSoFar o ts new) (sym taken) all

pub all_parts : {A : Type 0} (o : Origin) (tree : text.Json) (all trees : List (Member A)) (i : ℕ) (parts : Parts) → tree ≡ text.object (members_view all) → trees ≡ all → length trees ≤ i → i ≤ length trees → PartsSoFar o (take i trees) parts
    → StandsFor tree (HasParts o parts)
all_parts {A} o tree all trees i parts is same below above so_far =
    let done : PartsSoFar o all parts = subst (λ (ts : List (Member A)). PartsSoFar o ts parts) (whole trees i below above ∙ same) so_far in
    record { seen = an_object done.seen; is = rw (is, done.is) refl; holds = record { members = done.seen; is = refl; parts = done.parts } }

-- ---- the update that they make

pub write : (o : Origin) (tree : text.Json) (parts : Parts) (updated : Updated) (made : Write) → StandsFor tree (HasParts o parts) → parts.update ≡ Some updated → made ≡ Update updated.key updated.fields parts.mask (transforms_of parts.transforms) parts.condition
    → StandsFor tree (IsBuiltOf o max_nesting (place.Object object.Write) (SpellsWrite o.root) IsStorableWrite made)
write o tree parts updated made stands found is =
    let has = stands.holds in
    let update : HasUpdate o has.members (Some updated) = subst (HasUpdate o has.members) found has.parts.update in
    let built = update.1.1 in
    record {
      seen = stands.seen;
      is = stands.is;
      holds = record {
        fits = write_fits o update.0 stands.seen has.members has.is update.1.0 has.parts.beside built.fits;
        spelled = rw is (write_spelled o.root update.0 stands.seen has.members (Update updated.key updated.fields parts.mask (transforms_of parts.transforms) parts.condition) has.is update.1.0
            (refl, record { document = built.spelled; masks = has.parts.masks; changes = has.parts.changes; asks = has.parts.asks }));
        stored = rw is (write_storable _ (record {
          names = built.stored.names;
          holds = built.stored.holds;
          deep = built.stored.deep;
          masks = has.parts.mask_stored;
          changes = has.parts.changes_stored;
          asks = has.parts.asks_stored;
        }));
      };
    }
