-- Fields that are put one after another, in whichever order their names stand in the text.
use Rattle.std.proofs.Common.{◌≡◌, ℕ, suc, ◌+◌, ◌-◌, ◌*◌, ◌<◌, ◌≤◌, List, [], ◌∷◌, ◌++◌, length, take, get_or, Some, codes, false, Ordering, Less, Equal, Greater, Bor, refl, sym, ap, subst, inr, ◌∙◌, append-nil, append_assoc, arith}
use Rattle.std.proofs.lemmas.List.{take_more}
use Rattle.std.specs.Cmp.Lexicographic.{slice_cmp}
use Rattle.std.specs.List.{AllPairs}
use Rattle.std.specs.Map.{keys_of}
use Rattle.std.specs.Ordering.{nat_cmp, match_ordering}
use Rattle.document_keys.proofs.Order.{texts_compute}
use Rattle.document_keys.specs.Order.{TextBefore}
use Rattle.document_keys.specs.Paths.{IsFieldName}
use Rattle.json.specs.Json as text
use Rattle.json.specs.Tree.{json_tokens, members_tokens}
use Rattle.json.specs.Value.{value_view, members_view}
use Rattle.json.specs.declared.value.Value.{Value}
use Rattle.json.proofs.Trees.{member_smaller}
use Rattle.serde_json.specs.Data as json
use Rattle.serde_json.specs.Read.{of_json, of_members}
use Rattle.value_model.specs.Data.{Data, Entries, map_of}
use Rattle.value_model.specs.Fields.{with_field}
use Rattle.value_model.specs.Storable.{IsStorable, AreStorable}
use Rattle.json_model.specs.declared.place.Object.TheVariants as object
use Rattle.json_model.specs.declared.place.Place.TheVariants as place
use Rattle.json_model.specs.Fits.{Fits, MembersFit}
use Rattle.json_model.specs.Grammar.{SpellsValue, SpellsKind, SpellsFields, SpellsMembers, no_member, a_member}
use Rattle.json_model.specs.Members.{is_null}
use Rattle.json_model.specs.Origin.{Origin}
use Rattle.json_model.proofs.ReadAscending.{chained}
use Rattle.json_model.proofs.ReadBack.{put_end}
use Rattle.json_model.proofs.Sound.{not_out}
use Rattle.json_model.proofs.Stored.{map_stored}
use Rattle.plain_json.specs.Trees.{HoldsOnly, StandsFor, IsBuiltOf, AreStoredFields}
use Rattle.plain_json.proofs.Formed.{no_member_fits, fields_fit, fields_within, value_there, map_fits, map_kind}
use Rattle.plain_json.proofs.Lists.{whole}
use Rattle.plain_json.proofs.Members.{only}

abbrev Member : Type 0 → Type 0
Member A = Bor (List ℕ) × Value A

-- each member has the name of a field, and spells its value
abbrev pub AreListed : json.Members → Entries → Type 0
AreListed json.no_members [] = Unit {0}
AreListed json.no_members (f ∷ fs) = ⊥
AreListed (json.member name d ms) [] = ⊥
AreListed (json.member name d ms) (f ∷ fs) = (name ≡ f.0) × SpellsValue d f.1 × AreListed ms fs

listed_put : (ms : json.Members) (fs : Entries) (name : List ℕ) (d : json.Data) (v : Data) → AreListed ms fs → SpellsValue d v → AreListed (json.put name d ms) (with_field fs name v)
listed_put json.no_members [] name d v all spells = (refl, spells, tt)
listed_put json.no_members (f ∷ fs) name d v all spells = absurd all
listed_put (json.member l e ms) [] name d v all spells = absurd all
listed_put (json.member l e ms) (f ∷ fs) name d v all spells =
    subst (λ (n : List ℕ). AreListed (json.put name d (json.member l e ms)) (match_ordering (slice_cmp nat_cmp name n) ((name, v) ∷ f ∷ fs) ((f.0, v) ∷ fs) (f ∷ with_field fs name v))) all.0 (by (slice_cmp nat_cmp name l) (listed_put ms fs name d v all.2 spells))
  where
    by : (o : Ordering) → AreListed (json.put name d ms) (with_field fs name v)
        → AreListed (match_ordering o (json.member name d (json.member l e ms)) (json.member l d ms) (json.member l e (json.put name d ms))) (match_ordering o ((name, v) ∷ f ∷ fs) ((f.0, v) ∷ fs) (f ∷ with_field fs name v))
    by Less later = (refl, spells, all)
    by Equal later = (all.0, spells, all.2)
    by Greater later = (all.0, all.1, later)

-- in the order of their names they are the fields
spelled : (ms : json.Members) (old fs : Entries) → AreListed ms fs → AllPairs TextBefore (keys_of (old ++ fs)) → SpellsMembers ms old (old ++ fs)
spelled json.no_members old [] all pairs = subst (SpellsMembers json.no_members old) (sym (append-nil old)) no_member
spelled json.no_members old (f ∷ fs) all pairs = absurd all
spelled (json.member l e ms) old [] all pairs = absurd all
spelled (json.member l e ms) old (f ∷ fs) all pairs =
    let last : with_field old l f.1 ≡ old ++ f ∷ [] = ap (λ n. with_field old n f.1) all.0 ∙ put_end old fs f.0 f.1 pairs in
    let same : (old ++ f ∷ []) ++ fs ≡ old ++ f ∷ fs = append_assoc old (f ∷ []) fs in
    let rest = spelled ms (old ++ f ∷ []) fs all.2 (subst (λ (es : Entries). AllPairs TextBefore (keys_of es)) (sym same) pairs) in
    a_member f.1 (value_there e f.1 all.1) all.1 (subst (λ (es : Entries). SpellsMembers ms es (old ++ f ∷ fs)) (sym last) (subst (SpellsMembers ms (old ++ f ∷ [])) same rest))

fit_put : (o : Origin) (limit : ℕ) (ms : json.Members) (name : List ℕ) (d : json.Data) → MembersFit o limit object.Fields [] ms → IsFieldName name → is_null d ≡ false → Fits o limit (place.Object object.Value) d → MembersFit o limit object.Fields [] (json.put name d ms)
unfolding Fits
fit_put o limit json.no_members name d all named some fits = (refl, inr (not_out (place.Object object.Value) d some, (named, fits)), refl)
fit_put o limit (json.member l e ms) name d all named some fits = by (slice_cmp nat_cmp name l) refl (fit_put o limit ms name d all.2 named some fits)
  where
    by : (c : Ordering) → slice_cmp nat_cmp name l ≡ c → MembersFit o limit object.Fields [] (json.put name d ms)
        → MembersFit o limit object.Fields [] (match_ordering c (json.member name d (json.member l e ms)) (json.member l d ms) (json.member l e (json.put name d ms)))
    by Less is later = (refl, inr (not_out (place.Object object.Value) d some, (named, fits)), all)
    by Equal is later = (refl, inr (not_out (place.Object object.Value) d some, (subst IsFieldName (texts_compute.exact name l is) named, fits)), all.2)
    by Greater is later = (all.0, all.1, later)

pub seen_push : {A : Type 0} (trees : List (Member A)) (one : Member A) (old new : json.Members) (d : json.Data) → of_members (members_view trees) old ≡ Some new → of_json (value_view one.1) ≡ Some d
    → of_members (members_view (trees ++ one ∷ [])) old ≡ Some (json.put one.0.now d new)
seen_push [] one old new d all is = let e : old ≡ new = cc in rw is (ap (λ ms. Some (json.put one.0.now d ms)) e)
seen_push (t ∷ trees) one old new d all is =
    let first = chained (λ x. of_members (members_view trees) (json.put t.0.now x old)) (of_json (value_view t.1)) new all in
    rw first.1 (seen_push trees one (json.put t.0.now first.0 old) new d first.2 is)

-- the members that are read so far
pub record FieldsSoFar {A : Type 0} (o : Origin) (limit : ℕ) (trees : List (Member A)) (fields : Entries) : Type 0 where
  pub seen : json.Members
  pub is : of_members (members_view trees) json.no_members ≡ Some seen
  pub fit : MembersFit o limit object.Fields [] seen
  pub listed : AreListed seen fields

pub no_fields : {A : Type 0} (o : Origin) (limit : ℕ) (fields : Entries) → fields ≡ [] → FieldsSoFar {A = A} o limit [] fields
no_fields {A} o limit fields none = subst (FieldsSoFar {A = A} o limit []) (sym none) (record { seen = json.no_members; is = refl; fit = no_member_fits o limit; listed = tt })

pub more_fields : {A : Type 0} (o : Origin) (limit : ℕ) (trees : List (Member A)) (i : ℕ) (one : Member A) (old new : Entries) (v : Data) → i < length trees → one ≡ get_or trees i one → FieldsSoFar o limit (take i trees) old → IsFieldName one.0.now
    → StandsFor (value_view one.1) (IsBuiltOf o limit (place.Object object.Value) SpellsValue IsStorable v) → new ≡ with_field old one.0.now v → FieldsSoFar o limit (take (i + 1) trees) new
more_fields {A} o limit trees i one old new v below is so_far named stands put_is =
    let some = value_there stands.seen v stands.holds.spelled in
    let all : FieldsSoFar o limit (take i trees ++ one ∷ []) (with_field old one.0.now v) = record {
      seen = json.put one.0.now stands.seen so_far.seen;
      is = seen_push (take i trees) one json.no_members so_far.seen stands.seen so_far.is stands.is;
      fit = fit_put o limit so_far.seen one.0.now stands.seen so_far.fit named some stands.holds.fits;
      listed = listed_put so_far.seen old one.0.now stands.seen v so_far.listed stands.holds.spelled;
    } in
    let taken : take (i + 1) trees ≡ take i trees ++ one ∷ [] = take_more trees i one below ∙ ap (λ t. take i trees ++ t ∷ []) (sym is) in
    subst (λ (ts : List (Member A)). FieldsSoFar o limit ts new) (sym taken) (subst (FieldsSoFar o limit (take i trees ++ one ∷ [])) (sym put_is) all)

pub all_fields : {A : Type 0} (o : Origin) (limit : ℕ) (tree : text.Json) (all trees : List (Member A)) (i : ℕ) (fields : Entries) → tree ≡ text.object (members_view all) → trees ≡ all → length trees ≤ i → i ≤ length trees
    → FieldsSoFar o limit (take i trees) fields → AreStorable fields → StandsFor tree (IsBuiltOf o limit (place.Object object.Fields) SpellsFields (AreStoredFields limit) fields)
all_fields {A} o limit tree all trees i fields is same below above so_far stored =
    let done : FieldsSoFar o limit all fields = subst (λ (ts : List (Member A)). FieldsSoFar o limit ts fields) (whole trees i below above ∙ same) so_far in
    let fits = fields_fit o limit (json.object done.seen) done.seen refl done.fit in
    let spells : SpellsFields (json.object done.seen) fields = record { members = done.seen; is = refl; spelled = spelled done.seen [] fields done.listed stored.0.sound.ascending } in
    record {
      seen = json.object done.seen;
      is = rw (is, done.is) refl;
      holds = record { fits = fits; spelled = spells; stored = record { storable = stored; deep = fields_within o limit (json.object done.seen) fields fits spells } };
    }

-- the value of a member has so many fewer tokens than the object that three steps to it fall
pub within : {A : Type 0} (tree : text.Json) (all trees : List (Member A)) (i : ℕ) (one : Member A) → tree ≡ text.object (members_view all) → trees ≡ all → i < length trees → one ≡ get_or trees i one
    → 4 * length (json_tokens (value_view one.1)) + 3 < 4 * length (json_tokens tree)
within {A} tree all trees i one is same below one_is =
    let small : length (json_tokens (value_view one.1)) < length (members_tokens (members_view trees)) = subst (λ (m : Member A). length (json_tokens (value_view m.1)) < length (members_tokens (members_view trees))) (sym one_is) (member_smaller trees i one below) in
    let size : length (json_tokens tree) ≡ suc (length (members_tokens (members_view trees))) = ap (λ t. length (json_tokens t)) (is ∙ ap (λ ms. text.object (members_view ms)) (sym same)) in
    omega arith

pub map : (o : Origin) (limit : ℕ) (tree fields : text.Json) (es : Entries) (v : Data) → HoldsOnly tree (codes "fields") fields → 0 < limit
    → StandsFor fields (IsBuiltOf o (limit - 1) (place.Object object.Fields) SpellsFields (AreStoredFields (limit - 1)) es) → v ≡ map_of es
    → StandsFor tree (IsBuiltOf o limit (place.Object object.Map) (SpellsKind (place.Object object.Map)) IsStorable v)
map o limit tree fields es v held room inside is =
    let all = only tree fields (codes "fields") inside.seen held inside.is in
    record {
      seen = all.seen;
      is = all.is;
      holds = record {
        fits = map_fits o limit inside.seen all.seen es all.holds inside.holds.spelled room inside.holds.fits;
        spelled = map_kind inside.seen all.seen es v all.holds inside.holds.spelled is;
        stored = map_stored es v is inside.holds.stored.storable;
      };
    }
