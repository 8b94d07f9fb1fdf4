-- What stands in a tree without faults.
use Rattle.std.proofs.Common.{rules, ◌≡◌, ◌⊎◌, ℕ, ◌-◌, ◌≤◌, List, [], ◌∷◌, ◌++◌, Bool, true, false, not, ◌&&◌, cond, nat_lt, Option, Some, None, refl, sym, ap, subst, inl, inr, ◌∙◌, Bor, IfSome, IsSome, option_map, Ordering, Less, Equal, Greater, arith}
use borrow.Author.Tests.{ltb-false}
use Rattle.std.specs.Bool.{if◌then◌else◌}
use Rattle.std.specs.Option.{option_and_then}
use Rattle.std.specs.Ordering.{nat_cmp, match_ordering, is_lt}
use Rattle.std.specs.Str.{bytes_eq}
use Rattle.std.specs.Cmp.Lexicographic.{slice_cmp}
use Rattle.std.proofs.lemmas.Bool.{and_parts, and_right, or_cases}
use Rattle.std.proofs.lemmas.Cmp.{tied_itself}
use Rattle.std.proofs.lemmas.Slice.Eq.{bytes_eq-Decides}
use Rattle.document_keys.proofs.Order.{texts_compute}
use Rattle.serde_json.specs.Data.{Data as Json, array, object as an_object, Members, no_members, member, Items}
use Rattle.serde_json.specs.Find.{get_member, as_object, as_array}
use Rattle.serde_json.specs.View.{view}
use Rattle.serde_json.specs.declared.value.Value.{Value}
use Rattle.json_model.specs.declared.place.Place.{Place}
use Rattle.json_model.specs.declared.place.Place.TheVariants as place
use Rattle.json_model.specs.declared.place.Object.{Object}
use Rattle.json_model.specs.declared.place.Object.TheVariants as object
use Rattle.json_model.specs.declared.place.Series.{Series}
use Rattle.json_model.specs.declared.fault.JsonFault.{JsonFault}
use Rattle.json_model.specs.declared.fault.JsonFault.TheVariants as json_fault
use Rattle.json_model.specs.Clean.{IsClean, AreClean, ItemsAreClean}
use Rattle.json_model.specs.Faults.{FaultsAt, MembersFaults, ItemsFaults, AtMember, InLevels, OwnOr, Takes, own_faults, own_list_faults, depth_faults, levels_inside, max_nesting, missing, OwnName}
use Rattle.json_model.specs.Members.{is_null, takes_null, is_left_out, given, unless_null, missed, later, refined}
use Rattle.json_model.specs.Origin.{Origin}
use Rattle.json_model.proofs.Among.{OfEach, each_at, found_among}
use Rattle.json_model.specs.Places.{member_place, required, is_among}

-- ---- lists of faults

pub nothing_last : (xs ys : List JsonFault) → [] ≡ xs ++ ys → ys ≡ []
nothing_last [] ys e = sym e
nothing_last (x ∷ xs) ys e = cc

pub nothing_first : (xs ys : List JsonFault) → [] ≡ xs ++ ys → xs ≡ []
nothing_first [] ys e = refl
nothing_first (x ∷ xs) ys e = cc

pub no_own : (own : List JsonFault) (Inside : List JsonFault → Type 0) → OwnOr own Inside [] → (own ≡ []) × Inside []
no_own [] Inside h = (refl, h)
no_own (fault ∷ own) Inside h = cc

pub no_missing : (kind : Object) (names : List (List ℕ)) → [] ≡ missing kind names → names ≡ []
no_missing kind [] e = refl
no_missing kind (name ∷ names) e = cc

-- inside an object there are no more levels than a value has
pub levels_few : (kind : Object) (left : ℕ) → left ≤ max_nesting → levels_inside kind left ≤ max_nesting
levels_few object.FieldFilter left room = omega arith
levels_few _ left room = room

-- ---- objects and lists

pub object_there : (o : Origin) (limit : ℕ) (kind : Object) (name : List ℕ) (d : Json) → FaultsAt o limit (place.Object kind) name d [] → None ≡ as_object d → ⊥
unfolding FaultsAt
object_there o limit kind name (an_object ms) h none = cc
object_there o limit kind name _ h none = cc

pub list_there : (o : Origin) (limit : ℕ) (kind : Series) (name : List ℕ) (d : Json) → FaultsAt o limit (place.Series kind) name d [] → None ≡ as_array d → ⊥
unfolding FaultsAt
list_there o limit kind name (array ds) h none = cc
list_there o limit kind name _ h none = cc

-- what an object without faults has inside, in the levels that are left
pub record Sound (o : Origin) (limit : ℕ) (kind : Object) (name : List ℕ) (ms : Members) : Type 0 where
  pub own : own_faults kind name ms ≡ []
  pub levels : ℕ
  pub takes : Takes (refined kind ms) ms levels
  pub room : levels ≤ limit
  pub inside : MembersFaults o (levels_inside kind (limit - levels)) (refined kind ms) (required (refined kind ms)) ms []

-- a test without a fault
pub untold : {A : Type 0} (b : Bool) (fault : A) → (if b then fault ∷ [] else []) ≡ [] → b ≡ false
untold true fault none = cc
untold false fault none = refl

pub sound : (o : Origin) (limit : ℕ) (kind : Object) (name : List ℕ) (ms : Members) → FaultsAt o limit (place.Object kind) name (an_object ms) [] → Sound o limit kind name ms
unfolding FaultsAt
sound o limit kind name ms h =
    let parts = no_own (own_faults kind name ms) (InLevels (refined kind ms) ms limit (λ inner. MembersFaults o (levels_inside kind inner) (refined kind ms) (required (refined kind ms)) ms)) h in
    let at = parts.1 in
    record {
      own = parts.0;
      levels = at.levels;
      takes = at.takes;
      room = ltb-false limit at.levels (untold (nat_lt limit at.levels) json_fault.TooDeep (nothing_first (depth_faults limit at.levels) at.inside at.is));
      inside = subst (MembersFaults o (levels_inside kind (limit - at.levels)) (refined kind ms) (required (refined kind ms)) ms) (nothing_last (depth_faults limit at.levels) at.inside at.is) at.are;
    }

pub sound_list : (o : Origin) (limit : ℕ) (kind : Series) (name : List ℕ) (ds : Items) → FaultsAt o limit (place.Series kind) name (array ds) [] → (own_list_faults kind name ds ≡ []) × ItemsFaults o limit kind name ds []
unfolding FaultsAt
sound_list o limit kind name ds h = no_own (own_list_faults kind name ds) (ItemsFaults o limit kind name ds) h

pub clean_items : (o : Origin) (kind : Series) (d : Json) (ds : Items) → d ≡ array ds → IsClean o (place.Series kind) d → ItemsAreClean o kind ds
clean_items o kind d ds is (limit, name, room, h) = (limit, name, room, (sound_list o limit kind name ds (subst (λ e. FaultsAt o limit (place.Series kind) name e []) is h)).1)

-- ---- members

pub not_out : (p : Place) (d : Json) → is_null d ≡ false → is_left_out p d ≡ false
not_out p d some = and_right (not (takes_null p)) (is_null d) some

pub at_clean : (o : Origin) (limit : ℕ) (kind : Object) (k : List ℕ) (d : Json) (faults : List JsonFault) → AtMember kind k d (FaultsAt o limit (member_place kind k) k d) faults → faults ≡ [] → is_left_out (member_place kind k) d ≡ false → OwnName kind k [] × FaultsAt o limit (member_place kind k) k d []
at_clean o limit kind k d faults (inl out) none some = cc (out.0)
at_clean o limit kind k d faults (inr at) none some =
    let here = at.1 in
    (subst (OwnName kind k) (nothing_first here.0 here.1 (sym none ∙ here.4)) here.2, subst (FaultsAt o limit (member_place kind k) k d) (nothing_last here.0 here.1 (sym none ∙ here.4)) here.3)

pub end_of : (o : Origin) (limit : ℕ) (kind : Object) (names : List (List ℕ)) → MembersFaults o limit kind names no_members [] → [] ≡ missing kind names
unfolding FaultsAt
end_of o limit kind names h = h

-- a member without faults, and those behind it
pub record First (o : Origin) (limit : ℕ) (kind : Object) (names : List (List ℕ)) (k : List ℕ) (d : Json) (ms : Members) : Type 0 where
  pub none_missed : missed k d names ≡ []
  pub at : AtMember kind k d (FaultsAt o limit (member_place kind k) k d) []
  pub rest : MembersFaults o limit kind (later k names) ms []

pub first_of : (o : Origin) (limit : ℕ) (kind : Object) (names : List (List ℕ)) (k : List ℕ) (d : Json) (ms : Members) → MembersFaults o limit kind names (member k d ms) [] → First o limit kind names k d ms
unfolding FaultsAt
first_of o limit kind names k d ms (first, rest, at, more, none) =
    let both = nothing_last (missing kind (missed k d names)) (first ++ rest) none in
    record {
      none_missed = no_missing kind (missed k d names) (sym (nothing_first (missing kind (missed k d names)) (first ++ rest) none));
      at = subst (AtMember kind k d (FaultsAt o limit (member_place kind k) k d)) (nothing_first first rest (sym both)) at;
      rest = subst (MembersFaults o limit kind (later k names) ms) (nothing_last first rest (sym both)) more;
    }

-- each member that isn't left out has no fault, nor has its name
pub each_clean : (o : Origin) (limit : ℕ) (kind : Object) (names : List (List ℕ)) (ms : Members) → MembersFaults o limit kind names ms []
    → OfEach (λ k d. is_left_out (member_place kind k) d ≡ false → OwnName kind k [] × FaultsAt o limit (member_place kind k) k d []) ms
each_clean o limit kind names no_members clean = tt
each_clean o limit kind names (member k d ms) clean =
    let here = first_of o limit kind names k d ms clean in
    (at_clean o limit kind k d [] here.at refl, each_clean o limit kind (later k names) ms here.rest)

pub member_clean : (o : Origin) (limit : ℕ) (kind : Object) (names : List (List ℕ)) (ms : Members) (k : List ℕ) (d : Json) → MembersFaults o limit kind names ms [] → get_member k ms ≡ Some d → is_null d ≡ false → FaultsAt o limit (member_place kind k) k d []
member_clean o limit kind names ms k d clean is some = (each_at _ ms k d (each_clean o limit kind names ms clean) (found_among ms k d is) (not_out (member_place kind k) d some)).1

pub given_some : (found : Option Json) (d : Json) → option_and_then unless_null found ≡ Some d → (found ≡ Some d) × (is_null d ≡ false)
given_some None d is = cc
given_some (Some e) d is = by (is_null e) refl is
  where
    by : (b : Bool) → is_null e ≡ b → cond b None (Some e) ≡ Some d → (Some e ≡ Some d) × (is_null d ≡ false)
    by true n same = cc
    by false n same = let trees : e ≡ d = cc in (same, ap is_null (sym trees) ∙ n)

pub given_clean : (o : Origin) (kind : Object) (ms : Members) (k : List ℕ) (d : Json) → AreClean o kind ms → given k ms ≡ Some d → IsClean o (member_place (refined kind ms) k) d
given_clean o kind ms k d (limit, name, room, clean) is =
    let there = given_some (get_member k ms) d is in
    let inside = sound o limit kind name ms clean in
    let left = levels_inside kind (limit - inside.levels) in
    (left, k, levels_few kind (limit - inside.levels) (omega arith), member_clean o left (refined kind ms) (required (refined kind ms)) ms k d inside.inside there.0 there.1)

pub given_all : (o : Origin) (kind : Object) (ms : Members) (k : List ℕ) (found : Option (Bor Value)) → AreClean o kind ms → option_map (λ v. view v.now) found ≡ given k ms → IfSome found (λ v. IsClean o (member_place (refined kind ms) k) (view v.now))
given_all o kind ms k None clean is = tt
given_all o kind ms k (Some v) clean is = given_clean o kind ms k (view v.now) clean (sym is)

-- ---- required members

-- the names ascend
abbrev pub ascending : List (List ℕ) → Bool
ascending [] = true
ascending (one ∷ []) = true
ascending (one ∷ (two ∷ others)) = is_lt (slice_cmp nat_cmp one two) && ascending (two ∷ others)

required_ascending : (kind : Object) → ascending (required kind) ≡ true
required_ascending object.WriteLine = refl
required_ascending _ = refl

less_is : (order : Ordering) → is_lt order ≡ true → order ≡ Less
less_is Less h = refl
less_is _ h = cc

ascending_tail : (one : List ℕ) (others : List (List ℕ)) → ascending (one ∷ others) ≡ true → ascending others ≡ true
ascending_tail one [] h = refl
ascending_tail one (two ∷ others) h = (and_parts _ _ h).1

same_one : (one k : List ℕ) → bytes_eq one k ≡ true → one ≡ k
same_one one k is = (bytes_eq-Decides one k).0 is

-- the first of an ascending list comes before the others
before_all : (one k : List ℕ) (others : List (List ℕ)) → ascending (one ∷ others) ≡ true → is_among k others ≡ true → slice_cmp nat_cmp one k ≡ Less
before_all one k [] up among = cc
before_all one k (two ∷ others) up among =
    let first = less_is (slice_cmp nat_cmp one two) (and_parts _ _ up).0 in
    elim (or_cases (bytes_eq two k) (is_among k others) among) [
      | inl same ↦ subst (λ (t : List ℕ). slice_cmp nat_cmp one t ≡ Less) (same_one two k same) first
      | inr more ↦ texts_compute.total.trans one two k first (before_all two k others (and_parts _ _ up).1 more)
    ]

itself : (a b : List ℕ) → a ≡ b → slice_cmp nat_cmp a b ≡ Equal
itself a b same = subst (λ (t : List ℕ). slice_cmp nat_cmp a t ≡ Equal) same (tied_itself texts_compute.total a)

-- a required name is that of this member, or of one that comes behind it
module _ (k l : List ℕ) (e : Json) where
  abbrev Step : List (List ℕ) → Type 0
  Step names = ((l ≡ k) × (is_null e ≡ false)) ⊎ ((l ≡ k → ⊥) × ((is_among k (later l names) ≡ true) × (ascending (later l names) ≡ true)))

  step : (names : List (List ℕ)) → ascending names ≡ true → missed l e names ≡ [] → is_among k names ≡ true → Step names
  step [] up none among = cc
  step (one ∷ others) up none among = by (slice_cmp nat_cmp one l) refl none
    where
      by : (order : Ordering) → slice_cmp nat_cmp one l ≡ order → match_ordering order (one ∷ missed l e others) (if is_null e then one ∷ [] else []) [] ≡ []
          → ((l ≡ k) × (is_null e ≡ false)) ⊎ ((l ≡ k → ⊥) × ((is_among k (match_ordering order (later l others) others (one ∷ others)) ≡ true) × (ascending (match_ordering order (later l others) others (one ∷ others)) ≡ true)))
      by Less cmp gone = cc
      by Equal cmp gone =
          let here : one ≡ l = texts_compute.exact one l cmp in
          elim (or_cases (bytes_eq one k) (is_among k others) among) [
            | inl same ↦ inl (sym here ∙ same_one one k same, untold (is_null e) one gone)
            | inr more ↦ inr (λ at. let less = before_all one k others up more in let tied = itself one k (here ∙ at) in cc, (more, ascending_tail one others up))
          ]
      by Greater cmp gone = inr (
        λ at. elim (or_cases (bytes_eq one k) (is_among k others) among) [
          | inl same ↦ let tied = itself one l (same_one one k same ∙ sym at) in cc
          | inr rest ↦ let less = subst (λ (t : List ℕ). slice_cmp nat_cmp one t ≡ Less) (sym at) (before_all one k others up rest) in cc
        ],
        (among, up),
      )

is_some_given : (found : Option Json) (d : Json) → found ≡ Some d → is_null d ≡ false → IsSome (option_and_then unless_null found)
is_some_given None d is some = cc
is_some_given (Some e) d is some = subst (λ b. IsSome (cond b None (Some e))) (sym (ap is_null (let h : e ≡ d = cc in h) ∙ some)) (search rules)

there_from : (o : Origin) (limit : ℕ) (kind : Object) (names : List (List ℕ)) (ms : Members) (k : List ℕ) → ascending names ≡ true → MembersFaults o limit kind names ms [] → is_among k names ≡ true → IsSome (given k ms)
there_from o limit kind names no_members k up clean among = let none = no_missing kind names (end_of o limit kind names clean) in let e : is_among k [] ≡ true = subst (λ (l : List (List ℕ)). is_among k l ≡ true) none among in cc
there_from o limit kind names (member l e ms) k up clean among =
    let here = first_of o limit kind names l e ms clean in
    by (slice_cmp nat_cmp k l) refl (step k l e names up here.none_missed among) (there_from o limit kind (later l names) ms k)
  where
    by : (order : Ordering) → slice_cmp nat_cmp k l ≡ order → Step k l e names → (ascending (later l names) ≡ true → MembersFaults o limit kind (later l names) ms [] → is_among k (later l names) ≡ true → IsSome (given k ms)) → IsSome (option_and_then unless_null (match_ordering order (get_member k ms) (Some e) (get_member k ms)))
    by Less cmp (inl at) behind = let tied = itself k l (sym at.0) in cc
    by Greater cmp (inl at) behind = let tied = itself k l (sym at.0) in cc
    by Equal cmp (inl at) behind = is_some_given (Some e) e refl at.1
    by Less cmp (inr more) behind = behind more.1.1 (first_of o limit kind names l e ms clean).rest more.1.0
    by Greater cmp (inr more) behind = behind more.1.1 (first_of o limit kind names l e ms clean).rest more.1.0
    by Equal cmp (inr more) behind = absurd (more.0 (sym (texts_compute.exact k l cmp)))

pub required_there : (o : Origin) (kind : Object) (ms : Members) (k : List ℕ) (found : Option (Bor Value)) → AreClean o kind ms → option_map (λ v. view v.now) found ≡ given k ms → is_among k (required (refined kind ms)) ≡ true → IsSome found
required_there o kind ms k found (limit, name, room, clean) is among =
    let inside = sound o limit kind name ms clean in
    shown found (subst IsSome (sym is) (there_from o (levels_inside kind (limit - inside.levels)) (refined kind ms) (required (refined kind ms)) ms k (required_ascending (refined kind ms)) inside.inside among))
  where
    shown : (o : Option (Bor Value)) → IsSome (option_map (λ v. view v.now) o) → IsSome o
    shown None h = h
    shown (Some v) h = search rules
