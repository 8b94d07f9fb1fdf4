-- The faults of a tree, as the walk through it finds them.
use Rattle.std.proofs.Common.{rules, ◌≡◌, ◌≢◌, ℕ, ◌+◌, ◌-◌, ◌<◌, suc, not, List, [], ◌∷◌, ◌++◌, map, length, take, get_or, Bor, String, Bool, true, false, Option, Some, None, Result, Ok, Err, IfOk, refl, sym, ap, subst, inl, inr, ◌∙◌, ◌⊎◌, append-nil, append_assoc, arith}
use Rattle.std.specs.Bool.{◌==◌}
use Rattle.std.proofs.lemmas.Bool.Decides.{eqb_tells}
use Rattle.std.specs.String.{string_bytes}
use Rattle.std.specs.declared.alloc.Global.{Global}
use Rattle.serde_json.specs.Data.{Data as Tree, null, string, array, object as an_object, Members, Items, no_items}
use Rattle.serde_json.specs.Find.{as_str}
use Rattle.serde_json.specs.View.{view, items_view, members_view}
use Rattle.serde_json.specs.declared.value.Value.{Value as Json, Null, Bool as Boolean, Number, String as Text, the_lemmas}
use Rattle.serde_json.specs.declared.number.Number.{Number as NumberValue}
use Rattle.json_model.specs.declared.place.Place.{Place}
use Rattle.json_model.specs.declared.place.Place.TheVariants as place
use Rattle.json_model.specs.declared.place.Object.{Object}
use Rattle.json_model.specs.declared.place.Series.{Series}
use Rattle.json_model.specs.declared.place.Series.TheVariants as series
use Rattle.json_model.specs.declared.fault.JsonFault.{JsonFault}
use Rattle.json_model.specs.Faults.{FirstOf, FlatFaults, FaultsAt, ItemsFaults, MembersFaults, InLevels, OwnOr, OwnName, AtMember, CountsPath, of_path, no_path, Takes, own_faults, own_list_faults, depth_faults, levels_inside, missing}
use Rattle.json_model.specs.Members.{is_left_out, missed, later, lacks_only, refined}
use Rattle.json_model.specs.Origin.{Origin}
use Rattle.json_model.specs.Places.{member_place, item_place, required}
use Rattle.json_model.specs.Ranks.{better, first_of_least}
use Rattle.document_keys.specs.Paths.{SpellsPath}
use Rattle.json_model.proofs.Built.{items_at}
use Rattle.json_model.proofs.Kinded.{text_at}
use Rattle.json_model.proofs.Firsts.{first_append, better_assoc, none_first}

-- ---- one tree

-- neither an object nor a list
abbrev pub is_scalar : Tree → Bool
is_scalar (array ds) = false
is_scalar (an_object ms) = false
is_scalar _ = true

-- the faults of its own, or those inside
own_first : (own : List JsonFault) (Inside : List JsonFault → Type 0) (fault : JsonFault) → Some fault ≡ first_of_least own → OwnOr own Inside own
own_first [] Inside fault is = cc
own_first (f ∷ fs) Inside fault is = refl

pub own_or : (own : List JsonFault) (Inside : List JsonFault → Type 0) (fault : JsonFault) → Some fault ≡ first_of_least own → FirstOf (OwnOr own Inside) (Some fault)
own_or own Inside fault is = record { faults = own; are = own_first own Inside fault is; first = is }

pub or_inside : (own : List JsonFault) (Inside : List JsonFault → Type 0) (found : Option JsonFault) → None ≡ first_of_least own → FirstOf Inside found → FirstOf (OwnOr own Inside) found
or_inside own Inside found is first = record { faults = first.faults; are = rw (none_first own is) first.are; first = first.first }

pub in_levels : (kind : Object) (ms : Members) (limit inner levels : ℕ) (Inside : ℕ → List JsonFault → Type 0) (deep found new : Option JsonFault) → Takes kind ms levels → deep ≡ first_of_least (depth_faults limit levels) → inner ≡ limit - levels
    → FirstOf (Inside inner) found → new ≡ better deep found → FirstOf (InLevels kind ms limit Inside) new
in_levels kind ms limit inner levels Inside deep found new takes is_deep is_inner first is_new = record {
  faults = depth_faults limit levels ++ first.faults;
  are = record { levels = levels; takes = takes; inside = first.faults; are = subst (λ (n : ℕ). Inside n first.faults) is_inner first.are; is = refl };
  first = is_new ∙ (λ j. better (is_deep j) (first.first j)) ∙ sym (first_append (depth_faults limit levels) first.faults);
}

module _ (o : Origin) (limit : ℕ) (name : List ℕ) (found : Option JsonFault) where
  -- what is inside an object that has no fault of its own
  abbrev pub Within : Members → Object → List JsonFault → Type 0
  Within ms kind = InLevels (refined kind ms) ms limit (λ inner. MembersFaults o (levels_inside kind inner) (refined kind ms) (required (refined kind ms)) ms)

  pub at_object : (d : Tree) (ms : Members) (kind : Object) → d ≡ an_object ms
      → FirstOf (OwnOr (own_faults kind name ms) (Within ms kind)) found → FirstOf (FaultsAt o limit (place.Object kind) name d) found
  unfolding FaultsAt
  at_object d ms kind is first = subst (λ e. FirstOf (FaultsAt o limit (place.Object kind) name e) found) (sym is) (record { faults = first.faults; are = first.are; first = first.first })

  pub at_series : (d : Tree) (ds : Items) (kind : Series) → d ≡ array ds → FirstOf (OwnOr (own_list_faults kind name ds) (ItemsFaults o limit kind name ds)) found → FirstOf (FaultsAt o limit (place.Series kind) name d) found
  unfolding FaultsAt
  at_series d ds kind is first = subst (λ e. FirstOf (FaultsAt o limit (place.Series kind) name e) found) (sym is) (record { faults = first.faults; are = first.are; first = first.first })

  pub own_in_object : (d : Tree) (ms : Members) (kind : Object) (fault : JsonFault) → found ≡ Some fault → d ≡ an_object ms → Some fault ≡ first_of_least (own_faults kind name ms) → FirstOf (FaultsAt o limit (place.Object kind) name d) found
  own_in_object d ms kind fault is at own =
      at_object d ms kind at (subst (FirstOf (OwnOr (own_faults kind name ms) (Within ms kind))) (sym is) (own_or (own_faults kind name ms) (Within ms kind) fault own))

  pub own_in_series : (d : Tree) (ds : Items) (kind : Series) (fault : JsonFault) → found ≡ Some fault → d ≡ array ds → Some fault ≡ first_of_least (own_list_faults kind name ds) → FirstOf (FaultsAt o limit (place.Series kind) name d) found
  own_in_series d ds kind fault is at own =
      at_series d ds kind at (subst (FirstOf (OwnOr (own_list_faults kind name ds) (ItemsFaults o limit kind name ds))) (sym is) (own_or (own_list_faults kind name ds) (ItemsFaults o limit kind name ds) fault own))

  -- an object where none is looked into, a list where none is, and what is neither
  object_flat : (p : Place) (ms : Members) → ((kind : Object) → p ≢ place.Object kind) → FirstOf (FlatFaults o p name (an_object ms)) found → FirstOf (FaultsAt o limit p name (an_object ms)) found
  unfolding FaultsAt
  object_flat (place.Object kind) ms none first = absurd (none kind refl)
  object_flat _ ms none first = record { faults = first.faults; are = first.are; first = first.first }

  pub flat_object : (p : Place) (d : Tree) (ms : Members) → d ≡ an_object ms → ((kind : Object) → p ≢ place.Object kind) → FirstOf (FlatFaults o p name d) found → FirstOf (FaultsAt o limit p name d) found
  flat_object p d ms is none = subst (λ e. FirstOf (FlatFaults o p name e) found → FirstOf (FaultsAt o limit p name e) found) (sym is) (object_flat p ms none)

  list_flat : (p : Place) (ds : Items) → ((kind : Series) → p ≢ place.Series kind) → FirstOf (FlatFaults o p name (array ds)) found → FirstOf (FaultsAt o limit p name (array ds)) found
  unfolding FaultsAt
  list_flat (place.Series kind) ds none first = absurd (none kind refl)
  list_flat _ ds none first = record { faults = first.faults; are = first.are; first = first.first }

  pub flat_list : (p : Place) (d : Tree) (ds : Items) → d ≡ array ds → ((kind : Series) → p ≢ place.Series kind) → FirstOf (FlatFaults o p name d) found → FirstOf (FaultsAt o limit p name d) found
  flat_list p d ds is none = subst (λ e. FirstOf (FlatFaults o p name e) found → FirstOf (FaultsAt o limit p name e) found) (sym is) (list_flat p ds none)

  scalar_flat : (p : Place) (d : Tree) → is_scalar d ≡ true → FirstOf (FlatFaults o p name d) found → FirstOf (FaultsAt o limit p name d) found
  unfolding FaultsAt
  scalar_flat p (array ds) flat first = cc
  scalar_flat p (an_object ms) flat first = cc
  scalar_flat p _ flat first = record { faults = first.faults; are = first.are; first = first.first }

  pub flat_scalar : (p : Place) (d e : Tree) → d ≡ e → is_scalar e ≡ true → FirstOf (FlatFaults o p name d) found → FirstOf (FaultsAt o limit p name d) found
  flat_scalar p d e is flat first = scalar_flat p d (ap is_scalar is ∙ flat) first

pub if_ok : {E : Type 0} (P Q : Option JsonFault → Type 0) (r : Result (Option JsonFault) E) → ((found : Option JsonFault) → P found → Q found) → IfOk r P → IfOk r Q
if_ok P Q (Ok found) then is = then found is
if_ok P Q (Err e) then is = is

-- ---- the path of a transform

text_once : (path : Option Tree) (d : Tree) (text other : List ℕ) → Some d ≡ path → Some text ≡ as_str d → path ≡ Some (string other) → text ≡ other
text_once path d text other is at also = let same : d ≡ string other = (let e : Some d ≡ Some (string other) = is ∙ also in cc) in let e : Some text ≡ Some other = at ∙ ap as_str same in cc

pub no_given : (path : Option Tree) → None ≡ path → CountsPath path 0
no_given path is = no_path (λ text names at spelled. cc)

pub no_text_path : (path : Option Tree) (d : Tree) → Some d ≡ path → None ≡ as_str d → CountsPath path 0
no_text_path path d is flat = no_path (λ text names at spelled. let same : d ≡ string text = (let e : Some d ≡ Some (string text) = is ∙ at in cc) in let e = flat ∙ ap as_str same in cc)

pub counted : (path : Option Tree) (d : Tree) (text : List ℕ) (count : ℕ) → Some d ≡ path → Some text ≡ as_str d → ((names : List (List ℕ)) × (SpellsPath text names × (length names ≡ count))) → CountsPath path count
counted path d text count is at (names, (spelled, long)) = subst (CountsPath path) long (of_path text names (sym is ∙ ap (λ e. Some e) (text_at d text at)) spelled)

pub no_names : (path : Option Tree) (d : Tree) (text : List ℕ) → Some d ≡ path → Some text ≡ as_str d → ((names : List (List ℕ)) → ¬ (SpellsPath text names)) → CountsPath path 0
no_names path d text is at none = no_path (λ other names also spelled. none names (subst (λ (t : List ℕ). SpellsPath t names) (sym (text_once path d text other is at also)) spelled))

-- ---- lists

pub lacks_by : (items : List Json) → not (length items == 1) ≡ lacks_only series.Names (items_view items)
lacks_by [] = refl
lacks_by (x ∷ []) = refl
lacks_by (x ∷ y ∷ items) = ap not (not_one (length items))
  where
    not_one : (n : ℕ) → (suc (suc n) == 1) ≡ false
    not_one n = elim (eqb_tells (suc (suc n)) 1) [ inl z ↦ let h = z.1 in absurd (omega arith) | inr m ↦ m.0 ]

items_push : (o : Origin) (limit : ℕ) (kind : Series) (name : List ℕ) (items : List Json) (one : Json) (xs ys : List JsonFault) → ItemsFaults o limit kind name (items_view items) xs → FaultsAt o limit (item_place kind) name (view one) ys
    → ItemsFaults o limit kind name (items_view (items ++ one ∷ [])) (xs ++ ys)
unfolding FaultsAt
items_push o limit kind name [] one xs ys are at = (ys, [], at, refl, ap (λ l. l ++ ys) are ∙ sym (append-nil ys))
items_push o limit kind name (i ∷ items) one xs ys are at =
    (are.0, are.1 ++ ys, are.2, items_push o limit kind name items one are.1 ys are.3 at, ap (λ l. l ++ ys) are.4 ∙ append_assoc are.0 are.1 ys)

pub items_start : (o : Origin) (limit : ℕ) (kind : Series) (name : List ℕ) → FirstOf (ItemsFaults o limit kind name no_items) None
unfolding FaultsAt
items_start o limit kind name = record { faults = []; are = refl; first = refl }

pub items_step : (o : Origin) (limit : ℕ) (kind : Series) (p : Place) (name : List ℕ) (items : List Json) (i : ℕ) (one : Json) (first found new : Option JsonFault) → i < length items → one ≡ get_or items i one → p ≡ item_place kind
    → FirstOf (ItemsFaults o limit kind name (items_view (take i items))) first → FirstOf (FaultsAt o limit p name (view one)) found → new ≡ better first found → FirstOf (ItemsFaults o limit kind name (items_view (take (i + 1) items))) new
items_step o limit kind p name items i one first found new below is at_place so_far at is_new = rw (items_at items i one below is) (record {
  faults = so_far.faults ++ at.faults;
  are = items_push o limit kind name (take i items) one so_far.faults at.faults so_far.are (subst (λ (q : Place). FaultsAt o limit q name (view one) at.faults) at_place at.are);
  first = is_new ∙ (λ j. better (so_far.first j) (at.first j)) ∙ sym (first_append so_far.faults at.faults);
})

-- ---- members

abbrev pub entry : Type 0
entry = String Global × Json

-- the names of texts that are borrowed
abbrev pub names_of : List (Bor (List ℕ)) → List (List ℕ)
names_of names = map (λ (name : Bor (List ℕ)). name.now) names

-- What the walk has found when it has gone over the first members: faults, to which those of the others are to be added. The
-- names are those of required members that are still to come.
pub record SoFar (o : Origin) (limit : ℕ) (kind : Object) (done : List entry) (names : List (List ℕ)) (first : Option JsonFault) : Type 0 where
  pub seen : List JsonFault
  pub first_is : first ≡ first_of_least seen
  pub goes_on : (rest : List entry) (faults : List JsonFault) → MembersFaults o limit kind names (members_view rest) faults → MembersFaults o limit kind (required kind) (members_view (done ++ rest)) (seen ++ faults)

pub members_start : (o : Origin) (limit : ℕ) (kind : Object) (names : List (List ℕ)) → names ≡ required kind → SoFar o limit kind [] names None
members_start o limit kind names is = record {
  seen = [];
  first_is = refl;
  goes_on = λ rest faults are. subst (λ (l : List (List ℕ)). MembersFaults o limit kind l (members_view rest) faults) is are;
}

one_more : (o : Origin) (limit : ℕ) (kind : Object) (names : List (List ℕ)) (e : entry) (rest : List entry) (at faults : List JsonFault) → AtMember kind (string_bytes e.0) (view e.1) (FaultsAt o limit (member_place kind (string_bytes e.0)) (string_bytes e.0) (view e.1)) at
    → MembersFaults o limit kind (later (string_bytes e.0) names) (members_view rest) faults → MembersFaults o limit kind names (members_view (e ∷ rest)) (missing kind (missed (string_bytes e.0) (view e.1) names) ++ (at ++ faults))
unfolding FaultsAt
one_more o limit kind names e rest at faults here are = (at, faults, here, are, refl)

push : (o : Origin) (limit : ℕ) (kind : Object) (done : List entry) (names : List (List ℕ)) (e : entry) (old new : Option JsonFault) (at : List JsonFault) → SoFar o limit kind done names old
    → AtMember kind (string_bytes e.0) (view e.1) (FaultsAt o limit (member_place kind (string_bytes e.0)) (string_bytes e.0) (view e.1)) at
    → new ≡ better old (better (first_of_least (missing kind (missed (string_bytes e.0) (view e.1) names))) (first_of_least at)) → SoFar o limit kind (done ++ e ∷ []) (later (string_bytes e.0) names) new
push o limit kind done names e old new at so_far here is = record {
  seen = so_far.seen ++ (missing kind (missed (string_bytes e.0) (view e.1) names) ++ at);
  first_is = is ∙ (λ j. better (so_far.first_is j) (sym (first_append (missing kind (missed (string_bytes e.0) (view e.1) names)) at) j)) ∙ sym (first_append so_far.seen (missing kind (missed (string_bytes e.0) (view e.1) names) ++ at));
  goes_on = λ rest faults are.
      let more = so_far.goes_on (e ∷ rest) _ (one_more o limit kind names e rest at faults here are) in
      subst (λ (l : List entry). MembersFaults o limit kind (required kind) (members_view l) ((so_far.seen ++ (missing kind (missed (string_bytes e.0) (view e.1) names) ++ at)) ++ faults)) (sym (append_assoc done (e ∷ []) rest))
      (subst (MembersFaults o limit kind (required kind) (members_view (done ++ e ∷ rest)))
      (ap (λ (l : List JsonFault). so_far.seen ++ l) (sym (append_assoc (missing kind (missed (string_bytes e.0) (view e.1) names)) at faults)) ∙ sym (append_assoc so_far.seen (missing kind (missed (string_bytes e.0) (view e.1) names) ++ at) faults)) more);
}

-- a member that is left out
pub members_skip : (o : Origin) (limit : ℕ) (kind : Object) (done : List entry) (names next : List (List ℕ)) (key : String Global) (value : Json) (text : List ℕ) (old past new : Option JsonFault) → SoFar o limit kind done names old → text ≡ string_bytes key
    → past ≡ first_of_least (missing kind (missed text (view value) names)) → new ≡ better old past → next ≡ later text names → is_left_out (member_place kind text) (view value) ≡ true → SoFar o limit kind (done ++ (key, value) ∷ []) next new
members_skip o limit kind done names next key value text old past new so_far named is_past is_new is_next out =
    let at = λ (t : List ℕ). is_left_out (member_place kind t) (view value) in
    subst (λ (l : List (List ℕ)). SoFar o limit kind (done ++ (key, value) ∷ []) l new) (sym (is_next ∙ ap (λ t. later t names) named))
    (push o limit kind done names (key, value) old new [] so_far (inl (ap at (sym named) ∙ out, refl))
    (is_new ∙ ap (λ f. better old f) (is_past ∙ ap (λ t. first_of_least (missing kind (missed t (view value) names))) named ∙ better_none _)))
  where
    better_none : (f : Option JsonFault) → f ≡ better f None
    better_none None = refl
    better_none (Some f) = refl

-- a member, at a place
abbrev Here : Origin → ℕ → Object → List ℕ → Tree → List JsonFault → Place → Type 0
Here o limit kind text d faults q =
    ((is_left_out q d ≡ true) × (faults ≡ []))
    ⊎ ((is_left_out q d ≡ false) × ((own : List JsonFault) × (inside : List JsonFault) × OwnName kind text own × FaultsAt o limit q text d inside × (faults ≡ own ++ inside)))

-- a member that isn't left out
pub members_step : (o : Origin) (limit : ℕ) (kind : Object) (done : List entry) (names next : List (List ℕ)) (key : String Global) (value : Json) (text : List ℕ) (p : Place) (old past mid own found new : Option JsonFault) → SoFar o limit kind done names old
    → text ≡ string_bytes key → past ≡ first_of_least (missing kind (missed text (view value) names)) → mid ≡ better old past → next ≡ later text names → p ≡ member_place kind text → is_left_out p (view value) ≡ false
    → FirstOf (OwnName kind text) own → FirstOf (FaultsAt o limit p text (view value)) found → new ≡ better mid (better own found) → SoFar o limit kind (done ++ (key, value) ∷ []) next new
members_step o limit kind done names next key value text p old past mid own found new so_far named is_past is_mid is_next at_place out of_name of_value is_new =
    subst (λ (l : List (List ℕ)). SoFar o limit kind (done ++ (key, value) ∷ []) l new) (sym (is_next ∙ ap (λ t. later t names) named))
    (push o limit kind done names (key, value) old new (of_name.faults ++ of_value.faults) so_far
    (subst (λ (t : List ℕ). AtMember kind t (view value) (FaultsAt o limit (member_place kind t) t (view value)) (of_name.faults ++ of_value.faults)) named
    (subst (Here o limit kind text (view value) (of_name.faults ++ of_value.faults)) at_place (inr (out, (of_name.faults, of_value.faults, of_name.are, of_value.are, refl)))))
    (is_new ∙ ap (λ f. better f (better own found)) (is_mid ∙ ap (λ f. better old f) (is_past ∙ ap (λ t. first_of_least (missing kind (missed t (view value) names))) named))
    ∙ sym (better_assoc old (first_of_least (missing kind (missed (string_bytes key) (view value) names))) (better own found))
    ∙ ap (λ f. better old (better (first_of_least (missing kind (missed (string_bytes key) (view value) names))) f)) ((λ j. better (of_name.first j) (of_value.first j)) ∙ sym (first_append of_name.faults of_value.faults))))

-- when all have been walked over
pub members_end : (o : Origin) (limit : ℕ) (kind : Object) (done all : List entry) (names : List (List ℕ)) (first last new : Option JsonFault) → SoFar o limit kind done names first → all ≡ done → last ≡ first_of_least (missing kind names) → new ≡ better first last
    → FirstOf (MembersFaults o limit kind (required kind) (members_view all)) new
unfolding FaultsAt
members_end o limit kind done all names first last new so_far whole is_last is_new = record {
  faults = so_far.seen ++ missing kind names;
  are = subst (λ (l : List entry). MembersFaults o limit kind (required kind) (members_view l) (so_far.seen ++ missing kind names)) (append-nil done ∙ sym whole) (so_far.goes_on [] (missing kind names) refl);
  first = is_new ∙ (λ j. better (so_far.first_is j) (is_last j)) ∙ sym (first_append so_far.seen (missing kind names));
}

-- the views of scalars
pub view_null : view Null ≡ null
view_null = search (rules, the_lemmas)

pub view_boolean : (b : Bool) → is_scalar (view (Boolean b)) ≡ true
view_boolean b = search (rules, the_lemmas)

pub view_number : (n : NumberValue) → is_scalar (view (Number n)) ≡ true
view_number n = search (rules, the_lemmas)

pub view_string : (t : String Global) → is_scalar (view (Text t)) ≡ true
view_string t = search (rules, the_lemmas)
