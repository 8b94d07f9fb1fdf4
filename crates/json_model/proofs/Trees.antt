-- How deep trees are, and what is inside them.
use Rattle.std.proofs.Common.{◌≡◌, ◌++◌, ℕ, ◌<◌, ◌≤◌, zero, suc, List, [], ◌∷◌, length, get_or, String, Option, Some, None, is_some, Bor, IfSome, option_map, refl, sym, ap, inl, inr, arith}
use Rattle.std.specs.declared.alloc.Global.{Global}
use Rattle.serde_json.specs.Data.{Data as Tree, null, array, object, Members, no_members, member, Items, depth, items_depth, members_depth}
use Rattle.serde_json.specs.Find.{as_object, as_array, as_null, get_member}
use Rattle.serde_json.specs.View.{view, items_view, members_view}
use Rattle.serde_json.specs.declared.value.Value.{Value as Json}
use Rattle.json_model.specs.declared.place.Object.{Object}
use Rattle.json_model.specs.Members.{given, is_null, chosen}
use Rattle.json_model.proofs.Among.{Among, found_among, chosen_among, entry_among}
use Rattle.json_model.proofs.Sound.{given_some}

pub object_at : (d : Tree) (ms : Members) → Some ms ≡ as_object d → d ≡ object ms
object_at (object ns) ms is = let e : ns ≡ ms = cc in ap object e
object_at _ ms is = cc

pub array_at : (d : Tree) (ds : Items) → Some ds ≡ as_array d → d ≡ array ds
array_at (array es) ds is = let e : es ≡ ds = cc in ap array e
array_at _ ds is = cc

-- one of the members is inside
pub among_depth : (ms : Members) (k : List ℕ) (d : Tree) → Among k d ms → depth d ≤ members_depth ms
among_depth no_members k d at = absurd at
among_depth (member l e ms) k d (inl here) = let f : depth e ≡ depth d = ap (λ (x : List ℕ × Tree). depth x.1) here in omega arith
among_depth (member l e ms) k d (inr behind) = let rest = among_depth ms k d behind in omega arith

pub choice_depth : (o : Object) (ms : Members) (name : List ℕ) (d : Tree) → chosen o ms ≡ (name, d) ∷ [] → depth d ≤ members_depth ms
choice_depth o ms name d is = among_depth ms name d (chosen_among o ms name d is).0

pub given_depth : (ms : Members) (name : List ℕ) (d : Tree) → Some d ≡ given name ms → depth d ≤ members_depth ms
given_depth ms name d is = among_depth ms name d (found_among ms name d (given_some (get_member name ms) d (sym is)).0)

pub given_within : (ms : Members) (name : List ℕ) (found : Option (Bor Json)) → option_map (λ v. view v.now) found ≡ given name ms → IfSome found (λ v. depth (view v.now) ≤ members_depth ms)
given_within ms name None is = tt
given_within ms name (Some v) is = given_depth ms name (view v.now) is

pub item_depth : (items : List Json) (i : ℕ) (one : Json) → i < length items → one ≡ get_or items i one → depth (view one) ≤ items_depth (items_view items)
item_depth [] i one below is = absurd (omega arith)
item_depth (x ∷ items) zero one below is = let f : depth (view one) ≡ depth (view x) = ap (λ j. depth (view j)) is in omega arith
item_depth (x ∷ items) (suc i) one below is = let rest = item_depth items i one (omega arith) is in omega arith

pub entry_depth : (done rest : List (String Global × Json)) (e : String Global × Json) → depth (view e.1) ≤ members_depth (members_view (done ++ e ∷ rest))
entry_depth done rest e = among_depth (members_view (done ++ e ∷ rest)) _ (view e.1) (entry_among done rest e)

-- the test for null
pub null_test : (d : Tree) → is_null d ≡ is_some (as_null d)
null_test null = refl
null_test _ = refl
