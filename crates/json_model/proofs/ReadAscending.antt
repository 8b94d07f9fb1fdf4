-- A tree that is read from a text has ascending names: members are put in where their names belong.
use Rattle.std.proofs.Common.{◌≡◌, ℕ, List, Option, Some, None, Ordering, Less, Equal, Greater, refl, ap, subst, ◌∙◌}
use Rattle.std.specs.Ordering.{nat_cmp, match_ordering, ordering_reverse}
use Rattle.std.specs.Option.{option_map, option_and_then}
use Rattle.std.specs.Cmp.Lexicographic.{slice_cmp}
use Rattle.document_keys.proofs.Order.{texts_compute}
use Rattle.json.specs.Lex.{tokens}
use Rattle.json.specs.Json as text
use Rattle.serde_json.specs.Data.{Data as Json, null, boolean, number, string, array, object, Members, no_members, member, Items, no_items, item, put}
use Rattle.serde_json.specs.Read.{read, of_json, of_items, of_members, number_of, max_depth}
use Rattle.json_model.specs.Ascending.{IsBelow, Ascends, ItemsAscend, MembersAscend}

pub earlier : (a b : List ℕ) (ms : Members) → slice_cmp nat_cmp a b ≡ Less → IsBelow b ms → IsBelow a ms
earlier a b no_members less all = tt
earlier a b (member k d ms) less all = (texts_compute.total.trans a b k less all.0, earlier a b ms less all.1)

pub above : (a b : List ℕ) → slice_cmp nat_cmp a b ≡ Greater → slice_cmp nat_cmp b a ≡ Less
above a b is = texts_compute.total.antisymm b a ∙ ap ordering_reverse is

put_before : (a k : List ℕ) (d : Json) (ms : Members) → slice_cmp nat_cmp a k ≡ Less → IsBelow a ms → IsBelow a (put k d ms)
put_before a k d no_members less all = (less, tt)
put_before a k d (member l e ms) less all = by (slice_cmp nat_cmp k l) (put_before a k d ms less all.1)
  where
    by : (o : Ordering) → IsBelow a (put k d ms) → IsBelow a (match_ordering o (member k d (member l e ms)) (member l d ms) (member l e (put k d ms)))
    by Less later = (less, all)
    by Equal later = all
    by Greater later = (all.0, later)

pub put_ascending : (k : List ℕ) (d : Json) (ms : Members) → Ascends d → MembersAscend ms → MembersAscend (put k d ms)
put_ascending k d no_members once all = (tt, once, tt)
put_ascending k d (member l e ms) once all = by (slice_cmp nat_cmp k l) refl (put_ascending k d ms once all.2)
  where
    by : (o : Ordering) → slice_cmp nat_cmp k l ≡ o → MembersAscend (put k d ms) → MembersAscend (match_ordering o (member k d (member l e ms)) (member l d ms) (member l e (put k d ms)))
    by Less is later = ((is, earlier k l ms is all.0), once, all)
    by Equal is later = (all.0, once, all.2)
    by Greater is later = (put_before l k d ms (above k l is) all.0, all.1, later)

pub mapped : {A B : Type 0} (f : A → B) (o : Option A) (b : B) → option_map f o ≡ Some b → (a : A) × (o ≡ Some a) × (f a ≡ b)
mapped f None b is = cc
mapped f (Some a) b is = (a, refl, cc)

pub chained : {A B : Type 0} (f : A → Option B) (o : Option A) (b : B) → option_and_then f o ≡ Some b → (a : A) × (o ≡ Some a) × (f a ≡ Some b)
chained f None b is = cc
chained f (Some a) b is = (a, refl, is)

mutual
  pub tree_ascends : (j : text.Json) (d : Json) → of_json j ≡ Some d → Ascends d
  tree_ascends text.null d is = let e : null ≡ d = cc in subst Ascends e tt
  tree_ascends (text.boolean b) d is = let e : boolean b ≡ d = cc in subst Ascends e tt
  tree_ascends (text.number s) d is = let m = mapped number (number_of s) d is in subst Ascends m.2 tt
  tree_ascends (text.string s) d is = let e : string s ≡ d = cc in subst Ascends e tt
  tree_ascends (text.array js) d is = let m = mapped array (of_items js) d is in subst Ascends m.2 (items_ascend js m.0 m.1)
  tree_ascends (text.object js) d is = let m = mapped object (of_members js no_members) d is in subst Ascends m.2 ((members_ascend js no_members m.0 tt m.1))

  pub items_ascend : (js : text.Items) (ds : Items) → of_items js ≡ Some ds → ItemsAscend ds
  items_ascend text.no_items ds is = let e : no_items ≡ ds = cc in subst ItemsAscend e tt
  items_ascend (text.item j js) ds is =
      let first = chained (λ d. option_map (item d) (of_items js)) (of_json j) ds is in
      let rest = mapped (item first.0) (of_items js) ds first.2 in
      subst ItemsAscend rest.2 (tree_ascends j first.0 first.1, items_ascend js rest.0 rest.1)

  pub members_ascend : (js : text.Members) (old new : Members) → MembersAscend old → of_members js old ≡ Some new → MembersAscend new
  members_ascend text.no_members old new all is = let e : old ≡ new = cc in subst MembersAscend e all
  members_ascend (text.member k j js) old new all is =
      let first = chained (λ d. of_members js (put k d old)) (of_json j) new is in
      members_ascend js (put k first.0 old) new (put_ascending k first.0 old (tree_ascends j first.0 first.1) all) first.2

pub read_ascends : (content : List ℕ) (d : Json) → read content ≡ Some d → Ascends d
read_ascends content d is =
    let at = chained of_json (option_and_then (λ p. text.if_last p.0 p.1) (text.value max_depth (tokens content))) d is in
    tree_ascends at.0 d at.2
