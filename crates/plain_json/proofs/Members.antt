-- Objects of one member, and of two.
use Rattle.std.proofs.Common.{◌≡◌, ℕ, ◌<◌, List, [], ◌∷◌, ◌⊎◌, length, false, Some, Less, Greater, inl, inr, refl, ap, subst, ◌∙◌, arith}
use Rattle.std.specs.Ordering.{nat_cmp, ordering_reverse}
use Rattle.std.specs.Cmp.Lexicographic.{slice_cmp}
use Rattle.std.proofs.lemmas.List.{length-append}
use Rattle.document_keys.proofs.Order.{texts_compute}
use Rattle.json.specs.Find as find
use Rattle.json.specs.Json as text
use Rattle.json.specs.Token.{Token}
use Rattle.json.specs.Tree.{json_tokens}
use Rattle.serde_json.specs.Data.{Data, boolean, number, string, array, object, no_members, member}
use Rattle.serde_json.specs.Read.{of_json, of_items, of_members, number_of}
use Rattle.json_model.specs.Members.{is_null}
use Rattle.json_model.proofs.ReadAscending.{mapped}
use Rattle.plain_json.specs.Trees.{HoldsOnly, HoldsBoth, HasOnly, HasBoth, StandsFor}

-- what isn't null in the text isn't null
kept : (tree : text.Json) (d : Data) → find.is_null tree ≡ false → of_json tree ≡ Some d → is_null d ≡ false
kept text.null d some is = cc
kept (text.boolean b) d some is = let e : boolean b ≡ d = cc in subst (λ x. is_null x ≡ false) e refl
kept (text.number s) d some is = let m = mapped number (number_of s) d is in subst (λ x. is_null x ≡ false) m.2 refl
kept (text.string s) d some is = let e : string s ≡ d = cc in subst (λ x. is_null x ≡ false) e refl
kept (text.array js) d some is = let m = mapped array (of_items js) d is in subst (λ x. is_null x ≡ false) m.2 refl
kept (text.object js) d some is = let m = mapped object (of_members js no_members) d is in subst (λ x. is_null x ≡ false) m.2 refl

-- what stands in an object of one member has fewer tokens
pub smaller : (key : List ℕ) (inner : text.Json) → length (json_tokens inner) < length (json_tokens (text.object (text.member key inner text.no_members)))
smaller key inner = let more = length-append (json_tokens inner) (Token.end_object ∷ []) in omega arith

pub only : (tree inner : text.Json) (name : List ℕ) (d : Data) → HoldsOnly tree name inner → of_json inner ≡ Some d → StandsFor tree (HasOnly name d)
only tree inner name d holds seen = record {
  seen = object (member name d no_members);
  is = rw (holds.is, seen) refl;
  holds = record { is = refl; there = kept inner d holds.there seen };
}

pub both : (tree one other : text.Json) (first second : List ℕ) (d e : Data) → slice_cmp nat_cmp first second ≡ Less → HoldsBoth tree first second one other → of_json one ≡ Some d → of_json other ≡ Some e → StandsFor tree (HasBoth first second d e)
both tree one other first second d e before holds seen_one seen_other = record {
  seen = object (member first d (member second e no_members));
  is = by holds.is;
  holds = record { is = refl; one = kept one d holds.one_there seen_one; other = kept other e holds.other_there seen_other };
}
  where
    by : (tree ≡ text.object (text.member first one (text.member second other text.no_members))) ⊎ (tree ≡ text.object (text.member second other (text.member first one text.no_members)))
        → of_json tree ≡ Some (object (member first d (member second e no_members)))
    by (inl is) =
        let behind : slice_cmp nat_cmp second first ≡ Greater = texts_compute.total.antisymm second first ∙ ap ordering_reverse before in
        rw (is, seen_one, seen_other, behind) refl
    by (inr is) = rw (is, seen_other, seen_one, before) refl
