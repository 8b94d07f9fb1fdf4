-- What holds of each member holds of one that is found by its name, and of the only one that is chosen.
use Rattle.std.proofs.Common.{◌≡◌, ◌⊎◌, ℕ, List, [], ◌∷◌, ◌++◌, String, Bool, true, false, cond, Some, Ordering, Equal, refl, sym, subst, inl, inr}
use Rattle.std.specs.declared.alloc.Global.{Global}
use Rattle.std.specs.Ordering.{nat_cmp, match_ordering}
use Rattle.std.specs.Cmp.Lexicographic.{slice_cmp}
use Rattle.std.specs.String.{string_bytes}
use Rattle.document_keys.proofs.Order.{texts_compute}
use Rattle.serde_json.specs.Data.{Data as Json, Members, no_members, member}
use Rattle.serde_json.specs.Find.{get_member}
use Rattle.serde_json.specs.View.{view, members_view}
use Rattle.serde_json.specs.declared.value.Value.{Value}
use Rattle.json_model.specs.declared.place.Object.{Object}
use Rattle.json_model.specs.Members.{chosen, is_chosen}

-- a member is among these
abbrev pub Among : List ℕ → Json → Members → Type 0
Among k d no_members = ⊥
Among k d (member l e ms) = (◌≡◌ {A = List ℕ × Json} (l, e) (k, d)) ⊎ Among k d ms

-- the fact holds of each
abbrev pub OfEach : (List ℕ → Json → Type 0) → Members → Type 0
OfEach Fact no_members = Unit {0}
OfEach Fact (member k d ms) = Fact k d × OfEach Fact ms

pub each_at : (Fact : List ℕ → Json → Type 0) (ms : Members) (k : List ℕ) (d : Json) → OfEach Fact ms → Among k d ms → Fact k d
each_at Fact no_members k d all at = absurd at
each_at Fact (member l e ms) k d all (inl here) = subst (λ (x : List ℕ × Json). Fact x.0 x.1) here all.0
each_at Fact (member l e ms) k d all (inr behind) = each_at Fact ms k d all.1 behind

pub found_among : (ms : Members) (k : List ℕ) (d : Json) → get_member k ms ≡ Some d → Among k d ms
found_among no_members k d is = cc
found_among (member l e ms) k d is = by (slice_cmp nat_cmp k l) refl is (found_among ms k d)
  where
    by : (order : Ordering) → slice_cmp nat_cmp k l ≡ order → match_ordering order (get_member k ms) (Some e) (get_member k ms) ≡ Some d → (get_member k ms ≡ Some d → Among k d ms) → Among k d (member l e ms)
    by Equal cmp same behind = let names = texts_compute.exact k l cmp in let trees : e ≡ d = cc in inl (λ i. (sym names i, trees i))
    by _ cmp same behind = inr (behind same)

pub chosen_among : (kind : Object) (ms : Members) (k : List ℕ) (d : Json) → chosen kind ms ≡ (k, d) ∷ [] → Among k d ms × (is_chosen kind k d ≡ true)
chosen_among kind no_members k d is = cc
chosen_among kind (member l e ms) k d is = by (is_chosen kind l e) refl is (chosen_among kind ms k d)
  where
    by : (b : Bool) → is_chosen kind l e ≡ b → cond b ((l, e) ∷ chosen kind ms) (chosen kind ms) ≡ (k, d) ∷ []
        → (chosen kind ms ≡ (k, d) ∷ [] → Among k d ms × (is_chosen kind k d ≡ true)) → Among k d (member l e ms) × (is_chosen kind k d ≡ true)
    by false other same behind = let more = behind same in (inr more.0, more.1)
    by true this same behind = let pair : (l, e) ≡ (k, d) = cc in (inl pair, subst (λ (x : List ℕ × Json). is_chosen kind x.0 x.1 ≡ true) pair this)

-- an entry of a map
pub entry_among : (done rest : List (String Global × Value)) (e : String Global × Value) → Among (string_bytes e.0) (view e.1) (members_view (done ++ e ∷ rest))
entry_among [] rest e = inl refl
entry_among (x ∷ done) rest e = inr (entry_among done rest e)
