-- where ids stand after a change at one place
use Rattle.std.proofs.Common.{◌≡◌, ◌≢◌, ◌∙◌, ℕ, Bool, true, false, cond, IsTrue, List, Option, Some, None, refl, sym, ap, subst}
use Rattle.std.specs.BTreeSet.{BTreeSet}
use Rattle.std.specs.Map.{lookup}
use Rattle.std.specs.Option.{IsSome}
use Rattle.document_keys.specs.KeySet.{is_key}
use Rattle.document_keys.proofs.Exact.{key_is}
use Rattle.listeners.specs.Ids.{has_id}
use Rattle.listeners.specs.Places.{Index, KeepsIds, KeepsOtherIds, is_among, stands_at}

-- what stands at a place
abbrev pub at : Index → List (List ℕ) → Option (BTreeSet ℕ)
at index place = lookup (is_key place) index

-- the ids of which this holds, and that stand at the place before, do after
module _ (old new : Index) (key : List (List ℕ)) (w : Option (BTreeSet ℕ)) (is : (place : List (List ℕ)) → at new place ≡ cond (is_key key place) w (at old place)) where
  pub kept : (P : ℕ → Type 0) → ((q : ℕ) → P q → IsTrue (is_among (at old key) q) → IsTrue (is_among w q))
      → (place : List (List ℕ)) (q : ℕ) → P q → IsTrue (stands_at old place q) → IsTrue (stands_at new place q)
  kept P keeps place q holds there = by (is_key key place) refl
    where
      by : (b : Bool) → is_key key place ≡ b → IsTrue (stands_at new place q)
      by true e = ap (λ ids. is_among ids q) (is place ∙ ap (λ b. cond b w (at old place)) e) ∙ keeps q holds (subst (λ k. IsTrue (stands_at old k q)) (sym (key_is key place e)) there)
      by false e = ap (λ ids. is_among ids q) (is place ∙ ap (λ b. cond b w (at old place)) e) ∙ there

  pub keeps_ids : ((q : ℕ) → IsTrue (is_among (at old key) q) → IsTrue (is_among w q)) → KeepsIds old new
  keeps_ids keeps place q there = kept (λ _. Unit {0}) (λ x _. keeps x) place q tt there

  pub keeps_others : (id : ℕ) → ((q : ℕ) → q ≢ id → IsTrue (is_among (at old key) q) → IsTrue (is_among w q)) → KeepsOtherIds id old new
  keeps_others id keeps place q other there = kept (λ x. x ≢ id) keeps place q other there

-- nothing stands at a place that isn't there
pub none_among : (ids : Option (BTreeSet ℕ)) → ids ≡ None → (q : ℕ) → IsTrue (is_among ids q) → ⊥
none_among ids none q there = let never = sym there ∙ ap (λ i. is_among i q) none in cc

-- what stands at a place that is there
pub some_among : (ids : Option (BTreeSet ℕ)) (found : BTreeSet ℕ) → ids ≡ Some found → (q : ℕ) → is_among ids q ≡ has_id found q
some_among ids found is q = ap (λ i. is_among i q) is

pub is_there : {X : Type 0} (found : Option X) (x : X) → found ≡ Some x → IsSome found
is_there found x is = subst IsSome (sym is) refl
