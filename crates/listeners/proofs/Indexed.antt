-- each listener stands at the place of its target
use Rattle.std.proofs.Common.{◌≡◌, ◌∙◌, ◌⊎◌, inl, inr, ℕ, Bool, true, false, cond, IsTrue, List, [], ◌∷◌, ◌++◌, Option, Some, None, refl, sym, ap, subst}
use Rattle.queries.specs.declared.target.Target.{Target}
use Rattle.queries.specs.declared.target.Target.TheVariants.{Document, Collection}
use Rattle.views.specs.Viewed.{Viewed}
use Rattle.listeners.specs.Concerns.{Concerns, IsConcerned}
use Rattle.listeners.specs.Places.{Index, IsIndexed, KeepsOtherIds, least_in, place_of, stands_at}
use Rattle.listeners.specs.Table.{Table, is_id, viewed}
use Rattle.listeners.proofs.Ids.{one_id, other_ids}

module _ (old new : Table) (index after : Index) (id : ℕ) (w : Option Viewed) (is : (q : ℕ) → viewed new q ≡ cond (is_id id q) w (viewed old q)) (indexed : IsIndexed old index) where
  -- after a change of the listener of one id
  pub indexed_after : KeepsOtherIds id index after → ((view : Viewed) → w ≡ Some view → IsTrue (stands_at after (place_of view.target) id)) → IsIndexed new after
  indexed_after keeps stands q view there = by (is_id id q) refl
    where
      by : (b : Bool) → is_id id q ≡ b → IsTrue (stands_at after (place_of view.target) q)
      by true e = subst (λ x. IsTrue (stands_at after (place_of view.target) x)) (one_id id q e) (stands view (sym (is q ∙ ap (λ b. cond b w (viewed old q)) e) ∙ there))
      by false e = keeps (place_of view.target) q (other_ids id q e) (indexed q view (sym (is q ∙ ap (λ b. cond b w (viewed old q)) e) ∙ there))

-- where no id changes, and the id that may have gone is no listener's
pub indexed_without : (old new : Table) (index after : Index) (id : ℕ) → new ≡ old → viewed old id ≡ None → KeepsOtherIds id index after → IsIndexed old index → IsIndexed new after
indexed_without old new index after id same none keeps indexed q view there =
    let was : viewed old q ≡ Some view = sym (ap (λ t. viewed t q) same) ∙ there in
    keeps (place_of view.target) q (λ is. let at = subst (λ x. viewed old x ≡ Some view) is was in cc) (indexed q view was)

-- no listeners
pub indexed_none : (table : Table) (index : Index) → table ≡ [] → IsIndexed table index
indexed_none table index none q view there = let never = sym (ap (λ t. viewed t q) none) ∙ there in cc

-- ---- whom a change of a document concerns

snoc_front : {X : Type 0} (xs ys : List X) (x y : X) → xs ++ x ∷ [] ≡ ys ++ y ∷ [] → xs ≡ ys
snoc_front [] [] x y e = refl
snoc_front [] (b ∷ []) x y e = cc
snoc_front [] (b ∷ c ∷ ys) x y e = cc
snoc_front (a ∷ []) [] x y e = cc
snoc_front (a ∷ c ∷ xs) [] x y e = cc
snoc_front (a ∷ xs) (b ∷ ys) x y e =
    let first : a ≡ b = cc in
    let others : xs ++ x ∷ [] ≡ ys ++ y ∷ [] = cc in
    let rest = snoc_front xs ys x y others in
    λ i. first i ∷ rest i

-- it stands at the key, or at the least key of the collection that has the document
pub stands_there : (target : Target) (key collection : List (List ℕ)) → ((id : List ℕ) × (key ≡ collection ++ id ∷ [])) → Concerns target key → (place_of target ≡ key) ⊎ (place_of target ≡ least_in collection)
stands_there (Document wanted) key collection parent concerned = inl (sym concerned)
stands_there (Collection target) key collection (id, is) (other, also) = inr (ap least_in (snoc_front target.collection collection other id (sym also ∙ is)))

pub found : (table : Table) (index : Index) (key collection least : List (List ℕ)) (id : ℕ) → IsIndexed table index → ((i : List ℕ) × (key ≡ collection ++ i ∷ [])) → least ≡ least_in collection → IsConcerned table key id
    → IsTrue (stands_at index key id) ⊎ IsTrue (stands_at index least id)
found table index key collection least id indexed parent is concerned =
    let there = indexed id concerned.view concerned.there in
    elim (stands_there concerned.view.target key collection parent concerned.concerns) [
      | inl at_key ↦ inl (subst (λ p. IsTrue (stands_at index p id)) at_key there)
      | inr at_least ↦ inr (subst (λ p. IsTrue (stands_at index p id)) (at_least ∙ sym is) there)
    ]
