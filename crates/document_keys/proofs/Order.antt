-- the order of lists by the first place at which they differ, and the comparison that computes it
use Rattle.std.proofs.Common.{◌≡◌, ◌∙◌, ℕ, ◌<◌, Ordering, Less, Equal, Greater, List, [], ◌∷◌, ◌++◌, append-nil, refl, sym, ap, subst, arith}
use Rattle.std.specs.Cmp.{IsTotalOrder, tied_itself, nat_cmp_total}
use Rattle.std.specs.Cmp.Lexicographic.{slice_cmp, lists_total}
use Rattle.std.specs.Ordering.{ordering_then, ordering_reverse, nat_cmp}
use Rattle.std.proofs.lemmas.Cmp.{ranked}
use Rattle.document_keys.specs.Order.{ListBefore, differs, ends, TextBefore, PathBefore, Ranks}

-- a comparison that computes an order: a total one, Equal at equals alone, Less where one is below the other
pub record Computes {A : Type 0} (R : A → A → Ordering) (Below : A → A → Type 0) : Type 0 where
  pub total : IsTotalOrder R
  pub exact : (x y : A) → R x y ≡ Equal → x ≡ y
  pub below : (x y : A) → R x y ≡ Less → Below x y
  pub less : (x y : A) → Below x y → R x y ≡ Less

module _ {A : Type 0} {R : A → A → Ordering} {Below : A → A → Type 0} (r : Computes R Below) where
  same_exact : (xs ys : List A) → slice_cmp R xs ys ≡ Equal → xs ≡ ys
  same_exact [] [] e = refl
  same_exact [] (y ∷ ys) e = cc
  same_exact (x ∷ xs) [] e = cc
  same_exact (x ∷ xs) (y ∷ ys) e = by (R x y) refl (same_exact xs ys)
    where
      by : (o : Ordering) → R x y ≡ o → (slice_cmp R xs ys ≡ Equal → xs ≡ ys) → x ∷ xs ≡ y ∷ ys
      by Less is rest = let h = rw is at e in cc
      by Equal is rest = let h = rw is at e in let t = rest h in let f = r.exact x y is in λ i. f i ∷ t i
      by Greater is rest = let h = rw is at e in cc

  behind : (x : A) (xs ys : List A) → ListBefore Below xs ys → ListBefore Below (x ∷ xs) (x ∷ ys)
  behind x _ _ (differs same a b heads tails below) = differs (x ∷ same) a b heads tails below
  behind x _ _ (ends same b tails) = ends (x ∷ same) b tails

  list_below : (xs ys : List A) → slice_cmp R xs ys ≡ Less → ListBefore Below xs ys
  list_below [] [] e = cc
  list_below [] (y ∷ ys) e = ends [] y ys
  list_below (x ∷ xs) [] e = cc
  list_below (x ∷ xs) (y ∷ ys) e = by (R x y) refl (list_below xs ys)
    where
      by : (o : Ordering) → R x y ≡ o → (slice_cmp R xs ys ≡ Less → ListBefore Below xs ys) → ListBefore Below (x ∷ xs) (y ∷ ys)
      by Less is rest = differs [] x y xs ys (r.below x y is)
      by Equal is rest = let h = rw is at e in subst (λ z. ListBefore Below (x ∷ xs) (z ∷ ys)) (r.exact x y is) (behind x xs ys (rest h))
      by Greater is rest = let h = rw is at e in cc

  after_same : (same xs ys : List A) → slice_cmp R (same ++ xs) (same ++ ys) ≡ slice_cmp R xs ys
  after_same [] xs ys = refl
  after_same (x ∷ same) xs ys = ap (λ o. ordering_then o (slice_cmp R (same ++ xs) (same ++ ys))) (tied_itself r.total x) ∙ after_same same xs ys

  list_less : (xs ys : List A) → ListBefore Below xs ys → slice_cmp R xs ys ≡ Less
  list_less _ _ (differs same x y xs ys below) = after_same same (x ∷ xs) (y ∷ ys) ∙ ap (λ o. ordering_then o (slice_cmp R xs ys)) (r.less x y below)
  list_less _ _ (ends same y ys) = ap (λ front. slice_cmp R front (same ++ y ∷ ys)) (sym (append-nil same)) ∙ after_same same [] (y ∷ ys)

  pub lists_compute : Computes (slice_cmp R) (ListBefore Below)
  lists_compute = record { total = lists_total r.total; exact = same_exact; below = list_below; less = list_less }

number_by : (x y : ℕ) (o : Ordering) → o ≡ nat_cmp x y → (o ≡ Equal → x ≡ y) × (o ≡ Less → x < y)
number_by x y Less is = (λ e. cc, λ e. ranked x y Less is)
number_by x y Equal is = (λ e. ranked x y Equal is, λ e. cc)
number_by x y Greater is = (λ e. cc, λ e. cc)

number_less : (x y : ℕ) (o : Ordering) → o ≡ nat_cmp x y → x < y → o ≡ Less
number_less x y Less is below = refl
number_less x y Equal is below = let e : x ≡ y = ranked x y Equal is in absurd (omega arith)
number_less x y Greater is below = let e : y < x = ranked x y Greater is in absurd (omega arith)

pub numbers_compute : Computes nat_cmp ◌<◌
numbers_compute = record {
  total = nat_cmp_total;
  exact = λ x y e. (number_by x y (nat_cmp x y) refl).0 e;
  below = λ x y e. (number_by x y (nat_cmp x y) refl).1 e;
  less = λ x y below. number_less x y (nat_cmp x y) refl below;
}

pub texts_compute : Computes (slice_cmp nat_cmp) TextBefore
texts_compute = lists_compute numbers_compute

pub paths_compute : Computes (slice_cmp (slice_cmp nat_cmp)) PathBefore
paths_compute = lists_compute texts_compute

reversed_less : (o : Ordering) → ordering_reverse o ≡ Greater → o ≡ Less
reversed_less Less e = refl
reversed_less Equal e = cc
reversed_less Greater e = cc

-- what the comparison answers, by the relation
pub ranks_from : (left right : List (List ℕ)) (order : Ordering) → order ≡ slice_cmp (slice_cmp nat_cmp) left right → Ranks order left right
ranks_from left right order is =
    let turned = paths_compute.total.antisymm left right in
    record {
      less = (λ e. paths_compute.below left right (sym is ∙ e), λ b. is ∙ paths_compute.less left right b);
      greater = (λ e. paths_compute.below right left (reversed_less _ (sym turned ∙ sym is ∙ e)), λ b. is ∙ turned ∙ ap ordering_reverse (paths_compute.less right left b));
      equal = (λ e. paths_compute.exact left right (sym is ∙ e), λ e. is ∙ ap (λ p. slice_cmp (slice_cmp nat_cmp) p right) e ∙ tied_itself paths_compute.total right);
    }
