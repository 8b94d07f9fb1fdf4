-- results that fit, each its own
use Rattle.std.proofs.Common.{◌≡◌, ◌∙◌, ◌<◌, ◌+◌, ℕ, zero, suc, true, IsTrue, List, [], ◌∷◌, ◌++◌, length, Option, take, drop, get_or, sym, ap, subst, refl, arith, rules}
use Rattle.std.proofs.lemmas.List.{take_more, drop_more}
use Rattle.value_model.specs.Changes.{with_value_at}
use Rattle.value_model.specs.Data.{Data, Entries, array_of}
use Rattle.value_model.specs.Paths.{value_at}
use Rattle.mutations.specs.declared.transform.Change.{Change}
use Rattle.mutations.specs.declared.transform.Change.TheVariants.{Append, RemoveAll}
use Rattle.mutations.specs.declared.transform.Transform.{Transform}
use Rattle.mutations.specs.Acknowledged.{settled, settled_by}
use Rattle.mutations.specs.Changes.{Appends, Removes, items_at}
use Rattle.mutations.specs.Results.{FitsEach}
use Rattle.mutations.proofs.Locally.{appends_is, removes_is}

pub fit_length : {X Y : Type 0} (R : X → Y → Type 0) (xs : List X) (ys : List Y) → FitsEach R xs ys → length xs ≡ length ys
fit_length R [] [] fits = refl
fit_length R [] (y ∷ ys) fits = absurd fits
fit_length R (x ∷ xs) [] fits = absurd fits
fit_length R (x ∷ xs) (y ∷ ys) fits = ap suc (fit_length R xs ys fits.1)

fit_end : {X Y : Type 0} (R : X → Y → Type 0) (xs : List X) (ys : List Y) (x : X) (y : Y) → R x y → FitsEach R xs ys → FitsEach R (xs ++ x ∷ []) (ys ++ y ∷ [])
fit_end R [] [] x y one fits = (one, tt)
fit_end R [] (b ∷ ys) x y one fits = absurd fits
fit_end R (a ∷ xs) [] x y one fits = absurd fits
fit_end R (a ∷ xs) (b ∷ ys) x y one fits = (fits.0, fit_end R xs ys x y one fits.1)

taken : {X : Type 0} (xs : List X) (i : ℕ) (x : X) → i < length xs → x ≡ get_or xs i x → take (i + 1) xs ≡ take i xs ++ x ∷ []
taken xs i x below is = take_more xs i x below ∙ ap (λ v. take i xs ++ v ∷ []) (sym is)

pub fit_more : {X Y : Type 0} (R : X → Y → Type 0) (xs : List X) (ys : List Y) (i : ℕ) (x : X) (y : Y) → i < length xs → i < length ys → x ≡ get_or xs i x → y ≡ get_or ys i y → R x y → FitsEach R (take i xs) (take i ys) → FitsEach R (take (i + 1) xs) (take (i + 1) ys)
fit_more R xs ys i x y below under is other one fits =
    rw (taken xs i x below is, taken ys i y under other) (fit_end R (take i xs) (take i ys) x y one fits)

pub fit_one : {X Y : Type 0} (R : X → Y → Type 0) (xs : List X) (ys : List Y) (i : ℕ) (x : X) (y : Y) → i < length xs → x ≡ get_or xs i x → y ≡ get_or ys i y → FitsEach R xs ys → R x y
fit_one R [] ys i x y below is other fits = absurd (omega (arith, below))
fit_one R (a ∷ xs) [] i x y below is other fits = absurd fits
fit_one R (a ∷ xs) (b ∷ ys) zero x y below is other fits = subst (λ v. R v y) (sym is) (subst (λ v. R a v) (sym other) fits.0)
fit_one R (a ∷ xs) (b ∷ ys) (suc i) x y below is other fits = fit_one R xs ys i x y (omega (arith, below)) is other fits.1

pub is_true : IsTrue true
is_true = search rules

from : {X : Type 0} (xs : List X) (i : ℕ) (x : X) → i < length xs → x ≡ get_or xs i x → drop i xs ≡ x ∷ drop (i + 1) xs
from xs i x below is = drop_more xs i x below ∙ ap (λ v. v ∷ drop (i + 1) xs) (sym is)

-- one more transform, with its result
pub settle_step : (fields next : Entries) (transforms : List Transform) (results : List Data) (i : ℕ) (transform : Transform) (returned value : Data) → i < length transforms → i < length results → transform ≡ get_or transforms i transform → returned ≡ get_or results i returned → value ≡ settled (value_at fields transform.path) transform.change returned → next ≡ with_value_at fields transform.path value → settled_by next (drop (i + 1) transforms) (drop (i + 1) results) ≡ settled_by fields (drop i transforms) (drop i results)
settle_step fields next transforms results i transform returned value below under is other settles set =
    rw (from transforms i transform below is, from results i returned under other, set, settles) refl

-- what an array's transform leaves
pub settles_append : (found : Option Data) (change : Change) (values old items : List Data) (returned : Data) → change ≡ Append values → old ≡ items_at found → Appends old values items → array_of items ≡ settled found change returned
settles_append found change values old items returned is same appends =
    rw is (ap array_of (appends_is (items_at found) values items (subst (λ l. Appends l values items) same appends)))

pub settles_remove : (found : Option Data) (change : Change) (values old items : List Data) (returned : Data) → change ≡ RemoveAll values → old ≡ items_at found → Removes values old items → array_of items ≡ settled found change returned
settles_remove found change values old items returned is same removes =
    rw is (ap array_of (removes_is values (items_at found) items (subst (λ l. Removes values l items) same removes)))
