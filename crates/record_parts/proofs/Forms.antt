-- Reading one part after another, for any kind of part.
use Rattle.std.proofs.Common.{◌≡◌, ℕ, ◌<◌, List, [], ◌∷◌, ◌++◌, length, refl, sym, subst, ◌∙◌, append_assoc, arith}
use Rattle.std.specs.List.{AllByRecursion, flat_map}
use Rattle.record_parts.specs.Reading.{Begins, BeginsNone, AreMany}
use Rattle.record_parts.proofs.Wide.{IsUnique}

-- what was read is what any spelling at the front is of
pub next : {X : Type 0} (spell : X → List ℕ) (Fits : X → Type 0) → IsUnique spell Fits → (bytes : List ℕ) (a : X) (rest : List ℕ) → Begins spell Fits bytes a rest
    → (b : X) (more : List ℕ) → Fits b → bytes ≡ spell b ++ more → (a ≡ b) × (rest ≡ more)
next spell Fits unique bytes a rest first b more fits e = unique a b rest more first.fits fits (sym first.parts ∙ e)

-- a narrower kind of the same spelling
pub narrower_none : {X : Type 0} (spell : X → List ℕ) (Fits Narrow : X → Type 0) → ((x : X) → Narrow x → Fits x) → (bytes : List ℕ) → BeginsNone spell Fits bytes → BeginsNone spell Narrow bytes
narrower_none spell Fits Narrow wider bytes none x rest b = none x rest (record { parts = b.parts; fits = wider x b.fits })

pub unique_narrower : {X : Type 0} (spell : X → List ℕ) (Fits Narrow : X → Type 0) → ((x : X) → Narrow x → Fits x) → IsUnique spell Fits → IsUnique spell Narrow
unique_narrower spell Fits Narrow wider unique a b s t fits_a fits_b e = unique a b s t (wider a fits_a) (wider b fits_b) e

pub narrower_other : {X : Type 0} (spell : X → List ℕ) (Fits Narrow : X → Type 0) → ((x : X) → Narrow x → Fits x) → IsUnique spell Fits → (bytes : List ℕ) (a : X) (rest : List ℕ) → Begins spell Fits bytes a rest → ¬ (Narrow a) → BeginsNone spell Narrow bytes
narrower_other spell Fits Narrow wider unique bytes a rest first not x more b =
    let same = next spell Fits unique bytes a rest first x more (wider x b.fits) b.parts in
    not (subst Narrow (sym same.0) b.fits)

-- ---- lists

pub unique_many : {X : Type 0} (spell : X → List ℕ) (Fits : X → Type 0) → IsUnique spell Fits → (xs ys : List X) (s t : List ℕ) → length xs ≡ length ys → AllByRecursion Fits xs → AllByRecursion Fits ys
    → flat_map spell xs ++ s ≡ flat_map spell ys ++ t → (xs ≡ ys) × (s ≡ t)
unique_many spell Fits unique [] [] s t same fit_a fit_b e = (refl, e)
unique_many spell Fits unique [] (b ∷ ys) s t same fit_a fit_b e = absurd (omega (arith, same))
unique_many spell Fits unique (a ∷ xs) [] s t same fit_a fit_b e = absurd (omega (arith, same))
unique_many spell Fits unique (a ∷ xs) (b ∷ ys) s t same fit_a fit_b e =
    let one = unique a b (flat_map spell xs ++ s) (flat_map spell ys ++ t) fit_a.0 fit_b.0 (sym (append_assoc (spell a) (flat_map spell xs) s) ∙ e ∙ append_assoc (spell b) (flat_map spell ys) t) in
    let others = unique_many spell Fits unique xs ys s t (omega (arith, same)) fit_a.1 fit_b.1 one.1 in
    ((λ i. one.0 i ∷ others.0 i), others.1)

many_next : {X : Type 0} (spell : X → List ℕ) (Fits : X → Type 0) → IsUnique spell Fits → (xs ys : List X) (rest more : List ℕ) → AllByRecursion Fits xs → AllByRecursion Fits ys → length xs < length ys
    → flat_map spell xs ++ rest ≡ flat_map spell ys ++ more → (y : X) × (after : List ℕ) × Begins spell Fits rest y after
many_next spell Fits unique xs [] rest more fit_x fit_y less e = absurd (omega (arith, less))
many_next spell Fits unique [] (y ∷ ys) rest more fit_x fit_y less e = (y, flat_map spell ys ++ more, record { parts = e ∙ append_assoc (spell y) (flat_map spell ys) more; fits = fit_y.0 })
many_next spell Fits unique (x ∷ xs) (y ∷ ys) rest more fit_x fit_y less e =
    let one = unique x y (flat_map spell xs ++ rest) (flat_map spell ys ++ more) fit_x.0 fit_y.0 (sym (append_assoc (spell x) (flat_map spell xs) rest) ∙ e ∙ append_assoc (spell y) (flat_map spell ys) more) in
    many_next spell Fits unique xs ys rest more fit_x.1 fit_y.1 (omega (arith, less)) one.1

pub many_none : {X : Type 0} (spell : X → List ℕ) (Fits : X → Type 0) → IsUnique spell Fits → (bytes : List ℕ) (count i : ℕ) (xs : List X) (rest : List ℕ) → i < count
    → Begins (flat_map spell) (AreMany Fits i) bytes xs rest → BeginsNone spell Fits rest → BeginsNone (flat_map spell) (AreMany Fits count) bytes
many_none spell Fits unique bytes count i xs rest less before none ys more b =
    let one = many_next spell Fits unique xs ys rest more before.fits.each b.fits.each (omega (arith, less, before.fits.len, b.fits.len)) (sym before.parts ∙ b.parts) in
    none one.0 one.1 one.2
