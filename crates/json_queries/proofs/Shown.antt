-- What is printed, part by part.
use Rattle.std.proofs.Common.{◌≡◌, ℕ, zero, suc, ◌+◌, ◌≤◌, List, [], ◌∷◌, ◌++◌, length, take, Some, refl, ap, ◌∙◌, arith}
use Rattle.std.specs.List.{slice_get}
use Rattle.std.proofs.Math.Seq.{take-length}
use Rattle.serde_json.specs.Data.{Items, item}
use Rattle.json_model.specs.Forms.{printed_each}
use Rattle.queries.specs.Filters.{FilterData, filters_of}
use Rattle.json_queries.specs.Printed.{printed_filter, printed_filters, parent_of, id_of}

-- ---- filters

each_filter : (fs : List FilterData) → printed_each printed_filter fs ≡ printed_filters (filters_of fs)
each_filter [] = refl
each_filter (f ∷ fs) = ap (λ ds. item (printed_filter f) ds) (each_filter fs)

-- all of a list are printed
pub all_printed : (ds : Items) (items fs : List FilterData) (i : ℕ) → items ≡ fs → length items ≤ i → i ≤ length items → ds ≡ printed_each printed_filter (take i items) → ds ≡ printed_filters (filters_of fs)
all_printed ds items fs i same below above so_far =
    let e : i ≡ length items = omega arith in
    so_far ∙ ap (printed_each printed_filter) (ap (λ n. take n items) e ∙ take-length items ∙ same) ∙ each_filter fs

-- ---- the path of a collection

pub parent_is : (path front : List (List ℕ)) (id : List ℕ) → path ≡ front ++ id ∷ [] → parent_of path ≡ front
parent_is path front id is = ap parent_of is ∙ by front
  where
    by : (front : List (List ℕ)) → parent_of (front ++ id ∷ []) ≡ front
    by [] = refl
    by (a ∷ []) = refl
    by (a ∷ b ∷ front) = ap (λ l. a ∷ l) (by (b ∷ front))

pub id_is : (path : List (List ℕ)) (i : ℕ) (id : List ℕ) → i + 1 ≡ length path → Some id ≡ slice_get path i → id ≡ id_of path
id_is [] i id long is = absurd (omega (arith, long))
id_is (a ∷ []) zero id long is = cc
id_is (a ∷ []) (suc i) id long is = absurd (omega (arith, long))
id_is (a ∷ b ∷ path) zero id long is = absurd (omega (arith, long))
id_is (a ∷ b ∷ path) (suc i) id long is = id_is (b ∷ path) i id (omega (arith, long)) is
