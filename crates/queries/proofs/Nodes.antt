-- the filters inside a filter, one by one
use Rattle.std.proofs.Common.{◌≡◌, ◌∙◌, ℕ, ◌+◌, ◌<◌, Bool, List, [], ◌∷◌, ◌++◌, length, take, get_or, cond, refl, sym, ap, append_assoc, arith}
use Rattle.std.specs.List.{count_by}
use Rattle.std.proofs.lemmas.List.{take_more}
use Rattle.std.proofs.lemmas.List.Sums.{sum_by-append}
use Rattle.queries.specs.Filters.{FilterData, filters_of, list_of, nodes, nodes_in}

pub list_filters : (fs : List FilterData) → list_of (filters_of fs) ≡ fs
list_filters [] = refl
list_filters (f ∷ fs) = ap (λ l. f ∷ l) (list_filters fs)

nodes_append : (fs gs : List FilterData) → nodes_in (filters_of (fs ++ gs)) ≡ nodes_in (filters_of fs) ++ nodes_in (filters_of gs)
nodes_append [] gs = refl
nodes_append (f ∷ fs) gs = ap (λ l. nodes f ++ l) (nodes_append fs gs) ∙ sym (append_assoc (nodes f) (nodes_in (filters_of fs)) (nodes_in (filters_of gs)))

-- one filter more
pub nodes_more : (fs : List FilterData) (i : ℕ) (f : FilterData) → i < length fs → f ≡ get_or fs i f → nodes_in (filters_of (take (i + 1) fs)) ≡ nodes_in (filters_of (take i fs)) ++ (nodes f ++ [])
nodes_more fs i f below is =
    let split : take (i + 1) fs ≡ take i fs ++ f ∷ [] = take_more fs i f below ∙ ap (λ x. take i fs ++ x ∷ []) (sym is) in
    ap (λ l. nodes_in (filters_of l)) split ∙ nodes_append (take i fs) (f ∷ [])

pub count_more : (p : FilterData → Bool) (fs : List FilterData) (i : ℕ) (f : FilterData) → i < length fs → f ≡ get_or fs i f → count_by p (nodes_in (filters_of (take (i + 1) fs))) ≡ count_by p (nodes_in (filters_of (take i fs))) + count_by p (nodes f)
count_more p fs i f below is =
    ap (count_by p) (nodes_more fs i f below is) ∙ sum_by-append (λ x. cond (p x) 1 0) (nodes_in (filters_of (take i fs))) (nodes f ++ [])
    ∙ ap (λ n. count_by p (nodes_in (filters_of (take i fs))) + n) (sum_by-append (λ x. cond (p x) 1 0) (nodes f) [] ∙ (let e : count_by p (nodes f) + 0 ≡ count_by p (nodes f) = omega arith in e))
