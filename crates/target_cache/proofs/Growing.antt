-- a row more at the end, and its place in the order
use Rattle.std.proofs.Common.{◌≡◌, ◌∙◌, inl, inr, ℕ, zero, suc, ◌+◌, ◌-◌, ◌<◌, ◌≤◌, pos, List, [], ◌∷◌, ◌++◌, length, get_or, take, drop, map as each, Option, Some, option_map, unwrap_or, refl, sym, ap, subst, arith, length-append}
use Rattle.std.specs.List.{All, AllPairs, Contains, insert, slice_get}
use Rattle.std.proofs.lemmas.Bool.{cases_lt}
use Rattle.std.proofs.lemmas.List.{get_or_default, take-append-drop}
use Rattle.std.proofs.lemmas.List.Edits.{get_or-insert_at, get_or-insert_below, get_or-insert_above}
use Rattle.std.proofs.lemmas.List.Elements.{All-contains, Contains-append_cases, Contains-append_left, Contains-append_right, Contains-get_or}
use Rattle.std.proofs.lemmas.List.Quantifiers.{all_pairs_push}
use Rattle.std.proofs.lemmas.Option.{slice_get-get_or}
use Rattle.queries.specs.declared.target.Target.{Target}
use Rattle.target_cache.specs.declared.row.Row.{Row}
use Rattle.target_cache.specs.Cache.{blank, id_at}
use Rattle.target_cache.specs.Kept.{Differ, IsNew, IsSound}
use Rattle.target_cache.specs.Order.{IsBefore, IsLower, IsUpTo, no_target, target_of, targets_in}
use Rattle.target_cache.proofs.Targets.{one_way}

front_get : {X : Type 0} (xs ys : List X) (p : ℕ) → p < length xs → slice_get (xs ++ ys) p ≡ slice_get xs p
front_get [] ys p inside = absurd (omega arith)
front_get (x ∷ xs) ys zero inside = refl
front_get (x ∷ xs) ys (suc p) inside = front_get xs ys p (omega arith)

last_get : {X : Type 0} (xs : List X) (y : X) → slice_get (xs ++ y ∷ []) (length xs) ≡ Some y
last_get [] y = refl
last_get (x ∷ xs) y = last_get xs y

map_insert : {X Y : Type 0} (f : X → Y) (xs : List X) (i : ℕ) (x : X) → each f (insert xs i x) ≡ insert (each f xs) i (f x)
map_insert f xs zero x = refl
map_insert f [] (suc i) x = refl
map_insert f (a ∷ xs) (suc i) x = ap (λ l. f a ∷ l) (map_insert f xs i x)

module _ (rows : List Row) (target : Target) where
  front_target : (p : ℕ) → p < length rows → target_of (rows ++ blank target ∷ []) p ≡ target_of rows p
  front_target p inside = ap (λ (o : Option Row). unwrap_or (option_map (λ (r : Row). r.target) o) no_target) (front_get rows (blank target ∷ []) p inside)

  last_target : target_of (rows ++ blank target ∷ []) (length rows) ≡ target
  last_target = ap (λ (o : Option Row). unwrap_or (option_map (λ (r : Row). r.target) o) no_target) (last_get rows (blank target))

  front_targets : (order : List ℕ) → All (λ p. p < length rows) order → targets_in (rows ++ blank target ∷ []) order ≡ targets_in rows order
  front_targets [] within = refl
  front_targets (p ∷ order) within = λ i. front_target p (within 0 p (omega arith)) i ∷ front_targets order (λ k d inside. within (suc k) d (omega arith)) i

  new_targets : (order : List ℕ) (at : ℕ) → All (λ p. p < length rows) order → targets_in (rows ++ blank target ∷ []) (insert order at (length rows)) ≡ insert (targets_in rows order) at target
  new_targets order at within =
      map_insert (target_of (rows ++ blank target ∷ [])) order at (length rows)
      ∙ (λ i. insert (front_targets order within i) at (last_target i))

module _ (targets : List Target) (target : Target) (at : ℕ) (is : IsLower targets target at) (ascending : AllPairs IsUpTo targets) where
  below_one : (i : ℕ) → i < at → get_or (insert targets at target) i no_target ≡ get_or targets i no_target
  below_one i under = get_or-insert_below targets at target no_target i under is.inside

  above_one : (k : ℕ) → at ≤ k → get_or (insert targets at target) (k + 1) no_target ≡ get_or targets k no_target
  above_one k over = get_or-insert_above targets at target no_target k over is.inside

  here_one : get_or (insert targets at target) at no_target ≡ target
  here_one = get_or-insert_at targets at target no_target is.inside

  up : (i j : ℕ) → i < j → j < length targets + 1 → IsUpTo (get_or (insert targets at target) i no_target) (get_or (insert targets at target) j no_target)
  up i j before inside = elim (cases_lt j at) [
    | inl first ↦ λ back. ascending i j no_target before (let n = is.inside in omega arith) (subst (λ t. IsBefore t (get_or targets i no_target)) (below_one j first) (subst (IsBefore (get_or (insert targets at target) j no_target)) (below_one i (omega arith)) back))
    | inr not_first ↦ elim (cases_lt at j) [
      | inl later ↦
          let k = j - 1 in
          let next : k + 1 ≡ j = omega arith in
          let second : get_or (insert targets at target) j no_target ≡ get_or targets k no_target = ap (λ n. get_or (insert targets at target) n no_target) (sym next) ∙ above_one k (omega arith) in
          elim (cases_lt i at) [
            | inl under ↦ λ back. ascending i k no_target (omega arith) (omega arith) (subst (λ t. IsBefore t (get_or targets i no_target)) second (subst (IsBefore (get_or (insert targets at target) j no_target)) (below_one i under) back))
            | inr not_under ↦ elim (cases_lt at i) [
              | inl over ↦
                  let m = i - 1 in
                  let prior : m + 1 ≡ i = omega arith in
                  let first_is : get_or (insert targets at target) i no_target ≡ get_or targets m no_target = ap (λ n. get_or (insert targets at target) n no_target) (sym prior) ∙ above_one m (omega arith) in
                  λ back. ascending m k no_target (omega arith) (omega arith) (subst (λ t. IsBefore t (get_or targets m no_target)) second (subst (IsBefore (get_or (insert targets at target) j no_target)) first_is back))
              | inr not_over ↦
                  let same : i ≡ at = omega arith in
                  let first_is : get_or (insert targets at target) i no_target ≡ target = ap (λ n. get_or (insert targets at target) n no_target) same ∙ here_one in
                  λ back. is.above k (omega arith) (omega arith) (subst (λ t. IsBefore t target) second (subst (IsBefore (get_or (insert targets at target) j no_target)) first_is back))
            ]
          ]
      | inr not_later ↦
          let same : j ≡ at = omega arith in
          let second : get_or (insert targets at target) j no_target ≡ target = ap (λ n. get_or (insert targets at target) n no_target) same ∙ here_one in
          λ back. one_way (get_or targets i no_target) target (is.below i (omega arith)) (subst (λ t. IsBefore t (get_or targets i no_target)) second (subst (IsBefore (get_or (insert targets at target) j no_target)) (below_one i (omega arith)) back))
    ]
  ]

  long_insert : length (insert targets at target) ≡ length targets + 1
  long_insert =
      let whole = ap length (take-append-drop at targets) in
      let parts = length-append (take at targets) (drop at targets) in
      let more = length-append (take at targets) (target ∷ drop at targets) in
      omega arith

  inserted : AllPairs IsUpTo (insert targets at target)
  inserted i j d before inside =
      let long = long_insert in
      let ok = up i j before (omega arith) in
      λ back. ok (subst (λ t. IsBefore t (get_or (insert targets at target) i no_target)) (get_or_default (insert targets at target) j d no_target inside) (subst (IsBefore (get_or (insert targets at target) j d)) (get_or_default (insert targets at target) i d no_target (omega arith)) back))

-- what stands in an order with one place more
in_insert : (order : List ℕ) (at n p : ℕ) → Contains order p → Contains (insert order at n) p
in_insert order at n p there = elim (Contains-append_cases (take at order) (drop at order) p (subst (λ xs. Contains xs p) (sym (take-append-drop at order)) there)) [
  | inl front ↦ Contains-append_left (take at order) (n ∷ drop at order) p front
  | inr rest ↦ Contains-append_right (take at order) (n ∷ drop at order) p (let inside = rest.1 in (suc rest.0, omega arith, rest.2))
]

new_insert : (order : List ℕ) (at n : ℕ) → Contains (insert order at n) n
new_insert order at n = Contains-append_right (take at order) (n ∷ drop at order) n (0, omega arith, refl)

old_or_new : (order : List ℕ) (at n p : ℕ) (below : ℕ) → All (λ q. q < below) order → n < below + 1 → Contains (insert order at n) p → p < below + 1
old_or_new order at n p below within new there = elim (Contains-append_cases (take at order) (n ∷ drop at order) p there) [
  | inl front ↦ let is = All-contains (λ q. q < below) order p within (subst (λ xs. Contains xs p) (take-append-drop at order) (Contains-append_left (take at order) (drop at order) p front)) in omega arith
  | inr (zero, inside, same) ↦ let e : n ≡ p = same in omega arith
  | inr (suc k, inside, same) ↦ let is = All-contains (λ q. q < below) order p within (subst (λ xs. Contains xs p) (take-append-drop at order) (Contains-append_right (take at order) (drop at order) p (k, omega arith, same))) in omega arith
]

pub grown : (rows : List Row) (order : List ℕ) (target : Target) (at : ℕ) → IsSound rows order → IsNew rows target → IsLower (targets_in rows order) target at → id_at (length rows) ≤ 2147483646 → IsSound (rows ++ blank target ∷ []) (insert order at (length rows))
grown rows order target at sound new is few =
    let long = length-append rows (blank target ∷ []) in
    record {
      ordered = record {
        every = λ place inside. elim (cases_lt place (length rows)) [
          | inl front ↦ in_insert order at (length rows) place (sound.ordered.every place front)
          | inr not_front ↦ let same : length rows ≡ place = omega arith in subst (Contains (insert order at (length rows))) same (new_insert order at (length rows))
        ];
        within = λ k d inside. let less = old_or_new order at (length rows) (get_or (insert order at (length rows)) k d) (length rows) sound.ordered.within (omega arith) (Contains-get_or (insert order at (length rows)) k d inside) in omega arith;
        ascending = subst (AllPairs IsUpTo) (sym (new_targets rows target order at sound.ordered.within)) (inserted (targets_in rows order) target at is sound.ordered.ascending);
      };
      distinct = all_pairs_push Differ rows (blank target) sound.distinct (λ k d inside. new (pos (id_at k)) (get_or rows k d) (record { place = k; is = refl; there = slice_get-get_or rows k d inside }));
      few = omega arith;
    }
