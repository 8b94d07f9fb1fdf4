-- what is done for one id after another, each of which is looked up
use Rattle.std.proofs.Common.{◌≡◌, ◌≢◌, ◌∙◌, inl, inr, ℕ, suc, pos, ◌+◌, ◌<◌, ℤ, Bool, true, false, ◌||◌, if◌then◌else◌, Ok, Err, List, [], ◌∷◌, ◌++◌, length, get_or, set, map, take, refl, sym, ap, subst, arith}
use Rattle.std.specs.List.{All}
use Rattle.std.specs.Ordering.{int_eq}
use Rattle.std.proofs.lemmas.Bool.{cases_eq, false_from_ne_true}
use Rattle.std.proofs.lemmas.Bool.Decides.{Decides-int_eq}
use Rattle.std.proofs.lemmas.List.{get_or-map, get_or-set_same, get_or-set_other, get_or_default, length-map, length-set, same_lists, take_more}
use Rattle.std.proofs.lemmas.List.Folds.{list_any-append}
use Rattle.watch_aggregator.specs.declared.watched.Watched.{Watched}
use Rattle.listen_protocol.specs.Calls.{lists}
use Rattle.watch_aggregator.specs.Steps.{AreAscending, IsEach, IsPlace}
use Rattle.watch_aggregator.specs.Told.{for_id, for_ids}
use Rattle.watch_aggregator.proofs.Targets.{not_there, places_apart}

-- ---- lists under a function

pub map_map : (f g : Watched → Watched) (ws : List Watched) → map f (map g ws) ≡ map (λ w. f (g w)) ws
map_map f g [] = refl
map_map f g (w ∷ ws) = λ i. f (g w) ∷ map_map f g ws i

pub map_alike : (f g : Watched → Watched) (ws : List Watched) → ((w : Watched) → f w ≡ g w) → map f ws ≡ map g ws
map_alike f g [] alike = refl
map_alike f g (w ∷ ws) alike = λ i. alike w i ∷ map_alike f g ws alike i

pub map_same : (f : Watched → Watched) (ws : List Watched) → All (λ w. f w ≡ w) ws → map f ws ≡ ws
map_same f [] same = refl
map_same f (w ∷ ws) same =
    let first : f w ≡ w = same 0 w (omega arith) in
    let rest = map_same f ws (λ k d inside. same (suc k) d (omega arith)) in
    λ i. first i ∷ rest i

pub each_map : (f : Watched → Watched) (ws : List Watched) → IsEach (λ w v. v ≡ f w) ws (map f ws)
each_map f ws = record { same_length = length-map ws f; at = λ k d inside. get_or-map f ws k d d inside }

pub ascending_map : (f : Watched → Watched) (ws : List Watched) → ((w : Watched) → (f w).id ≡ w.id) → AreAscending ws → AreAscending (map f ws)
ascending_map f ws keeps ascending i j d before inside =
    let size = length-map ws f in
    let in_j : j < length ws = omega arith in
    let in_i : i < length ws = omega arith in
    rw (get_or-map f ws i d d in_i, get_or-map f ws j d d in_j, keeps (get_or ws i d), keeps (get_or ws j d)) (ascending i j d before in_j)

-- ---- one id

module _ (id : ℤ) (f : Watched → Watched) where
  for_this : (w : Watched) → w.id ≡ id → for_id id f w ≡ f w
  for_this w is = let e : int_eq id w.id ≡ true = (Decides-int_eq id w.id).1 (sym is) in rw e refl

  for_other : (w : Watched) → w.id ≢ id → for_id id f w ≡ w
  for_other w apart = let e : int_eq id w.id ≡ false = false_from_ne_true (int_eq id w.id) (λ same. apart (sym ((Decides-int_eq id w.id).0 same))) in rw e refl

  pub set_for_id : (ws : List Watched) (i : ℕ) (was new : Watched) → AreAscending ws → IsPlace ws id (Ok i) → was ≡ get_or ws i was → new ≡ f was → set ws i new ≡ map (for_id id f) ws
  set_for_id ws i was new ascending place at is = same_lists (set ws i new) (map (for_id id f) ws) (length-set ws i new ∙ sym (length-map ws (for_id id f))) each
    where
      here : (d : Watched) → get_or (set ws i new) i d ≡ get_or (map (for_id id f) ws) i d
      here d =
          let there : was ≡ get_or ws i d = at ∙ get_or_default ws i was d place.0 in
          get_or-set_same ws i new d place.0 ∙ is ∙ ap f there ∙ sym (for_this (get_or ws i d) (place.1 d)) ∙ sym (get_or-map (for_id id f) ws i d d place.0)

      away : (k : ℕ) (d : Watched) → k < length ws → k ≢ i → get_or (set ws i new) k d ≡ get_or (map (for_id id f) ws) k d
      away k d inside apart = get_or-set_other ws i k new d apart ∙ sym (for_other (get_or ws k d) (places_apart ws i k d id ascending place.0 inside apart (place.1 d))) ∙ sym (get_or-map (for_id id f) ws k d d inside)

      each : (k : ℕ) (d : Watched) → k < length (set ws i new) → get_or (set ws i new) k d ≡ get_or (map (for_id id f) ws) k d
      each k d within =
          let size = length-set ws i new in
          let inside : k < length ws = omega arith in
          elim (cases_eq k i) [
            | inl same ↦ subst (λ n. get_or (set ws i new) n d ≡ get_or (map (for_id id f) ws) n d) (sym same) (here d)
            | inr apart ↦ away k d inside apart
          ]

  pub no_for_id : (ws : List Watched) (i : ℕ) → AreAscending ws → IsPlace ws id (Err i) → ws ≡ map (for_id id f) ws
  no_for_id ws i ascending place = sym (map_same (for_id id f) ws (λ k d inside. for_other (get_or ws k d) (not_there ws id i ascending place k d inside)))

-- ---- several

module _ (f : Watched → Watched) (keeps : (w : Watched) → (f w).id ≡ w.id) where
  pub ids_keep : (ids : List ℤ) (w : Watched) → (for_ids ids f w).id ≡ w.id
  ids_keep ids w = go (lists ids w.id)
    where
      go : (b : Bool) → (if b then f w else w).id ≡ w.id
      go true = keeps w
      go false = refl

  pub for_none : (ws : List Watched) → ws ≡ map (for_ids [] f) ws
  for_none ws = sym (map_same (for_ids [] f) ws (λ k d inside. refl))

  one_more : ((w : Watched) → f (f w) ≡ f w) → (seen : List ℤ) (id : ℤ) (w : Watched) → for_id id f (for_ids seen f w) ≡ for_ids (seen ++ id ∷ []) f w
  one_more twice seen id w = rw (list_any-append (λ other. int_eq other w.id) seen (id ∷ [])) (go (lists seen w.id) refl)
    where
      again : (b : Bool) → (if b then f (f w) else f w) ≡ f w
      again true = twice w
      again false = refl

      first : (b : Bool) → int_eq id w.id ≡ b → (if int_eq id w.id then f w else w) ≡ (if b || false then f w else w)
      first true e = rw e refl
      first false e = rw e refl

      go : (b : Bool) → lists seen w.id ≡ b → for_id id f (if b then f w else w) ≡ (if b || (int_eq id w.id || false) then f w else w)
      go true e = again (int_eq id (f w).id)
      go false e = first (int_eq id w.id) refl

  -- a loop over ids, one more
  pub for_more : ((w : Watched) → f (f w) ≡ f w) → (ws now next : List Watched) (ids : List ℤ) (i : ℕ) → i < length ids → AreAscending ws → now ≡ map (for_ids (take i ids) f) ws → (AreAscending now → next ≡ map (for_id (get_or ids i (pos 0)) f) now) → next ≡ map (for_ids (take (i + 1) ids) f) ws
  for_more twice ws now next ids i inside ascending so_far step =
      let seen = take i ids in
      let id = get_or ids i (pos 0) in
      step (subst AreAscending (sym so_far) (ascending_map (for_ids seen f) ws (ids_keep seen) ascending))
      ∙ ap (map (for_id id f)) so_far
      ∙ map_map (for_id id f) (for_ids seen f) ws
      ∙ map_alike (λ w. for_id id f (for_ids seen f w)) (for_ids (seen ++ id ∷ []) f) ws (one_more twice seen id)
      ∙ ap (λ (l : List ℤ). map (for_ids l f) ws) (sym (take_more ids i (pos 0) inside))
