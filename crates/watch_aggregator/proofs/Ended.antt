-- which ids a REMOVE ends, and what is kept once the token stands
use Rattle.std.proofs.Common.{◌≡◌, ◌≢◌, ◌∙◌, ◌↔◌, ◌⊎◌, inl, inr, ℕ, zero, suc, ◌<◌, ℤ, pos, ◌<ℤ◌, Bool, true, false, cond, ◌&&◌, eqb, Option, Some, None, List, [], ◌∷◌, length, get_or, map, refl, sym, ap, subst, arith, not, if◌then◌else◌}
use Rattle.std.specs.List.{All, AllPairs, Contains, filter}
use Rattle.std.specs.Ordering.{int_eq}
use Rattle.std.proofs.lemmas.Bool.{and_parts, and_from, false≢true, eqb-true}
use Rattle.std.proofs.lemmas.Bool.Decides.{Decides-int_eq, not_from_Decides}
use Rattle.std.proofs.lemmas.List.Elements.{All-cons, All-filter, All-contains, All-map, All-nil, All-weaker, Contains-get_or}
use Rattle.std.proofs.lemmas.List.Kept.{AllPairs-cons, AllPairs-filter}
use Rattle.watch_aggregator.specs.declared.watched.Watched.{Watched}
use Rattle.listen_protocol.specs.Calls.{Calls, lists}
use Rattle.listen_protocol.specs.Transcript.{open_count, is_wanted, token_in}
use Rattle.watch_aggregator.specs.Effects.{IsEnded}
use Rattle.watch_aggregator.specs.Steps.{HasToken, KeepsTokens, ends}
use Rattle.watch_aggregator.specs.Standing.{IsWatched, AreWatched}

module _ {A : Type 0} where
  pub contains_cases : (x : A) (xs : List A) (y : A) → Contains (x ∷ xs) y → (x ≡ y) ⊎ Contains xs y
  contains_cases x xs y (zero, inside, is) = inl is
  contains_cases x xs y (suc k, inside, is) = inr (k, omega arith, is)

  pub contains_here : (x : A) (xs : List A) → Contains (x ∷ xs) x
  contains_here x xs = (0, omega arith, refl)

  pub contains_there : (x : A) (xs : List A) (y : A) → Contains xs y → Contains (x ∷ xs) y
  contains_there x xs y (k, inside, is) = (suc k, omega arith, is)

module _ {B : Type 0} (f : Watched → B) where
  pub chosen : (p : Watched → Bool) (ws : List Watched) (t : B) → Contains (map f (filter p ws)) t → (w : Watched) × Contains ws w × (p w ≡ true) × (f w ≡ t)
  chosen p [] t has = absurd (let inside = has.1 in omega arith)
  chosen p (w ∷ ws) t has = go (p w) refl has (λ there. let found = chosen p ws t there in (found.0, contains_there w ws found.0 found.1, found.2, found.3))
    where
      go : (b : Bool) → p w ≡ b → Contains (map f (cond b (w ∷ filter p ws) (filter p ws))) t → (Contains (map f (filter p ws)) t → (v : Watched) × Contains (w ∷ ws) v × (p v ≡ true) × (f v ≡ t)) → (v : Watched) × Contains (w ∷ ws) v × (p v ≡ true) × (f v ≡ t)
      go true is has later = elim (contains_cases (f w) (map f (filter p ws)) t has) [ inl here ↦ (w, contains_here w ws, is, here) | inr there ↦ later there ]
      go false is has later = later has

  pub choose : (p : Watched → Bool) (ws : List Watched) (w : Watched) → Contains ws w → p w ≡ true → Contains (map f (filter p ws)) (f w)
  choose p [] w has passes = absurd (let inside = has.1 in omega arith)
  choose p (v ∷ ws) w has passes = elim (contains_cases v ws w has) [
    | inl same ↦ first (p v) (ap p same ∙ passes) same
    | inr there ↦ go (p v) (choose p ws w there passes)
  ]
    where
      first : (b : Bool) → b ≡ true → v ≡ w → Contains (map f (cond b (v ∷ filter p ws) (filter p ws))) (f w)
      first true is same = subst (Contains (f v ∷ map f (filter p ws))) (ap f same) (contains_here (f v) (map f (filter p ws)))
      first false is same = cc

      go : (b : Bool) → Contains (map f (filter p ws)) (f w) → Contains (map f (cond b (v ∷ filter p ws) (filter p ws))) (f w)
      go true has = contains_there (f v) (map f (filter p ws)) (f w) has
      go false has = has

-- an id is there, or it isn't
pub found_id : (ws : List Watched) (t : ℤ) → ((w : Watched) × Contains ws w × (w.id ≡ t)) ⊎ All (λ w. w.id ≢ t) ws
found_id [] t = inr (All-nil (λ w. w.id ≢ t))
found_id (w ∷ ws) t = go (int_eq w.id t) refl (found_id ws t)
  where
    go : (b : Bool) → int_eq w.id t ≡ b → (((v : Watched) × Contains ws v × (v.id ≡ t)) ⊎ All (λ w. w.id ≢ t) ws) → ((v : Watched) × Contains (w ∷ ws) v × (v.id ≡ t)) ⊎ All (λ w. w.id ≢ t) (w ∷ ws)
    go true is rest = inl (w, contains_here w ws, (Decides-int_eq w.id t).0 is)
    go false is (inl found) = inl (found.0, contains_there w ws found.0 found.1, found.2)
    go false is (inr none) = inr (All-cons (λ w. w.id ≢ t) w ws (not_from_Decides (int_eq w.id t) (Decides-int_eq w.id t) is) none)

-- the ids that the code finds are those that are ended
pub ended_are : (tokens : List (List ℕ)) (ws : List Watched) (h : Calls) (ids : List ℤ) (t : ℤ) → AreWatched tokens ws h → Contains (map (λ (w : Watched). w.id) (filter (ends ids) ws)) t ↔ IsEnded h ids t
ended_are tokens ws h ids t are = (there, back)
  where
    there : Contains (map (λ (w : Watched). w.id) (filter (ends ids) ws)) t → IsEnded h ids t
    there has =
        let found = chosen (λ (w : Watched). w.id) (ends ids) ws t has in
        let w = found.0 in
        let is : IsWatched tokens w.id h w = All-contains (λ w. IsWatched tokens w.id h w) ws w are.each found.1 in
        let p = and_parts (lists ids w.id) (w.wanted && eqb w.opened 1) found.2 in
        subst (IsEnded h ids) found.3 (record { listed = p.0; live = rw (← is.wants, ← is.count) p.1 })

    back : IsEnded h ids t → Contains (map (λ (w : Watched). w.id) (filter (ends ids) ws)) t
    back ended = elim (found_id ws t) [
      | inl (w, has, same) ↦
          let is : IsWatched tokens t h w = subst (λ x. IsWatched tokens x h w) same (All-contains (λ w. IsWatched tokens w.id h w) ws w are.each has) in
          subst (Contains (map (λ (w : Watched). w.id) (filter (ends ids) ws))) same
          (choose (λ (w : Watched). w.id) (ends ids) ws w has (and_from (lists ids w.id) (w.wanted && eqb w.opened 1) (subst (λ x. lists ids x ≡ true) (sym same) ended.listed) (rw (is.wants, is.count) ended.live)))
      | inr none ↦ absurd (let zero_open = are.others t none in let one_open = eqb-true (open_count t h) 1 (and_parts (is_wanted t h) (eqb (open_count t h) 1) ended.live).1 in omega arith)
    ]

pub none_ended : (tokens : List (List ℕ)) (ws : List Watched) (h : Calls) (ids : List ℤ) (ended : List ℤ) → AreWatched tokens ws h → ended ≡ map (λ (w : Watched). w.id) (filter (ends ids) ws) → length ended ≡ 0 → (t : ℤ) → IsEnded h ids t → ⊥
none_ended tokens ws h ids ended are is none t ends' = let has = subst (λ ts. Contains ts t) (sym is) ((ended_are tokens ws h ids t are).1 ends') in let inside = has.1 in omega arith

pub some_ended : (tokens : List (List ℕ)) (ws : List Watched) (h : Calls) (ids : List ℤ) (ended : List ℤ) → AreWatched tokens ws h → ended ≡ map (λ (w : Watched). w.id) (filter (ends ids) ws) → 0 < length ended → (t : ℤ) × Contains ended t × IsEnded h ids t
some_ended tokens ws h ids ended are is some =
    let has = Contains-get_or ended 0 (pos 0) some in
    (get_or ended 0 (pos 0), has, (ended_are tokens ws h ids (get_or ended 0 (pos 0)) are).0 (subst (λ ts. Contains ts (get_or ended 0 (pos 0))) is has))

pairs-map : (ws : List Watched) → AllPairs (λ v w. v.id <ℤ w.id) ws → AllPairs ◌<ℤ◌ (map (λ (w : Watched). w.id) ws)
pairs-map [] pairs = λ i j d before inside. absurd (omega arith)
pairs-map (w ∷ ws) pairs =
    AllPairs-cons ◌<ℤ◌ w.id (map (λ (w : Watched). w.id) ws)
    (All-map (λ z. w.id <ℤ z) (λ (w : Watched). w.id) ws (λ k d inside. pairs 0 (suc k) d (omega arith) (omega arith)))
    (pairs-map ws (λ i j d before inside. pairs (suc i) (suc j) d (omega arith) (omega arith)))

pub ended_ascend : (p : Watched → Bool) (ws : List Watched) → AllPairs (λ v w. v.id <ℤ w.id) ws → AllPairs ◌<ℤ◌ (map (λ (w : Watched). w.id) (filter p ws))
ended_ascend p ws pairs = pairs-map (filter p ws) (AllPairs-filter (λ v w. v.id <ℤ w.id) p ws pairs)

-- one more token
has_more : (old new : List (List ℕ)) (place : Option ℕ) (token : List ℕ) → KeepsTokens old new → HasToken old place token → HasToken new place token
has_more old new None token keeps has = has
has_more old new (Some place) token keeps has = (keeps.kept place token has.0, has.1)

watched_more : (old new : List (List ℕ)) (t : ℤ) (h : Calls) (w : Watched) → KeepsTokens old new → IsWatched old t h w → IsWatched new t h w
watched_more old new t h w keeps is = record {
  settled = is.settled;
  count = is.count;
  wants = is.wants;
  counting = is.counting;
  document = is.document;
  waits = is.waits;
  told = is.told;
  current = is.current;
  token = λ counted. has_more old new w.token (token_in t h) keeps (is.token counted);
}

pub are_more : (old new : List (List ℕ)) (ws : List Watched) (h : Calls) → KeepsTokens old new → AreWatched old ws h → AreWatched new ws h
are_more old new ws h keeps are = record {
  ascending = are.ascending;
  each = All-weaker (λ w. IsWatched old w.id h w) (λ w. IsWatched new w.id h w) (λ w is. watched_more old new w.id h w keeps is) ws are.each;
  others = are.others;
}

pub some_ids : (ids slice : List ℤ) (answer : Bool) → slice ≡ ids → answer ≡ false → answer ≡ eqb (length slice) 0 → ids ≢ []
some_ids ids slice answer same isnt is none = false≢true (sym isnt ∙ is ∙ ap (λ (l : List ℤ). eqb (length l) 0) (same ∙ none))

-- without the ids that have no open incarnation
pub swept : (tokens : List (List ℕ)) (ws : List Watched) (h : Calls) → AreWatched tokens ws h → AreWatched tokens (filter (λ (w : Watched). not (eqb w.opened 0)) ws) h
swept tokens ws h are = record {
  ascending = AllPairs-filter (λ v w. v.id <ℤ w.id) (λ (w : Watched). not (eqb w.opened 0)) ws are.ascending;
  each = All-filter (λ (w : Watched). not (eqb w.opened 0)) (λ w. IsWatched tokens w.id h w) ws are.each;
  others = λ t absent. elim (found_id ws t) [
    | inl (w, has, same) ↦ gone t absent w has same (eqb w.opened 0) refl
    | inr none ↦ are.others t none
  ];
}
  where
    gone : (t : ℤ) → All (λ w. w.id ≢ t) (filter (λ (w : Watched). not (eqb w.opened 0)) ws) → (w : Watched) → Contains ws w → w.id ≡ t → (b : Bool) → eqb w.opened 0 ≡ b → open_count t h ≡ 0
    gone t absent w has same true e =
        let is : IsWatched tokens w.id h w = All-contains (λ w. IsWatched tokens w.id h w) ws w are.each has in
        subst (λ x. open_count x h ≡ 0) same (sym is.count ∙ eqb-true w.opened 0 e)
    gone t absent w has same false e =
        let listed = choose (λ (v : Watched). v.id) (λ (v : Watched). not (eqb v.opened 0)) ws w has (rw e refl) in
        absurd (All-contains (λ z. z ≢ t) (map (λ (v : Watched). v.id) (filter (λ (v : Watched). not (eqb v.opened 0)) ws)) w.id (All-map (λ z. z ≢ t) (λ (v : Watched). v.id) _ absent) listed same)

-- only after a REMOVE are they looked for
pub swept_after : (tokens : List (List ℕ)) (ws us : List Watched) (h : Calls) (removes : Bool) → AreWatched tokens ws h → us ≡ (if removes then filter (λ (w : Watched). not (eqb w.opened 0)) ws else ws) → AreWatched tokens us h
swept_after tokens ws us h true are is = subst (λ vs. AreWatched tokens vs h) (sym is) (swept tokens ws h are)
swept_after tokens ws us h false are is = subst (λ vs. AreWatched tokens vs h) (sym is) are
