-- what one more call makes of what is kept of all ids
use Rattle.std.proofs.Common.{◌≡◌, ◌≢◌, ◌∙◌, ◌⊎◌, inl, inr, ℕ, ◌+◌, ◌-◌, ◌<◌, ◌≤◌, ℤ, ◌<ℤ◌, FitsSigned, w32, to_z, of_z, Bool, true, false, if◌then◌else◌, ◌&&◌, not, eqb, Option, Some, None, Result, Ok, Err, List, [], ◌∷◌, length, get_or, set, take, drop, refl, sym, ap, subst, arith}
use Rattle.std.specs.Int.Signed.{<ℤ_irrefl}
use Rattle.std.proofs.lemmas.Int.{to_z-of_z}
use Rattle.std.specs.Cmp.{int_chain}
use Rattle.std.specs.List.{All, AllPairs, Contains, insert}
use Rattle.std.proofs.lemmas.Bool.{cases_eq, cases_order}
use Rattle.std.proofs.lemmas.List.{get_or-set_same, get_or-set_other, get_or_default, length-set, take-append-drop}
use Rattle.std.proofs.lemmas.List.Elements.{All-append, All-cons, All-drop, All-take, Contains-append_cases, Contains-append_left, Contains-append_right}
use Rattle.std.proofs.lemmas.List.Edits.{get_or-insert_above, get_or-insert_at, get_or-insert_below, length-insert}
use Rattle.value_model.specs.declared.message.ListenResponse.{ListenResponse}
use Rattle.value_model.specs.declared.message.ListenResponse.TheVariants as sent
use Rattle.value_model.specs.declared.message.TargetChange.{TargetChange}
use Rattle.value_model.specs.declared.message.ChangeKind.{ChangeKind}
use Rattle.value_model.specs.declared.message.ChangeKind.TheVariants as kind
use Rattle.watch_aggregator.specs.declared.watched.Watched.{Watched}
use Rattle.listen_protocol.specs.Calls.{Call, Calls, came, changes, is_of, is_remove}
use Rattle.listen_protocol.specs.Transcript.{open_count, counts}
use Rattle.watch_aggregator.specs.Steps.{AreAscending, HasToken, IsEach, IsPlace, KeepsTokens, turned, with_token, changed}
use Rattle.watch_aggregator.specs.Standing.{IsWatched, AreWatched}
use Rattle.watch_aggregator.proofs.Ended.{are_more}
use Rattle.listen_protocol.proofs.Ids.{counts_live}
use Rattle.watch_aggregator.proofs.Messages.{changed_stands}

-- a call that changes each by itself, and opens no incarnation of an id that isn't there
pub each_stands : (tokens more : List (List ℕ)) (ws vs : List Watched) (h : Calls) (call : Call) (R : Watched → Watched → Type 0) → AreWatched tokens ws h → IsEach R ws vs → ((w v : Watched) → R w v → IsWatched tokens w.id h w → (v.id ≡ w.id) × IsWatched more w.id (call ∷ h) v) → ((t : ℤ) → All (λ w. w.id ≢ t) ws → open_count t h ≡ 0 → open_count t (call ∷ h) ≡ 0) → AreWatched more vs (call ∷ h)
each_stands tokens more ws vs h call R are each one none = record {
  ascending = λ i j d before inside.
      let inside' : j < length ws = omega (arith, each.same_length) in
      rw (same_id i d (omega arith), same_id j d inside') (are.ascending i j d before inside');
  each = λ k d inside.
      let inside' : k < length ws = omega (arith, each.same_length) in
      let both = one _ _ (each.at k d inside') (are.each k d inside') in
      subst (λ t. IsWatched more t (call ∷ h) (get_or vs k d)) (sym both.0) both.1;
  others = λ t absent. let were : All (λ w. w.id ≢ t) ws = λ k d inside same. absent k d (omega (arith, each.same_length)) (same_id k d inside ∙ same) in none t were (are.others t were);
}
  where
    same_id : (k : ℕ) (d : Watched) → k < length ws → (get_or vs k d).id ≡ (get_or ws k d).id
    same_id k d inside = (one _ _ (each.at k d inside) (are.each k d inside)).0

less_apart : (a b : ℤ) → a <ℤ b → a ≢ b
less_apart a b less same = let P : ℤ → Type 0 = λ x. x <ℤ b in <ℤ_irrefl (subst P same less)

more_apart : (a b : ℤ) → b <ℤ a → a ≢ b
more_apart a b more same = let P : ℤ → Type 0 = λ x. b <ℤ x in <ℤ_irrefl (subst P same more)

-- two places have two ids
pub places_apart : (ws : List Watched) (i k : ℕ) (d : Watched) (id : ℤ) → AllPairs (λ v w. v.id <ℤ w.id) ws → i < length ws → k < length ws → k ≢ i → (get_or ws i d).id ≡ id → (get_or ws k d).id ≢ id
places_apart ws i k d id ascending in_i in_k apart is = elim (cases_order k i) [
  | inl same ↦ absurd (apart same)
  | inr (inl before) ↦ subst (λ x. (get_or ws k d).id ≢ x) is (less_apart _ _ (ascending k i d before in_i))
  | inr (inr after) ↦ subst (λ x. (get_or ws k d).id ≢ x) is (more_apart _ _ (ascending i k d after in_k))
]

-- a call of one id, whose element becomes another
pub one_stands : (tokens : List (List ℕ)) (ws : List Watched) (h : Calls) (call : Call) (id : ℤ) (i : ℕ) (old new : Watched) → AreWatched tokens ws h → IsPlace ws id (Ok i) → old ≡ get_or ws i old → new.id ≡ old.id → (IsWatched tokens id h old → IsWatched tokens id (call ∷ h) new) → ((w : Watched) → w.id ≢ id → IsWatched tokens w.id h w → IsWatched tokens w.id (call ∷ h) w) → ((t : ℤ) → t ≢ id → open_count t h ≡ 0 → open_count t (call ∷ h) ≡ 0) → AreWatched tokens (set ws i new) (call ∷ h)
one_stands tokens ws h call id i old new are place at same one other none =
    each_stands tokens tokens ws (set ws i new) h call (λ w v. ((w.id ≡ id) × (w ≡ old) × (v ≡ new)) ⊎ ((w.id ≢ id) × (v ≡ w))) are
    (record { same_length = length-set ws i new; at = each })
    (λ w v. elim [
      | inl (is, was, becomes) ↦ (λ is'. (
        ap (λ (u : Watched). u.id) becomes ∙ same ∙ sym (ap (λ (u : Watched). u.id) was),
        subst (λ t. IsWatched tokens t (call ∷ h) v) (sym is) (subst (λ u. IsWatched tokens id (call ∷ h) u) (sym becomes) (one (subst (λ u. IsWatched tokens id h u) was (subst (λ t. IsWatched tokens t h w) is is')))),
      ))
      | inr (apart, stays) ↦ (λ is'. (ap (λ (u : Watched). u.id) stays, subst (λ u. IsWatched tokens w.id (call ∷ h) u) (sym stays) (other w apart is')))
    ])
    (λ t absent were. none t (λ same'. absent i old place.0 (place.1 old ∙ sym same')) were)
  where
    each : (k : ℕ) (d : Watched) → k < length ws → ((((get_or ws k d).id ≡ id) × (get_or ws k d ≡ old) × (get_or (set ws i new) k d ≡ new)) ⊎ (((get_or ws k d).id ≢ id) × (get_or (set ws i new) k d ≡ get_or ws k d)))
    each k d inside = elim (cases_eq k i) [
      | inl here ↦ inl (ap (λ n. (get_or ws n d).id) here ∙ place.1 d, ap (λ n. get_or ws n d) here ∙ get_or_default ws i d old place.0 ∙ sym at, ap (λ n. get_or (set ws i new) n d) here ∙ get_or-set_same ws i new d place.0)
      | inr away ↦ inr (places_apart ws i k d id are.ascending place.0 inside away (place.1 d), get_or-set_other ws i k new d away)
    ]

-- an id that isn't there
pub not_there : (ws : List Watched) (id : ℤ) (i : ℕ) → AllPairs (λ v w. v.id <ℤ w.id) ws → IsPlace ws id (Err i) → All (λ w. w.id ≢ id) ws
not_there ws id i ascending place k d inside = elim (cases_order k i) [
  | inl here ↦ more_apart _ _ (subst (λ n. id <ℤ (get_or ws n d).id) (sym here) (place.2 d (let e : i < length ws = omega arith in e)))
  | inr (inl before) ↦ less_apart _ _ (place.1 k d before)
  | inr (inr after) ↦ more_apart _ _ (int_chain _ _ _ (place.2 d (omega arith)) (ascending i k d after inside))
]

pub none_stands : (tokens : List (List ℕ)) (ws : List Watched) (h : Calls) (call : Call) (id : ℤ) (i : ℕ) → AreWatched tokens ws h → IsPlace ws id (Err i) → ((w : Watched) → w.id ≢ id → IsWatched tokens w.id h w → IsWatched tokens w.id (call ∷ h) w) → ((t : ℤ) → open_count t h ≡ 0 → open_count t (call ∷ h) ≡ 0) → AreWatched tokens ws (call ∷ h)
none_stands tokens ws h call id i are place other none =
    let absent = not_there ws id i are.ascending place in
    record {
      ascending = are.ascending;
      each = λ k d inside. other _ (absent k d inside) (are.each k d inside);
      others = λ t away. none t (are.others t away);
    }

pairs-insert : (ws : List Watched) (i : ℕ) (new : Watched) → AllPairs (λ v w. v.id <ℤ w.id) ws → IsPlace ws new.id (Err i) → AllPairs (λ v w. v.id <ℤ w.id) (insert ws i new)
pairs-insert ws p key ascending place i j d before inside =
    let within = place.0 in
    let size = length-insert ws p key within in
    elim (cases_order j p) [
      | inl at ↦ rw (at, get_or-insert_at ws p key d within, get_or-insert_below ws p key d i (omega arith) within) (place.1 i d (omega arith))
      | inr (inl low) ↦ rw (get_or-insert_below ws p key d j low within, get_or-insert_below ws p key d i (omega arith) within) (ascending i j d before (omega arith))
      | inr (inr high) ↦
          let up : get_or (insert ws p key) j d ≡ get_or ws (j - 1) d = ap (λ k. get_or (insert ws p key) k d) (let e : j ≡ j - 1 + 1 = omega arith in e) ∙ get_or-insert_above ws p key d (j - 1) (omega arith) within in
          rw up (elim (cases_order i p) [
            | inl at ↦ rw (at, get_or-insert_at ws p key d within) (above (j - 1) (omega arith) (omega arith))
            | inr (inl low) ↦ rw (get_or-insert_below ws p key d i low within) (ascending i (j - 1) d (omega arith) (omega arith))
            | inr (inr past) ↦
                let down : get_or (insert ws p key) i d ≡ get_or ws (i - 1) d = ap (λ k. get_or (insert ws p key) k d) (let e : i ≡ i - 1 + 1 = omega arith in e) ∙ get_or-insert_above ws p key d (i - 1) (omega arith) within in
                rw down (ascending (i - 1) (j - 1) d (omega arith) (omega arith))
          ])
    ]
  where
    above : (k : ℕ) → p ≤ k → k < length ws → key.id <ℤ (get_or ws k d).id
    above k from to = elim (cases_eq k p) [
      | inl here ↦ subst (λ n. key.id <ℤ (get_or ws n d).id) (sym here) (place.2 d (let e : p < length ws = omega arith in e))
      | inr past ↦ int_chain _ _ _ (place.2 d (omega arith)) (ascending p k d (omega arith) to)
    ]

-- a call that brings an id
pub insert_stands : (tokens : List (List ℕ)) (ws : List Watched) (h : Calls) (call : Call) (i : ℕ) (new : Watched) → AreWatched tokens ws h → IsPlace ws new.id (Err i) → (open_count new.id h ≡ 0 → IsWatched tokens new.id (call ∷ h) new) → ((w : Watched) → w.id ≢ new.id → IsWatched tokens w.id h w → IsWatched tokens w.id (call ∷ h) w) → ((t : ℤ) → t ≢ new.id → open_count t h ≡ 0 → open_count t (call ∷ h) ≡ 0) → AreWatched tokens (insert ws i new) (call ∷ h)
insert_stands tokens ws h call i new are place one other none =
    let absent = not_there ws new.id i are.ascending place in
    let P : Watched → Type 0 = λ w. IsWatched tokens w.id (call ∷ h) w in
    let there : All P ws = λ k d inside. other _ (absent k d inside) (are.each k d inside) in
    record {
      ascending = pairs-insert ws i new are.ascending place;
      each = All-append P (take i ws) (new ∷ drop i ws) (All-take P i ws there) (All-cons P new (drop i ws) (one (are.others new.id absent)) (All-drop P i ws there));
      others = λ t away.
          none t (λ same. away i new (let size = length-insert ws i new place.0 in omega arith) (ap (λ (u : Watched). u.id) (get_or-insert_at ws i new new place.0) ∙ sym same))
          (are.others t (λ k d inside same. let found = Contains-insert ws i new (get_or ws k d) (k, inside, get_or_default ws k (get_or ws k d) d inside) place.0 in away found.0 (get_or ws k d) found.1 (ap (λ (u : Watched). u.id) found.2 ∙ same)));
    }
  where
    Contains-insert : (xs : List Watched) (p : ℕ) (key x : Watched) → Contains xs x → p ≤ length xs → Contains (insert xs p key) x
    Contains-insert xs p key x has within = elim (Contains-append_cases (take p xs) (drop p xs) x (subst (λ ys. Contains ys x) (sym (take-append-drop p xs)) has)) [
      | inl front ↦ Contains-append_left (take p xs) (key ∷ drop p xs) x front
      | inr tail ↦ Contains-append_right (take p xs) (key ∷ drop p xs) x (Contains-append_right (key ∷ []) (drop p xs) x tail)
    ]

-- the place as a caller sees it: a signed argument is written and read back on the way
pub placed : (ws slice : List Watched) (id : ℤ) (place : Result ℕ ℕ) → AreAscending ws → slice ≡ ws → FitsSigned w32 id → (AreAscending slice → IsPlace slice (to_z w32 (of_z w32 id)) place) → IsPlace ws id place
placed ws slice id place ascending same fits is = subst (λ z. IsPlace ws z place) (to_z-of_z w32 id fits) (subst (λ s. IsPlace s (to_z w32 (of_z w32 id)) place) same (is (subst AreAscending (sym same) ascending)))

-- ---- a change of targets

changed_id : (change : TargetChange) (token : Option ℕ) (w : Watched) → (changed change token w).id ≡ w.id
changed_id change token w = go (is_of change.target_ids w.id) token
  where
    by_kind : (k : ChangeKind) → (turned k w).id ≡ w.id
    by_kind kind.NoChange = refl
    by_kind kind.Add = adds (w.wanted && eqb w.opened 1 && not w.counts)
      where
        adds : (b : Bool) → (if b then record w { counts = true; current = false; token = None } else w).id ≡ w.id
        adds true = refl
        adds false = refl
    by_kind kind.Remove = refl
    by_kind kind.Current = refl
    by_kind kind.Reset = resets w.counts
      where
        resets : (b : Bool) → (if b then record w { told = []; current = false; token = None } else w).id ≡ w.id
        resets true = refl
        resets false = refl

    go : (b : Bool) (token : Option ℕ) → (if b then with_token token (turned change.kind w) else w).id ≡ w.id
    go true None = by_kind change.kind
    go true (Some place) = by_kind change.kind
    go false token = refl

pub none_stays : (t : ℤ) (m : ListenResponse) (h : Calls) → open_count t h ≡ 0 → open_count t (came m ∷ h) ≡ 0
none_stays t m h none = go (changes is_remove m t)
  where
    go : (b : Bool) → (if b then open_count t h - 1 else open_count t h) ≡ 0
    go true = omega arith
    go false = none

pub changes_stand : (tokens more : List (List ℕ)) (ws vs : List Watched) (h : Calls) (change : TargetChange) (token : Option ℕ) → AreWatched tokens ws h → KeepsTokens tokens more → HasToken more token change.resume_token → IsEach (λ w v. v ≡ changed change token w) ws vs → AreWatched more vs (came (sent.Target change) ∷ h)
changes_stand tokens more ws vs h change token are keeps brings each =
    each_stands more more ws vs h (came (sent.Target change)) (λ w v. v ≡ changed change token w) (are_more tokens more ws h keeps are) each
    (λ w v becomes is. (ap (λ (u : Watched). u.id) becomes ∙ changed_id change token w, subst (IsWatched more w.id (came (sent.Target change) ∷ h)) (sym becomes) (changed_stands more h change token w brings is)))
    (λ t absent none. none_stays t (sent.Target change) h none)

-- an id that isn't there
pub absent_open : (tokens : List (List ℕ)) (ws slice : List Watched) (h : Calls) (id : ℤ) (i : ℕ) → AreWatched tokens ws h → slice ≡ ws → FitsSigned w32 id → (AreAscending slice → IsPlace slice (to_z w32 (of_z w32 id)) (Err i)) → open_count id h ≡ 0
absent_open tokens ws slice h id i are same fits place = are.others id (not_there ws id i are.ascending (placed ws slice id (Err i) are.ascending same fits place))

pub none_counts : (id : ℤ) (h : Calls) → open_count id h ≡ 0 → counts id h ≡ false
none_counts id h none = go (counts id h) refl
  where
    go : (b : Bool) → counts id h ≡ b → b ≡ false
    go true counted = absurd (let live = counts_live id h counted in let one_open = live.1 in omega arith)
    go false uncounted = refl

pub at_place : (tokens : List (List ℕ)) (ws slice : List Watched) (h : Calls) (id : ℤ) (i : ℕ) (w : Watched) → AreWatched tokens ws h → slice ≡ ws → FitsSigned w32 id → (AreAscending slice → IsPlace slice (to_z w32 (of_z w32 id)) (Ok i)) → w ≡ get_or ws i w → IsWatched tokens id h w
at_place tokens ws slice h id i w are same fits place at =
    let there = placed ws slice id (Ok i) are.ascending same fits place in
    subst (λ t. IsWatched tokens t h w) (ap (λ (v : Watched). v.id) at ∙ there.1 w) (subst (λ (v : Watched). IsWatched tokens v.id h v) (sym at) (are.each i w there.0))
