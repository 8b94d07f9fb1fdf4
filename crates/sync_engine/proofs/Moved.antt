-- the listeners that a point may concern are gathered in a set
use Rattle.std.proofs.Common.{◌≡◌, ⊎_elim, ℕ, ℤ, ◌+◌, ◌<◌, ◌<ℤ◌, Bool, true, false, IsTrue, IsSome, List, [], ◌∷◌, ◌++◌, length, take, get_or, Option, Some, None, if◌then◌else◌, refl, sym, ap, subst, ◌∙◌, arith}
use Rattle.std.specs.BTreeSet.{BTreeSet, Updates}
use Rattle.std.specs.Int.Signed.{<ℤ_irrefl}
use Rattle.std.specs.List.{AllPairs, Contains}
use Rattle.std.specs.Ordering.{int_eq, nat_cmp}
use Rattle.std.proofs.Math.Seq.{take-length}
use Rattle.std.proofs.lemmas.Bool.Decides.{Decides-int_eq}
use Rattle.std.proofs.lemmas.Bool.{true≢false}
use Rattle.std.proofs.lemmas.List.{get_or_append_left, get_or_at, length-append, take_more}
use Rattle.std.proofs.lemmas.List.Elements.{Contains-append_left, Contains-push, Contains-push_cases}
use Rattle.listeners.proofs.Ids.{has_it, has_others}
use Rattle.listeners.specs.Ids.{KeepsMembers, has_id}
use Rattle.listeners.specs.Table.{IsWanted, Table}
use Rattle.watch_aggregator.specs.declared.point.WatchTarget.{WatchTarget}
use Rattle.views.specs.declared.standing.Standing.{Standing}
use Rattle.sync_engine.specs.declared.current.CurrentTarget.{CurrentTarget}
use Rattle.sync_engine.specs.Moving.{AreCurrentOf, IsCurrentAt}
use Rattle.client_turns.specs.Settling.{current_with}
use Rattle.sync_engine.specs.Standing.{standing_in}
use Rattle.client_turns.proofs.Wanted.{first_among, later_among}

-- what was in the set still is, and so is each id that belongs to one of these
pub record HasAll {X : Type 0} (P : X → ℕ → Type 0) (xs : List X) (was now : BTreeSet ℕ) : Type 0 where
  pub kept : KeepsMembers was now
  pub each : (x : X) → Contains xs x → (id : ℕ) → P x id → IsTrue (has_id now id)

pub has_none : {X : Type 0} (P : X → ℕ → Type 0) (s : BTreeSet ℕ) → HasAll P [] s s
has_none P s = record { kept = λ q it. it; each = λ x there id holds. absurd (omega (arith, there.1)) }

pub has_more : {X : Type 0} (P : X → ℕ → Type 0) (xs : List X) (i : ℕ) (x : X) (was old new : BTreeSet ℕ) → i < length xs → x ≡ get_or xs i x → HasAll P (take i xs) was old → KeepsMembers old new → ((id : ℕ) → P x id → IsTrue (has_id new id)) → HasAll P (take (i + 1) xs) was new
has_more {X} P xs i x was old new inside is has keeps adds = record {
  kept = λ q it. keeps q (has.kept q it);
  each = λ y there id holds.
      let grown : take (i + 1) xs ≡ take i xs ++ x ∷ [] = take_more xs i x inside ∙ ap (λ (z : X). take i xs ++ z ∷ []) (sym is) in
      ⊎_elim
      (λ before. keeps id (has.each y before id holds))
      (λ here. adds id (subst (λ (z : X). P z id) (sym here) holds))
      (Contains-push_cases (take i xs) x y (subst (λ (l : List X). Contains l y) grown there));
}

pub has_all : {X : Type 0} (P : X → ℕ → Type 0) (xs : List X) (i : ℕ) (was now : BTreeSet ℕ) → i ≡ length xs → HasAll P (take i xs) was now → HasAll P xs was now
has_all {X} P xs i was now whole has = subst (λ (l : List X). HasAll P l was now) (ap (λ n. take n xs) whole ∙ take-length xs) has

-- a target that is current is among those that are kept as current
pub current_among : (targets : List CurrentTarget) (t : ℤ) → IsSome (standing_in targets t) → (target : CurrentTarget) × Contains targets target × (target.id ≡ t)
current_among [] t some = absurd (true≢false (sym some))
current_among (target ∷ targets) t some = by (current_among targets t) (int_eq target.id t) refl some
  where
    by : (IsSome (standing_in targets t) → (one : CurrentTarget) × Contains targets one × (one.id ≡ t)) → (b : Bool) → int_eq target.id t ≡ b → IsSome (if b then Some target.standing else standing_in targets t) → (one : CurrentTarget) × Contains (target ∷ targets) one × (one.id ≡ t)
    by rest true same so = (target, first_among target targets, (Decides-int_eq target.id t).0 same)
    by rest false other so = let it = rest so in (it.0, later_among target it.0 targets it.1, it.2)

-- an id was put into the set
pub put_more : (ids : List ℕ) (i : ℕ) (id : ℕ) (was old new : BTreeSet ℕ) → i < length ids → id ≡ get_or ids i id → HasAll (λ x q. x ≡ q) (take i ids) was old → Updates nat_cmp old new id true → HasAll (λ x q. x ≡ q) (take (i + 1) ids) was new
put_more ids i id was old new inside is has updates = has_more (λ x q. x ≡ q) ids i id was old new inside is has (has_others old new id updates.0) (λ q same. subst (λ n. IsTrue (has_id new n)) same (has_it old new id updates.0))

-- ---- the targets that are current from a point on

abbrev IsAhead : WatchTarget → WatchTarget → Type 0
IsAhead a b = a.id <ℤ b.id

-- of targets in their order the ones in front are so too, and are before the last one
ahead_front : (done : List WatchTarget) (x : WatchTarget) → AllPairs IsAhead (done ++ x ∷ []) → AllPairs IsAhead done
ahead_front done x pairs i j d less inside =
    let more = length-append done (x ∷ []) in
    subst (λ (a : WatchTarget). a.id <ℤ (get_or done j d).id) (get_or_append_left done (x ∷ []) d i (omega (arith, less, inside)))
    (subst (λ (b : WatchTarget). (get_or (done ++ x ∷ []) i d).id <ℤ b.id) (get_or_append_left done (x ∷ []) d j inside) (pairs i j d less (omega (arith, inside, more))))

ahead_last : (done : List WatchTarget) (x y : WatchTarget) → AllPairs IsAhead (done ++ x ∷ []) → Contains done y → y.id <ℤ x.id
ahead_last done x y pairs there =
    let more = length-append done (x ∷ []) in
    let inside = there.1 in
    subst (λ (a : WatchTarget). a.id <ℤ x.id) (get_or_append_left done (x ∷ []) y there.0 there.1 ∙ there.2)
    (subst (λ (b : WatchTarget). (get_or (done ++ x ∷ []) there.0 y).id <ℤ b.id) (get_or_at done x [] y (length done) refl) (pairs there.0 (length done) y there.1 (omega (arith, inside, more))))

abbrev or_else : Option Standing → Option Standing → Option Standing
or_else None other = other
or_else (Some standing) other = Some standing

-- how a target stands, where one more is current
standing_push : (current : List CurrentTarget) (one : CurrentTarget) (t : ℤ) → standing_in (current ++ one ∷ []) t ≡ or_else (standing_in current t) (if int_eq one.id t then Some one.standing else None)
standing_push [] one t = refl
standing_push (c ∷ current) one t = by (standing_push current one t) (int_eq c.id t)
  where
    by : standing_in (current ++ one ∷ []) t ≡ or_else (standing_in current t) (if int_eq one.id t then Some one.standing else None) → (b : Bool)
        → (if b then Some c.standing else standing_in (current ++ one ∷ []) t) ≡ or_else (if b then Some c.standing else standing_in current t) (if int_eq one.id t then Some one.standing else None)
    by rest true = refl
    by rest false = rest

abbrev pub now_current : WatchTarget → CurrentTarget
now_current x = record { id = x.id; standing = current_with x.told }

-- just those of the targets so far are current that are CURRENT and have a listener
pub record CurrentSoFar (table : Table) (done : List WatchTarget) (current : List CurrentTarget) : Type 0 where
  pub so_far : AllPairs IsAhead done → AreCurrentOf table done current

pub current_none : (table : Table) → CurrentSoFar table [] []
current_none table = record { so_far = λ pairs. record { each = λ target is. absurd (omega (arith, is.one.1)); none = λ t never. refl } }

module _ (table : Table) (done : List WatchTarget) (x : WatchTarget) (current : List CurrentTarget) (it : CurrentSoFar table done current) where
  still : (target : WatchTarget) → IsCurrentAt table done target → IsCurrentAt table (done ++ x ∷ []) target
  still target is = record { one = Contains-append_left done (x ∷ []) target is.one; current = is.current; wanted = is.wanted }

  pub current_left : (IsCurrentAt table (done ++ x ∷ []) x → ⊥) → CurrentSoFar table (done ++ x ∷ []) current
  current_left not_x = record {
    so_far = λ pairs.
        let before = it.so_far (ahead_front done x pairs) in
        record {
          each = λ target is. ⊎_elim
              (λ there. before.each target (record { one = there; current = is.current; wanted = is.wanted }))
              (λ here. absurd (not_x (subst (IsCurrentAt table (done ++ x ∷ [])) (sym here) is)))
              (Contains-push_cases done x target is.one);
          none = λ t never. before.none t (λ target is. never target (still target is));
        };
  }

  pub current_kept : (new : List CurrentTarget) → x.current ≡ true → IsWanted table x.id → new ≡ current ++ now_current x ∷ [] → CurrentSoFar table (done ++ x ∷ []) new
  current_kept new is_current wanted is = subst (CurrentSoFar table (done ++ x ∷ [])) (sym is) (record {
    so_far = λ pairs.
        let before = it.so_far (ahead_front done x pairs) in
        record {
          each = λ target at. ⊎_elim
              (λ there. standing_push current (now_current x) target.id ∙ ap (λ o. or_else o (if int_eq x.id target.id then Some (current_with x.told) else None)) (before.each target (record { one = there; current = at.current; wanted = at.wanted })))
              (λ here. at_it target here (last (before.none x.id (λ target is same. irreflexive (ahead_last done x target pairs is.one) same))))
              (Contains-push_cases done x target at.one);
          none = λ t never. standing_push current (now_current x) t
              ∙ ap (λ o. or_else o (if int_eq x.id t then Some (current_with x.told) else None)) (before.none t (λ target is. never target (still target is)))
              ∙ other t (int_eq x.id t) refl (never x (record { one = Contains-push done x; current = is_current; wanted = wanted }));
        };
  })
    where
      at_it : (target : WatchTarget) → x ≡ target → standing_in (current ++ now_current x ∷ []) x.id ≡ Some (current_with x.told) → standing_in (current ++ now_current x ∷ []) target.id ≡ Some (current_with target.told)
      at_it target same is = ap (λ (z : WatchTarget). standing_in (current ++ now_current x ∷ []) z.id) (sym same) ∙ is ∙ ap (λ (z : WatchTarget). Some (current_with z.told)) same

      last : standing_in current x.id ≡ None → standing_in (current ++ now_current x ∷ []) x.id ≡ Some (current_with x.told)
      last none = standing_push current (now_current x) x.id ∙ ap (λ o. or_else o (if int_eq x.id x.id then Some (current_with x.told) else None)) none ∙ ap (λ b. if b then Some (current_with x.told) else None) ((Decides-int_eq x.id x.id).1 refl)

      irreflexive : {a b : ℤ} → a <ℤ b → a ≡ b → ⊥
      irreflexive {a} {b} less same = <ℤ_irrefl (subst (λ z. z <ℤ b) same less)

      other : (t : ℤ) (b : Bool) → int_eq x.id t ≡ b → (x.id ≡ t → ⊥) → (if b then Some (current_with x.told) else None) ≡ None
      other t true same not_same = absurd (not_same ((Decides-int_eq x.id t).0 same))
      other t false same not_same = refl
