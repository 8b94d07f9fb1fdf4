-- rows that are made blank, and what is gathered of their listeners
use Rattle.std.proofs.Common.{◌≡◌, ◌↔◌, ◌⊎◌, ◌<◌, ◌+◌, ⊎_elim, inl, inr, ℕ, ℤ, pos, negsuc, Bool, true, false, IsTrue, ◌||◌, nat_eq, List, [], ◌∷◌, take, length, get_or, Option, Some, None, is_some, option_map, nat_abs, SFits, w32, ◌^◌, if◌then◌else◌, refl, sym, ap, subst, ◌∙◌, arith}
use Rattle.std.specs.BTreeSet.{BTreeSet}
use Rattle.std.specs.Cmp.{nat_cmp_total}
use Rattle.std.specs.List.{All, AllPairs, Contains}
use Rattle.std.proofs.lemmas.Bool.{eqb-true, eqb-false, true≢false}
use Rattle.std.proofs.lemmas.List.{take_more}
use Rattle.std.proofs.lemmas.List.Elements.{All-from_get_or, Contains-get_or, Contains-append_left, Contains-push, Contains-push_cases}
use Rattle.std.proofs.lemmas.Map.Lookups.{exact_unsigned}
use Rattle.std.proofs.lemmas.Map.Views.{btree_set_contains_iff}
use Rattle.std.proofs.Math.Seq.{take-length}
use Rattle.durable_state.specs.Rows.{HasRow, IsHeld}
use Rattle.listen_protocol.specs.Calls.{lists}
use Rattle.listeners.proofs.Ids.{has_it, has_others, only_it}
use Rattle.listeners.specs.Ids.{SetsMember, has_id}
use Rattle.listeners.specs.Table.{Table, target_of}
use Rattle.target_cache.specs.Cache.{IsRow}
use Rattle.target_cache.specs.Kept.{TellsRow}
use Rattle.target_cache.specs.declared.row.Row.{Row}
use Rattle.client_turns.specs.Hearing.{HaveRows, IsAnyHeld}
use Rattle.sync_engine.specs.Standing.{standing_in}
use Rattle.sync_engine.specs.Telling.{AreListenersIn}
use Rattle.sync_engine.specs.declared.watch_stream.WatchStream.{WatchStream}

-- some targets ended, and all else of the stream stays
pub record EndsSome (targets : List ℤ) (old new : WatchStream) : Type 0 where
  pub opening : new.is_open ≡ old.is_open
  pub aggregator : new.aggregator ≡ old.aggregator
  pub online : new.online ≡ old.online
  pub due : new.due ≡ old.due
  pub current : (t : ℤ) → standing_in new.current.targets.items t ≡ (if lists targets t then None else standing_in old.current.targets.items t)

-- ---- sets of ids

-- what is among the items of a set is in it
pub items_only : (s : BTreeSet ℕ) (ids : List ℕ) (id : ℕ) → ids ≡ s.keys → Contains ids id → IsTrue (has_id s id)
items_only s ids id same there = (btree_set_contains_iff nat_cmp_total exact_unsigned s id).1 (subst (λ (l : List ℕ). Contains l id) same there)

-- what is among one item more
pub more_cases : {X : Type 0} (xs : List X) (i : ℕ) (d x : X) → i < length xs → Contains (take (i + 1) xs) x → Contains (take i xs) x ⊎ (get_or xs i d ≡ x)
more_cases xs i d x inside there = ⊎_elim inl inr (Contains-push_cases (take i xs) (get_or xs i d) x (subst (λ (l : List _). Contains l x) (take_more xs i d inside) there))

pub more_left : {X : Type 0} (xs : List X) (i : ℕ) (d x : X) → i < length xs → Contains (take i xs) x → Contains (take (i + 1) xs) x
more_left xs i d x inside there = subst (λ (l : List _). Contains l x) (sym (take_more xs i d inside)) (Contains-append_left (take i xs) (get_or xs i d ∷ []) x there)

pub more_here : {X : Type 0} (xs : List X) (i : ℕ) (d : X) → i < length xs → Contains (take (i + 1) xs) (get_or xs i d)
more_here xs i d inside = subst (λ (l : List _). Contains l (get_or xs i d)) (sym (take_more xs i d inside)) (Contains-push (take i xs) (get_or xs i d))

-- the set has these ids beside those that it had
abbrev pub HasBeside : BTreeSet ℕ → BTreeSet ℕ → List ℕ → Type 0
HasBeside old new ids = (q : ℕ) → IsTrue (has_id new q) ↔ (IsTrue (has_id old q) ⊎ Contains ids q)

pub beside_more : (first old new : BTreeSet ℕ) (ids : List ℕ) (i : ℕ) → i < length ids → HasBeside first old (take i ids) → SetsMember (get_or ids i 0) true old new → HasBeside first new (take (i + 1) ids)
beside_more first old new ids i inside has sets q = (forth, back)
  where
    forth : IsTrue (has_id new q) → IsTrue (has_id first q) ⊎ Contains (take (i + 1) ids) q
    forth now = ⊎_elim
        (λ was. ⊎_elim inl (λ there. inr (more_left ids i 0 q inside there)) ((has q).0 was))
        (λ same. inr (subst (Contains (take (i + 1) ids)) same (more_here ids i 0 inside)))
        (only_it old new (get_or ids i 0) sets q now)

    back : IsTrue (has_id first q) ⊎ Contains (take (i + 1) ids) q → IsTrue (has_id new q)
    back it = ⊎_elim
        (λ was. has_others old new (get_or ids i 0) sets q ((has q).1 (inl was)))
        (λ there. ⊎_elim (λ before. has_others old new (get_or ids i 0) sets q ((has q).1 (inr before))) (λ same. subst (λ n. IsTrue (has_id new n)) same (has_it old new (get_or ids i 0) sets)) (more_cases ids i 0 q inside there))
        it

-- the set has just the listeners of these targets
abbrev pub HasListenersOf : Table → List ℤ → BTreeSet ℕ → Type 0
HasListenersOf table targets s = (q : ℕ) → IsTrue (has_id s q) ↔ ((t : ℤ) × Contains targets t × (target_of table q ≡ Some t))

pub listeners_more : (table : Table) (targets : List ℤ) (i : ℕ) (ids : List ℕ) (old new : BTreeSet ℕ) → i < length targets → HasListenersOf table (take i targets) old → ((q : ℕ) → Contains ids q ↔ (target_of table q ≡ Some (get_or targets i (pos 0)))) → HasBeside old new ids
    → HasListenersOf table (take (i + 1) targets) new
listeners_more table targets i ids old new inside has those beside q = (forth, back)
  where
    forth : IsTrue (has_id new q) → (t : ℤ) × Contains (take (i + 1) targets) t × (target_of table q ≡ Some t)
    forth now = ⊎_elim
        (λ was. let it = (has q).0 was in (it.0, more_left targets i (pos 0) it.0 inside it.1, it.2))
        (λ there. (get_or targets i (pos 0), more_here targets i (pos 0) inside, (those q).0 there))
        ((beside q).0 now)

    back : ((t : ℤ) × Contains (take (i + 1) targets) t × (target_of table q ≡ Some t)) → IsTrue (has_id new q)
    back it = (beside q).1 (⊎_elim
        (λ before. inl ((has q).1 (it.0, before, it.2)))
        (λ same. inr ((those q).1 (it.2 ∙ ap Some (sym same))))
        (more_cases targets i (pos 0) it.0 inside it.1))

pub all_taken : {X : Type 0} (xs : List X) (i : ℕ) → i ≡ length xs → take i xs ≡ xs
all_taken xs i whole = ap (λ n. take n xs) whole ∙ take-length xs

-- ---- conditions

pub if_or : {X : Type 0} (a b : Bool) (x y : X) → (if b then x else if a then x else y) ≡ (if a || b then x else y)
if_or true true x y = refl
if_or true false x y = refl
if_or false true x y = refl
if_or false false x y = refl

pub nat_eq_turned : (a b : ℕ) → nat_eq a b ≡ nat_eq b a
nat_eq_turned a b = by (nat_eq a b) refl (nat_eq b a) refl
  where
    by : (x : Bool) → nat_eq a b ≡ x → (y : Bool) → nat_eq b a ≡ y → nat_eq a b ≡ nat_eq b a
    by true one true two = one ∙ sym two
    by true one false two = absurd (eqb-false b a two (sym (eqb-true a b one)))
    by false one true two = absurd (eqb-false a b one (sym (eqb-true b a two)))
    by false one false two = one ∙ sym two

-- ---- rows

-- one id more
pub none_more : (rows : List Row) (ids : List ℕ) (i : ℕ) → i < length ids → (IsAnyHeld rows (take i ids) → ⊥) → (IsHeld rows (get_or ids i 0) → ⊥) → IsAnyHeld rows (take (i + 1) ids) → ⊥
none_more rows ids i inside none not_here (n, there, held) = ⊎_elim
    (λ before. none (n, before, held))
    (λ same. not_here (subst (IsHeld rows) (sym same) held))
    (more_cases ids i 0 n inside there)

pub none_any : (rows : List Row) (ids : List ℕ) (i : ℕ) → i ≡ length ids → (IsAnyHeld rows (take i ids) → ⊥) → IsTrue false ↔ IsAnyHeld rows ids
none_any rows ids i whole none = (λ so. absurd (true≢false (sym so)), λ it. absurd (none (subst (IsAnyHeld rows) (sym (all_taken ids i whole)) it)))

-- an id without a row holds nothing
pub no_row_held : (told rows : List Row) (id : ℕ) (z : ℤ) → told ≡ rows → z ≡ pos id → ((row : Row) → IsRow told z row → ⊥) → IsTrue false ↔ IsHeld rows id
no_row_held told rows id z same is none = (λ so. absurd (true≢false (sym so)), λ it. absurd (none it.0 (subst (λ (y : ℤ). IsRow told y it.0) (sym is) (subst (λ (l : List Row). IsRow l (pos id) it.0) (sym same) it.1))))

-- whether an id has a row, as it is told
pub row_there : {A : Type 0} (f : A → Row) (rows : List Row) (z : ℤ) (r : Option A) → TellsRow rows z (option_map f r) → is_some r ≡ true → (row : Row) × IsRow rows z row
row_there f rows z None tells is = absurd (true≢false (sym is))
row_there f rows z (Some a) tells is = (f a, tells)

pub row_not_there : {A : Type 0} (f : A → Row) (rows : List Row) (z : ℤ) (r : Option A) → TellsRow rows z (option_map f r) → is_some r ≡ false → (row : Row) → IsRow rows z row → ⊥
row_not_there f rows z None tells is = tells
row_not_there f rows z (Some a) tells is = absurd (true≢false is)

pos_same : (a b : ℕ) → pos a ≡ pos b → a ≡ b
pos_same a b same = cc

-- an id fits 32 bits
pub abs_low : (z : ℤ) → SFits w32 z → nat_abs z < 2 ^ 32
abs_low (pos n) fits = let low = fits.sfits in omega (arith, low)
abs_low (negsuc n) fits = let low = fits.sfits in omega (arith, low)

-- the set has just those of the ids that have a row
abbrev pub HasRowsOf : List Row → List ℤ → BTreeSet ℕ → Type 0
HasRowsOf rows ids s = (n : ℕ) → IsTrue (has_id s n) ↔ (Contains ids (pos n) × HasRow rows n)

-- an id that has a row was put there
pub row_added : {A : Type 0} (f : A → Row) (told rows : List Row) (ids : List ℤ) (i : ℕ) (old new : BTreeSet ℕ) (z : ℤ) (r : Option A) (n : ℕ) → i < length ids → HasRowsOf rows (take i ids) old → told ≡ rows → z ≡ get_or ids i (pos 0) → TellsRow told z (option_map f r)
    → is_some r ≡ true → n ≡ nat_abs z → SetsMember n true old new → HasRowsOf rows (take (i + 1) ids) new
row_added f told rows ids i old new z r n inside has same at tells some is sets m = (forth, back)
  where
    found : (row : Row) × IsRow told z row
    found = row_there f told z r tells some

    of_id : IsRow rows (get_or ids i (pos 0)) found.0
    of_id = subst (λ (y : ℤ). IsRow rows y found.0) at (subst (λ (l : List Row). IsRow l z found.0) same found.1)

    n_at : get_or ids i (pos 0) ≡ pos n
    n_at = of_id.is ∙ ap pos (sym (is ∙ ap nat_abs (at ∙ of_id.is)))

    forth : IsTrue (has_id new m) → Contains (take (i + 1) ids) (pos m) × HasRow rows m
    forth now = ⊎_elim
        (λ was. let both = (has m).0 was in (more_left ids i (pos 0) (pos m) inside both.0, both.1))
        (λ one. (subst (λ (k : ℕ). Contains (take (i + 1) ids) (pos k)) one (subst (Contains (take (i + 1) ids)) n_at (more_here ids i (pos 0) inside)), subst (HasRow rows) one (found.0, subst (λ (y : ℤ). IsRow rows y found.0) n_at of_id)))
        (only_it old new n sets m now)

    back : Contains (take (i + 1) ids) (pos m) × HasRow rows m → IsTrue (has_id new m)
    back both = ⊎_elim
        (λ was. has_others old new n sets m ((has m).1 (was, both.1)))
        (λ one. subst (λ (k : ℕ). IsTrue (has_id new k)) (pos_same n m (sym n_at ∙ one)) (has_it old new n sets))
        (more_cases ids i (pos 0) (pos m) inside both.0)

pub row_passed : {A : Type 0} (f : A → Row) (told rows : List Row) (ids : List ℤ) (i : ℕ) (s : BTreeSet ℕ) (z : ℤ) (r : Option A) → i < length ids → HasRowsOf rows (take i ids) s → told ≡ rows → z ≡ get_or ids i (pos 0) → TellsRow told z (option_map f r)
    → is_some r ≡ false → HasRowsOf rows (take (i + 1) ids) s
row_passed f told rows ids i s z r inside has same at tells none m = (
  λ there. let both = (has m).0 there in (more_left ids i (pos 0) (pos m) inside both.0, both.1),
  λ both. ⊎_elim
      (λ was. (has m).1 (was, both.1))
      (λ one. let row = both.1 in absurd (row_not_there f told z r tells none row.0 (subst (λ (y : ℤ). IsRow told y row.0) (sym one ∙ sym at) (subst (λ (l : List Row). IsRow l (pos m) row.0) (sym same) row.1))))
      (more_cases ids i (pos 0) (pos m) inside both.0),
)

-- an id that fits 32 bits was put there
pub set_low : (old new : BTreeSet ℕ) (n : ℕ) → ((m : ℕ) → IsTrue (has_id old m) → m < 2 ^ 32) → n < 2 ^ 32 → SetsMember n true old new → (m : ℕ) → IsTrue (has_id new m) → m < 2 ^ 32
set_low old new n low here sets m now = ⊎_elim (λ was. low m was) (λ one. subst (λ (k : ℕ). k < 2 ^ 32) one here) (only_it old new n sets m now)

-- the rows in their order
pub rows_are : (rows : List Row) (ids : List ℤ) (i : ℕ) (s : BTreeSet ℕ) (those : List ℕ) → i ≡ length ids → HasRowsOf rows (take i ids) s → AllPairs (λ a b. a < b) those → ((id : ℕ) → IsTrue (has_id s id) → Contains those id) → ((id : ℕ) → Contains those id → IsTrue (has_id s id))
    → HaveRows rows ids those
rows_are rows ids i s those whole has ascending all only =
    let full : HasRowsOf rows ids s = subst (λ (l : List ℤ). HasRowsOf rows l s) (all_taken ids i whole) has in
    record { ascending = ascending; each = λ n. (λ there. (full n).0 (only n there), λ both. all n ((full n).1 both)) }

pub rows_low : (s : BTreeSet ℕ) (those : List ℕ) → ((m : ℕ) → IsTrue (has_id s m) → m < 2 ^ 32) → ((id : ℕ) → Contains those id → IsTrue (has_id s id)) → All (λ n. n < 2 ^ 32) those
rows_low s those low only = All-from_get_or (λ n. n < 2 ^ 32) those 0 (λ k within. low (get_or those k 0) (only (get_or those k 0) (Contains-get_or those k 0 within)))

-- the listeners of targets, in their order
pub are_listeners : (table : Table) (targets : List ℤ) (i : ℕ) (s : BTreeSet ℕ) (ids : List ℕ) → i ≡ length targets → HasListenersOf table (take i targets) s → AllPairs (λ a b. a < b) ids → ((id : ℕ) → IsTrue (has_id s id) → Contains ids id) → ((id : ℕ) → Contains ids id → IsTrue (has_id s id))
    → AreListenersIn table targets ids
are_listeners table targets i s ids whole has ascending all only =
    let full : HasListenersOf table targets s = subst (λ (l : List ℤ). HasListenersOf table l s) (all_taken targets i whole) has in
    record { ascending = ascending; each = λ l. (λ there. (full l).0 (only l there), λ it. all l ((full l).1 it)) }
