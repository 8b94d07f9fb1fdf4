-- laws of the listens, for the proofs of those who settle them
use Rattle.std.proofs.Common.{◌≡◌, ◌∙◌, ◌↔◌, ℕ, zero, suc, ◌+◌, ◌-◌, ◌%◌, ◌==◌, ◌<◌, ℤ, Bool, true, false, ◌||◌, not, cond, List, [], ◌∷◌, ◌++◌, length, get_or, drop, Option, Some, None, is_some, refl, sym, ap, subst, arith}
use Rattle.std.specs.List.{Contains, filter, list_any}
use Rattle.std.specs.Ordering.{int_eq}
use Rattle.std.proofs.Math.Seq.{drop-append_seam}
use Rattle.std.proofs.lemmas.Bool.Decides.{Decides-int_eq}
use Rattle.std.proofs.lemmas.List.Elements.{Contains-append_left, Contains-append_right}
use Rattle.std.proofs.lemmas.Map.Made.{is_some-lookup}
use Rattle.std.proofs.lemmas.Map.Views.{Contains-from_any}
use Rattle.document_keys.specs.KeySet.{IsAscending}
use Rattle.document_keys.proofs.Exact.{same_keys}
use Rattle.limbo_resolver.specs.Held.{firsts}
use Rattle.limbo_resolver.specs.Laws.{IsSound, Rises}
use Rattle.limbo_resolver.specs.Limbo.{Key, Limbo, ended, has, ids_of, is_odd, kept, key_in, queue, started, updated, without}
use Rattle.limbo_resolver.proofs.Filling.{fills}
use Rattle.limbo_resolver.proofs.Sound.{stay_sound}
use Rattle.limbo_listens.specs.Listens.{AreInLimbo, Listens, Settles, first_limbo}

abbrev Ids : Type 0
Ids = List (ℤ × Key)

-- ---- the ids are those that have a key

or_right : (a b : Bool) → b ≡ true → (a || b) ≡ true
or_right true b e = refl
or_right false b e = e

in_any : (p : ℤ → Bool) (t : ℤ) → p t ≡ true → (xs : List ℤ) (i : ℕ) → i < length xs → get_or xs i t ≡ t → list_any p xs ≡ true
in_any p t fits [] i inside is = absurd (omega (arith, inside))
in_any p t fits (x ∷ xs) zero inside is = ap (λ b. b || list_any p xs) (ap p is ∙ fits)
in_any p t fits (x ∷ xs) (suc i) inside is = or_right (p x) (list_any p xs) (in_any p t fits xs i (omega (arith, inside)) is)

from_any : (t : ℤ) (xs : List ℤ) → list_any (λ other. int_eq other t) xs ≡ true → Contains xs t
from_any t xs = Contains-from_any {eq = λ t other. int_eq other t} (λ t other e. sym ((Decides-int_eq other t).0 e)) t xs

-- the ids of the listens are those that have a key
pub ids_have_keys : (ps : List (ℤ × Key)) (t : ℤ) → Contains (ids_of ps) t ↔ (is_some (key_in ps t) ≡ true)
ids_have_keys ps t =
    let same = is_some-lookup (λ other. int_eq other t) ps in
    (λ there. same ∙ in_any (λ other. int_eq other t) t ((Decides-int_eq t t).1 refl) (ids_of ps) there.0 there.1 there.2, λ some. from_any t (ids_of ps) (sym same ∙ some))

pub ids_of_running : (s : Limbo) (t : ℤ) → Contains (ids_of s.running) t ↔ (is_some (key_in s.running t) ≡ true)
ids_of_running s t = ids_have_keys s.running t

-- ---- a listen that neither ends nor starts stays

-- listens behind others don't change the key of an id that they don't have
behind : (ps qs : Ids) (t : ℤ) → (Contains (ids_of qs) t → ⊥) → key_in (ps ++ qs) t ≡ key_in ps t
behind [] qs t none = go (key_in qs t) refl
  where
    go : (found : Option Key) → key_in qs t ≡ found → key_in qs t ≡ None
    go None e = e
    go (Some key) e = absurd (none ((ids_have_keys qs t).1 (ap is_some e)))
behind (p ∷ ps) qs t none = ap (cond (int_eq p.0 t) (Some p.1)) (behind ps qs t none)

first_id : (x t : ℤ) (xs : List ℤ) → int_eq x t ≡ true → Contains (x ∷ xs) t
first_id x t xs e = (0, omega arith, (Decides-int_eq x t).0 e)

later_id : (x t : ℤ) (xs : List ℤ) → Contains xs t → Contains (x ∷ xs) t
later_id x t xs there = let inside = there.1 in (suc there.0, omega arith, there.2)

-- a filter keeps the key of an id that is none of those that go
filtered : (f : ℤ × Key → Bool) (ps : Ids) (t : ℤ) → (Contains (ids_of (filter (λ p. not (f p)) ps)) t → ⊥) → key_in (filter f ps) t ≡ key_in ps t
filtered f [] t none = refl
filtered f (p ∷ ps) t none = go (f p) (filtered f ps t) none
  where
    rest : Ids
    rest = filter (λ q. not (f q)) ps

    drops : (b : Bool) → int_eq p.0 t ≡ b → ((Contains (ids_of rest) t → ⊥) → key_in (filter f ps) t ≡ key_in ps t) → (Contains (p.0 ∷ ids_of rest) t → ⊥) → key_in (filter f ps) t ≡ cond b (Some p.1) (key_in ps t)
    drops true e same never = absurd (never (first_id p.0 t (ids_of rest) e))
    drops false e same never = same (λ there. never (later_id p.0 t (ids_of rest) there))

    go : (b : Bool) → ((Contains (ids_of rest) t → ⊥) → key_in (filter f ps) t ≡ key_in ps t) → (Contains (ids_of (cond (not b) (p ∷ rest) rest)) t → ⊥) → key_in (cond b (p ∷ filter f ps) (filter f ps)) t ≡ key_in (p ∷ ps) t
    go true same never = ap (cond (int_eq p.0 t) (Some p.1)) (same never)
    go false same never = drops (int_eq p.0 t) refl same never

-- what runs after an update: those that stay, and behind them those that started
pub running_is : (wanted : List Key) (s : Limbo) → (updated wanted s).running ≡ kept wanted s.running ++ started wanted s
running_is wanted s =
    let new = firsts (100 - length (kept wanted s.running)) s.next (queue wanted s) in
    let is = ap (λ (t : Limbo). t.running) (fills (kept wanted s.running) (queue wanted s) s.next (100 - length (kept wanted s.running)) refl) in
    is ∙ ap (λ l. kept wanted s.running ++ l) (sym (ap (drop (length (kept wanted s.running))) is ∙ drop-append_seam (kept wanted s.running) new))

pub running_stays : (wanted : List Key) (s : Limbo) (t : ℤ) → (Contains (ended wanted s.running) t → ⊥) → (Contains (ids_of (started wanted s)) t → ⊥) → key_in (updated wanted s).running t ≡ key_in s.running t
running_stays wanted s t goes comes =
    ap (λ l. key_in l t) (running_is wanted s)
    ∙ behind (kept wanted s.running) (started wanted s) t comes
    ∙ filtered (λ p. has wanted p.1) s.running t goes

-- ---- the keys in limbo are one list

pub wanted_is_one : (listens : Listens) (one other : List Key) → AreInLimbo listens one → AreInLimbo listens other → one ≡ other
wanted_is_one listens one other a b =
    same_keys one other a.ascending b.ascending (λ key. (λ there. (b.each key).1 ((a.each key).0 there), λ there. (a.each key).1 ((b.each key).0 there)))

-- ---- sound listens

pub first_sound : IsSound first_limbo
first_sound = stay_sound.first 1 refl

pub update_sound : (wanted : List Key) (s : Limbo) → IsAscending wanted → IsSound s → IsSound (updated wanted s)
update_sound = stay_sound.update

pub refusal_sound : (id : ℤ) (s : Limbo) → IsSound s → IsSound (record s { running = without s.running id })
refusal_sound = stay_sound.refusal

odd_number : (n : ℕ) → n % 2 ≡ 1 → (n % 2 == 1) ≡ true
odd_number n odd = ap (λ m. m == 1) odd

odd_ids : (low : ℕ) (ps : Ids) (high : ℕ) (t : ℤ) → Rises low ps high → is_some (key_in ps t) ≡ true → is_odd t ≡ true
odd_ids low [] high t rises some = cc
odd_ids low (p ∷ ps) high t rises some = go (int_eq p.0 t) refl (odd_ids (rises.0 + 1) ps high t rises.5) some
  where
    go : (b : Bool) → int_eq p.0 t ≡ b → (is_some (key_in ps t) ≡ true → is_odd t ≡ true) → is_some (cond b (Some p.1) (key_in ps t)) ≡ true → is_odd t ≡ true
    go true e odd some = ap is_odd (sym ((Decides-int_eq p.0 t).0 e) ∙ rises.1) ∙ odd_number rises.0 rises.2
    go false e odd some = odd some

-- each id of a running listen is odd
pub ids_are_odd : (s : Limbo) (t : ℤ) → IsSound s → is_some (key_in s.running t) ≡ true → is_odd t ≡ true
ids_are_odd s t sound some = odd_ids 0 s.running s.next t sound.ids some

-- ---- a settling

pub settled_sound : (old new : Listens) (changed : List ℤ) → Settles old new changed → IsSound old.limbo → IsSound new.limbo
settled_sound old new changed settles sound = subst IsSound (sym settles.limbo) (stay_sound.update settles.wanted old.limbo settles.are.ascending sound)

-- a listen that it doesn't tell of stays
pub settled_stays : (old new : Listens) (changed : List ℤ) (t : ℤ) → Settles old new changed → (Contains changed t → ⊥) → key_in new.limbo.running t ≡ key_in old.limbo.running t
settled_stays old new changed t settles none =
    let gone : List ℤ = ended settles.wanted old.limbo.running in
    let come : List ℤ = ids_of (started settles.wanted old.limbo) in
    ap (λ (s : Limbo). key_in s.running t) settles.limbo
    ∙ running_stays settles.wanted old.limbo t
    (λ there. none (subst (λ l. Contains l t) (sym settles.changed_are) (Contains-append_left gone come t there)))
    (λ there. none (subst (λ l. Contains l t) (sym settles.changed_are) (Contains-append_right gone come t there)))
