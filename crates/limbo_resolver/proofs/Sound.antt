-- limbo listens stay sound
use Rattle.std.proofs.Common.{◌≡◌, ◌∙◌, ℕ, suc, ◌+◌, ◌-◌, ◌*◌, ◌%◌, ◌≤◌, ℤ, pos, Bool, true, false, ◌&&◌, ◌||◌, not, cond, if◌then◌else◌, List, [], ◌∷◌, ◌++◌, length, drop, refl, sym, ap, subst, append_assoc, arith}
use Rattle.std.specs.Prelude.{nat_lt, nat_le}
use Rattle.std.specs.List.{filter, list_any}
use Rattle.std.specs.Ordering.{int_eq}
use Rattle.std.proofs.lemmas.Bool.{and_parts, ltb-true, leb-true, or_parts}
use Rattle.std.proofs.lemmas.List.{length-append}
use Rattle.std.proofs.lemmas.List.Elements.{filter-append}
use Rattle.std.proofs.lemmas.List.Folds.{list_any-append}
use Rattle.std.proofs.Math.Seq.{drop-append_seam}
use Rattle.document_keys.specs.KeySet.{IsAscending}
use Rattle.limbo_resolver.specs.Held.{firsts}
use Rattle.limbo_resolver.specs.Laws.{AreApart, IsSound, ListensStaySound, Rises}
use Rattle.limbo_resolver.specs.Limbo.{Key, Limbo, filled, has, has_place, held, kept, keys_of, queue, same_key, started, updated, without}
use Rattle.limbo_resolver.proofs.Filling.{apart, fills}
use Rattle.limbo_resolver.proofs.Members.{has_filter, has_is}
use Rattle.limbo_resolver.proofs.Pairs.{keys_kept}

abbrev Listens : Type 0
Listens = List (ℤ × Key)

-- ---- ids

weaken : (low less : ℕ) (ps : Listens) (high : ℕ) → less ≤ low → Rises low ps high → Rises less ps high
weaken low less [] high under r = omega (arith, under, r)
weaken low less (p ∷ ps) high under r = (r.0, r.1, r.2, omega (arith, under, r.3), r.4, r.5)

filter_rises : (low : ℕ) (f : ℤ × Key → Bool) (ps : Listens) (high : ℕ) → Rises low ps high → Rises low (filter f ps) high
filter_rises low f [] high r = r
filter_rises low f (p ∷ ps) high r = go (f p) (filter_rises (r.0 + 1) f ps high r.5)
  where
    go : (b : Bool) → Rises (r.0 + 1) (filter f ps) high → Rises low (cond b (p ∷ filter f ps) (filter f ps)) high
    go true rest = (r.0, r.1, r.2, r.3, r.4, rest)
    go false rest = weaken (r.0 + 1) low (filter f ps) high (omega (arith, r.3)) rest

without_rises : (low : ℕ) (ps : Listens) (high : ℕ) (id : ℤ) → Rises low ps high → Rises low (without ps id) high
without_rises low [] high id r = r
without_rises low (p ∷ ps) high id r = go (int_eq p.0 id) (without_rises (r.0 + 1) ps high id r.5)
  where
    go : (b : Bool) → Rises (r.0 + 1) (without ps id) high → Rises low (cond b ps (p ∷ without ps id)) high
    go true rest = weaken (r.0 + 1) low ps high (omega (arith, r.3)) r.5
    go false rest = (r.0, r.1, r.2, r.3, r.4, rest)

append_rises : (low mid high : ℕ) (ps qs : Listens) → Rises low ps mid → Rises mid qs high → Rises low (ps ++ qs) high
append_rises low mid high [] qs r s = weaken mid low qs high r s
append_rises low mid high (p ∷ ps) qs r s = (r.0, r.1, r.2, r.3, r.4, append_rises (r.0 + 1) mid high ps qs r.5 s)

firsts_rise : (places next : ℕ) (keys : List Key) → next % 2 ≡ 1 → Rises next (firsts places next keys) (next + 2 * length (firsts places next keys))
firsts_rise places next [] odd = omega arith
firsts_rise places next (key ∷ keys) odd = go (nat_lt 0 places && nat_le next 2147483647) refl (firsts_rise (places - 1) (next + 2) keys (omega (arith, odd)))
  where
    more : Listens
    more = firsts (places - 1) (next + 2) keys

    go : (b : Bool) → (nat_lt 0 places && nat_le next 2147483647) ≡ b → Rises (next + 2) more (next + 2 + 2 * length more)
        → Rises next (if b then (pos next, key) ∷ more else []) (next + 2 * length (if b then (pos next, key) ∷ more else []))
    go true place rest =
        let few = leb-true next 2147483647 (and_parts (nat_lt 0 places) (nat_le next 2147483647) place).1 in
        (next, refl, odd, omega arith, few, subst (λ (n : ℕ). Rises (next + 1) more n) (omega arith) (weaken (next + 2) (next + 1) more (next + 2 + 2 * length more) (omega arith) rest))
    go false place rest = omega arith

-- ---- how many run, and the next id

filled_odd : (running : Listens) (keys : List Key) (next : ℕ) → next % 2 ≡ 1 → (filled running keys next).next % 2 ≡ 1
filled_odd running [] next odd = odd
filled_odd running (key ∷ keys) next odd = go (has_place (length running) next) (filled_odd (running ++ (pos next, key) ∷ []) keys (next + 2) (omega (arith, odd)))
  where
    go : (b : Bool) → (filled (running ++ (pos next, key) ∷ []) keys (next + 2)).next % 2 ≡ 1 → (if b then filled (running ++ (pos next, key) ∷ []) keys (next + 2) else record { running = running; waiting = key ∷ keys; next = next }).next % 2 ≡ 1
    go true rest = rest
    go false rest = odd

filled_few : (running : Listens) (keys : List Key) (next : ℕ) → length running ≤ 100 → length (filled running keys next).running ≤ 100
filled_few running [] next few = few
filled_few running (key ∷ keys) next few = go (has_place (length running) next) refl (filled_few (running ++ (pos next, key) ∷ []) keys (next + 2))
  where
    more : Listens
    more = running ++ (pos next, key) ∷ []

    go : (b : Bool) → has_place (length running) next ≡ b → (length more ≤ 100 → length (filled more keys (next + 2)).running ≤ 100)
        → length (if b then filled more keys (next + 2) else record { running = running; waiting = key ∷ keys; next = next }).running ≤ 100
    go true place rest =
        let less = ltb-true (length running) 100 (and_parts (nat_lt (length running) 100) (nat_le next 2147483647) place).0 in
        rest (omega (arith, less, length-append running ((pos next, key) ∷ [])))
    go false place rest = few

filter_few : (f : ℤ × Key → Bool) (ps : Listens) → length (filter f ps) ≤ length ps
filter_few f [] = omega arith
filter_few f (p ∷ ps) = go (f p) (filter_few f ps)
  where
    go : (b : Bool) → length (filter f ps) ≤ length ps → length (cond b (p ∷ filter f ps) (filter f ps)) ≤ suc (length ps)
    go true rest = omega (arith, rest)
    go false rest = omega (arith, rest)

without_few : (ps : Listens) (id : ℤ) → length (without ps id) ≤ length ps
without_few [] id = omega arith
without_few (p ∷ ps) id = go (int_eq p.0 id) (without_few ps id)
  where
    go : (b : Bool) → length (without ps id) ≤ length ps → length (cond b ps (p ∷ without ps id)) ≤ suc (length ps)
    go true rest = omega arith
    go false rest = omega (arith, rest)

-- ---- no key twice

keys_append : (ps qs : Listens) → keys_of (ps ++ qs) ≡ keys_of ps ++ keys_of qs
keys_append [] qs = refl
keys_append (p ∷ ps) qs = ap (λ l. p.1 ∷ l) (keys_append ps qs)

filled_held : (running : Listens) (keys : List Key) (next : ℕ) → held (filled running keys next) ≡ keys_of running ++ keys
filled_held running [] next = refl
filled_held running (key ∷ keys) next = go (has_place (length running) next) (filled_held (running ++ (pos next, key) ∷ []) keys (next + 2))
  where
    more : Limbo
    more = filled (running ++ (pos next, key) ∷ []) keys (next + 2)

    go : (b : Bool) → held more ≡ keys_of (running ++ (pos next, key) ∷ []) ++ keys → held (if b then more else record { running = running; waiting = key ∷ keys; next = next }) ≡ keys_of running ++ key ∷ keys
    go true rest = rest ∙ ap (λ l. l ++ keys) (keys_append running ((pos next, key) ∷ [])) ∙ append_assoc (keys_of running) (key ∷ []) keys
    go false rest = refl

filter_apart : (f : Key → Bool) (keys : List Key) → AreApart keys → AreApart (filter f keys)
filter_apart f [] all = tt
filter_apart f (key ∷ keys) all = go (f key) (filter_apart f keys all.1)
  where
    none : has (filter f keys) key ≡ false
    none = has_filter f keys key ∙ ap (λ b. f key && b) all.0 ∙ by (f key)
      where
        by : (b : Bool) → (b && false) ≡ false
        by true = refl
        by false = refl

    go : (b : Bool) → AreApart (filter f keys) → AreApart (cond b (key ∷ filter f keys) (filter f keys))
    go true rest = (none, rest)
    go false rest = rest

-- none of the first keys is among the others
abbrev AreOther : List Key → List Key → Type 0
AreOther [] others = Unit {0}
AreOther (key ∷ keys) others = (has others key ≡ false) × AreOther keys others

append_apart : (keys others : List Key) → AreApart keys → AreApart others → AreOther keys others → AreApart (keys ++ others)
append_apart [] others all each other = each
append_apart (key ∷ keys) others all each other =
    (list_any-append (same_key key) keys others ∙ rw (all.0, other.0) refl, append_apart keys others all.1 each other.1)

same_self : (key : Key) (keys : List Key) → has (key ∷ keys) key ≡ true
same_self key keys = sym (has_is (key ∷ keys) key true (λ yes. (0, omega arith, refl), λ there. refl))

or_later : (a b : Bool) → b ≡ true → (a || b) ≡ true
or_later true b later = refl
or_later false b later = later

-- what is new was not held
new_others : (all wanted keys : List Key) → ((k : Key) → has keys k ≡ true → has all k ≡ true) → AreOther keys (filter (λ key. not (has all key)) wanted)
new_others all wanted [] among = tt
new_others all wanted (key ∷ keys) among =
    let there = among key (same_self key keys) in
    (has_filter (λ k. not (has all k)) wanted key ∙ rw there refl, new_others all wanted keys (λ k later. among k (or_later (same_key k key) (has keys k) later)))

kept_among : (f : Key → Bool) (keys : List Key) (k : Key) → has (filter f keys) k ≡ true → has keys k ≡ true
kept_among f keys k there = go (f k) (sym (has_filter f keys k) ∙ there)
  where
    go : (b : Bool) → (b && has keys k) ≡ true → has keys k ≡ true
    go true both = both
    go false both = absurd cc

held_line : (wanted : List Key) (s : Limbo) → keys_of (kept wanted s.running) ++ queue wanted s ≡ filter (has wanted) (held s) ++ filter (λ key. not (has (held s) key)) wanted
held_line wanted s =
    sym (append_assoc (keys_of (kept wanted s.running)) (filter (has wanted) s.waiting) (filter (λ key. not (has (held s) key)) wanted))
    ∙ ap (λ l. l ++ filter (λ key. not (has (held s) key)) wanted)
    (ap (λ l. l ++ filter (has wanted) s.waiting) (sym (keys_kept wanted s.running)) ∙ sym (filter-append (has wanted) (keys_of s.running) s.waiting))

updated_apart : (wanted : List Key) (s : Limbo) → IsAscending wanted → AreApart (held s) → AreApart (held (updated wanted s))
updated_apart wanted s ascending all =
    subst AreApart (sym (filled_held (kept wanted s.running) (queue wanted s) s.next ∙ held_line wanted s))
    (append_apart (filter (has wanted) (held s)) (filter (λ key. not (has (held s) key)) wanted) (filter_apart (has wanted) (held s) all) (filter_apart (λ key. not (has (held s) key)) wanted (apart wanted ascending))
    (new_others (held s) wanted (filter (has wanted) (held s)) (kept_among (has wanted) (held s))))

-- without one listen
less_held : (ps : Listens) (id : ℤ) (more : List Key) (k : Key) → has (keys_of ps ++ more) k ≡ false → has (keys_of (without ps id) ++ more) k ≡ false
less_held [] id more k none = none
less_held (p ∷ ps) id more k none =
    let both = or_parts (same_key k p.1) (has (keys_of ps ++ more) k) none in
    go (int_eq p.0 id) both.0 both.1 (less_held ps id more k both.1)
  where
    go : (b : Bool) → same_key k p.1 ≡ false → has (keys_of ps ++ more) k ≡ false → has (keys_of (without ps id) ++ more) k ≡ false → has (keys_of (cond b ps (p ∷ without ps id)) ++ more) k ≡ false
    go true first later rest = later
    go false first later rest = rw first rest

without_apart : (ps : Listens) (id : ℤ) (more : List Key) → AreApart (keys_of ps ++ more) → AreApart (keys_of (without ps id) ++ more)
without_apart [] id more all = all
without_apart (p ∷ ps) id more all = go (int_eq p.0 id) (without_apart ps id more all.1)
  where
    go : (b : Bool) → AreApart (keys_of (without ps id) ++ more) → AreApart (keys_of (cond b ps (p ∷ without ps id)) ++ more)
    go true rest = all.1
    go false rest = (less_held ps id more p.1 all.0, rest)

-- ---- the law

started_is : (wanted : List Key) (s : Limbo) → started wanted s ≡ firsts (100 - length (kept wanted s.running)) s.next (queue wanted s)
started_is wanted s =
    let new = firsts (100 - length (kept wanted s.running)) s.next (queue wanted s) in
    ap (λ (t : Limbo). drop (length (kept wanted s.running)) t.running) (fills (kept wanted s.running) (queue wanted s) s.next (100 - length (kept wanted s.running)) refl)
    ∙ drop-append_seam (kept wanted s.running) new

next_is : (wanted : List Key) (s : Limbo) → (updated wanted s).next ≡ s.next + 2 * length (firsts (100 - length (kept wanted s.running)) s.next (queue wanted s))
next_is wanted s = ap (λ (t : Limbo). t.next) (fills (kept wanted s.running) (queue wanted s) s.next (100 - length (kept wanted s.running)) refl)

running_is : (wanted : List Key) (s : Limbo) → (updated wanted s).running ≡ kept wanted s.running ++ firsts (100 - length (kept wanted s.running)) s.next (queue wanted s)
running_is wanted s = ap (λ (t : Limbo). t.running) (fills (kept wanted s.running) (queue wanted s) s.next (100 - length (kept wanted s.running)) refl)

fresh_ids : (wanted : List Key) (s : Limbo) → IsSound s → Rises s.next (started wanted s) (updated wanted s).next
fresh_ids wanted s sound =
    rw (started_is wanted s, next_is wanted s) (firsts_rise (100 - length (kept wanted s.running)) s.next (queue wanted s) sound.odd)

updated_sound : (wanted : List Key) (s : Limbo) → IsAscending wanted → IsSound s → IsSound (updated wanted s)
updated_sound wanted s ascending sound = record {
  odd = filled_odd (kept wanted s.running) (queue wanted s) s.next sound.odd;
  ids = rw (running_is wanted s, next_is wanted s)
      (append_rises 0 s.next _ (kept wanted s.running) _ (filter_rises 0 (λ p. has wanted p.1) s.running s.next sound.ids) (firsts_rise (100 - length (kept wanted s.running)) s.next (queue wanted s) sound.odd));
  few = filled_few (kept wanted s.running) (queue wanted s) s.next (omega (arith, sound.few, filter_few (λ p. has wanted p.1) s.running));
  apart = updated_apart wanted s ascending sound.apart;
}

pub stay_sound : ListensStaySound
stay_sound = record {
  first = λ first odd. record { odd = odd; ids = omega arith; few = omega arith; apart = tt };
  update = updated_sound;
  refusal = λ id s sound. record {
    odd = sound.odd;
    ids = without_rises 0 s.running s.next id sound.ids;
    few = omega (arith, sound.few, without_few s.running id);
    apart = without_apart s.running id s.waiting sound.apart;
  };
  fresh = fresh_ids;
}
