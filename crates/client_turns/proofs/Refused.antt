-- the listens of documents in limbo that the backend ended
use Rattle.std.proofs.Common.{◌≡◌, ℕ, ◌+◌, ◌<◌, ℤ, pos, Bool, true, false, ◌&&◌, ◌||◌, not, cond, List, [], ◌∷◌, Some, is_some, if◌then◌else◌, refl, sym, ap, ◌∙◌, arith}
use Rattle.std.proofs.lemmas.Bool.{true≢false}
use Rattle.std.proofs.lemmas.Bool.Decides.{Decides-int_eq}
use Rattle.std.specs.List.{filter}
use Rattle.std.specs.Ordering.{int_eq}
use Rattle.limbo_listens.proofs.Laws.{refusal_sound}
use Rattle.limbo_resolver.specs.Laws.{IsSound, Rises}
use Rattle.limbo_resolver.specs.Limbo.{Key, Limbo, key_in, without}
use Rattle.listen_protocol.specs.Calls.{lists}
use Rattle.client_turns.specs.LimboListens.{without_all}
use Rattle.client_turns.proofs.Lists.{filter_all}

abbrev Listens : Type 0
Listens = List (ℤ × Key)

-- none of the ids from above this one on is it
apart_above : (n low : ℕ) (ps : Listens) (high : ℕ) → n < low → Rises low ps high → filter (λ p. not (int_eq p.0 (pos n))) ps ≡ ps
apart_above n low [] high below r = refl
apart_above n low (p ∷ ps) high below r = go (apart_above n (r.0 + 1) ps high (let bound = r.3 in omega (arith, below, bound)) r.5) (int_eq p.0 (pos n)) refl
  where
    m : ℕ
    m = r.0

    same_numbers : (a b : ℕ) → pos a ≡ pos b → a ≡ b
    same_numbers a b is = cc

    go : filter (λ q. not (int_eq q.0 (pos n))) ps ≡ ps → (b : Bool) → int_eq p.0 (pos n) ≡ b → (if not (int_eq p.0 (pos n)) then p ∷ filter (λ q. not (int_eq q.0 (pos n))) ps else filter (λ q. not (int_eq q.0 (pos n))) ps) ≡ p ∷ ps
    go rest true is =
        let one : m ≡ n = same_numbers m n (sym r.1 ∙ (Decides-int_eq p.0 (pos n)).0 is) in
        let bound = r.3 in
        absurd (omega (arith, one, below, bound))
    go rest false is = ap (λ b. if not b then p ∷ filter (λ q. not (int_eq q.0 (pos n))) ps else filter (λ q. not (int_eq q.0 (pos n))) ps) is ∙ ap (λ l. p ∷ l) rest

-- just the one of the id is left out
without_one : (id : ℤ) (low : ℕ) (ps : Listens) (high : ℕ) → Rises low ps high → without ps id ≡ filter (λ p. not (int_eq p.0 id)) ps
without_one id low [] high r = refl
without_one id low (p ∷ ps) high r = go (without_one id (r.0 + 1) ps high r.5) (int_eq p.0 id) refl
  where
    n : ℕ
    n = r.0

    go : without ps id ≡ filter (λ q. not (int_eq q.0 id)) ps → (b : Bool) → int_eq p.0 id ≡ b → cond (int_eq p.0 id) ps (p ∷ without ps id) ≡ (if not (int_eq p.0 id) then p ∷ filter (λ q. not (int_eq q.0 id)) ps else filter (λ q. not (int_eq q.0 id)) ps)
    go rest true is =
        let at : id ≡ pos n = sym ((Decides-int_eq p.0 id).0 is) ∙ r.1 in
        ap (λ b. cond b ps (p ∷ without ps id)) is
        ∙ sym (ap (λ x. filter (λ q. not (int_eq q.0 x)) ps) at ∙ apart_above n (n + 1) ps high (omega arith) r.5)
        ∙ sym (ap (λ b. if not b then p ∷ filter (λ q. not (int_eq q.0 id)) ps else filter (λ q. not (int_eq q.0 id)) ps) is)
    go rest false is =
        ap (λ b. cond b ps (p ∷ without ps id)) is
        ∙ ap (λ l. p ∷ l) rest
        ∙ sym (ap (λ b. if not b then p ∷ filter (λ q. not (int_eq q.0 id)) ps else filter (λ q. not (int_eq q.0 id)) ps) is)

filter_twice : (f g : ℤ × Key → Bool) (ps : Listens) → filter f (filter g ps) ≡ filter (λ p. g p && f p) ps
filter_twice f g [] = refl
filter_twice f g (p ∷ ps) = go (filter_twice f g ps) (g p) refl (f p) refl
  where
    go : filter f (filter g ps) ≡ filter (λ q. g q && f q) ps → (b : Bool) → g p ≡ b → (c : Bool) → f p ≡ c → filter f (if g p then p ∷ filter g ps else filter g ps) ≡ (if g p && f p then p ∷ filter (λ q. g q && f q) ps else filter (λ q. g q && f q) ps)
    go rest true is true keeps =
        ap (λ b. filter f (if b then p ∷ filter g ps else filter g ps)) is
        ∙ ap (λ b. if b then p ∷ filter f (filter g ps) else filter f (filter g ps)) keeps
        ∙ ap (λ l. p ∷ l) rest
        ∙ sym ((λ i. if is i && keeps i then p ∷ filter (λ q. g q && f q) ps else filter (λ q. g q && f q) ps))
    go rest true is false drops =
        ap (λ b. filter f (if b then p ∷ filter g ps else filter g ps)) is
        ∙ ap (λ b. if b then p ∷ filter f (filter g ps) else filter f (filter g ps)) drops
        ∙ rest
        ∙ sym ((λ i. if is i && drops i then p ∷ filter (λ q. g q && f q) ps else filter (λ q. g q && f q) ps))
    go rest false is c at =
        ap (λ b. filter f (if b then p ∷ filter g ps else filter g ps)) is
        ∙ rest
        ∙ sym (ap (λ b. if b && f p then p ∷ filter (λ q. g q && f q) ps else filter (λ q. g q && f q) ps) is)

turned : (a b : ℤ) → int_eq a b ≡ int_eq b a
turned a b = by (int_eq a b) refl (int_eq b a) refl
  where
    by : (x : Bool) → int_eq a b ≡ x → (y : Bool) → int_eq b a ≡ y → int_eq a b ≡ int_eq b a
    by true one true two = one ∙ sym two
    by true one false two = absurd (true≢false (sym ((Decides-int_eq b a).1 (sym ((Decides-int_eq a b).0 one))) ∙ two))
    by false one true two = absurd (true≢false (sym ((Decides-int_eq a b).1 (sym ((Decides-int_eq b a).0 two))) ∙ one))
    by false one false two = one ∙ sym two

-- the running listens without those of these ids
pub without_ids : (ids : List ℤ) (s : Limbo) → IsSound s → without_all ids s.running ≡ filter (λ p. not (lists ids p.0)) s.running
without_ids [] s sound = sym (filter_all (λ p. not (lists [] p.0)) s.running (λ p. refl))
without_ids (id ∷ ids) s sound =
    without_ids ids (record s { running = without s.running id }) (refusal_sound id s sound)
    ∙ ap (filter (λ p. not (lists ids p.0))) (without_one id 0 s.running s.next sound.ids)
    ∙ filter_twice (λ p. not (lists ids p.0)) (λ p. not (int_eq p.0 id)) s.running
    ∙ (λ i. filter (λ p. same p i) s.running)
  where
    split : (a b : Bool) → (not a && not b) ≡ not (a || b)
    split true b = refl
    split false b = refl

    same : (p : ℤ × Key) → (not (int_eq p.0 id) && not (lists ids p.0)) ≡ not (lists (id ∷ ids) p.0)
    same p = ap (λ b. not b && not (lists ids p.0)) (turned p.0 id) ∙ split (int_eq id p.0) (lists ids p.0)

pub without_sound : (ids : List ℤ) (s : Limbo) → IsSound s → IsSound (record s { running = without_all ids s.running })
without_sound [] s sound = sound
without_sound (id ∷ ids) s sound = without_sound ids (record s { running = without s.running id }) (refusal_sound id s sound)

-- whether a listen is left that isn't among those filtered out
pub running_left : (f : ℤ → Bool) (t : ℤ) (ps : Listens) → is_some (key_in (filter (λ p. not (f p.0)) ps) t) ≡ (not (f t) && is_some (key_in ps t))
running_left f t [] = none (f t)
  where
    none : (b : Bool) → false ≡ (not b && false)
    none true = refl
    none false = refl
running_left f t (p ∷ ps) = go (running_left f t ps) (f p.0) refl (int_eq p.0 t) refl
  where
    go : is_some (key_in (filter (λ q. not (f q.0)) ps) t) ≡ (not (f t) && is_some (key_in ps t)) → (b : Bool) → f p.0 ≡ b → (c : Bool) → int_eq p.0 t ≡ c
        → is_some (key_in (if not (f p.0) then p ∷ filter (λ q. not (f q.0)) ps else filter (λ q. not (f q.0)) ps) t) ≡ (not (f t) && is_some (key_in (p ∷ ps) t))
    go rest true is true same =
        let at : f t ≡ true = ap f (sym ((Decides-int_eq p.0 t).0 same)) ∙ is in
        ap (λ b. is_some (key_in (if not b then p ∷ filter (λ q. not (f q.0)) ps else filter (λ q. not (f q.0)) ps) t)) is ∙ rest
        ∙ ap (λ b. not b && is_some (key_in ps t)) at ∙ sym (ap (λ b. not b && is_some (key_in (p ∷ ps) t)) at)
    go rest true is false other =
        ap (λ b. is_some (key_in (if not b then p ∷ filter (λ q. not (f q.0)) ps else filter (λ q. not (f q.0)) ps) t)) is ∙ rest
        ∙ sym (ap (λ c. not (f t) && is_some (cond c (Some p.1) (key_in ps t))) other)
    go rest false is true same =
        let at : f t ≡ false = ap f (sym ((Decides-int_eq p.0 t).0 same)) ∙ is in
        ap (λ b. is_some (key_in (if not b then p ∷ filter (λ q. not (f q.0)) ps else filter (λ q. not (f q.0)) ps) t)) is
        ∙ ap (λ c. is_some (cond c (Some p.1) (key_in (filter (λ q. not (f q.0)) ps) t))) same
        ∙ sym ((λ i. not (at i) && is_some (cond (same i) (Some p.1) (key_in ps t))))
    go rest false is false other =
        ap (λ b. is_some (key_in (if not b then p ∷ filter (λ q. not (f q.0)) ps else filter (λ q. not (f q.0)) ps) t)) is
        ∙ ap (λ c. is_some (cond c (Some p.1) (key_in (filter (λ q. not (f q.0)) ps) t))) other ∙ rest
        ∙ sym (ap (λ c. not (f t) && is_some (cond c (Some p.1) (key_in ps t))) other)
