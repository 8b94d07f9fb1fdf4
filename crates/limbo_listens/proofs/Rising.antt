-- the ids that a settling answers ascend, and they are few
use Rattle.std.proofs.Common.{◌≡◌, ◌∙◌, ℕ, ◌+◌, ◌≤◌, ◌<◌, ℤ, pos, ◌<ℤ◌, Bool, true, false, T, not, cond, List, [], ◌∷◌, ◌++◌, length, refl, sym, subst, arith}
use Rattle.std.specs.Int.Signed.{lt_z_yes}
use Rattle.std.specs.List.{All, AllPairs, filter}
use Rattle.std.proofs.lemmas.Bool.{lt-ltb}
use Rattle.std.proofs.lemmas.List.{length-drop, length-map, map-append}
use Rattle.std.proofs.lemmas.List.Elements.{All-cons, All-nil}
use Rattle.std.proofs.lemmas.List.Filters.{length-filter_both}
use Rattle.std.proofs.lemmas.List.Kept.{AllPairs-cons}
use Rattle.document_keys.specs.KeySet.{IsAscending}
use Rattle.limbo_resolver.specs.Laws.{IsSound, Rises}
use Rattle.limbo_resolver.specs.Limbo.{Key, Limbo, ended, has, ids_of, kept, started, updated}
use Rattle.limbo_resolver.proofs.Sound.{stay_sound}

abbrev Ids : Type 0
Ids = List (ℤ × Key)

less : (a b : ℕ) → a < b → pos a <ℤ pos b
less a b below = lt_z_yes (subst (λ t. T t) (sym (lt-ltb a b below)) tt)

weaken : (low least : ℕ) (ps : Ids) (high : ℕ) → least ≤ low → Rises low ps high → Rises least ps high
weaken low least [] high under r = omega (arith, under, r)
weaken low least (p ∷ ps) high under r = (r.0, r.1, r.2, omega (arith, under, r.3), r.4, r.5)

filter_rises : (low : ℕ) (f : ℤ × Key → Bool) (ps : Ids) (high : ℕ) → Rises low ps high → Rises low (filter f ps) high
filter_rises low f [] high r = r
filter_rises low f (p ∷ ps) high r = go (f p) (filter_rises (r.0 + 1) f ps high r.5)
  where
    go : (b : Bool) → Rises (r.0 + 1) (filter f ps) high → Rises low (cond b (p ∷ filter f ps) (filter f ps)) high
    go true rest = (r.0, r.1, r.2, r.3, r.4, rest)
    go false rest = weaken (r.0 + 1) low (filter f ps) high (omega (arith, r.3)) rest

append_rises : (low mid high : ℕ) (ps qs : Ids) → Rises low ps mid → Rises mid qs high → Rises low (ps ++ qs) high
append_rises low mid high [] qs r s = weaken mid low qs high r s
append_rises low mid high (p ∷ ps) qs r s = (r.0, r.1, r.2, r.3, r.4, append_rises (r.0 + 1) mid high ps qs r.5 s)

above : (m low : ℕ) (ps : Ids) (high : ℕ) → m < low → Rises low ps high → All (λ y. pos m <ℤ y) (ids_of ps)
above m low [] high under r = All-nil (λ y. pos m <ℤ y)
above m low (p ∷ ps) high under r =
    All-cons (λ y. pos m <ℤ y) p.0 (ids_of ps) (subst (λ z. pos m <ℤ z) (sym r.1) (less m r.0 (omega (arith, under, r.3)))) (above m (r.0 + 1) ps high (omega (arith, under, r.3)) r.5)

ascends : (low : ℕ) (ps : Ids) (high : ℕ) → Rises low ps high → AllPairs ◌<ℤ◌ (ids_of ps)
ascends low [] high r = λ i j d before inside. absurd (omega (arith, inside))
ascends low (p ∷ ps) high r =
    AllPairs-cons ◌<ℤ◌ p.0 (ids_of ps) (subst (λ z. All (λ y. z <ℤ y) (ids_of ps)) (sym r.1) (above r.0 (r.0 + 1) ps high (omega arith) r.5)) (ascends (r.0 + 1) ps high r.5)

module _ (wanted : List Key) (s : Limbo) (ascending : IsAscending wanted) (sound : IsSound s) where
  pub changed_ascend : AllPairs ◌<ℤ◌ (ended wanted s.running ++ ids_of (started wanted s))
  changed_ascend =
      let gone : Ids = filter (λ p. not (has wanted p.1)) s.running in
      subst (AllPairs ◌<ℤ◌) (map-append (λ (p : ℤ × Key). p.0) gone (started wanted s))
      (ascends 0 (gone ++ started wanted s) (updated wanted s).next (append_rises 0 s.next (updated wanted s).next gone (started wanted s) (filter_rises 0 (λ p. not (has wanted p.1)) s.running s.next sound.ids) (stay_sound.fresh wanted s sound)))

  pub few_end : length (ended wanted s.running) ≤ 100
  few_end =
      let gone : Ids = filter (λ p. not (has wanted p.1)) s.running in
      omega (arith, sound.few, length-map gone (λ (p : ℤ × Key). p.0), length-filter_both (λ (p : ℤ × Key). has wanted p.1) (λ p. not (has wanted p.1)) (λ _. refl) s.running)

  pub few_start : length (started wanted s) ≤ 100
  few_start = omega (arith, (stay_sound.update wanted s ascending sound).few, length-drop (length (kept wanted s.running)) (updated wanted s).running)

-- the ids put behind none
pub put_both : (none some all : List ℤ) (ends goes : List ℤ) (starts comes : Ids) → none ≡ [] → some ≡ none ++ ends → all ≡ some ++ ids_of starts → ends ≡ goes → starts ≡ comes → all ≡ goes ++ ids_of comes
put_both none some all ends goes starts comes empty first then gone come = then ∙ (λ i. (first ∙ (λ j. empty j ++ gone j)) i ++ ids_of (come i))
