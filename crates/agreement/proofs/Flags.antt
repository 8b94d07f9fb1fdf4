-- A view's flag says whether it is a snapshot that isn't from the cache.
use Rattle.std.proofs.Common.{◌≡◌, ◌⊎◌, inl, inr, ℕ, Bool, true, false, List, [], ◌∷◌, Option, Some, None, refl, sym, ap, subst, ◌∙◌, arith}
use Rattle.std.specs.Prelude.{is_some, IsSome, IsSomeAnd}
use Rattle.std.specs.List.{Contains}
use Rattle.std.proofs.lemmas.Bool.{cases_lt, true≢false, false≢true}
use Rattle.agreement.specs.Backend.{Key, Keys}
use Rattle.agreement.specs.Entries.{Seal, Seen, Committed, Entry}
use Rattle.agreement.specs.Client.{Client}
use Rattle.agreement.specs.Agrees.{IsAhead, IsTouched, IsSynced}
use Rattle.agreement.specs.Laws.{FlagsTell}

ahead_or_not : (read : ℕ) (seal : Seal) → IsAhead read seal ⊎ (IsAhead read seal → ⊥)
ahead_or_not read Seen = inr (λ never. never)
ahead_or_not read (Committed commit) = elim (cases_lt read commit) [ inl lt ↦ inl lt | inr le ↦ inr (λ lt. omega arith) ]

entry_or_not : (read : ℕ) (entry : Option Entry) → IsSomeAnd entry (λ e. IsAhead read e.seal) ⊎ (IsSomeAnd entry (λ e. IsAhead read e.seal) → ⊥)
entry_or_not read None = inr (λ never. never)
entry_or_not read (Some e) = ahead_or_not read e.seal

touched_or_not : (pending : Key → Bool) (c : Client) (key : Key) → IsTouched pending c key ⊎ (IsTouched pending c key → ⊥)
touched_or_not pending c key = by (pending key) refl
  where
    by : (b : Bool) → pending key ≡ b → IsTouched pending c key ⊎ (IsTouched pending c key → ⊥)
    by true is = inl (inl is)
    by false is = elim (entry_or_not c.read (c.entry key)) [
      | inl ahead ↦ inl (inr ahead)
      | inr not_ahead ↦ inr (λ touched. elim touched [ inl waits ↦ true≢false (sym waits ∙ is) | inr ahead ↦ not_ahead ahead ])
    ]

no_member : (key : Key) (keys : List Key) → keys ≡ [] → Contains keys key → ⊥
no_member key keys none here = let inside : Contains [] key = subst (λ (ks : List Key). Contains ks key) none here in let short = inside.1 in absurd (omega arith)

empty_or_not : (keys : List Key) → ((key : Key) → Contains keys key → ⊥) → keys ≡ []
empty_or_not [] none = refl
empty_or_not (key ∷ keys) none = absurd (none key (0, omega arith, refl))

some_keys : (o : Option Keys) → IsSome o → (keys : Keys) × (o ≡ Some keys)
some_keys None there = absurd (false≢true there)
some_keys (Some keys) there = (keys, refl)

pub flags_tell : FlagsTell
flags_tell s pending c local id shown limbo from_cache view = (fresh, λ synced. view.flag.1 (ap is_some synced.current, empty_or_not limbo (settled synced)))
  where
    fresh : from_cache ≡ false → IsSynced s pending c local id shown
    fresh flag =
        let p = view.flag.0 flag in
        let k = some_keys (c.current id) p.0 in
        record { checked = view.checked; answer = view.answer; keys = k.0; current = k.1; no_limbo = λ key here. by key here k.0 k.1 (k.0 key) refl p.1 }
      where
        by : (key : Key) → Contains shown key → (keys : Keys) → c.current id ≡ Some keys → (b : Bool) → keys key ≡ b → limbo ≡ [] → (keys key ≡ true) ⊎ IsTouched pending c key
        by key here keys current true is none = inl is
        by key here keys current false is none = elim (touched_or_not pending c key) [
          | inl touched ↦ inr touched
          | inr untouched ↦ absurd (no_member key limbo none ((view.limbo_is keys current key).1 (here, is, untouched)))
        ]

    settled : IsSynced s pending c local id shown → (key : Key) → Contains limbo key → ⊥
    settled synced key here =
        let p = (view.limbo_is synced.keys synced.current key).0 here in
        elim (synced.no_limbo key p.0) [ inl has ↦ true≢false (sym has ∙ p.1) | inr touched ↦ p.2 touched ]
