-- how the listeners are refreshed, one after another
use Rattle.std.proofs.Common.{◌≡◌, ◌⊎◌, ⊎_elim, inl, inr, ℕ, ◌+◌, ◌<◌, ◌≤◌, Bool, true, false, nat_eq, List, [], ◌∷◌, ◌++◌, map as each, length, take, Option, Some, None, is_some, IfSome, if◌then◌else◌, refl, sym, ap, subst, ◌∙◌, arith, get_or}
use Rattle.std.specs.List.{All, AllPairs, Contains, list_any}
use Rattle.std.proofs.lemmas.Bool.{eqb-true, eq-eqb, eqb-false, true≢false}
use Rattle.std.proofs.lemmas.Option.{none-some}
use Rattle.std.proofs.lemmas.List.{take_more, append-nil, append_assoc, get_or-take, length-take-le, map-append}
use Rattle.std.proofs.lemmas.List.Quantifiers.{all_pairs_push}
use Rattle.std.proofs.Math.Seq.{take-length}
use Rattle.std.proofs.lemmas.List.Elements.{All-nil, All-cons, All-head, All-tail, All-weaker, All-append, All-contains, All-from_get_or, All-get_or, Contains-append_left, Contains-push, Contains-push_cases}
use Rattle.document_keys.specs.Names.{Root}
use Rattle.limbo_resolver.specs.Limbo.{Key}
use Rattle.listeners.specs.Table.{viewed}
use Rattle.local_store.specs.State.{State}
use Rattle.local_store.specs.Store.{Store}
use Rattle.views.specs.Viewed.{Viewed}
use Rattle.views.specs.declared.raised.Raised.{Raised}
use Rattle.client_turns.specs.Lines.{Told}
use Rattle.client_turns.specs.Past.{told}
use Rattle.client_turns.specs.Settling.{IsBelow, ShowsAt, Stance, stance_by, told_to}
use Rattle.sync_engine.specs.Standing.{Kept, IsQuiet, limbo_in, stance_in, standing_in}
use Rattle.sync_engine.specs.Telling.{IsQuietOrAmong, KeepsRest, Raises, ShowsOne}
use Rattle.sync_engine.specs.declared.out.Out.{Out}
use Rattle.sync_engine.specs.declared.out.Out.TheVariants.{Raised as RaisedBy}
use Rattle.client_turns.proofs.Among.{among_any, any_among}
use Rattle.sync_engine.proofs.Quiet.{quiet_shows_at}

-- the listeners of these ids were refreshed; `ts` is what they raised, and no other listener changed
pub record Settling (old now : Kept) (before outs : List Out) (ids : List ℕ) (done : ℕ) : Type 0 where
  pub ts : List Told
  pub rest : KeepsRest old now
  pub outs_are : outs ≡ before ++ each (λ (t : Told). RaisedBy t.id) ts
  pub ascending : AllPairs IsBelow ts
  pub among : All (λ (t : Told). Contains (take done ids) t.id) ts
  pub views : (id : ℕ) → viewed now.listeners id ≡ told (told_to id ts) (viewed old.listeners id)
  pub shown : (id : ℕ) → Contains (take done ids) id → ShowsAt old.root old.store.state (stance_in old id) (viewed old.listeners id) (told_to id ts)
  pub quiet : (id : ℕ) → Contains (take done ids) id → IfSome (viewed now.listeners id) (IsQuiet old.root old.store.state (stance_in old id) (limbo_in now id))
  pub unshown : (id : ℕ) → viewed old.listeners id ≡ None → limbo_in now id ≡ limbo_in old id
  pub same_limbo : (id : ℕ) → (Contains (take done ids) id → ⊥) → limbo_in now id ≡ limbo_in old id

pub keeps_then : {old mid new : Kept} → KeepsRest old mid → KeepsRest mid new → KeepsRest old new
keeps_then first second = record {
  root = second.root ∙ first.root;
  store = second.store ∙ first.store;
  targets = λ id. second.targets id ∙ first.targets id;
  limbo = second.limbo ∙ first.limbo;
  watch = second.watch ∙ first.watch;
  writes = second.writes ∙ first.writes;
  spent = second.spent ∙ first.spent;
}

-- the targets of listeners stand as before
pub stance_rest : {old new : Kept} → KeepsRest old new → (id : ℕ) → stance_in new id ≡ stance_in old id
stance_rest rest id = λ i. stance_by (rest.targets id i) (standing_in (rest.watch i).current.targets.items) (rest.watch i).online

told_none : (v : Option Viewed) → told None v ≡ v
told_none v = refl

nothing_among : {X : Type 0} {x : X} → Contains [] x → ⊥
nothing_among it = absurd (omega (arith, it.1))

pub none_settled : (old : Kept) (outs : List Out) (ids : List ℕ) → Settling old old outs outs ids 0
none_settled old outs ids = record {
  ts = [];
  rest = record { root = refl; store = refl; targets = λ id. refl; limbo = refl; watch = refl; writes = refl; spent = refl };
  outs_are = sym (append-nil outs);
  ascending = λ i j d less inside. absurd (omega (arith, inside));
  among = All-nil (λ (t : Told). Contains (take 0 ids) t.id);
  views = λ id. refl;
  shown = λ id among. absurd (nothing_among among);
  quiet = λ id among. absurd (nothing_among among);
  unshown = λ id none. refl;
  same_limbo = λ id never. refl;
}

-- ---- one snapshot more, or none

abbrev entry : ℕ → Option Raised → List Told
entry x None = []
entry x (Some raised) = record { id = x; raised = raised } ∷ []

told_behind : (n : ℕ) (ts : List Told) (t : Told) → told_to n ts ≡ None → told_to n (ts ++ t ∷ []) ≡ told_to n (t ∷ [])
told_behind n [] t none = refl
told_behind n (u ∷ ts) t none = go (told_behind n ts t) (nat_eq u.id n) none
  where
    go : (told_to n ts ≡ None → told_to n (ts ++ t ∷ []) ≡ told_to n (t ∷ [])) → (b : Bool) → (if b then Some u.raised else told_to n ts) ≡ None → (if b then Some u.raised else told_to n (ts ++ t ∷ [])) ≡ told_to n (t ∷ [])
    go rest true is = absurd (none-some u.raised (sym is))
    go rest false is = rest is

told_apart : (n : ℕ) (ts : List Told) (t : Told) → (t.id ≡ n → ⊥) → told_to n (ts ++ t ∷ []) ≡ told_to n ts
told_apart n [] t other = go (nat_eq t.id n) refl
  where
    go : (b : Bool) → nat_eq t.id n ≡ b → (if b then Some t.raised else None) ≡ None
    go true is = absurd (other (eqb-true t.id n is))
    go false is = refl
told_apart n (u ∷ ts) t other = ap (λ o. if nat_eq u.id n then Some u.raised else o) (told_apart n ts t other)

told_here : (x : ℕ) (r : Option Raised) (ts : List Told) → told_to x ts ≡ None → told_to x (ts ++ entry x r) ≡ r
told_here x None ts none = ap (told_to x) (append-nil ts) ∙ none
told_here x (Some raised) ts none = told_behind x ts (record { id = x; raised = raised }) none ∙ ap (λ b. if b then Some raised else None) (eq-eqb x x refl)

told_other : (n x : ℕ) (r : Option Raised) (ts : List Told) → (x ≡ n → ⊥) → told_to n (ts ++ entry x r) ≡ told_to n ts
told_other n x None ts other = ap (told_to n) (append-nil ts)
told_other n x (Some raised) ts other = told_apart n ts (record { id = x; raised = raised }) other

-- who isn't among the ids of the snapshots has none
untold : (n : ℕ) (ts : List Told) → All (λ (t : Told). t.id < n) ts → told_to n ts ≡ None
untold n [] all = refl
untold n (t ∷ ts) all = go (untold n ts (All-tail (λ (x : Told). x.id < n) t ts all)) (nat_eq t.id n) refl
  where
    go : told_to n ts ≡ None → (b : Bool) → nat_eq t.id n ≡ b → (if b then Some t.raised else told_to n ts) ≡ None
    go rest true is = let same = eqb-true t.id n is in let less : t.id < n = All-head (λ (x : Told). x.id < n) t ts all in absurd (omega (arith, same, less))
    go rest false is = rest

told_among : (n : ℕ) (ids : List ℕ) (ts : List Told) (r : Raised) → All (λ (t : Told). Contains ids t.id) ts → told_to n ts ≡ Some r → Contains ids n
told_among n ids [] r all is = absurd (none-some r is)
told_among n ids (t ∷ ts) r all is = go (told_among n ids ts r (All-tail (λ (x : Told). Contains ids x.id) t ts all)) (nat_eq t.id n) refl is
  where
    go : (told_to n ts ≡ Some r → Contains ids n) → (b : Bool) → nat_eq t.id n ≡ b → (if b then Some t.raised else told_to n ts) ≡ Some r → Contains ids n
    go rest true same is = subst (Contains ids) (eqb-true t.id n same) (All-head (λ (x : Told). Contains ids x.id) t ts all)
    go rest false same is = rest is

pairs_more : (x : ℕ) (r : Option Raised) (ts : List Told) → AllPairs IsBelow ts → All (λ (t : Told). t.id < x) ts → AllPairs IsBelow (ts ++ entry x r)
pairs_more x None ts pairs below = subst (AllPairs IsBelow) (sym (append-nil ts)) pairs
pairs_more x (Some raised) ts pairs below = all_pairs_push IsBelow ts (record { id = x; raised = raised }) pairs (λ k d inside. All-get_or (λ (t : Told). t.id < x) ts k d inside below)

all_more : (P : Told → Type 0) (x : ℕ) (r : Option Raised) (ts : List Told) → All P ts → ((raised : Raised) → P (record { id = x; raised = raised })) → All P (ts ++ entry x r)
all_more P x None ts all one = subst (All P) (sym (append-nil ts)) all
all_more P x (Some raised) ts all one = All-append P ts (entry x (Some raised)) all (All-cons P (record { id = x; raised = raised }) [] (one raised) (All-nil P))

abbrev outs_of : List Told → List Out
outs_of ts = each (λ (t : Told). RaisedBy t.id) ts

outs_more : (before outs after : List Out) (ts us : List Told) → outs ≡ before ++ outs_of ts → after ≡ outs ++ outs_of us → after ≡ before ++ outs_of (ts ++ us)
outs_more before outs after ts us was is = is ∙ ap (λ o. o ++ outs_of us) was ∙ append_assoc before (outs_of ts) (outs_of us) ∙ ap (λ o. before ++ o) (sym (map-append (λ (t : Told). RaisedBy t.id) ts us))

module _ (old now new : Kept) (before outs after : List Out) (ids : List ℕ) (done x : ℕ) (is_raised : Bool)
    (ascending : AllPairs (λ a b. a < b) ids) (inside : done < length ids) (at : x ≡ get_or ids done x)
    (it : Settling old now before outs ids done) (one : ShowsOne x now new is_raised) (kept : KeepsRest now new) where
  grown : take (done + 1) ids ≡ take done ids ++ x ∷ []
  grown = take_more ids done x inside ∙ ap (λ y. take done ids ++ y ∷ []) (sym at)

  -- an id that was refreshed before is lower
  lowers : All (λ (n : ℕ). n < x) (take done ids)
  lowers = All-from_get_or (λ (n : ℕ). n < x) (take done ids) x (λ i within.
      let few : done ≤ length ids = omega (arith, inside) in
      let short : i < done = omega (arith, within, length-take-le done ids few) in
      subst (λ (y : ℕ). y < x) (sym (get_or-take done ids i x short)) (subst (λ (y : ℕ). get_or ids i x < y) (sym at) (ascending i done x short inside)))

  lower : (n : ℕ) → Contains (take done ids) n → n < x
  lower n among = All-contains (λ (m : ℕ). m < x) (take done ids) n lowers among

  below : All (λ (t : Told). t.id < x) it.ts
  below = All-weaker (λ (t : Told). Contains (take done ids) t.id) (λ (t : Told). t.id < x) (λ t among. lower t.id among) it.ts it.among

  fresh : told_to x it.ts ≡ None
  fresh = untold x it.ts below

  was : viewed now.listeners x ≡ viewed old.listeners x
  was = it.views x ∙ ap (λ r. told r (viewed old.listeners x)) fresh

  abbrev all_ts : List Told
  all_ts = it.ts ++ entry x one.raised

  more_views : (id : ℕ) (b : Bool) → nat_eq x id ≡ b → viewed new.listeners id ≡ told (told_to id all_ts) (viewed old.listeners id)
  more_views id true is =
      subst (λ (n : ℕ). viewed new.listeners n ≡ told (told_to n all_ts) (viewed old.listeners n)) (eqb-true x id is)
      (one.same ∙ ap (told one.raised) was ∙ ap (λ r. told r (viewed old.listeners x)) (sym (told_here x one.raised it.ts fresh)))
  more_views id false is =
      let apart : x ≡ id → ⊥ = eqb-false x id is in
      one.others id (λ same. apart (sym same)) ∙ it.views id ∙ ap (λ r. told r (viewed old.listeners id)) (sym (told_other id x one.raised it.ts apart))

  shown_here : ShowsAt old.root old.store.state (stance_in old x) (viewed old.listeners x) (told_to x all_ts)
  shown_here =
      subst (ShowsAt old.root old.store.state (stance_in old x) (viewed old.listeners x)) (sym (told_here x one.raised it.ts fresh))
      (subst (λ (k : Stance). ShowsAt old.root old.store.state k (viewed old.listeners x) one.raised) (stance_rest it.rest x)
      (subst (λ (v : Option Viewed). ShowsAt old.root old.store.state (stance_in now x) v one.raised) was
      (subst (λ (s : State). ShowsAt old.root s (stance_in now x) (viewed now.listeners x) one.raised) (ap (λ (s : Store). s.state) it.rest.store)
      (subst (λ (root : Root). ShowsAt root now.store.state (stance_in now x) (viewed now.listeners x) one.raised) it.rest.root one.shows))))

  more_shown : (id : ℕ) → Contains (take done ids) id ⊎ (x ≡ id) → ShowsAt old.root old.store.state (stance_in old id) (viewed old.listeners id) (told_to id all_ts)
  more_shown id (inl among) =
      let less = lower id among in
      subst (ShowsAt old.root old.store.state (stance_in old id) (viewed old.listeners id)) (sym (told_other id x one.raised it.ts (λ same. absurd (omega (arith, less, same))))) (it.shown id among)
  more_shown id (inr same) = subst (λ (n : ℕ). ShowsAt old.root old.store.state (stance_in old n) (viewed old.listeners n) (told_to n all_ts)) same shown_here

  quiet_here : IfSome (viewed new.listeners x) (IsQuiet old.root old.store.state (stance_in old x) (limbo_in new x))
  quiet_here =
      subst (λ (k : Stance). IfSome (viewed new.listeners x) (IsQuiet old.root old.store.state k (limbo_in new x))) (stance_rest it.rest x)
      (subst (λ (s : State). IfSome (viewed new.listeners x) (IsQuiet old.root s (stance_in now x) (limbo_in new x))) (ap (λ (s : Store). s.state) it.rest.store)
      (subst (λ (root : Root). IfSome (viewed new.listeners x) (IsQuiet root now.store.state (stance_in now x) (limbo_in new x))) it.rest.root one.quiet))

  more_quiet : (id : ℕ) → Contains (take done ids) id ⊎ (x ≡ id) → IfSome (viewed new.listeners id) (IsQuiet old.root old.store.state (stance_in old id) (limbo_in new id))
  more_quiet id (inl among) =
      let less = lower id among in
      let other : id ≡ x → ⊥ = λ same. absurd (omega (arith, less, same)) in
      subst (λ (keys : List Key). IfSome (viewed new.listeners id) (IsQuiet old.root old.store.state (stance_in old id) keys)) (sym (one.same_limbo id other))
      (subst (λ (v : Option Viewed). IfSome v (IsQuiet old.root old.store.state (stance_in old id) (limbo_in now id))) (sym (one.others id other)) (it.quiet id among))
  more_quiet id (inr same) = subst (λ (n : ℕ). IfSome (viewed new.listeners n) (IsQuiet old.root old.store.state (stance_in old n) (limbo_in new n))) same quiet_here

  -- who is no listener keeps what it has in limbo, and who isn't refreshed
  more_unshown : (id : ℕ) → viewed old.listeners id ≡ None → (b : Bool) → nat_eq x id ≡ b → limbo_in new id ≡ limbo_in old id
  more_unshown id none true is =
      let same : x ≡ id = eqb-true x id is in
      subst (λ (n : ℕ). limbo_in new n ≡ limbo_in now n) same (one.unshown (was ∙ subst (λ (n : ℕ). viewed old.listeners n ≡ None) (sym same) none)) ∙ it.unshown id none
  more_unshown id none false is = one.same_limbo id (λ same. eqb-false x id is (sym same)) ∙ it.unshown id none

  more_same : (id : ℕ) → (Contains (take (done + 1) ids) id → ⊥) → limbo_in new id ≡ limbo_in old id
  more_same id never =
      let unlisted : Contains (take done ids ++ x ∷ []) id → ⊥ = λ among. never (subst (λ (l : List ℕ). Contains l id) (sym grown) among) in
      one.same_limbo id (λ same. unlisted (subst (Contains (take done ids ++ x ∷ [])) (sym same) (Contains-push (take done ids) x)))
      ∙ it.same_limbo id (λ among. unlisted (Contains-append_left (take done ids) (x ∷ []) id among))

  pub settled_more : after ≡ outs ++ outs_of (entry x one.raised) → Settling old new before after ids (done + 1)
  settled_more is = record {
    ts = all_ts;
    rest = keeps_then it.rest kept;
    outs_are = outs_more before outs after it.ts (entry x one.raised) it.outs_are is;
    ascending = pairs_more x one.raised it.ts it.ascending below;
    among = subst (λ (l : List ℕ). All (λ (t : Told). Contains l t.id) all_ts) (sym grown)
        (all_more (λ (t : Told). Contains (take done ids ++ x ∷ []) t.id) x one.raised it.ts
        (All-weaker (λ (t : Told). Contains (take done ids) t.id) (λ (t : Told). Contains (take done ids ++ x ∷ []) t.id) (λ t among. Contains-append_left (take done ids) (x ∷ []) t.id among) it.ts it.among)
        (λ raised. Contains-push (take done ids) x));
    views = λ id. more_views id (nat_eq x id) refl;
    shown = λ id among. more_shown id (Contains-push_cases (take done ids) x id (subst (λ (l : List ℕ). Contains l id) grown among));
    quiet = λ id among. more_quiet id (Contains-push_cases (take done ids) x id (subst (λ (l : List ℕ). Contains l id) grown among));
    unshown = λ id none. more_unshown id none (nat_eq x id) refl;
    same_limbo = more_same;
  }

  pub settled_raised : is_raised ≡ true → after ≡ outs ++ RaisedBy x ∷ [] → Settling old new before after ids (done + 1)
  settled_raised is pushed = settled_more (pushed ∙ ap (λ o. outs ++ o) (sym (raised_out one.raised (sym one.is ∙ is))))
    where
      raised_out : (r : Option Raised) → is_some r ≡ true → outs_of (entry x r) ≡ RaisedBy x ∷ []
      raised_out None is = cc
      raised_out (Some raised) is = refl

  pub settled_quiet : is_raised ≡ false → after ≡ outs → Settling old new before after ids (done + 1)
  settled_quiet is same = settled_more (same ∙ sym (append-nil outs) ∙ ap (λ o. outs ++ o) (sym (no_out one.raised (sym one.is ∙ is))))
    where
      no_out : (r : Option Raised) → is_some r ≡ false → outs_of (entry x r) ≡ []
      no_out None is = refl
      no_out (Some raised) is = cc

-- ---- all of them

pub all_settled : {old now : Kept} {before outs : List Out} {ids : List ℕ} {done : ℕ} → done ≡ length ids → IsQuietOrAmong ids old → Settling old now before outs ids done → Raises old now before outs
all_settled {old} {now} {before} {outs} {ids} {done} whole others it = record {
  told = it.ts;
  settles = record { ascending = it.ascending; each = λ id. each_shows id (told_to id it.ts) refl (viewed old.listeners id) refl };
  outs = it.outs_are;
  listeners = it.views;
  quiet = λ id. each_quiet id (viewed old.listeners id) refl;
  unshown = it.unshown;
}
  where
    all_ids : take done ids ≡ ids
    all_ids = ap (λ n. take n ids) whole ∙ take-length ids

    in_front : (id : ℕ) → Contains ids id → Contains (take done ids) id
    in_front id among = subst (λ (l : List ℕ). Contains l id) (sym all_ids) among

    each_shows : (id : ℕ) (r : Option Raised) → told_to id it.ts ≡ r → (v : Option Viewed) → viewed old.listeners id ≡ v → ShowsAt old.root old.store.state (stance_in old id) (viewed old.listeners id) (told_to id it.ts)
    each_shows id (Some r) is v there = it.shown id (told_among id (take done ids) it.ts r it.among is)
    each_shows id None is None there = subst (λ (v : Option Viewed). ShowsAt old.root old.store.state (stance_in old id) v (told_to id it.ts)) (sym there) is
    each_shows id None is (Some view) there = ⊎_elim
        (λ among. it.shown id (in_front id among))
        (λ quiet. subst (λ (v : Option Viewed). ShowsAt old.root old.store.state (stance_in old id) v (told_to id it.ts)) (sym there)
        (subst (ShowsAt old.root old.store.state (stance_in old id) (Some view)) (sym is) (quiet_shows_at old.root old.store.state (stance_in old id) (limbo_in old id) (Some view) quiet)))
        (others id view there)

    each_quiet : (id : ℕ) (v : Option Viewed) → viewed old.listeners id ≡ v → IfSome (viewed now.listeners id) (IsQuiet old.root old.store.state (stance_in old id) (limbo_in now id))
    each_quiet id v there = by (list_any (nat_eq id) (take done ids)) refl v there
      where
        by : (b : Bool) → list_any (nat_eq id) (take done ids) ≡ b → (v : Option Viewed) → viewed old.listeners id ≡ v → IfSome (viewed now.listeners id) (IsQuiet old.root old.store.state (stance_in old id) (limbo_in now id))
        by true is v there = it.quiet id (any_among id (take done ids) is)
        by false is v there = apart v there
          where
            never : Contains (take done ids) id → ⊥
            never among = true≢false (sym (among_any id (take done ids) among) ∙ is)

            untold_here : (r : Option Raised) → told_to id it.ts ≡ r → told_to id it.ts ≡ None
            untold_here None none = none
            untold_here (Some r) some = absurd (never (told_among id (take done ids) it.ts r it.among some))

            same : viewed now.listeners id ≡ viewed old.listeners id
            same = it.views id ∙ ap (λ r. told r (viewed old.listeners id)) (untold_here (told_to id it.ts) refl)

            apart : (v : Option Viewed) → viewed old.listeners id ≡ v → IfSome (viewed now.listeners id) (IsQuiet old.root old.store.state (stance_in old id) (limbo_in now id))
            apart None none = subst (λ (w : Option Viewed). IfSome w (IsQuiet old.root old.store.state (stance_in old id) (limbo_in now id))) (sym (same ∙ none)) tt
            apart (Some view) some = ⊎_elim
                (λ among. absurd (never (in_front id among)))
                (λ quiet. subst (λ (w : Option Viewed). IfSome w (IsQuiet old.root old.store.state (stance_in old id) (limbo_in now id))) (sym (same ∙ some))
                (subst (λ (keys : List Key). IsQuiet old.root old.store.state (stance_in old id) keys view) (sym (it.same_limbo id never)) quiet))
                (others id view some)
