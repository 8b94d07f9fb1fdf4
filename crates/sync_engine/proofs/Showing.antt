-- one listener is refreshed
use Rattle.std.proofs.Common.{◌≡◌, ◌⊎◌, ⊎_elim, inl, ℕ, ◌≤◌, ℤ, pos, to_z, of_z, w32, length, Bool, true, false, IsTrue, List, [], Option, Some, None, is_some, IfSome, unwrap_or, if◌then◌else◌, refl, sym, ap, subst, ◌∙◌, arith}
use Rattle.std.specs.Prelude.{nat_lt, not}
use Rattle.std.proofs.lemmas.Bool.{and_parts, ltb-false, not-true, false≢true}
use Rattle.local_store.specs.State.{most_commits, State}
use Rattle.client_turns.specs.Answers.{are_left, last_target}
use Rattle.sync_engine.specs.Targets.{GivesTarget, given_id}
use Rattle.std.proofs.lemmas.Option.{none-some}
use Rattle.std.proofs.Math.Facts.{to_z_pos}
use Rattle.document_keys.specs.Names.{Root}
use Rattle.durable_state.proofs.Rows.{below_next, signed_back}
use Rattle.durable_state.specs.Documents.{documents_of, touched_keys_of}
use Rattle.limbo_listens.specs.Listens.{Listens, is_id as limbo_id, limbo_at}
use Rattle.limbo_resolver.specs.Limbo.{Key}
use Rattle.listeners.proofs.Ids.{apart, id_itself}
use Rattle.listeners.specs.Refreshing.{RefreshesAt}
use Rattle.listeners.specs.Table.{viewed}
use Rattle.queries.specs.declared.target.Target.{Target}
use Rattle.target_cache.specs.Cache.{IsRow, TellsId, id_at}
use Rattle.target_cache.specs.declared.row.Row.{Row}
use Rattle.views.specs.Refresh.{Refreshes}
use Rattle.views.specs.Viewed.{Viewed}
use Rattle.views.specs.declared.raised.Raised.{Raised}
use Rattle.views.specs.declared.standing.Standing.{Standing}
use Rattle.views.specs.declared.view.Refresh.{Refresh}
use Rattle.client_turns.specs.Past.{told}
use Rattle.client_turns.specs.Settling.{IsHeldFor, IsHeldRow, MayStart, ShowsAt, Stance, raised_by, standing_or}
use Rattle.sync_engine.specs.Standing.{IsQuiet, Kept, limbo_in, stance_in}
use Rattle.sync_engine.specs.Telling.{ShowsOne}
use Rattle.sync_engine.proofs.Quiet.{refreshed_quiet}
use Rattle.client_turns.proofs.HeardOnes.{row_one}

-- ---- whether it may start

never_starts : (s : State) (stance : Stance) → stance.offline ≡ false → (IsHeldFor s.rows stance.target → ⊥) → MayStart s stance false
never_starts s stance online never = (λ so. absurd (false≢true so), λ it. ⊎_elim (λ held. absurd (never held)) (λ is. absurd (false≢true (sym online ∙ is))) it)

-- without the row of its target
pub no_row : (s : State) (stance : Stance) (rows : List Row) (t at : ℤ) → stance.offline ≡ false → stance.target ≡ Some t → rows ≡ s.rows → at ≡ t → ((row : Row) → IsRow rows at row → ⊥) → MayStart s stance false
no_row s stance rows t at online of_it same back none = never_starts s stance online (λ held. by (subst (IsHeldFor s.rows) of_it held))
  where
    by : IsHeldRow s.rows t → ⊥
    by held = none held.row (subst (λ (z : ℤ). IsRow rows z held.row) (sym back) (subst (λ (l : List Row). IsRow l t held.row) (sym same) held.of_id))

-- the row of its target is held, or not
pub row_starts : (s : State) (stance : Stance) (rows : List Row) (t at : ℤ) (row : Row) (held : Bool) → stance.offline ≡ false → stance.target ≡ Some t → rows ≡ s.rows → at ≡ t → IsRow rows at row → is_some row.held ≡ held → MayStart s stance held
row_starts s stance rows t at row held online of_it same back is held_is = (forth, λ it. ⊎_elim to_held (λ off. absurd (false≢true (sym online ∙ off))) it)
  where
    here : IsRow s.rows t row
    here = subst (λ (l : List Row). IsRow l t row) same (subst (λ (z : ℤ). IsRow rows z row) back is)

    forth : IsTrue held → IsHeldFor s.rows stance.target ⊎ (stance.offline ≡ true)
    forth so = inl (subst (IsHeldFor s.rows) (sym of_it) (record { row = row; of_id = here; held = held_is ∙ so }))

    to_held : IsHeldFor s.rows stance.target → IsTrue held
    to_held it = let at_row : IsHeldRow s.rows t = subst (IsHeldFor s.rows) of_it it in sym held_is ∙ ap (λ (r : Row). is_some r.held) (row_one s.rows t row at_row.row here at_row.of_id) ∙ at_row.held

-- an id that has a row fits 32 bits with sign
pub id_back : (rows : List Row) (target : Target) (id : ℤ) → id_at (length rows) ≤ 2147483648 → TellsId rows target (Some id) → to_z w32 (of_z w32 id) ≡ id
id_back rows target id few tells =
    let has = (tells id).1 refl in
    let n = id_at has.of_id.place in
    signed_back id n has.of_id.is (below_next rows n few (has.row, record { place = has.of_id.place; is = refl; there = has.of_id.there })) ∙ sym has.of_id.is

-- an id below 2 ^ 31 is the same with a sign
pub pos_back : (n : ℕ) → n ≤ 2147483646 → to_z w32 n ≡ pos n
pos_back n few = to_z_pos w32 (omega (arith, few))

-- so does the one that a target is given
pub given_back : (s : State) (query : Target) (given : Option ℤ) (target : ℤ) {t : State} → id_at (length s.rows) ≤ 2147483648 → GivesTarget s query given t → given ≡ Some target → to_z w32 (of_z w32 target) ≡ target
given_back s query given target few gives is = by gives.found gives.tells (sym gives.id ∙ is)
  where
    by : (found : Option ℤ) → TellsId s.rows query found → given_id s found ≡ Some target → to_z w32 (of_z w32 target) ≡ target
    by (Some at) tells same =
        let one : at ≡ target = cc in
        subst (λ (z : ℤ). to_z w32 (of_z w32 z) ≡ z) one (id_back s.rows query at few tells)
    by None tells same = left_by (are_left s) refl same
      where
        left_by : (left : Bool) → are_left s ≡ left → (if left then Some (pos (id_at (length s.rows))) else None) ≡ Some target → to_z w32 (of_z w32 target) ≡ target
        left_by true left same =
            let one : pos (id_at (length s.rows)) ≡ target = cc in
            let parts = and_parts (nat_lt s.number most_commits) (not (nat_lt last_target (id_at (length s.rows)))) left in
            let low = ltb-false last_target (id_at (length s.rows)) (not-true (nat_lt last_target (id_at (length s.rows))) parts.1) in
            subst (λ (z : ℤ). to_z w32 (of_z w32 z) ≡ z) one (signed_back (pos (id_at (length s.rows))) (id_at (length s.rows)) refl (omega (arith, low)))
        left_by false left same = absurd (none-some target same)

-- ---- what it raises

module _ (root : Root) (s : State) (stance : Stance) (may_start : Bool) (was is : Viewed) (refresh : Refresh) (refreshes : Refreshes root (documents_of s) (touched_keys_of s) stance.standing may_start was is refresh) where
  is_told : (b : Bool) → refresh.raised ≡ b → is_some (if b then is.raised else None) ≡ b
  is_told true raised = ap is_some (refreshes.raised raised).is
  is_told false raised = refl

  after_told : (b : Bool) → refresh.raised ≡ b → Some is ≡ told (if b then is.raised else None) (Some was)
  after_told true raised =
      let last = refreshes.raised raised in
      (λ i. Some (record { target = refreshes.target i; raised = last.is i })) ∙ ap (λ (r : Option Raised). told r (Some was)) (sym last.is)
  after_told false raised = λ i. Some (record { target = refreshes.target i; raised = refreshes.kept raised i })

-- the keys in limbo of the listener of the id are these, and those of every other are as before
abbrev pub PutsLimbo : ℕ → List Key → Listens → Listens → Type 0
PutsLimbo id keys old new = (q : ℕ) → limbo_at new q ≡ (if limbo_id id q then keys else limbo_at old q)

refreshed_shown : {old new : Kept} (id : ℕ) (may_start : Bool) (refresh : Refresh)
    → (at : RefreshesAt id old.root (documents_of old.store.state) (touched_keys_of old.store.state) (stance_in old id).standing may_start old.listeners new.listeners refresh) → MayStart old.store.state (stance_in old id) may_start
    → PutsLimbo id refresh.limbo.items old.limbo new.limbo → ShowsOne id old new refresh.raised
refreshed_shown {old} {new} id may_start refresh at start puts =
    let s = old.store.state in
    let k = stance_in old id in
    let now_is : viewed new.listeners id ≡ Some at.is = at.changes id ∙ ap (λ b. if b then Some at.is else viewed old.listeners id) (id_itself id) in
    let put_is : limbo_in new id ≡ refresh.limbo.items = puts id ∙ ap (λ b. if b then refresh.limbo.items else limbo_in old id) (id_itself id) in
    record {
      raised = raised_by refresh at.is;
      is = sym (is_told old.root s k may_start at.was at.is refresh at.refreshes refresh.raised refl);
      shows = subst (λ (v : Option Viewed). ShowsAt old.root s k v (raised_by refresh at.is)) (sym at.there)
          (record { may_start = may_start; start = start; new = at.is; refresh = refresh; refreshes = at.refreshes; is = refl });
      same = now_is ∙ after_told old.root s k may_start at.was at.is refresh at.refreshes refresh.raised refl ∙ ap (told (raised_by refresh at.is)) (sym at.there);
      others = λ q other. at.changes q ∙ ap (λ b. if b then Some at.is else viewed old.listeners q) (apart id q other);
      quiet = subst (λ (v : Option Viewed). IfSome v (IsQuiet old.root s k (limbo_in new id))) (sym now_is)
          (subst (λ (keys : List Key). IsQuiet old.root s k keys at.is) (sym put_is) (refreshed_quiet old.root s k at.was at.is may_start refresh start at.refreshes));
      unshown = λ none. absurd (none-some at.was (sym none ∙ at.there));
      same_limbo = λ q other. puts q ∙ ap (λ b. if b then refresh.limbo.items else limbo_in old q) (apart id q other);
    }

-- the standing that was lent is that of the listener's target
pub is_shown : {before old new : Kept} (id : ℕ) (may_start : Bool) (refresh : Refresh) (standing : Standing) → standing ≡ (stance_in old id).standing
    → RefreshesAt id old.root (documents_of old.store.state) (touched_keys_of old.store.state) standing may_start old.listeners new.listeners refresh → MayStart old.store.state (stance_in old id) may_start → PutsLimbo id refresh.limbo.items old.limbo new.limbo → old ≡ before → ShowsOne id before new refresh.raised
is_shown {before} {old} {new} id may_start refresh standing same at start puts whole =
    subst (λ (k : Kept). ShowsOne id k new refresh.raised) whole
    (refreshed_shown id may_start refresh (subst (λ (x : Standing). RefreshesAt id old.root (documents_of old.store.state) (touched_keys_of old.store.state) x may_start old.listeners new.listeners refresh) same at) start puts)

-- what stands for a target that isn't current
pub lent_standing : (found : Option Standing) (other : Standing) → other ≡ record { current = false; keys = [] } → unwrap_or found other ≡ standing_or found
lent_standing None other is = is
lent_standing (Some standing) other is = refl
