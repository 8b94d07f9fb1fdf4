-- listeners that stay quiet where rows are made blank
use Rattle.std.proofs.Common.{◌≡◌, ◌↔◌, ◌⊎◌, ⊎_elim, inl, ℕ, zero, suc, ◌+◌, ◌<◌, ◌≤◌, ◌^◌, ℤ, nat_eq, Bool, true, false, ◌||◌, IsTrue, List, [], ◌∷◌, length, Option, Some, None, is_some, IfSome, if◌then◌else◌, refl, sym, ap, subst, ◌∙◌}
use Rattle.std.proofs.lemmas.Bool.{lt-ltb, le-ltb, true≢false}
use Rattle.std.proofs.lemmas.List.Elements.{All-weaker, All-contains_itself}
use Rattle.std.proofs.lemmas.Option.{same_Some}
use Rattle.std.specs.FinMap as map
use Rattle.std.specs.List.{All, Contains, slice_get}
use Rattle.std.specs.Option.{IsSome, option_and_then}
use Rattle.document_keys.specs.Names.{Root}
use Rattle.durable_state.proofs.Rows.{has_still}
use Rattle.durable_state.specs.Documents.{documents_of}
use Rattle.durable_state.specs.Rows.{HasRow, blanked, holding, holding_from}
use Rattle.listeners.specs.Concerns.{Concerns}
use Rattle.listeners.specs.Table.{target_of, viewed}
use Rattle.local_store.specs.Documents.{touched_keys_of}
use Rattle.local_store.specs.State.{State, committed, most_commits}
use Rattle.record_codec.specs.declared.commit.Commit.TheVariants.{Reset}
use Rattle.target_cache.specs.Cache.{IsRow, id_at}
use Rattle.target_cache.specs.declared.row.Row.{Row}
use Rattle.value_model.specs.Documents.{DocumentMap}
use Rattle.views.specs.Viewed.{Viewed}
use Rattle.limbo_resolver.specs.Limbo.{Key}
use Rattle.client_turns.specs.Blanking.{IsBlanking, blanked_state}
use Rattle.client_turns.specs.Hearing as hearing
use Rattle.client_turns.specs.Hearing.{Blanks, HaveRows, IsAnyHeld}
use Rattle.client_turns.specs.Lines.{Line}
use Rattle.client_turns.specs.Past.{Past, Turn}
use Rattle.client_turns.specs.Settling.{IsHeldFor, IsHeldRow, MayStart, Stance, standing_or, HasTargetRow}
use Rattle.sync_engine.specs.Standing.{IsQuiet, Kept, StandsFor, limbo_in, stance_in, standing_in}
use Rattle.client_turns.specs.Turns.{after, commits, refused}
use Rattle.client_turns.specs.Asking.{is_told_dropped}
use Rattle.client_turns.specs.Watching.{is_dropped_by, is_offline}
use Rattle.client_turns.specs.declared.online.OnlineState.TheVariants.{Online}
use Rattle.client_turns.specs.declared.refusal.Refusal.TheVariants.{IdsSpent}
use Rattle.sync_engine.proofs.Following.{are_quiet}
use Rattle.sync_engine.proofs.Quiet.{TouchesSame, quiet_falls}
use Rattle.sync_engine.proofs.Showing.{row_starts}

-- ---- what an event comes to by which rows are made blank, where one is held

abbrev pub blank_turn : Bool → List ℕ → List Line → Turn
blank_turn blanks rows lines = record { refusal = None; commit = if blanks then Some (Reset rows) else None; lines = lines; limbo = [] }

pub after_blank : (s : State) (blanks : Bool) (rows : List ℕ) (lines : List Line) → after s (blank_turn blanks rows lines).commit ≡ blanked_state blanks s rows
after_blank s true rows lines = refl
after_blank s false rows lines = refl

pub blank_blanks : (s : State) (blanks : Bool) (rows : List ℕ) (lines : List Line) → IsTrue blanks ↔ IsAnyHeld s.rows rows → (blanks ≡ true → s.number < most_commits) → Blanks s rows lines (blank_turn blanks rows lines)
blank_blanks s true rows lines tells left = hearing.held (tells.0 refl) (sym (ap (λ b. if b then commits (Reset rows) lines else refused IdsSpent) (lt-ltb s.number most_commits (left refl))))
blank_blanks s false rows lines tells left = hearing.none_held (λ it. true≢false (sym (tells.1 it))) refl

pub spent_blanks : (s : State) (rows : List ℕ) (lines : List Line) → IsAnyHeld s.rows rows → most_commits ≤ s.number → Blanks s rows lines (refused IdsSpent)
spent_blanks s rows lines it many = hearing.held it (sym (ap (λ b. if b then commits (Reset rows) lines else refused IdsSpent) (le-ltb s.number most_commits many)))

pub batches_blank : (s : State) (blanks : Bool) (rows : List ℕ) → (blanked_state blanks s rows).batches ≡ s.batches
batches_blank s true rows = refl
batches_blank s false rows = refl

-- such a commit drops no key
pub blank_drops : (blanks : Bool) (rows : List ℕ) (x : ℤ) (b : Bool) → (b || is_dropped_by (if blanks then Some (Reset rows) else None) x) ≡ b
blank_drops true rows x true = refl
blank_drops true rows x false = refl
blank_drops false rows x true = refl
blank_drops false rows x false = refl

pub blank_resets : (blanks : Bool) (rows : List ℕ) (past : Past) (x : ℤ) (b : Bool)
    → (b || (is_dropped_by (if blanks then Some (Reset rows) else None) x || is_told_dropped (if blanks then Some (Reset rows) else None) past x)) ≡ b
blank_resets true rows past x true = refl
blank_resets true rows past x false = refl
blank_resets false rows past x true = refl
blank_resets false rows past x false = refl

-- ---- the documents stay

documents_reset : (s : State) (ids : List ℕ) → documents_of (committed s (Reset ids)) ≡ documents_of s
unfolding documents_of
documents_reset s ids = refl

documents_blank : (s : State) (blanks : Bool) (ids : List ℕ) → documents_of (blanked_state blanks s ids) ≡ documents_of s
documents_blank s true ids = documents_reset s ids
documents_blank s false ids = refl

touched_blank : (s : State) (blanks : Bool) (ids : List ℕ) → touched_keys_of (blanked_state blanks s ids) ≡ touched_keys_of s
touched_blank s true ids = refl
touched_blank s false ids = refl

-- ---- rows

-- a row that is still held stands where it stood
row_held : (rows : List Row) (first id place : ℕ) (row : Row) → slice_get (holding_from first id None rows) place ≡ Some row → IsSome row.held → slice_get rows place ≡ Some row
row_held [] first id place row there some = there
row_held (r ∷ rows) first id zero row there some = go (nat_eq first id) there
  where
    go : (b : Bool) → Some (if b then record { target = r.target; held = None } else r) ≡ Some row → Some r ≡ Some row
    go true is = let same : record { target = r.target; held = None } ≡ row = same_Some (record { target = r.target; held = None }) row is in absurd (true≢false (sym (subst (λ (x : Row). IsSome x.held) (sym same) some)))
    go false is = is
row_held (r ∷ rows) first id (suc place) row there some = row_held rows (first + 2) id place row there some

held_one : (rows : List Row) (id : ℕ) (t : ℤ) → IsHeldRow (holding id None rows) t → IsHeldRow rows t
held_one rows id t it = record { row = it.row; of_id = record { place = it.of_id.place; is = it.of_id.is; there = row_held rows 2 id it.of_id.place it.row it.of_id.there it.held }; held = it.held }

pub held_blanked : (ids : List ℕ) (rows : List Row) (t : ℤ) → IsHeldRow (blanked ids rows) t → IsHeldRow rows t
held_blanked [] rows t it = it
held_blanked (id ∷ ids) rows t it = held_one rows id t (held_blanked ids (holding id None rows) t it)

held_state : (s : State) (blanks : Bool) (ids : List ℕ) (target : Option ℤ) → IsHeldFor (blanked_state blanks s ids).rows target → IsHeldFor s.rows target
held_state s false ids target it = it
held_state s true ids None it = it
held_state s true ids (Some t) it = held_blanked ids s.rows t it

-- who has a row has it still
pub row_blanked : (ids : List ℕ) (rows : List Row) (t : ℤ) → HasTargetRow rows t → HasTargetRow (blanked ids rows) t
row_blanked [] rows t has = has
row_blanked (id ∷ ids) rows t has = row_blanked ids (holding id None rows) t (one has)
  where
    one : HasTargetRow rows t → HasTargetRow (holding id None rows) t
    one (row, is) =
        let at = has_still rows id (id_at is.place) None (row, record { place = is.place; is = refl; there = is.there }) in
        (at.0, subst (λ (z : ℤ). IsRow (holding id None rows) z at.0) (sym is.is) at.1)

pub rows_state : (s : State) (blanks : Bool) (ids : List ℕ) (target : Option ℤ) → IfSome target (HasTargetRow s.rows) → IfSome target (HasTargetRow (blanked_state blanks s ids).rows)
rows_state s false ids target has = has
rows_state s true ids None has = has
rows_state s true ids (Some t) has = row_blanked ids s.rows t has

-- a listener whose target has a row may start while the client is online, or may not
starts_in : (s : State) (stance : Stance) → stance.offline ≡ false → IfSome stance.target (HasTargetRow s.rows) → (may : Bool) × MayStart s stance may
starts_in s stance online rows = by stance.target refl rows
  where
    by : (o : Option ℤ) → stance.target ≡ o → IfSome o (HasTargetRow s.rows) → (may : Bool) × MayStart s stance may
    by None is has = (false, (λ so. absurd (true≢false (sym so)), λ it. ⊎_elim (λ held. absurd (subst (IsHeldFor s.rows) is held)) (λ off. absurd (true≢false (sym off ∙ online))) it))
    by (Some t) is has = (is_some has.0.held, row_starts s stance s.rows t t has.0 (is_some has.0.held) online is refl refl has.1 refl)

-- ---- a listener whose target stands as before stays quiet

module _ (old new : Kept) (past : Past) (t : State) (stands : StandsFor old old.store.state past) (root : new.root ≡ old.root) (state : new.store.state ≡ t) (online : new.watch.online ≡ Online)
    (held_falls : (o : Option ℤ) → IsHeldFor t.rows o → IsHeldFor old.store.state.rows o) (rows_stay : (o : Option ℤ) → IfSome o (HasTargetRow old.store.state.rows) → IfSome o (HasTargetRow t.rows)) where
  pub quiet_over : (q : ℕ) (view : Viewed) → viewed old.listeners q ≡ Some view
      → ((key : List (List ℕ)) → Concerns view.target key → map.get (documents_of t) key ≡ map.get (documents_of old.store.state) key) → TouchesSame old.store.state t view
      → target_of new.listeners q ≡ target_of old.listeners q → ((x : ℤ) → target_of old.listeners q ≡ Some x → standing_in new.watch.current.targets.items x ≡ standing_in old.watch.current.targets.items x) → limbo_in new q ≡ limbo_in old q
      → IsQuiet new.root new.store.state (stance_in new q) (limbo_in new q) view
  quiet_over q view there documents touched link keeps same_limbo =
      subst (λ (r : Root). IsQuiet r new.store.state (stance_in new q) (limbo_in new q) view) (sym root)
      (subst (λ (x : State). IsQuiet old.root x (stance_in new q) (limbo_in new q) view) (sym state)
      (subst (λ (held : List Key). IsQuiet old.root t (stance_in new q) held view) (sym same_limbo)
      (quiet_falls old.root old.store.state t (stance_in old q) (stance_in new q) (limbo_in old q) view documents touched standing falls may.0 may.1 (are_quiet stands q view there))))
    where
      keys : (o : Option ℤ) → target_of new.listeners q ≡ o → option_and_then (standing_in new.watch.current.targets.items) o ≡ option_and_then (standing_in old.watch.current.targets.items) o
      keys None is = refl
      keys (Some x) is = keeps x (sym link ∙ is)

      standing : (stance_in new q).standing ≡ (stance_in old q).standing
      standing = ap standing_or (keys (target_of new.listeners q) refl ∙ ap (option_and_then (standing_in old.watch.current.targets.items)) link)

      falls : (IsHeldFor t.rows (target_of new.listeners q) ⊎ (is_offline new.watch.online ≡ true)) → IsHeldFor old.store.state.rows (target_of old.listeners q) ⊎ (is_offline old.watch.online ≡ true)
      falls it = ⊎_elim
          (λ held. inl (subst (IsHeldFor old.store.state.rows) link (held_falls (target_of new.listeners q) held)))
          (λ off. absurd (true≢false (sym off ∙ ap is_offline online)))
          it

      rows : IfSome (target_of new.listeners q) (HasTargetRow t.rows)
      rows = rows_stay (target_of new.listeners q) (subst (λ (o : Option ℤ). IfSome o (HasTargetRow old.store.state.rows)) (sym (link ∙ stands.targets q)) (stands.rows q))

      may : (b : Bool) × MayStart t (stance_in new q) b
      may = starts_in t (stance_in new q) (ap is_offline online) rows

-- so it does where rows are made blank
pub quiet_blank : (old new : Kept) (past : Past) (blanks : Bool) (ids : List ℕ) → StandsFor old old.store.state past → new.root ≡ old.root → new.store.state ≡ blanked_state blanks old.store.state ids → new.watch.online ≡ Online
    → (q : ℕ) (view : Viewed) → viewed old.listeners q ≡ Some view → target_of new.listeners q ≡ target_of old.listeners q → ((x : ℤ) → target_of old.listeners q ≡ Some x → standing_in new.watch.current.targets.items x ≡ standing_in old.watch.current.targets.items x) → limbo_in new q ≡ limbo_in old q
    → IsQuiet new.root new.store.state (stance_in new q) (limbo_in new q) view
quiet_blank old new past blanks ids stands root state online q view there link keeps same_limbo =
    quiet_over old new past (blanked_state blanks old.store.state ids) stands root state online (held_state old.store.state blanks ids) (rows_state old.store.state blanks ids) q view there
    (λ key concerns. ap (λ (m : DocumentMap). map.get m key) (documents_blank old.store.state blanks ids))
    (λ key concerns. subst (λ (keys : List (List (List ℕ))). Contains keys key ↔ Contains (touched_keys_of old.store.state) key) (sym (touched_blank old.store.state blanks ids)) (λ it. it, λ it. it))
    link keeps same_limbo

-- ---- the commit fits

pub blanking : (s : State) (ids : List ℤ) (rows : List ℕ) → HaveRows s.rows ids rows → IsAnyHeld s.rows rows → s.number < most_commits → length rows < 2 ^ 64 → All (λ n. n < 2 ^ 32) rows → IsBlanking s rows
blanking s ids rows have held left count low = record {
  known = All-weaker (Contains rows) (HasRow s.rows) (λ n there. ((have.each n).0 there).1) rows (All-contains_itself rows);
  held = held;
  left = left;
  spelled = record { each = record { count = count; each = low }; ascending = have.ascending };
}
