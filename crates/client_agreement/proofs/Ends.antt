-- a filter that doesn't agree, and ends of targets, as allowed turns
use Rattle.std.proofs.Common.{◌≡◌, ◌↔◌, ◌⊎◌, ⊎_elim, inl, inr, ℕ, ℤ, pos, Bool, true, false, not, ◌&&◌, ◌||◌, ◌==◌, List, [], ◌∷◌, length, Option, Some, None, if◌then◌else◌, refl, sym, ap, subst, ◌∙◌}
use Rattle.std.specs.Prelude.{IsSomeAnd, is_some, option_map, option_and_then}
use Rattle.std.specs.List.{Contains, list_any}
use Rattle.std.specs.Ordering.{int_eq}
use Rattle.std.proofs.lemmas.Bool.{false≢true, true≢false, and_parts}
use Rattle.agreement.proofs.Counting.{same_id-refl, same_id-true}
use Rattle.agreement.specs.Allowed.{IsReset, IsTied}
use Rattle.agreement.specs.Backend.{Id, Key, Keys, Setting, Tuple}
use Rattle.agreement.specs.Client.{Client}
use Rattle.agreement.specs.MessageTurns.{has}
use Rattle.agreement.specs.Streams.{message_of}
use Rattle.agreement.specs.Transcript.{Heard, counts, told}
use Rattle.durable_state.specs.Rows.{blanked}
use Rattle.limbo_resolver.specs.Limbo.{is_odd}
use Rattle.listen_protocol.proofs.Ids.{counts_live}
use Rattle.listen_protocol.specs.Buffer.{buffered}
use Rattle.listen_protocol.specs.Calls.{Calls, came, is_remove, lists}
use Rattle.listen_protocol.specs.ToldKeys.{told_keys}
use Rattle.listen_protocol.specs.Transcript as stream
use Rattle.durable_state.specs.State.{State, committed}
use Rattle.record_codec.specs.declared.commit.Commit.{Commit}
use Rattle.record_codec.specs.declared.commit.Commit.TheVariants.{Drop}
use Rattle.target_cache.specs.Cache.{IsRow, id_at}
use Rattle.target_cache.specs.declared.row.Held.{Held}
use Rattle.target_cache.specs.declared.row.Row.{Row}
use Rattle.value_model.specs.declared.message.ExistenceFilter.{ExistenceFilter}
use Rattle.value_model.specs.declared.message.ListenResponse.{ListenResponse}
use Rattle.value_model.specs.declared.message.ListenResponse.TheVariants as sent
use Rattle.value_model.specs.declared.message.TargetChange.{TargetChange}
use Rattle.value_model.specs.declared.document.RpcStatus.{RpcStatus}
use Rattle.watch_aggregator.specs.Effects.{Gives, IsEnded, filter_effect}
use Rattle.watch_aggregator.specs.declared.effect.Effect.TheVariants as effect
use Rattle.client_turns.specs.Asking.{is_told_dropped}
use Rattle.client_turns.specs.Hearing.{AreBlankedFor, Holds, by_current, by_row, by_told}
use Rattle.client_turns.specs.LimboListens.{is_running, limbo_of}
use Rattle.client_turns.specs.Past.{Past}
use Rattle.client_turns.specs.Settling.{HasTargetRow}
use Rattle.client_turns.specs.Turns.{after}
use Rattle.client_turns.specs.Watching.{calls_by, calls_of, current_keys, hears, is_dropped_by, is_mismatch, is_point, keys_at_point, passed, told_by}
use Rattle.client_turns.proofs.Given.{mismatch_filter}
use Rattle.client_turns.proofs.Wanted.{any_at}
use Rattle.client_agreement.proofs.Alike.{Alike}
use Rattle.client_agreement.proofs.GoingOut.{TakenBy}
use Rattle.client_agreement.proofs.Odd.{odd_unlistened, running_odd}
use Rattle.client_agreement.proofs.Points.{has_contains, suc_nonzero}
use Rattle.client_agreement.proofs.Reaching.{Reaches}
use Rattle.client_agreement.proofs.Resets.{IsBlanked, ended_unasked, lists_contains, remove_resets, resets_reaches, rowless}
use Rattle.client_agreement.specs.Durable.{entry_at, is_listener, row_of, tuple_at, tuple_in, tuple_with}
use Rattle.client_agreement.specs.Standing.{StandsAs}
use Rattle.client_agreement.specs.Transcript.{transcript}

-- ---- messages that are ends

-- the end of targets, which have live incarnations
pub record IsEnd (h : Calls) (m : ListenResponse) (ids : List ℤ) : Type 0 where
  pub change : TargetChange
  pub is : m ≡ sent.Target change
  pub removes : is_remove change.kind ≡ true
  pub each : (t : ℤ) → Contains ids t ↔ IsEnded h change.target_ids t

pub end_gives : (h : Calls) (m : ListenResponse) (ids : List ℤ) (status : RpcStatus) → Gives h m (effect.Ended ids status) → IsEnd h m ids
end_gives h (sent.Target change) ids status (inl removes) = record { change = change; is = refl; removes = removes.0; each = removes.1.2 }
end_gives h (sent.Target change) ids status (inr stays) = absurd stays.1
end_gives h (sent.Change change) ids status gives = absurd cc
end_gives h (sent.Delete delete) ids status gives = absurd cc
end_gives h (sent.Remove remove) ids status gives = absurd cc
end_gives h (sent.Filter f) ids status gives = absurd (by _ gives)
  where
    by : (b : Bool) → effect.Ended ids status ≡ (if b then effect.Mismatch f.target_id (length (told_keys f.target_id h)) f.count else effect.Nothing) → ⊥
    by true same = cc
    by false same = cc

-- there is one
pub end_some : (h : Calls) (m : ListenResponse) (ids : List ℤ) (status : RpcStatus) → Gives h m (effect.Ended ids status) → (t : ℤ) × Contains ids t
end_some h (sent.Target change) ids status (inl removes) = removes.1.3
end_some h (sent.Target change) ids status (inr stays) = absurd stays.1
end_some h (sent.Change change) ids status gives = absurd cc
end_some h (sent.Delete delete) ids status gives = absurd cc
end_some h (sent.Remove remove) ids status gives = absurd cc
end_some h (sent.Filter f) ids status gives = absurd (by _ gives)
  where
    by : (b : Bool) → effect.Ended ids status ≡ (if b then effect.Mismatch f.target_id (length (told_keys f.target_id h)) f.count else effect.Nothing) → ⊥
    by true same = cc
    by false same = cc

-- it is no point, no filter, and leaves no entry
end_pointless : (h : Calls) (m : ListenResponse) (ids : List ℤ) → IsEnd h m ids → (t : ℤ) → Contains ids t → is_point m ≡ false
end_pointless h m ids it t here = ap is_point it.is ∙ by it.change.target_ids ((it.each t).0 here).listed
  where
    by : (those : List ℤ) → lists those t ≡ true → ((length those == 0) && is_some it.change.read_time) ≡ false
    by [] listed = absurd (false≢true listed)
    by (id ∷ those) listed = ap (λ (b : Bool). b && is_some it.change.read_time) (suc_nonzero (length those))

module _ (h : Calls) (m : ListenResponse) (ids : List ℤ) (it : IsEnd h m ids) (first : ℤ) (some : Contains ids first) (commit : Option Commit) where
  end_waits : (key : Key) → buffered key (passed (is_point m) commit (came m ∷ h)) ≡ buffered key h
  end_waits key = ap (λ (b : Bool). buffered key (passed b commit (came m ∷ h))) (end_pointless h m ids it first some) ∙ ap (λ (y : ListenResponse). buffered key (came y ∷ h)) it.is

  end_told : (t : ℤ) (was : Option (List Key)) → told_by t (hears m) commit h was ≡ (if is_dropped_by commit t then None else was)
  end_told t was =
      ap (λ (b : Bool). if b && is_some commit then keys_at_point t (came m ∷ h) else if is_mismatch h m t || is_dropped_by commit t then None else was) (end_pointless h m ids it first some)
      ∙ ap (λ (y : ListenResponse). if is_mismatch h y t || is_dropped_by commit t then None else was) it.is

  end_gone : (t : ℤ) → lists ids t ≡ true → stream.is_asked_in t (came m ∷ h) ≡ false
  end_gone t here = ap (λ (y : ListenResponse). stream.is_asked_in t (came y ∷ h)) it.is ∙ ended_unasked h it.change t it.removes ((it.each t).0 (lists_contains ids t here))

-- ---- what is given

module _ (s : Setting) (listens : s.listens ≡ is_listener) (c : Client) (state : State) (past : Past) (stands : StandsAs c state past) (m : ListenResponse)
    (before : Alike (transcript past) (calls_of past))
    (behind : Alike (Heard (message_of m) ∷ transcript past) (came m ∷ calls_of past))
    (asked_known : (t : Id) → stream.is_wanted t (calls_of past) ≡ true → HasTargetRow state.rows t ⊎ (is_odd t ≡ true))
    (row_there : (id : Id) (row : Row) → IsRow state.rows id row → row_of state.rows id ≡ Some row)
    (row_back : (id : Id) (row : Row) → row_of state.rows id ≡ Some row → IsRow state.rows id row)
    (row_even : (id : Id) (row : Row) → IsRow state.rows id row → is_listener id ≡ true)
    (wanted removed : Id → Bool) (wanted_row : (t : Id) → wanted t ≡ true → HasTargetRow state.rows t) where
  abbrev h : Calls
  h = calls_of past

  abbrev RowsBack : Option Commit → Type 0
  RowsBack commit = (id : Id) (row : Row) → IsRow (after state commit).rows id row → (old : Row) × IsRow state.rows id old × (row.target ≡ old.target)

  or_none : (b : Bool) → (b || false) ≡ b
  or_none true = refl
  or_none false = refl

  -- a filter that doesn't agree
  pub mismatch_reaches : (id : ℤ) (told_count count : ℕ) → Gives h m (effect.Mismatch id told_count count) → (commit : Option Commit)
      → IsBlanked state (id ∷ []) commit → RowsBack commit
      → ((t : Id) → is_mismatch h m t ≡ true → removed t ≡ stream.is_asked_in t (came m ∷ h))
      → (d : Client) × Reaches s c d × TakenBy d (after state commit) wanted (hears m) commit (λ t. is_mismatch h m t && removed t) past
  mismatch_reaches id told_count count gives commit blanked back removes = by (mismatch_filter h m id told_count count gives)
    where
      by : (f : ExistenceFilter) × (m ≡ sent.Filter f) × (effect.Mismatch id told_count count ≡ filter_effect h f)
          → (d : Client) × Reaches s c d × TakenBy d (after state commit) wanted (hears m) commit (λ t. is_mismatch h m t && removed t) past
      by (f, is, effect_is) =
          resets_reaches s c state past stands m wanted (is_mismatch h m) removed (λ t. false) behind.asks removes (λ t no. absurd (false≢true no)) (λ key. false) commit
          (subst (λ (y : ListenResponse). IsReset s (message_of y) (λ t. is_mismatch h m t || false)) (sym is) (λ own. or_none (is_mismatch h m f.target_id) ∙ itself), λ key t no. absurd (false≢true no))
          blanked.entry blanked.read
          (λ t. blanked.row t ∙ ap (λ (b : Bool). if b then None else tuple_at state.rows t) (sym (or_none (is_mismatch h m t) ∙ same_ids t)))
          back
          (λ t wants. told_is t) waits
        where
          cond : Bool
          cond = stream.counts f.target_id h && not (length (told_keys f.target_id h) == f.count)

          by_cond : (b : Bool) → effect.Mismatch id told_count count ≡ (if b then effect.Mismatch f.target_id (length (told_keys f.target_id h)) f.count else effect.Nothing) → (b ≡ true) × (id ≡ f.target_id)
          by_cond true same = (refl, cc)
          by_cond false same = absurd cc

          itself : is_mismatch h m f.target_id ≡ true
          itself = ap (λ y. is_mismatch h y f.target_id) is ∙ ap (λ (b : Bool). b && cond) (same_id-refl f.target_id) ∙ (by_cond cond effect_is).0

          same_ids : (t : Id) → is_mismatch h m t ≡ lists (id ∷ []) t
          same_ids t = ap (λ y. is_mismatch h y t) is ∙ go (int_eq f.target_id t) refl ∙ ap (λ (x : ℤ). int_eq x t || false) (sym (by_cond cond effect_is).1)
            where
              go : (b : Bool) → int_eq f.target_id t ≡ b → (b && (stream.counts t h && not (length (told_keys t h) == f.count))) ≡ (b || false)
              go false same = refl
              go true same = subst (λ (x : ℤ). (stream.counts x h && not (length (told_keys x h) == f.count)) ≡ true) (same_id-true f.target_id t same) (by_cond cond effect_is).0

          told_is : (t : Id) → told_by t (hears m) commit h (current_keys t past) ≡ (if is_mismatch h m t || false then None else current_keys t past)
          told_is t =
              ap (λ (b : Bool). if b && is_some commit then keys_at_point t (came m ∷ h) else if is_mismatch h m t || is_dropped_by commit t then None else current_keys t past) (ap is_point is)
              ∙ ap (λ (b : Bool). if is_mismatch h m t || b then None else current_keys t past) (blanked.drops t)

          waits : (key : Key) → buffered key (calls_by (hears m) commit h) ≡ buffered key h
          waits key = ap (λ (b : Bool). buffered key (passed b commit (came m ∷ h))) (ap is_point is) ∙ ap (λ (y : ListenResponse). buffered key (came y ∷ h)) is

  -- targets end, and no document in limbo among them
  pub ended_reaches : (ids : List ℤ) → IsEnd h m ids → (first : ℤ) → Contains ids first → (commit : Option Commit)
      → IsBlanked state ids commit → RowsBack commit → ((t : Id) → Contains ids t → wanted t ≡ true → ⊥)
      → (resets : Id → Bool) → ((t : Id) → resets t ≡ false)
      → (d : Client) × Reaches s c d × TakenBy d (after state commit) wanted (hears m) commit (λ t. resets t && removed t) past
  ended_reaches ids it first some commit blanked back unwanted resets none =
      resets_reaches s c state past stands m wanted resets removed (lists ids) behind.asks (λ t yes. absurd (true≢false (sym yes ∙ none t))) (end_gone h m ids it first some commit) (λ key. false) commit
      (subst (λ (y : ListenResponse). IsReset s (message_of y) (λ t. resets t || lists ids t)) (sym it.is) (remove_resets s it.change (λ t. resets t || lists ids t) it.removes), λ key t no. absurd (false≢true no))
      blanked.entry blanked.read
      (λ t. blanked.row t ∙ ap (λ (b : Bool). if b || lists ids t then None else tuple_at state.rows t) (sym (none t)))
      back
      (λ t wants. end_told h m ids it first some commit t (current_keys t past) ∙ ap (λ (b : Bool). if b then None else current_keys t past) (blanked.drops t)
      ∙ ap (λ (b : Bool). if b then None else current_keys t past) (sym ((λ i. none t i || unlisted t wants i))))
      (end_waits h m ids it first some commit)
    where
      unlisted : (t : Id) → wanted t ≡ true → lists ids t ≡ false
      unlisted t wants = by (lists ids t) refl
        where
          by : (b : Bool) → lists ids t ≡ b → lists ids t ≡ false
          by false is = is
          by true is = absurd (unwanted t (lists_contains ids t is) wants)

  -- listens of documents in limbo are among them, and these go
  module _ (blanked_tuple : (those : List ℕ) (id : Id) → tuple_at (blanked those state.rows) id ≡ (if list_any (λ n. int_eq (pos n) id) those then None else tuple_at state.rows id))
      (drop_entry : (keys : List Key) (those : List ℕ) (key : Key) → entry_at (committed state (Drop keys those)) key ≡ (if has keys key then None else entry_at state key))
      (current_row : (t : Id) (keys : List Key) → current_keys t past ≡ Some keys → HasTargetRow state.rows t)
      (ids : List ℤ) (it : IsEnd h m ids) (first : ℤ) (some : Contains ids first) (keys : List Key) (those : List ℕ)
      (blanks : AreBlankedFor state past ids keys those) where
    abbrev commit : Option Commit
    commit = Some (Drop keys those)

    abbrev resets : Id → Bool
    resets t = is_mismatch h m t || (is_dropped_by commit t || is_told_dropped commit past t)

    unmatched : (t : Id) → is_mismatch h m t ≡ false
    unmatched t = ap (λ y. is_mismatch h y t) it.is

    or_first : (a b : Bool) → a ≡ true → (a || b) ≡ true
    or_first true b is = refl
    or_first false b is = absurd (false≢true is)

    -- what holds a dropped key is made blank
    tied : (t : Id) (key : Key) → Contains keys key → HasTargetRow state.rows t → Holds state past t key → is_dropped_by commit t ≡ true
    tied t key here there holds =
        let n = id_at there.1.place in
        let at_place = there.1.is in
        let blank = (blanks.each n).1 ((there.0, subst (λ (x : Id). IsRow state.rows x there.0) at_place there.1), inr (key, here, subst (λ (x : Id). Holds state past x key) at_place holds)) in
        any_at (λ k. int_eq (pos k) t) those n blank (ap (λ (x : Id). int_eq (pos n) x) at_place ∙ same_id-refl (pos n))

    tied_reset : (t : Id) → is_dropped_by commit t ≡ true → (resets t || lists ids t) ≡ true
    tied_reset t dropped = (λ i. (is_mismatch h m t || (dropped i || is_told_dropped commit past t)) || lists ids t) ∙ (λ i. (unmatched t i || true) || lists ids t)

    by_tie : (key : Key) (t : Id) → Contains keys key → IsTied s c t key → is_dropped_by commit t ≡ true
    by_tie key t here (inl row) = by (row_of state.rows t) refl (subst (λ o. IsSomeAnd o (λ (r : Tuple). r.keys key ≡ true)) (stands.row t) row)
      where
        by : (o : Option Row) → row_of state.rows t ≡ o → IsSomeAnd (option_and_then tuple_in o) (λ (r : Tuple). r.keys key ≡ true) → is_dropped_by commit t ≡ true
        by None is holds = absurd holds
        by (Some row) is holds = by_held row.held refl holds
          where
            by_held : (o : Option Held) → row.held ≡ o → IsSomeAnd (option_map (tuple_with row.target) o) (λ (r : Tuple). r.keys key ≡ true) → is_dropped_by commit t ≡ true
            by_held None off holds = absurd holds
            by_held (Some held) holding holds =
                let there = row_back t row is in
                tied t key here (row, there) (by_row row held there holding (has_contains held.keys key holds))
    by_tie key t here (inr (inl current)) = by (current_keys t past) refl (subst (λ o. IsSomeAnd o (λ (ks : Keys). ks key ≡ true)) (stands.current t) current)
      where
        by : (o : Option (List Key)) → current_keys t past ≡ o → IsSomeAnd (option_map has o) (λ (ks : Keys). ks key ≡ true) → is_dropped_by commit t ≡ true
        by None is holds = absurd holds
        by (Some ks) is holds = tied t key here (current_row t ks is) (by_current ks is (has_contains ks key holds))
    by_tie key t here (inr (inr (own, counting, was_told))) =
        let counts_here : stream.counts t h ≡ true = sym (before.counting t) ∙ ap (counts t) (sym stands.past) ∙ counting in
        let inside = (before.tells t key counts_here).0 (ap (λ x. told t x key) (sym stands.past) ∙ was_told) in
        ⊎_elim
        (λ there. tied t key here there (by_told counts_here inside))
        (λ odd. absurd (true≢false (sym (sym (ap (λ f. f t) listens) ∙ own) ∙ odd_unlistened t odd)))
        (asked_known t (counts_live t h counts_here).0)

    odd_rowless : (t : Id) → is_odd t ≡ true → tuple_at state.rows t ≡ None
    odd_rowless t odd = by (row_of state.rows t) refl
      where
        by : (o : Option Row) → row_of state.rows t ≡ o → option_and_then tuple_in o ≡ None
        by None is = refl
        by (Some row) is = absurd (true≢false (sym (row_even t row (row_back t row is)) ∙ odd_unlistened t odd))

    told_odd : (t : Id) → is_told_dropped commit past t ≡ true → is_odd t ≡ true
    told_odd t dropping = running_odd t past (and_parts (is_running t (limbo_of past)) _ dropping).0

    rows_then : (t : Id) → tuple_at (committed state (Drop keys those)).rows t ≡ (if resets t || lists ids t then None else tuple_at state.rows t)
    rows_then t = blanked_tuple those t ∙ by (is_dropped_by commit t) (is_told_dropped commit past t) (lists ids t) refl refl refl
        ∙ ap (λ (b : Bool). if (b || (is_dropped_by commit t || is_told_dropped commit past t)) || lists ids t then None else tuple_at state.rows t) (sym (unmatched t))
      where
        by : (a b d : Bool) → is_dropped_by commit t ≡ a → is_told_dropped commit past t ≡ b → lists ids t ≡ d → (if a then None else tuple_at state.rows t) ≡ (if (a || b) || d then None else tuple_at state.rows t)
        by true b d is other ended = refl
        by false true d is other ended = odd_rowless t (told_odd t other)
        by false false true is other ended = rowless state row_there row_back blanked_tuple those t (λ row n at there. (blanks.each n).1 ((row, there), inl (subst (Contains ids) at (lists_contains ids t ended)))) is
        by false false false is other ended = refl

    current_then : (t : Id) → wanted t ≡ true → (lists ids t ≡ true → ⊥) → told_by t (hears m) commit h (current_keys t past) ≡ (if resets t || lists ids t then None else current_keys t past)
    current_then t wants unended =
        end_told h m ids it first some commit t (current_keys t past)
        ∙ by (is_dropped_by commit t) (is_told_dropped commit past t) (lists ids t) refl refl refl
        ∙ ap (λ (b : Bool). if (b || (is_dropped_by commit t || is_told_dropped commit past t)) || lists ids t then None else current_keys t past) (sym (unmatched t))
      where
        by : (a b d : Bool) → is_dropped_by commit t ≡ a → is_told_dropped commit past t ≡ b → lists ids t ≡ d → (if a then None else current_keys t past) ≡ (if (a || b) || d then None else current_keys t past)
        by true b d is other ended = refl
        by false true d is other ended = let there = wanted_row t wants in absurd (true≢false (sym (row_even t there.0 there.1) ∙ odd_unlistened t (told_odd t other)))
        by false false true is other ended = absurd (unended ended)
        by false false false is other ended = refl

    pub dropped_reaches : RowsBack commit → ((t : Id) → Contains ids t → wanted t ≡ true → ⊥)
        → ((t : Id) → resets t ≡ true → removed t ≡ stream.is_asked_in t (came m ∷ h))
        → (d : Client) × Reaches s c d × TakenBy d (after state commit) wanted (hears m) commit (λ t. resets t && removed t) past
    dropped_reaches back unwanted removes =
        resets_reaches s c state past stands m wanted resets removed (lists ids) behind.asks removes (end_gone h m ids it first some commit) (has keys) commit (
          subst (λ (y : ListenResponse). IsReset s (message_of y) (λ t. resets t || lists ids t)) (sym it.is) (remove_resets s it.change (λ t. resets t || lists ids t) it.removes),
          λ key t here tie. tied_reset t (by_tie key t (has_contains keys key here) tie),
        )
        (drop_entry keys those) refl rows_then back
        (λ t wants. current_then t wants (λ listed. unwanted t (lists_contains ids t listed) wants))
        (end_waits h m ids it first some commit)
