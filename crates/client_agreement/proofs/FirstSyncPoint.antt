-- The point of a first sync is heard: what it commits, and the snapshot that it raises.
use Rattle.std.proofs.Common.{◌≡◌, ◌∙◌, ◌↔◌, inl, inr, ℕ, suc, zero, ℤ, pos, Bool, true, false, cond, [], ◌∷◌, length, Option, Some, None, option_map, refl, sym, ap, subst, arith}
use Rattle.std.specs.FinMap as finite
use Rattle.std.specs.List.{Contains}
use Rattle.std.specs.Ordering.{int_eq}
use Rattle.std.proofs.lemmas.Bool.{false≢true}
use Rattle.std.proofs.lemmas.Option.{none-some}
use Rattle.std.proofs.lemmas.Bool.Decides.{Decides-int_eq}
use Rattle.client_events.specs.declared.event.Event.TheVariants as event
use Rattle.document_keys.specs.KeySet.{is_key}
use Rattle.listen_protocol.specs.Buffer.{buffered}
use Rattle.listen_protocol.specs.Calls.{Calls, Key, came}
use Rattle.listen_protocol.specs.ToldKeys.{told_keys}
use Rattle.listen_protocol.specs.Transcript.{counts, document_of, token_in}
use Rattle.durable_state.specs.State.{start}
use Rattle.outcome_codec.specs.declared.parts.KeyedEntry.{KeyedEntry}
use Rattle.outcome_codec.specs.declared.parts.PointRow.{PointRow}
use Rattle.remote_documents.proofs.Maps.{order, turned}
use Rattle.target_cache.specs.Cache.{blank}
use Rattle.value_model.specs.declared.document.Entry.{Entry}
use Rattle.value_model.specs.declared.document.Entry.TheVariants.{Found}
use Rattle.value_model.specs.declared.document.Seal.{Seal}
use Rattle.watch_points.specs.PointCommit.{GetsEntry, IsPointCommit, IsPointRow, Misses, Puts, entry_among}
use Rattle.client_turns.specs.Asking.{resets_by}
use Rattle.client_turns.specs.Hearing.{point as at_point}
use Rattle.client_turns.specs.Order.{AreHeard}
use Rattle.client_turns.specs.Past.{Past, Turn, listener, told as shown_by}
use Rattle.client_turns.specs.Settling.{AreInLimbo, Settles, Shows, ShowsInLimbo, Stance, stance_of}
use Rattle.client_turns.specs.Turn.{IsTurn, answered_next}
use Rattle.client_turns.specs.Watching.{calls_of}
use Rattle.client_agreement.proofs.FirstSyncAlone.{IsAlone, alone_limbo, alone_settles, asks_none, chosen_none}
use Rattle.client_agreement.proofs.FirstSyncHeard.{asked_same, heard_current, turned_id}
use Rattle.client_agreement.proofs.FirstSyncRun.{entries, first_moment, key_a, listening_state, past_current, past_synced, point, points, query, raised, root, rows, second_moment, syncs, synced_state, synced_view, told, waiting_view}
use Rattle.client_agreement.proofs.FirstSyncShown.{shows_synced, synced_limbo, synced_stance}

-- ---- what the point commits

-- the calls with the point
abbrev calls : Calls
calls = came point ∷ calls_of past_current

counts_two : (t : ℤ) → counts t calls ≡ true → t ≡ pos 2
counts_two t counting = by (int_eq t (pos 2)) refl counting
  where
    by : (b : Bool) → int_eq t (pos 2) ≡ b → counts t calls ≡ true → t ≡ pos 2
    by true is h = (Decides-int_eq t (pos 2)).0 is
    by false is h = absurd (false≢true (rw is at h))

-- no target asks for one document
none_missed : (key : Key) (put : Option Entry) → Misses listening_state calls second_moment key put → ⊥
none_missed key put it =
    let lacks = it.lacked.1 in
    none-some key (subst (λ (i : ℤ). document_of i calls ≡ Some key) (counts_two it.lacked.0 lacks.counting) lacks.document)

puts_any : (found : Option Entry) → Puts None found found
puts_any None = refl
puts_any (Some entry) = inl (refl, tt)

-- what is put is what waits
same_entry : (key : Key) → entry_among entries key ≡ buffered key calls
same_entry key = by (is_key key key_a) (is_key key_a key) (turned key_a key)
  where
    by : (b c : Bool) → b ≡ c → option_map (λ (e : KeyedEntry). e.entry) (cond b (Some (record { key = key_a; entry = Found [] first_moment })) None) ≡ cond c (Some (Found [] first_moment)) None
    by true true is = refl
    by false false is = refl
    by true false is = absurd (false≢true (sym is))
    by false true is = absurd (false≢true is)

gets_entry : (key : Key) → GetsEntry listening_state calls second_moment key (entry_among entries key)
gets_entry key = record {
  put = buffered key calls;
  puts = subst (λ (known : Option (Entry × Seal)). Puts known (buffered key calls) (buffered key calls)) (sym (finite.get-empty order key)) (puts_any (buffered key calls));
  then_gets = inr (same_entry key, none_missed key (buffered key calls));
}

row_two : IsPointRow listening_state calls (record { id = 2; token = 1 ∷ []; keys = key_a ∷ [] })
row_two = record {
  known = (blank query, record { place = 0; is = refl; there = refl });
  counting = refl;
  current = refl;
  token = refl;
  some = λ same. let lengths : 1 ≡ 0 = ap length same in omega (arith, lengths);
  told = refl;
}

same_number : (a b : ℕ) → pos a ≡ pos b → a ≡ b
same_number a b same = cc

is_row : (row : PointRow) → Contains rows row ↔ IsPointRow listening_state calls row
is_row row = (there, back)
  where
    there : Contains rows row → IsPointRow listening_state calls row
    there (zero, inside, same) = subst (IsPointRow listening_state calls) same row_two
    there (suc k, inside, same) = absurd (omega (arith, inside))

    back : IsPointRow listening_state calls row → Contains rows row
    back it =
        let two : row.id ≡ 2 = same_number row.id 2 (counts_two (pos row.id) it.counting) in
        let token : row.token ≡ 1 ∷ [] = it.token ∙ ap (λ (n : ℕ). token_in (pos n) calls) two in
        let keys : row.keys ≡ key_a ∷ [] = it.told ∙ ap (λ (n : ℕ). told_keys (pos n) calls) two in
        (0, omega arith, λ i. record { id = sym two i; token = sym token i; keys = sym keys i })

commits : IsPointCommit listening_state calls second_moment entries rows
commits = record {
  keys_ascend = λ i j d less inside. absurd (omega (arith, less, inside));
  gets = gets_entry;
  ids_ascend = λ i j d less inside. absurd (omega (arith, less, inside));
  has = is_row;
}

-- ---- the snapshot

committed_turn : Turn
committed_turn = record { refusal = None; commit = Some points; lines = []; limbo = [] }

-- the event with its answer, and with the snapshot behind it
answered_past : Past
answered_past = answered_next listening_state past_current (event.Watch point) committed_turn

settled_past : Past
settled_past = answered_next listening_state past_current (event.Watch point) syncs.turn

answered_alone : IsAlone (λ id. listener id answered_past) waiting_view
unfolding answered_past committed_turn
answered_alone = record { there = refl; others = λ id other. chosen_none id (Some waiting_view) other }

settled_alone : IsAlone (λ id. listener id settled_past) synced_view
unfolding settled_past
settled_alone = record { there = refl; others = λ id other i. shown_by (chosen_none id (Some raised) other i) (chosen_none id (Some waiting_view) other i) }

answered_stance : stance_of answered_past 1 ≡ synced_stance
unfolding answered_past committed_turn
answered_stance = refl

settled_stance : stance_of settled_past 1 ≡ synced_stance
unfolding settled_past
settled_stance = refl

settles : Settles root synced_state (stance_of answered_past) (λ id. listener id answered_past) (told ∷ [])
settles = alone_settles root synced_state (stance_of answered_past) (λ id. listener id answered_past) waiting_view (told ∷ []) answered_alone (λ i j d less inside. absurd (omega (arith, less, inside)))
    (subst (λ (s : Stance). Shows root synced_state s waiting_view (Some raised)) (sym answered_stance) shows_synced) (λ id other. chosen_none id (Some raised) other)

none_in_limbo : AreInLimbo root synced_state (stance_of settled_past) (λ id. listener id settled_past) []
none_in_limbo = alone_limbo root synced_state (stance_of settled_past) (λ id. listener id settled_past) synced_view settled_alone
    (λ key it. synced_limbo key (subst (λ (s : Stance). ShowsInLimbo root synced_state s key synced_view) settled_stance it))

syncs_turn : IsTurn root listening_state past_current (event.Watch point) syncs.turn
unfolding answered_past settled_past committed_turn
syncs_turn = record {
  settled = syncs.turn;
  is_settled = record {
    answer = committed_turn;
    answers = at_point second_moment entries rows (inr (refl, record { all = refl; time = refl })) tt commits refl;
    settles = record { told = told ∷ []; settles = settles; is = refl };
  };
  limbo = [];
  in_limbo = none_in_limbo;
  asked = [];
  asks = asks_none synced_state settled_past (resets_by (event.Watch point) (Some points) past_current) (λ t. asked_same (int_eq t (pos 2)) (int_eq (pos 2) t) (turned_id t)) (λ t. refl) (λ t. refl);
  is = refl;
}

pub heard_synced : AreHeard root start past_synced
heard_synced = (heard_current, record { state = refl; turn = syncs_turn; heard = refl })
