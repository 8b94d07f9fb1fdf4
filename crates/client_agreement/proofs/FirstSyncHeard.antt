-- The events of a first sync are heard one after another.
use Rattle.std.proofs.Common.{◌≡◌, ◌∙◌, inr, ℕ, ℤ, pos, Bool, true, false, ◌&&◌, ◌||◌, not, ◌==◌, nat_eq, List, [], ◌∷◌, length, Some, None, refl, sym, ap, subst, if◌then◌else◌, arith}
use Rattle.std.specs.List.{AllPairs}
use Rattle.std.specs.Ordering.{int_eq}
use Rattle.std.proofs.lemmas.Bool.{false≢true, true≢false}
use Rattle.std.proofs.lemmas.Bool.Decides.{Decides-int_eq}
use Rattle.std.proofs.lemmas.Option.{none-some}
use Rattle.client_events.specs.declared.event.Event.TheVariants as event
use Rattle.durable_state.specs.State.{start}
use Rattle.target_cache.specs.Cache.{HasTarget, blank}
use Rattle.client_turns.specs.Asking.{resets_by}
use Rattle.client_turns.specs.Hearing.{nothing}
use Rattle.client_turns.specs.Lines.{listening}
use Rattle.client_turns.specs.Order.{AreHeard}
use Rattle.client_turns.specs.Past.{Past, listener}
use Rattle.client_turns.specs.Settling.{AreInLimbo, IsBelow, Settles, Shows, ShowsInLimbo, Stance, stance_of}
use Rattle.client_turns.specs.Turn.{IsTurn, answered_next}
use Rattle.client_agreement.proofs.FirstSyncAlone.{IsAlone, alone_limbo, alone_settles, asks_first, asks_none, chosen_none}
use Rattle.client_agreement.proofs.FirstSyncRun.{adds, allocates, catches_up, listening_state, listens, opens, past_added, past_current, past_listening, past_open, past_sent, query, quiet_turn, root, sends, waiting_view}
use Rattle.client_agreement.proofs.FirstSyncShown.{shows_waiting, waiting_limbo, waiting_stance}

-- ---- where nothing is raised

none_told : AllPairs IsBelow []
none_told i j d less inside = absurd (omega (arith, inside))

-- the listener waits
record IsWaiting (next : Past) : Type 0 where
  pub alone : IsAlone (λ id. listener id next) waiting_view
  pub stance : stance_of next 1 ≡ waiting_stance

waiting_settles : (next : Past) → IsWaiting next → Settles root listening_state (stance_of next) (λ id. listener id next) []
waiting_settles next waits = alone_settles root listening_state (stance_of next) (λ id. listener id next) waiting_view [] waits.alone none_told
    (subst (λ (s : Stance). Shows root listening_state s waiting_view None) (sym waits.stance) shows_waiting) (λ id other. refl)

waiting_none : (next : Past) → IsWaiting next → AreInLimbo root listening_state (stance_of next) (λ id. listener id next) []
waiting_none next waits = alone_limbo root listening_state (stance_of next) (λ id. listener id next) waiting_view waits.alone
    (λ key it. waiting_limbo key (subst (λ (s : Stance). ShowsInLimbo root listening_state s key waiting_view) waits.stance it))

-- ---- the listener begins

begun_next : Past
begun_next = answered_next start [] (event.Listen 1 query) (record { refusal = None; commit = Some allocates; lines = listening 1 (pos 2) 1 ∷ []; limbo = [] })

begun_waits : IsWaiting begun_next
unfolding begun_next
begun_waits = record { alone = record { there = refl; others = λ id other. chosen_none id (Some waiting_view) other }; stance = refl }

none_has : (id : ℤ) → HasTarget [] query id → ⊥
none_has id it = none-some it.row it.of_id.there

listens_turn : IsTurn root start [] listens.event listens.turn
unfolding begun_next
listens_turn = record {
  settled = listens.turn;
  is_settled = record {
    answer = listens.turn;
    answers = (None, none_has, refl);
    settles = record { told = []; settles = waiting_settles begun_next begun_waits; is = refl };
  };
  limbo = [];
  in_limbo = waiting_none begun_next begun_waits;
  asked = [];
  asks = refl;
  is = refl;
}

pub heard_listening : AreHeard root start past_listening
heard_listening = (tt, record { state = refl; turn = listens_turn; heard = refl })

-- ---- the stream opens

alone_chosen : (id : ℕ) → (1 ≡ id → ⊥) → (if nat_eq 1 id then Some waiting_view else None) ≡ None
alone_chosen id other = chosen_none id (Some waiting_view) other

or_none : (b : Bool) → (b || false) ≡ b
or_none true = refl
or_none false = refl

-- two tests that hold of the same
both_same : (b c : Bool) → (b ≡ true → c ≡ true) → (c ≡ true → b ≡ true) → b ≡ c
both_same true c there back = sym (there refl)
both_same false true there back = back refl
both_same false false there back = refl

pub turned_id : (t : ℤ) → int_eq t (pos 2) ≡ int_eq (pos 2) t
turned_id t = both_same (int_eq t (pos 2)) (int_eq (pos 2) t) (λ is. (Decides-int_eq (pos 2) t).1 (sym ((Decides-int_eq t (pos 2)).0 is))) (λ is. (Decides-int_eq t (pos 2)).1 (sym ((Decides-int_eq (pos 2) t).0 is)))

opened_next : Past
opened_next = answered_next listening_state past_listening opens.event quiet_turn

opened_waits : IsWaiting opened_next
unfolding opened_next
opened_waits = record { alone = record { there = refl; others = alone_chosen }; stance = refl }

opens_turn : IsTurn root listening_state past_listening opens.event opens.turn
unfolding opened_next
opens_turn = record {
  settled = quiet_turn;
  is_settled = record {
    answer = quiet_turn;
    answers = refl;
    settles = record { told = []; settles = waiting_settles opened_next opened_waits; is = refl };
  };
  limbo = [];
  in_limbo = waiting_none opened_next opened_waits;
  asked = opens.turn.lines;
  asks = asks_first listening_state opened_next (resets_by opens.event None past_listening) (blank query) (λ t. refl) (λ t. or_none (int_eq (pos 2) t)) (λ t. refl) (record { place = 0; is = refl; there = refl });
  is = refl;
}

pub heard_open : AreHeard root start past_open
heard_open = (heard_listening, record { state = refl; turn = opens_turn; heard = refl })

-- ---- messages that nothing comes of

-- the target is asked exactly where it is wanted, once it was asked
abbrev pub asked_by : Bool → Bool
asked_by b = (b || false) && not ((if b then 1 else 0) == 0)

pub asked_same : (b c : Bool) → b ≡ c → asked_by b ≡ (c || false)
asked_same true true is = refl
asked_same true false is = absurd (true≢false is)
asked_same false true is = absurd (false≢true is)
asked_same false false is = refl

no_time : (change_ids : List ℤ) (id : ℤ) → change_ids ≡ id ∷ [] → change_ids ≡ [] → ⊥
no_time change_ids id one none = let never : id ∷ [] ≡ [] = sym one ∙ none in omega (arith, ap length never)

added_next : Past
added_next = answered_next listening_state past_open (event.Watch adds) quiet_turn

added_waits : IsWaiting added_next
unfolding added_next
added_waits = record { alone = record { there = refl; others = alone_chosen }; stance = refl }

adds_turn : IsTurn root listening_state past_open (event.Watch adds) quiet_turn
unfolding added_next
adds_turn = record {
  settled = quiet_turn;
  is_settled = record {
    answer = quiet_turn;
    answers = nothing (inr (refl, λ at it. no_time (pos 2 ∷ []) (pos 2) refl it.all)) refl;
    settles = record { told = []; settles = waiting_settles added_next added_waits; is = refl };
  };
  limbo = [];
  in_limbo = waiting_none added_next added_waits;
  asked = [];
  asks = asks_none listening_state added_next (resets_by (event.Watch adds) None past_open) (λ t. asked_same (int_eq t (pos 2)) (int_eq (pos 2) t) (turned_id t)) (λ t. refl) (λ t. refl);
  is = refl;
}

pub heard_added : AreHeard root start past_added
heard_added = (heard_open, record { state = refl; turn = adds_turn; heard = refl })

sent_next : Past
sent_next = answered_next listening_state past_added (event.Watch sends) quiet_turn

sent_waits : IsWaiting sent_next
unfolding sent_next
sent_waits = record { alone = record { there = refl; others = alone_chosen }; stance = refl }

sends_turn : IsTurn root listening_state past_added (event.Watch sends) quiet_turn
unfolding sent_next
sends_turn = record {
  settled = quiet_turn;
  is_settled = record {
    answer = quiet_turn;
    answers = nothing refl refl;
    settles = record { told = []; settles = waiting_settles sent_next sent_waits; is = refl };
  };
  limbo = [];
  in_limbo = waiting_none sent_next sent_waits;
  asked = [];
  asks = asks_none listening_state sent_next (resets_by (event.Watch sends) None past_added) (λ t. asked_same (int_eq t (pos 2)) (int_eq (pos 2) t) (turned_id t)) (λ t. refl) (λ t. refl);
  is = refl;
}

pub heard_sent : AreHeard root start past_sent
heard_sent = (heard_added, record { state = refl; turn = sends_turn; heard = refl })

current_next : Past
current_next = answered_next listening_state past_sent (event.Watch catches_up) quiet_turn

current_waits : IsWaiting current_next
unfolding current_next
current_waits = record { alone = record { there = refl; others = alone_chosen }; stance = refl }

catches_up_turn : IsTurn root listening_state past_sent (event.Watch catches_up) quiet_turn
unfolding current_next
catches_up_turn = record {
  settled = quiet_turn;
  is_settled = record {
    answer = quiet_turn;
    answers = nothing (inr (refl, λ at it. no_time (pos 2 ∷ []) (pos 2) refl it.all)) refl;
    settles = record { told = []; settles = waiting_settles current_next current_waits; is = refl };
  };
  limbo = [];
  in_limbo = waiting_none current_next current_waits;
  asked = [];
  asks = asks_none listening_state current_next (resets_by (event.Watch catches_up) None past_sent) (λ t. asked_same (int_eq t (pos 2)) (int_eq (pos 2) t) (turned_id t)) (λ t. refl) (λ t. refl);
  is = refl;
}

pub heard_current : AreHeard root start past_current
heard_current = (heard_sent, record { state = refl; turn = catches_up_turn; heard = refl })
