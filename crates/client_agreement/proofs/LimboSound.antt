-- The listens of documents in limbo stay sound, whatever is heard.
use Rattle.std.proofs.Common.{◌≡◌, ◌∙◌, ℕ, ℤ, Bool, true, false, not, ◌&&◌, ◌||◌, List, [], ◌∷◌, refl, sym, ap, subst, arith}
use Rattle.std.specs.Prelude.{if◌then◌else◌}
use Rattle.std.specs.List.{filter}
use Rattle.std.specs.Ordering.{int_eq}
use Rattle.std.proofs.lemmas.Bool.Decides.{Decides-int_eq}
use Rattle.client_events.specs.declared.event.Event.{Event as Happening}
use Rattle.document_keys.specs.KeySet.{IsAscending}
use Rattle.document_keys.specs.Names.{Root}
use Rattle.limbo_listens.proofs.Laws.{first_sound, update_sound}
use Rattle.limbo_resolver.proofs.Sound.{stay_sound}
use Rattle.limbo_resolver.specs.Laws.{IsSound, Rises}
use Rattle.limbo_resolver.specs.Limbo.{Key, Limbo, started}
use Rattle.listen_protocol.specs.Calls.{Calls, lists}
use Rattle.listen_protocol.specs.Transcript as stream
use Rattle.durable_state.specs.State.{State}
use Rattle.client_turns.proofs.Refused.{without_ids, without_sound}
use Rattle.client_turns.specs.LimboListens.{going_on, limbo_of, without_all}
use Rattle.client_turns.specs.Order.{AreHeard}
use Rattle.client_turns.specs.Past.{Entry, Past, Turn}
use Rattle.client_turns.specs.Turn.{IsTurn, LimboBehind, is_heard}
use Rattle.client_turns.specs.Watching.{WatchStep, calls_of, step_of}
use Rattle.client_agreement.proofs.GoingOn.{but_ended, going_keeps}
use Rattle.client_agreement.specs.LimboListens.{LimboListensStaySound, limbo_at}

lists_filtered : (f : ℤ → Bool) (ids : List ℤ) (t : ℤ) → lists (filter f ids) t ≡ (lists ids t && f t)
lists_filtered f [] t = refl
lists_filtered f (x ∷ ids) t = by (f x) refl (int_eq x t) refl (lists_filtered f ids t)
  where
    none : (b : Bool) → (b && false) ≡ false
    none true = refl
    none false = refl

    by : (b : Bool) → f x ≡ b → (c : Bool) → int_eq x t ≡ c → lists (filter f ids) t ≡ (lists ids t && f t) → lists (if b then x ∷ filter f ids else filter f ids) t ≡ ((c || lists ids t) && f t)
    by true is true same rest = ap (λ d. d || lists (filter f ids) t) same ∙ sym (ap f (sym ((Decides-int_eq x t).0 same)) ∙ is)
    by true is false other rest = ap (λ d. d || lists (filter f ids) t) other ∙ rest
    by false is true same rest = let off : f t ≡ false = ap f (sym ((Decides-int_eq x t).0 same)) ∙ is in rest ∙ ap (λ d. lists ids t && d) off ∙ none (lists ids t) ∙ sym off
    by false is false other rest = rest

ended_sound : (h : Calls) (ids : List ℤ) (limbo : Limbo) → IsSound limbo → IsSound (but_ended h ids limbo)
ended_sound h ids limbo sound = subst (λ (ps : List (ℤ × Key)). IsSound (record limbo { running = ps })) same (without_sound (filter (λ t. stream.is_live t h) ids) limbo sound)
  where
    same : without_all (filter (λ t. stream.is_live t h) ids) limbo.running ≡ filter (λ p. not (lists ids p.0 && stream.is_live p.0 h)) limbo.running
    same = without_ids (filter (λ t. stream.is_live t h) ids) limbo sound ∙ (λ i. filter (λ p. not (lists_filtered (λ t. stream.is_live t h) ids p.0 i)) limbo.running)

going_sound : (h : Calls) (step : WatchStep) (limbo : Limbo) → IsSound limbo → IsSound (going_on h step limbo)
going_sound h step limbo = going_keeps IsSound h limbo (λ ids. ended_sound h ids limbo) step

limbo_ascends : (root : Root) (s : State) (past : Past) (e : Happening) (t : Turn) (heard : Bool) (keys : List Key) → LimboBehind root s past e t heard keys → IsAscending keys
limbo_ascends root s past e t true keys it = it.ascending
limbo_ascends root s past e t false keys it = subst IsAscending (sym it) (λ i j d less inside. absurd (omega (arith, inside)))

entry_sound : (past : Past) (e : Entry) → IsAscending e.turn.limbo → IsSound (limbo_of past) → IsSound (limbo_of (e ∷ past))
entry_sound past e ascending sound = update_sound e.turn.limbo (going_on (calls_of past) (step_of e) (limbo_of past)) ascending (going_sound (calls_of past) (step_of e) (limbo_of past) sound)

turn_ascends : (root : Root) (s : State) (past : Past) (e : Happening) (t : Turn) (it : IsTurn root s past e t) → IsAscending it.limbo
turn_ascends root s past e t it = limbo_ascends root s past e it.settled (is_heard it.settled.refusal) it.limbo it.in_limbo

limbo_sound : (root : Root) (first : State) (past : Past) → AreHeard root first past → IsSound (limbo_of past)
limbo_sound root first [] heard = first_sound
limbo_sound root first (e ∷ past) heard =
    entry_sound past e (subst IsAscending (sym (ap (λ (x : Turn). x.limbo) heard.1.turn.is)) (turn_ascends root e.state past e.event e.turn heard.1.turn)) (limbo_sound root first past heard.0)

-- ---- the next id stays where nothing starts

going_next : (h : Calls) (step : WatchStep) (limbo : Limbo) → (going_on h step limbo).next ≡ limbo.next
going_next h step limbo = going_keeps (λ l. l.next ≡ limbo.next) h limbo (λ ids same. same) step refl

fresh_ids : (root : Root) (first : State) (e : Entry) (past : Past) → AreHeard root first (e ∷ past) → Rises (limbo_of past).next (started e.turn.limbo (limbo_at e past)) (limbo_of (e ∷ past)).next
fresh_ids root first e past heard =
    subst (λ (n : ℕ). Rises n (started e.turn.limbo (limbo_at e past)) (limbo_of (e ∷ past)).next) (going_next (calls_of past) (step_of e) (limbo_of past))
    (stay_sound.fresh e.turn.limbo (limbo_at e past) (going_sound (calls_of past) (step_of e) (limbo_of past) (limbo_sound root first past heard.0)))

pub limbo_listens_sound : LimboListensStaySound
limbo_listens_sound = record { sound = limbo_sound; fresh = fresh_ids }
