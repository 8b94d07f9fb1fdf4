-- an event that is heard is a short list of allowed turns
use Rattle.std.proofs.Common.{◌≡◌, ⊎_elim, ℕ, ℤ, Bool, true, ◌&&◌, List, ◌∷◌, map as each, Option, Some, None, refl, sym, ap, subst, ◌∙◌}
use Rattle.std.specs.List.{Contains}
use Rattle.std.proofs.lemmas.Bool.{true≢false}
use Rattle.agreement.specs.Backend.{Id, Setting}
use Rattle.agreement.specs.Client.{Client}
use Rattle.client_events.specs.declared.event.Event.TheVariants as event
use Rattle.document_keys.specs.Names.{Root}
use Rattle.listen_protocol.specs.Calls.{came}
use Rattle.listen_protocol.specs.Transcript.{is_asked_in}
use Rattle.durable_state.specs.State.{State}
use Rattle.record_codec.specs.declared.commit.Commit.{Commit}
use Rattle.value_model.specs.declared.document.RpcStatus.{RpcStatus}
use Rattle.value_model.specs.declared.message.ListenResponse.{ListenResponse}
use Rattle.client_turns.proofs.Ones.{answers_one}
use Rattle.client_turns.specs.Asking.{resets_by}
use Rattle.client_turns.specs.Hearing.{AreListenersOf}
use Rattle.client_turns.specs.Lines.{error}
use Rattle.client_turns.specs.Order.{AreHeard, now}
use Rattle.client_turns.specs.Past.{Entry, Past, Turn}
use Rattle.client_turns.specs.Settling.{HasTargetRow}
use Rattle.client_turns.specs.Turn.{is_heard}
use Rattle.client_turns.specs.declared.refusal.Refusal.{Refusal}
use Rattle.client_turns.specs.Answers.{Answers}
use Rattle.client_turns.specs.Turns.{after}
use Rattle.client_turns.specs.Watching.{calls_by, calls_of, hears, is_point, is_wanted, is_watched, open_by, step_by, step_of}
use Rattle.client_agreement.proofs.AlikePast.{alike_heard, alike_transcript}
use Rattle.client_agreement.proofs.Taking.{Takes, event_done}
use Rattle.client_agreement.proofs.GoingOut.{SameAsked, goes_out, passed_asked, reset_by, reset_removed}
use Rattle.client_agreement.proofs.EventKinds.{IsMessage, message_allocates}
use Rattle.client_agreement.proofs.Listening.{answered_turn, ended_unwanted, wanted_row}
use Rattle.client_agreement.proofs.Moments.{brings_answered, spelled_calls}
use Rattle.client_agreement.proofs.Parts.{Parts, parts}
use Rattle.client_agreement.proofs.Reaching.{Reaches, reach_then}
use Rattle.client_agreement.proofs.Rows.{row_back, row_even, row_is}
use Rattle.client_agreement.specs.Durable.{is_listener}
use Rattle.client_agreement.specs.Honest.{AcknowledgesTruly}
use Rattle.client_agreement.specs.Laws.{EventsAreTurns, Goes}
use Rattle.client_agreement.specs.Standing.{AreSpelled, IsWellMade, StandsAs}
use Rattle.client_agreement.specs.Transcript.{is_removed_in}

pub goes_then : {s : Setting} {c d : Client} {state : State} {past : Past} → Reaches s c d → Goes s d state past → Goes s c state past
goes_then {s} {c} {d} {state} {past} first goes =
    let all = reach_then s first (record { turns = goes.turns; allowed = goes.allowed; is = refl }) in
    record { turns = all.turns; allowed = all.allowed; stands = subst (λ (x : Client). StandsAs x state past) (sym all.is) goes.stands }

module _ (s : Setting) (root : Root) (first : State) (e : Entry) (past : Past) (c : Client) (listens : s.listens ≡ is_listener) (well : IsWellMade first)
    (spelled : AreSpelled (e ∷ past)) (heard : AreHeard root first (e ∷ past)) (truly : AcknowledgesTruly s e.state e.turn.commit) (stands : StandsAs c (now first past) past) where
  p : Parts root e.state past e.event e.turn
  p = parts root e.state past e.event e.turn heard.1.turn heard.1.heard

  same : SameAsked past
  same = record { before = (alike_transcript root first past heard.0).asks; heard = λ m. (alike_heard root first past heard.0 m).asks }

  rows_there : (t : Id) → is_wanted t (e ∷ past) ≡ true → HasTargetRow (after e.state e.turn.commit).rows t
  rows_there = wanted_row root first (e ∷ past) heard

  answer_heard : is_heard p.answer.refusal ≡ true
  answer_heard = ap is_heard (sym p.refusal) ∙ heard.1.heard

  -- a message gives no row to a target
  rows_before : (t : Id) → is_wanted t (e ∷ past) ≡ true → IsMessage e.event → HasTargetRow e.state.rows t
  rows_before t wants is_message = by e.turn.commit refl (rows_there t wants)
    where
      by : (commit : Option Commit) → e.turn.commit ≡ commit → HasTargetRow (after e.state commit).rows t → HasTargetRow e.state.rows t
      by None is there = there
      by (Some commit) is there = ⊎_elim
          (λ old. (old.0, old.1))
          (λ made. absurd (message_allocates e.state past e.event p.answer p.answers answer_heard is_message made.number made.target (sym p.commit ∙ is ∙ ap (λ (x : Commit). Some x) made.allocates)))
          (row_back e.state commit t there.0 there.1)

  unwanted : (ids : List ℤ) (status : RpcStatus) (listeners : List ℕ) → AreListenersOf past ids listeners → p.answer.lines ≡ each (λ l. error l status) listeners → (t : Id) → Contains ids t → is_wanted t (e ∷ past) ≡ true → ⊥
  unwanted ids status listeners are lines t here wants =
      let a = answered_turn root e.state past e.event e.turn heard.1.turn in
      let same_answer : a.answer ≡ p.answer = answers_one e.state past e.event a.answer p.answer a.answers p.answers in
      true≢false (sym wants ∙ ended_unwanted root past e a ids status listeners are (ap (λ (x : Turn). x.lines) same_answer ∙ lines) t here)

  stands_here : StandsAs c e.state past
  stands_here = subst (λ (x : State). StandsAs c x past) (sym heard.1.state) stands

  -- the removes of what a message resets
  removes : (m : ListenResponse) → e.event ≡ event.Watch m → p.answer.refusal ≡ None → is_watched past ≡ true → (t : Id) → resets_by (event.Watch m) p.answer.commit past t ≡ true
      → is_removed_in e.turn.lines t ≡ is_asked_in t (came m ∷ calls_of past)
  removes m is fine watched t resets =
      reset_removed s root e past p same (ap (λ x. open_by x (is_watched past)) (ap (step_by e.event) p.settled_refusal ∙ step) ∙ watched) t ((λ i. resets_by (is i) (p.commit i) past t) ∙ resets)
      ∙ ap (λ x. is_asked_in t (calls_by x e.turn.commit (calls_of past))) step
      ∙ passed_asked t (is_point m) e.turn.commit (came m ∷ calls_of past)
    where
      step : step_of e ≡ hears m
      step = λ i. step_by (is i) ((p.refusal ∙ fine) i)

  answers_here : Answers (now first past) past e.event p.answer
  answers_here = subst (λ (x : State). Answers x past e.event p.answer) heard.1.state p.answers

  truly_here : AcknowledgesTruly s (now first past) p.answer.commit
  truly_here = subst (λ (x : State). AcknowledgesTruly s x p.answer.commit) heard.1.state (subst (AcknowledgesTruly s e.state) p.commit truly)

  abbrev wanted : Id → Bool
  wanted t = is_wanted t (e ∷ past)

  abbrev removed : Id → Bool
  removed = is_removed_in e.turn.lines

  done : Takes s c (after (now first past) p.answer.commit) wanted (step_by e.event p.answer.refusal) p.answer.commit (λ t. resets_by e.event p.answer.commit past t && removed t) past
  done = event_done s listens root first past c well spelled.1 heard.0 stands wanted removed e.event p.answer spelled.0 truly_here
      (brings_answered (now first past) past e.event p.answer spelled.0 (spelled_calls past spelled.1) answers_here)
      (λ t wants is. subst (λ (x : State). HasTargetRow x.rows t) heard.1.state (rows_before t wants is)) unwanted removes answers_here answer_heard

  taken : Takes s c (after e.state e.turn.commit) wanted (step_of e) e.turn.commit (reset_by e past) past
  taken =
      subst (λ (r : Option Refusal). Takes s c (after e.state e.turn.commit) wanted (step_by e.event r) e.turn.commit (reset_by e past) past) (sym p.refusal)
      (subst (λ (commit : Option Commit). Takes s c (after e.state commit) wanted (step_by e.event p.answer.refusal) commit (λ t. resets_by e.event commit past t && removed t) past) (sym p.commit)
      (subst (λ (x : State). Takes s c (after x p.answer.commit) wanted (step_by e.event p.answer.refusal) p.answer.commit (λ t. resets_by e.event p.answer.commit past t && removed t) past) (sym heard.1.state) done))

  pub event_goes : Goes s c (after e.state e.turn.commit) (e ∷ past)
  event_goes = goes_then taken.1 (goes_out s root e past p same (λ id row. (row_is (after e.state e.turn.commit).rows id row).0) (λ id row. row_even (after e.state e.turn.commit).rows id row) rows_there taken.0 taken.2)

pub events_are_turns : EventsAreTurns
events_are_turns s root first e past c listens well spelled heard truly stands = event_goes s root first e past c listens well spelled heard truly stands
