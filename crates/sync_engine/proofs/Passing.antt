-- what a client keeps of the stream of listeners at an event that is none of the stream's
use Rattle.std.proofs.Common.{◌≡◌, ◌⊎◌, ⊎_elim, inl, inr, ℕ, ℤ, Bool, true, false, ◌&&◌, not, List, Option, None, option_map, if◌then◌else◌, refl, sym, ap, subst, ◌∙◌}
use Rattle.std.proofs.lemmas.Bool.{true≢false}
use Rattle.std.proofs.lemmas.Bool.Decides.{Decides-int_eq}
use Rattle.std.specs.Ordering.{int_eq}
use Rattle.client_events.specs.declared.event.Event.{Event}
use Rattle.limbo_resolver.specs.Limbo.{Limbo}
use Rattle.listen_protocol.specs.Calls.{Calls}
use Rattle.listen_protocol.specs.Transcript.{is_asked_in}
use Rattle.local_store.specs.State.{State}
use Rattle.watch_aggregator.specs.Standing.{StandsFor as AggregatorStandsFor}
use Rattle.watch_points.specs.SpelledCalls.{AreSpelledCalls}
use Rattle.sync_engine.specs.declared.watch_stream.Due.{Due}
use Rattle.sync_engine.specs.declared.watch_stream.Due.TheVariants.{Nothing, One, Resets, All}
use Rattle.sync_engine.specs.declared.watch_stream.WatchStream.{WatchStream}
use Rattle.client_turns.specs.LimboListens.{is_sought}
use Rattle.client_turns.specs.Lines.{Line}
use Rattle.client_turns.specs.Past.{Past, Turn}
use Rattle.client_turns.specs.Settling.{current_with}
use Rattle.sync_engine.specs.Standing.{IsDue, Watches, standing_in}
use Rattle.sync_engine.specs.Stream.{Ends}
use Rattle.client_turns.specs.Turn.{answered_next, with_lines}
use Rattle.client_turns.specs.Watching.{WatchStep, begun_in, calls_by, calls_of, current_keys, if_so, is_any_wanted, is_offline, is_wanted, is_watched, listened_in, online_by, online_of, open_by, passes, requested_in, step_by, told_by}
use Rattle.client_turns.proofs.Current.{current_held, if_so_more, and_more, unwanted_current, sought_still}
use Rattle.client_turns.proofs.Reading.{calls_behind, current_behind, sought_behind, wanted_behind}

-- ---- what is sought, and for what a request is due

-- and a request is due for it where one was
pub due_still : (past next : Past) (limbo : Limbo) (x : ℤ) (due : Due) → is_wanted x next ≡ is_wanted x past → IsDue past limbo due x → IsDue next limbo due x
due_still past next limbo x Nothing same is = is
due_still past next limbo x (One t) same is = is
due_still past next limbo x (Resets ids) same is = is
due_still past next limbo x All same is = sought_still past next limbo x same ∙ is

-- ---- an event that is none of the stream's

module _ (s : State) (past : Past) (e : Event) (answer : Turn) (step : step_by e answer.refusal ≡ passes) where
  abbrev next : Past
  next = answered_next s past e answer

  pub opening_passes : is_watched next ≡ is_watched past
  opening_passes = ap (λ (w : WatchStep). open_by w (is_watched past)) step

  pub online_passes : online_of next ≡ online_of past
  online_passes = ap (λ (w : WatchStep). online_by w (is_any_wanted past) (online_of past)) step

  pub calls_passes : ((h : Calls) → requested_in answer.lines h ≡ h) → calls_of next ≡ calls_of past
  calls_passes unrequested = unrequested (calls_by (step_by e answer.refusal) answer.commit (calls_of past)) ∙ ap (λ (w : WatchStep). calls_by w answer.commit (calls_of past)) step

  -- what is current, where the target is wanted as before, or not any more
  pub current_next : (x : ℤ) → current_keys x next ≡ if_so (is_wanted x next && not (is_offline (online_of past))) (current_keys x past)
  current_next x =
      ap (λ (w : WatchStep). if_so (is_wanted x next && not (is_offline (online_of next))) (told_by x w answer.commit (calls_of past) (current_keys x past))) step
      ∙ ap (λ o. if_so (is_wanted x next && not (is_offline o)) (current_keys x past)) online_passes

  pub current_passes : (x : ℤ) → (is_wanted x past ≡ true → is_wanted x next ≡ true) → current_keys x next ≡ current_keys x past
  current_passes x more = current_next x ∙ if_so_more (is_wanted x past && not (is_offline (online_of past))) (is_wanted x next && not (is_offline (online_of past))) (current_keys x past) (and_more (is_wanted x past) (is_wanted x next) (not (is_offline (online_of past))) more) (current_held x past)

  -- the stream stays as it was
  pub watches_passes : (watch : WatchStream) (limbo : Limbo) → ((h : Calls) → requested_in answer.lines h ≡ h) → ((x : ℤ) → is_wanted x next ≡ is_wanted x past) → Watches watch past limbo → Watches watch next limbo
  watches_passes watch limbo unrequested wanted it = record {
    opening = it.opening ∙ sym opening_passes;
    calls = subst (AggregatorStandsFor watch.aggregator) (sym (calls_passes unrequested)) it.calls;
    online = it.online ∙ sym online_passes;
    current = λ x. it.current x ∙ ap (option_map current_with) (sym (current_passes x (λ is. wanted x ∙ is)));
    spelled = subst AreSpelledCalls (sym (calls_passes unrequested)) it.spelled;
    due = λ opened x. ⊎_elim
        (λ due. inl (due_still past next limbo x watch.due (wanted x) due))
        (λ asks. inr (ap (is_asked_in x) (calls_passes unrequested) ∙ asks ∙ sym (sought_still past next limbo x (wanted x))))
        (it.due (sym opening_passes ∙ opened) x);
  }

  -- no request was due, and now one may be for this target
  due_one : (watch : WatchStream) (limbo : Limbo) (t : ℤ) (due : Due) → ((h : Calls) → requested_in answer.lines h ≡ h) → ((x : ℤ) → (x ≡ t → ⊥) → is_wanted x next ≡ is_wanted x past) → watch.due ≡ Nothing → due ≡ One t → Watches watch past limbo
      → is_watched next ≡ true → (x : ℤ) → IsDue next limbo due x ⊎ (is_asked_in x (calls_of next) ≡ is_sought x next limbo)
  due_one watch limbo t due unrequested others idle is it opened x = by (int_eq x t) refl
    where
      by : (b : Bool) → int_eq x t ≡ b → IsDue next limbo due x ⊎ (is_asked_in x (calls_of next) ≡ is_sought x next limbo)
      by true same = inl (subst (λ (d : Due). IsDue next limbo d x) (sym is) ((Decides-int_eq x t).0 same))
      by false other =
          let apart : x ≡ t → ⊥ = λ same. true≢false (sym ((Decides-int_eq x t).1 same) ∙ other) in
          inr (⊎_elim
          (λ was. absurd (subst (λ (d : Due). IsDue past limbo d x) idle was))
          (λ asks. ap (is_asked_in x) (calls_passes unrequested) ∙ asks ∙ sym (sought_still past next limbo x (others x apart)))
          (it.due (sym opening_passes ∙ opened) x))

  -- a target is wanted that may not have been
  pub watches_began : (old new : WatchStream) (limbo : Limbo) (t : ℤ) → ((h : Calls) → requested_in answer.lines h ≡ h) → ((x : ℤ) → (x ≡ t → ⊥) → is_wanted x next ≡ is_wanted x past) → ((x : ℤ) → is_wanted x past ≡ true → is_wanted x next ≡ true)
      → old.due ≡ Nothing → new ≡ record old { due = One t } → Watches old past limbo → Watches new next limbo
  watches_began old new limbo t unrequested others more idle is it = subst (λ (w : WatchStream). Watches w next limbo) (sym is) (record {
    opening = it.opening ∙ sym opening_passes;
    calls = subst (AggregatorStandsFor old.aggregator) (sym (calls_passes unrequested)) it.calls;
    online = it.online ∙ sym online_passes;
    current = λ x. it.current x ∙ ap (option_map current_with) (sym (current_passes x (more x)));
    spelled = subst AreSpelledCalls (sym (calls_passes unrequested)) it.spelled;
    due = due_one old limbo t (One t) unrequested others idle refl it;
  })

  -- a listener of the target ended
  pub watches_ended : (old new : WatchStream) (limbo : Limbo) (t : ℤ) (wanted : Bool) → ((h : Calls) → requested_in answer.lines h ≡ h) → ((x : ℤ) → (x ≡ t → ⊥) → is_wanted x next ≡ is_wanted x past) → is_wanted t next ≡ wanted → is_wanted t past ≡ true
      → old.due ≡ Nothing → Ends t wanted old new → Watches old past limbo → Watches new next limbo
  watches_ended old new limbo t wanted unrequested others now was idle ends it = record {
    opening = ends.opening ∙ it.opening ∙ sym opening_passes;
    calls = subst (λ (a : _). AggregatorStandsFor a (calls_of next)) (sym ends.aggregator) (subst (AggregatorStandsFor old.aggregator) (sym (calls_passes unrequested)) it.calls);
    online = ends.online ∙ it.online ∙ sym online_passes;
    current = λ x. ends.current x ∙ by x (int_eq t x) refl;
    spelled = subst AreSpelledCalls (sym (calls_passes unrequested)) it.spelled;
    due = due_one old limbo t new.due unrequested others idle ends.due it;
  }
    where
      by : (x : ℤ) (b : Bool) → int_eq t x ≡ b → (if b && not wanted then None else standing_in old.current.targets.items x) ≡ option_map current_with (current_keys x next)
      by x false other =
          it.current x ∙ ap (option_map current_with) (sym (current_passes x (λ is. others x (λ same. true≢false (sym ((Decides-int_eq t x).1 (sym same)) ∙ other)) ∙ is)))
      by x true same = go wanted refl
        where
          at : t ≡ x
          at = (Decides-int_eq t x).0 same

          go : (w : Bool) → wanted ≡ w → (if not w then None else standing_in old.current.targets.items x) ≡ option_map current_with (current_keys x next)
          go true still = it.current x ∙ ap (option_map current_with) (sym (current_passes x (λ is. ap (λ z. is_wanted z next) (sym at) ∙ now ∙ still)))
          go false gone = sym (ap (option_map current_with) (unwanted_current x next (ap (λ z. is_wanted z next) (sym at) ∙ now ∙ gone)))

-- ---- more lines behind a turn, of which nothing of the stream is read

module _ (past : Past) (s : State) (e : Event) (t : Turn) (more : List Line)
    (no_target : (id : ℕ) (was : Option ℤ) → listened_in id more was ≡ was) (no_begin : (ids : List ℕ) → begun_in more ids ≡ ids) where
  abbrev before : Past
  before = answered_next s past e t

  abbrev behind : Past
  behind = answered_next s past e (with_lines t more)

  pub watches_behind : {watch : WatchStream} {limbo : Limbo} → ((h : Calls) → requested_in more h ≡ h) → Watches watch before limbo → Watches watch behind limbo
  watches_behind {watch} {limbo} unrequested it =
      let same : calls_of behind ≡ calls_of before = calls_behind past s e t more no_target no_begin ∙ unrequested (calls_of before) in
      record {
        opening = it.opening;
        calls = subst (AggregatorStandsFor watch.aggregator) (sym same) it.calls;
        online = it.online;
        current = λ x. it.current x ∙ ap (option_map current_with) (sym (current_behind past s e t more no_target no_begin x));
        spelled = subst AreSpelledCalls (sym same) it.spelled;
        due = λ opened x. ⊎_elim
            (λ due. inl (due_still before behind limbo x watch.due (wanted_behind past s e t more no_target no_begin x) due))
            (λ asks. inr (ap (is_asked_in x) same ∙ asks ∙ sym (sought_behind past s e t more no_target no_begin x limbo)))
            (it.due opened x);
      }
