-- the state after the commit of an event, before anything has gone out behind it, is sound
use Rattle.std.proofs.Common.{◌≡◌, ℕ, ℤ, Bool, true, false, ◌&&◌, List, [], ◌∷◌, ◌++◌, nat_lt, Option, Some, None, if◌then◌else◌, refl, sym, ap, subst, ◌∙◌, arith}
use Rattle.std.specs.List.{Contains, filter_map}
use Rattle.std.proofs.lemmas.Bool.{false≢true, true≢false}
use Rattle.agreement.proofs.Chains.{next_sound}
use Rattle.agreement.specs.Backend.{Id, Setting, Tuple}
use Rattle.agreement.specs.Client.{Client}
use Rattle.agreement.specs.Follows.{AreUnique, Follows, tuples}
use Rattle.agreement.specs.History.{Write}
use Rattle.agreement.specs.NextRun.{next_run}
use Rattle.agreement.specs.Sound.{Sound}
use Rattle.agreement.specs.Streams.{message_of}
use Rattle.agreement.specs.Transcript.{Event, Heard, Unasked, asked_ids}
use Rattle.client_events.specs.Spelled.{IsSpelledEvent}
use Rattle.client_events.specs.declared.event.Event as happening
use Rattle.client_events.specs.declared.event.Event.TheVariants as event
use Rattle.document_keys.specs.Names.{Root}
use Rattle.listen_protocol.specs.Calls.{Calls, came}
use Rattle.listen_protocol.specs.Transcript.{is_asked_in}
use Rattle.durable_state.specs.State.{State, most_commits}
use Rattle.mutations.specs.declared.batch.Batch.{Batch}
use Rattle.mutations.specs.declared.results.WriteResponse.{WriteResponse}
use Rattle.queries.specs.declared.target.Target.{Target}
use Rattle.record_codec.specs.declared.commit.Commit.{Commit}
use Rattle.value_model.specs.declared.document.RpcStatus.{RpcStatus}
use Rattle.value_model.specs.declared.message.ListenResponse.{ListenResponse}
use Rattle.value_model.specs.declared.message.StreamName.{StreamName}
use Rattle.value_model.specs.declared.message.StreamName.TheVariants as stream
use Rattle.views.specs.Viewed.{Viewed}
use Rattle.write_pipeline.specs.Order.{Steps}
use Rattle.write_pipeline.specs.Standing.{closing_of}
use Rattle.write_pipeline.specs.declared.answer.Closing.{Closing}
use Rattle.write_pipeline.specs.declared.answer.Closing.TheVariants.{Kept as KeepsAll, Rejects}
use Rattle.client_turns.specs.Answers.{Answers, Begins, are_left, ends, listens}
use Rattle.client_turns.specs.Asking.{AsksIf, resets_by}
use Rattle.client_turns.specs.Hearing.{Blanks, HeardTurn, dropped, ended, held, mismatch, none_held, nothing, old_point, point, point_spent, fails as fails_heard}
use Rattle.client_turns.specs.Lines.{Line}
use Rattle.client_turns.specs.Order.{now}
use Rattle.client_turns.specs.Past.{Past, Turn, listener, steps_of}
use Rattle.client_turns.specs.Turn.{IsTurn, SettlesAfter, answered_next, batches_behind, is_heard, unless_refused, with_limbo}
use Rattle.client_turns.specs.Turns.{after, commits, refused}
use Rattle.client_turns.specs.Watching.{WatchStep, calls_of, closes, hears, is_watched, opens, passes, rings, step_by}
use Rattle.client_turns.specs.Writing as writing
use Rattle.client_turns.specs.Writing.{WrittenTurn, acknowledges, bad_turn, closed_turn, fails, first_batch, is_open, is_stream_open, opened_turn, rejects, shakes}
use Rattle.client_turns.specs.declared.refusal.Refusal.{Refusal}
use Rattle.client_agreement.proofs.Taking.{Takes, event_done}
use Rattle.client_agreement.proofs.Moments.{brings_answered, spelled_calls}
use Rattle.client_agreement.proofs.Reaching.{reach_then}
use Rattle.client_agreement.proofs.Runs.{reach_there, reached_both, sound_moves, stands_there, states_stay_sound, there}
use Rattle.client_agreement.specs.Durable.{client_of, setting_of}
use Rattle.client_agreement.specs.Honest.{AcknowledgesTruly, IsHonestWith}
use Rattle.client_agreement.specs.Laws.{CommitsStaySound, IsHonestRun}
use Rattle.client_agreement.specs.Transcript.{came_alone, came_by, transcript, transcript_with}

-- ---- an event that isn't heard makes no commit

-- a turn is a refusal, or isn't refused
data Outcome (t : Turn) : Type 0 where
  refuses : (refusal : Refusal) → t ≡ refused refusal → Outcome t
  goes_on : t.refusal ≡ None → Outcome t

outcome_if : (b : Bool) (refusal : Refusal) (commit : Commit) (lines : List Line) (t : Turn) → t ≡ (if b then commits commit lines else refused refusal) → Outcome t
outcome_if true refusal commit lines t is = goes_on (ap (λ (x : Turn). x.refusal) is)
outcome_if false refusal commit lines t is = refuses _ is

module _ (s : State) where
  outcome_begins : (id : ℕ) (query : Target) (view : Option Viewed) (t : Turn) → Begins s id query view t → Outcome t
  outcome_begins id query (Some view) t is = refuses _ is
  outcome_begins id query None t is = by is.0 is.2
    where
      by : (found : Option ℤ) → t ≡ listens s id query found → Outcome t
      by (Some target) same = goes_on (ap (λ (x : Turn). x.refusal) same)
      by None same = outcome_if (are_left s) _ _ _ t same

  outcome_ends : (id : ℕ) (view : Option Viewed) (t : Turn) → t ≡ ends s id view → Outcome t
  outcome_ends id None t is = refuses _ is
  outcome_ends id (Some view) t is = goes_on (ap (λ (x : Turn). x.refusal) is)

  outcome_opened : (name : StreamName) (b : Bool) (t : Turn) → t ≡ opened_turn name b → Outcome t
  outcome_opened name true t is = refuses _ is
  outcome_opened stream.Watch false t is = goes_on (ap (λ (x : Turn). x.refusal) is)
  outcome_opened stream.Write false t is = goes_on (ap (λ (x : Turn). x.refusal) is)

  outcome_bad : (name : StreamName) (member : List ℕ) (b : Bool) (t : Turn) → t ≡ bad_turn name member b → Outcome t
  outcome_bad name member true t is = refuses _ is
  outcome_bad name member false t is = refuses _ is

  outcome_rejects : (status : RpcStatus) (first : Option Batch) (t : Turn) → t ≡ rejects s first status → Outcome t
  outcome_rejects status None t is = goes_on (ap (λ (x : Turn). x.refusal) is)
  outcome_rejects status (Some batch) t is = outcome_if (nat_lt s.number most_commits) _ _ _ t is

  outcome_closes : (status : RpcStatus) (closing : Closing) (t : Turn) → t ≡ writing.closes s status closing → Outcome t
  outcome_closes status KeepsAll t is = goes_on (ap (λ (x : Turn). x.refusal) is)
  outcome_closes status Rejects t is = outcome_rejects status (first_batch s) t is

  outcome_closed : (h : Steps) (name : StreamName) (status : RpcStatus) (b : Bool) (t : Turn) → t ≡ closed_turn s h name status b → Outcome t
  outcome_closed h name status false t is = refuses _ is
  outcome_closed h stream.Watch status true t is = goes_on (ap (λ (x : Turn). x.refusal) is)
  outcome_closed h stream.Write status true t is = outcome_closes status (closing_of h status.code) t is

  outcome_written : (h : Steps) (response : WriteResponse) (b : Bool) (t : Turn) → WrittenTurn s h response b t → Outcome t
  outcome_written h response true t (shakes fits is) = goes_on (ap (λ (x : Turn). x.refusal) is)
  outcome_written h response true t (acknowledges batch time first at fits is) = outcome_if (nat_lt s.number most_commits) _ _ _ t is
  outcome_written h response true t (fails member not is) = refuses _ is
  outcome_written h response false t is = refuses _ is

  outcome_blanks : (ids : List ℕ) (lines : List Line) (t : Turn) → Blanks s ids lines t → Outcome t
  outcome_blanks ids lines t (held any is) = outcome_if (nat_lt s.number most_commits) _ _ lines t is
  outcome_blanks ids lines t (none_held not is) = goes_on (ap (λ (x : Turn). x.refusal) is)

  outcome_heard : (past : Past) (m : ListenResponse) (b : Bool) (t : Turn) → HeardTurn s past m b t → Outcome t
  outcome_heard past m false t is = refuses _ is
  outcome_heard past m true t (nothing gives is) = goes_on (ap (λ (x : Turn). x.refusal) is)
  outcome_heard past m true t (old_point at gives old is) = goes_on (ap (λ (x : Turn). x.refusal) is)
  outcome_heard past m true t (point at entries rows gives below commit is) = outcome_if (nat_lt s.number most_commits) _ _ _ t is
  outcome_heard past m true t (point_spent at gives below many is) = refuses _ is
  outcome_heard past m true t (mismatch id told count ids gives have blanks) = outcome_blanks ids [] t blanks
  outcome_heard past m true t (ended ids status those listeners gives none have are blanks) = outcome_blanks those _ t blanks
  outcome_heard past m true t (dropped ids status keys those listeners gives drops some blanked are is) = outcome_if (nat_lt s.number most_commits) _ _ _ t is
  outcome_heard past m true t (fails_heard why refused_it is) = refuses _ is

  outcome_of : (past : Past) (e : happening.Event) (t : Turn) → Answers s past e t → Outcome t
  outcome_of past (event.Write at writes) t is = outcome_if (nat_lt s.number most_commits) _ _ _ t is
  outcome_of past (event.Get key) t is = goes_on (ap (λ (x : Turn). x.refusal) is)
  outcome_of past (event.Listen id query) t is = outcome_begins id query (listener id past) t is
  outcome_of past (event.Unlisten id) t is = outcome_ends id (listener id past) t is
  outcome_of past (event.Opened name) t is = outcome_opened name (is_stream_open name past) t is
  outcome_of past (event.Closed name status) t is = outcome_closed (steps_of past) name status (is_stream_open name past) t is
  outcome_of past (event.Written response) t is = outcome_written (steps_of past) response (is_open (steps_of past)) t is
  outcome_of past (event.BadMessage name member) t is = outcome_bad name member (is_stream_open name past) t is
  outcome_of past (event.Watch response) t is = outcome_heard past response (is_watched past) t is
  outcome_of past event.Timer t is = goes_on (ap (λ (x : Turn). x.refusal) is)

  pub unheard_refused : (past : Past) (e : happening.Event) (t : Turn) → Answers s past e t → is_heard t.refusal ≡ false → (refusal : Refusal) × (t ≡ refused refusal)
  unheard_refused past e t answers not = by (outcome_of past e t answers)
    where
      by : Outcome t → (refusal : Refusal) × (t ≡ refused refusal)
      by (refuses refusal is) = (refusal, is)
      by (goes_on fine) = absurd (true≢false (sym (ap is_heard fine) ∙ not))

  unheard_unmade : (past : Past) (e : happening.Event) (t : Turn) → Answers s past e t → is_heard t.refusal ≡ false → t.commit ≡ None
  unheard_unmade past e t answers not = ap (λ (x : Turn). x.commit) (unheard_refused past e t answers not).1

-- ---- remove requests say nothing of tuples

abbrev no_tuple : Id → Option Tuple
no_tuple id = None

no_tuples : (xs : List Id) → filter_map no_tuple xs ≡ []
no_tuples [] = refl
no_tuples (x ∷ xs) = no_tuples xs

unasked_tuples : (s : Setting) (f : Id → Bool) (x : List Event) → tuples s (Unasked f ∷ x) ≡ tuples s x
unasked_tuples s f x = ap (λ ts. ts ++ tuples s x) (no_tuples (asked_ids x))

unasked_unique : (s : Setting) (f : Id → Bool) (x : List Event) → AreUnique s x → AreUnique s (Unasked f ∷ x)
unasked_unique s f x unique = subst (λ (ts : List Tuple). (a b : Tuple) → Contains ts a → Contains ts b → a.token ≡ b.token → a.query ≡ b.query → (a.version ≡ b.version) × ((key : _) → a.keys key ≡ b.keys key)) (sym (unasked_tuples s f x)) unique

unasked_follows : (s : Setting) (version : List Event → ℕ) (f : Id → Bool) (x : List Event) → Follows s version x → Follows s version (Unasked f ∷ x)
unasked_follows s version f x follows = ((λ above. absurd (omega (arith, above))), follows)

-- the events with the removes of what a message resets are honest where those without are
alone_follows : (s : Setting) (version : List Event → ℕ) (step : WatchStep) (f : Id → Bool) (x : List Event) → Follows s version (came_alone step x) → Follows s version (came_by step f x)
alone_follows s version opens f x follows = follows
alone_follows s version closes f x follows = follows
alone_follows s version (hears m) f x follows = unasked_follows s version f (Heard (message_of m) ∷ x) follows
alone_follows s version rings f x follows = follows
alone_follows s version passes f x follows = follows

alone_unique : (s : Setting) (step : WatchStep) (f : Id → Bool) (x : List Event) → AreUnique s (came_alone step x) → AreUnique s (came_by step f x)
alone_unique s opens f x unique = unique
alone_unique s closes f x unique = unique
alone_unique s (hears m) f x unique = unasked_unique s f (Heard (message_of m) ∷ x) unique
alone_unique s rings f x unique = unique
alone_unique s passes f x unique = unique

alone_tuples : (s : Setting) (step : WatchStep) (f : Id → Bool) (x : List Event) → tuples s (came_by step f x) ≡ tuples s (came_alone step x)
alone_tuples s opens f x = refl
alone_tuples s closes f x = refl
alone_tuples s (hears m) f x = unasked_tuples s f (Heard (message_of m) ∷ x)
alone_tuples s rings f x = refl
alone_tuples s passes f x = refl

-- ---- the state after the commit

-- what is asked behind a message
abbrev asked_behind : happening.Event → Calls → Id → Bool
asked_behind (event.Watch m) h t = is_asked_in t (came m ∷ h)
asked_behind _ h t = false

module _ (writes : List Write) (known : List Tuple) (root : Root) (first : State) (version : List Event → ℕ) (past : Past) (e : happening.Event) (answer : Turn)
    (it : IsHonestRun (setting_of writes root known) root first version past) (spelled : IsSpelledEvent e) (answers : Answers (now first past) past e answer)
    (truly : AcknowledgesTruly (setting_of writes root known) (now first past) answer.commit) where
  abbrev s : Setting
  s = setting_of writes root known

  abbrev from_here : Client
  from_here = there writes known root first version past it

  abbrev resets : Id → Bool
  resets t = resets_by e answer.commit past t && asked_behind e (calls_of past) t

  taken : is_heard answer.refusal ≡ true → Takes s from_here (after (now first past) answer.commit) (λ t. false) (step_by e answer.refusal) answer.commit resets past
  taken heard =
      event_done s refl root first past from_here it.well_made it.spelled it.heard (stands_there writes known root first version past it) (λ t. false) (asked_behind e (calls_of past)) e answer spelled truly
      (brings_answered (now first past) past e answer spelled (spelled_calls past it.spelled) answers)
      (λ t no. absurd (false≢true no)) (λ ids status listeners are lines t here no. false≢true no)
      (λ m is fine watched t reset. ap (λ x. asked_behind x (calls_of past) t) is) answers heard

  made_heard : is_heard answer.refusal ≡ true → Follows s version (came_alone (step_by e answer.refusal) (transcript past)) → AreUnique s (came_alone (step_by e answer.refusal) (transcript past))
      → Sound (next_run s (came_alone (step_by e answer.refusal) (transcript past))) (client_of (after (now first past) answer.commit))
  made_heard heard follows unique =
      let done = taken heard in
      let d = done.0 in
      let is = done.2 in
      let reach = reach_then s (reach_there writes known root first version past it) done.1 in
      let both = reached_both writes known root first version d reach it.sound
      (subst (Follows s version) (sym is.past) (alone_follows s version (step_by e answer.refusal) resets (transcript past) follows))
      (subst (AreUnique s) (sym is.past) (alone_unique s (step_by e answer.refusal) resets (transcript past) unique)) in
      subst (λ (ts : List Tuple). Sound (record s { known = ts }) (client_of (after (now first past) answer.commit)))
      (ap (tuples s) is.past ∙ alone_tuples s (step_by e answer.refusal) resets (transcript past))
      (sound_moves (next_run s d.past) d (after (now first past) answer.commit) is.entry is.read is.rows (next_sound s d both.sound))

  made_by : (b : Bool) → is_heard answer.refusal ≡ b → Follows s version (if b then came_alone (step_by e answer.refusal) (transcript past) else transcript past) → AreUnique s (if b then came_alone (step_by e answer.refusal) (transcript past) else transcript past)
      → Sound (next_run s (if b then came_alone (step_by e answer.refusal) (transcript past) else transcript past)) (client_of (after (now first past) answer.commit))
  made_by true heard follows unique = made_heard heard follows unique
  made_by false unheard follows unique =
      subst (λ (commit : Option Commit). Sound (next_run s (transcript past)) (client_of (after (now first past) commit))) (sym (unheard_unmade (now first past) past e answer answers unheard))
      (states_stay_sound writes known root first version [] past it)

  pub made_sound : IsHonestWith s version past e answer → Sound (next_run s (transcript_with past e answer)) (client_of (after (now first past) answer.commit))
  made_sound honest = made_by (is_heard answer.refusal) refl honest.follows honest.unique

pub commits_stay_sound : CommitsStaySound
commits_stay_sound writes known root first version past e answer it spelled answers truly honest = made_sound writes known root first version past e answer it spelled answers truly honest

-- ---- an event that isn't heard has no lines

unless_none : (r : Option Refusal) (refusal : Refusal) (lines : List Line) → r ≡ Some refusal → unless_refused r lines ≡ []
unless_none r refusal lines is = ap (λ (x : Option Refusal). unless_refused x lines) is

pub unheard_silent : (root : Root) (s : State) (past : Past) (e : happening.Event) (t : Turn) → IsTurn root s past e t → is_heard t.refusal ≡ false → t.lines ≡ []
unheard_silent root s past e t it unheard = by (is_heard answer.refusal) refl it.is_settled.settles
  where
    answer : Turn
    answer = it.is_settled.answer

    settled_unheard : is_heard it.settled.refusal ≡ false
    settled_unheard = ap (λ (x : Turn). is_heard x.refusal) (sym it.is) ∙ unheard

    none_asked : it.asked ≡ []
    none_asked = subst (λ (b : Bool). AsksIf (b && is_watched (answered_next s past e (with_limbo it.settled it.limbo))) (after s it.settled.commit) (answered_next s past e (with_limbo it.settled it.limbo)) (resets_by e it.settled.commit past) it.asked) settled_unheard it.asks

    by : (b : Bool) → is_heard answer.refusal ≡ b → SettlesAfter root s past e answer b it.settled → t.lines ≡ []
    by true heard settles = absurd (true≢false (sym (ap (λ (x : Turn). is_heard x.refusal) settles.is ∙ heard) ∙ settled_unheard))
    by false not settles =
        let refusing = unheard_refused s past e answer it.is_settled.answers not in
        let settled_is : it.settled ≡ refused refusing.0 = settles ∙ refusing.1 in
        let silent : it.settled.lines ≡ [] = ap (λ (x : Turn). x.lines) settled_is in
        let none_behind : batches_behind s past e it.settled ≡ [] = unless_none it.settled.refusal refusing.0 _ (ap (λ (x : Turn). x.refusal) settled_is) in
        ap (λ (x : Turn). x.lines) it.is ∙ (λ i. silent i ++ (none_asked i ++ none_behind i))
