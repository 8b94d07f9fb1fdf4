-- clause Agreement of a run
use Rattle.std.proofs.Common.{◌≡◌, ◌⊎◌, ⊎_elim, inl, inr, ℕ, ◌+◌, Bool, true, false, List, [], ◌∷◌, ◌++◌, length, Option, if◌then◌else◌, refl, sym, ap, subst, ◌∙◌, arith}
use Rattle.std.specs.List.{Contains}
use Rattle.std.proofs.lemmas.List.Sums.{fold-append}
use Rattle.client_agreement.proofs.Ascending.{well_made_found}
use Rattle.client_agreement.proofs.Commits.{commits_stay_sound, unheard_silent}
use Rattle.client_agreement.proofs.Runs.{snapshots_agree, states_stay_sound}
use Rattle.client_agreement.proofs.Touched.{start_sound}
use Rattle.client_agreement.specs.Honest.{AcknowledgesTruly, IsHonestWith}
use Rattle.client_agreement.specs.Laws.{IsHonestRun, ListenerAgrees}
use Rattle.client_agreement.specs.Standing.{AreSpelled}
use Rattle.client_agreement.specs.Transcript.{transcript, transcript_with}
use Rattle.client_events.specs.declared.event.Event.{Event}
use Rattle.disk_journal.specs.File.{AreBlank, fresh}
use Rattle.document_keys.specs.Names.{Root}
use Rattle.host_api.proofs.Spans.{spans_weaker}
use Rattle.host_api.specs.Host.{Files, Spans, View}
use Rattle.line_reader.specs.Reading.{AreRead}
use Rattle.line_reader.specs.Spelled.{IsSpelledReading}
use Rattle.line_reader.specs.declared.reading.Reading.{Reading}
use Rattle.line_reader.specs.declared.reading.Reading.TheVariants.{Line as an_event, Refused}
use Rattle.local_store.proofs.Replayed.{find_once}
use Rattle.local_store.specs.Files.{FindsState}
use Rattle.local_store.specs.State.{State, committed, start}
use Rattle.record_codec.specs.declared.commit.Commit.{Commit}
use Rattle.client_turns.specs.Answers.{Answers}
use Rattle.client_turns.specs.Lines.{Told, snapshot}
use Rattle.client_turns.specs.Order as order
use Rattle.client_turns.specs.Past.{Past, Turn}
use Rattle.client_turns.specs.Turn.{is_heard}
use Rattle.client_turns.specs.Turns.{after}
use Rattle.value_model.specs.declared.timestamp.Timestamp.{Timestamp}
use Rattle.client_run.proofs.Handling.{refusal_back}
use Rattle.client_run.proofs.Ordering.{history_comes}
use Rattle.client_run.proofs.Surviving.{after_made}
use Rattle.client_run.specs.Agreement.{AgreesWithAll, Backend, FindsSound, IsHonestPast, IsSoundBehind, IsSoundState, LineAgrees, RunsChain, StartsSound, at_first, behind, between, setting}
use Rattle.client_run.specs.Crash.{Crashes, FindsAtEnd, FindsHandled, FindsNext, Survives, state_after}
use Rattle.client_run.specs.History.{AreTurns, Handled, History, after_all, commits_of, heard, made, now, readings_of}
use Rattle.client_run.specs.Output.{AreSpelledLines, Call, IsRun}
use Rattle.client_run.specs.Run.{Ran}
use Rattle.client_run.specs.Turn.{CommitsNext, IsLineTurn, LineTurn, and_heard, entry_of, refusal_in}
use Rattle.client_run.specs.declared.status.Status.{Status}
use Rattle.client_run.specs.declared.status.Status.TheVariants as ended

-- ---- what lines say of what was heard

spelled_one : (s : State) (reading : Reading) (t : LineTurn) (past : Past) → IsSpelledReading reading → AreSpelled past → AreSpelled (and_heard s reading t past)
spelled_one s (Refused refusal) t past spelled all = all
spelled_one s (an_event e) t past spelled all = by (is_heard (refusal_in t.cause))
  where
    by : (b : Bool) → AreSpelled (if b then entry_of s e t ∷ past else past)
    by true = (spelled, all)
    by false = all

spelled_heard : (history : History) → AreSpelledLines history → AreSpelled (heard history)
spelled_heard [] all = tt
spelled_heard (line ∷ history) all = spelled_one line.state line.reading line.turn (heard history) all.0 (spelled_heard history all.1)

-- the state behind the lines, by their commits and by what was heard
now_all : (root : Root) (first : State) (history : History) → AreTurns root first history → now first history ≡ after_all first (commits_of history)
now_all root first [] turns = refl
now_all root first (line ∷ history) turns =
    ap (λ (x : State). after x line.turn.commit) turns.1.state
    ∙ after_made (now first history) line.turn.commit
    ∙ ap (λ (x : State). after_all x (made line.turn.commit)) (now_all root first history turns.0)
    ∙ sym (fold-append committed first (commits_of history) (made line.turn.commit))

module _ (backend : Backend) (call : Call) where
  abbrev root : Root
  root = call.root

  abbrev first : State
  first = call.first

  state_is : (history : History) → IsRun call history → state_after call history ≡ order.now first (heard history)
  state_is history run = sym (now_all root first history run.turns) ∙ (history_comes root first history run.turns).now

  honest_run : (files : Files) → FindsState files first → IsSoundState backend root first → (history : History) → IsRun call history → IsHonestPast backend root (heard history) → IsHonestRun (setting backend root) root first backend.version (heard history)
  honest_run files finds sound history run honest = record {
    well_made = well_made_found files first finds;
    sound = sound;
    spelled = spelled_heard history run.spelled;
    heard = (history_comes root first history run.turns).heard;
    honest = honest;
  }

  module _ (files : Files) (finds : FindsState files first) (sound : IsSoundState backend root first) where
    -- ---- snapshots

    line_agrees : (history : History) (s : State) (reading : Reading) (t : LineTurn) → IsLineTurn root s (heard history) reading t
        → IsHonestRun (setting backend root) root first backend.version (and_heard s reading t (heard history))
        → (number : ℕ) (read_time : Option Timestamp) (told : Told) → Contains t.lines (snapshot number read_time told) → told.raised.from_cache ≡ false
        → ListenerAgrees (setting backend root) (and_heard s reading t (heard history)) (after s t.commit) read_time told
    line_agrees history s (Refused refusal) t is honest number read_time told there flag =
        let inside = subst (λ (x : LineTurn). Contains x.lines (snapshot number read_time told)) is there in
        let short = inside.1 in absurd (omega (arith, short))
    line_agrees history s (an_event e) t is honest number read_time told there flag = by (is_heard (refusal_in t.cause)) refl honest
      where
        turn_unheard : is_heard (refusal_in t.cause) ≡ false → is_heard is.turn.refusal ≡ false
        turn_unheard not = ap is_heard (sym (refusal_back is.turn.refusal)) ∙ ap (λ (x : LineTurn). is_heard (refusal_in x.cause)) (sym is.is) ∙ not

        by : (b : Bool) → is_heard (refusal_in t.cause) ≡ b → IsHonestRun (setting backend root) root first backend.version (if b then entry_of s e t ∷ heard history else heard history)
            → ListenerAgrees (setting backend root) (if b then entry_of s e t ∷ heard history else heard history) (after s t.commit) read_time told
        by true same honest = snapshots_agree backend.writes backend.known root first backend.version (entry_of s e t) (heard history) honest number read_time told there flag
        by false not honest =
            let silent : t.lines ≡ [] = ap (λ (x : LineTurn). x.lines) is.is ∙ unheard_silent root s (heard history) e is.turn is.is_turn (turn_unheard not) in
            let inside = subst (λ ls. Contains ls (snapshot number read_time told)) silent there in
            let short = inside.1 in absurd (omega (arith, short))

    snapshots : (line : Handled) (history : History) → IsRun call (line ∷ history) → IsHonestPast backend root (heard (line ∷ history)) → LineAgrees backend root line history
    snapshots line history run honest = line_agrees history line.state line.reading line.turn run.turns.1.turn (honest_run files finds sound (line ∷ history) run honest)

    -- ---- what a crash leaves

    sound_behind : (history : History) → IsRun call history → IsHonestPast backend root (heard history) → IsSoundBehind backend root (transcript (heard history)) (state_after call history)
    sound_behind history run honest =
        subst (IsSoundBehind backend root (transcript (heard history))) (sym (state_is history run))
        (states_stay_sound backend.writes backend.known root first backend.version [] (heard history) (honest_run files finds sound history run honest))

    sound_between : (history : History) (e : Event) (answer : Turn) → IsRun call history → IsSpelledReading (an_event e) → Answers (state_after call history) (heard history) e answer
        → IsHonestPast backend root (heard history) → AcknowledgesTruly (setting backend root) (state_after call history) answer.commit → IsHonestWith (setting backend root) backend.version (heard history) e answer
        → IsSoundBehind backend root (transcript_with (heard history) e answer) (after (state_after call history) answer.commit)
    sound_between history e answer run spelled answers honest truly then_honest =
        let same = state_is history run in
        subst (λ (s : State). IsSoundBehind backend root (transcript_with (heard history) e answer) (after s answer.commit)) (sym same)
        (commits_stay_sound backend.writes backend.known root first backend.version (heard history) e answer (honest_run files finds sound history run honest) spelled
        (subst (λ (s : State). Answers s (heard history) e answer) same answers) (subst (λ (s : State). AcknowledgesTruly (setting backend root) s answer.commit) same truly) then_honest)

    handled_sound : (history : History) (c : Files) → IsRun call history → FindsHandled call history c → FindsSound backend call c
    handled_sound history c run found = behind history run found (sound_behind history run)

    next_sound : (history : History) (c : Files) → IsRun call history → FindsNext call history c → FindsSound backend call c
    next_sound history c run found = by found.reading found.read found.spelled found.commits
      where
        by : (reading : Reading) → AreRead root call.items (readings_of history ++ reading ∷ []) → IsSpelledReading reading → CommitsNext (state_after call history) (heard history) reading found.commit → FindsSound backend call c
        by (Refused refusal) read spelled none = handled_sound history c run (subst (λ (commit : Option Commit). FindsState c (after (state_after call history) commit)) none found.finds)
        by (an_event e) read spelled made_it = between history e made_it.0 run read made_it.1
            (subst (λ (commit : Option Commit). FindsState c (after (state_after call history) commit)) made_it.2 found.finds)
            (sound_between history e made_it.0 run spelled made_it.1)

    either_sound : (history : History) (c : Files) → IsRun call history → FindsHandled call history c ⊎ FindsNext call history c → FindsSound backend call c
    either_sound history c run = ⊎_elim (handled_sound history c run) (next_sound history c run)

    survives_sound : (most : ℕ) (o : List ℕ) (c : Files) → Survives most call o c → FindsSound backend call c
    survives_sound most o c it = ⊎_elim (λ here. handled_sound it.history c it.run here.1) (λ next. next_sound it.history c it.run next.1) it.finds

    end_sound : (how : Status) (history : History) (c : Files) → IsRun call history → FindsAtEnd how call history c → FindsSound backend call c
    end_sound ended.Done history c run found = handled_sound history c run found
    end_sound ended.Usage history c run found = handled_sound history c run found
    end_sound ended.SourceFault history c run found = handled_sound history c run found
    end_sound ended.DiskFault history c run found = either_sound history c run found
    end_sound ended.SinkFault history c run found = either_sound history c run found
    end_sound ended.NoMemory history c run found = either_sound history c run found
    end_sound ended.NotAStore history c run found = handled_sound history c run found
    end_sound ended.Budget history c run found = handled_sound history c run found

    module _ (old new : View) (starts : StartsSound backend root first old) where
      first_sound : (c : Files) → old.may_leave c → FindsSound backend call c
      first_sound c left = at_first (starts.leaves c left)

      moments_by : (how : Status) (history : History) (left : List ℕ) → Crashes how call history left old new → Spans old new (λ o c. FindsSound backend call c)
      moments_by how history left (inl synced) = spans_weaker (λ o c. FindsSound backend call c) synced.before (λ o c. ⊎_elim (λ early. first_sound c early.1) (λ later. survives_sound (length history + 1) o c (synced.later o c later)))
      moments_by how history left (inr unsynced) = spans_weaker (λ o c. FindsSound backend call c) unsynced.before.time (λ o c early. first_sound c early.1)

      end_by : (how : Status) (history : History) (left : List ℕ) → IsRun call history → Crashes how call history left old new → (c : Files) → new.may_leave c → FindsSound backend call c
      end_by how history left run (inl synced) c may = end_sound how history c run (synced.at_end c may)
      end_by how history left run (inr unsynced) c may = first_sound c (unsynced.before.crash c may)

-- a run over the files of a store keeps the clause
pub agrees : {before later : ℕ} (call : Call) (status : Status) (left : List ℕ) (old new : View) → FindsState old.bytes call.first → Ran call status left before later old new → AgreesWithAll call old new
agrees call status left old new finds ran backend starts = record {
  snapshots = snapshots backend call old.bytes finds starts.reads;
  handled = sound_behind backend call old.bytes finds starts.reads;
  next = λ history e answer run spelled answers. sound_between backend call old.bytes finds starts.reads history e answer run spelled answers;
  moments = λ tells. moments_by backend call old.bytes finds starts.reads old new starts status ran.history left (ran.crash tells);
  at_end = λ tells. end_by backend call old.bytes finds starts.reads old new starts status ran.history left ran.run (ran.crash tells);
}

blank_finds : {files : Files} → AreBlank files → FindsState files start
blank_finds are = record {
  generation = 1;
  payloads = [];
  gives = fresh are refl refl;
  leads = record { first = refl; replays = refl };
}

pub runs_chain : RunsChain
runs_chain = record {
  next = λ backend root x files s found sound. record { state = s; finds = found; sound = sound };
  one = λ backend root files s it found. subst (IsSoundState backend root) (find_once files it.state s it.finds found) it.sound;
  more = λ backend root x more s known sound. record {
    entries = sound.entries;
    rows = λ id row h. let r = sound.rows id row h in (r.0, known row r.1, r.2, r.3);
  };
  blank = λ backend root files are. record { state = start; finds = blank_finds are; sound = start_sound (setting backend root) };
}
