-- What is known of tokens stays known, whatever is sent and heard then.
use Rattle.std.proofs.Common.{Bool, true, false, ◌&&◌, List, [], ◌∷◌, ◌++◌}
use Rattle.std.specs.Prelude.{if◌then◌else◌}
use Rattle.std.specs.List.{filter_map}
use Rattle.std.proofs.lemmas.List.Elements.{Contains-append_right}
use Rattle.agreement.specs.Backend.{Id, Setting, Tuple}
use Rattle.agreement.specs.Follows.{Known, tuple_of, tuples}
use Rattle.agreement.specs.Streams.{message_of}
use Rattle.agreement.specs.Transcript.{Asked, Cut, Event, Heard, Unasked, asked_ids, point_time}
use Rattle.client_turns.specs.Asking.{resets_by}
use Rattle.client_turns.specs.Lines.{Line, add, document, error, listening, rejected, remove, result, send, snapshot, unlistened, wrote}
use Rattle.client_turns.specs.Past.{Past}
use Rattle.client_turns.specs.Turn.{is_heard}
use Rattle.client_turns.specs.Watching.{WatchStep, closes, hears, opens, passes, rings, step_by, step_of}
use Rattle.client_agreement.specs.Laws.{TokensStayKnown}
use Rattle.client_agreement.specs.Transcript.{asked_in, came_alone, came_by, is_removed_in, request_of, transcript}

module _ (s : Setting) (tuple : Tuple) where
  one_more : (e : Event) (x : List Event) → Known s x tuple → Known s (e ∷ x) tuple
  one_more e x known = Contains-append_right (filter_map (tuple_of s (point_time e) (e ∷ x)) (asked_ids x)) (tuples s x) tuple known

  asked_more : (lines : List Line) (x : List Event) → Known s x tuple → Known s (asked_in lines x) tuple
  asked_more [] x known = known
  asked_more (add t row ∷ lines) x known = asked_more lines (Asked t (request_of row) ∷ x) (one_more (Asked t (request_of row)) x known)
  asked_more (wrote b c ∷ lines) x known = asked_more lines x known
  asked_more (listening i t c ∷ lines) x known = asked_more lines x known
  asked_more (unlistened i c ∷ lines) x known = asked_more lines x known
  asked_more (document k d w ∷ lines) x known = asked_more lines x known
  asked_more (result b c at ∷ lines) x known = asked_more lines x known
  asked_more (rejected b c why ∷ lines) x known = asked_more lines x known
  asked_more (error i why ∷ lines) x known = asked_more lines x known
  asked_more (snapshot c r told ∷ lines) x known = asked_more lines x known
  asked_more (remove t ∷ lines) x known = asked_more lines x known
  asked_more (send r ∷ lines) x known = asked_more lines x known

  came_more : (step : WatchStep) (removed : Id → Bool) (x : List Event) → Known s x tuple → Known s (came_by step removed x) tuple
  came_more opens removed x known = one_more Cut x known
  came_more closes removed x known = one_more Cut x known
  came_more (hears m) removed x known = one_more (Unasked removed) (Heard (message_of m) ∷ x) (one_more (Heard (message_of m)) x known)
  came_more rings removed x known = known
  came_more passes removed x known = known

  alone_more : (step : WatchStep) (x : List Event) → Known s x tuple → Known s (came_alone step x) tuple
  alone_more opens x known = one_more Cut x known
  alone_more closes x known = one_more Cut x known
  alone_more (hears m) x known = one_more (Heard (message_of m)) x known
  alone_more rings x known = known
  alone_more passes x known = known

  known_behind : (later past : Past) → Known s (transcript past) tuple → Known s (transcript (later ++ past)) tuple
  known_behind [] past known = known
  known_behind (e ∷ later) past known = asked_more e.turn.lines (Unasked (is_removed_in e.turn.lines) ∷ came) (one_more (Unasked (is_removed_in e.turn.lines)) came (came_more (step_of e) removed (transcript (later ++ past)) (known_behind later past known)))
    where
      removed : Id → Bool
      removed t = resets_by e.event e.turn.commit (later ++ past) t && is_removed_in e.turn.lines t

      came : List Event
      came = came_by (step_of e) removed (transcript (later ++ past))

  known_if : (b : Bool) (x y : List Event) → Known s x tuple → Known s y tuple → Known s (if b then x else y) tuple
  known_if true x y one other = one
  known_if false x y one other = other

pub tokens_stay_known : TokensStayKnown
tokens_stay_known = record {
  behind = λ s tuple later past known. known_behind s tuple later past known;
  between = λ s tuple past e answer known. known_if s tuple (is_heard answer.refusal) (came_alone (step_by e answer.refusal) (transcript past)) (transcript past) (alone_more s tuple (step_by e answer.refusal) (transcript past) known) known;
}
