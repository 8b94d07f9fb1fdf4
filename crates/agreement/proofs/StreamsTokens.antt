-- The events of a stream have the token of an id that its calls have.
use Rattle.std.proofs.Common.{◌≡◌, ◌∙◌, Bool, true, false, cond, not, ◌&&◌, ◌||◌, ◌==◌, List, [], ◌∷◌, refl, sym, ap}
use Rattle.std.specs.Prelude.{if◌then◌else◌, is_none}
use Rattle.std.specs.Ordering.{int_eq}
use Rattle.std.proofs.lemmas.Bool.{false≢true, and_parts, not-true, not-false}
use Rattle.value_model.specs.declared.message.ChangeKind.{ChangeKind}
use Rattle.value_model.specs.declared.message.ChangeKind.TheVariants.{NoChange, Add, Remove, Current, Reset}
use Rattle.value_model.specs.declared.message.ListenResponse.{ListenResponse}
use Rattle.value_model.specs.declared.message.ListenResponse.TheVariants as sent
use Rattle.listen_protocol.specs.Calls as calls
use Rattle.listen_protocol.specs.Calls.{Call, Calls, asked, unasked, came, applied, skipped, is_add, is_reset}
use Rattle.listen_protocol.specs.Transcript as stream
use Rattle.agreement.specs.Backend.{Id, Token}
use Rattle.agreement.specs.Transcript.{Request, Event, Asked, Unasked, Heard, start, own_token, token, point_time}
use Rattle.agreement.specs.Streams.{message_of, events, is_point, is_taking, PointsAreTaken, EndsUntaken, StreamsAgree}
use Rattle.agreement.proofs.Streams.{sort_of, sorted, started_by, start_same, asked_same, counts_same}
use Rattle.agreement.proofs.StreamsTold.{counted_step, current_same, told_same}

-- what the events before leave to the next one
carried : Id → List Event → Token
carried id [] = []
carried id (f ∷ past) = if point_time f == 0 then token id (f ∷ past) else []

pub token_alone : (own : Token) (b : Bool) → own ≡ stream.or_else own (cond b [] [])
token_alone [] true = refl
token_alone [] false = refl
token_alone (byte ∷ bytes) b = refl

pub nested : (a b : Bool) (t : Token) → cond (a && b) t [] ≡ cond a (cond b t []) []
nested true b t = refl
nested false b t = refl

token_step : (id : Id) (e : Event) (past : List Event) → token id (e ∷ past) ≡ stream.or_else (own_token id e) (cond (is_none (start id e past)) (carried id past) [])
unfolding carried
token_step id e [] = token_alone (own_token id e) (is_none (start id e []))
token_step id e (f ∷ past) = ap (stream.or_else (own_token id e)) (nested (is_none (start id e (f ∷ past))) (point_time f == 0) (token id (f ∷ past)))

pub own_same : (m : ListenResponse) (id : Id) → own_token id (Heard (message_of m)) ≡ calls.token_for m id
own_same (sent.Target change) id = refl
own_same (sent.Change change) id = refl
own_same (sent.Delete delete) id = refl
own_same (sent.Remove remove) id = refl
own_same (sent.Filter filter) id = refl

pub last_since : (id : Id) (b : Bool) (m : ListenResponse) (ms : List ListenResponse)
    → stream.last_token id (if b then m ∷ [] else m ∷ ms) ≡ stream.or_else (calls.token_for m id) (if b then [] else stream.last_token id ms)
last_since id true m ms = refl
last_since id false m ms = refl

pub came_token : (k : ChangeKind) (c : Bool) (before here : Token) → (c ≡ true → before ≡ here) → (c || is_add k) ≡ true
    → cond (is_none (started_by k c)) before [] ≡ (if not c || is_reset k then [] else here)
came_token NoChange true before here same counted = same refl
came_token NoChange false before here same counted = absurd (false≢true counted)
came_token Add true before here same counted = same refl
came_token Add false before here same counted = refl
came_token Remove true before here same counted = same refl
came_token Remove false before here same counted = absurd (false≢true counted)
came_token Current true before here same counted = same refl
came_token Current false before here same counted = absurd (false≢true counted)
came_token Reset true before here same counted = refl
came_token Reset false before here same counted = absurd (false≢true counted)

taken_tail : (call : Call) (h : Calls) → PointsAreTaken (call ∷ h) → PointsAreTaken h
taken_tail call [] taken = tt
taken_tail call (before ∷ h) taken = taken.1

module _ (opening : Calls → Request) (older : List Event) (id : Id) where
  point_carried : (call : Call) (h : Calls) → true ≡ is_point call → carried id (events opening older (call ∷ h)) ≡ []
  unfolding carried
  point_carried (asked i keys document) h point = absurd (false≢true (sym point))
  point_carried (unasked i) h point = absurd (false≢true (sym point))
  point_carried (came m) h point = rw (not-true (point_time (Heard (message_of m)) == 0) (sym point)) refl
  point_carried applied h point = absurd (false≢true (sym point))
  point_carried skipped h point = absurd (false≢true (sym point))

  -- what the calls leave to the next one, where that isn't that a point was applied or skipped
  left : (call : Call) (h : Calls) → is_taking call ≡ false → PointsAreTaken (call ∷ h) → stream.counts id h ≡ true
      → (EndsUntaken h → token id (events opening older h) ≡ stream.token_in id h) → carried id (events opening older h) ≡ stream.token_in id h
  unfolding carried
  left call [] untaken taken counted same = absurd (false≢true counted)
  left call (asked i keys document ∷ h) untaken taken counted same = same refl
  left call (unasked i ∷ h) untaken taken counted same = same refl
  left call (came m ∷ h) untaken taken counted same = rw (not-false (point_time (Heard (message_of m)) == 0) (sym taken.0 ∙ untaken)) (same refl)
  left call (applied ∷ []) untaken taken counted same = absurd (false≢true (sym taken.1))
  left call (applied ∷ before ∷ h) untaken taken counted same = point_carried before h taken.1.0
  left call (skipped ∷ []) untaken taken counted same = absurd (false≢true (sym taken.1))
  left call (skipped ∷ before ∷ h) untaken taken counted same = point_carried before h taken.1.0

  pub token_same : (h : Calls) → PointsAreTaken h → EndsUntaken h → stream.counts id h ≡ true → token id (events opening older h) ≡ stream.token_in id h
  token_same [] taken ends counted = absurd (false≢true counted)
  token_same (asked i keys document ∷ h) taken ends counted =
      let p = and_parts (not (int_eq id i)) (stream.counts id h) counted in
      let call = asked i keys document in
      token_step id (Asked i (opening (asked i keys document ∷ h))) (events opening older h)
      ∙ left call h refl taken p.1 (λ untaken. token_same h (taken_tail call h taken) untaken p.1)
  token_same (unasked i ∷ h) taken ends counted =
      let p = and_parts (not (int_eq id i)) (stream.counts id h) counted in
      let call = unasked i in
      token_step id (Unasked (λ x. int_eq x i)) (events opening older h)
      ∙ left call h refl taken p.1 (λ untaken. token_same h (taken_tail call h taken) untaken p.1)
  token_same (came m ∷ h) taken ends counted =
      let here = came_token (sort_of m id) (stream.counts id h) (carried id (events opening older h)) (stream.token_in id h)
      (λ before. left (came m) h refl taken before (λ untaken. token_same h (taken_tail (came m) h taken) untaken before)) (counted_step m id h counted) in
      token_step id (Heard (message_of m)) (events opening older h) ∙ rw (own_same m id, start_same opening older id m h, sorted is_reset refl m id)
      (ap (stream.or_else (calls.token_for m id)) here ∙ sym (last_since id (not (stream.counts id h) || is_reset (sort_of m id)) m (stream.lately id h)))
  token_same (applied ∷ h) taken ends counted = absurd (false≢true (sym ends))
  token_same (skipped ∷ h) taken ends counted = absurd (false≢true (sym ends))

pub streams_agree : StreamsAgree
streams_agree = record {
  asks = λ opening older h id. asked_same opening older id h;
  counting = λ opening older h id. counts_same opening older id h;
  current = λ opening older h id. current_same opening older id h;
  tells = told_same;
  tokens = λ opening older h id. token_same opening older id h;
}
