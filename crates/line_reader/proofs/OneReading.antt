-- An item has one reading.
use Rattle.std.proofs.Common.{◌≡◌, ℕ, pos, List, [], true, false, Option, Some, None, codes, refl, sym, ap, subst, ◌∙◌}
use Rattle.std.specs.Bool.{if◌then◌else◌}
use Rattle.std.specs.Str.{bytes_eq}
use Rattle.std.proofs.lemmas.Slice.Eq.{bytes_eq-Decides}
use Rattle.host_api.specs.Items.{Item}
use Rattle.serde_json.specs.Data.{Data, Members}
use Rattle.document_keys.specs.Names.{Root}
use Rattle.value_model.specs.declared.document.RpcStatus.{RpcStatus}
use Rattle.value_model.specs.declared.message.StreamName.{StreamName}
use Rattle.value_model.specs.declared.message.StreamName.TheVariants as stream
use Rattle.value_model.specs.declared.timestamp.Timestamp.{Timestamp}
use Rattle.json_model.specs.declared.place.Place.TheVariants as place
use Rattle.json_model.specs.declared.place.Object.TheVariants as object
use Rattle.json_model.specs.declared.fault.JsonFault.{JsonFault}
use Rattle.json_model.specs.Faults.{FirstOf, max_nesting}
use Rattle.json_model.specs.Grammar.{SpellsName, SpellsTime}
use Rattle.json_model.specs.Members.{given}
use Rattle.json_model.specs.Ranks.{first_of_least}
use Rattle.json_model.proofs.Forms.{IsOnce, given_once, object_once, choice_once, spells_each_once}
use Rattle.json_model.proofs.Once.{time_once, whole_once}
use Rattle.json_model.proofs.OneLeaf.{IsOne}
use Rattle.json_model.proofs.OneList.{faults_one}
use Rattle.json_model.proofs.OneName.{spells_name_one}
use Rattle.mutations.specs.declared.write.Write.{Write}
use Rattle.json_rpc.specs.Grammar.{SpellsWrite}
use Rattle.json_rpc.proofs.Once.{write_once}
use Rattle.queries.specs.declared.raw.RawQuery.{RawQuery}
use Rattle.json_queries.specs.Grammar.{SpellsQuery}
use Rattle.json_queries.proofs.Once.{query_once}
use Rattle.json_messages.specs.Faults.{sent, ListenFaults, WriteResponseFaults}
use Rattle.json_messages.specs.Grammar.{SpellsListenResponse, SpellsWriteResponse}
use Rattle.json_messages.proofs.Once.{answer_once, response_once, status_once}
use Rattle.client_events.specs.declared.event.Event.TheVariants as event
use Rattle.line_reader.specs.Faults.{LineFaults, caller}
use Rattle.line_reader.specs.Grammar.{SpellsWriteLine, SpellsGetLine, SpellsListenerId, SpellsListenLine, SpellsUnlistenLine, SpellsOpenLine, SpellsClosingStatus, SpellsCloseLine, IsGoodMessage, IsBadMessage, SpellsNamed, Spells, member_of, stream_text}
use Rattle.line_reader.specs.Reading.{IsJson, Reads, IsListenerReading, IsReadingOf, refusal_of, too_long, no_json, a_fault, no_fault}
use Rattle.line_reader.specs.declared.raw_event.RawEvent.{RawEvent}
use Rattle.line_reader.specs.declared.raw_event.RawEvent.TheVariants as raw
use Rattle.line_reader.specs.declared.refusal.Refusal.{Refusal}
use Rattle.line_reader.specs.declared.refusal.Refusal.TheVariants.{BadQuery}
use Rattle.line_reader.specs.declared.reading.Reading.{Reading}
use Rattle.line_reader.specs.declared.reading.Reading.TheVariants.{Line, Refused}
use Rattle.line_reader.proofs.Checked.{target_once, rule_once, no_rule}

pub one_line : (root : Root) (d : Data) → IsOne (LineFaults root d)
one_line root d a b first second = faults_one (caller root) max_nesting (place.Object object.Line) [] d a b first second

-- ---- first faults

-- there is one first fault
first_one : (Faults : List JsonFault → Type 0) → IsOne Faults → (a b : Option JsonFault) → FirstOf Faults a → FirstOf Faults b → a ≡ b
first_one Faults one a b first second = first.first ∙ ap first_of_least (one first.faults second.faults first.are second.are) ∙ sym second.first

-- and none where there are no faults
none_first : (Faults : List JsonFault → Type 0) → IsOne Faults → (fault : JsonFault) → Faults [] → FirstOf Faults (Some fault) → ⊥
none_first Faults one fault none first = let e : Some fault ≡ None = first.first ∙ ap first_of_least (one first.faults [] first.are none) in cc

-- ---- what a tree spells

some_one : {A : Type 0} (o : Option A) (x y : A) → o ≡ Some x → o ≡ Some y → x ≡ y
some_one {A} o x y first second = let e : Some x ≡ Some y = sym first ∙ second in cc

-- what `write` holds
abbrev Writing : Type 0
Writing = Timestamp × List Write

write_line_once : (root : Root) (ms : Members) → IsOnce (λ (x : Writing). SpellsWriteLine root ms x.0 x.1)
write_line_once root ms a b first second =
    let times = given_once (given (codes "at") ms) SpellsTime time_once a.0 b.0 first.time second.time in
    let writes = spells_each_once (given (codes "writes") ms) (SpellsWrite root) (write_once root) a.1 b.1 first.each second.each in
    λ i. (times i, writes i)

get_line_once : (root : Root) (ms : Members) → IsOnce (SpellsGetLine root ms)
get_line_once root ms a b first second = given_once (given (codes "name") ms) (SpellsName root) (spells_name_one root) a b first second

id_once : (found : Option Data) → IsOnce (SpellsListenerId found)
id_once None a b first second = first ∙ sym second
id_once (Some d) a b first second = let e : pos a ≡ pos b = whole_once d (pos a) (pos b) first.whole second.whole in cc

-- what `listen` holds
abbrev Listened : Type 0
Listened = ℕ × RawQuery

listen_line_once : (root : Root) (ms : Members) → IsOnce (λ (x : Listened). SpellsListenLine root ms x.0 x.1)
listen_line_once root ms a b first second =
    let ids = id_once (given (codes "id") ms) a.0 b.0 first.listener second.listener in
    let queries = given_once (given (codes "target") ms) (SpellsQuery root) (query_once root) a.1 b.1 first.target second.target in
    λ i. (ids i, queries i)

unlisten_line_once : (ms : Members) → IsOnce (SpellsUnlistenLine ms)
unlisten_line_once ms a b first second = id_once (given (codes "id") ms) a b first second

-- ---- what comes on a stream

-- the stream of a name
abbrev stream_of : List ℕ → StreamName
stream_of text = if bytes_eq text (codes "watch") then stream.Watch else stream.Write

stream_back : (name : StreamName) → stream_of (stream_text name) ≡ name
stream_back stream.Watch = refl
stream_back stream.Write = refl

open_line_once : (ms : Members) → IsOnce (SpellsOpenLine ms)
open_line_once ms a b first second = let texts : stream_text a ≡ stream_text b = cc in sym (stream_back a) ∙ ap stream_of texts ∙ stream_back b

closing_status_once : (found : Option Data) → IsOnce (SpellsClosingStatus found)
closing_status_once None a b first second =
    let codes_are = first.0 ∙ sym second.0 in
    let messages = first.1 ∙ sym second.1 in
    λ i. record { code = codes_are i; message = messages i }
closing_status_once (Some d) a b first second = status_once d a b first second

-- what `close` holds
abbrev Closing : Type 0
Closing = StreamName × RpcStatus

close_line_once : (ms : Members) → IsOnce (λ (x : Closing). SpellsCloseLine ms x.0 x.1)
close_line_once ms a b first second =
    let names = open_line_once ms a.0 b.0 first.of second.of in
    let statuses = closing_status_once (given (codes "status") ms) a.1 b.1 first.why second.why in
    λ i. (names i, statuses i)

-- ---- messages

listen_one : (root : Root) (d : Data) → IsOne (ListenFaults root d)
listen_one root d a b first second = faults_one (sent root) max_nesting (place.Object object.ListenResponse) (codes "watch") d a b first second

write_one : (root : Root) (d : Data) → IsOne (WriteResponseFaults root d)
write_one root d a b first second = faults_one (sent root) max_nesting (place.Object object.WriteResponse) (codes "written") d a b first second

-- the first fault of a message is told by one member
bad_message_once : (Faults : List JsonFault → Type 0) → IsOne Faults → IsOnce (IsBadMessage Faults)
bad_message_once Faults one a b first second =
    let faults : Some first.fault ≡ Some second.fault = first_one Faults one (Some first.fault) (Some second.fault) first.first second.first in
    let same : first.fault ≡ second.fault = cc in
    some_one (member_of second.fault) a b (ap member_of (sym same) ∙ first.told) second.told

-- a message with faults is none without
no_message : {X : Type 0} (Faults : List JsonFault → Type 0) (Spells : X → Type 0) → IsOne Faults → (message : X) (member : List ℕ) → IsGoodMessage Faults Spells message → IsBadMessage Faults member → ⊥
no_message {X} Faults Spells one message member good bad = none_first Faults one bad.fault good.clean bad.first

-- ---- lines

-- the name of a line
abbrev line_name : RawEvent → List ℕ
line_name (raw.Write at writes) = codes "write"
line_name (raw.Get key) = codes "get"
line_name (raw.Listen id query) = codes "listen"
line_name (raw.Unlisten id) = codes "unlisten"
line_name (raw.Opened name) = codes "open"
line_name (raw.Closed name status) = codes "close"
line_name (raw.Watch message) = codes "watch"
line_name (raw.BadWatch member) = codes "watch"
line_name (raw.Written message) = codes "written"
line_name (raw.BadWritten member) = codes "written"
line_name raw.Timer = codes "timer"

named : (root : Root) (name : List ℕ) (d : Data) (e : RawEvent) → SpellsNamed root name d e → name ≡ line_name e
named root name d (raw.Write at writes) spelled = spelled.0
named root name d (raw.Get key) spelled = spelled.0
named root name d (raw.Listen id query) spelled = spelled.0
named root name d (raw.Unlisten id) spelled = spelled.0
named root name d (raw.Opened of) spelled = spelled.0
named root name d (raw.Closed of status) spelled = spelled.0
named root name d (raw.Watch message) spelled = spelled.0
named root name d (raw.BadWatch member) spelled = spelled.0
named root name d (raw.Written message) spelled = spelled.0
named root name d (raw.BadWritten member) spelled = spelled.0
named root name d raw.Timer spelled = spelled.0

apart : (a b : List ℕ) → bytes_eq a b ≡ false → a ≡ b → ⊥
apart a b unlike is = let yes_is : bytes_eq a b ≡ true = (bytes_eq-Decides a b).1 is in cc

named_once : (root : Root) (name : List ℕ) (d : Data) → IsOnce (SpellsNamed root name d)
named_once root name d (raw.Write at a) (raw.Write time b) first second =
    let same = object_once d (λ ms (x : Writing). SpellsWriteLine root ms x.0 x.1) (write_line_once root) (at, a) (time, b) first.1 second.1 in
    λ i. raw.Write (same i).0 (same i).1
named_once root name d (raw.Get a) (raw.Get b) first second = ap raw.Get (object_once d (SpellsGetLine root) (get_line_once root) a b first.1 second.1)
named_once root name d (raw.Listen id a) (raw.Listen other b) first second =
    let same = object_once d (λ ms (x : Listened). SpellsListenLine root ms x.0 x.1) (listen_line_once root) (id, a) (other, b) first.1 second.1 in
    λ i. raw.Listen (same i).0 (same i).1
named_once root name d (raw.Unlisten a) (raw.Unlisten b) first second = ap raw.Unlisten (object_once d (λ ms id. SpellsUnlistenLine ms id) unlisten_line_once a b first.1 second.1)
named_once root name d (raw.Opened a) (raw.Opened b) first second = ap raw.Opened (object_once d (λ ms of. SpellsOpenLine ms of) open_line_once a b first.1 second.1)
named_once root name d (raw.Closed of a) (raw.Closed other b) first second =
    let same = object_once d (λ ms (x : Closing). SpellsCloseLine ms x.0 x.1) close_line_once (of, a) (other, b) first.1 second.1 in
    λ i. raw.Closed (same i).0 (same i).1
named_once root name d (raw.Watch a) (raw.Watch b) first second = ap raw.Watch (response_once root d a b first.1.spells second.1.spells)
named_once root name d (raw.Watch a) (raw.BadWatch b) first second = absurd (no_message (ListenFaults root d) (SpellsListenResponse root d) (listen_one root d) a b first.1 second.1)
named_once root name d (raw.BadWatch a) (raw.Watch b) first second = absurd (no_message (ListenFaults root d) (SpellsListenResponse root d) (listen_one root d) b a second.1 first.1)
named_once root name d (raw.BadWatch a) (raw.BadWatch b) first second = ap raw.BadWatch (bad_message_once (ListenFaults root d) (listen_one root d) a b first.1 second.1)
named_once root name d (raw.Written a) (raw.Written b) first second = ap raw.Written (answer_once d a b first.1.spells second.1.spells)
named_once root name d (raw.Written a) (raw.BadWritten b) first second = absurd (no_message (WriteResponseFaults root d) (SpellsWriteResponse d) (write_one root d) a b first.1 second.1)
named_once root name d (raw.BadWritten a) (raw.Written b) first second = absurd (no_message (WriteResponseFaults root d) (SpellsWriteResponse d) (write_one root d) b a second.1 first.1)
named_once root name d (raw.BadWritten a) (raw.BadWritten b) first second = ap raw.BadWritten (bad_message_once (WriteResponseFaults root d) (write_one root d) a b first.1 second.1)
named_once root name d raw.Timer raw.Timer first second = refl
named_once root name d a b first second = absurd (apart (line_name a) (line_name b) refl (sym (named root name d a first) ∙ named root name d b second))

pub event_one : (root : Root) (d : Data) (a b : RawEvent) → Spells root d a → Spells root d b → a ≡ b
event_one root d a b first second = choice_once object.Line d (λ ms name inner e. SpellsNamed root name inner e) (λ ms name inner. named_once root name inner) a b first second

-- ---- what is made of it

listener_one : (id : ℕ) (query : RawQuery) (a b : Reading) → IsListenerReading id query a → IsListenerReading id query b → a ≡ b
listener_one id query (Line (event.Listen i t)) (Line (event.Listen j u)) first second =
    let ids = first.0 ∙ sym second.0 in
    let targets = target_once query t u first.1 second.1 in
    λ k. Line (event.Listen (ids k) (targets k))
listener_one id query (Line (event.Listen i t)) (Refused (BadQuery r)) first second = absurd (no_rule query t r first.1 second)
listener_one id query (Line (event.Listen i t)) _ first second = absurd second
listener_one id query (Refused (BadQuery r)) (Line (event.Listen j u)) first second = absurd (no_rule query u r second.1 first)
listener_one id query (Refused (BadQuery r)) (Refused (BadQuery q)) first second = ap (λ x. Refused (BadQuery x)) (rule_once query r q first second)
listener_one id query (Refused (BadQuery r)) _ first second = absurd second
listener_one id query _ b first second = absurd first

reading_one : (e : RawEvent) (a b : Reading) → IsReadingOf e a → IsReadingOf e b → a ≡ b
reading_one (raw.Write at writes) a b first second = first ∙ sym second
reading_one (raw.Get key) a b first second = first ∙ sym second
reading_one (raw.Listen id query) a b first second = listener_one id query a b first second
reading_one (raw.Unlisten id) a b first second = first ∙ sym second
reading_one (raw.Opened name) a b first second = first ∙ sym second
reading_one (raw.Closed name status) a b first second = first ∙ sym second
reading_one (raw.Watch message) a b first second = first ∙ sym second
reading_one (raw.BadWatch member) a b first second = first ∙ sym second
reading_one (raw.Written message) a b first second = first ∙ sym second
reading_one (raw.BadWritten member) a b first second = first ∙ sym second
reading_one raw.Timer a b first second = first ∙ sym second

-- ---- one reading

one_tree : (text : List ℕ) (d e : Data) → IsJson text d → IsJson text e → d ≡ e
one_tree text d e first second = let t : Some d ≡ Some e = sym first.is ∙ second.is in cc

refusal_one : (a b : JsonFault) (r q : Refusal) → Some a ≡ Some b → refusal_of a ≡ Some r → refusal_of b ≡ Some q → r ≡ q
refusal_one a b r q same first second = let faults : a ≡ b = cc in some_one (refusal_of b) r q (ap refusal_of (sym faults) ∙ first) second

pub one_reading : (root : Root) (it : Item) (a b : Reading) → Reads root it a → Reads root it b → a ≡ b
one_reading root _ _ _ too_long too_long = refl
one_reading root _ _ _ (no_json text none) (no_json _ other) = refl
one_reading root _ _ _ (no_json text none) (a_fault _ d f r json first is) = absurd (none d json)
one_reading root _ _ _ (no_json text none) (no_fault _ d e r json clean spells is) = absurd (none d json)
one_reading root _ _ _ (a_fault text d f r json first is) (no_json _ none) = absurd (none d json)
one_reading root _ _ _ (a_fault text d f r json first is) (a_fault _ e g q also second are) =
    let same = one_tree text d e json also in
    ap Refused (refusal_one f g r q (first_one (LineFaults root e) (one_line root e) (Some f) (Some g) (subst (λ (t : Data). FirstOf (LineFaults root t) (Some f)) same first) second) is are)
one_reading root _ _ _ (a_fault text d f r json first is) (no_fault _ e ev q also clean spells are) = absurd (none_first (LineFaults root e) (one_line root e) f clean (subst (λ (t : Data). FirstOf (LineFaults root t) (Some f)) (one_tree text d e json also) first))
one_reading root _ _ _ (no_fault text d ev r json clean spells is) (no_json _ none) = absurd (none d json)
one_reading root _ _ _ (no_fault text d ev r json clean spells is) (a_fault _ e f q also first are) = absurd (none_first (LineFaults root d) (one_line root d) f clean (subst (λ (t : Data). FirstOf (LineFaults root t) (Some f)) (one_tree text e d also json) first))
one_reading root _ _ _ (no_fault text d ev r json clean spells is) (no_fault _ e other q also pure second are) =
    let events = event_one root e ev other (subst (λ (t : Data). Spells root t ev) (one_tree text d e json also) spells) second in
    reading_one other r q (subst (λ (v : RawEvent). IsReadingOf v r) events is) are
