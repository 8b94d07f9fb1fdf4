-- The lines that were handled so far, and what they wrote and kept.
use Rattle.std.proofs.Common.{◌≡◌, ◌≢◌, ◌⊎◌, inl, inr, ⊎_elim, ℕ, ◌+◌, ◌<◌, ◌≤◌, ◌^◌, suc, IsTrue, List, [], ◌∷◌, ◌++◌, length, take, drop, get_or, Ok, Err, refl, sym, ap, subst, ◌∙◌, arith}
use Rattle.std.specs.List.{AllZip}
use Rattle.std.proofs.lemmas.List.{take_more, length-append, length-drop, append_assoc, append-nil}
use Rattle.std.proofs.Math.Seq.{drop-cons}
use Rattle.host_api.specs.Counts.{RisesAt, one_more}
use Rattle.host_api.specs.Items.{Item, Next, item_of, split}
use Rattle.host_api.specs.declared.source.Line.{Line}
use Rattle.host_api.specs.declared.source.Line.TheVariants.{Text, TooLong, End}
use Rattle.host_api.specs.Host.{Files, View, IsPart, Stays, Spans}
use Rattle.host_api.proofs.Spans.{spans_none, spans_then, spans_since, spans_weaker}
use Rattle.document_keys.specs.Names.{Root}
use Rattle.line_reader.specs.Reading.{Reads, AreRead}
use Rattle.line_reader.specs.Spelled.{IsSpelledReading}
use Rattle.line_reader.specs.declared.reading.Reading.{Reading}
use Rattle.local_store.specs.Files.{FindsState}
use Rattle.local_store.specs.State.{State}
use Rattle.local_store.specs.Store.{IsSpent as IsStoreSpent, IsStored, Store}
use Rattle.client_turns.specs.Turns.{after}
use Rattle.client_turns.specs.Past.{Past}
use Rattle.sync_engine.specs.Standing.{Kept, StandsFor}
use Rattle.client_run.specs.Causes.{Causes, IsServed}
use Rattle.client_run.specs.Crash.{Keeps, IsAsBefore, Synced, FindsHandled, FindsNext, FindsAtEnd, Survives, Crashes}
use Rattle.client_run.specs.History.{Handled, History, IsNext, now, heard, output_of, readings_of}
use Rattle.client_run.specs.Laws.{IsCounted}
use Rattle.client_run.specs.Output.{Call, IsRun, out_after, raised_by, TookNext, EndsAs}
use Rattle.client_run.specs.Printed.{printed}
use Rattle.client_run.specs.Run.{Ran, LeavesAll, Kept as KeptAtEnd}
use Rattle.client_run.specs.Turn.{LineTurn, CommitsNext, CommitsOne}
use Rattle.client_run.specs.Turned.{Coming, FindsCommit, IsHandled, Stopped, Turned, TurnCounts, coming, status_of}
use Rattle.client_run.specs.declared.turn_fault.TurnFault.{TurnFault}
use Rattle.client_run.specs.declared.turn_fault.TurnFault.TheVariants as fault
use Rattle.client_run.specs.declared.status.Status.{Status}
use Rattle.client_run.specs.declared.status.Status.TheVariants.{DiskFault, SinkFault, NoMemory}
use Rattle.sync_engine.proofs.Committed.{stored_finds}
use Rattle.client_run.proofs.Honest.{turn_within, more_small}
use Rattle.client_run.proofs.Surviving.{IsFine, fine_none, fine_more, survives_at, survives_more, survives_part}

readings_length : (history : History) → length (readings_of history) ≡ length history
readings_length [] = refl
readings_length (line ∷ history) = omega (arith, length-append (readings_of history) (line.reading ∷ []), readings_length history)

-- a crash finds the state
pub record Starts (s : State) (v : View) : Type 0 where
  pub finds : (c : Files) → v.may_leave c → FindsState c s

stored_starts : {client : Kept} {s : State} {past : Past} {v : View} → ¬ (IsStoreSpent client.store) → IsStored client.store v → StandsFor client s past → Starts s v
stored_starts whole is stands = record { finds = λ c left. subst (FindsState c) stands.state (stored_finds whole is c left) }

pub record Serving (call : Call) (done : ℕ) (rest : List Item) (client : Kept) (old v : View) : Type 0 where
  pub history : History
  pub count : length history ≡ done
  pub run : IsRun call history
  pub within : done ≤ length call.items
  pub left_over : rest ≡ drop done call.items
  pub root : client.root ≡ call.root
  pub stands : StandsFor client (now call.first history) (heard history)
  pub wrote : IsTrue call.tells_out → v.out ≡ out_after call history
  pub fine : IsFine call.root call.first history
  pub starts : Starts call.first old
  pub time : IsTrue call.tells_out → Spans old v (Survives done call)

-- nothing was handled yet
pub served_none : (call : Call) (client : Kept) (v : View) → client.root ≡ call.root → call.out ≡ v.out → ¬ (IsStoreSpent client.store) → IsStored client.store v → StandsFor client call.first [] → Serving call 0 call.items client v v
served_none call client v root same whole is stands = record {
  history = [];
  count = refl;
  run = record { turns = tt; read = tt; spelled = tt };
  within = omega arith;
  left_over = refl;
  root = root;
  stands = stands;
  wrote = λ told. sym same ∙ sym (append-nil call.out);
  fine = fine_none call.root call.first;
  starts = stored_starts whole is stands;
  time = λ out. spans_none v (Survives 0 call);
}

-- the next item is read as this
pub record Nexts (root : Root) (items : List Item) (readings : List Reading) (reading : Reading) (rest : List Item) : Type 0 where
  pub below : length readings < length items
  pub read : AreRead root items (readings ++ reading ∷ [])
  pub left_over : rest ≡ drop (length readings + 1) items

next_item : (line : Line) (text : List ℕ) (old new : List Item) → (line ≡ End → ⊥) → Next (item_of line text) old new → old ≡ item_of line text ∷ new
next_item Text text old new open_still next = next
next_item TooLong text old new open_still next = next
next_item End text old new open_still next = absurd (open_still refl)

below_of : {X : Type 0} (xs : List X) (n : ℕ) (x : X) (rest : List X) → drop n xs ≡ x ∷ rest → n < length xs
below_of xs n x rest is =
    let long : length (drop n xs) ≡ suc (length rest) = ap length is in
    omega (arith, length-drop n xs, long)

zip_more : {X Y : Type 0} (R : X → Y → Type 0) (xs : List X) (ys : List Y) (x : X) (y : Y) → AllZip R xs ys → R x y → AllZip R (xs ++ x ∷ []) (ys ++ y ∷ [])
zip_more R [] [] x y all one = (one, tt)
zip_more R [] (b ∷ ys) x y all one = absurd all
zip_more R (a ∷ xs) [] x y all one = absurd all
zip_more R (a ∷ xs) (b ∷ ys) x y all one = (all.0, zip_more R xs ys x y all.1 one)

next_from : (root : Root) (items : List Item) (readings : List Reading) (reading : Reading) (item : Item) (rest : List Item) → AreRead root items readings → drop (length readings) items ≡ item ∷ rest → Reads root item reading → Nexts root items readings reading rest
next_from root items readings reading item rest read is one =
    let n = length readings in
    let below = below_of items n item rest is in
    let first = drop-cons items n item below in
    let same : get_or items n item ≡ item = cc in
    let others : drop (suc n) items ≡ rest = cc in
    let place : suc n ≡ n + 1 = omega arith in
    let taken : take (n + 1) items ≡ take n items ++ item ∷ [] = take_more items n item below ∙ ap (λ x. take n items ++ x ∷ []) same in
    let long : length (readings ++ reading ∷ []) ≡ n + 1 = length-append readings (reading ∷ []) in
    record {
      below = below;
      read = subst (λ (l : List Item). AllZip (Reads root) l (readings ++ reading ∷ [])) (sym (ap (λ k. take k items) long ∙ taken)) (zip_more (Reads root) (take n items) readings item reading read one);
      left_over = sym others ∙ ap (λ k. drop k items) place;
    }

pub next_read : {call : Call} {done : ℕ} {rest : List Item} {client : Kept} {old v : View} (it : Serving call done rest client old v)
    (line : Line) (text shown : List ℕ) (more : List Item) (reading : Reading) → (line ≡ End → ⊥) → shown ≡ text → Next (item_of line text) rest more → Reads call.root (item_of line shown) reading → Nexts call.root call.items (readings_of it.history) reading more
next_read {call} {rest = rest} it line text shown more reading open_still same next one =
    next_from call.root call.items (readings_of it.history) reading (item_of line text) more it.run.read (ap (λ k. drop k call.items) (readings_length it.history ∙ it.count) ∙ sym it.left_over ∙ next_item line text rest more open_still next) (subst (λ (t : List ℕ). Reads call.root (item_of line t) reading) same one)

took_next : {call : Call} {history : History} {reading : Reading} {left : List ℕ} → Nexts call.root call.items (readings_of history) reading (split left) → TookNext call history left
took_next {call} {history} nexts = record {
  below = omega (arith, nexts.below, readings_length history);
  others = nexts.left_over ∙ ap (λ n. drop (n + 1) call.items) (readings_length history);
}

-- the source was read to its end
pub all_done : {call : Call} {done : ℕ} {rest : List Item} {client : Kept} {old v : View} → Serving call done rest client old v
    → (line : Line) (text : List ℕ) (more : List Item) → line ≡ End → Next (item_of line text) rest more → done ≡ length call.items
all_done {call} {done = done} {rest = rest} it line text more is next =
    let ended = subst (λ (l : Line). Next (item_of l text) rest more) is next in
    let none : length (drop done call.items) ≡ 0 = ap length (sym it.left_over ∙ ended.0) in
    omega (arith, length-drop done call.items, none, it.within)

pub none_left : {call : Call} {done : ℕ} {rest : List Item} {client : Kept} {old v : View} → Serving call done rest client old v
    → (line : Line) (text : List ℕ) (more : List Item) → line ≡ End → Next (item_of line text) rest more → more ≡ drop done call.items
none_left {rest = rest} it line text more is next =
    let ended = subst (λ (l : Line). Next (item_of l text) rest more) is next in
    ended.1 ∙ sym ended.0 ∙ it.left_over

-- what was taken of so many items, as of those that were handled
pub taken_as : {call : Call} {done : ℕ} {rest : List Item} {client : Kept} {old v : View} (it : Serving call done rest client old v) {more : List Item} → more ≡ drop done call.items → more ≡ drop (length it.history) call.items
taken_as {call} it is = is ∙ ap (λ k. drop k call.items) (sym it.count)

-- an item was taken
pub took_one : {call : Call} {done : ℕ} {rest : List Item} {client : Kept} {old v : View} (it : Serving call done rest client old v)
    → (line : Line) (text : List ℕ) (left : List ℕ) → (line ≡ End → ⊥) → Next (item_of line text) rest (split left) → TookNext call it.history left
took_one {call} {done = done} {rest = rest} it line text left open_still next =
    let front : drop done call.items ≡ item_of line text ∷ split left = sym it.left_over ∙ next_item line text rest (split left) open_still next in
    let below = below_of call.items done (item_of line text) (split left) front in
    let cut = drop-cons call.items done (item_of line text) below in
    let others : drop (suc done) call.items ≡ split left = cc in
    let place : suc done ≡ length it.history + 1 = omega (arith, it.count) in
    record { below = omega (arith, below, it.count); others = sym others ∙ ap (λ k. drop k call.items) place }

one_later : (n before : ℕ) → one_more (raised_by n before) ≡ raised_by (n + 1) before
one_later n before = let place : suc n ≡ n + 1 = omega arith in ap (λ k. raised_by k before) place

-- the source answered once more
pub answered_more : (n before : ℕ) {mid next : ℕ} → mid ≡ raised_by n before → next ≡ one_more mid → next ≡ raised_by (n + 1) before
answered_more n before same rises = rises ∙ ap one_more same ∙ one_later n before

-- so often for what was handled, and for the next item
pub answered_handled : {call : Call} {done : ℕ} {rest : List Item} {client : Kept} {old v : View} (it : Serving call done rest client old v) (before : ℕ) {mid next : ℕ} → mid ≡ raised_by done before → next ≡ mid → next ≡ raised_by (length it.history) before
answered_handled it before so same = same ∙ so ∙ ap (λ n. raised_by n before) (sym it.count)

pub answered_next : {call : Call} {done : ℕ} {rest : List Item} {client : Kept} {old v : View} (it : Serving call done rest client old v) (before : ℕ) {mid next : ℕ} → mid ≡ raised_by done before → next ≡ one_more mid → next ≡ raised_by (length it.history + 1) before
answered_next {done = done} it before so rises = answered_more done before so rises ∙ ap (λ n. raised_by (n + 1) before) (sym it.count)

-- nothing was done
pub stays_none : (v : View) → Stays v v
stays_none v = record { bytes = refl; crash = λ c left. left; time = spans_none v (λ o c. (o ≡ v.out) × v.may_leave c) }

-- the files find the state after every handled item
finds_handled : {call : Call} {done : ℕ} {rest : List Item} {client : Kept} {old v : View} (it : Serving call done rest client old v) (c : Files) → FindsState c (now call.first it.history) → FindsHandled call it.history c
finds_handled it c finds = subst (FindsState c) it.fine.state finds

-- since now, only what may come now has come
abbrev pub OnlyNow : View → Type 0
OnlyNow v = (o : List ℕ) (c : Files) → v.left_since v.moment o c → (o ≡ v.out) × v.may_leave c

-- at a moment with nothing handled
pub survives_first : (most : ℕ) (call : Call) (o : List ℕ) (c : Files) → 0 < most → o ≡ call.out → FindsState c call.first → Survives most call o c
survives_first most call o c some same finds = survives_at most call o c [] some (record { turns = tt; read = tt; spelled = tt }) (fine_none call.root call.first) (same ∙ sym (append-nil call.out)) (inl finds)

-- from the moment on at which a crash found the state, with the output as it stood at the start
pub synced_from : (how : Status) (call : Call) (history : History) {old mid new : View} → OnlyNow mid → call.out ≡ old.out → mid.out ≡ old.out → Stays old mid → ((c : Files) → mid.may_leave c → FindsState c call.first)
    → Spans mid new (Survives (length history + 1) call) → ((c : Files) → new.may_leave c → FindsAtEnd how call history c) → Synced how call history old new
synced_from how call history {old} {mid} {new} only_now out same stays finds spans at_end = record {
  time = mid.moment;
  from = stays.time.later;
  to = spans.later;
  before = spans_then (λ o c. IsAsBefore old o c ⊎ new.left_since mid.moment o c) stays.time (spans_since mid.moment (omega arith) spans) (λ o c h. inl h) (λ o c h. inr h);
  later = λ o c left. ⊎_elim
      (λ was. let now_left = only_now o c was in survives_first (length history + 1) call o c (omega arith) (now_left.0 ∙ same ∙ sym out) (finds c now_left.1))
      (λ h. h.0)
      (spans.only mid.moment mid.moment o c (omega arith) (omega arith) left);
  at_end = at_end;
}

-- a run that stops between two items
pub stops : {call : Call} {done before later : ℕ} {rest : List Item} {client : Kept} {old new : View} (how : Status) (left : List ℕ) (it : Serving call done rest client old new) → OnlyNow old → call.out ≡ old.out → ¬ (IsStoreSpent client.store) → IsStored client.store new
    → EndsAs how call it.history left before later new.out → ((c : Files) → FindsHandled call it.history c → FindsAtEnd how call it.history c) → Ran call how left before later old new
stops {call} {done = done} {old = old} how left it only_now same whole is ends leaves = record {
  history = it.history;
  run = it.run;
  within = omega (arith, it.within, it.count);
  ends = ends;
  crash = λ out. inl (synced_from how call it.history only_now same refl (stays_none old) it.starts.finds
      (spans_weaker (Survives (length it.history + 1) call) (it.time out) (λ o c. survives_more done (length it.history + 1) call o c (omega (arith, it.count))))
      (λ c left. leaves c (finds_handled it c (subst (FindsState c) it.stands.state (stored_finds whole is c left)))));
}

-- the files read as every handled item left them
pub leaves_all : {call : Call} {done : ℕ} {rest : List Item} {client : Kept} {old v : View} (it : Serving call done rest client old v) (count : ℕ) → done ≡ count → FindsState v.bytes client.store.state → LeavesAll count call v.bytes
leaves_all {v = v} it count many reads = record {
  history = it.history;
  run = it.run;
  many = it.count ∙ many;
  finds = finds_handled it v.bytes (subst (FindsState v.bytes) it.stands.state reads);
}

-- what the call that handled the next item says of it, whatever it answered
pub record Handles (number : ℕ) (reading : Reading) (client : Kept) (mid new : View) : Type 0 where
  pub files : (s : State) (past : Past) → StandsFor client s past → Turned (coming client.root s past reading number) mid new
  pub counted : IsCounted client.store.state
  pub spelled : IsSpelledReading reading

-- the next item, as it comes
abbrev coming_next : (call : Call) (history : History) (reading : Reading) (number : ℕ) → Coming
coming_next call history reading number = coming call.root (now call.first history) (heard history) reading number

-- with its turn it is one item more
abbrev line_of : (call : Call) (history : History) (reading : Reading) (t : LineTurn) → Handled
line_of call history reading t = record { state = now call.first history; reading = reading; turn = t }

module _ {call : Call} {done : ℕ} {rest more : List Item} {client : Kept} {old mid new : View} (reading : Reading) (it : Serving call done rest client old mid)
    (nexts : Nexts call.root call.items (readings_of it.history) reading more) (few : done + 1 < 2 ^ 64) (handles : Handles (done + 1) reading client mid new) where
  abbrev history : History
  history = it.history

  long : done + 1 ≡ length history + 1
  long = ap (λ n. n + 1) (sym it.count)

  turned : Turned (coming_next call history reading (done + 1)) mid new
  turned = subst (λ (root : Root). Turned (coming root (now call.first history) (heard history) reading (done + 1)) mid new) it.root (handles.files (now call.first history) (heard history) it.stands)

  -- what one item more makes of the run
  run_more : (t : LineTurn) → IsNext call.root call.first history (line_of call history reading t) → IsRun call (line_of call history reading t ∷ history)
  run_more t next = record { turns = (it.run.turns, next); read = nexts.read; spelled = (handles.spelled, it.run.spelled) }

  fine_next : (t : LineTurn) → IsNext call.root call.first history (line_of call history reading t) → IsFine call.root call.first (line_of call history reading t ∷ history)
  fine_next t next =
      fine_more call.root call.first history (line_of call history reading t) refl
      (turn_within call.root (now call.first history) (heard history) reading t (length history + 1) (subst IsCounted it.stands.state handles.counted) it.fine.small (omega (arith, few, long)) handles.spelled next.turn)
      (more_small (now call.first history) reading t (heard history) handles.spelled it.fine.small)
      it.fine

  found_next : (c : Files) → FindsCommit (coming_next call history reading (done + 1)) c → FindsNext call history c
  found_next c found = record {
    reading = reading;
    read = nexts.read;
    spelled = handles.spelled;
    commit = found.commit;
    commits = subst (λ (s : State). CommitsNext s (heard history) reading found.commit) it.fine.state found.commits;
    finds = subst (λ (s : State). FindsState c (after s found.commit)) it.fine.state found.finds;
  }

  -- a crash at any moment until the item was handled, or met a fault
  turn_spans : IsTrue call.tells_out → Spans old new (Survives (done + 1) call)
  turn_spans out =
      spans_then (Survives (done + 1) call) (it.time out) turned.time (λ o c. survives_more done (done + 1) call o c (omega arith)) (λ o c h. ⊎_elim
      (λ early. survives_at (done + 1) call o c history (omega (arith, it.count)) it.run it.fine (early.0 ∙ it.wrote out) (⊎_elim inl (λ found. inr (found_next c found)) early.1))
      (λ late.
      let next : IsNext call.root call.first history (line_of call history reading late.turn) = record { state = refl; turn = late.is_turn } in
      survives_part (done + 1) call o c (line_of call history reading late.turn ∷ history) (output_of call.root history) (printed call.root (length history + 1) late.turn) (omega (arith, it.count))
      (run_more late.turn next) (fine_next late.turn next) refl
      (subst (λ (n : ℕ). IsPart (printed call.root n late.turn) (call.out ++ output_of call.root history) o) long (subst (λ (l : List ℕ). IsPart (printed call.root (done + 1) late.turn) l o) (it.wrote out) late.part))
      late.finds)
      h)

  -- one item more was handled
  pub served_more : {next_client : Kept} → next_client.root ≡ client.root → ((s : State) (past : Past) → StandsFor client s past → IsHandled (coming client.root s past reading (done + 1)) next_client call.tells_out mid.out new.out) → Serving call (done + 1) more next_client old new
  served_more {next_client} root handled =
      let is = subst (λ (r : Root). IsHandled (coming r (now call.first history) (heard history) reading (done + 1)) next_client call.tells_out mid.out new.out) it.root (handled (now call.first history) (heard history) it.stands) in
      let next : IsNext call.root call.first history (line_of call history reading is.turn) = record { state = refl; turn = is.is_turn } in
      record {
        history = line_of call history reading is.turn ∷ history;
        count = omega (arith, it.count);
        run = run_more is.turn next;
        within = omega (arith, nexts.below, readings_length history, it.count);
        left_over = nexts.left_over ∙ ap (λ n. drop (n + 1) call.items) (readings_length history ∙ it.count);
        root = root ∙ it.root;
        stands = is.stands;
        wrote = λ told. is.out told ∙ ap (λ o. o ++ printed call.root (done + 1) is.turn) (it.wrote told) ∙ append_assoc call.out (output_of call.root history) (printed call.root (done + 1) is.turn)
            ∙ ap (λ (n : ℕ). call.out ++ (output_of call.root history ++ printed call.root n is.turn)) long;
        fine = fine_next is.turn next;
        starts = it.starts;
        time = turn_spans;
      }

  -- what a crash leaves of a run that stops within an item
  crashes_within : (how : Status) (left : List ℕ) → OnlyNow old → call.out ≡ old.out
      → ((c : Files) → FindsHandled call history c ⊎ FindsNext call history c → FindsAtEnd how call history c)
      → IsTrue call.tells_out → Crashes how call history left old new
  crashes_within how left only_now same leaves out =
      inl (synced_from how call history only_now same refl (stays_none old) it.starts.finds
      (spans_weaker (Survives (length history + 1) call) (turn_spans out) (λ o c. survives_more (done + 1) (length history + 1) call o c (omega (arith, it.count))))
      (λ c now_left. leaves c (⊎_elim
      (λ early. inl (finds_handled it c early))
      (λ late. inr (found_next c late))
      (turned.crash c now_left))))

  stopped_as : (why : TurnFault) → (IsTrue call.tells_out → (s : State) (past : Past) → StandsFor client s past → Stopped (coming client.root s past reading (done + 1)) why mid.out new.out)
      → IsTrue call.tells_out → Stopped (coming_next call history reading (done + 1)) why mid.out new.out
  stopped_as why stopped told = subst (λ (r : Root). Stopped (coming r (now call.first history) (heard history) reading (done + 1)) why mid.out new.out) it.root (stopped told (now call.first history) (heard history) it.stands)

-- a run that stops within an item
pub stops_within : {call : Call} {done before later : ℕ} {rest : List Item} {client : Kept} {old mid new : View} (why : TurnFault) (left : List ℕ) (reading : Reading) (it : Serving call done rest client old mid) → OnlyNow old → call.out ≡ old.out
    → Nexts call.root call.items (readings_of it.history) reading (split left) → done + 1 < 2 ^ 64 → Handles (done + 1) reading client mid new
    → (IsTrue call.tells_out → (s : State) (past : Past) → StandsFor client s past → Stopped (coming client.root s past reading (done + 1)) why mid.out new.out)
    → (why ≡ fault.DiskFault → (s : State) (past : Past) → StandsFor client s past → CommitsOne s past reading)
    → later ≡ raised_by (length it.history + 1) before
    → done < call.budget → Ran call (status_of why) left before later old new
stops_within {call} {done = done} {new = new} fault.DiskFault left reading it only_now same nexts few handles stopped meets answered below = record {
  history = it.history;
  run = it.run;
  within = omega (arith, it.within, it.count);
  ends = record {
    handled = omega (arith, below, it.count);
    taken = inl (record { others = took_next nexts; reading = reading; read = nexts.read; spelled = handles.spelled; commits = meets refl (now call.first it.history) (heard it.history) it.stands }, answered);
    written = λ told. stopped_as reading it nexts few handles fault.DiskFault stopped told ∙ it.wrote told;
  };
  crash = crashes_within reading it nexts few handles DiskFault left only_now same (λ c h. h);
}
stops_within {call} {done = done} {new = new} fault.NoMemory left reading it only_now same nexts few handles stopped meets answered below = record {
  history = it.history;
  run = it.run;
  within = omega (arith, it.within, it.count);
  ends = record {
    handled = omega (arith, below, it.count);
    taken = inr (took_next nexts, answered);
    written = λ told. stopped_as reading it nexts few handles fault.NoMemory stopped told ∙ it.wrote told;
  };
  crash = crashes_within reading it nexts few handles NoMemory left only_now same (λ c h. h);
}
stops_within {call} {done = done} {new = new} fault.SinkFault left reading it only_now same nexts few handles stopped meets answered below = record {
  history = it.history;
  run = it.run;
  within = omega (arith, it.within, it.count);
  ends = record {
    handled = omega (arith, below, it.count);
    taken = (took_next nexts, answered);
    written = λ told.
        let stopped_part = stopped_as reading it nexts few handles fault.SinkFault stopped told in
        let long : done + 1 ≡ length it.history + 1 = ap (λ n. n + 1) (sym it.count) in
        record {
          line = line_of call it.history reading stopped_part.turn;
          next = record { state = refl; turn = stopped_part.is_turn };
          read = nexts.read;
          spelled = handles.spelled;
          some = subst (λ (n : ℕ). printed call.root n stopped_part.turn ≢ []) long stopped_part.some;
          part = subst (λ (n : ℕ). IsPart (printed call.root n stopped_part.turn) (out_after call it.history) new.out) long
              (subst (λ (o : List ℕ). IsPart (printed call.root (done + 1) stopped_part.turn) o new.out) (it.wrote told) stopped_part.part);
        };
  };
  crash = crashes_within reading it nexts few handles SinkFault left only_now same (λ c h. h);
}

pub nothing_kept : (why : TurnFault) (call : Call) (files : Files) → KeptAtEnd (status_of why) call files
nothing_kept fault.DiskFault call files = tt
nothing_kept fault.SinkFault call files = tt
nothing_kept fault.NoMemory call files = tt

pub is_served : (why : TurnFault) → IsServed (status_of why)
is_served fault.DiskFault = tt
is_served fault.SinkFault = tt
is_served fault.NoMemory = tt

-- ---- counts of faults

-- neither count has risen
pub record SameFaults (old new : View) : Type 0 where
  pub disk : new.disk_faults ≡ old.disk_faults
  pub sink : new.sink_faults ≡ old.sink_faults

-- a count that stood until now rises for the same cause
pub rises_as : {P Q : Type 0} {old mid new : ℕ} → mid ≡ old → (Q → P) → (P → Q) → RisesAt P mid new → RisesAt Q old new
rises_as same to back counts = record {
  later = omega (arith, same, counts.later);
  failed = λ q. counts.failed (to q) ∙ ap one_more same;
  stays = λ never. counts.stays (λ p. never (back p)) ∙ same;
}

-- a count that stands still
pub rises_not : {Q : Type 0} {old new : ℕ} → new ≡ old → ¬ Q → RisesAt Q old new
rises_not same never = record { later = omega (arith, same); failed = λ q. absurd (never q); stays = λ _. same }

pub causes_within : {old mid new : View} (why : TurnFault) {before after_it : ℕ} → after_it ≡ before → SameFaults old mid → TurnCounts (Err why) mid new → Causes (status_of why) before after_it old new
causes_within fault.DiskFault source same counts = record {
  source = rises_not source (λ is. cc);
  disk = rises_as same.disk (λ is. refl) (λ is. refl) counts.disk;
  sink = rises_as same.sink (λ is. cc) (λ is. cc) counts.sink;
}
causes_within fault.SinkFault source same counts = record {
  source = rises_not source (λ is. cc);
  disk = rises_as same.disk (λ is. cc) (λ is. cc) counts.disk;
  sink = rises_as same.sink (λ is. refl) (λ is. refl) counts.sink;
}
causes_within fault.NoMemory source same counts = record {
  source = rises_not source (λ is. cc);
  disk = rises_as same.disk (λ is. cc) (λ is. cc) counts.disk;
  sink = rises_as same.sink (λ is. cc) (λ is. cc) counts.sink;
}

-- where memory runs out before a line is handled no count rises
pub causes_memory : {old new : View} {before after_it : ℕ} → after_it ≡ before → SameFaults old new → Causes NoMemory before after_it old new
causes_memory source same = record { source = rises_not source (λ is. cc); disk = rises_not same.disk (λ is. cc); sink = rises_not same.sink (λ is. cc) }

pub same_then : {old mid new : View} → SameFaults old mid → TurnCounts (Ok tt) mid new → SameFaults old new
same_then first counts = record { disk = counts.disk.stays (λ is. cc) ∙ first.disk; sink = counts.sink.stays (λ is. cc) ∙ first.sink }

-- a store that is open keeps its files
pub keeps_stored : {store : Store} {v : View} → v.may_leave v.bytes → ¬ (IsStoreSpent store) → IsStored store v → Keeps v
keeps_stored {store} reads whole is = record { finds = λ c left. (store.state, stored_finds whole is c left); reads = reads }

-- so does a turn that met a fault
pub keeps_within : (number : ℕ) (reading : Reading) (client : Kept) (s : State) (past : Past) (mid new : View) → new.may_leave new.bytes → StandsFor client s past → Handles number reading client mid new → Keeps new
keeps_within number reading client s past mid new reads stands handles =
    let turned = handles.files s past stands in
    record {
      finds = λ c left. ⊎_elim (λ early. (s, early)) (λ late. (after s late.commit, late.finds)) (turned.crash c left);
      reads = reads;
    }
