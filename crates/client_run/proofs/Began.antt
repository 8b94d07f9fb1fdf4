-- A run whose store was opened, or wasn't.
use Rattle.std.proofs.Common.{◌≡◌, ◌⊎◌, inl, inr, ⊎_elim, ℕ, ◌+◌, ◌≤◌, ◌<◌, Bool, List, [], length, append-nil, refl, sym, ap, subst, ◌∙◌, arith}
use Rattle.host_api.specs.Host.{Files, View, Stays, Spans}
use Rattle.host_api.proofs.Spans.{spans_then, spans_weaker}
use Rattle.disk_journal.specs.Steps.{GiveSame, IsOrGivesSame, Opens, Settled}
use Rattle.disk_journal.proofs.Pairs.{gives_once}
use Rattle.document_keys.specs.Names.{Root}
use Rattle.sync_engine.specs.Standing.{Kept, StandsFor}
use Rattle.client_run.specs.Causes.{Causes, NoFaults}
use Rattle.client_run.specs.Crash.{Keeps, Survives, FindsHandled, FindsAtEnd, Crashes}
use Rattle.client_run.specs.Output.{Call, IsRun, called, TookNothing}
use Rattle.client_run.specs.Run.{Ran}
use Rattle.local_store.specs.Files.{FindsState, IsNoStore}
use Rattle.local_store.specs.State.{State, LeadsTo}
use Rattle.client_run.specs.History.{History}
use Rattle.client_run.specs.declared.status.Status.{Status}
use Rattle.client_run.specs.declared.status.Status.TheVariants.{Done, Usage, SourceFault, DiskFault, SinkFault, NoMemory, NotAStore, Budget}
use Rattle.local_store.proofs.Replayed.{find_once}
use Rattle.client_run.proofs.Served.{OnlyNow, rises_as, survives_first, synced_from}

-- ---- what an opening leaves

same_finds : {old c : Files} {s : State} → FindsState old s → IsOrGivesSame old c → FindsState c s
same_finds {old} {c} {s} finds same = ⊎_elim
    (λ each. let whole : old ≡ c = (λ i file. sym (each file) i) in subst (λ (f : Files). FindsState f s) whole finds)
    (λ gives. gives_finds finds gives)
    same
  where
    gives_finds : FindsState old s → GiveSame old c → FindsState c s
    gives_finds finds gives =
        let one = gives_once old gives.0 gives.1 finds.generation finds.payloads gives.2 finds.gives in
        record {
          generation = gives.0;
          payloads = gives.1;
          gives = gives.3;
          leads = subst (λ (g : ℕ). LeadsTo g gives.1 s) (sym one.0) (subst (λ (ps : List (List ℕ)). LeadsTo finds.generation ps s) (sym one.1) finds.leads);
        }

-- the files find the state from the two syncs on
settled_finds : {H : Type 0} (view : H → View) {s : State} {old new : View} → FindsState old.bytes s → (settled : Settled view old new) → (c : Files) → (view settled.host).may_leave c → FindsState c s
settled_finds view finds settled c left = same_finds finds (inl (λ file. settled.on_disk file c left ∙ ap (λ (f : Files). f file) settled.stays.bytes))

settled_spans : {H : Type 0} (view : H → View) (most : ℕ) (call : Call) {old new : View} → 0 < most → call.out ≡ old.out → FindsState old.bytes call.first → (settled : Settled view old new) → Spans (view settled.host) new (Survives most call)
settled_spans view most call some out finds settled = spans_weaker (Survives most call) settled.time (λ o c h. survives_first most call o c some (h.0 ∙ sym out) (same_finds finds h.1))

settled_crashes : {H : Type 0} (view : H → View) → ((h : H) → OnlyNow (view h)) → (how : Status) (call : Call) (left : List ℕ) {old new : View} → call.out ≡ old.out → FindsState old.bytes call.first → ((c : Files) → FindsState c call.first → FindsAtEnd how call [] c) → Settled view old new → Crashes how call [] left old new
settled_crashes view only_now how call left {old} {new} out finds leaves settled =
    inl (synced_from how call [] (only_now settled.host) out settled.out settled.stays (settled_finds view finds settled) (settled_spans view 1 call (omega arith) out finds settled) (λ c left. leaves c (same_finds finds (settled.crash c left))))

nothing_ran : {call : Call} → IsRun call []
nothing_ran = record { turns = tt; read = tt; spelled = tt }

-- the disk failed before the first line
pub disk_first : {H : Type 0} {before later : ℕ} (view : H → View) → ((h : H) → OnlyNow (view h)) → (root : Root) (left : List ℕ) (s : State) (budget : ℕ) (tells_out : Bool) (old new : View) → 1 ≤ budget → new.out ≡ old.out → FindsState old.bytes s → Stays old new ⊎ Settled view old new
    → later ≡ before → Ran (called root left s budget tells_out old.out) DiskFault left before later old new
disk_first view only_now root left s budget tells_out old new some same finds how uncounted =
    let call = called root left s budget tells_out old.out in
    let nothing : TookNothing call [] left = record { none = refl; others = refl } in
    record {
      history = [];
      run = nothing_ran;
      within = omega arith;
      ends = record { handled = omega (arith, some); taken = inr (nothing, uncounted); written = λ told. same ∙ sym (append-nil old.out) };
      crash = λ out. ⊎_elim (λ stays. inr (record { stopped = inl refl; nothing = nothing; before = stays })) (settled_crashes view only_now DiskFault call left refl finds (λ c h. inl h)) how;
    }

-- there was no memory before the first line
pub memory_first : {H : Type 0} {before later : ℕ} (view : H → View) → ((h : H) → OnlyNow (view h)) → (root : Root) (left : List ℕ) (s : State) (budget : ℕ) (tells_out : Bool) (old new : View) → 1 ≤ budget → new.out ≡ old.out → FindsState old.bytes s → Stays old new ⊎ Settled view old new
    → later ≡ before → Ran (called root left s budget tells_out old.out) NoMemory left before later old new
memory_first view only_now root left s budget tells_out old new some same finds how uncounted =
    let call = called root left s budget tells_out old.out in
    record {
      history = [];
      run = nothing_ran;
      within = omega arith;
      ends = record { handled = omega (arith, some); taken = inl (record { rest = left; others = refl; suffix = ([], refl) }, uncounted); written = λ told. same ∙ sym (append-nil old.out) };
      crash = λ out. ⊎_elim (λ stays. inr (record { stopped = inr refl; nothing = record { none = refl; others = refl }; before = stays })) (settled_crashes view only_now NoMemory call left refl finds (λ c h. inl h)) how;
    }

-- ---- an opening, and then a run

none_leaves : (how : Status) (call : Call) (history : History) (c : Files) → (how ≡ DiskFault) ⊎ (how ≡ NoMemory) → history ≡ [] → FindsState c call.first → FindsAtEnd how call history c
none_leaves how call history c stopped none finds =
    let handled : FindsHandled call history c = subst (λ (h : History). FindsHandled call h c) (sym none) finds in
    ⊎_elim
    (λ is. subst (λ (h : Status). FindsAtEnd h call history c) (sym is) (inl handled))
    (λ is. subst (λ (h : Status). FindsAtEnd h call history c) (sym is) (inl handled))
    stopped

crashes_from : {H : Type 0} (view : H → View) → ((h : H) → OnlyNow (view h)) → (how : Status) (call : Call) (history : History) (left : List ℕ) {old mid new : View} → call.out ≡ old.out → mid.out ≡ old.out → FindsState old.bytes call.first → Settled view old mid → Crashes how call history left mid new → Crashes how call history left old new
crashes_from view only_now how call history left {old} {mid} {new} out same finds settled crashes =
    inl (synced_from how call history (only_now settled.host) out settled.out settled.stays (settled_finds view finds settled) (spans_then (Survives (length history + 1) call) (settled_spans view (length history + 1) call (omega arith) out finds settled) after_it (λ o c h. h) (λ o c h. h)) (at_end crashes))
  where
    still : (o : List ℕ) (c : Files) → (o ≡ mid.out) × mid.may_leave c → Survives (length history + 1) call o c
    still o c h = survives_first (length history + 1) call o c (omega arith) (h.0 ∙ same ∙ sym out) (same_finds finds (settled.crash c h.1))

    after_it : Spans mid new (Survives (length history + 1) call)
    after_it = ⊎_elim
        (λ synced. spans_weaker (Survives (length history + 1) call) synced.before (λ o c h. ⊎_elim (λ early. still o c early) (λ late. synced.later o c late) h))
        (λ unsynced. spans_weaker (Survives (length history + 1) call) unsynced.before.time still)
        crashes

    at_end : Crashes how call history left mid new → (c : Files) → new.may_leave c → FindsAtEnd how call history c
    at_end (inl synced) c now = synced.at_end c now
    at_end (inr unsynced) c now = none_leaves how call history c unsynced.stopped unsynced.nothing.none (same_finds finds (settled.crash c (unsynced.before.crash c now)))

-- an opening wrote nothing
pub ran_from : {H : Type 0} {before later : ℕ} (view : H → View) → ((h : H) → OnlyNow (view h)) → (how : Status) (call : Call) (left : List ℕ) {old mid new : View} → call.out ≡ old.out → mid.out ≡ old.out → FindsState old.bytes call.first → Settled view old mid → Ran call how left before later mid new → Ran call how left before later old new
ran_from view only_now how call left out same finds settled it = record {
  history = it.history;
  run = it.run;
  within = it.within;
  ends = it.ends;
  crash = λ told. crashes_from view only_now how call it.history left out same finds settled (it.crash told);
}

-- a client that was opened over files that find a state stands for it
pub opened_stands : {client : Kept} {s : State} {files : Files} → StandsFor client client.store.state [] → FindsState files client.store.state → FindsState files s → StandsFor client s []
opened_stands {client} {s} {files} stands first second = subst (λ (t : State). StandsFor client t []) (find_once files client.store.state s first second) stands

-- ---- the files of a store

-- an opening that failed keeps them
pub opens_keeps : {old new : View} → Opens old new → new.may_leave new.bytes → Keeps old → Keeps new
opens_keeps {old} {new} opens reads keeps = record {
  finds = λ c left. ⊎_elim (λ was. keeps.finds c was) (λ gives. let h = keeps.finds old.bytes keeps.reads in (h.0, same_finds h.1 (inr gives))) (opens.crash c left);
  reads = reads;
}

-- they are never refused
pub kept_is_store : {v : View} → Keeps v → IsNoStore v.bytes → ⊥
kept_is_store {v} keeps none = let h = keeps.finds v.bytes keeps.reads in none h.0 h.1

pub causes_from : {how : Status} {before after_it : ℕ} {old mid new : View} → mid.disk_faults ≡ old.disk_faults → mid.sink_faults ≡ old.sink_faults → Causes how before after_it mid new → Causes how before after_it old new
causes_from disk sink causes = record {
  source = causes.source;
  disk = rises_as disk (λ is. is) (λ is. is) causes.disk;
  sink = rises_as sink (λ is. is) (λ is. is) causes.sink;
}

-- a run in which no count rose came to its end
pub completed : (how : Status) {call : Call} {left : List ℕ} {mid old new : View} {taken_before taken_after before after_it : ℕ} → Ran call how left taken_before taken_after mid new → Causes how before after_it old new → length call.items < call.budget → NoFaults before after_it old new → (how ≡ Done) ⊎ (how ≡ NoMemory)
completed Done ran causes few none = inl refl
completed NoMemory ran causes few none = inr refl
completed Usage ran causes few none = absurd ran.ends
completed NotAStore ran causes few none = absurd ran.ends
completed Budget ran causes few none = absurd (omega (arith, ran.within, ran.ends.handled, few))
completed SourceFault ran causes few none = absurd (none.source (causes.source.failed refl))
completed DiskFault ran causes few none = absurd (none.disk (causes.disk.failed refl))
completed SinkFault ran causes few none = absurd (none.sink (causes.sink.failed refl))
