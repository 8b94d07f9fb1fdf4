-- What a store's files find.
use Rattle.std.proofs.Common.{◌≡◌, ◌⊎◌, inl, ℕ, Option, Some, None, IfSome, List, Result, Ok, Err, OnErr, refl}
use Rattle.std.specs.Option.{ForSome}
use Rattle.host_api.specs.Host.{Files, View, Emits}
use Rattle.host_api.proofs.Spans.{spans_none}
use Rattle.disk_journal.specs.Place.{Place}
use Rattle.disk_journal.proofs.Held.{open_gives, open_crash, open_emits}
use Rattle.local_store.specs.Files.{FindsState, Moves}
use Rattle.local_store.specs.State.{State}
use Rattle.local_store.specs.Store.{Store, IsOver, IsSpent, IsStored}
use Rattle.client_events.specs.declared.event.Event.{Event}
use Rattle.record_codec.specs.declared.commit.Commit.{Commit}
use Rattle.client_turns.specs.Answers.{Answers}
use Rattle.client_turns.specs.Past.{Past, Turn}
use Rattle.sync_engine.specs.Telling.{Makes, MakesOne, MovesBy}
use Rattle.client_turns.specs.Turns.{after}

over_finds : {s : State} {v : View} (place : Option Place) → (place ≡ None → ⊥) → ForSome place (IsOver s v) → (c : Files) → v.may_leave c → FindsState c s
over_finds None whole is c left = absurd (whole refl)
over_finds (Some place) whole is c left = let over = is place refl in record { generation = place.generation; payloads = over.payloads; gives = open_crash over.open_with c left; leads = over.leads }

over_reads : {s : State} {v : View} (place : Option Place) → (place ≡ None → ⊥) → ForSome place (IsOver s v) → FindsState v.bytes s
over_reads None whole is = absurd (whole refl)
over_reads (Some place) whole is = let over = is place refl in record { generation = place.generation; payloads = over.payloads; gives = open_gives over.open_with; leads = over.leads }

-- whatever a crash may leave of an open store, and what a read gives, finds its state
pub stored_finds : {store : Store} {v : View} → ¬ (IsSpent store) → IsStored store v → (c : Files) → v.may_leave c → FindsState c store.state
stored_finds {store} whole is = over_finds store.place whole is

pub stored_reads : {store : Store} {v : View} → ¬ (IsSpent store) → IsStored store v → FindsState v.bytes store.state
stored_reads {store} whole is = over_reads store.place whole is

-- an output leaves the store where it is
pub emits_stored : {store : Store} {old new : View} {piece : List ℕ} → IsStored store old → Emits piece old new → IsStored store new
emits_stored {store} is emits = λ place at. let over = is place at in record { payloads = over.payloads; open_with = open_emits over.open_with emits; leads = over.leads }

-- nothing was done
pub nothing_moves : {store : Store} {v : View} (to : State) → ¬ (IsSpent store) → IsStored store v → Moves store.state to v v
nothing_moves {store} {v} to whole is = record {
  crash = λ c left. inl (stored_finds whole is c left);
  time = spans_none v (λ o c. (o ≡ v.out) × (FindsState c store.state ⊎ FindsState c to));
}

-- what moves to the state after the commit of an answer moves by the event
pub moves_by : {s : State} {past : Past} {e : Event} {old new : View} (answer : Turn) → Answers s past e answer → Moves s (after s answer.commit) old new → MovesBy s past e old new
moves_by {s} {past} {e} answer answers moves = record { commit = answer.commit; makes = by answer.commit refl; moves = moves }
  where
    by : (made : Option Commit) → answer.commit ≡ made → IfSome made (Makes s past e)
    by None is = tt
    by (Some made) is = (answer, answers, is)

-- an answer with a commit makes it
pub makes_by : {s : State} {past : Past} {e : Event} (answer : Turn) (made : Commit) → Answers s past e answer → answer.commit ≡ Some made → MakesOne s past e
makes_by answer made answers is = record { made = made; makes = (answer, answers, is) }

-- what is so, is so where an error is told
pub on_err : {T E P : Type 0} (result : Result T E) → P → OnErr result P
on_err (Ok value) is = tt
on_err (Err error) is = is

-- what moves nowhere does so at each event
pub moves_still : {s : State} {past : Past} {e : Event} {old new : View} → Moves s s old new → MovesBy s past e old new
moves_still moves = record { commit = None; makes = tt; moves = moves }
