-- commits that are ready
use Rattle.std.proofs.Common.{◌≡◌, ◌∙◌, ◌<◌, ℕ, List, [], ◌++◌, IsTrue, append-nil, refl, sym, ap, subst}
use Rattle.std.specs.List.{All, filter_map}
use Rattle.std.proofs.lemmas.List.Elements.{All-nil}
use Rattle.value_model.specs.declared.document.Seal.{Seal}
use Rattle.value_model.specs.declared.document.Seal.TheVariants.{Committed}
use Rattle.value_model.specs.declared.timestamp.Timestamp.{Timestamp}
use Rattle.key_table.specs.Table.{has_key}
use Rattle.mutations.specs.declared.results.WriteResult.{WriteResult}
use Rattle.mutations.specs.declared.write.Write.{Write}
use Rattle.outcome_codec.specs.declared.parts.KeyedEntry.{KeyedEntry}
use Rattle.overlays.specs.declared.overlays.Overlay.{Overlay}
use Rattle.remote_documents.specs.Table as remote
use Rattle.record_codec.specs.declared.commit.Commit.TheVariants.{Acknowledge}
use Rattle.remote_documents.specs.Table.{EntryMap}
use Rattle.durable_state.specs.Cached.{Changed, acknowledged_keys, answered_by, dropped, first_writes, with_all}
use Rattle.durable_state.specs.Ready.{HasRoomFor, HavePlaces, IsReady, LaysAnew, changes_of, first_keys, moved, put_changes}
use Rattle.durable_state.specs.State.{State, committed, most_commits}
use Rattle.durable_state.specs.Tables.{Tables, state_in}
use Rattle.durable_state.specs.declared.ready.Ready.{Ready}
use Rattle.durable_state.specs.declared.ready.Step.{Step}
use Rattle.durable_state.specs.declared.ready.Step.TheVariants.{Settle}
use Rattle.durable_state.proofs.Anew.{lays_as, lays_nothing}
use Rattle.durable_state.proofs.Firsts.{answers_same}

pub make_ready : (t : Tables) (ready : Ready) (step : Step) (cs : List Changed) (lifted : List (List (List ℕ))) → t.number < most_commits → ready.step ≡ step → changes_of ready ≡ cs → ready.lifted.items ≡ lifted
    → HasRoomFor t.pending t.targets step → HavePlaces t.entries ready.changes.items → All (λ (o : Overlay). IsTrue (has_key t.overlays o.key)) ready.overlays.items
    → LaysAnew (state_in t) (moved (state_in t) step cs) ready.overlays.items lifted → IsReady t ready
make_ready t ready step cs lifted left step_is changes_are lifted_are room entries places lays = record {
  number = left;
  room = subst (HasRoomFor t.pending t.targets) (sym step_is) room;
  entries = entries;
  places = places;
  lays = lays_as (state_in t) ready.step step (changes_of ready) cs ready.overlays.items ready.lifted.items lifted step_is changes_are lifted_are lays;
}

-- nothing is put, and so much is dropped
pub only_dropped : (seal : Seal) (cs : List KeyedEntry) (ds keys : List (List (List ℕ))) → cs ≡ [] → ds ≡ keys → put_changes seal cs ++ dropped ds ≡ dropped keys
only_dropped seal cs ds keys none is = ap (λ (x : List KeyedEntry). put_changes seal x ++ dropped ds) none ∙ ap dropped is

-- nothing is dropped
pub only_put : (seal : Seal) (cs : List KeyedEntry) (ds : List (List (List ℕ))) → ds ≡ [] → put_changes seal cs ++ dropped ds ≡ put_changes seal cs
only_put seal cs ds none = ap (λ (ks : List (List (List ℕ))). put_changes seal cs ++ dropped ks) none ∙ append-nil (put_changes seal cs)

-- a step that changes no entry and no overlay
pub ready_alone : (t : Tables) (ready : Ready) (step : Step) → t.number < most_commits → (moved (state_in t) step []).batches ≡ (state_in t).batches → ready.step ≡ step → ready.changes.items ≡ [] → ready.dropped ≡ [] → ready.overlays.items ≡ [] → ready.lifted.items ≡ []
    → HasRoomFor t.pending t.targets step → IsReady t ready
ready_alone t ready step left batches step_is none_put none_dropped none_laid none_lifted room =
    make_ready t ready step [] [] left step_is (only_dropped ready.seal ready.changes.items ready.dropped [] none_put none_dropped) none_lifted room
    (subst (HavePlaces t.entries) (sym none_put) (All-nil _)) (subst (All (λ (o : Overlay). IsTrue (has_key t.overlays o.key))) (sym none_laid) (All-nil _))
    (subst (λ (os : List Overlay). LaysAnew (state_in t) (moved (state_in t) step []) os []) (sym none_laid) (lays_nothing (state_in t) (moved (state_in t) step []) batches refl))

pub none_placed : (table : remote.Table) (changes : List KeyedEntry) → changes ≡ [] → HavePlaces table changes
none_placed table changes none = subst (HavePlaces table) (sym none) (All-nil _)

-- an answer to each key once moves the state as the commit does
pub answered_moved : (s : State) (id : ℕ) (at : Timestamp) (results : List WriteResult) (writes : List Write) (cs : List KeyedEntry) → writes ≡ first_writes s.batches
    → put_changes (Committed at) cs ≡ filter_map (answered_by s.entries writes results at) (first_keys writes) → moved s Settle (put_changes (Committed at) cs) ≡ committed s (Acknowledge id at results)
answered_moved s id at results writes cs first is =
    ap (λ (m : EntryMap). record (moved s Settle (put_changes (Committed at) cs)) { entries = m })
    (ap (with_all s.entries) is ∙ answers_same s.entries writes results at ∙ ap (λ (ws : List Write). with_all s.entries (acknowledged_keys s.entries ws results at)) first)
