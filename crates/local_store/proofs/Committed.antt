-- What a commit leaves.
use Rattle.std.proofs.Common.{◌≡◌, ◌⊎◌, inl, inr, ⊎_elim, ℕ, List, [], ◌∷◌, ◌++◌, Option, Some, None, Result, refl, subst, ◌∙◌}
use Rattle.host_api.specs.declared.host.Failed.{Failed}
use Rattle.host_api.specs.Host.{Files, View}
use Rattle.host_api.proofs.Spans.{spans_none, spans_weaker}
use Rattle.disk_journal.specs.Place.{Place, IsOpen}
use Rattle.disk_journal.specs.Steps.{Appends, GivesBeforeOrAfter}
use Rattle.disk_journal.proofs.Held.{open_gives, open_crash}
use Rattle.record_codec.specs.declared.commit.Commit.{Commit}
use Rattle.record_codec.specs.Spelling.{spelling, HasSpelling}
use Rattle.local_store.specs.State.{State, Fits, committed, LeadsTo}
use Rattle.local_store.specs.Files.{FindsState, Moves}
use Rattle.local_store.specs.Store.{IsFoundIn, IsOver}
use Rattle.local_store.proofs.Replayed.{replays_push}

-- whatever a crash may leave of an open store, and what a read gives, finds its state
pub over_finds : {s : State} {v : View} {place : Place} → IsOver s v place → IsFoundIn s v
over_finds {place = place} is = record {
  crash = λ c left. record { generation = place.generation; payloads = is.payloads; gives = open_crash is.open_with c left; leads = is.leads };
  reads = record { generation = place.generation; payloads = is.payloads; gives = open_gives is.open_with; leads = is.leads };
}

-- a store that isn't spent has its journal somewhere
pub stands : {P : Type 0} (place : Option Place) → (place ≡ None → ⊥) → ((at : Place) → place ≡ Some at → P) → P
stands None whole at = absurd (whole refl)
stands (Some place) whole at = at place refl

-- nothing was done
pub nothing_moves : {s : State} {v : View} {place : Place} (to : State) → IsOver s v place → Moves s to v v
nothing_moves {s} {v} to is = record {
  crash = λ c left. inl ((over_finds is).crash c left);
  time = spans_none v (λ o c. (o ≡ v.out) × (FindsState c s ⊎ FindsState c to));
}

-- an append of a payload that leads on
pub append_moves : {generation : ℕ} {ps : List (List ℕ)} {p : List ℕ} {appended : Result Place Failed} {old new : View} (from to : State) → LeadsTo generation ps from → LeadsTo generation (ps ++ p ∷ []) to → Appends generation ps p appended old new → Moves from to old new
append_moves {generation} {ps} {p} {appended} {old} {new} from to before behind it = record {
  crash = λ c left. finds c (it.crash c left);
  time = spans_weaker (λ o c. (o ≡ old.out) × (FindsState c from ⊎ FindsState c to)) it.time (λ o c h. (h.0, finds c h.1));
}
  where
    finds : (c : Files) → GivesBeforeOrAfter generation ps p c → FindsState c from ⊎ FindsState c to
    finds c h = ⊎_elim
        (λ gives. inl (record { generation = generation; payloads = ps; gives = gives; leads = before }))
        (λ gives. inr (record { generation = generation; payloads = ps ++ p ∷ []; gives = gives; leads = behind }))
        h

-- the frame is the payload's
pub appends_payload : {g : ℕ} {ps : List (List ℕ)} {p q : List ℕ} {result : Result Place Failed} {old new : View} → p ≡ q → Appends g ps p result old new → Appends g ps q result old new
appends_payload {g} {ps} {p} {q} {result} {old} {new} same it = subst (λ (r : List ℕ). Appends g ps r result old new) same it

pub leads_more : {generation : ℕ} {ps : List (List ℕ)} (s : State) (commit : Commit) → LeadsTo generation ps s → HasSpelling commit → Fits s commit → LeadsTo generation (ps ++ spelling commit ∷ []) (committed s commit)
leads_more {ps = ps} s commit leads has fits = record { first = leads.first; replays = replays_push _ ps s (spelling commit) commit leads.replays has refl fits }

-- the journal with one payload more
pub over_more : {s t : State} {place next : Place} {old new : View} (commit : Commit) (is : IsOver s old place) → HasSpelling commit → Fits s commit → next.generation ≡ place.generation → IsOpen next (is.payloads ++ spelling commit ∷ []) new → committed s commit ≡ t → IsOver t new next
over_more {s} {t} {place} {next} {old} {new} commit is has fits same opened so = record {
  payloads = is.payloads ++ spelling commit ∷ [];
  open_with = opened;
  leads = subst (λ (u : State). LeadsTo next.generation (is.payloads ++ spelling commit ∷ []) u) so (record { first = same ∙ is.leads.first; replays = (leads_more s commit is.leads has fits).replays });
}
