-- the documents in limbo behind an event
use Rattle.std.proofs.Common.{◌≡◌, ◌↔◌, ℕ, List, [], Option, Some, None, IfSome, refl, subst, arith}
use Rattle.std.specs.List.{Contains}
use Rattle.document_keys.specs.Names.{Root}
use Rattle.limbo_listens.specs.Listens.{AreInLimbo as AreKeptInLimbo, Listens, limbo_at}
use Rattle.limbo_resolver.specs.Limbo.{Key}
use Rattle.local_store.specs.Documents.{documents_of}
use Rattle.local_store.specs.State.{State}
use Rattle.queries.proofs.Answers.{answers_once}
use Rattle.views.proofs.Picking.{picked_if, picked_of}
use Rattle.views.specs.Viewed.{Viewed}
use Rattle.client_turns.specs.Settling.{AreInLimbo, ShowsInLimbo, ShowsInLimboAt, Stance}
use Rattle.sync_engine.specs.Standing.{HasLimbo, IsQuiet}

-- the keys of a quiet listener that are kept are those of the documents in limbo that it shows
quiet_shows : (root : Root) (s : State) (stance : Stance) (kept : List Key) (view : Viewed) → IsQuiet root s stance kept view → (key : Key) → Contains kept key ↔ ShowsInLimbo root s stance key view
quiet_shows root s stance kept view quiet key = (
  λ there. let it = picked_of has.answer kept key has.picks there in record { answer = has.answer; is_answer = has.is_answer; shown = it.0; limbo = it.1 },
  λ it. picked_if has.answer kept key has.picks
      (subst (λ (l : List Key). Contains l key) (answers_once view.target root (documents_of s) it.answer has.answer it.is_answer has.is_answer) it.shown) it.limbo,
)
  where
    has : HasLimbo root s stance.standing kept view
    has = quiet.in_limbo

-- who is no listener has none
none_shows : (kept : List Key) → kept ≡ [] → (key : Key) → Contains kept key ↔ ⊥
none_shows kept none key = (λ there. let in_none = subst (λ (l : List Key). Contains l key) none there in absurd (omega (arith, in_none.1)), λ it. absurd it)

at_listener : (root : Root) (s : State) (stance : Stance) (kept : List Key) (found : Option Viewed) → IfSome found (IsQuiet root s stance kept) → (found ≡ None → kept ≡ []) → (key : Key) → Contains kept key ↔ ShowsInLimboAt root s stance key found
at_listener root s stance kept None quiet none key = none_shows kept (none refl) key
at_listener root s stance kept (Some view) quiet none key = quiet_shows root s stance kept view quiet key

-- the keys in limbo that are kept are those of the documents in limbo that the listeners show
pub shown_in_limbo : (root : Root) (s : State) (stance : ℕ → Stance) (listening : ℕ → Option Viewed) (listens : Listens) (keys : List Key)
    → ((id : ℕ) → IfSome (listening id) (IsQuiet root s (stance id) (limbo_at listens id))) → ((id : ℕ) → listening id ≡ None → limbo_at listens id ≡ []) → AreKeptInLimbo listens keys → AreInLimbo root s stance listening keys
shown_in_limbo root s stance listening listens keys quiet none are = record {
  ascending = are.ascending;
  each = λ key. (
    λ there. let it = (are.each key).0 there in (it.0, (at_listener root s (stance it.0) (limbo_at listens it.0) (listening it.0) (quiet it.0) (none it.0) key).0 it.1),
    λ it. (are.each key).1 (it.0, (at_listener root s (stance it.0) (limbo_at listens it.0) (listening it.0) (quiet it.0) (none it.0) key).1 it.1),
  );
}
