-- Which lists of calls an aggregator stands for: one clause for each part that it stores.
use Rattle.std.specs.Prelude.{◌≡◌, ◌≢◌, ◌<ℤ◌, ℕ, ℤ, true, false, List, [], ◌∷◌}
use Rattle.std.specs.List.{All, AllPairs}
use Rattle.watch_aggregator.specs.declared.watched.Watched.{Watched}
use Rattle.watch_aggregator.specs.declared.aggregator.Aggregator.{Aggregator}
use Rattle.listen_protocol.specs.Calls.{Call, Calls}
use Rattle.listen_protocol.specs.ToldKeys.{StartsAscend, told_keys}
use Rattle.watch_aggregator.specs.Buffer.{IsBuffer}
use Rattle.watch_aggregator.specs.Steps.{HasToken}
use Rattle.listen_protocol.specs.Transcript.{open_count, is_wanted, is_asked_in, counts, starting, document_of, is_current_in, token_in}

-- what is kept of one id; its told keys are the starting ones until it counts
pub record IsWatched (tokens : List (List ℕ)) (t : ℤ) (h : Calls) (w : Watched) : Type 0 where
  pub settled : w.fresh ≡ false
  pub count : w.opened ≡ open_count t h
  pub wants : w.wanted ≡ is_wanted t h
  pub counting : w.counts ≡ counts t h
  pub document : w.document ≡ document_of t h
  pub waits : is_asked_in t h ≡ true → counts t h ≡ false → w.told ≡ starting t h
  pub told : counts t h ≡ true → w.told ≡ told_keys t h
  pub current : counts t h ≡ true → w.current ≡ is_current_in t h
  pub token : counts t h ≡ true → HasToken tokens w.token (token_in t h)

-- what is kept of all ids: in their order, nothing of an id without open incarnations that isn't there
pub record AreWatched (tokens : List (List ℕ)) (ws : List Watched) (h : Calls) : Type 0 where
  pub ascending : AllPairs (λ v w. v.id <ℤ w.id) ws
  pub each : All (λ w. IsWatched tokens w.id h w) ws
  pub others : (t : ℤ) → All (λ w. w.id ≢ t) ws → open_count t h ≡ 0

-- the aggregator stands for the list
pub record StandsFor (a : Aggregator) (h : Calls) : Type 0 where
  pub targets : AreWatched a.tokens.items a.watched.items h
  pub buffer : IsBuffer a.buffer h
  pub starts : StartsAscend h

-- what stood for a list stands for it with the call
abbrev pub Takes : Aggregator → Aggregator → Call → Type 0
Takes old new call = (h : Calls) → StandsFor old h → StandsFor new (call ∷ h)

-- what stood for a list stands for it still
abbrev pub Stays : Aggregator → Aggregator → Type 0
Stays old new = (h : Calls) → StandsFor old h → StandsFor new h

-- it keeps no token
abbrev pub HasNoTokens : Aggregator → Type 0
HasNoTokens a = a.tokens.items ≡ []
