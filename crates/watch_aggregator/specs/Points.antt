-- What a point hands out after a list of calls.
use Rattle.std.specs.Prelude.{◌≡◌, ◌↔◌, ◌<ℤ◌, ℕ, ℤ, true, Option, Some, None, option_and_then, List, [], ◌∷◌}
use Rattle.std.specs.List.{AllPairs, Contains, slice_get}
use Rattle.std.specs.List.Sorted.{IsStrictlySortedBy}
use Rattle.std.specs.Map.{keys_of, lookup}
use Rattle.watch_aggregator.specs.declared.point.WatchPoint.{WatchPoint}
use Rattle.watch_aggregator.specs.declared.point.WatchTarget.{WatchTarget}
use Rattle.watch_aggregator.specs.declared.watched.Watched.{Watched}
use Rattle.listen_protocol.specs.Calls.{Key, Calls, key_cmp}
use Rattle.document_keys.specs.KeySet.{is_key}
use Rattle.listen_protocol.specs.Buffer.{buffered}
use Rattle.listen_protocol.specs.ToldKeys.{told_keys}
use Rattle.listen_protocol.specs.Transcript.{counts, document_of, is_current_in, token_in}

-- a token, where it isn't empty
abbrev pub token_option : List ℕ → Option (List ℕ)
token_option [] = None
token_option (byte ∷ bytes) = Some (byte ∷ bytes)

-- a counting target as it stands
abbrev pub target_at : Calls → ℤ → WatchTarget
target_at h t = record { id = t; document = document_of t h; current = is_current_in t h; token = token_option (token_in t h); told = told_keys t h }

-- the entries that wait, ascending by key, and each counting target, ascending by id
pub record IsPointOf (h : Calls) (point : WatchPoint) : Type 0 where
  pub keys_ascend : IsStrictlySortedBy key_cmp (keys_of point.entries.items)
  pub entries : (k : Key) → lookup (is_key k) point.entries.items ≡ buffered k h
  pub ids_ascend : AllPairs (λ a b. a.id <ℤ b.id) point.targets.items
  pub targets : (target : WatchTarget) → Contains point.targets.items target ↔ ((counts target.id h ≡ true) × (target ≡ target_at h target.id))

-- a target as it is kept, with the token at its place
abbrev pub target_from : List (List ℕ) → Watched → WatchTarget
target_from tokens w = record { id = w.id; document = w.document; current = w.current; token = option_and_then (slice_get tokens) w.token; told = w.told }
