-- The told keys of a counting id as one ascending list, kept up to date message by message. That it has exactly the keys
-- that are told is a law.
use Rattle.std.specs.Prelude.{ℤ, Bool, false, if◌then◌else◌, List, [], ◌∷◌}
use Rattle.document_keys.specs.KeySet.{IsAscending, with_key, without_key}
use Rattle.value_model.specs.declared.message.ListenResponse.{ListenResponse}
use Rattle.value_model.specs.declared.message.ListenResponse.TheVariants as sent
use Rattle.listen_protocol.specs.Calls.{Key, Calls, asked, unasked, came, applied, skipped, changes, is_reset, lists}
use Rattle.listen_protocol.specs.Transcript.{counts, starting}

-- after a message that names the key: removed where the id is among the removed, else put in where it is a target
abbrev pub named_step : Key → Bool → Bool → List Key → List Key
named_step key target removed keys = if removed then without_key key keys else if target then with_key key keys else keys

-- after any message since the start
abbrev pub told_step : ListenResponse → ℤ → List Key → List Key
told_step (sent.Change change) t keys = named_step change.key (lists change.target_ids t) (lists change.removed_target_ids t) keys
told_step (sent.Delete delete) t keys = named_step delete.key false (lists delete.removed_target_ids t) keys
told_step (sent.Remove remove) t keys = named_step remove.key false (lists remove.removed_target_ids t) keys
told_step _ t keys = keys

-- the told keys of an id that counts
abbrev pub told_keys : ℤ → Calls → List Key
told_keys t [] = []
told_keys t (came message ∷ h) = if counts t h then (if changes is_reset message t then [] else told_step message t (told_keys t h)) else starting t h
told_keys t (asked id keys document ∷ h) = told_keys t h
told_keys t (unasked id ∷ h) = told_keys t h
told_keys t (applied ∷ h) = told_keys t h
told_keys t (skipped ∷ h) = told_keys t h

-- the starting keys of each add request ascend
abbrev pub StartsAscend : Calls → Type 0
StartsAscend [] = Unit {0}
StartsAscend (asked id keys document ∷ h) = IsAscending keys × StartsAscend h
StartsAscend (unasked id ∷ h) = StartsAscend h
StartsAscend (came message ∷ h) = StartsAscend h
StartsAscend (applied ∷ h) = StartsAscend h
StartsAscend (skipped ∷ h) = StartsAscend h
