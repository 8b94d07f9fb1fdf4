-- What is done on one watch stream of Firestore's Listen, newest first, and what one message says of a target id or a key.
use Rattle.std.specs.Prelude.{ℕ, ℤ, Bool, true, false, ◌&&◌, ◌||◌, ◌==◌, not, length, if◌then◌else◌, Option, List, []}
use Rattle.std.specs.Cmp.Lexicographic.{slice_cmp}
use Rattle.std.specs.List.{list_any}
use Rattle.std.specs.Ordering.{nat_cmp, int_eq}
use Rattle.std.specs.declared.cmp.Ordering.{Ordering}
use Rattle.document_keys.specs.KeySet.{is_key}
use Rattle.value_model.specs.declared.message.ListenResponse.{ListenResponse}
use Rattle.value_model.specs.declared.message.ListenResponse.TheVariants as sent
use Rattle.value_model.specs.declared.message.ChangeKind.{ChangeKind}
use Rattle.value_model.specs.declared.message.ChangeKind.TheVariants as kind

-- a document key, as the list of its segments
abbrev pub Key : Type 0
Key = List (List ℕ)

-- the order of keys
abbrev pub key_cmp : Key → Key → Ordering
key_cmp = slice_cmp (slice_cmp nat_cmp)

-- a call: an add request of an id with its starting keys and, of a document target, its document; a remove request; a
-- message; a point that was applied, or skipped
pub data Call : Type 0 where
  asked : ℤ → List Key → Option Key → Call
  unasked : ℤ → Call
  came : ListenResponse → Call
  applied : Call
  skipped : Call

-- the calls of one stream, the newest first
abbrev pub Calls : Type 0
Calls = List Call

-- the list has the id
abbrev pub lists : List ℤ → ℤ → Bool
lists ids t = list_any (λ id. int_eq id t) ids

-- a change of targets is of the id; without ids it is of all
abbrev pub is_of : List ℤ → ℤ → Bool
is_of ids t = (length ids == 0) || lists ids t

-- the kinds of a change of targets
abbrev pub is_add : ChangeKind → Bool
is_add kind.Add = true
is_add _ = false

abbrev pub is_remove : ChangeKind → Bool
is_remove kind.Remove = true
is_remove _ = false

abbrev pub is_current : ChangeKind → Bool
is_current kind.Current = true
is_current _ = false

abbrev pub is_reset : ChangeKind → Bool
is_reset kind.Reset = true
is_reset _ = false

-- the message is a change of targets that is of the id, of such a kind
abbrev pub changes : (ChangeKind → Bool) → ListenResponse → ℤ → Bool
changes is (sent.Target change) t = is change.kind && is_of change.target_ids t
changes is _ t = false

-- the token that the message brings for the id; empty where it brings none
abbrev pub token_for : ListenResponse → ℤ → List ℕ
token_for (sent.Target change) t = if is_of change.target_ids t then change.resume_token else []
token_for _ t = []

-- the message names the key and the id: it is a change, delete or remove of the key that lists the id
abbrev pub names : ListenResponse → ℤ → Key → Bool
names (sent.Change change) t k = is_key change.key k && (lists change.target_ids t || lists change.removed_target_ids t)
names (sent.Delete delete) t k = is_key delete.key k && lists delete.removed_target_ids t
names (sent.Remove remove) t k = is_key remove.key k && lists remove.removed_target_ids t
names _ t k = false

-- it puts its key in: it is a change that lists the id as a target and not as a removed one
abbrev pub puts_in : ListenResponse → ℤ → Bool
puts_in (sent.Change change) t = lists change.target_ids t && not (lists change.removed_target_ids t)
puts_in _ t = false
