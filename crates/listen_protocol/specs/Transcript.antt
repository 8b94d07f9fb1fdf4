-- What a list of calls says of a target id: when its newest incarnation counts, its told keys, CURRENT and its token.
use Rattle.std.specs.Prelude.{◌≡◌, ℕ, ◌+◌, ◌-◌, ℤ, Bool, true, false, ◌&&◌, ◌||◌, not, ◌==◌, if◌then◌else◌, IsTrue, Option, None, MatchOption, List, [], ◌∷◌}
use Rattle.std.specs.List.{Contains, list_any, find}
use Rattle.std.specs.Ordering.{int_eq}
use Rattle.value_model.specs.declared.message.ListenResponse.{ListenResponse}
use Rattle.listen_protocol.specs.Calls.{Key, Calls, asked, unasked, came, applied, skipped, changes, is_add, is_remove, is_current, is_reset, token_for, names, puts_in}

-- how many incarnations of the id are open: each add request opens one, and each REMOVE ends the oldest open one
abbrev pub open_count : ℤ → Calls → ℕ
open_count t [] = 0
open_count t (asked id keys document ∷ h) = if int_eq t id then open_count t h + 1 else open_count t h
open_count t (came message ∷ h) = if changes is_remove message t then open_count t h - 1 else open_count t h
open_count t (unasked id ∷ h) = open_count t h
open_count t (applied ∷ h) = open_count t h
open_count t (skipped ∷ h) = open_count t h

-- the newest incarnation has no remove request
abbrev pub is_wanted : ℤ → Calls → Bool
is_wanted t [] = false
is_wanted t (asked id keys document ∷ h) = int_eq t id || is_wanted t h
is_wanted t (unasked id ∷ h) = not (int_eq t id) && is_wanted t h
is_wanted t (came message ∷ h) = is_wanted t h
is_wanted t (applied ∷ h) = is_wanted t h
is_wanted t (skipped ∷ h) = is_wanted t h

-- the newest incarnation has no remove request and hasn't ended
abbrev pub is_asked_in : ℤ → Calls → Bool
is_asked_in t h = is_wanted t h && not (open_count t h == 0)

-- it is live: it has no remove request and hasn't ended, and all older ones have: just one is open
abbrev pub is_live : ℤ → Calls → Bool
is_live t h = is_wanted t h && (open_count t h == 1)

-- it counts: it is live, and an ADD came while it was
abbrev pub counts : ℤ → Calls → Bool
counts t [] = false
counts t (asked id keys document ∷ h) = not (int_eq t id) && counts t h
counts t (unasked id ∷ h) = not (int_eq t id) && counts t h
counts t (came message ∷ h) = is_live t (came message ∷ h) && (counts t h || changes is_add message t)
counts t (applied ∷ h) = counts t h
counts t (skipped ∷ h) = counts t h

-- what the newest add request gave: the starting keys
abbrev pub starting : ℤ → Calls → List Key
starting t [] = []
starting t (asked id keys document ∷ h) = if int_eq t id then keys else starting t h
starting t (unasked id ∷ h) = starting t h
starting t (came message ∷ h) = starting t h
starting t (applied ∷ h) = starting t h
starting t (skipped ∷ h) = starting t h

-- the document of a document target
abbrev pub document_of : ℤ → Calls → Option Key
document_of t [] = None
document_of t (asked id keys document ∷ h) = if int_eq t id then document else document_of t h
document_of t (unasked id ∷ h) = document_of t h
document_of t (came message ∷ h) = document_of t h
document_of t (applied ∷ h) = document_of t h
document_of t (skipped ∷ h) = document_of t h

-- A counting incarnation starts with the ADD by which it began to count, and again with each RESET while it counts.
abbrev pub is_start : ℤ → ListenResponse → Calls → Bool
is_start t message h = not (counts t h) || changes is_reset message t

-- the messages since the start, newest first, with the start
abbrev pub since : ℤ → Calls → List ListenResponse
since t [] = []
since t (asked id keys document ∷ h) = since t h
since t (unasked id ∷ h) = since t h
since t (came message ∷ h) = if is_start t message h then message ∷ [] else message ∷ since t h
since t (applied ∷ h) = since t h
since t (skipped ∷ h) = since t h

-- the start is the ADD: no RESET came since it counts
abbrev pub starts_with_add : ℤ → Calls → Bool
starts_with_add t [] = false
starts_with_add t (asked id keys document ∷ h) = starts_with_add t h
starts_with_add t (unasked id ∷ h) = starts_with_add t h
starts_with_add t (came message ∷ h) = if counts t h then not (changes is_reset message t) && starts_with_add t h else true
starts_with_add t (applied ∷ h) = starts_with_add t h
starts_with_add t (skipped ∷ h) = starts_with_add t h

-- the start is the ADD, and the key is a starting key
abbrev pub IsStartingKey : ℤ → Calls → Key → Type 0
IsStartingKey t h k = (starts_with_add t h ≡ true) × Contains (starting t h) k

-- the key is told: the last message since the start that names the key and the id puts it in, or where none names it, the start
-- is the ADD and the key is a starting key
abbrev pub IsTold : ℤ → Calls → Key → Type 0
IsTold t h k = MatchOption (find (λ message. names message t k) (since t h)) (IsStartingKey t h k) (λ message. IsTrue (puts_in message t))

-- a CURRENT for it came since the start
abbrev pub is_current_in : ℤ → Calls → Bool
is_current_in t h = list_any (λ message. changes is_current message t) (since t h)

-- the messages since the start and since the last point, newest first, with the start
abbrev pub lately : ℤ → Calls → List ListenResponse
lately t [] = []
lately t (asked id keys document ∷ h) = lately t h
lately t (unasked id ∷ h) = lately t h
lately t (came message ∷ h) = if is_start t message h then message ∷ [] else message ∷ lately t h
lately t (applied ∷ h) = []
lately t (skipped ∷ h) = []

-- the first token, or the second where that is empty
abbrev pub or_else : List ℕ → List ℕ → List ℕ
or_else [] token = token
or_else (byte ∷ bytes) token = byte ∷ bytes

-- the last token for the id among messages that isn't empty; empty where there is none
abbrev pub last_token : ℤ → List ListenResponse → List ℕ
last_token t [] = []
last_token t (message ∷ messages) = or_else (token_for message t) (last_token t messages)

-- its token: the last one that isn't empty, that came with or since the start and after the last point before
abbrev pub token_in : ℤ → Calls → List ℕ
token_in t h = last_token t (lately t h)
