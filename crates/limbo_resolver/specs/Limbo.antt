-- Limbo listens (the client SDK's rule of limbo resolution): a document that a listener shows, though its target doesn't hold
-- it, is in limbo and listened to by itself. At most 100 such listens run at a time; the other keys wait in a queue.
use Rattle.std.specs.Prelude.{ℕ, ◌+◌, ◌%◌, ℤ, pos, Bool, false, ◌==◌, ◌&&◌, not, nat_lt, nat_le, nat_eq, if◌then◌else◌}
use Rattle.std.specs.Prelude.{Option, List, [], ◌∷◌, ◌++◌, length, map, drop}
use Rattle.std.specs.Cmp.Lexicographic.{pointwise}
use Rattle.std.specs.List.{filter, list_any}
use Rattle.std.specs.Map.{lookup, remove_entry}
use Rattle.std.specs.Ordering.{int_eq}

abbrev pub Key : Type 0
Key = List (List ℕ)

-- the two are one key
abbrev pub same_key : Key → Key → Bool
same_key = pointwise (pointwise nat_eq)

-- the key is among these
abbrev pub has : List Key → Key → Bool
has keys key = list_any (same_key key) keys

-- an id of a limbo listen is odd and positive
abbrev pub is_odd : ℤ → Bool
is_odd (pos n) = n % 2 == 1
is_odd _ = false

-- the running listens, ascending by id; the keys that wait, first come first; the id that the next listen gets
pub record Limbo : Type 0 where
  pub running : List (ℤ × Key)
  pub waiting : List Key
  pub next : ℕ

-- the ids and the keys of listens
abbrev pub ids_of : List (ℤ × Key) → List ℤ
ids_of listens = map (λ p. p.0) listens

abbrev pub keys_of : List (ℤ × Key) → List Key
keys_of listens = map (λ p. p.1) listens

-- all keys that run or wait
abbrev pub held : Limbo → List Key
held s = keys_of s.running ++ s.waiting

-- one more may start beside so many: fewer than 100 run, and an id up to 2,147,483,647 is left
abbrev pub has_place : ℕ → ℕ → Bool
has_place count next = nat_lt count 100 && nat_le next 2147483647

-- while there is a place, the first of the queue starts under the next id, and the ids go by twos
abbrev pub filled : List (ℤ × Key) → List Key → ℕ → Limbo
filled running [] next = record { running = running; waiting = []; next = next }
filled running (key ∷ queue) next =
    if has_place (length running) next then filled (running ++ (pos next, key) ∷ []) queue (next + 2)
    else record { running = running; waiting = key ∷ queue; next = next }

-- the listens whose key is still in limbo, and the ids of the others, which end
abbrev pub kept : List Key → List (ℤ × Key) → List (ℤ × Key)
kept wanted running = filter (λ p. has wanted p.1) running

abbrev pub ended : List Key → List (ℤ × Key) → List ℤ
ended wanted running = ids_of (filter (λ p. not (has wanted p.1)) running)

-- the keys that are to start: those that waited and are still in limbo, then those that neither ran nor waited, in their order
abbrev pub queue : List Key → Limbo → List Key
queue wanted s = filter (has wanted) s.waiting ++ filter (λ key. not (has (held s) key)) wanted

-- what stands once exactly these keys are in limbo, and the listens that started then
abbrev pub updated : List Key → Limbo → Limbo
updated wanted s = filled (kept wanted s.running) (queue wanted s) s.next

abbrev pub started : List Key → Limbo → List (ℤ × Key)
started wanted s = drop (length (kept wanted s.running)) (updated wanted s).running

-- the key of a running id, and the listens without it
abbrev pub key_in : List (ℤ × Key) → ℤ → Option Key
key_in running id = lookup (λ other. int_eq other id) running

abbrev pub without : List (ℤ × Key) → ℤ → List (ℤ × Key)
without running id = remove_entry (λ other. int_eq other id) running
