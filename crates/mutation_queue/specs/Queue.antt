-- The pending batches, as contracts see them: a list, and beside it the room for more.
use Rattle.std.specs.Prelude.{◌≡◌, ℕ, ◌+◌, ◌-◌, ◌<◌, ◌≤◌, ◌^◌, ◌++◌, Bool, List, [], ◌∷◌, length, map, flat_map, filter, Option, None, nat_lt, refl, IsTrue, if◌then◌else◌}
use Rattle.std.specs.List.{All, slice_get}
use Rattle.std.specs.Coded.{Coded, code_by, coded×, coded_list, coded_ℕ}
use Rattle.mutations.specs.contracts.batch.Batch as batch
use Rattle.mutations.specs.declared.batch.Batch.{Batch}
use Rattle.mutations.specs.declared.write.Write.{Write}
use Rattle.mutations.specs.Written.{written_key}
use Rattle.mutation_queue.specs.Places.{KeepsOtherRoom, Table, has_room, is_among, listed, places_code}

-- the keys of some writes
abbrev pub keys_of : List Write → List (List (List ℕ))
keys_of writes = map written_key writes

-- the keys of all writes of some batches
abbrev pub named_keys : List Batch → List (List (List ℕ))
named_keys batches = flat_map (λ b. keys_of b.writes) batches

-- a write of the batch has the key
abbrev pub names : List (List ℕ) → Batch → Bool
names key batch = is_among (keys_of batch.writes) key

-- the batches that have a write of the key, in order
abbrev pub naming : List (List ℕ) → List Batch → List Batch
naming key batches = filter (names key) batches

-- the places of the batches that name the key, where the first batch has this place and each other the next one
abbrev pub places_of : ℕ → List Batch → List (List ℕ) → List ℕ
places_of at [] key = []
places_of at (b ∷ bs) key = (if names key b then at ∷ [] else []) ++ places_of (at + 1) bs key

-- the batches in order; beside them the room: how many more find a place, the table of the places of each key, and how many
-- batches were ever pushed
pub record Queue : Type 0 where
  pub batches : List Batch
  pub spare : ℕ
  pub places : Table
  pub pushed : ℕ

-- the queue is stored as its fields
abbrev pub queue_code : Coded Queue
queue_code = code_by (List Batch × (ℕ × (Table × ℕ))) (coded× (coded_list batch.the_row.coded) (coded× coded_ℕ (coded× (coded_list (coded× (coded_list (coded_list coded_ℕ)) places_code)) coded_ℕ))) (λ q. (q.batches, (q.spare, (q.places, q.pushed)))) (λ p. record { batches = p.0; spare = p.1.0; places = p.1.1.0; pushed = p.1.1.1 }) (λ _. refl)

-- the place of the first batch that waits
abbrev pub first_place : Queue → ℕ
first_place queue = queue.pushed - length queue.batches

-- the batch of a place, unless it is one of the first so many
abbrev pub batch_past : ℕ → Queue → ℕ → Option Batch
batch_past past queue place =
    let index = place - first_place queue in
    if nat_lt index past then None else slice_get queue.batches index

-- one more place of the key of each write finds room
abbrev pub HaveRoom : Table → List Write → Type 0
HaveRoom table writes = All (λ write. IsTrue (has_room table (written_key write))) writes

-- there is room for a batch of these writes: a place for it and for each of its keys, and it can be counted
pub record HasRoom (queue : Queue) (writes : List Write) : Type 0 where
  pub spare : 0 < queue.spare
  pub places : HaveRoom queue.places writes
  pub within : queue.pushed + 1 < 2 ^ 64

-- the room stays, but for so many places of batches, and for that of these keys
pub record KeepsRoom (used : ℕ) (keys : List (List (List ℕ))) (old new : Queue) : Type 0 where
  pub spare : old.spare ≤ new.spare + used
  pub places : KeepsOtherRoom keys old.places new.places
  pub pushed : new.pushed ≤ old.pushed + used

-- the table lists the places of these batches, the last of so many
pub record AreListed (batches : List Batch) (table : Table) (pushed : ℕ) : Type 0 where
  pub each : (key : List (List ℕ)) → listed table key ≡ places_of (pushed - length batches) batches key
  pub within : length batches ≤ pushed
