-- How the places of a key are kept.
use Rattle.std.specs.Prelude.{[], ◌∷◌, true, false, nat_lt}
use Rattle.std.specs.VecDeque.{deque_len, deque_capacity}
use Rattle.mutation_queue.specs.declared.place_list.Held.{Held}
use Rattle.mutation_queue.specs.declared.place_list.Held.TheVariants.{Reserved, One, Many}
use Rattle.mutation_queue.specs.Places.{Places}

-- the places that are held; where one alone is, a second one takes memory
abbrev pub seen : Held → Places
seen Reserved = record { at = []; room = true }
seen (One place) = record { at = place ∷ []; room = false }
seen (Many places) = record { at = places.value.items; room = nat_lt (deque_len places.value) (deque_capacity places.value) }
