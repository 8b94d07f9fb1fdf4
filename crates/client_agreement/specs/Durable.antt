-- What a client keeps on the disk, as the theorem of agreement has it: times are numbers there, and sets of
-- keys are tests.
use Rattle.std.specs.Prelude.{ℕ, ◌+◌, ◌%◌, pos, Bool, false, ◌==◌, List, [], ◌∷◌, Option, Some, None, option_map, option_and_then, if◌then◌else◌}
use Rattle.std.specs.Option.{option_map_or}
use Rattle.std.specs.Ordering.{int_eq}
use Rattle.agreement.specs.Backend.{Id, Key, Setting, Tuple, tick, tick_of}
use Rattle.agreement.specs.Client.{Client}
use Rattle.agreement.specs.Entries as agreed
use Rattle.agreement.specs.History.{Write, documents_of}
use Rattle.agreement.specs.MessageTurns.{has}
use Rattle.document_keys.specs.Names.{Root}
use Rattle.durable_state.specs.Documents.{sealed_entry_of}
use Rattle.durable_state.specs.State.{State}
use Rattle.queries.specs.declared.target.Target.{Target}
use Rattle.queries.specs.declared.target.Target.TheVariants.{Document}
use Rattle.target_cache.specs.declared.row.Held.{Held}
use Rattle.target_cache.specs.declared.row.Row.{Row}
use Rattle.value_model.specs.Versions.{version_of}
use Rattle.value_model.specs.declared.document.Entry.{Entry}
use Rattle.value_model.specs.declared.document.Entry.TheVariants as entry
use Rattle.value_model.specs.declared.document.Seal.{Seal}
use Rattle.value_model.specs.declared.document.Seal.TheVariants as seal

-- what is known of a document
abbrev pub what_of : Entry → agreed.What
what_of (entry.Found fields version) = agreed.Found fields
what_of (entry.Missing version) = agreed.Missing
what_of (entry.Unknown version) = agreed.Unknown

abbrev pub seal_of : Seal → agreed.Seal
seal_of seal.Seen = agreed.Seen
seal_of (seal.Committed at) = agreed.Committed (tick at)

-- an entry with its seal
abbrev pub entry_of : Entry × Seal → agreed.Entry
entry_of sealed = record {
  what = what_of sealed.0;
  version = tick (version_of sealed.0);
  seal = seal_of sealed.1;
}

-- the entry of a key
abbrev pub entry_at : State → Key → Option agreed.Entry
entry_at s key = option_map entry_of (sealed_entry_of s key)

-- the row of an id among rows, the first of which has this id; the others follow in steps of two
abbrev pub row_from : ℕ → List Row → Id → Option Row
row_from first [] id = None
row_from first (row ∷ rows) id = if int_eq id (pos first) then Some row else row_from (first + 2) rows id

-- the row of an id
abbrev pub row_of : List Row → Id → Option Row
row_of rows id = row_from 2 rows id

-- what a row of this query holds
abbrev pub tuple_with : Target → Held → Tuple
tuple_with query held = record {
  token = held.token;
  query = query;
  version = tick held.version;
  keys = has held.keys;
}

-- what a row holds, unless it is blank
abbrev pub tuple_in : Row → Option Tuple
tuple_in row = option_map (tuple_with row.target) row.held

abbrev pub tuple_at : List Row → Id → Option Tuple
tuple_at rows id = option_and_then tuple_in (row_of rows id)

-- the query of an id, or any where it has no row
abbrev pub query_at : List Row → Id → Target
query_at rows id = option_map_or (λ row. row.target) (row_of rows id) (Document [])

-- a client that starts with this state
abbrev pub client_of : State → Client
client_of s = record {
  entry = entry_at s;
  read = tick_of s.last_read;
  target = query_at s.rows;
  row = tuple_at s.rows;
  current = λ id. None;
  buffer = λ key. None;
  past = [];
}

-- the id is that of a listener's target: these are even, and those of listens of documents in limbo are odd
abbrev pub is_listener : Id → Bool
is_listener (pos n) = n % 2 == 0
is_listener _ = false

-- a backend that made these writes, and the tuples known before
abbrev pub setting_of : List Write → Root → List Tuple → Setting
setting_of writes root known = record {
  world = documents_of writes;
  root = root;
  listens = is_listener;
  known = known;
}
