-- How entries rise: a commit puts a later version, or what was seen in place of what was acknowledged at the same one.
use Rattle.std.specs.Prelude.{◌≡◌, ℕ, List, Option, Some, None}
use Rattle.std.specs.List.{All}
use Rattle.value_model.specs.Order.{Earlier}
use Rattle.value_model.specs.Versions.{version_of}
use Rattle.value_model.specs.declared.document.Entry.{Entry}
use Rattle.value_model.specs.declared.document.Seal.{Seal}
use Rattle.value_model.specs.declared.document.Seal.TheVariants.{Seen, Committed}
use Rattle.value_model.specs.declared.timestamp.Timestamp.{Timestamp}
use Rattle.record_codec.specs.declared.commit.Commit.{Commit}
use Rattle.record_codec.specs.declared.commit.Commit.TheVariants.{Point, Drop}
use Rattle.durable_state.specs.Documents.{sealed_entry_of}
use Rattle.durable_state.specs.State.{State, committed}

-- An entry that the backend told replaces what is known of its key where nothing is, where its version is later, or where the
-- versions are equal and what is known was left by an acknowledgement.
abbrev pub Replaces : Option (Entry × Seal) → Entry → Type 0
Replaces None entry = Unit {0}
Replaces (Some (known, Seen)) entry = Earlier (version_of known) (version_of entry)
Replaces (Some (known, Committed at)) entry = ¬ (Earlier (version_of entry) (version_of known))

-- nothing was known, or it was of an earlier version
abbrev pub IsBelowEntry : Option (Entry × Seal) → Entry → Type 0
IsBelowEntry None entry = Unit {0}
IsBelowEntry (Some (known, seal)) entry = Earlier (version_of known) (version_of entry)

-- from what was known to what is: it stays, is of a later version, or was seen at the version of an acknowledgement
pub data Rises (old new : Option (Entry × Seal)) : Type 0 where
  stays : new ≡ old → Rises old new
  higher : (entry : Entry) (seal : Seal) → new ≡ Some (entry, seal) → IsBelowEntry old entry → Rises old new
  seen : (known entry : Entry) (at : Timestamp) → old ≡ Some (known, Committed at) → new ≡ Some (entry, Seen)
      → version_of entry ≡ version_of known → Rises old new

-- the commit drops nothing, and if it is a point, each of its entries replaces what is known
abbrev pub PutsAnew : State → Commit → Type 0
PutsAnew s (Point at entries rows) = All (λ e. Replaces (sealed_entry_of s e.key) e.entry) entries
PutsAnew s (Drop keys ids) = ⊥
PutsAnew s _ = Unit {0}

-- under such commits entries only rise
abbrev pub EntriesRise : Type 0
EntriesRise = (s : State) (commit : Commit) → PutsAnew s commit
    → (key : List (List ℕ)) → Rises (sealed_entry_of s key) (sealed_entry_of (committed s commit) key)
