use Rattle.std.proofs.Common.{◌≡◌, ◌++◌, map}
use Rattle.std.specs.List.{All}
use Rattle.outcome_codec.specs.declared.parts.KeyedEntry.{KeyedEntry}
use Rattle.record_parts.specs.Spelling.{IsSpelledKey}
use Rattle.watch_points.specs.Steps.{keyed_entry}
use Rattle.watch_points.proofs.entries.listed.Given as goal

abbrev pub invariant-loop-key : goal.invariant-loop-key
invariant-loop-key l = record {
  value : l.entries.items ++ map keyed_entry l.key-iterator ≡ map keyed_entry l.fn.table.entries;
  named : All (λ (e : KeyedEntry). IsSpelledKey e.key) l.entries.items;
}
