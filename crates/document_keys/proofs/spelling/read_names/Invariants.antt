use Rattle.std.proofs.Common.{◌≡◌, []}
use Rattle.std.specs.String.{string_bytes}
use Rattle.std.specs.Str.Iter.{chars_rest}
use Rattle.document_keys.specs.declared.spelling.Place.TheVariants.{Start}
use Rattle.document_keys.proofs.Spelled.{prepend, run}
use Rattle.document_keys.proofs.spelling.read_names.Given as goal

abbrev pub invariant-loop-c : goal.invariant-loop-c
invariant-loop-c l = run l.text Start [] ≡ prepend l.names.items (run (chars_rest l.c-iterator) l.place (string_bytes l.name))
