use Rattle.std.proofs.Common.{◌≡◌, ◌∷◌, ◌++◌}
use Rattle.std.specs.Str.Iter.{chars_rest}
use Rattle.std.specs.String.{string_bytes}
use Rattle.document_keys.specs.Paths.{escaped}
use Rattle.document_keys.proofs.spelling.quote_name.Given as goal

abbrev pub invariant-loop-c : goal.invariant-loop-c
invariant-loop-c l = string_bytes l.text ++ escaped (chars_rest l.c-iterator) ≡ string_bytes l.fn.text ++ 96 ∷ escaped l.name
