use Rattle.std.proofs.Common.{◌≡◌, drop}
use denote.Text.{Utf8}
use denote.Shadow.{shadow}
use Rattle.document_keys.specs.Names.{parts_of}
use Rattle.document_keys.proofs.relative.part_at.Given as goal

abbrev pub invariant-loop : goal.invariant-loop
invariant-loop l = shadow (Utf8 l.rest) × (drop l.counter (parts_of l.path) ≡ parts_of l.rest)
