-- The calls of a stream of listeners whose messages have a spelling.
use Rattle.std.specs.Prelude.{[], ◌∷◌}
use Rattle.listen_protocol.specs.Calls.{Calls, asked, unasked, came, applied, skipped}
use Rattle.client_events.specs.Spelled.{IsSpelledMessage}

-- what came has a spelling
abbrev pub AreSpelledCalls : Calls → Type 0
AreSpelledCalls [] = Unit {0}
AreSpelledCalls (came message ∷ h) = IsSpelledMessage message × AreSpelledCalls h
AreSpelledCalls (asked id keys document ∷ h) = AreSpelledCalls h
AreSpelledCalls (unasked id ∷ h) = AreSpelledCalls h
AreSpelledCalls (applied ∷ h) = AreSpelledCalls h
AreSpelledCalls (skipped ∷ h) = AreSpelledCalls h
