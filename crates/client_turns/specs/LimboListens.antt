-- The listens of documents in limbo (the client SDK's rule of limbo resolution), read off what a client has heard.
use Rattle.std.specs.Prelude.{ℤ, Bool, ◌&&◌, ◌||◌, not, List, [], ◌∷◌, is_some, if◌then◌else◌}
use Rattle.std.specs.List.{filter, fold}
use Rattle.limbo_listens.specs.Listens.{first_limbo}
use Rattle.limbo_resolver.specs.Limbo.{Key, Limbo, key_in, updated, without}
use Rattle.listen_protocol.specs.Calls.{Calls, is_remove, lists}
use Rattle.listen_protocol.specs.Transcript.{is_live}
use Rattle.value_model.specs.declared.message.ListenResponse.{ListenResponse}
use Rattle.value_model.specs.declared.message.ListenResponse.TheVariants as message
use Rattle.client_turns.specs.Past.{Past}
use Rattle.client_turns.specs.Watching.{WatchStep, calls_of, hears, is_wanted, step_of}

-- the listens without those that the backend ended, by a REMOVE of their live incarnations
abbrev pub heard_limbo : Calls → ListenResponse → Limbo → Limbo
heard_limbo h (message.Target change) limbo =
    if is_remove change.kind
    then record limbo { running = filter (λ p. not (lists change.target_ids p.0 && is_live p.0 h)) limbo.running }
    else limbo
heard_limbo h _ limbo = limbo

-- the listens that go on, whatever comes on the stream
abbrev pub going_on : Calls → WatchStep → Limbo → Limbo
going_on h (hears response) limbo = heard_limbo h response limbo
going_on h _ limbo = limbo

-- After each event just the documents that are in limbo then are listened to by themselves, or wait for that.
abbrev pub limbo_of : Past → Limbo
limbo_of [] = first_limbo
limbo_of (entry ∷ past) = updated entry.turn.limbo (going_on (calls_of past) (step_of entry) (limbo_of past))

-- the id is that of a document in limbo that is listened to
abbrev pub is_running : ℤ → Limbo → Bool
is_running t limbo = is_some (key_in limbo.running t)

-- running listens without those of these ids
abbrev pub without_all : List ℤ → List (ℤ × Key) → List (ℤ × Key)
without_all ids running = fold without running ids

-- a target is sought that is wanted, or is the listen of a document in limbo
abbrev pub is_sought : ℤ → Past → Limbo → Bool
is_sought t past limbo = is_wanted t past || is_running t limbo
