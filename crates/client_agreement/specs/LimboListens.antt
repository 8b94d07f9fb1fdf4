-- The law of the listens of documents in limbo, over all that a client heard.
use Rattle.std.specs.Prelude.{◌∷◌}
use Rattle.document_keys.specs.Names.{Root}
use Rattle.limbo_resolver.specs.Laws.{IsSound, Rises}
use Rattle.limbo_resolver.specs.Limbo.{Limbo, started}
use Rattle.durable_state.specs.State.{State}
use Rattle.client_turns.specs.LimboListens.{going_on, limbo_of}
use Rattle.client_turns.specs.Order.{AreHeard}
use Rattle.client_turns.specs.Past.{Entry, Past}
use Rattle.client_turns.specs.Watching.{calls_of, step_of}

-- the listens that go on at an event, before those of other documents end and new ones start
abbrev pub limbo_at : Entry → Past → Limbo
limbo_at e past = going_on (calls_of past) (step_of e) (limbo_of past)

-- Whatever was heard, at most 100 listens run, under odd ids that ascend, up to 2,147,483,647 and below the
-- next one, and no document is listened to or waits twice; and those that an event starts get ids from the
-- next one before it up to the next one behind it, so that none is given twice.
pub record LimboListensStaySound : Type 0 where
  pub sound : (root : Root) (first : State) (past : Past) → AreHeard root first past → IsSound (limbo_of past)
  pub fresh : (root : Root) (first : State) (e : Entry) (past : Past) → AreHeard root first (e ∷ past)
      → Rises (limbo_of past).next (started e.turn.limbo (limbo_at e past)) (limbo_of (e ∷ past)).next
