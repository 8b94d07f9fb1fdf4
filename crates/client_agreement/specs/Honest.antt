-- What a run of a client asks of the backend: what is heard follows its documents, and what acknowledgements
-- say is true.
use Rattle.std.specs.Prelude.{◌≡◌, ℕ, ◌≤◌, List, [], ◌∷◌, Option, Some, IfSome}
use Rattle.acknowledgements.specs.Acked.{IsGreatest}
use Rattle.agreement.specs.Backend.{Key, Setting, standing, tick}
use Rattle.agreement.specs.Follows.{AreUnique, Follows}
use Rattle.agreement.specs.Transcript.{Event}
use Rattle.client_events.specs.declared.event.Event as event
use Rattle.durable_state.specs.Cached.{first_writes}
use Rattle.durable_state.specs.State.{State}
use Rattle.mutations.specs.declared.results.WriteResult.{WriteResult}
use Rattle.record_codec.specs.declared.commit.Commit.{Commit}
use Rattle.record_codec.specs.declared.commit.Commit.TheVariants.{Acknowledge}
use Rattle.client_turns.specs.Past.{Past, Turn}
use Rattle.value_model.specs.declared.timestamp.Timestamp.{Timestamp}
use Rattle.client_agreement.specs.Transcript.{transcript, transcript_with}

-- the version is a true one of the key: it has no document then, or one of this update time
abbrev pub IsTrueVersion : Setting → Key → ℕ → Type 0
IsTrueVersion s key version = IfSome (standing s version key) (λ d. d.update ≡ version)

-- each version that the results tell of a key is a true one, and not above the time of the commit
abbrev pub AreTrueResults : Setting → State → Timestamp → List WriteResult → Type 0
AreTrueResults s state at results = (key : Key) (version : Timestamp)
    → IsGreatest key (first_writes state.batches) results at version
    → IsTrueVersion s key (tick version) × (tick version ≤ tick at)

-- where the commit is an acknowledgement, its results are true
abbrev pub AcknowledgesTruly : Setting → State → Option Commit → Type 0
AcknowledgesTruly s state (Some (Acknowledge id at results)) = AreTrueResults s state at results
AcknowledgesTruly s state _ = Unit {0}

-- all acknowledgements that were heard
abbrev pub AreAcknowledgedTruly : Setting → Past → Type 0
AreAcknowledgedTruly s [] = Unit {0}
AreAcknowledgedTruly s (e ∷ past) = AcknowledgesTruly s e.state e.turn.commit × AreAcknowledgedTruly s past

-- What was heard follows the backend's documents, no token of a query is given for two points, and
-- acknowledgements are true.
-- `version` has the time that each filter spoke of.
pub record IsHonest (s : Setting) (version : List Event → ℕ) (past : Past) : Type 0 where
  pub follows : Follows s version (transcript past)
  pub unique : AreUnique s (transcript past)
  pub acknowledged : AreAcknowledgedTruly s past

-- The same once an event more was answered, but before anything has gone out behind it.
pub record IsHonestWith (s : Setting) (version : List Event → ℕ) (past : Past) (e : event.Event) (answer : Turn)
    : Type 0 where
  pub follows : Follows s version (transcript_with past e answer)
  pub unique : AreUnique s (transcript_with past e answer)
