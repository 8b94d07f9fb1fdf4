-- What a message answers, and when it is refused, after a list of calls.
use Rattle.std.specs.Prelude.{◌≡◌, ◌≢◌, ◌↔◌, ◌⊎◌, ◌<ℤ◌, ℤ, true, false, ◌&&◌, ◌==◌, not, if◌then◌else◌, Some, None, List, [], length}
use Rattle.std.specs.List.{AllPairs, Contains}
use Rattle.value_model.specs.declared.timestamp.Timestamp.{Timestamp}
use Rattle.value_model.specs.declared.message.ListenResponse.{ListenResponse}
use Rattle.value_model.specs.declared.message.ListenResponse.TheVariants as sent
use Rattle.value_model.specs.declared.message.TargetChange.{TargetChange}
use Rattle.value_model.specs.declared.message.ExistenceFilter.{ExistenceFilter}
use Rattle.watch_aggregator.specs.declared.effect.Effect.{Effect}
use Rattle.watch_aggregator.specs.declared.effect.Effect.TheVariants as effect
use Rattle.watch_aggregator.specs.declared.effect.WatchMember.TheVariants as member
use Rattle.watch_aggregator.specs.declared.effect.WatchFault.{WatchFault}
use Rattle.watch_aggregator.specs.declared.effect.WatchFault.TheVariants as fault
use Rattle.listen_protocol.specs.Calls.{Calls, lists, is_remove}
use Rattle.listen_protocol.specs.Transcript.{is_live, counts}
use Rattle.listen_protocol.specs.ToldKeys.{told_keys}

-- the id's live incarnation is ended by a REMOVE of the ids
pub record IsEnded (h : Calls) (ids : List ℤ) (t : ℤ) : Type 0 where
  pub listed : lists ids t ≡ true
  pub live : is_live t h ≡ true

-- the change is a point: it has no ids, and a read time
pub record IsPoint (change : TargetChange) (at : Timestamp) : Type 0 where
  pub all : change.target_ids ≡ []
  pub time : change.read_time ≡ Some at

-- a change of targets that isn't a REMOVE
abbrev pub GivesPoint : TargetChange → Effect → Type 0
GivesPoint change effect.Nothing = (at : Timestamp) → ¬ (IsPoint change at)
GivesPoint change (effect.Point at) = IsPoint change at
GivesPoint change (effect.Mismatch id told count) = ⊥
GivesPoint change (effect.Ended ids status) = ⊥

-- a REMOVE
abbrev pub GivesEnd : Calls → TargetChange → Effect → Type 0
GivesEnd h change effect.Nothing = (change.target_ids ≢ []) × ((t : ℤ) → ¬ (IsEnded h change.target_ids t))
GivesEnd h change (effect.Ended ids status) = (change.cause ≡ Some status) × AllPairs ◌<ℤ◌ ids × ((t : ℤ) → Contains ids t ↔ IsEnded h change.target_ids t) × ((t : ℤ) × Contains ids t)
GivesEnd h change (effect.Point at) = ⊥
GivesEnd h change (effect.Mismatch id told count) = ⊥

abbrev pub GivesTarget : Calls → TargetChange → Effect → Type 0
GivesTarget h change e = ((is_remove change.kind ≡ true) × GivesEnd h change e) ⊎ ((is_remove change.kind ≡ false) × GivesPoint change e)

-- why a change of targets is refused
abbrev pub RefusesTarget : Calls → TargetChange → WatchFault → Type 0
RefusesTarget h change (fault.BadMessage member.TargetIds) = (is_remove change.kind ≡ true) × (change.target_ids ≡ [])
RefusesTarget h change (fault.BadMessage member.Cause) = (is_remove change.kind ≡ true) × (change.cause ≡ None) × ((t : ℤ) × IsEnded h change.target_ids t)
RefusesTarget h change fault.NoMemory = Unit {0}

-- a filter: of a counting id whose number of told keys isn't the count
abbrev pub filter_effect : Calls → ExistenceFilter → Effect
filter_effect h filter =
    let told = length (told_keys filter.target_id h) in
    if counts filter.target_id h && not (told == filter.count) then effect.Mismatch filter.target_id told filter.count else effect.Nothing

-- what each message answers
abbrev pub Gives : Calls → ListenResponse → Effect → Type 0
Gives h (sent.Target change) e = GivesTarget h change e
Gives h (sent.Filter filter) e = e ≡ filter_effect h filter
Gives h _ e = e ≡ effect.Nothing

-- why it is refused
abbrev pub Refuses : Calls → ListenResponse → WatchFault → Type 0
Refuses h (sent.Target change) f = RefusesTarget h change f
Refuses h _ f = f ≡ fault.NoMemory
