-- what a message of the stream of listeners gives
use Rattle.std.proofs.Common.{◌≡◌, ◌↔◌, ⊎_elim, ℕ, ◌-◌, ℤ, Bool, true, false, ◌&&◌, ◌==◌, not, List, map as each, length, if◌then◌else◌, refl, sym, ap, subst, ◌∙◌}
use Rattle.std.proofs.lemmas.Bool.Decides.{Decides-int_eq}
use Rattle.std.specs.List.{Contains}
use Rattle.std.specs.Ordering.{int_eq}
use Rattle.listen_protocol.specs.Calls.{Calls, is_remove}
use Rattle.value_model.specs.declared.document.RpcStatus.{RpcStatus}
use Rattle.value_model.specs.declared.message.ListenResponse.{ListenResponse}
use Rattle.value_model.specs.declared.message.ListenResponse.TheVariants as sent
use Rattle.value_model.specs.declared.message.TargetChange.{TargetChange}
use Rattle.watch_aggregator.specs.Effects.{Gives, GivesEnd, IsEnded, filter_effect}
use Rattle.watch_aggregator.specs.declared.effect.Effect.TheVariants as effect
use Rattle.listen_protocol.specs.ToldKeys.{told_keys}
use Rattle.listen_protocol.specs.Transcript.{counts}
use Rattle.value_model.specs.declared.message.ExistenceFilter.{ExistenceFilter}
use Rattle.client_turns.specs.Watching.{is_mismatch}

-- ---- what the message says

nothing_ended : (h : Calls) (f : _) (ids : List ℤ) (status : RpcStatus) → effect.Ended ids status ≡ filter_effect h f → ⊥
nothing_ended h f ids status is = by (Rattle.listen_protocol.specs.Transcript.counts f.target_id h && not (length (Rattle.listen_protocol.specs.ToldKeys.told_keys f.target_id h) == f.count)) is
  where
    by : (b : Bool) → effect.Ended ids status ≡ (if b then effect.Mismatch f.target_id (length (Rattle.listen_protocol.specs.ToldKeys.told_keys f.target_id h)) f.count else effect.Nothing) → ⊥
    by true same = cc
    by false same = cc

pub record EndsTargets (h : Calls) (change : TargetChange) (ids : List ℤ) : Type 0 where
  pub removes : is_remove change.kind ≡ true
  pub each : (t : ℤ) → Contains ids t ↔ IsEnded h change.target_ids t
  pub some : (t : ℤ) × Contains ids t

pub ended_change : (h : Calls) (response : ListenResponse) (ids : List ℤ) (status : RpcStatus) → Gives h response (effect.Ended ids status) → (change : TargetChange) × (response ≡ sent.Target change) × EndsTargets h change ids
ended_change h (sent.Target change) ids status gives = ⊎_elim (λ x. (change, refl, parts x.0 x.1)) (λ x. absurd x.1) gives
  where
    parts : is_remove change.kind ≡ true → GivesEnd h change (effect.Ended ids status) → EndsTargets h change ids
    parts removes (cause, ascending, all, some) = record { removes = removes; each = all; some = some }
ended_change h (sent.Change change) ids status gives = cc
ended_change h (sent.Delete change) ids status gives = cc
ended_change h (sent.Remove change) ids status gives = cc
ended_change h (sent.Filter f) ids status gives = absurd (nothing_ended h f ids status gives)

-- ---- what the filter says

mismatch_parts : (h : Calls) (f : ExistenceFilter) (id : ℤ) (told count : ℕ) → effect.Mismatch id told count ≡ filter_effect h f → (f.target_id ≡ id) × ((counts f.target_id h && not (length (told_keys f.target_id h) == f.count)) ≡ true)
mismatch_parts h f id told count is = by (counts f.target_id h && not (length (told_keys f.target_id h) == f.count)) refl is
  where
    by : (b : Bool) → (counts f.target_id h && not (length (told_keys f.target_id h) == f.count)) ≡ b → effect.Mismatch id told count ≡ (if b then effect.Mismatch f.target_id (length (told_keys f.target_id h)) f.count else effect.Nothing)
        → (f.target_id ≡ id) × ((counts f.target_id h && not (length (told_keys f.target_id h) == f.count)) ≡ true)
    by true holds same = (cc, holds)
    by false holds same = cc

pub mismatch_filter : (h : Calls) (response : ListenResponse) (id : ℤ) (told count : ℕ) → Gives h response (effect.Mismatch id told count) → (f : ExistenceFilter) × (response ≡ sent.Filter f) × (effect.Mismatch id told count ≡ filter_effect h f)
mismatch_filter h (sent.Target change) id told count gives = ⊎_elim (λ x. absurd x.1) (λ x. absurd x.1) gives
mismatch_filter h (sent.Change change) id told count gives = cc
mismatch_filter h (sent.Delete change) id told count gives = cc
mismatch_filter h (sent.Remove change) id told count gives = cc
mismatch_filter h (sent.Filter f) id told count gives = (f, refl, gives)

-- just the target of the filter is reset
pub mismatch_is : (h : Calls) (f : ExistenceFilter) (id : ℤ) (told count : ℕ) → effect.Mismatch id told count ≡ filter_effect h f → (x : ℤ) → is_mismatch h (sent.Filter f) x ≡ int_eq id x
mismatch_is h f id told count is x = by (int_eq f.target_id x) refl
  where
    parts : (f.target_id ≡ id) × ((counts f.target_id h && not (length (told_keys f.target_id h) == f.count)) ≡ true)
    parts = mismatch_parts h f id told count is

    by : (b : Bool) → int_eq f.target_id x ≡ b → (int_eq f.target_id x && (counts x h && not (length (told_keys x h) == f.count))) ≡ int_eq id x
    by true same =
        ap (λ b. b && (counts x h && not (length (told_keys x h) == f.count))) same
        ∙ subst (λ (z : ℤ). (counts z h && not (length (told_keys z h) == f.count)) ≡ true) ((Decides-int_eq f.target_id x).0 same) parts.1
        ∙ sym (ap (λ z. int_eq z x) (sym parts.0) ∙ same)
    by false other = ap (λ b. b && (counts x h && not (length (told_keys x h) == f.count))) other ∙ sym (ap (λ z. int_eq z x) (sym parts.0) ∙ other)
