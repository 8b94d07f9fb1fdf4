-- What unfinished writes touch, and the local documents, as the theorem of agreement has them.
use Rattle.std.proofs.Common.{◌≡◌, ◌∙◌, ◌↔◌, ◌⊎◌, ⊎_elim, inl, inr, ◌||◌, ℕ, Bool, true, false, List, Option, Some, None, IfSome, IsSomeAnd, option_map, refl, sym, ap, subst}
use Rattle.std.specs.FinMap as finite
use Rattle.std.specs.List.{Contains}
use Rattle.std.specs.Option.{unwrap_or, ForSome}
use Rattle.std.proofs.lemmas.Bool.{false≢true}
use Rattle.acknowledgements.proofs.Times.{earlier_is, earlier_so}
use Rattle.agreement.proofs.Ticks.{ticks_ordered}
use Rattle.agreement.specs.Agrees.{Agrees, AreLocal, IsAhead, IsTouched}
use Rattle.agreement.specs.Backend.{Key, Setting, IsInAnswer, standing, tick_of, written}
use Rattle.agreement.specs.Client.{Client}
use Rattle.agreement.specs.Entries as agreed
use Rattle.agreement.specs.Sound.{IsSound}
use Rattle.durable_state.proofs.Laid.{among_in, in_among}
use Rattle.durable_state.proofs.Lent.{touches}
use Rattle.durable_state.proofs.Local.{documents_local, unnamed_document}
use Rattle.durable_state.specs.Documents.{documents_of, is_named, is_uncovered, sealed_entry_of, stored, touched_keys_of}
use Rattle.durable_state.specs.State.{State, start}
use Rattle.overlays.specs.LocalDocument.{base_of}
use Rattle.queries.specs.declared.target.Target.{Target}
use Rattle.remote_documents.proofs.Maps.{order}
use Rattle.value_model.proofs.Instants.{times_ordered}
use Rattle.value_model.specs.Documents.{DocumentMap}
use Rattle.value_model.specs.Time.{IsMoment}
use Rattle.value_model.specs.declared.document.Entry.{Entry}
use Rattle.value_model.specs.declared.document.Entry.TheVariants.{Found, Missing, Unknown}
use Rattle.value_model.specs.declared.document.Seal.{Seal}
use Rattle.value_model.specs.declared.document.Seal.TheVariants.{Seen, Committed}
use Rattle.value_model.specs.declared.timestamp.Timestamp.{Timestamp}
use Rattle.client_agreement.specs.Durable.{client_of, entry_at, entry_of, seal_of}
use Rattle.client_agreement.specs.Laws.{StartIsSound}
use Rattle.client_agreement.specs.Standing.{HasMoments, IsMomentSeal}

-- ---- the keys that are touched

-- an entry isn't covered yet exactly where its seal is ahead of the last read time
uncovered_ahead : (last : Option Timestamp) (seal : Seal) → IfSome last IsMoment → IsMomentSeal seal → (is_uncovered last seal ≡ true) ↔ IsAhead (tick_of last) (seal_of seal)
uncovered_ahead last Seen read moment = (λ is. absurd (false≢true is), λ never. absurd never)
uncovered_ahead None (Committed at) read moment = (λ is. ticks_ordered.positive at, λ less. refl)
uncovered_ahead (Some last) (Committed at) read moment = (
  λ is. (ticks_ordered.before last at read moment).0 ((times_ordered last at read moment).0 (earlier_so last at is)),
  λ less. earlier_is last at ((times_ordered last at read moment).1 ((ticks_ordered.before last at read moment).1 less)),
)

-- so it is of the entry of a key, if there is one
known_ahead : (last : Option Timestamp) (known : Option (Entry × Seal)) → IfSome last IsMoment → ((k : Entry × Seal) → known ≡ Some k → IsMomentSeal k.1)
    → (unwrap_or (option_map (λ (p : Entry × Seal). is_uncovered last p.1) known) false ≡ true) ↔ IsSomeAnd (option_map entry_of known) (λ e. IsAhead (tick_of last) e.seal)
known_ahead last None read moments = (λ is. absurd (false≢true is), λ never. absurd never)
known_ahead last (Some k) read moments = uncovered_ahead last k.1 read (moments k refl)

-- a key is touched by what is pending, or by what isn't covered yet
either : (a b : Bool) (A B : Type 0) → (a ≡ true) ↔ A → (b ≡ true) ↔ B → ((a || b) ≡ true) ↔ (A ⊎ B)
either true b A B first second = (λ is. inl (first.0 refl), λ it. refl)
either false b A B first second = (λ is. inr (second.0 is), λ it. ⊎_elim (λ here. absurd (false≢true (first.1 here))) second.1 it)

pub touched_is : (s : State) → HasMoments s → (key : Key) → Contains (touched_keys_of s) key ↔ IsTouched (is_named s) (client_of s) key
touched_is s moments key = (λ there. both.0 (sym (touches s key) ∙ in_among key (touched_keys_of s) there), λ touched. among_in key (touched_keys_of s) (touches s key ∙ both.1 touched))
  where
    both : ((is_named s key || unwrap_or (option_map (λ (p : Entry × Seal). is_uncovered s.last_read p.1) (sealed_entry_of s key)) false) ≡ true) ↔ IsTouched (is_named s) (client_of s) key
    both = either (is_named s key) (unwrap_or (option_map (λ (p : Entry × Seal). is_uncovered s.last_read p.1) (sealed_entry_of s key)) false) (is_named s key ≡ true) (IsSomeAnd (entry_at s key) (λ e. IsAhead (tick_of s.last_read) e.seal))
        (λ is. is, λ is. is)
        (known_ahead s.last_read (sealed_entry_of s key) moments.read (λ k is. (moments.entries key k is).1))

-- ---- the local documents

-- an entry says that the same document is there
entry_written : (s : State) (key : Key) (known : Option (Entry × Seal)) → option_map written (option_map (stored s key) (base_of (option_map (λ (p : Entry × Seal). p.0) known))) ≡ agreed.document_of (option_map entry_of known)
entry_written s key None = refl
entry_written s key (Some (Found fields version, seal)) = refl
entry_written s key (Some (Missing version, seal)) = refl
entry_written s key (Some (Unknown version, seal)) = refl

pub local_documents : (s : State) → AreLocal (is_named s) (client_of s) (documents_of s)
local_documents s key unnamed = ap (option_map written) (documents_local s key ∙ ap (option_map (stored s key)) (unnamed_document s key unnamed)) ∙ entry_written s key (sealed_entry_of s key)

-- ---- the first state

-- an empty store has no entry
none_known : (s : Setting) (key : Key) (known : Option (Entry × Seal)) → known ≡ None → (P : agreed.Entry → Type 0) → ForSome (option_map entry_of known) P
none_known s key None is P e there = cc
none_known s key (Some k) is P e there = cc

pub start_sound : StartIsSound
start_sound s = record {
  entries = λ key. none_known s key (sealed_entry_of start key) (finite.get-empty order key) (IsSound s 0 key);
  rows = λ id row there. cc;
}

-- ---- clients with the same entries and the same read time

pub touched_moves : (pending : Key → Bool) (c d : Client) → c.entry ≡ d.entry → c.read ≡ d.read → (key : Key) → IsTouched pending c key → IsTouched pending d key
touched_moves pending c d entry read key touched = ⊎_elim inl
    (λ ahead. inr (subst (λ (r : ℕ). IsSomeAnd (d.entry key) (λ e. IsAhead r e.seal)) read (subst (λ (f : Key → Option agreed.Entry). IsSomeAnd (f key) (λ e. IsAhead c.read e.seal)) entry ahead)))
    touched

-- what agrees by one client agrees by another that has the same entries and the same read time
pub agrees_moves : (s : Setting) (pending : Key → Bool) (c d : Client) (local : DocumentMap) (query : Target) (shown : List Key) → c.entry ≡ d.entry → c.read ≡ d.read → Agrees s pending c local query shown → Agrees s pending d local query shown
agrees_moves s pending c d local query shown entry read agrees = record {
  true_shown = λ key there untouched.
      let both = agrees.true_shown key there (λ touched. untouched (touched_moves pending c d entry read key touched)) in
      (subst (λ (r : ℕ). IsInAnswer s query r key) read both.0, both.1 ∙ ap (λ (r : ℕ). standing s r key) read);
  all_shown = λ key answered untouched.
      agrees.all_shown key (subst (λ (r : ℕ). IsInAnswer s query r key) (sym read) answered) (λ touched. untouched (touched_moves pending c d entry read key touched));
}
