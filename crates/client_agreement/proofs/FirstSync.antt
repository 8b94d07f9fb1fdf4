-- The premises of the laws can be met: a first sync of a collection with one document.
use Rattle.std.proofs.Common.{◌≡◌, ⊎_elim, ℕ, List, [], ◌∷◌, Option, Some, None, option_map, IsSomeAnd, refl, subst, arith, IsUtf8}
use Rattle.std.specs.FinMap as finite
use Rattle.std.specs.List.{All}
use Rattle.std.specs.Prelude.{◌<◌}
use Rattle.std.proofs.lemmas.Bool.{false≢true}
use Rattle.std.proofs.lemmas.Int.{ints}
use Rattle.std.proofs.lemmas.List.Elements.{All-cons, All-nil}
use Rattle.agreement.specs.Agrees.{IsAhead}
use Rattle.agreement.specs.Entries as agreed
use Rattle.document_keys.specs.Names.{IsSegment}
use Rattle.durable_state.specs.Documents.{sealed_entry_of}
use Rattle.durable_state.specs.State.{start}
use Rattle.record_parts.specs.Spelling.{AreSpelledFields, IsSpelledKey}
use Rattle.remote_documents.proofs.Maps.{order}
use Rattle.value_model.specs.Storable.{AreStorableBytes}
use Rattle.value_model.specs.Time.{IsMoment}
use Rattle.value_model.specs.declared.document.Entry.{Entry}
use Rattle.value_model.specs.declared.document.Seal.{Seal}
use Rattle.client_agreement.specs.Durable.{client_of, entry_of}
use Rattle.client_agreement.specs.FirstSync.{IsUntouched, SyncedRun}
use Rattle.client_agreement.specs.Laws.{IsHonestRun}
use Rattle.client_agreement.specs.Standing.{AreSpelled, IsWellMade}
use Rattle.client_agreement.proofs.FirstSyncAnswers.{byte_utf8, segment, segment_r, spelled_query}
use Rattle.client_agreement.proofs.FirstSyncHonest.{given, honest, version}
use Rattle.client_agreement.proofs.FirstSyncPoint.{heard_synced}
use Rattle.client_agreement.proofs.FirstSyncRun.{first_moment, key_a, past_current, past_synced, root, second_moment, syncs, synced_state, synced_view, told, writes}
use Rattle.client_agreement.proofs.FirstSyncShown.{one_known}
use Rattle.client_agreement.proofs.Touched.{start_sound}

-- ---- what is heard has a spelling

both_segments : (P : List ℕ → Type 0) → P (114 ∷ []) → P (97 ∷ []) → All P key_a
both_segments P first second = All-cons P (114 ∷ []) ((97 ∷ []) ∷ []) first (All-cons P (97 ∷ []) [] second (All-nil P))

spelled_key : IsSpelledKey key_a
spelled_key = record {
  names = record {
    some = omega arith;
    even = refl;
    segments = both_segments IsSegment segment_r (segment 97 (λ is. omega (arith, is)) (λ is. omega (arith, is)) (λ is. omega (arith, is)));
  };
  texts = both_segments IsUtf8 (byte_utf8 114 (omega arith)) (byte_utf8 97 (omega arith));
  many = omega arith;
}

no_fields : AreSpelledFields 20 []
no_fields = record {
  storable = (record { sound = record { names = All-nil _; ascending = λ i j d less inside. absurd (omega (arith, inside)) }; utf8 = All-nil _; count = omega arith }, tt);
  nested = omega arith;
}

first_is : IsMoment first_moment
first_is = record { seconds = (omega (arith, ints), omega (arith, ints)); nanos = omega arith }

second_is : IsMoment second_moment
second_is = record { seconds = (omega (arith, ints), omega (arith, ints)); nanos = omega arith }

no_bytes : AreStorableBytes []
no_bytes = record { each = All-nil _; count = omega arith }

one_byte : AreStorableBytes (1 ∷ [])
one_byte = record { each = All-cons (λ byte. byte < 256) 1 [] (omega arith) (All-nil (λ byte. byte < 256)); count = omega arith }

spelled : AreSpelled past_synced
spelled = (
  record { token = no_bytes; time = second_is },
  (
    record { token = one_byte; time = second_is },
    (
      record { name = spelled_key; content = (no_fields, first_is) },
      (
        record { token = no_bytes; time = tt },
        (
          tt,
          (
            record { fits = omega arith; target = spelled_query },
            tt,
          ),
        ),
      ),
    ),
  ),
)

-- ---- the first state

none_kept : (known : Option (Entry × Seal)) → known ≡ None → (k : Entry × Seal) → known ≡ Some k → ⊥
none_kept known none k some = cc

well_made : IsWellMade start
well_made = record {
  moments = record { entries = λ key k is. absurd (none_kept (sealed_entry_of start key) (finite.get-empty order key) k is); read = tt };
  ascending = tt;
}

-- ---- the run

-- what is known of the document was seen
untouched : IsUntouched synced_state key_a
untouched touched = ⊎_elim (λ named. false≢true named) (λ ahead. subst (λ (known : Option (Entry × Seal)). IsSomeAnd (option_map entry_of known) (λ (e : agreed.Entry). IsAhead (client_of synced_state).read e.seal)) one_known ahead) touched

honest_run : IsHonestRun given root start version past_synced
honest_run = record { well_made = well_made; sound = start_sound given; spelled = spelled; heard = heard_synced; honest = honest }

pub first_sync : SyncedRun
first_sync = record {
  writes = writes;
  root = root;
  version = version;
  e = syncs;
  past = past_current;
  honest = honest_run;
  number = 2;
  read_time = Some second_moment;
  told = told;
  view = synced_view;
  line = (0, omega arith, refl);
  synced = refl;
  listening = refl;
  key = key_a;
  shown = (0, omega arith, refl);
  untouched = untouched;
}
