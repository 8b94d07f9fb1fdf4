-- What the listener of a first sync shows: nothing while it waits, and its document behind the point.
use Rattle.std.proofs.Common.{◌≡◌, ◌∙◌, ⊎_elim, inl, ℕ, suc, zero, pos, Bool, true, false, cond, List, [], ◌∷◌, Option, Some, None, option_map, refl, sym, ap, subst, arith}
use Rattle.std.specs.FinMap as finite
use Rattle.std.specs.Global.{Vec}
use Rattle.std.specs.List.{slice_get}
use Rattle.std.specs.Option.{IsSome}
use Rattle.std.proofs.lemmas.Bool.{false≢true, true≢false}
use Rattle.std.proofs.lemmas.List.Elements.{All-cons, All-nil}
use Rattle.std.proofs.lemmas.Option.{none-some}
use denote.RawPtr.{null_ptr}
use Rattle.document_keys.proofs.Exact.{key_is}
use Rattle.document_keys.specs.KeySet.{is_key}
use Rattle.durable_state.proofs.Local.{documents_local}
use Rattle.durable_state.specs.Documents.{documents_of, sealed_entry_of, touched_keys_of, standing_by}
use Rattle.limbo_resolver.specs.Limbo.{Key}
use Rattle.durable_state.specs.State.{start}
use Rattle.overlays.specs.LocalDocument.{base_of}
use Rattle.remote_documents.proofs.Maps.{get_with, order}
use Rattle.target_cache.specs.Cache.{blank}
use Rattle.target_cache.specs.declared.row.Row.{Row}
use Rattle.value_model.specs.Documents.{Stored}
use Rattle.value_model.specs.declared.document.Document.{Document}
use Rattle.value_model.specs.declared.document.Entry.{Entry}
use Rattle.value_model.specs.declared.document.Entry.TheVariants.{Found}
use Rattle.value_model.specs.declared.document.Seal.{Seal}
use Rattle.value_model.specs.declared.document.Seal.TheVariants.{Seen}
use Rattle.views.specs.Changes.{HasChanges}
use Rattle.views.specs.Limbo.{IsInLimbo}
use Rattle.views.specs.Picks.{leaves, none, takes}
use Rattle.views.specs.Printed.{printed}
use Rattle.views.specs.Row.{IsPrinted, Prints, row}
use Rattle.views.specs.declared.view.Refresh.{Refresh}
use Rattle.client_turns.specs.Settling.{IsHeldFor, Shows, ShowsInLimbo, Stance, current_with}
use Rattle.client_agreement.proofs.FirstSyncAlone.{none_in}
use Rattle.client_agreement.proofs.FirstSyncAnswers.{none_answered, one_answered}
use Rattle.client_agreement.proofs.FirstSyncRun.{first_moment, key_a, listening_state, query, raised, root, second_moment, stored_a, synced_state, synced_view, waiting_view}

-- ---- what is known of the document

pub one_known : sealed_entry_of synced_state key_a ≡ Some (Found [] first_moment, Seen)
one_known = get_with finite.empty key_a (Found [] first_moment, Seen) key_a

-- the document of an entry, as it stands in the store
stored_by : Option (Entry × Seal) → Option Stored
stored_by known = option_map (λ (d : Document). record { fields = d.fields; update_time = d.update_time; state = standing_by known }) (base_of (option_map (λ (x : Entry × Seal). x.0) known))

none_there : (key : Key) → finite.get (documents_of listening_state) key ≡ None
unfolding stored_by
none_there key = documents_local listening_state key ∙ ap stored_by (finite.get-empty order key)

pub one_there : finite.get (documents_of synced_state) key_a ≡ Some stored_a
unfolding stored_by
one_there = documents_local synced_state key_a ∙ ap stored_by one_known

-- no other document is there
pub only_there : (key : Key) (stored : Stored) → finite.get (documents_of synced_state) key ≡ Some stored → key ≡ key_a
unfolding stored_by
only_there key stored there = by (is_key key_a key) refl
  where
    by : (b : Bool) → is_key key_a key ≡ b → key ≡ key_a
    by true is = sym (key_is key_a key is)
    by false is =
        let known : sealed_entry_of synced_state key ≡ None = get_with finite.empty key_a (Found [] first_moment, Seen) key ∙ ap (λ (b : Bool). cond b (Some (Found [] first_moment, Seen)) (sealed_entry_of start key)) is ∙ finite.get-empty order key in
        absurd (none-some stored (sym (documents_local synced_state key ∙ ap stored_by known) ∙ there))

-- ---- stances

abbrev pub waiting_stance : Stance
waiting_stance = record { target = Some (pos 2); standing = record { current = false; keys = [] }; offline = false }

abbrev pub synced_stance : Stance
synced_stance = record { target = Some (pos 2); standing = current_with (key_a ∷ []); offline = false }

-- no key is in limbo, and a snapshot is raised or not
no_limbo : Vec (List (List ℕ))
no_limbo = record { ptr = null_ptr; len = 0; cap = 0; alloc = record { memory = record { seal = tt } }; items = []; ok = (refl, omega arith); small = omega arith }

refreshed : Bool → Refresh
refreshed raises = record { raised = raises; limbo = no_limbo }

-- ---- while it waits

blank_row : (row : Row) (place : ℕ) → slice_get (blank query ∷ []) place ≡ Some row → IsSome row.held → ⊥
blank_row row zero there held = let same : blank query ≡ row = cc in let none : IsSome (blank query).held = subst (λ (r : Row). IsSome r.held) (sym same) held in false≢true none
blank_row row (suc k) there held = none-some row there

not_held : IsHeldFor listening_state.rows (Some (pos 2)) → ⊥
not_held it = blank_row it.row it.of_id.place it.of_id.there it.held

pub shows_waiting : Shows root listening_state waiting_stance waiting_view None
unfolding refreshed no_limbo
shows_waiting = record {
  may_start = false;
  start = (λ is. absurd (false≢true is), λ it. absurd (⊎_elim not_held (λ is. false≢true is) it));
  new = waiting_view;
  refresh = refreshed false;
  refreshes = record {
    answer = [];
    from_cache = true;
    is_answer = none_answered (documents_of listening_state) none_there;
    limbo = none;
    flag = (λ is. absurd (true≢false is), λ it. absurd (false≢true it.0));
    wanted = λ is. absurd (false≢true is);
    unwanted = λ is it. ⊎_elim true≢false (λ other. ⊎_elim (λ some. some refl) false≢true other) it;
    target = refl;
    raised = λ is. absurd (false≢true is);
    kept = λ is. refl;
    shows = tt;
  };
  is = refl;
}

pub waiting_limbo : (key : Key) → ShowsInLimbo root listening_state waiting_stance key waiting_view → ⊥
waiting_limbo key it = false≢true it.limbo.current

-- ---- behind the point

held_row : IsHeldFor synced_state.rows (Some (pos 2))
held_row = record { row = record { target = query; held = Some (record { token = 1 ∷ []; version = second_moment; keys = key_a ∷ [] }) }; of_id = record { place = 0; is = refl; there = refl }; held = refl }

not_in_limbo : IsInLimbo synced_stance.standing (touched_keys_of synced_state) key_a → ⊥
not_in_limbo it = it.not_told (0, omega arith, refl)

changes : HasChanges [] raised.rows raised.changes
changes = record {
  removed = [];
  added = row key_a stored_a ∷ [];
  modified = [];
  removed_are = none;
  added_are = takes (row key_a stored_a) [] [] (λ there. none_in key_a there) none;
  modified_are = leaves (row key_a stored_a) [] [] (λ it. none_in (row key_a it.document) it.there) none;
  in_order = refl;
}

prints : Prints (documents_of synced_state) (key_a ∷ []) raised.rows
prints = record { keys = refl; each_printed = All-cons (IsPrinted (documents_of synced_state)) (row key_a stored_a) [] (ap (option_map printed) one_there) (All-nil (IsPrinted (documents_of synced_state))) }

pub shows_synced : Shows root synced_state synced_stance waiting_view (Some raised)
unfolding refreshed no_limbo
shows_synced = record {
  may_start = true;
  start = (λ is. inl held_row, λ it. refl);
  new = synced_view;
  refresh = refreshed true;
  refreshes = record {
    answer = key_a ∷ [];
    from_cache = false;
    is_answer = one_answered (documents_of synced_state) one_there only_there;
    limbo = leaves key_a [] [] not_in_limbo none;
    flag = (λ is. (refl, refl), λ it. refl);
    wanted = λ is. inl refl;
    unwanted = λ is. absurd (true≢false is);
    target = refl;
    raised = λ is. record { raised = raised; is = refl; changes = changes };
    kept = λ is. absurd (true≢false is);
    shows = record { rows = prints; flag = refl };
  };
  is = refl;
}

pub synced_limbo : (key : Key) → ShowsInLimbo root synced_state synced_stance key synced_view → ⊥
synced_limbo key it = let found = ((it.is_answer.members key).0 it.shown).0 in it.limbo.not_told (0, omega arith, sym (only_there key found.stored found.there))
