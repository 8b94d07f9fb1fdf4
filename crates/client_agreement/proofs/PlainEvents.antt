-- the events that are no messages, as allowed turns
use Rattle.std.proofs.Common.{◌≡◌, ℕ, pos, Bool, true, false, List, [], ◌∷◌, ◌++◌, length, Option, Some, None, if◌then◌else◌, refl, sym, ap, ◌∙◌}
use Rattle.std.proofs.lemmas.Option.{none-some}
use Rattle.std.specs.Prelude.{option_map, option_and_then}
use Rattle.std.specs.Ordering.{int_eq}
use Rattle.agreement.proofs.Counting.{same_id-true}
use Rattle.agreement.specs.Backend.{Id, Key, Setting}
use Rattle.agreement.specs.Client.{Acks, Aims, Breaks, Client, after as after_turn}
use Rattle.agreement.specs.Entries as agreed
use Rattle.agreement.specs.MessageTurns.{has}
use Rattle.agreement.specs.Transcript.{Cut, is_asked}
use Rattle.durable_state.specs.State.{State, committed}
use Rattle.mutations.specs.declared.batch.Batch.{Batch}
use Rattle.mutations.specs.declared.results.WriteResult.{WriteResult}
use Rattle.queries.specs.declared.target.Target.{Target}
use Rattle.record_codec.specs.declared.commit.Commit.TheVariants.{Acknowledge, Allocate, Enqueue, Reject}
use Rattle.target_cache.specs.Cache.{IsRow, blank, id_at}
use Rattle.target_cache.specs.declared.row.Row.{Row}
use Rattle.value_model.specs.declared.timestamp.Timestamp.{Timestamp}
use Rattle.client_turns.specs.Past.{Past}
use Rattle.client_turns.specs.Settling.{HasTargetRow}
use Rattle.client_turns.specs.Watching.{WatchStep, closes, current_keys, hears, opens, passes, rings}
use Rattle.client_agreement.proofs.GoingOut.{TakenBy}
use Rattle.client_agreement.proofs.EventKinds.{IsBreak, IsIdle}
use Rattle.client_agreement.proofs.Reaching.{Reaches, reach_one}
use Rattle.client_agreement.specs.Durable.{entry_at, row_of, tuple_at, tuple_in}
use Rattle.client_agreement.specs.Standing.{StandsAs}

module _ (s : Setting) (c : Client) (state : State) (past : Past) (stands : StandsAs c state past) (wanted : Id → Bool) (resets : Id → Bool) where
  -- nothing that concerns the backend's documents
  pub idle_taken : (step : WatchStep) → IsIdle step → TakenBy c state wanted step None resets past
  idle_taken opens idle = absurd idle
  idle_taken closes idle = absurd idle
  idle_taken (hears m) idle = absurd idle
  idle_taken rings idle = record {
    entry = stands.entry;
    read = stands.read;
    rows = record { row = stands.row; target = stands.target };
    current = λ id is. stands.current id;
    buffer = stands.buffer;
    past = stands.past;
  }
  idle_taken passes idle = record {
    entry = stands.entry;
    read = stands.read;
    rows = record { row = stands.row; target = stands.target };
    current = λ id is. stands.current id;
    buffer = stands.buffer;
    past = stands.past;
  }

  -- an open or a close
  pub break_taken : (step : WatchStep) → IsBreak step → TakenBy (after_turn s Breaks c) state wanted step None resets past
  break_taken opens is = record {
    entry = stands.entry;
    read = stands.read;
    rows = record { row = stands.row; target = stands.target };
    current = λ id wants. stands.current id;
    buffer = λ key. refl;
    past = ap (λ x. Cut ∷ x) stands.past;
  }
  break_taken closes is = record {
    entry = stands.entry;
    read = stands.read;
    rows = record { row = stands.row; target = stands.target };
    current = λ id wants. stands.current id;
    buffer = λ key. refl;
    past = ap (λ x. Cut ∷ x) stands.past;
  }
  break_taken (hears m) is = absurd is
  break_taken rings is = absurd is
  break_taken passes is = absurd is

  -- a batch joins, or is rejected
  pub enqueue_taken : (batch : Batch) → TakenBy c (committed state (Enqueue batch)) wanted passes (Some (Enqueue batch)) resets past
  enqueue_taken batch = record {
    entry = stands.entry;
    read = stands.read;
    rows = record { row = stands.row; target = stands.target };
    current = λ id is. stands.current id;
    buffer = stands.buffer;
    past = stands.past;
  }

  pub reject_taken : (id : ℕ) → TakenBy c (committed state (Reject id)) wanted passes (Some (Reject id)) resets past
  reject_taken batch = record {
    entry = stands.entry;
    read = stands.read;
    rows = record { row = stands.row; target = stands.target };
    current = λ id is. stands.current id;
    buffer = stands.buffer;
    past = stands.past;
  }

  -- an acknowledgement
  pub ack_taken : (id : ℕ) (at : Timestamp) (results : List WriteResult) (new : Key → Option agreed.Entry)
      → ((key : Key) → entry_at (committed state (Acknowledge id at results)) key ≡ agreed.acked (entry_at state key) (new key))
      → TakenBy (after_turn s (Acks new) c) (committed state (Acknowledge id at results)) wanted passes (Some (Acknowledge id at results)) resets past
  ack_taken id at results new acks = record {
    entry = λ key. ap (λ (o : Option agreed.Entry). agreed.acked o (new key)) (stands.entry key) ∙ sym (acks key);
    read = stands.read;
    rows = record { row = stands.row; target = stands.target };
    current = λ id is. stands.current id;
    buffer = stands.buffer;
    past = stands.past;
  }

  -- a target gets a row
  module _ (query : Target)
      (allocated : (id : Id) → row_of (state.rows ++ blank query ∷ []) id ≡ (if int_eq id (pos (id_at (length state.rows))) then Some (blank query) else row_of state.rows id))
      (row_back : (rows : List Row) (id : Id) (row : Row) → row_of rows id ≡ Some row → IsRow rows id row)
      (row_there : (rows : List Row) (id : Id) (row : Row) → IsRow rows id row → row_of rows id ≡ Some row)
      (new : row_of state.rows (pos (id_at (length state.rows))) ≡ None) where
    abbrev id : Id
    id = pos (id_at (length state.rows))

    alloc_tuple : (i : Id) → tuple_at state.rows i ≡ tuple_at (state.rows ++ blank query ∷ []) i
    alloc_tuple i = sym (ap (option_and_then tuple_in) (allocated i) ∙ by (int_eq i id) refl)
      where
        by : (b : Bool) → int_eq i id ≡ b → option_and_then tuple_in (if b then Some (blank query) else row_of state.rows i) ≡ tuple_at state.rows i
        by true is = sym (ap (λ (x : Id). tuple_at state.rows x) (same_id-true i id is) ∙ ap (option_and_then tuple_in) new)
        by false is = refl

    alloc_target : (i : Id) (row : Row) → IsRow (state.rows ++ blank query ∷ []) i row → (after_turn s (Aims id query) c).target i ≡ row.target
    alloc_target i row is = by (int_eq i id) refl (sym (allocated i) ∙ row_there (state.rows ++ blank query ∷ []) i row is)
      where
        by : (b : Bool) → int_eq i id ≡ b → (if b then Some (blank query) else row_of state.rows i) ≡ Some row → (if int_eq i id then query else c.target i) ≡ row.target
        by true same found = ap (λ (b : Bool). if b then query else c.target i) same ∙ of_row row found
          where
            of_row : (r : Row) → Some (blank query) ≡ Some r → query ≡ r.target
            of_row r found = let both : blank query ≡ r = cc in ap (λ (x : Row). x.target) both
        by false same found = ap (λ (b : Bool). if b then query else c.target i) same ∙ stands.target i row (row_back state.rows i row found)

    pub alloc_taken : TakenBy (after_turn s (Aims id query) c) (committed state (Allocate (id_at (length state.rows)) query)) wanted passes (Some (Allocate (id_at (length state.rows)) query)) resets past
    alloc_taken = record {
      entry = stands.entry;
      read = stands.read;
      rows = record { row = λ i. stands.row i ∙ alloc_tuple i; target = alloc_target };
      current = λ id is. stands.current id;
      buffer = stands.buffer;
      past = stands.past;
    }

    -- nothing uses the id
    pub alloc_reached : (current_row : (t : Id) (keys : _) → current_keys t past ≡ Some keys → HasTargetRow state.rows t)
        → is_asked id c.past ≡ false → Reaches s c (after_turn s (Aims id query) c)
    alloc_reached current_row off = reach_one s c (Aims id query) (stands.row id ∙ ap (option_and_then tuple_in) new, stands.current id ∙ none (current_keys id past) refl, off)
      where
        none : (o : Option _) → current_keys id past ≡ o → option_map has o ≡ None
        none None is = refl
        none (Some keys) is = let it = current_row id keys is in absurd (none-some _ (sym new ∙ row_there state.rows id it.0 it.1))
