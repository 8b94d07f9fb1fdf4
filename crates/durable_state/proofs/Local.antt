-- the documents of a state are its local documents
use Rattle.std.proofs.Common.{◌≡◌, ◌∙◌, ◌||◌, ℕ, Bool, true, false, cond, List, [], ◌∷◌, ◌++◌, Option, Some, None, refl, sym, ap}
use Rattle.std.specs.FinMap as finite
use Rattle.std.specs.List.{cons_option, filter_map, list_any}
use Rattle.std.specs.Option.{option_map}
use Rattle.document_keys.specs.KeySet.{is_key}
use Rattle.value_model.specs.Documents.{Stored}
use Rattle.value_model.specs.declared.document.Document.{Document}
use Rattle.value_model.specs.declared.document.Entry.{Entry}
use Rattle.value_model.specs.declared.document.Seal.{Seal}
use Rattle.mutation_queue.specs.Queue.{named_keys}
use Rattle.mutation_queue.proofs.Tables.{none_of, one_key}
use Rattle.overlays.specs.LocalDocument.{base_of}
use Rattle.remote_documents.proofs.Maps.{keys_total, order, turned}
use Rattle.durable_state.specs.Documents.{DocumentsAreLocal, document_of, documents_of, entry_of, is_among, is_named, stored}
use Rattle.durable_state.specs.State.{State}
use Rattle.durable_state.proofs.Laid.{among-append, first_false, not_named, second_false}

same_way : {A : Type 0} (c : Bool) (x : A) → cond c x x ≡ x
same_way true x = refl
same_way false x = refl

module _ (document : List (List ℕ) → Option Document) (stands : List (List ℕ) → Document → Stored) (q : List (List ℕ)) where
  abbrev answer : Option Stored
  answer = option_map (stands q) (document q)

  step : (k : List (List ℕ)) (rest : List (List (List ℕ) × Stored)) (c : Bool) (d : Option Document) (b : Bool) → is_key k q ≡ b → document k ≡ d → finite.find order q rest ≡ cond c answer None
      → finite.find order q (cons_option (option_map (λ x. (k, stands k x)) d) rest) ≡ cond (b || c) answer None
  step k rest c None true same is below =
      let none : answer ≡ None = ap (option_map (stands q)) (ap document (sym (one_key k q same)) ∙ is) in
      below ∙ ap (λ a. cond c a None) none ∙ same_way c None ∙ sym none
  step k rest c (Some x) true same is below =
      let here : answer ≡ Some (stands q x) = ap (option_map (stands q)) (ap document (sym (one_key k q same)) ∙ is) in
      ap (λ t. cond t (Some (stands k x)) (finite.find order q rest)) (turned k q ∙ same) ∙ ap (λ key. Some (stands key x)) (one_key k q same) ∙ sym here
  step k rest c None false other is below = below
  step k rest c (Some x) false other is below = ap (λ t. cond t (Some (stands k x)) (finite.find order q rest)) (turned k q ∙ other) ∙ below

  found : (keys : List (List (List ℕ))) → finite.find order q (filter_map (λ k. option_map (λ d. (k, stands k d)) (document k)) keys) ≡ cond (is_among keys q) answer None
  found [] = refl
  found (k ∷ keys) = step k (filter_map (λ x. option_map (λ d. (x, stands x d)) (document x)) keys) (is_among keys q) (document k) (is_key k q) refl refl (found keys)

among_turned : (keys : List (List (List ℕ))) (q : List (List ℕ)) → is_among keys q ≡ list_any (is_key q) keys
among_turned [] q = refl
among_turned (k ∷ keys) q = ap (λ b. b || is_among keys q) (sym (turned k q)) ∙ ap (λ b. is_key q k || b) (among_turned keys q)

-- a key that isn't among those of the entries has none
no_entry : (s : State) (q : List (List ℕ)) → is_among (finite.keys s.entries) q ≡ false → entry_of s q ≡ None
no_entry s q none = ap (option_map (λ (p : Entry × Seal). p.0)) (none_of (finite.get s.entries q) (finite.contains_key-keys s.entries q ∙ sym (among_turned (finite.keys s.entries) q) ∙ none))

-- the local document of a key that no pending write names is that of its entry
pub unnamed_document : (s : State) (q : List (List ℕ)) → is_named s q ≡ false → document_of s q ≡ base_of (entry_of s q)
unnamed_document s q none = not_named q s.batches (base_of (entry_of s q)) none

pub documents_local : DocumentsAreLocal
unfolding documents_of
documents_local s q =
    finite.get-from_entries keys_total (filter_map (λ k. option_map (λ d. (k, stored s k d)) (document_of s k)) keys) q
    ∙ found (document_of s) (stored s) q keys ∙ by (is_among keys q) refl
  where
    keys : List (List (List ℕ))
    keys = named_keys s.batches ++ finite.keys s.entries

    by : (b : Bool) → is_among keys q ≡ b → cond (is_among keys q) (option_map (stored s q) (document_of s q)) None ≡ option_map (stored s q) (document_of s q)
    by true e = ap (λ b. cond b (option_map (stored s q) (document_of s q)) None) e
    by false e =
        let both = sym (among-append (named_keys s.batches) (finite.keys s.entries) q) ∙ e in
        let unnamed = first_false (is_named s q) (is_among (finite.keys s.entries) q) both in
        let nothing = no_entry s q (second_false (is_named s q) (is_among (finite.keys s.entries) q) both) in
        let none : option_map (stored s q) (document_of s q) ≡ None = ap (option_map (stored s q)) (unnamed_document s q unnamed ∙ ap base_of nothing) in
        ap (λ b. cond b (option_map (stored s q) (document_of s q)) None) e ∙ sym none
