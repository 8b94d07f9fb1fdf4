-- overlays worked out one by one
use Rattle.std.proofs.Common.{◌≡◌, ◌∙◌, ◌<◌, ◌+◌, ◌↔◌, ℕ, Bool, true, false, cond, not, IsTrue, List, [], ◌∷◌, ◌++◌, map, take, length, get_or, Option, Some, append-nil, refl, sym, ap, subst}
use Rattle.std.specs.List.{Contains, filter, slice_get}
use Rattle.std.proofs.lemmas.Option.{same_Some}
use Rattle.key_table.specs.Table.{KeepsKeys, has_key}
use Rattle.durable_state.specs.Cached.{first_writes}
use Rattle.std.proofs.lemmas.List.{map-append, take_more}
use Rattle.std.proofs.lemmas.List.Elements.{All-nil, All-push, filter-append}
use Rattle.mutation_queue.specs.Queue.{named_keys}
use Rattle.overlays.specs.Table.{Table}
use Rattle.overlays.specs.declared.overlays.Overlay.{Overlay}
use Rattle.durable_state.specs.Documents.{is_among}
use Rattle.durable_state.specs.Ready.{HasDocument, LaysKeys, Settles}
use Rattle.durable_state.specs.declared.relaying.Relaid.{Relaid}
use Rattle.overlays.specs.LocalDocument.{base_of, local_document}
use Rattle.mutations.specs.declared.batch.Batch.{Batch}
use Rattle.value_model.specs.declared.document.Document.{Document}
use Rattle.value_model.specs.declared.document.Entry.{Entry}
use Rattle.durable_state.proofs.Laid.{among_in, in_among, not_so}

-- whether a key is among others, as it was told
pub told_among : (told : Bool) (keys : List (List (List ℕ))) (key : List (List ℕ)) → IsTrue told ↔ Contains keys key → is_among keys key ≡ told
told_among true keys key is = in_among key keys (is.0 refl)
told_among false keys key is = not_so (is_among keys key) (λ there. let wrong = is.1 (among_in key keys there) in cc)

module _ (Right : Overlay → Type 0) where
  -- one overlay more
  pub laid_more : (before after : Table) (keys : List (List (List ℕ))) (os more : List Overlay) (o : Overlay) (key : List (List ℕ)) → more ≡ os ++ o ∷ [] → o.key ≡ key → KeepsKeys before after → IsTrue (has_key after key) → Right o
      → LaysKeys before Right keys os → LaysKeys after Right (keys ++ key ∷ []) more
  laid_more before after keys os more o key pushed named keeps place right so_far = subst (LaysKeys after Right (keys ++ key ∷ [])) (sym pushed) (record {
    of_keys = map-append (λ (x : Overlay). x.key) os (o ∷ []) ∙ ap (λ l. l ++ o.key ∷ []) so_far.of_keys ∙ ap (λ k. keys ++ k ∷ []) named;
    right = All-push Right os o so_far.right right;
    places = All-push (λ x. IsTrue (has_key after x.key)) os o (λ k d below. keeps _ (so_far.places k d below)) (subst (λ k. IsTrue (has_key after k)) (sym named) place);
  })

  pub laid_same : (table : Table) (keys others : List (List (List ℕ))) (os more : List Overlay) → more ≡ os → others ≡ keys → LaysKeys table Right keys os → LaysKeys table Right others more
  laid_same table keys others os more same keys_same so_far = subst (λ (l : List (List (List ℕ))). LaysKeys table Right l more) (sym keys_same) (subst (LaysKeys table Right keys) (sym same) so_far)

pub none_laid : (table : Table) (Right : Overlay → Type 0) (os : List Overlay) → os ≡ [] → LaysKeys table Right [] os
none_laid table Right os none = subst (LaysKeys table Right []) (sym none) (record { of_keys = refl; right = All-nil Right; places = All-nil (λ o. IsTrue (has_key table o.key)) })

-- ---- the keys of one item more

module _ {X : Type 0} (key : X → List (List ℕ)) (xs : List X) (i : ℕ) (x : X) (below : i < length xs) (item : x ≡ get_or xs i x) where
  pub keys_more : map key (take (i + 1) xs) ≡ map key (take i xs) ++ key x ∷ []
  keys_more = ap (map key) (take_more xs i x below ∙ ap (λ y. take i xs ++ y ∷ []) (sym item)) ∙ map-append key (take i xs) (x ∷ [])

  pub passes_more : (p : List (List ℕ) → Bool) → p (key x) ≡ true → filter p (map key (take (i + 1) xs)) ≡ filter p (map key (take i xs)) ++ key x ∷ []
  passes_more p passed = ap (filter p) keys_more ∙ filter-append p (map key (take i xs)) (key x ∷ []) ∙ ap (λ b. filter p (map key (take i xs)) ++ cond b (key x ∷ []) []) passed

  pub passes_still : (p : List (List ℕ) → Bool) → p (key x) ≡ false → filter p (map key (take (i + 1) xs)) ≡ filter p (map key (take i xs))
  passes_still p failed = ap (filter p) keys_more ∙ filter-append p (map key (take i xs)) (key x ∷ []) ∙ ap (λ b. filter p (map key (take i xs)) ++ cond b (key x ∷ []) []) failed ∙ append-nil (filter p (map key (take i xs)))

pub head_writes : (bs : List Batch) (b : Batch) → Some b ≡ slice_get bs 0 → b.writes ≡ first_writes bs
head_writes [] b is = cc
head_writes (first ∷ bs) b is = ap (λ (x : Batch). x.writes) (same_Some b first is)

-- ---- what becomes of a key once the first batch has left

pub settled : (before after : Table) (batches : List Batch) (document : List (List ℕ) → Option Document) (key : List (List ℕ)) (entry : Option Entry) (old new : Relaid) (laid lifted : List (List (List ℕ)))
    → Settles after batches key entry old new → KeepsKeys before after → document key ≡ local_document key (base_of entry) batches
    → LaysKeys before (HasDocument document) laid old.laid.items → old.lifted.items ≡ lifted
    → LaysKeys after (HasDocument document) (laid ++ cond (is_among (named_keys batches) key) (key ∷ []) []) new.laid.items
    × (new.lifted.items ≡ lifted ++ cond (not (is_among (named_keys batches) key)) (key ∷ []) [])
settled before after batches document key entry old new laid lifted (Settles.laid o named same pushed of_key right place) keeps is so_far gone = (
  subst (λ b. LaysKeys after (HasDocument document) (laid ++ cond b (key ∷ []) []) new.laid.items) (sym named)
      (laid_more (HasDocument document) before after laid old.laid.items new.laid.items o key pushed of_key keeps place (right ∙ sym is ∙ ap document (sym of_key)) so_far),
  same ∙ gone ∙ sym (append-nil lifted) ∙ ap (λ b. lifted ++ cond (not b) (key ∷ []) []) (sym named),
)
settled before after batches document key entry old new laid lifted (Settles.lifted unnamed same pushed) keeps is so_far gone = (
  subst (λ b. LaysKeys after (HasDocument document) (laid ++ cond b (key ∷ []) []) new.laid.items) (sym unnamed)
      (laid_same (HasDocument document) after laid (laid ++ []) old.laid.items new.laid.items same (append-nil laid)
      (record { of_keys = so_far.of_keys; right = so_far.right; places = λ k d below. keeps _ (so_far.places k d below) })),
  pushed ∙ ap (λ l. l ++ key ∷ []) gone ∙ ap (λ b. lifted ++ cond (not b) (key ∷ []) []) (sym unnamed),
)

-- ---- the same of keys themselves

module _ (keys : List (List (List ℕ))) (i : ℕ) (key : List (List ℕ)) (below : i < length keys) (item : key ≡ get_or keys i key) (p : List (List ℕ) → Bool) where
  one_more : filter p (take (i + 1) keys) ≡ filter p (take i keys) ++ cond (p key) (key ∷ []) []
  one_more = ap (filter p) (take_more keys i key below ∙ ap (λ y. take i keys ++ y ∷ []) (sym item)) ∙ filter-append p (take i keys) (key ∷ [])

  pub passes_more_itself : p key ≡ true → filter p (take (i + 1) keys) ≡ filter p (take i keys) ++ key ∷ []
  passes_more_itself passed = one_more ∙ ap (λ b. filter p (take i keys) ++ cond b (key ∷ []) []) passed

  pub passes_still_itself : p key ≡ false → filter p (take (i + 1) keys) ≡ filter p (take i keys)
  passes_still_itself failed = one_more ∙ ap (λ b. filter p (take i keys) ++ cond b (key ∷ []) []) failed ∙ append-nil (filter p (take i keys))
