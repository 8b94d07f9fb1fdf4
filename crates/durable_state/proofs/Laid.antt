-- overlays that are put in place and taken away
use Rattle.std.proofs.Common.{◌≡◌, ◌∙◌, ◌||◌, ℕ, zero, suc, inl, inr, Bool, true, false, cond, List, [], ◌∷◌, ◌++◌, map, fold, Option, Some, None, refl, sym, ap, subst, append-nil, arith}
use Rattle.std.specs.List.{All, Contains}
use Rattle.std.proofs.lemmas.Grind.{flat_map-append, fold-append}
use Rattle.std.proofs.lemmas.List.Elements.{All-head, All-tail, Contains-append_cases, Contains-append_left, Contains-append_right}
use Rattle.std.proofs.lemmas.List.Folds.{list_any-append}
use Rattle.document_keys.specs.KeySet.{is_key}
use Rattle.value_model.specs.declared.document.Document.{Document}
use Rattle.value_model.specs.declared.timestamp.Timestamp.{Timestamp}
use Rattle.mutations.specs.declared.batch.Batch.{Batch}
use Rattle.mutations.specs.declared.write.Write.{Write}
use Rattle.mutations.specs.Local.{effect}
use Rattle.mutation_queue.specs.Queue.{keys_of, named_keys}
use Rattle.mutations.specs.Written.{written_key}
use Rattle.mutation_queue.proofs.Tables.{one_key, same_itself}
use Rattle.overlays.specs.LocalDocument.{after_write, after_batch, local_document}
use Rattle.overlays.specs.Table.{Table, overlay_of}
use Rattle.overlays.specs.declared.overlays.Overlay.{Overlay}
use Rattle.durable_state.specs.Documents.{document_of, is_among, is_named}
use Rattle.durable_state.specs.Ready.{LaysAnew, lift_over, put_over}
use Rattle.durable_state.specs.State.{State}
use Rattle.durable_state.specs.Tables.{AreLaid, overlay_for}

pub first_false : (a b : Bool) → (a || b) ≡ false → a ≡ false
first_false true b e = cc
first_false false b e = refl

pub second_false : (a b : Bool) → (a || b) ≡ false → b ≡ false
second_false true b e = cc
second_false false b e = e

pub or_false : (a : Bool) → (a || false) ≡ a
or_false true = refl
or_false false = refl

pub or_true : (a : Bool) → (a || true) ≡ true
or_true true = refl
or_true false = refl

pub among-append : (xs ys : List (List (List ℕ))) (key : List (List ℕ)) → is_among (xs ++ ys) key ≡ (is_among xs key || is_among ys key)
among-append xs ys key = list_any-append (λ k. is_key k key) xs ys

-- ---- whether a key is among others

only : (k q : List (List ℕ)) → Contains (k ∷ []) q → k ≡ q
only k q (zero, below, is) = is
only k q (suc i, below, is) = absurd (omega arith)

pub in_among : (q : List (List ℕ)) (keys : List (List (List ℕ))) → Contains keys q → is_among keys q ≡ true
in_among q [] there = absurd (omega (arith, there.1))
in_among q (k ∷ keys) there =
    elim (Contains-append_cases (k ∷ []) keys q there) [
      | inl here ↦ ap (λ b. b || is_among keys q) (subst (λ x. is_key x q ≡ true) (sym (only k q here)) (same_itself q))
      | inr behind ↦ ap (λ b. is_key k q || b) (in_among q keys behind) ∙ or_true (is_key k q)
    ]

pub among_in : (q : List (List ℕ)) (keys : List (List (List ℕ))) → is_among keys q ≡ true → Contains keys q
among_in q [] is = cc
among_in q (k ∷ keys) is = by (is_key k q) refl (among_in q keys) is
  where
    by : (b : Bool) → is_key k q ≡ b → (is_among keys q ≡ true → Contains keys q) → (b || is_among keys q) ≡ true → Contains (k ∷ keys) q
    by true e rest told = Contains-append_left (k ∷ []) keys q (0, omega arith, one_key k q e)
    by false e rest told = Contains-append_right (k ∷ []) keys q (rest told)

pub not_so : (b : Bool) → (b ≡ true → ⊥) → b ≡ false
not_so true never = absurd (never refl)
not_so false never = refl

-- ---- batches that leave a key's document

pub not_written : (key : List (List ℕ)) (at : Timestamp) (ws : List Write) (d : Option Document) → is_among (keys_of ws) key ≡ false → fold (after_write key at) d ws ≡ d
not_written key at [] d none = refl
not_written key at (w ∷ ws) d none =
    let other = first_false (is_key (written_key w) key) (is_among (keys_of ws) key) none in
    let here : after_write key at d w ≡ d = ap (λ b. cond b (effect d w at) d) other in
    ap (λ x. fold (after_write key at) x ws) here ∙ not_written key at ws d (second_false (is_key (written_key w) key) (is_among (keys_of ws) key) none)

pub not_named : (key : List (List ℕ)) (bs : List Batch) (d : Option Document) → is_among (named_keys bs) key ≡ false → local_document key d bs ≡ d
not_named key [] d none = refl
not_named key (b ∷ bs) d none =
    let both = sym (among-append (keys_of b.writes) (named_keys bs) key) ∙ none in
    ap (λ x. local_document key x bs) (not_written key b.at b.writes d (first_false _ (is_among (named_keys bs) key) both)) ∙ not_named key bs d (second_false (is_among (keys_of b.writes) key) _ both)

pub named_more : (bs : List Batch) (b : Batch) → named_keys (bs ++ b ∷ []) ≡ named_keys bs ++ keys_of b.writes
named_more bs b = flat_map-append (λ (x : Batch). keys_of x.writes) bs (b ∷ []) ∙ ap (λ l. named_keys bs ++ l) (append-nil (keys_of b.writes))

pub local_more : (key : List (List ℕ)) (d : Option Document) (bs : List Batch) (b : Batch) → local_document key d (bs ++ b ∷ []) ≡ after_batch key (local_document key d bs) b
local_more key d bs b = fold-append (after_batch key) d bs (b ∷ [])

-- ---- one by one

pub in_the_middle : {X : Type 0} (P : X → Type 0) (whole front behind : List X) (x : X) → whole ≡ front ++ x ∷ behind → All P whole → P x
in_the_middle P whole front behind x split all = at front (subst (All P) split all)
  where
    at : (front : List _) → All P (front ++ x ∷ behind) → P x
    at [] whole = All-head P x behind whole
    at (y ∷ front) whole = at front (All-tail P y (front ++ x ∷ behind) whole)

pub put_more : (q : List (List ℕ)) (found : Option (Option Document)) (os : List Overlay) (o : Overlay) → put_over q found (os ++ o ∷ []) ≡ cond (is_key o.key q) (Some o.document) (put_over q found os)
put_more q found os o = fold-append (λ now x. cond (is_key x.key q) (Some x.document) now) found os (o ∷ [])

pub lift_more : (q : List (List ℕ)) (found : Option (Option Document)) (keys : List (List (List ℕ))) (k : List (List ℕ)) → lift_over q found (keys ++ k ∷ []) ≡ cond (is_key k q) None (lift_over q found keys)
lift_more q found keys k = ap (λ b. cond b None found) (among-append keys (k ∷ []) q ∙ ap (λ b. is_among keys q || b) (or_false (is_key k q))) ∙ by (is_among keys q) (is_key k q)
  where
    by : (a b : Bool) → cond (a || b) None found ≡ cond b None (cond a None found)
    by true true = refl
    by true false = refl
    by false true = refl
    by false false = refl

-- ---- overlays laid anew

abbrev Says : List (List ℕ) → Option Document → List Overlay → Type 0
Says key document os = All (λ o. o.key ≡ key → o.document ≡ document) os

put_same : (key : List (List ℕ)) (document : Option Document) (os : List Overlay) → Says key document os → put_over key (Some document) os ≡ Some document
put_same key document [] says = refl
put_same key document (o ∷ os) says = by (is_key o.key key) refl (put_same key document os (All-tail (λ x. x.key ≡ key → x.document ≡ document) o os says))
  where
    by : (b : Bool) → is_key o.key key ≡ b → put_over key (Some document) os ≡ Some document → put_over key (cond b (Some o.document) (Some document)) os ≡ Some document
    by true e rest = ap (λ d. put_over key (Some d) os) (All-head (λ x. x.key ≡ key → x.document ≡ document) o os says (one_key o.key key e)) ∙ rest
    by false e rest = rest

put_named : (key : List (List ℕ)) (document : Option Document) (found : Option (Option Document)) (os : List Overlay) → Says key document os → is_among (map (λ o. o.key) os) key ≡ true → put_over key found os ≡ Some document
put_named key document found [] says among = cc
put_named key document found (o ∷ os) says among = by (is_key o.key key) refl (put_named key document found os (All-tail (λ x. x.key ≡ key → x.document ≡ document) o os says)) among
  where
    by : (b : Bool) → is_key o.key key ≡ b → (is_among (map (λ x. x.key) os) key ≡ true → put_over key found os ≡ Some document) → (b || is_among (map (λ x. x.key) os) key) ≡ true → put_over key (cond b (Some o.document) found) os ≡ Some document
    by true e rest in_it = ap (λ d. put_over key (Some d) os) (All-head (λ x. x.key ≡ key → x.document ≡ document) o os says (one_key o.key key e)) ∙ put_same key document os (All-tail (λ x. x.key ≡ key → x.document ≡ document) o os says)
    by false e rest in_it = rest in_it

put_others : (key : List (List ℕ)) (found : Option (Option Document)) (os : List Overlay) → is_among (map (λ o. o.key) os) key ≡ false → put_over key found os ≡ found
put_others key found [] none = refl
put_others key found (o ∷ os) none =
    let other = first_false (is_key o.key key) (is_among (map (λ x. x.key) os) key) none in
    ap (λ b. put_over key (cond b (Some o.document) found) os) other ∙ put_others key found os (second_false (is_key o.key key) _ none)

-- some overlay has the key
with_key : (key : List (List ℕ)) (os : List Overlay) → is_among (map (λ o. o.key) os) key ≡ true → (P : List (List ℕ) → Type 0) → All (λ o. P o.key) os → P key
with_key key [] among P each = cc
with_key key (o ∷ os) among P each = by (is_key o.key key) refl (with_key key os) among
  where
    by : (b : Bool) → is_key o.key key ≡ b → (is_among (map (λ x. x.key) os) key ≡ true → (P : List (List ℕ) → Type 0) → All (λ x. P x.key) os → P key) → (b || is_among (map (λ x. x.key) os) key) ≡ true → P key
    by true e rest in_it = subst P (one_key o.key key e) (All-head (λ x. P x.key) o os each)
    by false e rest in_it = rest in_it P (All-tail (λ x. P x.key) o os each)

pub laid_anew : (old new : State) (os : List Overlay) (keys : List (List (List ℕ))) (before after : Table) → LaysAnew old new os keys → AreLaid old before
    → ((q : List (List ℕ)) → overlay_of after q ≡ lift_over q (put_over q (overlay_of before q) os) keys) → AreLaid new after
laid_anew old new os keys before after lays laid put q = put q ∙ by (is_among keys q) refl
  where
    says : Says q (document_of new q) os
    says = λ i d below is. lays.right i d below ∙ ap (document_of new) is

    named : is_among (map (λ o. o.key) os) q ≡ true → is_named new q ≡ true
    named among = with_key q os among (λ k. is_named new k ≡ true) lays.named

    right : (c : Bool) → is_among (map (λ o. o.key) os) q ≡ c → is_among keys q ≡ false → put_over q (overlay_of before q) os ≡ overlay_for new q
    right true among none = put_named q (document_of new q) (overlay_of before q) os says among ∙ sym (ap (λ b. cond b (Some (document_of new q)) None) (named among))
    right false among none = put_others q (overlay_of before q) os among ∙ laid q ∙ sym (lays.others q among none)

    by : (c : Bool) → is_among keys q ≡ c → cond c None (put_over q (overlay_of before q) os) ≡ overlay_for new q
    by true gone = sym (ap (λ b. cond b (Some (document_of new q)) None) (unnamed_at q (among_in q keys gone)))
      where
        unnamed_at : (k : List (List ℕ)) → Contains keys k → is_named new k ≡ false
        unnamed_at k there = subst (λ x. is_named new x ≡ false) there.2 (lays.unnamed there.0 k there.1)
    by false here = right (is_among (map (λ o. o.key) os) q) refl here
