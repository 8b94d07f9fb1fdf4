-- batches that don't name a key leave its document
use Rattle.std.proofs.Common.{◌≡◌, ◌∙◌, ◌||◌, ◌<◌, ◌≤◌, ◌+◌, ℕ, Bool, true, false, cond, List, [], ◌∷◌, length, take, drop, get_or, fold, Option, refl, sym, ap}
use Rattle.std.proofs.lemmas.Grind.{fold-append}
use Rattle.std.proofs.lemmas.List.{drop_all, drop_more, take_more}
use Rattle.document_keys.specs.KeySet.{is_key}
use Rattle.keyed_writes.specs.Keyed.{IsNext}
use Rattle.mutations.specs.Written.{written_key}
use Rattle.keyed_writes.proofs.Passing.{same_up_to}
use Rattle.value_model.specs.declared.document.Document.{Document}
use Rattle.value_model.specs.declared.timestamp.Timestamp.{Timestamp}
use Rattle.mutations.specs.declared.batch.Batch.{Batch}
use Rattle.mutations.specs.declared.write.Write.{Write}
use Rattle.mutations.specs.Local.{effect}
use Rattle.mutation_queue.specs.Places.{is_among}
use Rattle.mutation_queue.specs.Queue.{keys_of, names, naming}
use Rattle.overlays.specs.LocalDocument.{after_write, after_batch, local_document}

-- no write of the key
not_written : (key : List (List ℕ)) (at : Timestamp) (ws : List Write) (d : Option Document) → is_among (keys_of ws) key ≡ false → fold (after_write key at) d ws ≡ d
not_written key at [] d none = refl
not_written key at (w ∷ ws) d none = by (is_key (written_key w) key) none (not_written key at ws d)
  where
    by : (b : Bool) → (b || is_among (keys_of ws) key) ≡ false → (is_among (keys_of ws) key ≡ false → fold (after_write key at) d ws ≡ d) → fold (after_write key at) (cond b (effect d w at) d) ws ≡ d
    by true none rest = cc
    by false none rest = rest none

-- the batches that name the key make its document
pub local_naming : (key : List (List ℕ)) (bs : List Batch) (d : Option Document) → local_document key d (naming key bs) ≡ local_document key d bs
local_naming key [] d = refl
local_naming key (b ∷ bs) d = by (names key b) refl (local_naming key bs (after_batch key d b)) (local_naming key bs d)
  where
    by : (c : Bool) → names key b ≡ c → local_document key (after_batch key d b) (naming key bs) ≡ local_document key (after_batch key d b) bs → local_document key d (naming key bs) ≡ local_document key d bs → local_document key d (cond c (b ∷ naming key bs) (naming key bs)) ≡ local_document key (after_batch key d b) bs
    by true e here past = here
    by false e here past = past ∙ ap (λ x. local_document key x bs) (sym (not_written key b.at b.writes d e))

-- one write more
pub written_more : (key : List (List ℕ)) (at : Timestamp) (d : Option Document) (ws : List Write) (i : ℕ) (w : Write) → i < length ws → w ≡ get_or ws i w → after_write key at (fold (after_write key at) d (take i ws)) w ≡ fold (after_write key at) d (take (i + 1) ws)
written_more key at d ws i w below is =
    ap (after_write key at (fold (after_write key at) d (take i ws))) is ∙ sym (ap (fold (after_write key at) d) (take_more ws i w below) ∙ fold-append (after_write key at) d (take i ws) (get_or ws i w ∷ []))

-- ---- the writes of one key

-- one write of the key is laid on
pub written_on : (key : List (List ℕ)) (at : Timestamp) (ws : List Write) (i : ℕ) (w : Write) (d after whole : Option Document) → i < length ws → w ≡ get_or ws i w → is_key (written_key w) key ≡ true → after ≡ effect d w at
    → fold (after_write key at) d (drop i ws) ≡ whole → fold (after_write key at) after (drop (i + 1) ws) ≡ whole
written_on key at ws i w d after whole below is named applied so_far =
    ap (λ x. fold (after_write key at) x (drop (i + 1) ws)) (applied ∙ ap (λ b. cond b (effect d w at) d) (sym named))
    ∙ ap (fold (after_write key at) d) (ap (λ x. x ∷ drop (i + 1) ws) is ∙ sym (drop_more ws i w below)) ∙ so_far

-- the writes between two places of the key are of other keys
pub written_up_to : (key : List (List ℕ)) (at : Timestamp) (ws : List Write) (d : Option Document) (from place : ℕ) → IsNext ws key from place → fold (after_write key at) d (drop from ws) ≡ fold (after_write key at) d (drop place ws)
written_up_to key at ws d from place next =
    same_up_to (λ (i : ℕ). fold (after_write key at) d (drop i ws)) ws key from place next
    (λ i w below is other. ap (fold (after_write key at) d) (drop_more ws i w below ∙ ap (λ x. x ∷ drop (i + 1) ws) (sym is))
    ∙ ap (λ b. fold (after_write key at) (cond b (effect d w at) d) (drop (i + 1) ws)) other)

-- past the last write nothing is left to do
pub all_written : (key : List (List ℕ)) (at : Timestamp) (ws : List Write) (d : Option Document) (i : ℕ) → length ws ≤ i → d ≡ fold (after_write key at) d (drop i ws)
all_written key at ws d i past = sym (ap (fold (after_write key at) d) (drop_all i ws past))
