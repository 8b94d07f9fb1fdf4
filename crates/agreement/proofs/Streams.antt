-- The events of a stream say of an id what its calls say.
use Rattle.std.proofs.Common.{◌≡◌, ◌∙◌, ◌+◌, ◌-◌, ℕ, zero, suc, pred, ℤ, Bool, true, false, cond, not, ◌&&◌, ◌||◌, ◌==◌, List, [], ◌∷◌, Option, Some, None, refl, sym, ap, arith}
use Rattle.std.specs.Prelude.{if◌then◌else◌}
use Rattle.std.specs.Ordering.{int_eq}
use Rattle.std.specs.Bool.{one_answer}
use Rattle.std.proofs.lemmas.Bool.{eqb-true, false_from_ne_true}
use Rattle.std.proofs.lemmas.Bool.Decides.{Decides-int_eq}
use Rattle.value_model.specs.declared.message.ChangeKind.{ChangeKind}
use Rattle.value_model.specs.declared.message.ChangeKind.TheVariants.{NoChange}
use Rattle.value_model.specs.declared.message.ListenResponse.{ListenResponse}
use Rattle.value_model.specs.declared.message.ListenResponse.TheVariants as sent
use Rattle.listen_protocol.specs.Calls as calls
use Rattle.listen_protocol.specs.Calls.{Calls, asked, unasked, came, applied, skipped, is_of, is_add, is_remove, is_reset}
use Rattle.listen_protocol.specs.Transcript as stream
use Rattle.agreement.specs.Backend.{Id}
use Rattle.agreement.specs.Transcript.{Request, Event, Asked, Unasked, Heard, News, Silent, Out, changes, open_count, is_asked, is_live, counts, start}
use Rattle.agreement.specs.Streams.{message_of, events}
use Rattle.agreement.proofs.Events.{Asks, Unasks, Passes, counts_by, counts_is}

pub flip : (a b : ℤ) → int_eq a b ≡ int_eq b a
flip a b = one_answer {P = a ≡ b} (int_eq a b) (int_eq b a) (Decides-int_eq a b) ((λ yes. sym ((Decides-int_eq b a).0 yes)), (λ same. (Decides-int_eq b a).1 (sym same)))

ne : (a b : ℕ) → (a ≡ b → ⊥) → (a == b) ≡ false
ne a b apart = false_from_ne_true (a == b) (λ yes. apart (eqb-true a b yes))

suc_apart : (n : ℕ) → (suc n == 0) ≡ false
suc_apart n = ne (suc n) 0 (λ e. absurd (omega (arith, e)))

-- a message is a change of the same kind as an event
pub changes_same : (kind : ChangeKind → Bool) (m : ListenResponse) (id : Id) → changes kind id (Heard (message_of m)) ≡ calls.changes kind m id
changes_same kind (sent.Target change) id = refl
changes_same kind (sent.Change change) id = refl
changes_same kind (sent.Delete delete) id = refl
changes_same kind (sent.Remove remove) id = refl
changes_same kind (sent.Filter filter) id = refl

-- what a message is to an id: a change of targets of this kind, or none that does anything
abbrev pub sort_of : ListenResponse → Id → ChangeKind
sort_of (sent.Target change) id = cond (is_of change.target_ids id) change.kind NoChange
sort_of _ id = NoChange

sorted_by : (kind : ChangeKind → Bool) → kind NoChange ≡ false → (k : ChangeKind) (b : Bool) → (kind k && b) ≡ kind (cond b k NoChange)
sorted_by kind none k true = and_true (kind k)
  where
    and_true : (x : Bool) → (x && true) ≡ x
    and_true true = refl
    and_true false = refl
sorted_by kind none k false = and_false (kind k) ∙ sym none
  where
    and_false : (x : Bool) → (x && false) ≡ false
    and_false true = refl
    and_false false = refl

pub sorted : (kind : ChangeKind → Bool) → kind NoChange ≡ false → (m : ListenResponse) (id : Id) → calls.changes kind m id ≡ kind (sort_of m id)
sorted kind none (sent.Target change) id = sorted_by kind none change.kind (is_of change.target_ids id)
sorted kind none (sent.Change change) id = sym none
sorted kind none (sent.Delete delete) id = sym none
sorted kind none (sent.Remove remove) id = sym none
sorted kind none (sent.Filter filter) id = sym none

pub heard_sorted : (kind : ChangeKind → Bool) → kind NoChange ≡ false → (m : ListenResponse) (id : Id) → changes kind id (Heard (message_of m)) ≡ kind (sort_of m id)
heard_sorted kind none m id = changes_same kind m id ∙ sorted kind none m id

-- the start that such a message makes
abbrev pub started_by : ChangeKind → Bool → Option News
started_by k counting = cond (is_add k && not counting) (Some Silent) (cond (is_reset k) (Some Out) None)

-- open incarnations
open_asked : (b : Bool) (n : ℕ) → cond b (suc n) n ≡ (if b then n + 1 else n)
open_asked true n = omega arith
open_asked false n = refl

pred_is : (n : ℕ) → pred n ≡ n - 1
pred_is zero = refl
pred_is (suc n) = omega arith

open_came : (b : Bool) (n : ℕ) → cond b (pred n) n ≡ (if b then n - 1 else n)
open_came true n = pred_is n
open_came false n = refl

-- what is asked
asked_step : (b w : Bool) (n : ℕ) → (b || (w && not (n == 0))) ≡ ((b || w) && not ((if b then n + 1 else n) == 0))
asked_step true w n = sym (rw (ne (n + 1) 0 (λ e. absurd (omega (arith, e)))) refl)
asked_step false w n = refl

unasked_step : (b w z : Bool) → (not b && (w && z)) ≡ ((not b && w) && z)
unasked_step true w z = refl
unasked_step false w z = refl

kept_true : (x : Bool) → (x && true) ≡ x
kept_true true = refl
kept_true false = refl

stop_step : (w : Bool) (n : ℕ) → ((w && not (n == 0)) && not (n == 1)) ≡ (w && not ((n - 1) == 0))
stop_step true zero = refl
stop_step false n = refl
stop_step true (suc zero) = refl
stop_step true (suc (suc n)) = rw (ne (suc (suc n)) 1 (λ e. absurd (omega (arith, e))), suc_apart (suc n), ne (suc (suc n) - 1) 0 (λ e. absurd (omega (arith, e)))) refl

came_step : (b w : Bool) (n : ℕ) → ((w && not (n == 0)) && not (b && (n == 1))) ≡ (w && not ((if b then n - 1 else n) == 0))
came_step true w n = stop_step w n
came_step false w n = kept_true (w && not (n == 0))

live_step : (w : Bool) (n : ℕ) → ((w && not (n == 0)) && (n == 1)) ≡ (w && (n == 1))
live_step false n = refl
live_step true zero = refl
live_step true (suc n) = rw (suc_apart n) refl

-- what counts
asked_counts : (b live c : Bool) → counts_by (if b then Asks else Passes) live c ≡ (not b && c)
asked_counts true live c = refl
asked_counts false live c = refl

unasked_counts : (b live c : Bool) → counts_by (if b then Unasks else Passes) live c ≡ (not b && c)
unasked_counts true live c = refl
unasked_counts false live c = refl

both_same : {a b c d : Bool} → a ≡ b → c ≡ d → (a && c) ≡ (b && d)
both_same {a} {b} {c} {d} p q = ap (λ (x : Bool). x && c) p ∙ ap (λ (x : Bool). b && x) q

either_same : {a b c d : Bool} → a ≡ b → c ≡ d → (a || c) ≡ (b || d)
either_same {a} {b} {c} {d} p q = ap (λ (x : Bool). x || c) p ∙ ap (λ (x : Bool). b || x) q

module _ (opening : Calls → Request) (older : List Event) (id : Id) where
  pub open_same : (h : Calls) → open_count id (events opening older h) ≡ stream.open_count id h
  open_same [] = refl
  open_same (asked i keys document ∷ h) = rw (flip i id, open_same h) (open_asked (int_eq id i) (stream.open_count id h))
  open_same (unasked i ∷ h) = open_same h
  open_same (came m ∷ h) = rw (changes_same is_remove m id, open_same h) (open_came (calls.changes is_remove m id) (stream.open_count id h))
  open_same (applied ∷ h) = open_same h
  open_same (skipped ∷ h) = open_same h

  pub asked_same : (h : Calls) → is_asked id (events opening older h) ≡ stream.is_asked_in id h
  asked_same [] = refl
  asked_same (asked i keys document ∷ h) = rw (flip i id, asked_same h) (asked_step (int_eq id i) (stream.is_wanted id h) (stream.open_count id h))
  asked_same (unasked i ∷ h) = rw (asked_same h) (unasked_step (int_eq id i) (stream.is_wanted id h) (not (stream.open_count id h == 0)))
  asked_same (came m ∷ h) = rw (changes_same is_remove m id, open_same h, asked_same h) (came_step (calls.changes is_remove m id) (stream.is_wanted id h) (stream.open_count id h))
  asked_same (applied ∷ h) = asked_same h
  asked_same (skipped ∷ h) = asked_same h

  live_same : (h : Calls) → is_live id (events opening older h) ≡ stream.is_live id h
  live_same h = rw (asked_same h, open_same h) (live_step (stream.is_wanted id h) (stream.open_count id h))

  pub counts_same : (h : Calls) → counts id (events opening older h) ≡ stream.counts id h
  counts_same [] = refl
  counts_same (asked i keys document ∷ h) =
      counts_is id (Asked i (opening (asked i keys document ∷ h))) (events opening older h)
      ∙ rw (flip i id, counts_same h) (asked_counts (int_eq id i) (is_live id (events opening older h)) (stream.counts id h))
  counts_same (unasked i ∷ h) =
      counts_is id (Unasked (λ x. int_eq x i)) (events opening older h)
      ∙ rw (counts_same h) (unasked_counts (int_eq id i) (is_live id (events opening older h)) (stream.counts id h))
  counts_same (came m ∷ h) = both_same (live_same (came m ∷ h)) (either_same (counts_same h) (changes_same is_add m id))
  counts_same (applied ∷ h) = counts_same h
  counts_same (skipped ∷ h) = counts_same h

  -- the start that a message makes
  pub start_same : (m : ListenResponse) (h : Calls) → start id (Heard (message_of m)) (events opening older h) ≡ started_by (sort_of m id) (stream.counts id h)
  start_same m h = rw (heard_sorted is_add refl m id, heard_sorted is_reset refl m id, counts_same h) refl
