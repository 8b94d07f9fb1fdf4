-- what counts is live
use Rattle.std.proofs.Common.{◌≡◌, ◌≢◌, ℤ, true, false, ◌||◌, not, eqb, [], ◌∷◌, refl}
use Rattle.std.specs.Ordering.{int_eq}
use Rattle.std.proofs.lemmas.Bool.{and_parts, not-true, eqb-true, false_from_ne_true}
use Rattle.std.proofs.lemmas.Bool.Decides.{Decides-int_eq}
use Rattle.listen_protocol.specs.Calls.{Calls, asked, unasked, came, applied, skipped, changes, is_add}
use Rattle.listen_protocol.specs.Transcript.{open_count, is_wanted, is_asked_in, is_live, counts}
use Rattle.listen_protocol.specs.Laws.{CountingIsLive}

pub same_id : (t : ℤ) → int_eq t t ≡ true
same_id t = (Decides-int_eq t t).1 refl

pub other_id : (t id : ℤ) → t ≢ id → int_eq t id ≡ false
other_id t id apart = false_from_ne_true (int_eq t id) (λ same. apart ((Decides-int_eq t id).0 same))

-- what counts has one open incarnation, without a remove request
pub counts_live : (t : ℤ) (h : Calls) → counts t h ≡ true → (is_wanted t h ≡ true) × (open_count t h ≡ 1)
counts_live t [] c = cc
counts_live t (asked id keys document ∷ h) c =
    let p = and_parts (not (int_eq t id)) (counts t h) c in
    let e = not-true (int_eq t id) p.0 in
    rw e (counts_live t h p.1)
counts_live t (unasked id ∷ h) c =
    let p = and_parts (not (int_eq t id)) (counts t h) c in
    let e = not-true (int_eq t id) p.0 in
    rw e (counts_live t h p.1)
counts_live t (came message ∷ h) c =
    let p = and_parts (is_live t (came message ∷ h)) (counts t h || changes is_add message t) c in
    let q = and_parts (is_wanted t h) (eqb (open_count t (came message ∷ h)) 1) p.0 in
    (q.0, eqb-true (open_count t (came message ∷ h)) 1 q.1)
counts_live t (applied ∷ h) c = counts_live t h c
counts_live t (skipped ∷ h) c = counts_live t h c

live_is_asked : (t : ℤ) (h : Calls) → is_live t h ≡ true → is_asked_in t h ≡ true
live_is_asked t h live =
    let p = and_parts (is_wanted t h) (eqb (open_count t h) 1) live in
    let one = eqb-true (open_count t h) 1 p.1 in
    rw (p.0, one) refl

pub counting_law : CountingIsLive
counting_law = record {
  live = λ t h counted. let p = counts_live t h counted in rw (p.0, p.1) refl;
  is_asked = live_is_asked;
}
