-- what one more message makes of what is kept of one id
use Rattle.std.proofs.Common.{◌≡◌, ◌≢◌, ◌∙◌, inl, inr, ℕ, zero, suc, ◌-◌, ℤ, Bool, true, false, if◌then◌else◌, ◌&&◌, not, eqb, Option, Some, None, List, [], ◌∷◌, refl, sym, ap, subst, arith}
use Rattle.std.proofs.lemmas.Bool.{and_parts, and_from, and_right, not-true, false≢true, true≢false, eqb-true, cases_Bool, ne_eqb, not_from_false}
use Rattle.value_model.specs.declared.message.ListenResponse.{ListenResponse}
use Rattle.value_model.specs.declared.message.ListenResponse.TheVariants as sent
use Rattle.value_model.specs.declared.message.TargetChange.{TargetChange}
use Rattle.value_model.specs.declared.message.ChangeKind.{ChangeKind}
use Rattle.value_model.specs.declared.message.ChangeKind.TheVariants as kind
use Rattle.watch_aggregator.specs.declared.watched.Watched.{Watched}
use Rattle.listen_protocol.specs.Calls.{Key, Calls, came, changes, is_of, is_add, is_remove, is_current, is_reset, token_for}
use Rattle.listen_protocol.specs.Transcript.{open_count, is_wanted, is_asked_in, is_live, counts, token_in, or_else}
use Rattle.listen_protocol.specs.ToldKeys.{named_step, told_keys, told_step}
use Rattle.watch_aggregator.specs.Steps.{HasToken, taken, with_token, turned, changed}
use Rattle.watch_aggregator.specs.Standing.{IsWatched}
use Rattle.listen_protocol.proofs.Ids.{counts_live}

or_else_first : (bytes rest : List ℕ) → bytes ≢ [] → or_else bytes rest ≡ bytes
or_else_first [] rest some = absurd (some refl)
or_else_first (byte ∷ bytes) rest some = refl

-- the token, whatever the last one was
token_step : (tokens : List (List ℕ)) (token was : Option ℕ) (bytes rest : List ℕ) → HasToken tokens token bytes → HasToken tokens was rest → HasToken tokens (taken token was) (or_else bytes rest)
token_step tokens None was bytes rest brings has = subst (λ bs. HasToken tokens was (or_else bs rest)) (sym brings) has
token_step tokens (Some place) was bytes rest brings has = subst (HasToken tokens (Some place)) (sym (or_else_first bytes rest brings.1)) brings

pub and_token : (tokens : List (List ℕ)) (t : ℤ) (h : Calls) (token : Option ℕ) (w : Watched) → IsWatched tokens t h (record w { token = taken token w.token }) → IsWatched tokens t h (with_token token w)
and_token tokens t h None w is = is
and_token tokens t h (Some place) w is = is

lesser : (n : ℕ) → not (eqb (n - 1) 0) ≡ true → not (eqb n 0) ≡ true
lesser zero e = e
lesser (suc n) e = not_from_false (eqb (suc n) 0) (ne_eqb (suc n) 0 (λ same. absurd (omega arith)))

module _ {tokens : List (List ℕ)} {t : ℤ} {h : Calls} {w : Watched} (m : ListenResponse) (token : Option ℕ) (is : IsWatched tokens t h w) (brings : HasToken tokens token (token_for m t)) where
  -- while it counts, what is neither a REMOVE nor a RESET goes on
  on : counts t h ≡ true → changes is_remove m t ≡ false → counts t (came m ∷ h) ≡ true
  on counted no_remove = let live = counts_live t h counted in rw (no_remove, live.0, live.1, counted) refl

  off : counts t h ≡ false → changes is_add m t ≡ false → counts t (came m ∷ h) ≡ false
  off uncounted no_add = rw (uncounted, no_add) (and_right (is_live t (came m ∷ h)) false refl)

  same : changes is_remove m t ≡ false → changes is_add m t ≡ false → counts t (came m ∷ h) ≡ counts t h
  same no_remove no_add = elim (cases_Bool (counts t h)) [
    | inl counted ↦ on counted no_remove ∙ sym counted
    | inr uncounted ↦ off uncounted no_add ∙ sym uncounted
  ]

  token_on : counts t h ≡ true → changes is_reset m t ≡ false → HasToken tokens (taken token w.token) (token_in t (came m ∷ h))
  token_on counted no_reset = rw (counted, no_reset) (token_step tokens token w.token (token_for m t) (token_in t h) brings (is.token counted))

  -- a message that is no change of the id but by its token, and names no key with it
  pub quiet : changes is_remove m t ≡ false → changes is_add m t ≡ false → changes is_current m t ≡ false → changes is_reset m t ≡ false → ((keys : List Key) → told_step m t keys ≡ keys) → IsWatched tokens t (came m ∷ h) (record w { token = taken token w.token })
  quiet no_remove no_add no_current no_reset no_step =
      let counts_same = same no_remove no_add in
      record {
        settled = is.settled;
        count = rw no_remove is.count;
        wants = is.wants;
        counting = is.counting ∙ sym counts_same;
        document = is.document;
        waits = λ asked' uncounted. is.waits (let a : is_asked_in t h ≡ true = rw no_remove at asked' in a) (sym counts_same ∙ uncounted);
        told = λ counted'. let counted = sym counts_same ∙ counted' in rw (counted, no_reset) (is.told counted ∙ sym (no_step (told_keys t h)));
        current = λ counted'. let counted = sym counts_same ∙ counted' in rw (counted, no_reset, no_current) (is.current counted);
        token = λ counted'. token_on (sym counts_same ∙ counted') no_reset;
      }

  -- a CURRENT
  pub current_step : changes is_remove m t ≡ false → changes is_add m t ≡ false → changes is_current m t ≡ true → changes is_reset m t ≡ false → ((keys : List Key) → told_step m t keys ≡ keys) → IsWatched tokens t (came m ∷ h) (record w { current = true; token = taken token w.token })
  current_step no_remove no_add a_current no_reset no_step =
      let counts_same = same no_remove no_add in
      record {
        settled = is.settled;
        count = rw no_remove is.count;
        wants = is.wants;
        counting = is.counting ∙ sym counts_same;
        document = is.document;
        waits = λ asked' uncounted. is.waits (let a : is_asked_in t h ≡ true = rw no_remove at asked' in a) (sym counts_same ∙ uncounted);
        told = λ counted'. let counted = sym counts_same ∙ counted' in rw (counted, no_reset) (is.told counted ∙ sym (no_step (told_keys t h)));
        current = λ counted'. let counted = sym counts_same ∙ counted' in rw (counted, no_reset, a_current) refl;
        token = λ counted'. token_on (sym counts_same ∙ counted') no_reset;
      }

  -- a REMOVE
  pub remove_step : changes is_remove m t ≡ true → changes is_add m t ≡ false → IsWatched tokens t (came m ∷ h) (record w { opened = w.opened - 1; counts = false; token = taken token w.token })
  remove_step a_remove no_add =
      let ends = ended a_remove no_add in
      record {
        settled = is.settled;
        count = rw a_remove (ap (λ n. n - 1) is.count);
        wants = is.wants;
        counting = sym ends;
        document = is.document;
        waits = λ asked' uncounted. is.waits (still a_remove asked') (unless a_remove (counts t h) refl asked');
        told = λ counted'. absurd (false≢true (sym ends ∙ counted'));
        current = λ counted'. absurd (false≢true (sym ends ∙ counted'));
        token = λ counted'. absurd (false≢true (sym ends ∙ counted'));
      }
    where
      ended : changes is_remove m t ≡ true → changes is_add m t ≡ false → counts t (came m ∷ h) ≡ false
      ended a_remove no_add = elim (cases_Bool (counts t h)) [
        | inl counted ↦ let live = counts_live t h counted in rw (a_remove, live.0, live.1) refl
        | inr uncounted ↦ off uncounted no_add
      ]

      still : changes is_remove m t ≡ true → is_asked_in t (came m ∷ h) ≡ true → is_asked_in t h ≡ true
      still a_remove asked' =
          let p : (is_wanted t h ≡ true) × (not (eqb (open_count t h - 1) 0) ≡ true) = and_parts _ _ (rw a_remove at asked') in
          and_from (is_wanted t h) (not (eqb (open_count t h) 0)) p.0 (lesser (open_count t h) p.1)

      unless : changes is_remove m t ≡ true → (b : Bool) → counts t h ≡ b → is_asked_in t (came m ∷ h) ≡ true → b ≡ false
      unless a_remove false is' asked' = refl
      unless a_remove true is' asked' =
          let live = counts_live t h is' in
          let p : (is_wanted t h ≡ true) × (not (eqb (open_count t h - 1) 0) ≡ true) = and_parts _ _ (rw a_remove at asked') in
          absurd (false≢true (rw live.1 at p.1))

  -- a RESET
  pub reset_step : changes is_remove m t ≡ false → changes is_add m t ≡ false → changes is_current m t ≡ false → changes is_reset m t ≡ true → w.counts ≡ true → IsWatched tokens t (came m ∷ h) (record w { told = []; current = false; token = taken token None })
  reset_step no_remove no_add no_current a_reset counting =
      let counted = sym is.counting ∙ counting in
      let counted' = on counted no_remove in
      record {
        settled = is.settled;
        count = rw no_remove is.count;
        wants = is.wants;
        counting = is.counting ∙ counted ∙ sym counted';
        document = is.document;
        waits = λ asked' uncounted. absurd (true≢false (sym counted' ∙ uncounted));
        told = λ c. rw (counted, a_reset) refl;
        current = λ c. rw (counted, a_reset, no_current) refl;
        token = λ c. rw (counted, a_reset) (token_step tokens token None (token_for m t) [] brings refl);
      }

  -- the ADD with which it begins to count
  pub add_step : changes is_remove m t ≡ false → changes is_add m t ≡ true → changes is_current m t ≡ false → changes is_reset m t ≡ false → w.wanted ≡ true → w.opened ≡ 1 → w.counts ≡ false → IsWatched tokens t (came m ∷ h) (record w { counts = true; current = false; token = taken token None })
  add_step no_remove an_add no_current no_reset wanted one waiting =
      let uncounted = sym is.counting ∙ waiting in
      let wants = sym is.wants ∙ wanted in
      let single = sym is.count ∙ one in
      let told_starts = is.waits (rw (wants, single) refl) uncounted in
      record {
        settled = is.settled;
        count = rw no_remove is.count;
        wants = is.wants;
        counting = rw (no_remove, an_add, uncounted, wants, single) refl;
        document = is.document;
        waits = rw (no_remove, an_add, uncounted, wants, single) (λ a c. absurd (true≢false c));
        told = λ c. rw uncounted told_starts;
        current = λ c. rw (uncounted, no_current) refl;
        token = λ c. rw uncounted (token_step tokens token None (token_for m t) [] brings refl);
      }

  -- an ADD of what doesn't wait for it
  pub late_add : changes is_remove m t ≡ false → changes is_add m t ≡ true → changes is_current m t ≡ false → changes is_reset m t ≡ false → ((keys : List Key) → told_step m t keys ≡ keys) → (w.wanted && eqb w.opened 1 && not w.counts) ≡ false → IsWatched tokens t (came m ∷ h) (record w { token = taken token w.token })
  late_add no_remove an_add no_current no_reset no_step not_waiting =
      let counts_same = elim (cases_Bool (counts t h)) as (λ _. counts t (came m ∷ h) ≡ counts t h) [
        | inl counted ↦ on counted no_remove ∙ sym counted
        | inr uncounted ↦
            let dead : (is_wanted t h && eqb (open_count t h) 1) ≡ false = not_live uncounted in
            (let gone : counts t (came m ∷ h) ≡ false = rw (no_remove, dead) refl in gone) ∙ sym uncounted
      ] in
      record {
        settled = is.settled;
        count = rw no_remove is.count;
        wants = is.wants;
        counting = is.counting ∙ sym counts_same;
        document = is.document;
        waits = λ asked' uncounted. is.waits (let a : is_asked_in t h ≡ true = rw no_remove at asked' in a) (sym counts_same ∙ uncounted);
        told = λ counted'. let counted = sym counts_same ∙ counted' in rw (counted, no_reset) (is.told counted ∙ sym (no_step (told_keys t h)));
        current = λ counted'. let counted = sym counts_same ∙ counted' in rw (counted, no_reset, no_current) (is.current counted);
        token = λ counted'. token_on (sym counts_same ∙ counted') no_reset;
      }
    where
      not_live : counts t h ≡ false → (is_wanted t h && eqb (open_count t h) 1) ≡ false
      not_live uncounted = elim (cases_Bool (is_wanted t h && eqb (open_count t h) 1)) [
        | inl alive ↦ absurd (true≢false (let e : (w.wanted && eqb w.opened 1 && not w.counts) ≡ true = rw (is.wants, is.count, is.counting, uncounted, alive) refl in sym e ∙ not_waiting))
        | inr dead ↦ dead
      ]

  -- what doesn't count and has no ADD goes on as it was
  pub idle : changes is_remove m t ≡ false → changes is_add m t ≡ false → w.counts ≡ false → IsWatched tokens t (came m ∷ h) (record w { token = taken token w.token })
  idle no_remove no_add waiting =
      let uncounted = sym is.counting ∙ waiting in
      let uncounted' = off uncounted no_add in
      record {
        settled = is.settled;
        count = rw no_remove is.count;
        wants = is.wants;
        counting = is.counting ∙ uncounted ∙ sym uncounted';
        document = is.document;
        waits = λ asked' none. is.waits (let a : is_asked_in t h ≡ true = rw no_remove at asked' in a) uncounted;
        told = λ c. absurd (true≢false (sym c ∙ uncounted'));
        current = λ c. absurd (true≢false (sym c ∙ uncounted'));
        token = λ c. absurd (true≢false (sym c ∙ uncounted'));
      }

-- ---- a message that names a key: a says that the id is listed as a target, r as a removed one

abbrev pub named : Key → Bool → Bool → Watched → Watched
named key a r w = record w { told = if w.counts then named_step key a r w.told else w.told }

pub named_stands : (tokens : List (List ℕ)) (t : ℤ) (h : Calls) (w : Watched) (m : ListenResponse) (key : Key) (a r : Bool) → IsWatched tokens t h w → ((P : ChangeKind → Bool) → changes P m t ≡ false) → token_for m t ≡ [] → ((keys : List Key) → told_step m t keys ≡ named_step key a r keys) → IsWatched tokens t (came m ∷ h) (named key a r w)
named_stands tokens t h w m key a r is none no_token steps =
    let counts_same = same m None is no_token (none is_remove) (none is_add) in
    record {
      settled = is.settled;
      count = rw (none is_remove) is.count;
      wants = is.wants;
      counting = is.counting ∙ sym counts_same;
      document = is.document;
      waits = λ asked' uncounted'. let uncounted = sym counts_same ∙ uncounted' in let waiting = is.counting ∙ uncounted in rw waiting (is.waits (let a : is_asked_in t h ≡ true = rw (none is_remove) at asked' in a) uncounted);
      told = λ counted'. let counted = sym counts_same ∙ counted' in let counting = is.counting ∙ counted in rw (counting, counted, none is_reset) (ap (named_step key a r) (is.told counted) ∙ sym (steps (told_keys t h)));
      current = λ counted'. let counted = sym counts_same ∙ counted' in rw (counted, none is_reset, none is_current) (is.current counted);
      token = λ counted'. token_on m None is no_token (sym counts_same ∙ counted') (none is_reset);
    }

-- ---- a change of targets

module _ (tokens : List (List ℕ)) (h : Calls) (change : TargetChange) (token : Option ℕ) (w : Watched) (brings : HasToken tokens token change.resume_token) (is : IsWatched tokens w.id h w) where
  not_of : is_of change.target_ids w.id ≡ false → IsWatched tokens w.id (came (sent.Target change) ∷ h) w
  not_of of = quiet (sent.Target change) None is (rw of refl) (none is_remove) (none is_add) (none is_current) (none is_reset) (λ k. refl)
    where
      none : (P : ChangeKind → Bool) → changes P (sent.Target change) w.id ≡ false
      none P = rw of (and_right (P change.kind) false refl)

  of_kind : (k : ChangeKind) → change.kind ≡ k → is_of change.target_ids w.id ≡ true → IsWatched tokens w.id (came (sent.Target change) ∷ h) (with_token token (turned k w))
  of_kind k e of = and_token tokens w.id (came (sent.Target change) ∷ h) token (turned k w) (by k e)
    where
      brought : HasToken tokens token (token_for (sent.Target change) w.id)
      brought = rw of brings

      none : (k : ChangeKind) (P : ChangeKind → Bool) → change.kind ≡ k → P k ≡ false → changes P (sent.Target change) w.id ≡ false
      none k P e isnt = rw (e, isnt) refl

      one : (k : ChangeKind) (P : ChangeKind → Bool) → change.kind ≡ k → P k ≡ true → changes P (sent.Target change) w.id ≡ true
      one k P e is' = rw (e, is', of) refl

      adds : (b : Bool) → (w.wanted && eqb w.opened 1 && not w.counts) ≡ b → change.kind ≡ kind.Add → IsWatched tokens w.id (came (sent.Target change) ∷ h) (let v = (if b then record w { counts = true; current = false; token = None } else w) in record v { token = taken token v.token })
      adds true waits e =
          let p = and_parts (w.wanted && eqb w.opened 1) (not w.counts) waits in
          let q = and_parts w.wanted (eqb w.opened 1) p.0 in
          add_step (sent.Target change) token is brought (none kind.Add is_remove e refl) (one kind.Add is_add e refl) (none kind.Add is_current e refl) (none kind.Add is_reset e refl) q.0 (eqb-true w.opened 1 q.1) (not-true w.counts p.1)
      adds false waits e = late_add (sent.Target change) token is brought (none kind.Add is_remove e refl) (one kind.Add is_add e refl) (none kind.Add is_current e refl) (none kind.Add is_reset e refl) (λ k. refl) waits

      resets : (b : Bool) → w.counts ≡ b → change.kind ≡ kind.Reset → IsWatched tokens w.id (came (sent.Target change) ∷ h) (let v = (if b then record w { told = []; current = false; token = None } else w) in record v { token = taken token v.token })
      resets true counting e = reset_step (sent.Target change) token is brought (none kind.Reset is_remove e refl) (none kind.Reset is_add e refl) (none kind.Reset is_current e refl) (one kind.Reset is_reset e refl) counting
      resets false waiting e = idle (sent.Target change) token is brought (none kind.Reset is_remove e refl) (none kind.Reset is_add e refl) waiting

      by : (k : ChangeKind) → change.kind ≡ k → IsWatched tokens w.id (came (sent.Target change) ∷ h) (record (turned k w) { token = taken token (turned k w).token })
      by kind.NoChange e = quiet (sent.Target change) token is brought (none kind.NoChange is_remove e refl) (none kind.NoChange is_add e refl) (none kind.NoChange is_current e refl) (none kind.NoChange is_reset e refl) (λ k. refl)
      by kind.Add e = adds (w.wanted && eqb w.opened 1 && not w.counts) refl e
      by kind.Remove e = remove_step (sent.Target change) token is brought (one kind.Remove is_remove e refl) (none kind.Remove is_add e refl)
      by kind.Current e = current_step (sent.Target change) token is brought (none kind.Current is_remove e refl) (none kind.Current is_add e refl) (one kind.Current is_current e refl) (none kind.Current is_reset e refl) (λ k. refl)
      by kind.Reset e = resets w.counts refl e

  pub changed_stands : IsWatched tokens w.id (came (sent.Target change) ∷ h) (changed change token w)
  changed_stands = go (is_of change.target_ids w.id) refl
    where
      go : (b : Bool) → is_of change.target_ids w.id ≡ b → IsWatched tokens w.id (came (sent.Target change) ∷ h) (if b then with_token token (turned change.kind w) else w)
      go true of = of_kind change.kind refl of
      go false of = not_of of
