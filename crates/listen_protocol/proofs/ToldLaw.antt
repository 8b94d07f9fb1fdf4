-- the list of told keys has exactly the keys that are told
use Rattle.std.proofs.Common.{◌≡◌, ◌∙◌, ◌↔◌, inl, inr, ℤ, Bool, true, false, ◌&&◌, ◌||◌, not, if◌then◌else◌, IsTrue, List, [], ◌∷◌, refl, sym, subst, arith}
use Rattle.std.specs.List.{Contains}
use Rattle.std.specs.Bool.{MatchBool}
use Rattle.std.specs.Ordering.{int_eq}
use Rattle.std.proofs.lemmas.Bool.{and_parts, and_right, or_right, not-true, false≢true}
use Rattle.document_keys.specs.KeySet.{IsAscending, Inserts, Removes, is_key}
use Rattle.value_model.specs.declared.message.ListenResponse.{ListenResponse}
use Rattle.value_model.specs.declared.message.ListenResponse.TheVariants as sent
use Rattle.listen_protocol.specs.Calls.{Key, Calls, asked, unasked, came, applied, skipped, changes, is_add, is_reset, lists, names, puts_in}
use Rattle.listen_protocol.specs.Transcript.{IsTold, counts, is_live, starting}
use Rattle.listen_protocol.specs.ToldKeys.{StartsAscend, named_step, told_keys, told_step}
use Rattle.listen_protocol.specs.Laws.{ToldKeysAreTold}
use Rattle.document_keys.proofs.Exact.{key_is, key_same, with_ascends, with_inserts, without_ascends, without_removes}

-- what is left of the old keys and what is put in: a says that the id is listed as a target, r as a removed one
abbrev Becomes : Key → Bool → Bool → List Key → List Key → Type 0
Becomes key a r old new = (k : Key) → Contains new k ↔ MatchBool (is_key key k && (a || r)) (IsTrue (a && not r)) (Contains old k)

removed_becomes : (key : Key) (a : Bool) (old new : List Key) → Removes key old new → Becomes key a true old new
removed_becomes key a old new removes k = rw (or_right a true refl, and_right a false refl) (go (is_key key k) refl)
  where
    go : (b : Bool) → is_key key k ≡ b → Contains new k ↔ MatchBool (b && true) (IsTrue false) (Contains old k)
    go true is = (λ has. absurd (((removes k).0 has).0 (sym (key_is key k is))), λ never. absurd (false≢true never))
    go false isnt = (λ has. ((removes k).0 has).1, λ has. (removes k).1 ((λ same. false≢true (sym isnt ∙ key_same key k (sym same))), has))

inserted_becomes : (key : Key) (old new : List Key) → Inserts key old new → Becomes key true false old new
inserted_becomes key old new inserts k = go (is_key key k) refl
  where
    go : (b : Bool) → is_key key k ≡ b → Contains new k ↔ MatchBool (b && true) (IsTrue true) (Contains old k)
    go true is = (λ has. refl, λ _. (inserts k).1 (inl (sym (key_is key k is))))
    go false isnt = (λ has. elim ((inserts k).0 has) [ inl same ↦ absurd (false≢true (sym isnt ∙ key_same key k (sym same))) | inr there ↦ there ], λ has. (inserts k).1 (inr has))

same_becomes : (key : Key) (old new : List Key) → new ≡ old → Becomes key false false old new
same_becomes key old new same k = subst (λ ks. Contains ks k ↔ MatchBool (is_key key k && false) (IsTrue false) (Contains old k)) (sym same) (rw (and_right (is_key key k) false refl) (λ has. has, λ has. has))

told_named : (t : ℤ) (h : Calls) (m : ListenResponse) (key : Key) (a r : Bool) (old new : List Key) → counts t h ≡ true → changes is_reset m t ≡ false → ((k : Key) → names m t k ≡ (is_key key k && (a || r))) → puts_in m t ≡ (a && not r) → Becomes key a r old new → ((k : Key) → Contains old k ↔ IsTold t h k) → (k : Key) → Contains new k ↔ IsTold t (came m ∷ h) k
told_named t h m key a r old new counted no_reset named puts becomes were k = go (is_key key k && (a || r)) (named k) (becomes k)
  where
    go : (b : Bool) → names m t k ≡ b → Contains new k ↔ MatchBool b (IsTrue (a && not r)) (Contains old k) → Contains new k ↔ IsTold t (came m ∷ h) k
    go true is-named now = rw (counted, no_reset, is-named, puts) now
    go false is-named now = rw (counted, no_reset, is-named) (λ has. (were k).0 (now.0 has), λ told. now.1 ((were k).1 told))

step_becomes : (key : Key) (a r : Bool) (keys : List Key) → Becomes key a r keys (named_step key a r keys)
step_becomes key a true keys = removed_becomes key a keys _ (without_removes key keys)
step_becomes key true false keys = inserted_becomes key keys _ (with_inserts key keys)
step_becomes key false false keys = same_becomes key keys keys refl

step_ascends : (key : Key) (a r : Bool) (keys : List Key) → IsAscending keys → IsAscending (named_step key a r keys)
step_ascends key a true keys ascending = without_ascends key keys ascending
step_ascends key true false keys ascending = with_ascends key keys ascending
step_ascends key false false keys ascending = ascending

told_steps : (t : ℤ) (h : Calls) (m : ListenResponse) (keys : List Key) → counts t h ≡ true → changes is_reset m t ≡ false → ((k : Key) → Contains keys k ↔ IsTold t h k) → (k : Key) → Contains (told_step m t keys) k ↔ IsTold t (came m ∷ h) k
told_steps t h (sent.Target change) keys counted no_reset were = λ k. rw (counted, no_reset) (were k)
told_steps t h (sent.Change change) keys counted no_reset were = told_named t h (sent.Change change) change.key (lists change.target_ids t) (lists change.removed_target_ids t) keys _ counted no_reset (λ k. refl) refl (step_becomes change.key _ _ keys) were
told_steps t h (sent.Delete delete) keys counted no_reset were = told_named t h (sent.Delete delete) delete.key false (lists delete.removed_target_ids t) keys _ counted no_reset (λ k. refl) refl (step_becomes delete.key false _ keys) were
told_steps t h (sent.Remove remove) keys counted no_reset were = told_named t h (sent.Remove remove) remove.key false (lists remove.removed_target_ids t) keys _ counted no_reset (λ k. refl) refl (step_becomes remove.key false _ keys) were
told_steps t h (sent.Filter filter) keys counted no_reset were = λ k. rw counted (were k)

-- a message that resets or adds names no key
reset_names : (m : ListenResponse) (t : ℤ) (k : Key) → changes is_reset m t ≡ true → names m t k ≡ false
reset_names (sent.Target change) t k e = refl
reset_names (sent.Change change) t k e = absurd (false≢true e)
reset_names (sent.Delete delete) t k e = absurd (false≢true e)
reset_names (sent.Remove remove) t k e = absurd (false≢true e)
reset_names (sent.Filter filter) t k e = absurd (false≢true e)

add_names : (m : ListenResponse) (t : ℤ) (k : Key) → changes is_add m t ≡ true → names m t k ≡ false
add_names (sent.Target change) t k e = refl
add_names (sent.Change change) t k e = absurd (false≢true e)
add_names (sent.Delete delete) t k e = absurd (false≢true e)
add_names (sent.Remove remove) t k e = absurd (false≢true e)
add_names (sent.Filter filter) t k e = absurd (false≢true e)

pub told_members : (t : ℤ) (h : Calls) → counts t h ≡ true → (k : Key) → Contains (told_keys t h) k ↔ IsTold t h k
told_members t [] c k = absurd (false≢true c)
told_members t (asked id keys document ∷ h) c k = let p = and_parts (not (int_eq t id)) (counts t h) c in let e = not-true (int_eq t id) p.0 in rw e (told_members t h p.1 k)
told_members t (unasked id ∷ h) c k = told_members t h (and_parts _ _ c).1 k
told_members t (applied ∷ h) c k = told_members t h c k
told_members t (skipped ∷ h) c k = told_members t h c k
told_members t (came m ∷ h) c k = go (counts t h) refl (changes is_reset m t) refl (told_members t h)
  where
    go : (b : Bool) → counts t h ≡ b → (z : Bool) → changes is_reset m t ≡ z → (counts t h ≡ true → (k : Key) → Contains (told_keys t h) k ↔ IsTold t h k) → Contains (if b then (if z then [] else told_step m t (told_keys t h)) else starting t h) k ↔ IsTold t (came m ∷ h) k
    go true counted true resets were = rw (counted, resets, reset_names m t k resets) (λ has. absurd (let inside = has.1 in omega arith), λ starts. absurd (false≢true starts.0))
    go true counted false no_reset were = told_steps t h m (told_keys t h) counted no_reset (were counted) k
    go false uncounted z e were =
        let adds : changes is_add m t ≡ true = rw uncounted at ((and_parts (is_live t (came m ∷ h)) (counts t h || changes is_add m t) c).1) in
        rw (uncounted, add_names m t k adds) (λ has. (refl, has), λ starts. starts.1)

none_ascends : IsAscending []
none_ascends i j d before inside = absurd (omega arith)

start_ascends : (t : ℤ) (h : Calls) → StartsAscend h → IsAscending (starting t h)
start_ascends t [] starts = none_ascends
start_ascends t (asked id keys document ∷ h) starts = go (int_eq t id) (start_ascends t h starts.1)
  where
    go : (b : Bool) → IsAscending (starting t h) → IsAscending (if b then keys else starting t h)
    go true rest = starts.0
    go false rest = rest
start_ascends t (unasked id ∷ h) starts = start_ascends t h starts
start_ascends t (came m ∷ h) starts = start_ascends t h starts
start_ascends t (applied ∷ h) starts = start_ascends t h starts
start_ascends t (skipped ∷ h) starts = start_ascends t h starts

steps_ascend : (m : ListenResponse) (t : ℤ) (keys : List Key) → IsAscending keys → IsAscending (told_step m t keys)
steps_ascend (sent.Target change) t keys ascending = ascending
steps_ascend (sent.Change change) t keys ascending = step_ascends change.key (lists change.target_ids t) (lists change.removed_target_ids t) keys ascending
steps_ascend (sent.Delete delete) t keys ascending = step_ascends delete.key false (lists delete.removed_target_ids t) keys ascending
steps_ascend (sent.Remove remove) t keys ascending = step_ascends remove.key false (lists remove.removed_target_ids t) keys ascending
steps_ascend (sent.Filter filter) t keys ascending = ascending

told_ascend : (t : ℤ) (h : Calls) → StartsAscend h → IsAscending (told_keys t h)
told_ascend t [] starts = none_ascends
told_ascend t (asked id keys document ∷ h) starts = told_ascend t h starts.1
told_ascend t (unasked id ∷ h) starts = told_ascend t h starts
told_ascend t (came m ∷ h) starts = go (counts t h) (changes is_reset m t) (told_ascend t h starts)
  where
    go : (b z : Bool) → IsAscending (told_keys t h) → IsAscending (if b then (if z then [] else told_step m t (told_keys t h)) else starting t h)
    go true true rest = none_ascends
    go true false rest = steps_ascend m t (told_keys t h) rest
    go false z rest = start_ascends t h starts
told_ascend t (applied ∷ h) starts = told_ascend t h starts
told_ascend t (skipped ∷ h) starts = told_ascend t h starts

pub told_law : ToldKeysAreTold
told_law = record { members = told_members; ascend = told_ascend }
