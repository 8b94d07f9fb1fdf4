-- the keys of some writes, each where it comes first
use Rattle.std.proofs.Common.{◌≡◌, ◌≢◌, ◌∙◌, ◌||◌, ◌<◌, ◌+◌, ℕ, zero, suc, inl, inr, Bool, true, false, cond, List, [], ◌∷◌, ◌++◌, take, length, get_or, fold, option_map, Option, Some, None, append-nil, refl, sym, ap, subst, arith}
use Rattle.std.specs.FinMap as finite
use Rattle.std.specs.List.{cons_option, filter, filter_map}
use Rattle.std.proofs.lemmas.Bool.Decides.{leb_tells}
use Rattle.std.proofs.lemmas.Grind.{fold-append}
use Rattle.std.proofs.lemmas.List.{take_more}
use Rattle.std.proofs.lemmas.List.Elements.{filter-append}
use Rattle.std.proofs.lemmas.Option.{same_Some}
use Rattle.document_keys.specs.KeySet.{is_key}
use Rattle.keyed_writes.specs.Keyed.{IsNext}
use Rattle.mutations.specs.Written.{written_key}
use Rattle.value_model.specs.declared.document.Entry.{Entry}
use Rattle.value_model.specs.declared.document.Seal.{Seal}
use Rattle.value_model.specs.declared.document.Seal.TheVariants.{Committed}
use Rattle.value_model.specs.declared.timestamp.Timestamp.{Timestamp}
use Rattle.mutations.specs.declared.results.WriteResult.{WriteResult}
use Rattle.mutations.specs.declared.write.Write.{Write}
use Rattle.acknowledgements.specs.Acked.{acked}
use Rattle.mutation_queue.specs.Queue.{keys_of}
use Rattle.mutation_queue.proofs.Tables.{one_key, same_itself}
use Rattle.remote_documents.specs.Table.{EntryMap}
use Rattle.remote_documents.proofs.Maps.{one_map}
use Rattle.durable_state.specs.Cached.{Changed, acknowledged_keys, answered_by, cached, with_all, with_changed}
use Rattle.durable_state.specs.Documents.{is_among}
use Rattle.durable_state.specs.Ready.{first_keys, with_first}
use Rattle.durable_state.proofs.Changed.{get_changed}
use Rattle.durable_state.proofs.Laid.{among-append, or_false, or_true}

-- ---- the same keys

both_or : (a b c : Bool) → ((a || b) || c) ≡ (a || (b || c))
both_or true b c = refl
both_or false b c = refl

with_one : (ks : List (List (List ℕ))) (k q : List (List ℕ)) → is_among (ks ++ cond (is_among ks k) [] (k ∷ [])) q ≡ (is_among ks q || is_key k q)
with_one ks k q = by (is_among ks k) refl
  where
    there : is_among ks k ≡ true → (c : Bool) → is_key k q ≡ c → is_among ks q ≡ (is_among ks q || c)
    there e false s = sym (or_false (is_among ks q))
    there e true s = ap (is_among ks) (sym (one_key k q s)) ∙ e ∙ sym (or_true (is_among ks q))

    by : (b : Bool) → is_among ks k ≡ b → is_among (ks ++ cond b [] (k ∷ [])) q ≡ (is_among ks q || is_key k q)
    by false e = among-append ks (k ∷ []) q ∙ ap (λ b. is_among ks q || b) (or_false (is_key k q))
    by true e = ap (λ l. is_among l q) (append-nil ks) ∙ there e (is_key k q) refl

among_from : (ws : List Write) (ks : List (List (List ℕ))) (q : List (List ℕ)) → is_among (fold with_first ks ws) q ≡ (is_among ks q || is_among (keys_of ws) q)
among_from [] ks q = sym (or_false (is_among ks q))
among_from (w ∷ ws) ks q =
    among_from ws (with_first ks w) q ∙ ap (λ b. b || is_among (keys_of ws) q) (with_one ks (written_key w) q) ∙ both_or (is_among ks q) (is_key (written_key w) q) (is_among (keys_of ws) q)

pub among_first : (ws : List Write) (q : List (List ℕ)) → is_among (first_keys ws) q ≡ is_among (keys_of ws) q
among_first ws q = among_from ws [] q

-- ---- one write more

none_taken : (ws : List Write) (i : ℕ) (key : List (List ℕ)) → ((j : ℕ) (v : Write) → j < i → is_key (written_key (get_or ws j v)) key ≡ false) → is_among (keys_of (take i ws)) key ≡ false
none_taken [] zero key lack = refl
none_taken [] (suc i) key lack = refl
none_taken (w ∷ ws) zero key lack = refl
none_taken (w ∷ ws) (suc i) key lack =
    ap (λ b. b || is_among (keys_of (take i ws)) key) (lack 0 w (omega arith))
    ∙ none_taken ws i key (λ j v before. lack (suc j) v (omega (arith, before)))

some_taken : (ws : List Write) (i r : ℕ) (key : List (List ℕ)) (v : Write) → r < i → r < length ws → is_key (written_key (get_or ws r v)) key ≡ true → is_among (keys_of (take i ws)) key ≡ true
some_taken [] i r key v before below named = absurd (omega (arith, below))
some_taken (w ∷ ws) zero r key v before below named = absurd (omega (arith, before))
some_taken (w ∷ ws) (suc i) zero key v before below named = ap (λ b. b || is_among (keys_of (take i ws)) key) named
some_taken (w ∷ ws) (suc i) (suc r) key v before below named =
    ap (λ b. is_key (written_key w) key || b) (some_taken ws i r key v (omega (arith, before)) (omega (arith, below)) named) ∙ or_true (is_key (written_key w) key)

module _ (ws : List Write) (i : ℕ) (w : Write) (below : i < length ws) (item : w ≡ get_or ws i w) where
  one_more : first_keys (take (i + 1) ws) ≡ with_first (first_keys (take i ws)) w
  one_more = ap first_keys (take_more ws i w below ∙ ap (λ y. take i ws ++ y ∷ []) (sym item)) ∙ fold-append with_first [] (take i ws) (w ∷ [])

  module _ (r : ℕ) (next : IsNext ws (written_key w) 0 r) where
    -- a key comes first where its first place is
    pub first_on : r ≡ i → first_keys (take (i + 1) ws) ≡ first_keys (take i ws) ++ written_key w ∷ []
    first_on here = one_more ∙ ap (λ b. first_keys (take i ws) ++ cond b [] (written_key w ∷ [])) not_yet
      where
        not_yet : is_among (first_keys (take i ws)) (written_key w) ≡ false
        not_yet = among_first (take i ws) (written_key w) ∙ none_taken ws i (written_key w) (λ j v before. next.passed j v (omega arith) (subst (λ n. j < n) (sym here) before))

    -- and is there already at any other place
    pub first_still : r ≢ i → first_keys (take (i + 1) ws) ≡ first_keys (take i ws)
    first_still other = one_more ∙ ap (λ b. first_keys (take i ws) ++ cond b [] (written_key w ∷ [])) already ∙ append-nil (first_keys (take i ws))
      where
        before : r < i
        before = elim (leb_tells r i) [
          | inl under ↦ let u = under.1 in omega (arith, u, other)
          | inr past ↦ let wrong = sym (same_itself (written_key w)) ∙ ap (λ x. is_key (written_key x) (written_key w)) item ∙ next.passed i w (omega arith) past.1 in cc
        ]

        already : is_among (first_keys (take i ws)) (written_key w) ≡ true
        already = among_first (take i ws) (written_key w) ∙ some_taken ws i r (written_key w) w before (omega (arith, before, below)) (next.there w (omega (arith, before, below)))

    -- of those that pass a test
    pub first_gains : (p : List (List ℕ) → Bool) → r ≡ i → filter p (first_keys (take (i + 1) ws)) ≡ filter p (first_keys (take i ws)) ++ cond (p (written_key w)) (written_key w ∷ []) []
    first_gains p here = ap (filter p) (first_on here) ∙ filter-append p (first_keys (take i ws)) (written_key w ∷ [])

-- ---- answers to the same keys

abbrev by_change : Option Changed → Option (Entry × Seal) → Option (Entry × Seal)
by_change None old = old
by_change (Some c) old = c.1

module _ (h : List (List ℕ) → Option Changed) (own : (k : List (List ℕ)) (c : Changed) → h k ≡ Some c → c.0 ≡ k) where
  got : (keys : List (List (List ℕ))) (entries : EntryMap) (q : List (List ℕ))
      → finite.get (with_all entries (filter_map h keys)) q ≡ cond (is_among keys q) (by_change (h q) (finite.get entries q)) (finite.get entries q)
  got [] entries q = refl
  got (k ∷ keys) entries q = by (h k) refl (λ m. got keys m q)
    where
      kept : h k ≡ None → (b : Bool) → is_key k q ≡ b → (a : Bool)
          → cond a (by_change (h q) (finite.get entries q)) (finite.get entries q) ≡ cond (b || a) (by_change (h q) (finite.get entries q)) (finite.get entries q)
      kept e true s true = refl
      kept e true s false = sym (ap (λ o. by_change o (finite.get entries q)) (ap h (sym (one_key k q s)) ∙ e))
      kept e false s a = refl

      changed : (c : Changed) → h k ≡ Some c → (b : Bool) → is_key k q ≡ b → (a : Bool) → finite.get (with_changed entries c) q ≡ cond b c.1 (finite.get entries q)
          → cond a (by_change (h q) (finite.get (with_changed entries c) q)) (finite.get (with_changed entries c) q) ≡ cond (b || a) (by_change (h q) (finite.get entries q)) (finite.get entries q)
      changed c e true s true is = ap (λ o. by_change o (finite.get (with_changed entries c) q)) (ap h (sym (one_key k q s)) ∙ e) ∙ sym (ap (λ o. by_change o (finite.get entries q)) (ap h (sym (one_key k q s)) ∙ e))
      changed c e true s false is = is ∙ sym (ap (λ o. by_change o (finite.get entries q)) (ap h (sym (one_key k q s)) ∙ e))
      changed c e false s a is = ap (λ o. cond a (by_change (h q) o) o) is

      by : (o : Option Changed) → h k ≡ o → ((m : EntryMap) → finite.get (with_all m (filter_map h keys)) q ≡ cond (is_among keys q) (by_change (h q) (finite.get m q)) (finite.get m q))
          → finite.get (with_all entries (cons_option o (filter_map h keys))) q ≡ cond (is_key k q || is_among keys q) (by_change (h q) (finite.get entries q)) (finite.get entries q)
      by None e rest = rest entries ∙ kept e (is_key k q) refl (is_among keys q)
      by (Some c) e rest =
          rest (with_changed entries c)
          ∙ changed c e (is_key k q) refl (is_among keys q) (get_changed entries c q ∙ ap (λ x. cond (is_key x q) c.1 (finite.get entries q)) (own k c e))

  same_changes : (keys others : List (List (List ℕ))) (entries : EntryMap) → ((q : List (List ℕ)) → is_among keys q ≡ is_among others q) → with_all entries (filter_map h keys) ≡ with_all entries (filter_map h others)
  same_changes keys others entries same = one_map (with_all entries (filter_map h keys)) (with_all entries (filter_map h others))
      (λ q. got keys entries q ∙ ap (λ b. cond b (by_change (h q) (finite.get entries q)) (finite.get entries q)) (same q) ∙ sym (got others entries q))

-- an answer to each key once leaves what an answer to each write does
pub answers_same : (entries : EntryMap) (writes : List Write) (results : List WriteResult) (at : Timestamp)
    → with_all entries (filter_map (answered_by entries writes results at) (first_keys writes)) ≡ with_all entries (acknowledged_keys entries writes results at)
answers_same entries writes results at =
    same_changes (answered_by entries writes results at) (λ k c e. own k c (acked (cached entries k) k writes results at) e) (first_keys writes) (keys_of writes) entries (among_first writes)
  where
    own : (k : List (List ℕ)) (c : Changed) (o : Option Entry) → option_map (λ entry. (k, Some (entry, Committed at))) o ≡ Some c → c.0 ≡ k
    own k c None e = cc
    own k c (Some x) e = sym (ap (λ (p : Changed). p.0) (same_Some (k, Some (x, Committed at)) c e))
