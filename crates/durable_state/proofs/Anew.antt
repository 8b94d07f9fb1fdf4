-- the overlays that each kind of commit lays anew
use Rattle.std.proofs.Common.{◌≡◌, ◌∙◌, ◌||◌, ◌<◌, ℕ, zero, suc, Bool, true, false, cond, not, IsTrue, List, [], ◌∷◌, ◌++◌, map, drop, length, get_or, option_map, Option, Some, None, refl, sym, ap, subst, arith}
use Rattle.std.specs.FinMap as finite
use Rattle.std.specs.List.{All, AllPairs, Contains, cons_option, filter, filter_map}
use Rattle.std.specs.Option.{unwrap_or}
use Rattle.std.specs.Ordering.{is_eq}
use Rattle.std.proofs.lemmas.List.{get_or-map, get_or_default, length-map}
use Rattle.std.proofs.lemmas.List.Elements.{All-cons, All-head, All-nil, All-tail, Contains-append_left, Contains-append_right}
use Rattle.document_keys.specs.KeySet.{is_key}
use Rattle.document_keys.specs.Order.{PathBefore}
use Rattle.document_keys.proofs.Order.{paths_compute}
use Rattle.value_model.specs.declared.document.Document.{Document}
use Rattle.value_model.specs.declared.document.Entry.{Entry}
use Rattle.value_model.specs.declared.document.Seal.{Seal}
use Rattle.value_model.specs.declared.document.Seal.TheVariants.{Seen, Committed}
use Rattle.value_model.specs.declared.timestamp.Timestamp.{Timestamp}
use Rattle.mutations.specs.declared.batch.Batch.{Batch}
use Rattle.mutations.specs.declared.results.WriteResult.{WriteResult}
use Rattle.mutations.specs.declared.write.Write.{Write}
use Rattle.acknowledgements.specs.Acked.{acked}
use Rattle.outcome_codec.specs.declared.parts.KeyedEntry.{KeyedEntry}
use Rattle.mutation_queue.specs.Queue.{keys_of, named_keys}
use Rattle.mutation_queue.proofs.Tables.{one_key, same_itself}
use Rattle.overlays.specs.LocalDocument.{after_batch, base_of, local_document}
use Rattle.overlays.specs.Table as overlay
use Rattle.overlays.specs.declared.overlays.Overlay.{Overlay}
use Rattle.remote_documents.specs.Table.{EntryMap}
use Rattle.remote_documents.proofs.Maps.{turned}
use Rattle.durable_state.specs.Cached.{Changed, answered_by, cached, dropped, first_writes, seen_at, with_all, with_changed}
use Rattle.durable_state.specs.Documents.{document_of, entry_of, is_among, is_named}
use Rattle.durable_state.specs.Ready.{AreOf, HasDocument, IsOver, LaysAnew, LaysKeys, first_keys, moved, put_change, put_changes}
use Rattle.durable_state.specs.State.{State}
use Rattle.durable_state.specs.Tables.{AreLaid, overlay_for}
use Rattle.durable_state.specs.declared.ready.Step.{Step}
use Rattle.durable_state.specs.declared.ready.Step.TheVariants.{Enqueue, Settle, Tell, Blank}
use Rattle.durable_state.proofs.Changed.{get_changed}
use Rattle.durable_state.proofs.Firsts.{among_first}
use Rattle.durable_state.proofs.Laid.{among-append, first_false, in_among, local_more, named_more, not_named, not_written, or_false, or_true, second_false}

-- ---- entries that changes leave, and those that they put

keys_in : List Changed → List (List (List ℕ))
keys_in cs = map (λ c. c.0) cs

untouched : (entries : EntryMap) (cs : List Changed) (q : List (List ℕ)) → is_among (map (λ c. c.0) cs) q ≡ false → finite.get (with_all entries cs) q ≡ finite.get entries q
untouched entries [] q none = refl
untouched entries (c ∷ cs) q none =
    untouched (with_changed entries c) cs q (second_false (is_key c.0 q) (is_among (map (λ x. x.0) cs) q) none)
    ∙ get_changed entries c q ∙ ap (λ b. cond b c.1 (finite.get entries q)) (first_false (is_key c.0 q) (is_among (map (λ x. x.0) cs) q) none)

pub cached_still : (entries : EntryMap) (cs : List Changed) (q : List (List ℕ)) → is_among (map (λ c. c.0) cs) q ≡ false → cached (with_all entries cs) q ≡ cached entries q
cached_still entries cs q none = ap (option_map (λ (p : Entry × Seal). p.0)) (untouched entries cs q none)

key_of_one : (k q : List (List ℕ)) (b : Bool) → (is_key k q || b) ≡ true → b ≡ false → is_key k q ≡ true
key_of_one k q true either no_more = cc
key_of_one k q false either no_more = sym (or_false (is_key k q)) ∙ either

pub dropped_keys : (ks : List (List (List ℕ))) → map (λ (c : Changed). c.0) (dropped ks) ≡ ks
dropped_keys [] = refl
dropped_keys (x ∷ xs) = ap (λ l. x ∷ l) (dropped_keys xs)

gone : (entries : EntryMap) (keys : List (List (List ℕ))) (q : List (List ℕ)) → is_among keys q ≡ true → finite.get (with_all entries (dropped keys)) q ≡ None
gone entries [] q there = cc
gone entries (k ∷ keys) q there = by (is_among keys q) refl (gone (with_changed entries (k, None)) keys q)
  where
    by : (b : Bool) → is_among keys q ≡ b → (is_among keys q ≡ true → finite.get (with_all (with_changed entries (k, None)) (dropped keys)) q ≡ None) → finite.get (with_all (with_changed entries (k, None)) (dropped keys)) q ≡ None
    by true e rest = rest e
    by false e rest =
        untouched (with_changed entries (k, None)) (dropped keys) q (ap (λ l. is_among l q) (dropped_keys keys) ∙ e)
        ∙ get_changed entries (k, None) q ∙ ap (λ b. cond b None (finite.get entries q)) (key_of_one k q (is_among keys q) there e)

pub put_keys : (seal : Seal) (cs : List KeyedEntry) → map (λ (c : Changed). c.0) (put_changes seal cs) ≡ map (λ c. c.key) cs
put_keys seal [] = refl
put_keys seal (c ∷ cs) = ap (λ l. c.key ∷ l) (put_keys seal cs)

not_among : (keys : List (List (List ℕ))) (q : List (List ℕ)) → All (λ k. is_key k q ≡ false) keys → is_among keys q ≡ false
not_among [] q all = refl
not_among (k ∷ keys) q all =
    ap (λ b. b || is_among keys q) (All-head (λ x. is_key x q ≡ false) k keys all) ∙ not_among keys q (All-tail (λ x. is_key x q ≡ false) k keys all)

-- each change comes before those behind it
abbrev pub Ascend : List KeyedEntry → Type 0
Ascend cs = AllPairs (λ a b. PathBefore a.key b.key) cs

others_after : (c : KeyedEntry) (cs : List KeyedEntry) → Ascend (c ∷ cs) → All (λ k. is_key k c.key ≡ false) (map (λ x. x.key) cs)
others_after c [] ascend = All-nil (λ k. is_key k c.key ≡ false)
others_after c (x ∷ cs) ascend = All-cons (λ k. is_key k c.key ≡ false) x.key (map (λ y. y.key) cs) (differ x (ascend 0 1 c (omega arith) (omega arith))) (others_after c cs (λ i j d before below. skip i j d before below))
  where
    differ : (x : KeyedEntry) → PathBefore c.key x.key → is_key x.key c.key ≡ false
    differ x before = turned c.key x.key ∙ ap is_eq (paths_compute.less c.key x.key before)

    skip : (i j : ℕ) (d : KeyedEntry) → i < j → j < length (c ∷ cs) → PathBefore (get_or (c ∷ cs) i d).key (get_or (c ∷ cs) j d).key
    skip i zero d before below = absurd (omega (arith, before))
    skip zero (suc j) d before below = ascend 0 (suc (suc j)) d (omega arith) (omega (arith, below))
    skip (suc i) (suc j) d before below = ascend (suc (suc i)) (suc (suc j)) d (omega (arith, before)) (omega (arith, below))

pub cached_put : (entries : EntryMap) (seal : Seal) (cs : List KeyedEntry) (c : KeyedEntry) → Ascend cs → Contains cs c → cached (with_all entries (put_changes seal cs)) c.key ≡ Some c.entry
cached_put entries seal [] c ascend there = absurd (omega (arith, there.1))
cached_put entries seal (d ∷ cs) c ascend (zero, below, is) = subst (λ (x : KeyedEntry). cached (with_all (with_changed entries (put_change seal d)) (put_changes seal cs)) x.key ≡ Some x.entry) is here
  where
    here : cached (with_all (with_changed entries (put_change seal d)) (put_changes seal cs)) d.key ≡ Some d.entry
    here =
        cached_still (with_changed entries (put_change seal d)) (put_changes seal cs) d.key (ap (λ l. is_among l d.key) (put_keys seal cs) ∙ not_among (map (λ x. x.key) cs) d.key (others_after d cs ascend))
        ∙ ap (option_map (λ (p : Entry × Seal). p.0)) (get_changed entries (put_change seal d) d.key ∙ ap (λ b. cond b (Some (d.entry, seal)) (finite.get entries d.key)) (same_itself d.key))
cached_put entries seal (d ∷ cs) c ascend (suc i, below, is) =
    cached_put (with_changed entries (put_change seal d)) seal cs c (λ i j x before under. ascend (suc i) (suc j) x (omega (arith, before)) (omega (arith, under))) (i, omega (arith, below), is)

-- ---- keys that pass a test

all_keys : (os : List Overlay) (keys : List (List (List ℕ))) (P : List (List ℕ) → Type 0) → map (λ o. o.key) os ≡ keys → All P keys → All (λ o. P o.key) os
all_keys os keys P is all = from os (subst (All P) (sym is) all)
  where
    from : (os : List Overlay) → All P (map (λ o. o.key) os) → All (λ o. P o.key) os
    from [] all = All-nil (λ (o : Overlay). P o.key)
    from (o ∷ os) all = All-cons (λ (x : Overlay). P x.key) o os (All-head P o.key (map (λ x. x.key) os) all) (from os (All-tail P o.key (map (λ x. x.key) os) all))

passed_all : (p : List (List ℕ) → Bool) (keys : List (List (List ℕ))) → All (λ k. p k ≡ true) (filter p keys)
passed_all p [] = All-nil (λ k. p k ≡ true)
passed_all p (k ∷ keys) = by (p k) refl (passed_all p keys)
  where
    by : (b : Bool) → p k ≡ b → All (λ x. p x ≡ true) (filter p keys) → All (λ x. p x ≡ true) (cond b (k ∷ filter p keys) (filter p keys))
    by false e rest = rest
    by true e rest = All-cons (λ x. p x ≡ true) k (filter p keys) e rest

-- what doesn't stand among those that pass, and passes, doesn't stand among all
among_filter : (p : List (List ℕ) → Bool) (keys : List (List (List ℕ))) (q : List (List ℕ)) → p q ≡ true → is_among (filter p keys) q ≡ is_among keys q
among_filter p [] q passes = refl
among_filter p (k ∷ keys) q passes = by (p k) refl (is_key k q) refl (among_filter p keys q passes)
  where
    by : (b : Bool) → p k ≡ b → (c : Bool) → is_key k q ≡ c → is_among (filter p keys) q ≡ is_among keys q → is_among (cond b (k ∷ filter p keys) (filter p keys)) q ≡ (is_key k q || is_among keys q)
    by true e c same rest = ap (λ b. is_key k q || b) rest
    by false e true same rest = let wrong = sym e ∙ ap p (one_key k q same) ∙ passes in cc
    by false e false same rest = rest ∙ ap (λ b. b || is_among keys q) (sym same)

-- ---- the four kinds

-- what the table shows is the local document
pub shows : (s : State) (table : overlay.Table) (key : List (List ℕ)) → AreLaid s table → overlay.shown table key (base_of (entry_of s key)) ≡ document_of s key
shows s table key laid = ap (λ f. unwrap_or f (base_of (entry_of s key))) (laid key) ∙ by (is_named s key) refl
  where
    by : (b : Bool) → is_named s key ≡ b → unwrap_or (cond (is_named s key) (Some (document_of s key)) None) (base_of (entry_of s key)) ≡ document_of s key
    by true e = ap (λ b. unwrap_or (cond b (Some (document_of s key)) None) (base_of (entry_of s key))) e
    by false e = ap (λ b. unwrap_or (cond b (Some (document_of s key)) None) (base_of (entry_of s key))) e ∙ sym (not_named key s.batches (base_of (entry_of s key)) e)

pub lays_batch : (s : State) (batch : Batch) (before after : overlay.Table) (os : List Overlay) → AreLaid s before
    → LaysKeys after (HasDocument (λ key. after_batch key (overlay.shown before key (base_of (cached s.entries key))) batch)) (first_keys batch.writes) os → LaysAnew s (moved s (Enqueue batch) []) os []
lays_batch s batch before after os laid is = record {
  named = all_keys os (first_keys batch.writes) (λ k. IsTrue (is_among (named_keys (s.batches ++ batch ∷ [])) k)) is.of_keys (λ i d below. joined (get_or (first_keys batch.writes) i d) (i, below, same_at i d below));
  right = λ i d below. is.right i d below ∙ ap (λ x. after_batch (get_or os i d).key x batch) (shows s before (get_or os i d).key laid) ∙ sym (local_more (get_or os i d).key (base_of (entry_of s (get_or os i d).key)) s.batches batch);
  unnamed = All-nil (λ k. is_among (named_keys (s.batches ++ batch ∷ [])) k ≡ false);
  others = λ q none gone.
      let not_of : is_among (keys_of batch.writes) q ≡ false = sym (among_first batch.writes q) ∙ ap (λ l. is_among l q) (sym is.of_keys) ∙ none in
      let named : is_among (named_keys (s.batches ++ batch ∷ [])) q ≡ is_named s q =
      ap (λ l. is_among l q) (named_more s.batches batch) ∙ among-append (named_keys s.batches) (keys_of batch.writes) q ∙ ap (λ b. is_named s q || b) not_of ∙ or_false (is_named s q) in
      let document : local_document q (base_of (entry_of s q)) (s.batches ++ batch ∷ []) ≡ document_of s q =
      local_more q (base_of (entry_of s q)) s.batches batch ∙ not_written q batch.at batch.writes (document_of s q) not_of in
      ap (λ b. cond b (Some (local_document q (base_of (entry_of s q)) (s.batches ++ batch ∷ []))) None) named ∙ ap (λ x. cond (is_named s q) (Some x) None) document;
}
  where
    joined : (k : List (List ℕ)) → Contains (first_keys batch.writes) k → IsTrue (is_among (named_keys (s.batches ++ batch ∷ [])) k)
    joined k there = ap (λ l. is_among l k) (named_more s.batches batch) ∙ among-append (named_keys s.batches) (keys_of batch.writes) k ∙ ap (λ b. is_named s k || b) (sym (among_first batch.writes k) ∙ in_among k (first_keys batch.writes) there) ∙ or_true (is_named s k)

    same_at : (i : ℕ) (d : List (List ℕ)) → i < length (first_keys batch.writes) → get_or (first_keys batch.writes) i (get_or (first_keys batch.writes) i d) ≡ get_or (first_keys batch.writes) i d
    same_at i d below = get_or_default (first_keys batch.writes) i (get_or (first_keys batch.writes) i d) d below

-- batches and entries stay
pub lays_nothing : (s new : State) → new.batches ≡ s.batches → new.entries ≡ s.entries → LaysAnew s new [] []
lays_nothing s new batches entries = record {
  named = All-nil (λ (o : Overlay). IsTrue (is_named new o.key));
  right = All-nil (λ (o : Overlay). o.document ≡ document_of new o.key);
  unnamed = All-nil (λ k. is_named new k ≡ false);
  others = λ q none gone. overlay_same q;
}
  where
    overlay_same : (q : List (List ℕ)) → overlay_for new q ≡ overlay_for s q
    overlay_same q = ap (λ (bs : List Batch). overlay_for (record new { batches = bs }) q) batches ∙ ap (λ (m : EntryMap). overlay_for (record new { batches = s.batches; entries = m }) q) entries

-- the batches stay, and entries of some keys change
module _ (s : State) (step : Step) (cs : List Changed) (os : List Overlay) (same : (moved s step cs).batches ≡ s.batches) where
  abbrev named : List (List ℕ) → Bool
  named = is_among (named_keys s.batches)

  named_same : (q : List (List ℕ)) → is_named (moved s step cs) q ≡ named q
  named_same q = ap (λ (bs : List Batch). is_among (named_keys bs) q) same

  pub lays_where : map (λ o. o.key) os ≡ filter (is_among (named_keys s.batches)) (map (λ c. c.0) cs) → All (λ o. o.document ≡ document_of (moved s step cs) o.key) os → LaysAnew s (moved s step cs) os []
  lays_where of_keys right = record {
    named = all_keys os (filter named (map (λ c. c.0) cs)) (λ k. IsTrue (is_named (moved s step cs) k)) of_keys (λ i d below. named_same (get_or (filter named (map (λ c. c.0) cs)) i d) ∙ passed_all named (map (λ c. c.0) cs) i d below);
    right = right;
    unnamed = All-nil (λ k. is_named (moved s step cs) k ≡ false);
    others = λ q none gone. by q (named q) refl (ap (λ l. is_among l q) (sym of_keys) ∙ none);
  }
    where
      by : (q : List (List ℕ)) (b : Bool) → named q ≡ b → is_among (filter named (map (λ c. c.0) cs)) q ≡ false → overlay_for (moved s step cs) q ≡ overlay_for s q
      by q false e none = ap (λ b. cond b (Some (document_of (moved s step cs) q)) None) (named_same q ∙ e) ∙ sym (ap (λ b. cond b (Some (document_of s q)) None) e)
      by q true e none =
          let still = cached_still s.entries cs q (sym (among_filter named (map (λ c. c.0) cs) q e) ∙ none) in
          ap (λ b. cond b (Some (document_of (moved s step cs) q)) None) (named_same q)
          ∙ ap (λ (bs : List Batch). cond (named q) (Some (local_document q (base_of (cached (with_all s.entries cs) q)) bs)) None) same
          ∙ ap (λ e. cond (named q) (Some (local_document q (base_of e) s.batches)) None) still

-- the changes of a commit in other words
pub lays_as : (s : State) (step other : Step) (cs ds : List Changed) (os : List Overlay) (lifted keys : List (List (List ℕ))) → step ≡ other → cs ≡ ds → lifted ≡ keys → LaysAnew s (moved s other ds) os keys → LaysAnew s (moved s step cs) os lifted
lays_as s step other cs ds os lifted keys step_is changes_are lifted_are lays = rw (step_is, changes_are, lifted_are) lays

-- what a point brings
pub lays_told : (s : State) (at : Timestamp) (rows : _) (cs : List KeyedEntry) (table : overlay.Table) (os : List Overlay) → Ascend cs
    → LaysKeys table (IsOver s.batches cs) (filter (is_among (named_keys s.batches)) (map (λ c. c.key) cs)) os → LaysAnew s (moved s (Tell at rows) (seen_at cs)) os []
lays_told s at rows cs table os ascend is =
    lays_where s (Tell at rows) (seen_at cs) os refl (is.of_keys ∙ ap (filter (is_among (named_keys s.batches))) (sym (put_keys Seen cs))) (λ i d below. right (get_or os i d) (is.right i d below))
  where
    right : (o : Overlay) → IsOver s.batches cs o → o.document ≡ document_of (moved s (Tell at rows) (seen_at cs)) o.key
    right o over =
        over.document ∙ ap (λ e. local_document over.change.key (base_of e) s.batches) (sym (cached_put s.entries Seen cs over.change ascend over.one))
        ∙ ap (document_of (moved s (Tell at rows) (seen_at cs))) (sym over.of_key)

filter_in : (p : List (List ℕ) → Bool) (keys : List (List (List ℕ))) (k : List (List ℕ)) → is_among (filter p keys) k ≡ true → is_among keys k ≡ true
filter_in p [] k there = cc
filter_in p (x ∷ keys) k there = by (p x) refl there (is_key x k) refl (filter_in p keys k)
  where
    by : (b : Bool) → p x ≡ b → is_among (cond b (x ∷ filter p keys) (filter p keys)) k ≡ true → (c : Bool) → is_key x k ≡ c → (is_among (filter p keys) k ≡ true → is_among keys k ≡ true) → (is_key x k || is_among keys k) ≡ true
    by b e among true same rest = ap (λ c. c || is_among keys k) same
    by false e among false same rest = ap (λ c. c || is_among keys k) same ∙ rest among
    by true e among false same rest = ap (λ c. c || is_among keys k) same ∙ rest (sym (ap (λ c. c || is_among (filter p keys) k) same) ∙ among)

-- what a commit drops
pub lays_dropped : (s : State) (ids : _) (keys : List (List (List ℕ))) (table : overlay.Table) (os : List Overlay)
    → LaysKeys table (HasDocument (λ key. local_document key None s.batches)) (filter (is_among (named_keys s.batches)) keys) os → LaysAnew s (moved s (Blank ids) (dropped keys)) os []
lays_dropped s ids keys table os is =
    lays_where s (Blank ids) (dropped keys) os refl (is.of_keys ∙ ap (filter (is_among (named_keys s.batches))) (sym (dropped_keys keys)))
    (λ i d below. is.right i d below ∙ ap (λ e. local_document (get_or os i d).key (base_of e) s.batches) (sym (ap (option_map (λ (p : Entry × Seal). p.0)) (gone s.entries keys (get_or os i d).key (inside i d below)))))
  where
    inside : (i : ℕ) (d : Overlay) → i < length os → is_among keys (get_or os i d).key ≡ true
    inside i d below = all_keys os (filter (is_among (named_keys s.batches)) keys) (λ k. is_among keys k ≡ true) is.of_keys
        (λ j x under. filter_in (is_among (named_keys s.batches)) keys (get_or (filter (is_among (named_keys s.batches)) keys) j x)
        (in_among (get_or (filter (is_among (named_keys s.batches)) keys) j x) (filter (is_among (named_keys s.batches)) keys) (j, under, get_or_default (filter (is_among (named_keys s.batches)) keys) j (get_or (filter (is_among (named_keys s.batches)) keys) j x) x under))) i d below

-- ---- the first batch leaves

outside : (seal : Seal) (cs : List KeyedEntry) (keys : List (List (List ℕ))) (q : List (List ℕ)) → AreOf keys cs → is_among keys q ≡ false → is_among (map (λ (c : Changed). c.0) (put_changes seal cs)) q ≡ false
outside seal [] keys q of none = refl
outside seal (c ∷ cs) keys q of none =
    ap (λ b. b || is_among (map (λ (x : Changed). x.0) (put_changes seal cs)) q) (first (is_key c.key q) refl)
    ∙ outside seal cs keys q (All-tail (λ (x : KeyedEntry). Contains keys x.key) c cs of) none
  where
    first : (b : Bool) → is_key c.key q ≡ b → is_key c.key q ≡ false
    first false e = e
    first true e = let there = in_among q keys (subst (Contains keys) (one_key c.key q e) (All-head (λ (x : KeyedEntry). Contains keys x.key) c cs of)) in let wrong = sym there ∙ none in cc

first_named : (bs : List Batch) (q : List (List ℕ)) → is_among (keys_of (first_writes bs)) q ≡ false → is_among (named_keys (drop 1 bs)) q ≡ is_among (named_keys bs) q
first_named [] q none = refl
first_named (b ∷ bs) q none = sym (among-append (keys_of b.writes) (named_keys bs) q ∙ ap (λ x. x || is_among (named_keys bs) q) none)

first_left : (bs : List Batch) (q : List (List ℕ)) (d : Option Document) → is_among (keys_of (first_writes bs)) q ≡ false → local_document q d (drop 1 bs) ≡ local_document q d bs
first_left [] q d none = refl
first_left (b ∷ bs) q d none = ap (λ x. local_document q x bs) (sym (not_written q b.at b.writes d none))

turn : (b : Bool) → not b ≡ true → b ≡ false
turn false e = refl
turn true e = cc

module _ (s : State) (seal : Seal) (cs : List KeyedEntry) (os : List Overlay) (lifted : List (List (List ℕ))) (of : AreOf (first_keys (first_writes s.batches)) cs) where
  abbrev settled_keys : List (List (List ℕ))
  settled_keys = first_keys (first_writes s.batches)

  abbrev still_named : List (List ℕ) → Bool
  still_named = is_among (named_keys (drop 1 s.batches))

  unwritten : (q : List (List ℕ)) → is_among settled_keys q ≡ false → is_among (keys_of (first_writes s.batches)) q ≡ false
  unwritten q none = sym (among_first (first_writes s.batches) q) ∙ none

  same_overlay : (q : List (List ℕ)) → is_among settled_keys q ≡ false → overlay_for (moved s Settle (put_changes seal cs)) q ≡ overlay_for s q
  same_overlay q none =
      ap (λ b. cond b (Some (document_of (moved s Settle (put_changes seal cs)) q)) None) (first_named s.batches q (unwritten q none))
      ∙ ap (λ d. cond (is_named s q) (Some d) None)
      (ap (λ e. local_document q (base_of e) (drop 1 s.batches)) (cached_still s.entries (put_changes seal cs) q (outside seal cs settled_keys q of none)) ∙ first_left s.batches q (base_of (entry_of s q)) (unwritten q none))

  either_way : (q : List (List ℕ)) (b : Bool) → still_named q ≡ b → is_among (filter still_named settled_keys) q ≡ false → is_among (filter (λ k. not (still_named k)) settled_keys) q ≡ false → overlay_for (moved s Settle (put_changes seal cs)) q ≡ overlay_for s q
  either_way q true e none lifted_none = same_overlay q (sym (among_filter still_named settled_keys q e) ∙ none)
  either_way q false e none lifted_none = same_overlay q (sym (among_filter (λ k. not (still_named k)) settled_keys q (ap not e)) ∙ lifted_none)

  pub lays_settled : (table : overlay.Table)
      → LaysKeys table (HasDocument (λ key. local_document key (base_of (cached (with_all s.entries (put_changes seal cs)) key)) (drop 1 s.batches))) (filter still_named settled_keys) os
      → lifted ≡ filter (λ key. not (still_named key)) settled_keys → LaysAnew s (moved s Settle (put_changes seal cs)) os lifted
  lays_settled table is gone_are = record {
    named = all_keys os (filter still_named settled_keys) (λ k. still_named k ≡ true) is.of_keys (passed_all still_named settled_keys);
    right = is.right;
    unnamed = subst (All (λ k. still_named k ≡ false)) (sym gone_are) (λ i d below. turn (still_named (get_or (filter (λ k. not (still_named k)) settled_keys) i d)) (passed_all (λ k. not (still_named k)) settled_keys i d below));
    others = λ q none lifted_none. either_way q (still_named q) refl (ap (λ l. is_among l q) (sym is.of_keys) ∙ none) (ap (λ l. is_among l q) (sym gone_are) ∙ lifted_none);
  }

-- ---- the keys that an acknowledgement changes

module _ (entries : EntryMap) (writes : List Write) (results : List WriteResult) (commit : Timestamp) where
  abbrev by_answer : List (List ℕ) → Option Changed
  by_answer = answered_by entries writes results commit

  all_answered : (keys : List (List (List ℕ))) → All (λ (x : Changed). Contains keys x.0) (filter_map by_answer keys)
  all_answered [] = All-nil (λ (x : Changed). Contains [] x.0)
  all_answered (k ∷ keys) = by (acked (cached entries k) k writes results commit) (λ i d below. Contains-append_right (k ∷ []) keys (get_or (filter_map by_answer keys) i d).0 (all_answered keys i d below))
    where
      by : (o : Option Entry) → All (λ (x : Changed). Contains (k ∷ keys) x.0) (filter_map by_answer keys) → All (λ (x : Changed). Contains (k ∷ keys) x.0) (cons_option (option_map (λ entry. (k, Some (entry, Committed commit))) o) (filter_map by_answer keys))
      by None rest = rest
      by (Some e) rest = All-cons (λ (x : Changed). Contains (k ∷ keys) x.0) (k, Some (e, Committed commit)) (filter_map by_answer keys) (Contains-append_left (k ∷ []) keys k (0, omega arith, refl)) rest

  pub of_answered : (cs : List KeyedEntry) → put_changes (Committed commit) cs ≡ filter_map by_answer (first_keys writes) → AreOf (first_keys writes) cs
  of_answered cs is = λ i d below.
      let put = put_change (Committed commit) in
      let long = length-map cs put in
      let at = get_or-map put cs i d (put d) below in
      subst (λ (x : Changed). Contains (first_keys writes) x.0) at (subst (All (λ (x : Changed). Contains (first_keys writes) x.0)) (sym is) (all_answered (first_keys writes)) i (put d) (omega (arith, below, long)))
