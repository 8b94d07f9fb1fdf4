-- the last change of each key
use Rattle.std.proofs.Common.{◌≡◌, ◌∙◌, ◌<◌, ◌+◌, ℕ, Bool, true, false, cond, List, [], ◌∷◌, ◌++◌, take, length, get_or, fold, option_map, Option, Some, None, refl, sym, ap, subst, arith}
use Rattle.std.specs.FinMap as finite
use Rattle.std.specs.Map.{lookup}
use Rattle.std.proofs.lemmas.Grind.{fold-append}
use Rattle.std.proofs.lemmas.List.{get_or_default, take_all, take_more}
use Rattle.std.proofs.lemmas.Option.{same_Some}
use Rattle.document_keys.specs.KeySet.{is_key}
use Rattle.value_model.specs.declared.document.Entry.{Entry}
use Rattle.value_model.specs.declared.document.Seal.{Seal}
use Rattle.outcome_codec.specs.declared.parts.KeyedEntry.{KeyedEntry}
use Rattle.remote_documents.specs.Table.{EntryMap}
use Rattle.durable_state.specs.Cached.{cached, with_all, with_changed}
use Rattle.durable_state.specs.News.{AreLast, put_at, with_put}
use Rattle.durable_state.specs.Ready.{put_change, put_changes}
use Rattle.durable_state.proofs.Changed.{entry_by, get_changed}

-- ---- in the cache

after_all : (entries : EntryMap) (seal : Seal) (cs : List KeyedEntry) (q : List (List ℕ)) → cached (with_all entries (put_changes seal cs)) q ≡ fold (with_put q) (cached entries q) cs
after_all entries seal [] q = refl
after_all entries seal (c ∷ cs) q =
    after_all (with_changed entries (put_change seal c)) seal cs q
    ∙ ap (λ o. fold (with_put q) o cs) (ap (option_map (λ (p : Entry × Seal). p.0)) (get_changed entries (put_change seal c) q) ∙ entry_by (is_key c.key q) c.entry seal (finite.get entries q))

-- the entry that is put, and where none is the one that was
abbrev pub put_or : Option Entry → Option Entry → Option Entry
put_or (Some e) was = Some e
put_or None was = was

over : (q : List (List ℕ)) (was : Option Entry) (cs : List KeyedEntry) (o : Option Entry) → fold (with_put q) (put_or o was) cs ≡ put_or (fold (with_put q) o cs) was
over q was [] o = refl
over q was (c ∷ cs) o = ap (λ x. fold (with_put q) x cs) (by (is_key c.key q)) ∙ over q was cs (with_put q o c)
  where
    by : (b : Bool) → cond b (Some c.entry) (put_or o was) ≡ put_or (cond b (Some c.entry) o) was
    by true = refl
    by false = refl

-- what is known of a key after the changes
pub known_then : (entries : EntryMap) (seal : Seal) (cs : List KeyedEntry) (q : List (List ℕ)) → cached (with_all entries (put_changes seal cs)) q ≡ put_or (put_at cs q) (cached entries q)
known_then entries seal cs q = after_all entries seal cs q ∙ over q (cached entries q) cs None

-- ---- in a table

pub put_more : (cs : List KeyedEntry) (i : ℕ) (c : KeyedEntry) (q : List (List ℕ)) → i < length cs → c ≡ get_or cs i c → put_at (take (i + 1) cs) q ≡ cond (is_key c.key q) (Some c.entry) (put_at (take i cs) q)
put_more cs i c q below is =
    ap (λ l. put_at l q) (take_more cs i c below ∙ ap (λ y. take i cs ++ y ∷ []) (sym is)) ∙ fold-append (with_put q) None (take i cs) (c ∷ [])

pub none_last : (cs : List KeyedEntry) (table : List (List (List ℕ) × ℕ)) → table ≡ [] → AreLast 0 cs table
none_last cs table none = subst (AreLast 0 cs) (sym none) (record {
  within = λ q p is. cc;
  there = λ q d. refl;
})

pub last_more : (cs : List KeyedEntry) (i : ℕ) (c : KeyedEntry) (old new : List (List (List ℕ) × ℕ)) → i < length cs → c ≡ get_or cs i c
    → ((q : List (List ℕ)) → lookup (is_key q) new ≡ cond (is_key c.key q) (Some i) (lookup (is_key q) old)) → AreLast i cs old → AreLast (i + 1) cs new
last_more cs i c old new below is put were = record {
  within = λ q p found. inside q p (is_key c.key q) (sym (put q) ∙ found);
  there = λ q d. ap (option_map (λ p. (get_or cs p d).entry)) (put q) ∙ same q d (is_key c.key q) ∙ sym (put_more cs i c q below is);
}
  where
    inside : (q : List (List ℕ)) (p : ℕ) (b : Bool) → cond b (Some i) (lookup (is_key q) old) ≡ Some p → p < i + 1
    inside q p true found = let at : i ≡ p = same_Some i p found in omega (arith, at)
    inside q p false found = let under = were.within q p found in omega (arith, under)

    same : (q : List (List ℕ)) (d : KeyedEntry) (b : Bool) → option_map (λ p. (get_or cs p d).entry) (cond b (Some i) (lookup (is_key q) old)) ≡ cond b (Some c.entry) (put_at (take i cs) q)
    same q d true = ap (λ (x : KeyedEntry). Some x.entry) (get_or_default cs i d c below ∙ sym is)
    same q d false = were.there q d

-- what a table finds
pub last_found : (cs : List KeyedEntry) (table : List (List (List ℕ) × ℕ)) (q : List (List ℕ)) (p : ℕ) (d : KeyedEntry) → AreLast (length cs) cs table → Some p ≡ lookup (is_key q) table → d ≡ get_or cs p d → Some d.entry ≡ put_at cs q
last_found cs table q p d are found is =
    ap (λ (x : KeyedEntry). Some x.entry) is ∙ ap (option_map (λ n. (get_or cs n d).entry)) found ∙ are.there q d ∙ ap (λ l. put_at l q) (take_all (length cs) cs (omega arith))

pub none_there : (cs : List KeyedEntry) (table : List (List (List ℕ) × ℕ)) (q : List (List ℕ)) → AreLast (length cs) cs table → None ≡ lookup (is_key q) table → None ≡ put_at cs q
none_there [] table q are found = refl
none_there (d ∷ cs) table q are found =
    ap (option_map (λ n. (get_or (d ∷ cs) n d).entry)) found ∙ are.there q d ∙ ap (λ l. put_at l q) (take_all (length (d ∷ cs)) (d ∷ cs) (omega arith))
