-- the cache after changes of entries
use Rattle.std.proofs.Common.{◌≡◌, ◌∙◌, ℕ, Bool, true, false, cond, IsTrue, List, [], ◌∷◌, ◌++◌, ◌<◌, ◌+◌, length, take, get_or, fold, option_map, Option, Some, None, append-nil, refl, sym, ap, subst}
use Rattle.std.specs.FinMap as finite
use Rattle.std.proofs.lemmas.Grind.{fold-append}
use Rattle.std.proofs.lemmas.List.{map-append, take_more}
use Rattle.std.proofs.lemmas.List.Elements.{All-push, filter_map-append}
use Rattle.std.specs.List.{cons_option, filter_map}
use Rattle.document_keys.specs.KeySet.{is_key}
use Rattle.value_model.specs.declared.document.Entry.{Entry}
use Rattle.value_model.specs.declared.document.Seal.{Seal}
use Rattle.outcome_codec.specs.declared.parts.KeyedEntry.{KeyedEntry}
use Rattle.key_table.specs.Table.{KeepsKeys, has_key}
use Rattle.remote_documents.specs.Table.{EntryMap, Table, Changes, IsMapOf, entries_in}
use Rattle.remote_documents.proofs.Maps.{get_with, get_without, one_map}
use Rattle.durable_state.specs.Cached.{Changed, dropped, with_all, with_changed}
use Rattle.durable_state.specs.Ready.{HavePlaces, put_change, put_changes}

-- what a key has after one change
pub get_changed : (entries : EntryMap) (c : Changed) (q : List (List ℕ)) → finite.get (with_changed entries c) q ≡ cond (is_key c.0 q) c.1 (finite.get entries q)
get_changed entries (k, None) q = get_without entries k q
get_changed entries (k, Some sealed) q = get_with entries k sealed q

-- a table that changed so holds the cache that changed so
pub change_is : (old new : Table) (c : Changed) → IsMapOf old → IsMapOf new → Changes c.0 c.1 old new → entries_in new ≡ with_changed (entries_in old) c
change_is old new c was is done = one_map (entries_in new) (with_changed (entries_in old) c) (λ q.
    is q ∙ done q ∙ ap (cond (is_key c.0 q) c.1) (sym (was q)) ∙ sym (get_changed (entries_in old) c q))

pub all_more : (entries : EntryMap) (cs : List Changed) (c : Changed) → with_all entries (cs ++ c ∷ []) ≡ with_changed (with_all entries cs) c
all_more entries cs c = fold-append with_changed entries cs (c ∷ [])

-- the last change of a key
abbrev pub change_of : List Changed → List (List ℕ) → Option (Option (Entry × Seal)) → Option (Option (Entry × Seal))
change_of cs q found = fold (λ now c. cond (is_key c.0 q) (Some c.1) now) found cs

pub put_more : (entries : EntryMap) (seal : Seal) (cs : List KeyedEntry) (c : KeyedEntry) → with_all entries (put_changes seal (cs ++ c ∷ [])) ≡ with_changed (with_all entries (put_changes seal cs)) (c.key, Some (c.entry, seal))
put_more entries seal cs c = ap (with_all entries) (map-append (put_change seal) cs (c ∷ [])) ∙ all_more entries (put_changes seal cs) (c.key, Some (c.entry, seal))

pub dropped_more : (entries : EntryMap) (keys : List (List (List ℕ))) (i : ℕ) (k : List (List ℕ)) → i < length keys → k ≡ get_or keys i k → with_all entries (dropped (take (i + 1) keys)) ≡ with_changed (with_all entries (dropped (take i keys))) (k, None)
dropped_more entries keys i k below is =
    ap (λ l. with_all entries (dropped l)) (take_more keys i k below ∙ ap (λ x. take i keys ++ x ∷ []) (sym is))
    ∙ ap (with_all entries) (map-append (λ (x : List (List ℕ)). (x, None)) (take i keys) (k ∷ [])) ∙ all_more entries (dropped (take i keys)) (k, None)

pub all_append : (entries : EntryMap) (cs ds : List Changed) → with_all entries (cs ++ ds) ≡ with_all (with_all entries cs) ds
all_append entries cs ds = fold-append with_changed entries cs ds

-- ---- changes gathered one by one

-- every place stays, and one more is there
pub places_more : (old new : Table) (cs after : List KeyedEntry) (c : KeyedEntry) → after ≡ cs ++ c ∷ [] → KeepsKeys old new → HavePlaces old cs → IsTrue (has_key new c.key) → HavePlaces new after
places_more old new cs after c pushed keeps had place = subst (HavePlaces new) (sym pushed) (All-push (λ (e : KeyedEntry). IsTrue (has_key new e.key)) cs c (λ k d below. keeps _ (had k d below)) place)

pub places_still : (old new : Table) (cs : List KeyedEntry) → KeepsKeys old new → HavePlaces old cs → HavePlaces new cs
places_still old new cs keeps had = λ k d below. keeps _ (had k d below)

-- places for the first ones and the next
pub places_next : (old new : Table) (cs : List KeyedEntry) (i : ℕ) (c : KeyedEntry) → i < length cs → c ≡ get_or cs i c → KeepsKeys old new → HavePlaces old (take i cs) → IsTrue (has_key new c.key) → HavePlaces new (take (i + 1) cs)
places_next old new cs i c below item keeps had place =
    places_more old new (take i cs) (take (i + 1) cs) c (take_more cs i c below ∙ ap (λ x. take i cs ++ x ∷ []) (sym item)) keeps had place

-- the entry of a key after one change more
pub entry_by : (b : Bool) (e : Entry) (s : Seal) (found : Option (Entry × Seal)) → option_map (λ p. p.0) (cond b (Some (e, s)) found) ≡ cond b (Some e) (option_map (λ p. p.0) found)
entry_by true e s found = refl
entry_by false e s found = refl

-- the answer's entry of one key more, or none
pub answered_one : (seal : Seal) (h : List (List ℕ) → Option Changed) (keys : List (List (List ℕ))) (key : List (List ℕ)) (cs after : List KeyedEntry) (c : KeyedEntry) (found : Option KeyedEntry) → found ≡ Some c → after ≡ cs ++ c ∷ []
    → option_map (put_change seal) found ≡ h key → put_changes seal cs ≡ filter_map h keys → put_changes seal after ≡ filter_map h (keys ++ key ∷ [])
answered_one seal h keys key cs after c found there pushed is so_far =
    ap (put_changes seal) pushed ∙ map-append (put_change seal) cs (c ∷ []) ∙ ap (λ l. l ++ put_change seal c ∷ []) so_far
    ∙ ap (λ (o : Option Changed). filter_map h keys ++ cons_option o []) (sym (ap (option_map (put_change seal)) there) ∙ is)
    ∙ sym (filter_map-append h keys (key ∷ []))

pub answered_none : (seal : Seal) (h : List (List ℕ) → Option Changed) (keys : List (List (List ℕ))) (key : List (List ℕ)) (cs after : List KeyedEntry) (found : Option KeyedEntry) → found ≡ None → after ≡ cs
    → option_map (put_change seal) found ≡ h key → put_changes seal cs ≡ filter_map h keys → put_changes seal after ≡ filter_map h (keys ++ key ∷ [])
answered_none seal h keys key cs after found there same is so_far =
    ap (put_changes seal) same ∙ so_far ∙ sym (append-nil (filter_map h keys))
    ∙ ap (λ (o : Option Changed). filter_map h keys ++ cons_option o []) (sym (ap (option_map (put_change seal)) there) ∙ is)
    ∙ sym (filter_map-append h keys (key ∷ []))
