-- rows that are kept of the keys that were looked at
use Rattle.std.proofs.Common.{◌≡◌, ◌≢◌, ◌∙◌, inl, inr, ℕ, zero, suc, ◌+◌, ◌<◌, ◌≤◌, List, [], ◌∷◌, ◌++◌, length, get_or, take, Option, Some, None, IfSome, is_some, option_map, option_to_list, true, false, IsPermutation, refl, sym, ap, subst, arith}
use Rattle.std.specs.List.{All, AllPairs, Contains}
use Rattle.std.proofs.lemmas.List.{get_or-map, get_or-take, get_or_default, length-map, length-take, map-append, take_all, take_more}
use Rattle.std.proofs.lemmas.List.Elements.{All-push, All-take, All-weaker}
use Rattle.std.proofs.lemmas.List.Sorted.{All-permutation, IsPermutation-map}
use Rattle.document_keys.specs.Names.{Root}
use Rattle.value_model.specs.declared.documents.DocRef.{DocRef}
use Rattle.value_model.specs.Documents.{DocumentMap, ListsCollection, Stored}
use Rattle.queries.specs.declared.target.CollectionTarget.{CollectionTarget}
use Rattle.queries.specs.declared.target.Target.{Target}
use Rattle.queries.specs.declared.target.Target.TheVariants.{Collection}
use Rattle.queries.specs.Answer.{Finds, KeyBefore, IsAnswer, IsPastLimit}
use Rattle.queries.specs.Checked.{IsChecked}
use Rattle.queries.specs.Matching.{Matches, AreRows, AreInOrder}
use Rattle.document_keys.specs.Order.{PathBefore}
use Rattle.document_keys.proofs.Lawful.{ordered as path_order}
use Rattle.queries.proofs.Answers.{answer_from}
use Rattle.query_engine.specs.Kept.{IsBehind, IsRow, KeepsKeys, KeepsRows, KeepsFirst, CutsRows, PutsRow, keys_of, stored_of, front}
use Rattle.query_engine.proofs.Keys.{cut_keys, cut_ordered, cut_short, one_more, no_more, no_keys}

take_keys : (n : ℕ) (rows : List DocRef) → take n (keys_of rows) ≡ keys_of (take n rows)
take_keys zero rows = refl
take_keys (suc n) [] = refl
take_keys (suc n) (row ∷ rows) = ap (λ ks. row.key.now ∷ ks) (take_keys n rows)

-- the keys of the first rows are the first keys
front_keys : (limit : Option ℕ) (rows : List DocRef) → front limit (keys_of rows) ≡ keys_of (front limit rows)
front_keys None rows = refl
front_keys (Some n) rows = take_keys n rows

module _ (target : Target) (root : Root) (documents : DocumentMap) where
  pub finds_row : (row : DocRef) → IsRow target root documents row → Finds target root documents row.key.now
  finds_row row is = record { stored = stored_of row; there = is.there; matches = is.matches }

  are_rows : (rows : List DocRef) → All (IsRow target root documents) rows → AllPairs ◌≢◌ (keys_of rows) → AreRows target root rows
  are_rows rows all distinct = record {
    matching = All-weaker (IsRow target root documents) (λ row. Matches target root row.key.now row.fields.now) (λ row is. is.matches) rows all;
    distinct = λ i j d before inside same.
        let long = length-map rows (λ (row : DocRef). row.key.now) in
        distinct i j d.key.now before (omega arith) (get_or-map (λ (row : DocRef). row.key.now) rows i d d.key.now (omega arith) ∙ same ∙ sym (get_or-map (λ (row : DocRef). row.key.now) rows j d d.key.now inside));
  }

  -- rows in order have keys in order
  ordered_keys : (rows : List DocRef) (e : DocRef) → All (IsRow target root documents) rows → AreInOrder target root rows → AllPairs (KeyBefore target root documents) (keys_of rows)
  ordered_keys rows e all pairs i j d before inside =
      let long = length-map rows (λ (row : DocRef). row.key.now) in
      let a = get_or rows i e in
      let b = get_or rows j e in
      let there = all i e (omega arith) in
      let also = all j e (omega arith) in
      let ahead : KeyBefore target root documents a.key.now b.key.now = record { stored = stored_of a; others = stored_of b; there = there.there; other_there = also.there; before = pairs i j e before (omega arith) } in
      subst (λ x. KeyBefore target root documents x (get_or (keys_of rows) j d)) (sym (get_or-map (λ (row : DocRef). row.key.now) rows i e d (omega arith)))
      (subst (λ x. KeyBefore target root documents a.key.now x) (sym (get_or-map (λ (row : DocRef). row.key.now) rows j e d (omega arith))) ahead)

  sorted_keys : (rows : List DocRef) → All (IsRow target root documents) rows → AreInOrder target root rows → AllPairs (KeyBefore target root documents) (keys_of rows)
  sorted_keys [] all pairs = λ i j d before inside. absurd (omega arith)
  sorted_keys (row ∷ rows) all pairs = ordered_keys (row ∷ rows) row all pairs

  front_rows : (limit : Option ℕ) (rows : List DocRef) → All (IsRow target root documents) rows → All (IsRow target root documents) (front limit rows)
  front_rows None rows all = all
  front_rows (Some n) rows all = All-take (IsRow target root documents) n rows all

  module _ (checked : IsChecked target) (limit : Option ℕ) (looked : List (List (List ℕ))) (rows kept : List DocRef) (keeps : KeepsRows target root documents limit looked rows) (cuts : CutsRows target limit rows kept) where
    all_sorted : All (IsRow target root documents) cuts.sorted
    all_sorted = All-permutation (IsRow target root documents) rows cuts.sorted cuts.moves keeps.rows

    in_order : AllPairs (KeyBefore target root documents) (keys_of cuts.sorted)
    in_order = sorted_keys cuts.sorted all_sorted (cuts.in_order root (are_rows rows keeps.rows keeps.keys.distinct))

    moved : IsPermutation (keys_of rows) (keys_of cuts.sorted)
    moved = IsPermutation-map (λ (row : DocRef). row.key.now) rows cuts.sorted cuts.moves

    same_front : front limit (keys_of cuts.sorted) ≡ keys_of kept
    same_front = front_keys limit cuts.sorted ∙ ap keys_of (sym cuts.front)

    kept_keys : KeepsKeys target root documents limit looked (keys_of kept)
    kept_keys = subst (KeepsKeys target root documents limit looked) same_front (cut_keys target root documents checked (keys_of rows) (keys_of cuts.sorted) in_order moved keeps.keys.distinct keeps.keys.found limit looked keeps.keys)

    pub kept_cut : KeepsRows target root documents limit looked kept
    kept_cut = record { rows = subst (All (IsRow target root documents)) (sym cuts.front) (front_rows limit cuts.sorted all_sorted); keys = kept_keys }

    pub kept_first : KeepsFirst target root documents limit looked kept
    kept_first = record {
      keys = kept_keys;
      ordered = subst (AllPairs (KeyBefore target root documents)) same_front (cut_ordered target root documents checked (keys_of rows) (keys_of cuts.sorted) in_order moved keeps.keys.distinct keeps.keys.found limit);
      short = subst (λ ks. IfSome limit (λ n. length ks ≤ n)) same_front (cut_short target root documents checked (keys_of rows) (keys_of cuts.sorted) in_order moved keeps.keys.distinct keeps.keys.found limit);
    }

  pub none_kept : (limit : Option ℕ) (looked : List (List (List ℕ))) (rows : List DocRef) → looked ≡ [] → rows ≡ [] → KeepsRows target root documents limit looked rows
  none_kept limit looked rows none empty = record {
    rows = λ k d inside. absurd (let e = ap length empty in omega arith);
    keys = subst (KeepsKeys target root documents limit looked) (ap keys_of (sym empty)) (no_keys target root documents limit looked none);
  }

  pub kept_put : IsChecked target → (limit : Option ℕ) (looked : List (List (List ℕ))) (rows : List DocRef) (row : DocRef) (now : List DocRef) → (Contains looked row.key.now → ⊥) → IsRow target root documents row → PutsRow target limit rows row now → KeepsRows target root documents limit looked rows → KeepsRows target root documents limit (looked ++ row.key.now ∷ []) now
  kept_put checked limit looked rows row now unseen is puts keeps =
      let more : KeepsRows target root documents limit (looked ++ row.key.now ∷ []) (rows ++ row ∷ []) = record {
        rows = All-push (IsRow target root documents) rows row keeps.rows is;
        keys = subst (KeepsKeys target root documents limit (looked ++ row.key.now ∷ [])) (sym (map-append (λ (r : DocRef). r.key.now) rows (row ∷ []))) (one_more target root documents limit looked (keys_of rows) row.key.now unseen (finds_row row is) keeps.keys);
      } in
      elim puts [
        | inl plain ↦ subst (KeepsRows target root documents limit (looked ++ row.key.now ∷ [])) (sym plain) more
        | inr cuts ↦ kept_cut checked limit (looked ++ row.key.now ∷ []) (rows ++ row ∷ []) now more cuts
      ]

  pub kept_skip : (limit : Option ℕ) (looked : List (List (List ℕ))) (rows : List DocRef) (key : List (List ℕ)) → (Finds target root documents key → ⊥) → KeepsRows target root documents limit looked rows → KeepsRows target root documents limit (looked ++ key ∷ []) rows
  kept_skip limit looked rows key never keeps = record { rows = keeps.rows; keys = no_more target root documents limit looked (keys_of rows) key never keeps.keys }

module _ (target : Target) (root : Root) (documents : DocumentMap) (limit : Option ℕ) (keys : List (List (List ℕ))) (i : ℕ) (key : List (List ℕ)) (rows : List DocRef) (inside : i < length keys) (is : key ≡ get_or keys i key) (keeps : KeepsRows target root documents limit (take i keys) rows) where
  next : take (i + 1) keys ≡ take i keys ++ key ∷ []
  next = take_more keys i key inside ∙ ap (λ k. take i keys ++ k ∷ []) (sym is)

  -- the row of the next key is kept, and where it has none nothing is
  pub row_more : IsChecked target → AllPairs ◌≢◌ keys → (row : DocRef) (now : List DocRef) → (row.key.now ≡ key) × IsRow target root documents row → PutsRow target limit rows row now → KeepsRows target root documents limit (take (i + 1) keys) now
  row_more checked distinct row now tells puts =
      let long = length-take i keys in
      let unseen : Contains (take i keys) row.key.now → ⊥ = λ seen. let place = seen.1 in
      distinct seen.0 i row.key.now (omega arith) inside
      (sym (get_or-take i keys seen.0 row.key.now (omega arith)) ∙ seen.2 ∙ tells.0 ∙ is ∙ get_or_default keys i key row.key.now inside) in
      let kept = kept_put target root documents checked limit (take i keys) rows row now unseen tells.1 puts keeps in
      subst (λ ks. KeepsRows target root documents limit ks now) (ap (λ k. take i keys ++ k ∷ []) tells.0 ∙ sym next) kept

  pub row_less : (Finds target root documents key → ⊥) → KeepsRows target root documents limit (take (i + 1) keys) rows
  row_less never = subst (λ ks. KeepsRows target root documents limit ks rows) (sym next) (kept_skip target root documents limit (take i keys) rows key never keeps)

-- keys that ascend are different
pub ascending_apart : (keys : List (List (List ℕ))) → AllPairs PathBefore keys → AllPairs ◌≢◌ keys
ascending_apart keys ascending i j d before inside same =
    path_order.strict (get_or keys j d) (subst (λ k. PathBefore k (get_or keys j d)) same (ascending i j d before inside))

module _ (target : CollectionTarget) (root : Root) (documents : DocumentMap) (keys : List (List (List ℕ))) (rows : List DocRef) (lists : ListsCollection documents target.collection keys)
    (keeps : KeepsFirst (Collection target) root documents target.limit keys rows) where
  past : (limit : Option ℕ) → target.limit ≡ limit → IfSome limit (λ n. length (keys_of rows) ≤ n) → (key : List (List ℕ)) → IsBehind (Collection target) root documents limit (keys_of rows) key → IsPastLimit (Collection target) root documents (keys_of rows) key
  past None is short key behind = absurd behind
  past (Some n) is short key behind =
      (n, is, behind.0, subst (All (λ other. KeyBefore (Collection target) root documents other key)) (take_all n (keys_of rows) short) behind.1)

  -- the first rows of all keys of the collection are the answer
  pub first_answer : IsAnswer (Collection target) root documents (keys_of rows)
  first_answer = answer_from (Collection target) root documents (keys_of rows) keeps.ordered keeps.keys.found keeps.short
      (λ key finds. elim (keeps.keys.covers key ((lists.members key).1 (finds.matches.inside, ap is_some finds.there)) finds) [
        | inl there ↦ inl there
        | inr behind ↦ inr (past target.limit refl keeps.short key behind)
      ])

-- what is listed of a key where something was found, and where nothing was
pub listed : (found : Option Stored) (key : List (List ℕ)) → is_some found ≡ true → option_to_list (option_map (λ _. key) found) ≡ key ∷ []
listed None key is = absurd (let no : false ≡ true = is in cc)
listed (Some stored) key is = refl

pub unlisted : (found : Option Stored) (key : List (List ℕ)) → is_some found ≡ false → option_to_list (option_map (λ _. key) found) ≡ []
unlisted (Some stored) key is = absurd (let no : true ≡ false = is in cc)
unlisted None key is = refl
