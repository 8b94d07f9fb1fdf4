-- keys that are kept of those that were looked at
use Rattle.std.proofs.Common.{◌≡◌, ◌≢◌, ◌∙◌, ◌⊎◌, inl, inr, ℕ, ◌<◌, ◌≤◌, Bool, true, false, List, [], ◌∷◌, ◌++◌, length, get_or, take, Option, Some, None, IfSome, IsPermutation, refl, sym, ap, subst, arith}
use Rattle.std.specs.Bool.{Decides}
use Rattle.std.specs.List.{All, AllPairs, Contains}
use Rattle.std.proofs.lemmas.Bool.{cases_lt}
use Rattle.std.proofs.lemmas.List.{get_or-take, get_or_default, length-append, length-take, take-append-le}
use Rattle.std.proofs.lemmas.List.Elements.{All-push, All-take, Contains-append_left, Contains-get_or, Contains-push, Contains-push_cases}
use Rattle.std.proofs.lemmas.List.Quantifiers.{all_pairs_push}
use Rattle.std.proofs.lemmas.List.Sorted.{All-permutation, Contains-permutation, length_permutation}
use Rattle.document_keys.specs.Names.{Root}
use Rattle.value_model.specs.Documents.{DocumentMap}
use Rattle.queries.specs.declared.target.Target.{Target}
use Rattle.queries.specs.Answer.{Finds, KeyBefore}
use Rattle.queries.specs.Checked.{IsChecked}
use Rattle.queries.proofs.Answers.{one_way, chained}
use Rattle.queries.proofs.Counting.{in_order_apart, no_more_before, pairs_taken, same_key_test, same_key_decides}
use Rattle.queries.proofs.Lawful.{answers_law}
use Rattle.query_engine.specs.Kept.{IsBehind, KeepsKeys, front}

same_or_not : (r : Bool) (key other : List (List ℕ)) → Decides r (key ≡ other) → (key ≡ other) ⊎ (key ≢ other)
same_or_not true key other decides = inl (decides.0 refl)
same_or_not false key other decides = inr (λ same. let e = decides.1 same in cc)

module _ (target : Target) (root : Root) (documents : DocumentMap) where
  -- two keys of matching documents are the same, or one comes before the other
  ranked : IsChecked target → (key other : List (List ℕ)) → Finds target root documents key → Finds target root documents other → KeyBefore target root documents key other ⊎ ((key ≡ other) ⊎ KeyBefore target root documents other key)
  ranked checked key other a b = elim (same_or_not (same_key_test key other) key other (same_key_decides key other)) [
    | inl same ↦ inr (inl same)
    | inr apart ↦ elim (answers_law.total target root key a.stored.fields other b.stored.fields checked a.matches b.matches apart) [
      | inl ahead ↦ inl (record { stored = a.stored; others = b.stored; there = a.there; other_there = b.there; before = ahead })
      | inr back ↦ inr (inr (record { stored = b.stored; others = a.stored; there = b.there; other_there = a.there; before = back }))
    ]
  ]

  module _ (checked : IsChecked target) (ks ss : List (List (List ℕ))) (ordered : AllPairs (KeyBefore target root documents) ss) (moves : IsPermutation ks ss)
      (distinct : AllPairs ◌≢◌ ks) (found : All (Finds target root documents) ks) where
    -- a key that as many as the limit come before is behind the first ones of the list in order too
    still_behind : (n : ℕ) (key : List (List ℕ)) → Finds target root documents key → n ≤ length ks → All (λ other. KeyBefore target root documents other key) (take n ks)
        → (j : ℕ) (d : List (List ℕ)) → j < n → KeyBefore target root documents (get_or ss j d) key
    still_behind n key finds long before j d below =
        let as_long = length_permutation ks ss moves in
        let shown = length-take n ks in
        let b = get_or ss j d in
        let is : get_or ss j b ≡ b = get_or_default ss j b d (omega arith) in
        let b_found = All-permutation (Finds target root documents) ks ss moves found j d (omega arith) in
        let within : All (Contains ss) (take n ks) = λ k e inside.
        subst (Contains ss) (sym (get_or-take n ks k e (omega arith))) (Contains-permutation ks ss (get_or ks k e) moves (Contains-get_or ks k e (omega arith))) in
        let too_many : All (λ other. KeyBefore target root documents other b) (take n ks) → ⊥ = λ all.
        let most = no_more_before (KeyBefore target root documents) (one_way target root documents) ss j b (take n ks) ordered (omega arith) is (pairs_taken ◌≢◌ n ks distinct) within all in
        omega arith in
        elim (ranked checked b key b_found finds) [
          | inl ahead ↦ ahead
          | inr other ↦ elim other [
            | inl same ↦ absurd (too_many (λ k e inside. subst (λ x. KeyBefore target root documents (get_or (take n ks) k e) x) (sym same) (before k e inside)))
            | inr back ↦ absurd (too_many (λ k e inside. chained target root documents (get_or (take n ks) k e) key b (before k e inside) back))
          ]
        ]

    kept_or_behind : (limit : Option ℕ) (key : List (List ℕ)) → Finds target root documents key → Contains ks key ⊎ IsBehind target root documents limit ks key → Contains (front limit ss) key ⊎ IsBehind target root documents limit (front limit ss) key
    kept_or_behind None key finds or = elim or [ inl there ↦ inl (Contains-permutation ks ss key moves there) | inr behind ↦ absurd behind ]
    kept_or_behind (Some n) key finds or =
        let as_long = length_permutation ks ss moves in
        let shown = length-take n ss in
        let again = length-take n (take n ss) in
        elim or [
          | inl there ↦
              let place = Contains-permutation ks ss key moves there in
              let inside = place.1 in
              elim (cases_lt place.0 n) [
                | inl first ↦ inl (place.0, omega arith, get_or-take n ss place.0 key first ∙ place.2)
                | inr later ↦ inr (
                  omega arith,
                  λ k d below.
                      subst (λ x. KeyBefore target root documents x key) (sym (get_or-take n (take n ss) k d (omega arith) ∙ get_or-take n ss k d (omega arith)))
                      (subst (λ x. KeyBefore target root documents (get_or ss k d) x) (get_or_default ss place.0 d key inside ∙ place.2) (ordered k place.0 d (omega arith) inside)),
                )
              ]
          | inr behind ↦
              let enough = behind.0 in
              inr (
                omega arith,
                λ k d below.
                    subst (λ x. KeyBefore target root documents x key) (sym (get_or-take n (take n ss) k d (omega arith) ∙ get_or-take n ss k d (omega arith)))
                    (still_behind n key finds behind.0 behind.1 k d (omega arith)),
              )
        ]

    front_pairs : (limit : Option ℕ) → AllPairs (KeyBefore target root documents) (front limit ss)
    front_pairs None = ordered
    front_pairs (Some n) = pairs_taken (KeyBefore target root documents) n ss ordered

    front_all : (P : List (List ℕ) → Type 0) (limit : Option ℕ) → All P ks → All P (front limit ss)
    front_all P None all = All-permutation P ks ss moves all
    front_all P (Some n) all = All-take P n ss (All-permutation P ks ss moves all)

    front_short : (limit : Option ℕ) → IfSome limit (λ n. length (front limit ss) ≤ n)
    front_short None = tt
    front_short (Some n) = let shown = length-take n ss in omega arith

    pub cut_ordered : (limit : Option ℕ) → AllPairs (KeyBefore target root documents) (front limit ss)
    cut_ordered limit = front_pairs limit

    pub cut_short : (limit : Option ℕ) → IfSome limit (λ n. length (front limit ss) ≤ n)
    cut_short limit = front_short limit

    pub cut_keys : (limit : Option ℕ) (looked : List (List (List ℕ))) → KeepsKeys target root documents limit looked ks → KeepsKeys target root documents limit looked (front limit ss)
    cut_keys limit looked keeps = record {
      distinct = in_order_apart (KeyBefore target root documents) (one_way target root documents) (front limit ss) (front_pairs limit);
      among = front_all (Contains looked) limit keeps.among;
      found = front_all (Finds target root documents) limit keeps.found;
      covers = λ key seen finds. kept_or_behind limit key finds (keeps.covers key seen finds);
    }

  none_behind : (limit : Option ℕ) (ks : List (List (List ℕ))) (new key : List (List ℕ)) → IsBehind target root documents limit ks key → IsBehind target root documents limit (ks ++ new ∷ []) key
  none_behind None ks new key behind = behind
  none_behind (Some n) ks new key behind =
      let enough = behind.0 in
      let long = length-append ks (new ∷ []) in
      let more : take n (ks ++ new ∷ []) ≡ take n ks = take-append-le n ks (new ∷ []) enough in
      (omega arith, subst (All (λ other. KeyBefore target root documents other key)) (sym more) behind.1)

  pub no_keys : (limit : Option ℕ) (looked : List (List (List ℕ))) → looked ≡ [] → KeepsKeys target root documents limit looked []
  no_keys limit looked none = record {
    distinct = λ i j d before inside. absurd (omega arith);
    among = λ k d inside. absurd (omega arith);
    found = λ k d inside. absurd (omega arith);
    covers = λ key seen finds. absurd (let inside = seen.1 in let e = ap length none in omega arith);
  }

  pub one_more : (limit : Option ℕ) (looked ks : List (List (List ℕ))) (new : List (List ℕ)) → (Contains looked new → ⊥) → Finds target root documents new → KeepsKeys target root documents limit looked ks → KeepsKeys target root documents limit (looked ++ new ∷ []) (ks ++ new ∷ [])
  one_more limit looked ks new unseen finds keeps = record {
    distinct = all_pairs_push ◌≢◌ ks new keeps.distinct (λ k d inside same. unseen (subst (Contains looked) same (keeps.among k d inside)));
    among = All-push (Contains (looked ++ new ∷ [])) ks new (λ k d inside. Contains-append_left looked (new ∷ []) (get_or ks k d) (keeps.among k d inside)) (Contains-push looked new);
    found = All-push (Finds target root documents) ks new keeps.found finds;
    covers = λ key seen there. elim (Contains-push_cases looked new key seen) [
      | inl before ↦ elim (keeps.covers key before there) [ inl in_ks ↦ inl (Contains-append_left ks (new ∷ []) key in_ks) | inr behind ↦ inr (none_behind limit ks new key behind) ]
      | inr same ↦ inl (subst (Contains (ks ++ new ∷ [])) same (Contains-push ks new))
    ];
  }

  pub no_more : (limit : Option ℕ) (looked ks : List (List (List ℕ))) (new : List (List ℕ)) → (Finds target root documents new → ⊥) → KeepsKeys target root documents limit looked ks → KeepsKeys target root documents limit (looked ++ new ∷ []) ks
  no_more limit looked ks new never keeps = record {
    distinct = keeps.distinct;
    among = λ k d inside. Contains-append_left looked (new ∷ []) (get_or ks k d) (keeps.among k d inside);
    found = keeps.found;
    covers = λ key seen there. elim (Contains-push_cases looked new key seen) [
      | inl before ↦ keeps.covers key before there
      | inr same ↦ absurd (never (subst (Finds target root documents) (sym same) there))
    ];
  }
