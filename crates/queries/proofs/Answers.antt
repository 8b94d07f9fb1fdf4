-- lists that are the answer of a query
use Rattle.std.proofs.Common.{◌≡◌, ◌≢◌, ◌∙◌, ◌⊎◌, inl, inr, ℕ, ◌<◌, ◌≤◌, List, [], ◌∷◌, length, get_or, take, Option, Some, None, IfSome, option_map, option_to_list, refl, sym, ap, subst, arith}
use Rattle.std.specs.FinMap as map
use Rattle.std.specs.List.{All, AllPairs, Contains}
use Rattle.std.proofs.lemmas.List.{get_or-take, get_or_default, length-take}
use Rattle.std.proofs.lemmas.List.Elements.{All-cons, All-nil, All-contains, All-take, Contains-get_or}
use Rattle.std.proofs.lemmas.Bool.{cases_lt}
use Rattle.document_keys.specs.Names.{Root}
use Rattle.value_model.specs.Documents.{DocumentMap, Stored}
use Rattle.queries.specs.declared.target.CollectionTarget.{CollectionTarget}
use Rattle.queries.specs.declared.target.Target.{Target}
use Rattle.queries.specs.declared.target.Target.TheVariants.{Document, Collection}
use Rattle.queries.specs.Answer.{Finds, KeyBefore, ComeBefore, limit_of, IsAnswer, IsPastLimit}
use Rattle.queries.specs.Laws.{AnswersAreFronts, AnswersStay, without_limit}
use Rattle.queries.specs.Matching.{IsBefore}
use Rattle.queries.proofs.Counting.{in_order_apart, no_more_before, pairs_taken, same_in_order}
use Rattle.queries.proofs.Lawful.{answers_law}

module _ (target : Target) (root : Root) (documents : DocumentMap) where
  -- of two keys not each comes before the other
  pub one_way : (key other : List (List ℕ)) → KeyBefore target root documents key other → KeyBefore target root documents other key → ⊥
  one_way key other ahead back =
      let e : Some ahead.stored ≡ Some back.others = sym ahead.there ∙ back.other_there in
      let f : Some ahead.others ≡ Some back.stored = sym ahead.other_there ∙ back.there in
      let same : ahead.stored ≡ back.others = cc in
      let also : ahead.others ≡ back.stored = cc in
      let before : IsBefore target root other back.stored.fields key ahead.stored.fields = subst (λ (s : Stored). IsBefore target root other back.stored.fields key s.fields) (sym same) back.before in
      let after : IsBefore target root other ahead.others.fields key ahead.stored.fields = subst (λ (s : Stored). IsBefore target root other s.fields key ahead.stored.fields) (sym also) before in
      answers_law.strict target root key ahead.stored.fields
      (answers_law.transitive target root key ahead.stored.fields other ahead.others.fields key ahead.stored.fields ahead.before after)

  -- it is a chain
  pub chained : (key other last : List (List ℕ)) → KeyBefore target root documents key other → KeyBefore target root documents other last → KeyBefore target root documents key last
  chained key other last first second =
      let e : Some first.others ≡ Some second.stored = sym first.other_there ∙ second.there in
      let same : first.others ≡ second.stored = cc in
      record {
        stored = first.stored;
        others = second.others;
        there = first.there;
        other_there = second.other_there;
        before = answers_law.transitive target root key first.stored.fields other first.others.fields last second.others.fields first.before
            (subst (λ (s : Stored). IsBefore target root other s.fields last second.others.fields) (sym same) second.before);
      }

  module _ (keys : List (List (List ℕ))) (ordered : AllPairs (KeyBefore target root documents) keys) where
    -- an answer is no longer than the limit
    pub within_limit : (limit : ℕ) → All (Finds target root documents) keys
        → ((key : List (List ℕ)) → Contains keys key → (earlier : List (List (List ℕ))) → ComeBefore target root documents earlier key → length earlier < limit)
        → length keys ≤ limit
    within_limit limit found below =
        elim (cases_lt limit (length keys)) [
          | inl longer ↦
              let key = get_or keys limit [] in
              let first = take limit keys in
              let long = length-take limit keys in
              let earlier : ComeBefore target root documents first key = record {
                distinct = λ i j d before inside. subst (λ x. get_or first i d ≢ x) (sym (get_or-take limit keys j d (omega arith)))
                    (subst (λ x. x ≢ get_or keys j d) (sym (get_or-take limit keys i d (omega arith))) (in_order_apart (KeyBefore target root documents) one_way keys ordered i j d before (omega arith)));
                found = All-take (Finds target root documents) limit keys found;
                before = λ k d inside. subst (λ x. KeyBefore target root documents x key) (sym (get_or-take limit keys k d (omega arith)))
                    (subst (λ x. KeyBefore target root documents (get_or keys k d) x) (get_or_default keys limit d [] longer) (ordered k limit d (omega arith) longer));
              } in
              let fewer = below key (Contains-get_or keys limit [] longer) first earlier in
              absurd (omega arith)
          | inr nolonger ↦ omega arith
        ]

    -- A list of matching documents in order is the answer where each other one is past the limit.
    module _ (found : All (Finds target root documents) keys) (short : IfSome (limit_of target) (λ limit. length keys ≤ limit))
        (covers : (key : List (List ℕ)) → Finds target root documents key → Contains keys key ⊎ IsPastLimit target root documents keys key) where
      within : (limit : Option ℕ) → IfSome limit (λ n. length keys ≤ n) → (key : List (List ℕ)) → Contains keys key → IfSome limit (λ n. (earlier : List (List (List ℕ))) → ComeBefore target root documents earlier key → length earlier < n)
      within None fits key there = tt
      within (Some n) fits key there = λ earlier come.
          let all : All (Contains keys) earlier = λ k d inside.
          elim (covers (get_or earlier k d) (come.found k d inside)) [
            | inl in_keys ↦ in_keys
            | inr past ↦ absurd (one_way key (get_or earlier k d) (All-contains (λ other. KeyBefore target root documents other (get_or earlier k d)) keys key past.3 there) (come.before k d inside))
          ] in
          let most = no_more_before (KeyBefore target root documents) one_way keys there.0 key earlier ordered there.1 there.2 come.distinct all come.before in
          let place = there.1 in
          omega arith

      not_past : (limit : Option ℕ) (n : ℕ) (key : List (List ℕ)) → limit ≡ Some n → n ≤ length keys → All (λ other. KeyBefore target root documents other key) keys
          → IfSome limit (λ m. (earlier : List (List (List ℕ))) → ComeBefore target root documents earlier key → length earlier < m) → ⊥
      not_past None n key is long before fits = cc
      not_past (Some m) n key is long before fits =
          let same : m ≡ n = cc in
          let fewer = fits keys (record { distinct = in_order_apart (KeyBefore target root documents) one_way keys ordered; found = found; before = before }) in
          omega arith

      pub answer_from : IsAnswer target root documents keys
      answer_from = record {
        ordered = ordered;
        members = λ key. (
          λ there. (All-contains (Finds target root documents) keys key found there, within (limit_of target) short key there),
          λ both. elim (covers key both.0) [ inl there ↦ there | inr past ↦ absurd (not_past (limit_of target) past.0 key past.1 past.2 past.3 both.1) ],
        );
      }

  pub answers_once : (keys others : List (List (List ℕ))) → IsAnswer target root documents keys → IsAnswer target root documents others → keys ≡ others
  answers_once keys others one two =
      same_in_order (KeyBefore target root documents) one_way keys others one.ordered two.ordered
      (λ key. ((λ there. (two.members key).1 ((one.members key).0 there)), (λ there. (one.members key).1 ((two.members key).0 there))))

-- the answer of a query of one document is its key, where there is such a document
module _ (wanted : List (List ℕ)) (root : Root) (documents : DocumentMap) where
  answer_as : (found : Option Stored) → map.get documents wanted ≡ found → IsAnswer (Document wanted) root documents (option_to_list (option_map (λ _. wanted) found))
  answer_as None is = answer_from (Document wanted) root documents [] (λ i j d before inside. absurd (omega arith)) (λ k d inside. absurd (omega arith)) tt
      (λ key finds. absurd (let there : None ≡ Some finds.stored = sym is ∙ ap (map.get documents) (sym finds.matches) ∙ finds.there in cc))
  answer_as (Some stored) is = answer_from (Document wanted) root documents (wanted ∷ []) (λ i j d before inside. absurd (omega arith))
      (All-cons (Finds (Document wanted) root documents) wanted [] (record { stored = stored; there = is; matches = refl }) (All-nil (Finds (Document wanted) root documents))) tt
      (λ key finds. inl (0, omega arith, sym finds.matches))

  pub document_answer : IsAnswer (Document wanted) root documents (option_to_list (option_map (λ _. wanted) (map.get documents wanted)))
  document_answer = answer_as (map.get documents wanted) refl

-- the same query without its limit finds the same documents, and has the same order
module _ (target : CollectionTarget) (root : Root) (documents : DocumentMap) where
  finds_less : (key : List (List ℕ)) → Finds (Collection target) root documents key → Finds (Collection (without_limit target)) root documents key
  finds_less key finds = let m = finds.matches in record {
    stored = finds.stored;
    there = finds.there;
    matches = record { inside = m.inside; meets = m.meets; values = m.values; ordered = m.ordered; from_start = m.from_start; to_end = m.to_end };
  }

  finds_more : (key : List (List ℕ)) → Finds (Collection (without_limit target)) root documents key → Finds (Collection target) root documents key
  finds_more key finds = let m = finds.matches in record {
    stored = finds.stored;
    there = finds.there;
    matches = record { inside = m.inside; meets = m.meets; values = m.values; ordered = m.ordered; from_start = m.from_start; to_end = m.to_end };
  }

  before_more : (key other : List (List ℕ)) → KeyBefore (Collection (without_limit target)) root documents key other → KeyBefore (Collection target) root documents key other
  before_more key other ahead = let b = ahead.before in record {
    stored = ahead.stored;
    others = ahead.others;
    there = ahead.there;
    other_there = ahead.other_there;
    before = record { xs = b.xs; ys = b.ys; has = b.has; other_has = b.other_has; precedes = b.precedes };
  }

  front_answers : (limit : ℕ) (all : List (List (List ℕ))) → target.limit ≡ Some limit → IsAnswer (Collection (without_limit target)) root documents all → IsAnswer (Collection target) root documents (take limit all)
  front_answers limit all is answer =
      let R = KeyBefore (Collection target) root documents in
      let long = length-take limit all in
      let ordered : AllPairs R all = λ i j d before inside. before_more (get_or all i d) (get_or all j d) (answer.ordered i j d before inside) in
      let found : All (Finds (Collection target) root documents) all = λ k d inside. finds_more (get_or all k d) ((answer.members (get_or all k d)).0 (Contains-get_or all k d inside)).0 in
      let short : IfSome target.limit (λ n. length (take limit all) ≤ n) = subst (λ o. IfSome o (λ n. length (take limit all) ≤ n)) (sym is) (omega arith) in
      answer_from (Collection target) root documents (take limit all) (pairs_taken R limit all ordered) (All-take (Finds (Collection target) root documents) limit all found) short
      (λ key finds.
      let there = (answer.members key).1 (finds_less key finds, tt) in
      let inside = there.1 in
      elim (cases_lt there.0 limit) [
        | inl first ↦ inl (there.0, omega arith, get_or-take limit all there.0 key first ∙ there.2)
        | inr later ↦ inr (
          limit,
          is,
          omega arith,
          λ k d below. subst (λ x. R x key) (sym (get_or-take limit all k d (omega arith)))
              (subst (λ x. R (get_or all k d) x) (get_or_default all there.0 d key inside ∙ there.2) (ordered k there.0 d (omega arith) inside)),
        )
      ])

pub fronts_answer : AnswersAreFronts
fronts_answer target root documents limit keys all is answer whole =
    answers_once (Collection target) root documents keys (take limit all) answer (front_answers target root documents limit all is whole)

module _ (target : Target) (root : Root) (before after : DocumentMap) (keys : List (List (List ℕ))) (answer : IsAnswer target root before keys) (same : All (λ key. map.get after key ≡ map.get before key) keys) where
  found_before : All (Finds target root before) keys
  found_before k d inside = ((answer.members (get_or keys k d)).0 (Contains-get_or keys k d inside)).0

  short_by : (limit : Option ℕ) → ((key : List (List ℕ)) → Contains keys key → IfSome limit (λ n. (earlier : List (List (List ℕ))) → ComeBefore target root before earlier key → length earlier < n)) → IfSome limit (λ n. length keys ≤ n)
  short_by None below = tt
  short_by (Some n) below = within_limit target root before keys answer.ordered n found_before below

  still_ordered : AllPairs (KeyBefore target root after) keys
  still_ordered i j d ahead inside = let b = answer.ordered i j d ahead inside in record {
    stored = b.stored;
    others = b.others;
    there = same i d (omega arith) ∙ b.there;
    other_there = same j d inside ∙ b.other_there;
    before = b.before;
  }

  still_found : All (Finds target root after) keys
  still_found k d inside = let f = found_before k d inside in record { stored = f.stored; there = same k d inside ∙ f.there; matches = f.matches }

  stays : ((key : List (List ℕ)) → Finds target root after key → Contains keys key ⊎ IsPastLimit target root after keys key) → IsAnswer target root after keys
  stays covers = answer_from target root after keys still_ordered still_found (short_by (limit_of target) (λ key there. ((answer.members key).0 there).1)) covers

pub answers_stay : AnswersStay
answers_stay target root before after keys answer same covers = stays target root before after keys answer same covers
