-- What the theorem asks of the answers of queries.
use Rattle.std.proofs.Common.{◌≡◌, ◌≢◌, ◌⊎◌, inl, inr, ℕ, zero, suc, ◌+◌, ◌<◌, ◌≤◌, Bool, true, false, List, [], ◌∷◌, length, get_or, Option, Some, None, IfSome, option_map, refl, sym, ap, subst, ◌∙◌, arith}
use Rattle.std.specs.FinMap as finite
use Rattle.std.specs.FinMap.Entries.{find, is_some-find}
use Rattle.std.specs.Option.{is_some}
use Rattle.std.specs.List.{All, AllPairs, Contains, list_any}
use Rattle.std.specs.Bool.{Decides}
use Rattle.std.specs.Ordering.{nat_cmp}
use Rattle.std.specs.Cmp.Lexicographic.{slice_cmp}
use Rattle.std.proofs.lemmas.Bool.{cases_lt}
use Rattle.std.proofs.lemmas.List.Elements.{All-cons, All-nil, All-contains, Contains-get_or}
use Rattle.std.proofs.lemmas.List.Kept.{AllPairs-cons}
use Rattle.std.proofs.lemmas.Map.Keys.{IsDistinct-from_apart}
use Rattle.std.proofs.lemmas.Map.Made.{is_member-Decides}
use Rattle.document_keys.specs.Names.{Root}
use Rattle.value_model.specs.Documents.{DocumentMap, Stored}
use Rattle.queries.specs.Answer.{Finds, KeyBefore, ComeBefore, limit_of, IsAnswer, IsPastLimit}
use Rattle.queries.specs.Checked.{IsChecked}
use Rattle.queries.specs.Matching.{Matches}
use Rattle.queries.specs.declared.target.Target.{Target}
use Rattle.queries.specs.declared.target.Target.TheVariants.{Document}
use Rattle.queries.proofs.Answers.{one_way, chained}
use Rattle.queries.proofs.Candidates.{false_from}
use Rattle.queries.proofs.Counting.{in_order_apart, no_more_than}
use Rattle.queries.proofs.Lawful.{answers_law}
use Rattle.agreement.specs.Backend.{Key, is_key, Written, written, document_at, Answers}
use Rattle.agreement.specs.Answers.{AnswersAreDistinct, AnswersAreThere, DocumentsAreAnswered, AnswersAreKept}
use Rattle.agreement.proofs.Counting.{is_key-true, is_key-decides}

pub answers_distinct : AnswersAreDistinct
answers_distinct query root documents keys answer =
    IsDistinct-from_apart is_key keys (λ i j d ahead inside. false_from _ (λ yes.
    in_order_apart (KeyBefore query root documents) (one_way query root documents) keys answer.ordered i j d ahead inside (is_key-true _ _ yes)))

pub answers_there : AnswersAreThere
answers_there query root documents key answer = (written answer.0.stored, ap (option_map written) answer.0.there)

answered_by : (root : Root) (documents : DocumentMap) (key : Key) (d : Written) (found : Option Stored) → finite.get documents key ≡ found → option_map written found ≡ Some d
    → Answers (Document key) root documents key
answered_by root documents key d None is there = cc
answered_by root documents key d (Some stored) is there = (record { stored = stored; there = is; matches = refl }, tt)

pub documents_answered : DocumentsAreAnswered
documents_answered query root documents key d wants there =
    subst (λ (q : Target). Answers q root documents key) (sym wants) (answered_by root documents key d (finite.get documents key) refl there)

-- lists of keys, by the test
pub has_decides : (keys : List Key) (key : Key) → Decides (list_any (is_key key) keys) (Contains keys key)
has_decides keys key = is_member-Decides is_key-decides keys key

in_or_not : (keys : List Key) (key : Key) → Contains keys key ⊎ (Contains keys key → ⊥)
in_or_not keys key = by (list_any (is_key key) keys) (has_decides keys key)
  where
    by : (b : Bool) → Decides b (Contains keys key) → Contains keys key ⊎ (Contains keys key → ⊥)
    by true decides = inl (decides.0 refl)
    by false decides = inr (λ there. let yes = decides.1 there in cc)

all_or_one : (keys xs : List Key) → All (Contains keys) xs ⊎ ((x : Key) × Contains xs x × (Contains keys x → ⊥))
all_or_one keys [] = inl (All-nil (Contains keys))
all_or_one keys (x ∷ xs) = elim (in_or_not keys x) [
  | inr out ↦ inr (x, (0, omega arith, refl), out)
  | inl here ↦ elim (all_or_one keys xs) [
    | inl all ↦ inl (All-cons (Contains keys) x xs here all)
    | inr one ↦ inr (one.0, (suc one.1.0, omega (arith, one.1.1), one.1.2), one.2)
  ]
]

-- the keys of a map
key_listed : (documents : DocumentMap) (key : Key) (stored : Stored) → finite.get documents key ≡ Some stored → Contains (finite.keys documents) key
key_listed documents key stored there =
    let found : is_some (find (slice_cmp (slice_cmp nat_cmp)) key (finite.entries documents)) ≡ true = ap is_some (sym (finite.get-entries documents key) ∙ there) in
    (is_member-Decides is_key-decides (finite.keys documents) key).0 (sym (is_some-find (slice_cmp (slice_cmp nat_cmp)) key (finite.entries documents)) ∙ found)

module _ (query : Target) (root : Root) (documents : DocumentMap) (keys : List Key) (checked : IsChecked query) (answer : IsAnswer query root documents keys) where
  abbrev Within : Option ℕ → Key → Type 0
  Within limit key = IfSome limit (λ n. (earlier : List Key) → ComeBefore query root documents earlier key → length earlier < n)

  -- of two different documents that match one is before the other
  either_before : (key other : Key) → Finds query root documents key → Finds query root documents other → key ≢ other
      → KeyBefore query root documents key other ⊎ KeyBefore query root documents other key
  either_before key other finds also apart =
      elim (answers_law.total query root key finds.stored.fields other also.stored.fields checked finds.matches also.matches apart) [
        | inl first ↦ inl (record { stored = finds.stored; others = also.stored; there = finds.there; other_there = also.there; before = first })
        | inr second ↦ inr (record { stored = also.stored; others = finds.stored; there = also.there; other_there = finds.there; before = second })
      ]

  -- what comes before one document comes before those behind it
  come_before : (earlier : List Key) (key other : Key) → KeyBefore query root documents key other → ComeBefore query root documents earlier key → ComeBefore query root documents earlier other
  come_before earlier key other ahead come = record {
    distinct = come.distinct;
    found = come.found;
    before = λ k d inside. chained query root documents (get_or earlier k d) key other (come.before k d inside) ahead;
  }

  sooner : (limit : Option ℕ) (key other : Key) → KeyBefore query root documents key other → Within limit other → Within limit key
  sooner None key other behind within = tt
  sooner (Some n) key other behind within = λ earlier come. within earlier (come_before earlier key other behind come)

  -- the answer stands before each other document that matches
  before_rest : (key : Key) → Finds query root documents key → (Contains keys key → ⊥) → (other : Key) → Contains keys other → KeyBefore query root documents other key
  before_rest key finds out other inside =
      let others = (answer.members other).0 inside in
      elim (either_before other key others.0 finds (λ same. out (subst (Contains keys) same inside))) [
        | inl ahead ↦ ahead
        | inr behind ↦ absurd (out ((answer.members key).1 (finds, sooner (limit_of query) key other behind others.1)))
      ]

  module _ (limit : ℕ) (is : limit_of query ≡ Some limit) (fewer : length keys < limit) where
    fits : (key : Key) → ((other : Key) → Finds query root documents other → (Contains keys other → ⊥) → KeyBefore query root documents other key → ⊥)
        → (earlier : List Key) → ComeBefore query root documents earlier key → length earlier < limit
    fits key none earlier come = elim (all_or_one keys earlier) [
      | inl all ↦ let most = no_more_than earlier keys come.distinct all in omega arith
      | inr one ↦ absurd (none one.0 (All-contains (Finds query root documents) earlier one.0 come.found one.1) one.2
          (All-contains (λ other. KeyBefore query root documents other key) earlier one.0 come.before one.1))
    ]

    -- With fewer keys than the limit the answer has all: of those that it hasn't, each would have another one before it.
    none_left : (fuel : ℕ) (chain : List Key) (key : Key) → Finds query root documents key → (Contains keys key → ⊥)
        → AllPairs (KeyBefore query root documents) (key ∷ chain) → All (Contains (finite.keys documents)) (key ∷ chain)
        → length (finite.keys documents) ≤ length chain + fuel → ⊥
    none_left zero chain key finds out ordered listed enough =
        let most = no_more_than (key ∷ chain) (finite.keys documents) (in_order_apart (KeyBefore query root documents) (one_way query root documents) (key ∷ chain) ordered) listed in
        absurd (omega arith)
    none_left (suc fuel) chain key finds out ordered listed enough =
        out ((answer.members key).1 (
          finds,
          subst (λ (o : Option ℕ). Within o key) (sym is) (fits key (λ other also away ahead.
              none_left fuel (key ∷ chain) other also away
              (AllPairs-cons (KeyBefore query root documents) other (key ∷ chain)
              (All-cons (KeyBefore query root documents other) key chain ahead (λ k d inside. chained query root documents other key (get_or chain k d) ahead (ordered 0 (suc k) d (omega arith) (omega arith)))) ordered)
              (All-cons (Contains (finite.keys documents)) other (key ∷ chain) (key_listed documents other also.stored also.there) listed)
              (omega (arith, enough)))),
        ))

  past_limit : (key : Key) → Finds query root documents key → (Contains keys key → ⊥) → IsPastLimit query root documents keys key
  past_limit key finds out = by (limit_of query) refl
    where
      enough : (n : ℕ) → limit_of query ≡ Some n → n ≤ length keys
      enough n is = elim (cases_lt (length keys) n) [
        | inr most ↦ omega arith
        | inl fewer ↦ absurd (none_left n is fewer (length (finite.keys documents)) [] key finds out
            (AllPairs-cons (KeyBefore query root documents) key [] (All-nil (KeyBefore query root documents key)) (λ i j d ahead inside. absurd (omega arith)))
            (All-cons (Contains (finite.keys documents)) key [] (key_listed documents key finds.stored finds.there) (All-nil (Contains (finite.keys documents)))) (omega arith))
      ]

      by : (o : Option ℕ) → limit_of query ≡ o → IsPastLimit query root documents keys key
      by None is = absurd (out ((answer.members key).1 (finds, subst (λ (o : Option ℕ). Within o key) (sym is) tt)))
      by (Some n) is = (n, is, enough n is, λ k d inside. before_rest key finds out (get_or keys k d) (Contains-get_or keys k d inside))

  -- a document of the same fields matches as well
  finds_same : (found : Option Stored) (key : Key) (stored : Stored) → finite.get documents key ≡ found → option_map written found ≡ Some (written stored)
      → Matches query root key stored.fields → Finds query root documents key
  finds_same None key stored is same matches = cc
  finds_same (Some here) key stored is same matches =
      let equal : written here ≡ written stored = cc in
      record { stored = here; there = is; matches = subst (λ (w : Written). Matches query root key w.fields) (sym equal) matches }

  pub kept : (others : DocumentMap) (key : Key) → document_at documents key ≡ document_at others key → Answers query root others key
      → Contains keys key ⊎ IsPastLimit query root documents keys key
  kept others key same answered =
      let finds = finds_same (finite.get documents key) key answered.0.stored refl (same ∙ ap (option_map written) answered.0.there) answered.0.matches in
      elim (in_or_not keys key) [ inl here ↦ inl here | inr out ↦ inr (past_limit key finds out) ]

pub answers_kept : AnswersAreKept
answers_kept query root documents others keys key checked answer same answered = kept query root documents keys checked answer others key same answered
