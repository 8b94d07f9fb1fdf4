-- the keys of a collection, found along the keys of a table in their order
use Rattle.std.proofs.Common.{◌≡◌, ◌∙◌, ◌↔◌, ◌⊎◌, inl, inr, ℕ, suc, Bool, true, false, cond, IsTrue, List, [], ◌∷◌, ◌++◌, ◌<◌, length, get_or, Ordering, Less, Equal, Greater, refl, sym, subst, arith}
use Rattle.std.specs.Cmp.{eq_by_cmp_equiv}
use Rattle.std.specs.List.{All, AllPairs, Contains, filter}
use Rattle.std.specs.List.Sorted.{IsPermutation, IsSorted, IsStrictlySortedBy}
use Rattle.std.specs.Ordering.{is_eq, is_lt, ordering_reverse}
use Rattle.std.proofs.lemmas.List.{get_or_default}
use Rattle.std.proofs.lemmas.List.Elements.{All-contains, All-head, All-tail, Contains-append_cases, Contains-append_left, Contains-append_right, Contains-push, Contains-push_cases}
use Rattle.std.proofs.lemmas.List.Quantifiers.{all_pairs_push}
use Rattle.std.proofs.lemmas.List.Sorted.{Contains-permutation, IsPermutation-sym, ranks_by, sorted_far}
use Rattle.std.proofs.lemmas.Map.Keys.{IsDistinct-IsPermutation, IsDistinct-from_apart, Less-from_sorted, apart_from_distinct}
use Rattle.std.proofs.lemmas.Map.Views.{Contains-from_any, list_any-from_Contains}
use Rattle.document_keys.specs.KeySet.{Inserts, is_key}
use Rattle.document_keys.specs.Names.{IsKey, IsSegment}
use Rattle.document_keys.specs.Order.{PathBefore}
use Rattle.document_keys.proofs.Exact.{key_is}
use Rattle.document_keys.proofs.Order.{paths_compute}
use Rattle.value_model.specs.Documents.{IsIn}
use Rattle.key_table.specs.Ranges.{IsBelow}
use Rattle.key_table.specs.Table.{Differ, HasKeysOf, Pairs, has_key}
use Rattle.key_table.proofs.Ranges.{IsFrom, between, from_least, in_part, in_whole, only, order, part, part_from, part_sorted}

-- a key stands in the order exactly where the table has it
pub has_from_order : {V : Type 0} (table : Pairs V) (keys : List (List (List ℕ))) → HasKeysOf table keys → (q : List (List ℕ)) → Contains keys q ↔ IsTrue (has_key table q)
has_from_order table keys same q = (
  λ there. sym (same q) ∙ list_any-from_Contains (eq_by_cmp_equiv paths_compute.total) q keys there,
  λ has. Contains-from_any key_is q keys (same q ∙ has),
)

-- the key of a document of the collection, among these
abbrev pub Listed : List (List ℕ) → List (List (List ℕ)) → List (List ℕ) → Type 0
Listed collection keys key = Contains keys key × IsIn collection key

-- the keys found so far, and what is left of the whole; each two of them are in the relation
pub record Listing (R : List (List ℕ) → List (List ℕ) → Type 0) (collection : List (List ℕ)) (whole left found : List (List (List ℕ))) : Type 0 where
  pub known : (q : List (List ℕ)) → Contains found q → Listed collection whole q
  pub others : (q : List (List ℕ)) → Listed collection whole q → Contains found q ⊎ Listed collection left q
  pub within : (q : List (List ℕ)) → Contains left q → Contains whole q
  pub paired : AllPairs R found
  pub before : (q : List (List ℕ)) → Contains found q → All (R q) left
  pub ahead : AllPairs R left

no_member : (q : List (List ℕ)) → Contains [] q → ⊥
no_member q there = absurd (omega (arith, there.1))

pub all_left : (R : List (List ℕ) → List (List ℕ) → Type 0) (collection : List (List ℕ)) (whole found : List (List (List ℕ))) → found ≡ [] → AllPairs R whole → Listing R collection whole whole found
all_left R collection whole found none paired = subst (Listing R collection whole whole) (sym none) (record {
  known = λ q there. absurd (no_member q there);
  others = λ q is. inr is;
  within = λ q is. is;
  paired = λ i j d before below. absurd (omega arith);
  before = λ q there. absurd (no_member q there);
  ahead = paired;
})

-- the one key is before the other
abbrev pub Precedes : List (List ℕ) → List (List ℕ) → Type 0
Precedes x y = order x y ≡ Less

module _ {R : List (List ℕ) → List (List ℕ) → Type 0} (collection : List (List ℕ)) (whole : List (List (List ℕ))) (k : List (List ℕ)) (left rest found : List (List (List ℕ))) (is : rest ≡ k ∷ left) (so_far : Listing R collection whole rest found) where
  here : Listing R collection whole (k ∷ left) found
  here = subst (λ t. Listing R collection whole t found) is so_far

  ahead_left : AllPairs R left
  ahead_left = λ i j d before below. here.ahead (suc i) (suc j) d (omega arith) (omega arith)

  first_before : All (R k) left
  first_before = λ i d below. here.ahead 0 (suc i) d (omega arith) (omega arith)

  is_within : Contains whole k
  is_within = here.within k (Contains-append_left (k ∷ []) left k (0, omega arith, refl))

  -- the first key, or one behind it
  first_or : (q : List (List ℕ)) → Listed collection (k ∷ left) q → ((k ≡ q) × IsIn collection k) ⊎ Listed collection left q
  first_or q (there, inside) = elim (Contains-append_cases (k ∷ []) left q there) [
    | inl first ↦ inl (only k q first, subst (IsIn collection) (sym (only k q first)) inside)
    | inr behind ↦ inr (behind, inside)
  ]

  -- the key is passed over
  pub passed : ¬ (IsIn collection k) → Listing R collection whole left found
  passed not_it = record {
    known = here.known;
    others = λ q listed. elim (here.others q listed) [ inl there ↦ inl there | inr ahead ↦ elim (first_or q ahead) [ inl first ↦ absurd (not_it first.1) | inr behind ↦ inr behind ] ];
    within = λ q there. here.within q (Contains-append_right (k ∷ []) left q there);
    paired = here.paired;
    before = λ q there. All-tail (R q) k left (here.before q there);
    ahead = ahead_left;
  }

  -- the key is taken
  pub taken : (after : List (List (List ℕ))) → after ≡ found ++ k ∷ [] → IsIn collection k → Listing R collection whole left after
  taken after pushed it = subst (Listing R collection whole left) (sym pushed) (record {
    known = λ q there. elim (Contains-push_cases found k q there) [ inl old ↦ here.known q old | inr same ↦ subst (Listed collection whole) same (is_within, it) ];
    others = λ q listed. elim (here.others q listed) [
      | inl there ↦ inl (Contains-append_left found (k ∷ []) q there)
      | inr ahead ↦ elim (first_or q ahead) [ inl first ↦ inl (subst (λ x. Contains (found ++ k ∷ []) x) first.0 (Contains-push found k)) | inr behind ↦ inr behind ]
    ];
    within = λ q there. here.within q (Contains-append_right (k ∷ []) left q there);
    paired = all_pairs_push R found k here.paired (λ i d below. All-head (R (get_or found i d)) k left (here.before (get_or found i d) (i, below, get_or_default found i (get_or found i d) d below)));
    before = λ q there. elim (Contains-push_cases found k q there) [
      | inl old ↦ All-tail (R q) k left (here.before q old)
      | inr same ↦ subst (λ y. All (R y) left) same first_before
    ];
    ahead = ahead_left;
  })

-- no key is ahead where the first one isn't below the collection
pub none_ahead : (collection : List (List ℕ)) (whole : List (List (List ℕ))) (k : List (List ℕ)) (left rest found : List (List (List ℕ))) → rest ≡ k ∷ left → Listing Precedes collection whole rest found → All (IsFrom collection) whole → ¬ (IsBelow collection k) → (q : List (List ℕ)) → ¬ (Listed collection rest q)
none_ahead collection whole k left rest found is so_far from not_below q listed = elim (first_or collection whole k left rest found is so_far q (subst (λ t. Listed collection t q) is listed)) [
  | inl first ↦ not_below (first.1.0 ∷ [], first.1.1)
  | inr behind ↦
      let first = All-contains (IsFrom collection) whole k from (is_within collection whole k left rest found is so_far) in
      let after = All-contains (Precedes k) left q (first_before collection whole k left rest found is so_far) behind.0 in
      not_below (between collection ((0 ∷ []) ∷ []) (behind.1.0 ∷ []) k first (subst (Precedes k) behind.1.1 after))
]

pub none_at_end : (collection : List (List ℕ)) (left : List (List (List ℕ))) → left ≡ [] → (q : List (List ℕ)) → ¬ (Listed collection left q)
none_at_end collection left none q ahead = no_member q (subst (λ t. Contains t q) none ahead.0)

-- at the end the keys are those of the collection's documents
pub none_left : {R : List (List ℕ) → List (List ℕ) → Type 0} {collection : List (List ℕ)} {found : List (List (List ℕ))} (whole left : List (List (List ℕ))) → ((q : List (List ℕ)) → ¬ (Listed collection left q)) → Listing R collection whole left found → (q : List (List ℕ)) → Contains found q ↔ Listed collection whole q
none_left whole left none is q = (
  is.known q,
  λ listed. elim (is.others q listed) [ inl found ↦ found | inr ahead ↦ absurd (none q ahead) ],
)

pub ascending_paths : (keys : List (List (List ℕ))) → AllPairs Precedes keys → AllPairs PathBefore keys
ascending_paths keys ascending = λ i j d before below. paths_compute.below (get_or keys i d) (get_or keys j d) (ascending i j d before below)

-- ---- along the order

-- the part of the order that a listing goes along
pub record Along (collection : List (List ℕ)) (keys whole : List (List (List ℕ))) : Type 0 where
  pub is : whole ≡ part collection keys
  pub sorted : IsStrictlySortedBy order keys

module _ (collection : List (List ℕ)) (keys whole : List (List (List ℕ))) (along : Along collection keys whole) where
  pub along_paired : AllPairs Precedes whole
  along_paired = subst (AllPairs Precedes) (sym along.is) (λ i j d before below. Less-from_sorted order (part collection keys) i j d (part_sorted collection keys along.sorted) before below)

  pub along_from : All (IsFrom collection) whole
  along_from = subst (All (IsFrom collection)) (sym along.is) (part_from collection keys)

  -- its documents of the collection are those of the order
  pub along_members : ((q : List (List ℕ)) → Contains keys q → IsKey q) → (q : List (List ℕ)) → Listed collection whole q ↔ (IsIn collection q × Contains keys q)
  along_members documents q = (
    λ listed. (listed.1, in_whole collection keys q (subst (λ t. Contains t q) along.is listed.0)),
    λ both.
        let key = documents q both.1 in
        let long : 0 < length both.0.0 = (All-contains IsSegment q both.0.0 key.segments (subst (λ p. Contains p both.0.0) (sym both.0.1) (Contains-push collection both.0.0))).long.some in
        let from : IsFrom collection q = subst (IsFrom collection) (sym both.0.1) (from_least collection both.0.0 long) in
        (subst (λ t. Contains t q) (sym along.is) (in_part collection keys q from both.1), both.0),
  )

  -- where nothing is left, they are what was found
  pub all_listed : ((q : List (List ℕ)) → Contains keys q → IsKey q) → (left found : List (List (List ℕ))) → ((q : List (List ℕ)) → ¬ (Listed collection left q)) → Listing Precedes collection whole left found → (q : List (List ℕ)) → Contains found q ↔ (IsIn collection q × Contains keys q)
  all_listed documents left found none is q =
      let one = none_left whole left none is q in
      let two = along_members documents q in
      (λ there. two.0 (one.0 there), λ both. one.1 (two.1 both))

-- ---- over all keys

-- where nothing is left, what was found are the keys of the table that are in the collection
pub all_found : {V : Type 0} {R : List (List ℕ) → List (List ℕ) → Type 0} (table : Pairs V) (collection : List (List ℕ)) (whole left found : List (List (List ℕ))) → HasKeysOf table whole → left ≡ [] → Listing R collection whole left found → (q : List (List ℕ)) → Contains found q ↔ (IsIn collection q × IsTrue (has_key table q))
all_found table collection whole left found has none is q =
    let one = none_left whole left (none_at_end collection left none) is q in
    let two = has_from_order table whole has q in
    (λ there. ((one.0 there).1, two.0 ((one.0 there).0)), λ both. one.1 (two.1 both.1, both.0))

-- the keys that a listing finds among all, then sorted
pub sorted_once : (keys after : List (List (List ℕ))) → AllPairs Differ keys → IsPermutation keys after → IsSorted order after → AllPairs PathBefore after
sorted_once keys after once moved sorted = ascending_paths after (λ i j d before below.
    let apart : is_key (get_or after i d) (get_or after j d) ≡ false = apart_from_distinct is_key after i j d (IsDistinct-IsPermutation is_key flips keys after moved (IsDistinct-from_apart is_key keys once)) before below in
    let not_after = sorted_far (λ x y. is_lt (order x y)) (ranks_by paths_compute.total (λ x. x)) after sorted i j d (omega arith) below in
    less (order (get_or after i d) (get_or after j d)) (order (get_or after j d) (get_or after i d)) apart (paths_compute.total.antisymm (get_or after j d) (get_or after i d)) not_after)
  where
    flips : (x y : List (List ℕ)) → is_key x y ≡ is_key y x
    flips = (eq_by_cmp_equiv paths_compute.total).symm

    less : (o turned : Ordering) → is_eq o ≡ false → turned ≡ ordering_reverse o → is_lt turned ≡ false → o ≡ Less
    less Less turned apart is not_after = refl
    less Equal turned apart is not_after = cc
    less Greater turned apart is not_after = let lower = subst (λ t. is_lt t ≡ false) is not_after in cc

pub permuted_members : (keys after : List (List (List ℕ))) → IsPermutation keys after → (q : List (List ℕ)) → Contains after q ↔ Contains keys q
permuted_members keys after moved q = (Contains-permutation after keys q (IsPermutation-sym keys after moved), Contains-permutation keys after q moved)

-- ---- all keys

-- the keys gathered so far, and what is left of the whole
pub record Gathered (whole left found : List (List (List ℕ))) : Type 0 where
  pub known : (q : List (List ℕ)) → Contains found q → Contains whole q
  pub others : (q : List (List ℕ)) → Contains whole q → Contains found q ⊎ Contains left q
  pub within : (q : List (List ℕ)) → Contains left q → Contains whole q

pub none_yet : (whole found : List (List (List ℕ))) → found ≡ [] → Gathered whole whole found
none_yet whole found none = subst (Gathered whole whole) (sym none) (record {
  known = λ q there. absurd (no_member q there);
  others = λ q is. inr is;
  within = λ q is. is;
})

pub gathered : (whole : List (List (List ℕ))) (k : List (List ℕ)) (left rest found after : List (List (List ℕ))) → rest ≡ k ∷ left → Inserts k found after → Gathered whole rest found → Gathered whole left after
gathered whole k left rest found after is more so_far =
    let now = subst (λ t. Gathered whole t found) is so_far in
    record {
      known = λ q there. elim ((more q).0 there) [ inl same ↦ subst (Contains whole) (sym same) (now.within k (Contains-append_left (k ∷ []) left k (0, omega arith, refl))) | inr old ↦ now.known q old ];
      others = λ q there. elim (now.others q there) [
        | inl got ↦ inl ((more q).1 (inr got))
        | inr ahead ↦ elim (Contains-append_cases (k ∷ []) left q ahead) [ inl first ↦ inl ((more q).1 (inl (sym (only k q first)))) | inr later ↦ inr later ]
      ];
      within = λ q there. now.within q (Contains-append_right (k ∷ []) left q there);
    }

-- at the end the keys are all of the whole
pub all_gathered : {found : List (List (List ℕ))} (whole left : List (List (List ℕ))) → left ≡ [] → Gathered whole left found → (q : List (List ℕ)) → Contains found q ↔ Contains whole q
all_gathered whole left none is q = (
  is.known q,
  λ there. elim (is.others q there) [
    | inl got ↦ got
    | inr ahead ↦ absurd (no_member q (subst (λ t. Contains t q) none ahead))
  ],
)

-- ---- some keys of a listing

-- a key is among those that pass a test where it is in the list and passes
pub passing : (test : List (List ℕ) → Bool) (keys : List (List (List ℕ))) (q : List (List ℕ)) → Contains (filter test keys) q ↔ (Contains keys q × (test q ≡ true))
passing test [] q = (λ there. absurd (no_member q there), λ both. both.0)
passing test (k ∷ keys) q = by (test k) refl (passing test keys q)
  where
    by : (b : Bool) → test k ≡ b → Contains (filter test keys) q ↔ (Contains keys q × (test q ≡ true)) → Contains (cond b (k ∷ filter test keys) (filter test keys)) q ↔ (Contains (k ∷ keys) q × (test q ≡ true))
    by true e rest = (
      λ there. elim (Contains-append_cases (k ∷ []) (filter test keys) q there) [
        | inl first ↦ (Contains-append_left (k ∷ []) keys q first, subst (λ x. test x ≡ true) (only k q first) e)
        | inr behind ↦ (Contains-append_right (k ∷ []) keys q ((rest.0 behind).0), (rest.0 behind).1)
      ],
      λ both. elim (Contains-append_cases (k ∷ []) keys q both.0) [
        | inl first ↦ Contains-append_left (k ∷ []) (filter test keys) q first
        | inr behind ↦ Contains-append_right (k ∷ []) (filter test keys) q (rest.1 (behind, both.1))
      ],
    )
    by false e rest = (
      λ there. (Contains-append_right (k ∷ []) keys q ((rest.0 there).0), (rest.0 there).1),
      λ both. elim (Contains-append_cases (k ∷ []) keys q both.0) [
        | inl first ↦ let passes = both.1 in let no = subst (λ x. test x ≡ false) (only k q first) e in cc
        | inr behind ↦ rest.1 (behind, both.1)
      ],
    )

-- of the keys of a table that are in something, those that pass a test which only such keys pass
pub passing_members : {V : Type 0} (test : List (List ℕ) → Bool) (table : Pairs V) (InIt : List (List ℕ) → Type 0) (old new : List (List (List ℕ))) → new ≡ filter test old
    → ((q : List (List ℕ)) → Contains old q ↔ (InIt q × IsTrue (has_key table q)))
    → ((q : List (List ℕ)) → IsTrue (test q) → IsTrue (has_key table q))
    → (q : List (List ℕ)) → Contains new q ↔ (InIt q × IsTrue (test q))
passing_members test table InIt old new kept members has q = (
  λ there.
      let both = (passing test old q).0 (subst (λ l. Contains l q) kept there) in
      (((members q).0 both.0).0, both.1),
  λ both. subst (λ l. Contains l q) (sym kept) ((passing test old q).1 ((members q).1 (both.0, has q both.1), both.1)),
)
