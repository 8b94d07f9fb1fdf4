-- one name after another: fields copied from others, made where there are none, and put back
use Rattle.std.proofs.Common.{◌≡◌, ◌≢◌, ◌∙◌, ◌⊎◌, inl, inr, ℕ, zero, suc, ◌+◌, ◌<◌, ◌≤◌, Bool, true, false, cond, Ordering, Less, Equal, Greater, Option, Some, None, List, [], ◌∷◌, ◌++◌, length, get_or, take, drop, option_map, refl, sym, ap, subst, arith}
use Rattle.std.specs.Prelude.{IsSome, is_some, OnSome}
use Rattle.std.specs.Cmp.Lexicographic.{slice_cmp}
use Rattle.std.specs.List.{All, AllPairs, slice_get}
use Rattle.std.specs.Map.{keys_of}
use Rattle.std.specs.Ordering.{nat_cmp, is_eq}
use Rattle.std.proofs.lemmas.List.{take_more, take_all}
use Rattle.std.proofs.lemmas.List.Elements.{All-append, All-cons, All-nil}
use Rattle.document_keys.specs.Order.{TextBefore}
use Rattle.document_keys.specs.Paths.{IsFieldName}
use Rattle.document_keys.proofs.Order.{texts_compute}
use Rattle.value_model.specs.Data.{Data, Entries}
use Rattle.value_model.specs.Fields.{AreFields, field, with_field, without_field}
use Rattle.value_model.specs.Named.{fields_data}
use Rattle.value_model.specs.declared.fields.Field.{Field}
use Rattle.value_model.proofs.Inner.{names_from}
use Rattle.value_model.proofs.Mapped.{map_laws, tail_pairs, first}
use Rattle.value_model.proofs.Named.{names_count, name_at}
use Rattle.mutations.specs.Touched.{HasGrown, HasName, HasNames, IsPartOf, IsTouched, SameAt, SameBeside, SameBut}
use Rattle.mutations.proofs.Taking.{name_cases}

-- ---- whether there is a field

pub has_cases : (fields : Entries) (name : List ℕ) → HasName fields name ⊎ ¬ (HasName fields name)
has_cases fields name = by (field fields name)
  where
    by : (o : Option Data) → IsSome o ⊎ ¬ (IsSome o)
    by (Some value) = inl refl
    by None = inr (λ some. cc)

none_of : (o : Option Data) → ¬ (IsSome o) → o ≡ None
none_of None not = refl
none_of (Some value) not = absurd (not refl)

pub has_none : (fields : Entries) (name : List ℕ) → ¬ (HasName fields name) → field fields name ≡ None
has_none fields name not = none_of (field fields name) not

pub lacks : (fields : Entries) (name : List ℕ) → field fields name ≡ None → ¬ (HasName fields name)
lacks fields name none has = let no : IsSome {T = Data} None = subst IsSome none has in cc

pub no_name : (name : List ℕ) → ¬ (HasName [] name)
no_name name = lacks [] name refl

pub none_told : {X : Type 0} (told : Bool) (found : Option X) (shown : X → Data) (o : Option Data) → told ≡ is_some found → told ≡ false → option_map shown found ≡ o → o ≡ None
none_told told None shown o so not is = sym is
none_told told (Some x) shown o so not is = let no : true ≡ false = sym so ∙ not in absurd cc

-- ---- one field put or taken away

module _ (fields after : Entries) (spelled name : List ℕ) (value : Data) (same : spelled ≡ name) (is : after ≡ with_field fields spelled value) where
  placed : after ≡ with_field fields name value
  placed = is ∙ ap (λ n. with_field fields n value) same

  pub put_is : field after name ≡ Some value
  put_is = ap (λ f. field f name) placed ∙ map_laws.put_here fields name value

  pub put_has : HasName after name
  put_has = subst IsSome (sym put_is) refl

  pub put_but : SameBut name after fields
  put_but other apart = ap (λ f. field f other) placed ∙ map_laws.put_elsewhere fields name value other apart

  pub put_keeps : HasNames after fields
  put_keeps m has = elim (name_cases name m) [
    | inl same ↦ subst (HasName after) (sym same) put_has
    | inr apart ↦ subst IsSome (sym (put_but m apart)) has
  ]

pub removed_but : (fields after : Entries) (name : List ℕ) → after ≡ without_field fields name → SameBut name after fields
removed_but fields after name is other apart = ap (λ f. field f other) is ∙ map_laws.removed_elsewhere fields name other apart

pub removed_is : (fields after : Entries) (name : List ℕ) → AreFields fields → after ≡ without_field fields name → field after name ≡ None
removed_is fields after name are is = ap (λ f. field f name) is ∙ map_laws.removed_here fields name are

pub replaced_in : (before : Option Data) (fields after : Entries) (name : List ℕ) (value : Data) → before ≡ field fields name → HasName fields name → OnSome before (after ≡ with_field fields name value) → after ≡ with_field fields name value
replaced_in (Some x) fields after name value was has there = there
replaced_in None fields after name value was has there = absurd (lacks fields name (sym was) has)

-- ---- the names of paths

pub touched_first : (after : Entries) (path : List (List ℕ)) (name : List ℕ) → slice_get path 0 ≡ Some name → HasName after name → IsTouched after path
touched_first after path name is has = (name, drop 1 path, names_from path 0 name is, has)

pub touched_still : (names after : Entries) → HasNames after names → (path : List (List ℕ)) → IsTouched names path → IsTouched after path
touched_still names after keeps path is = (is.0, is.1, is.2, keeps is.0 is.3)

pub all_more : {X : Type 0} (P Q : X → Type 0) (xs : List X) (i : ℕ) (x : X) → i < length xs → x ≡ get_or xs i x → ((y : X) → P y → Q y) → All P (take i xs) → Q x → All Q (take (i + 1) xs)
all_more P Q xs i x below is weaker all last =
    subst (All Q) (sym (take_more xs i x below ∙ ap (λ y. take i xs ++ y ∷ []) (sym is)))
    (All-append Q (take i xs) (x ∷ []) (λ k d inside. weaker (get_or (take i xs) k d) (all k d inside)) (All-cons Q x [] last (All-nil Q)))

pub all_end : {X : Type 0} (P : X → Type 0) (xs : List X) (i : ℕ) → length xs ≤ i → All P (take i xs) → All P xs
all_end P xs i past all = subst (All P) (take_all i xs past) all

-- ---- the names so far

last_has : (xs : List Field) (x : Field) → HasName (fields_data (xs ++ x ∷ [])) x.name
last_has [] x = subst IsSome (sym (first (x.name, x.value) [] x.name refl)) refl
last_has (y ∷ xs) x = by (is_eq (slice_cmp nat_cmp x.name y.name)) (last_has xs x)
  where
    by : (b : Bool) → HasName (fields_data (xs ++ x ∷ [])) x.name → IsSome (cond b (Some y.value) (field (fields_data (xs ++ x ∷ [])) x.name))
    by true rest = refl
    by false rest = rest

last_keeps : (xs : List Field) (x : Field) (n : List ℕ) → HasName (fields_data xs) n → HasName (fields_data (xs ++ x ∷ [])) n
last_keeps [] x n has = absurd (no_name n has)
last_keeps (y ∷ xs) x n has = by (is_eq (slice_cmp nat_cmp n y.name)) has (last_keeps xs x n)
  where
    by : (b : Bool) → IsSome (cond b (Some y.value) (field (fields_data xs) n)) → (HasName (fields_data xs) n → HasName (fields_data (xs ++ x ∷ [])) n) → IsSome (cond b (Some y.value) (field (fields_data (xs ++ x ∷ [])) n))
    by true has rest = refl
    by false has rest = rest has

last_cases : (xs : List Field) (x : Field) (n : List ℕ) → HasName (fields_data (xs ++ x ∷ [])) n → HasName (fields_data xs) n ⊎ (n ≡ x.name)
last_cases [] x n has = elim (name_cases x.name n) [
  | inl same ↦ inr same
  | inr apart ↦ absurd (no_name n (subst IsSome (passed_by apart) has))
]
  where
    passed_by : n ≢ x.name → field (fields_data (x ∷ [])) n ≡ None
    passed_by apart = by (slice_cmp nat_cmp n x.name) refl
      where
        by : (o : Ordering) → slice_cmp nat_cmp n x.name ≡ o → cond (is_eq o) (Some x.value) None ≡ None
        by Less is = refl
        by Equal is = absurd (apart (texts_compute.exact n x.name is))
        by Greater is = refl
last_cases (y ∷ xs) x n has = by (is_eq (slice_cmp nat_cmp n y.name)) has (last_cases xs x n)
  where
    by : (b : Bool) → IsSome (cond b (Some y.value) (field (fields_data (xs ++ x ∷ [])) n)) → (HasName (fields_data (xs ++ x ∷ [])) n → HasName (fields_data xs) n ⊎ (n ≡ x.name)) → IsSome (cond b (Some y.value) (field (fields_data xs) n)) ⊎ (n ≡ x.name)
    by true has rest = inl refl
    by false has rest = rest has

-- the fields before this place
abbrev pub seen : List Field → ℕ → Entries
seen items i = fields_data (take i items)

module _ (items : List Field) (i : ℕ) (x : Field) (below : i < length items) (is : x ≡ get_or items i x) where
  more : take (i + 1) items ≡ take i items ++ x ∷ []
  more = take_more items i x below ∙ ap (λ y. take i items ++ y ∷ []) (sym is)

  pub seen_has : HasName (seen items (i + 1)) x.name
  seen_has = subst (λ l. HasName (fields_data l) x.name) (sym more) (last_has (take i items) x)

  pub seen_keeps : HasNames (seen items (i + 1)) (seen items i)
  seen_keeps n has = subst (λ l. HasName (fields_data l) n) (sym more) (last_keeps (take i items) x n has)

  pub seen_cases : (n : List ℕ) → HasName (seen items (i + 1)) n → HasName (seen items i) n ⊎ (n ≡ x.name)
  seen_cases n has = last_cases (take i items) x n (subst (λ l. HasName (fields_data l) n) more has)

  -- the same stands at the names so far
  pub at_more : (part now fields : Entries) → field now x.name ≡ field fields x.name → SameBut x.name now part → SameAt (seen items i) part fields → SameAt (seen items (i + 1)) now fields
  at_more part now fields here but so n has = elim (name_cases x.name n) [
    | inl same ↦ subst (λ m. field now m ≡ field fields m) (sym same) here
    | inr apart ↦ elim (seen_cases n has) [
      | inl before ↦ but n apart ∙ so n before
      | inr same ↦ absurd (apart same)
    ]
  ]

  -- the same stands at all others
  pub beside_more : (was now old : Entries) → SameBut x.name now was → SameBeside (seen items i) was old → SameBeside (seen items (i + 1)) now old
  beside_more was now old but so n not =
      but n (λ same. not (subst (HasName (seen items (i + 1))) (sym same) seen_has)) ∙ so n (λ before. not (seen_keeps n before))

  pub there_more : (was now : Entries) → HasNames now was → HasName now x.name → HasNames was (seen items i) → HasNames now (seen items (i + 1))
  there_more was now keeps here so n has = elim (seen_cases n has) [
    | inl before ↦ keeps n (so n before)
    | inr same ↦ subst (HasName now) (sym same) here
  ]

  pub gone_more : (was now : Entries) → SameBut x.name now was → field now x.name ≡ None → ((n : List ℕ) → HasName (seen items i) n → field was n ≡ None) → (n : List ℕ) → HasName (seen items (i + 1)) n → field now n ≡ None
  gone_more was now but here so n has = elim (name_cases x.name n) [
    | inl same ↦ subst (λ m. field now m ≡ None) (sym same) here
    | inr apart ↦ elim (seen_cases n has) [
      | inl before ↦ but n apart ∙ so n before
      | inr same ↦ absurd (apart same)
    ]
  ]

has_item : (items : List Field) (i : ℕ) (x : Field) → i < length items → x ≡ get_or items i x → HasName (fields_data items) x.name
has_item [] i x below is = absurd (omega arith)
has_item (y ∷ items) zero x below is = subst IsSome (sym (first (y.name, y.value) (fields_data items) x.name (ap (λ f. f.name) is))) refl
has_item (y ∷ items) (suc i) x below is = by (is_eq (slice_cmp nat_cmp x.name y.name)) (has_item items i x (omega arith) is)
  where
    by : (b : Bool) → HasName (fields_data items) x.name → IsSome (cond b (Some y.value) (field (fields_data items) x.name))
    by true rest = refl
    by false rest = rest

unseen_among : (items : List Field) (i : ℕ) (x : Field) → AllPairs TextBefore (keys_of (fields_data items)) → i < length items → x ≡ get_or items i x → ¬ (HasName (seen items i) x.name)
unseen_among [] i x all below is has = absurd (omega arith)
unseen_among (y ∷ items) zero x all below is has = no_name x.name has
unseen_among (y ∷ items) (suc i) x all below is has = by (slice_cmp nat_cmp x.name y.name) refl has (unseen_among items i x (tail_pairs y.name (keys_of (fields_data items)) all) (omega arith) is)
  where
    later : get_or (keys_of (fields_data items)) i x.name ≡ x.name
    later = name_at items i x x.name (omega arith) ∙ ap (λ f. f.name) (sym is)

    before : TextBefore y.name x.name
    before = subst (TextBefore y.name) later (all 0 (suc i) x.name (omega arith) (let count = names_count items in omega arith))

    by : (o : Ordering) → slice_cmp nat_cmp x.name y.name ≡ o → IsSome (cond (is_eq o) (Some y.value) (field (seen items i) x.name)) → ¬ (HasName (seen items i) x.name) → ⊥
    by Less is has rest = rest has
    by Equal is has rest =
        let tied = ap (λ n. slice_cmp nat_cmp n x.name) (texts_compute.exact x.name y.name is) ∙ texts_compute.less y.name x.name before in
        let itself = texts_compute.less y.name x.name before in
        let level : slice_cmp nat_cmp y.name y.name ≡ Less = subst (λ n. slice_cmp nat_cmp y.name n ≡ Less) (texts_compute.exact x.name y.name is) itself in
        let equal : slice_cmp nat_cmp y.name y.name ≡ Equal = subst (λ n. slice_cmp nat_cmp n y.name ≡ Equal) (texts_compute.exact x.name y.name is) is in
        let no : Less ≡ Equal = sym level ∙ equal in cc
    by Greater is has rest = rest has

-- the items are the fields of these names
module _ (items : List Field) (names : Entries) (shown : fields_data items ≡ names) where
  pub seen_all : (i : ℕ) → length items ≤ i → seen items i ≡ names
  seen_all i past = ap fields_data (take_all i items past) ∙ shown

  module _ (i : ℕ) (x : Field) (below : i < length items) (is : x ≡ get_or items i x) where
    pub among : HasName names x.name
    among = subst (λ f. HasName f x.name) shown (has_item items i x below is)

    pub named_so : AreFields names → IsFieldName x.name
    named_so are =
        let count = names_count items in
        let all = subst (λ f. All IsFieldName (keys_of f)) (sym shown) are.names in
        subst IsFieldName (name_at items i x x.name below ∙ ap (λ f. f.name) (sym is)) (all i x.name (omega arith))

    pub unseen : AreFields names → ¬ (HasName (seen items i) x.name)
    unseen are = unseen_among items i x (subst (λ f. AllPairs TextBefore (keys_of f)) (sym shown) are.ascending) below is

-- ---- what is copied

pub part_more : (part now fields : Entries) (name : List ℕ) → field now name ≡ field fields name → SameBut name now part → IsPartOf part fields → IsPartOf now fields
part_more part now fields name here but so n has = elim (name_cases name n) [
  | inl same ↦ subst (λ m. field now m ≡ field fields m) (sym same) here
  | inr apart ↦ but n apart ∙ so n (subst IsSome (but n apart) has)
]

pub part_none : (part fields : Entries) (name : List ℕ) → IsPartOf part fields → None ≡ field fields name → field part name ≡ field fields name
part_none part fields name so none = elim (has_cases part name) [
  | inl has ↦ so name has
  | inr not ↦ has_none part name not ∙ none
]

-- ---- what is made, and undone

pub none_grown : (fields : Entries) → HasGrown [] fields fields
none_grown fields = record {
  lacked = λ name has. absurd (no_name name has);
  others = λ name not. refl;
}

pub grown_more : (made made' old fields fields' : Entries) (name : List ℕ) → field fields name ≡ None → HasName made' name → SameBut name made' made → SameBut name fields' fields → HasGrown made old fields → HasGrown made' old fields'
grown_more made made' old fields fields' name none has made_but fields_but so = record {
  lacked = λ n there. elim (name_cases name n) [
    | inl same ↦ subst (λ m. field old m ≡ None) (sym same) here
    | inr apart ↦ so.lacked n (subst IsSome (made_but n apart) there)
  ];
  others = λ n not. elim (name_cases name n) [
    | inl same ↦ absurd (not (subst (HasName made') (sym same) has))
    | inr apart ↦ fields_but n apart ∙ so.others n (λ there. not (subst IsSome (sym (made_but n apart)) there))
  ];
}
  where
    here : field old name ≡ None
    here = elim (has_cases made name) [
      | inl there ↦ so.lacked name there
      | inr not ↦ sym (so.others name not) ∙ none
    ]

pub undone : (made old fields after : Entries) → AreFields old → AreFields after → HasGrown made old fields → ((n : List ℕ) → HasName made n → field after n ≡ None) → SameBeside made after fields → after ≡ old
undone made old fields after are also grown gone beside = map_laws.alike after old also are (λ n. elim (has_cases made n) [
  | inl has ↦ gone n has ∙ sym (grown.lacked n has)
  | inr not ↦ beside n not ∙ grown.others n not
])

pub grown_beside : (names made old new : Entries) → SameBeside names made [] → HasGrown made old new → SameBeside names new old
grown_beside names made old new within grown n not = grown.others n (lacks made n (within n not))
