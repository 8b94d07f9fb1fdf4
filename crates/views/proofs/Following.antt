-- from the rows before, the changes lead to the rows after
use Rattle.std.proofs.Common.{◌≡◌, ◌≢◌, ◌∙◌, ◌↔◌, ◌⊎◌, inl, inr, ℕ, Bool, true, false, List, [], ◌∷◌, ◌++◌, refl, sym, ap, subst}
use Rattle.std.specs.List.{AllPairs, Contains}
use Rattle.std.proofs.lemmas.List.{map-append}
use Rattle.std.proofs.lemmas.List.Elements.{Contains-append_cases, Contains-append_left, Contains-append_right}
use Rattle.document_keys.specs.KeySet.{is_key}
use Rattle.document_keys.proofs.Exact.{key_is, key_same}
use Rattle.value_model.specs.Documents.{Stored}
use Rattle.views.specs.declared.change.Change.{Change}
use Rattle.views.specs.declared.change.Kind.{Kind}
use Rattle.views.specs.declared.change.Kind.TheVariants.{Added, Removed, Modified}
use Rattle.views.specs.Changes.{HasChanges, change, told}
use Rattle.views.specs.Laws.{ChangesAreOne, ChangesFollow, IsInBoth, IsTold, told_keys}
use Rattle.views.specs.Row.{Row, row, keys_of, stored_code}
use Rattle.views.proofs.Indexing.{key_there, row_there}
use Rattle.views.proofs.Picking.{at_head, behind, head_or_behind, mapped, nothing_there, pairs_appended, picked_of, picked_if, picked_once, keys_apart}
use Rattle.views.proofs.Stable.{stable}

-- what is told of rows
told_in : (kind : Kind) (rows : List Row) (c : Change) → Contains (told kind rows) c → (kind ≡ c.kind) × Contains (keys_of rows) c.key
told_in kind [] c there = absurd (nothing_there c there)
told_in kind (r ∷ rows) c there = elim (head_or_behind (change kind r) c (told kind rows) there) [
  | inl same ↦ (ap (λ (x : Change). x.kind) same, subst (Contains (r.key ∷ keys_of rows)) (ap (λ (x : Change). x.key) same) (at_head r.key (keys_of rows)))
  | inr later ↦ let p = told_in kind rows c later in (p.0, behind r.key c.key (keys_of rows) p.1)
]

in_told : (kind : Kind) (rows : List Row) (key : List (List ℕ)) → Contains (keys_of rows) key → Contains (told kind rows) (record { kind = kind; key = key })
in_told kind [] key there = absurd (nothing_there key there)
in_told kind (r ∷ rows) key there = elim (head_or_behind r.key key (keys_of rows) there) [
  | inl same ↦ subst (λ k. Contains (told kind (r ∷ rows)) (record { kind = kind; key = k })) same (at_head (change kind r) (told kind rows))
  | inr later ↦ behind (change kind r) (record { kind = kind; key = key }) (told kind rows) (in_told kind rows key later)
]

keys_told : (kind : Kind) (rows : List Row) → told_keys (told kind rows) ≡ keys_of rows
keys_told kind [] = refl
keys_told kind (r ∷ rows) = ap (λ ks. r.key ∷ ks) (keys_told kind rows)

-- a key is among keys, or it isn't
among : (keys : List (List (List ℕ))) (key : List (List ℕ)) → Contains keys key ⊎ (Contains keys key → ⊥)
among [] key = inr (λ there. nothing_there key there)
among (k ∷ keys) key = by (among keys key) (is_key k key) refl
  where
    by : Contains keys key ⊎ (Contains keys key → ⊥) → (b : Bool) → is_key k key ≡ b → Contains (k ∷ keys) key ⊎ (Contains (k ∷ keys) key → ⊥)
    by or true e = inl (subst (Contains (k ∷ keys)) (key_is k key e) (at_head k keys))
    by (inl there) false e = inl (behind k key keys there)
    by (inr never) false e = inr (λ there. elim (head_or_behind k key keys there) [
      | inl same ↦ let is = key_same k key same in absurd cc
      | inr later ↦ never later
    ])

module _ (old new : List Row) (changes : List Change) (has : HasChanges old new changes) where
  abbrev whole : List Change
  whole = told Removed has.removed ++ (told Added has.added ++ told Modified has.modified)

  -- a change is of one of the three parts
  removed_key : (key : List (List ℕ)) → IsTold Removed changes key → Contains (keys_of has.removed) key
  removed_key key there = elim (Contains-append_cases (told Removed has.removed) (told Added has.added ++ told Modified has.modified) (record { kind = Removed; key = key }) (subst (λ cs. Contains cs (record { kind = Removed; key = key })) has.in_order there)) [
    | inl first ↦ (told_in Removed has.removed (record { kind = Removed; key = key }) first).1
    | inr later ↦ elim (Contains-append_cases (told Added has.added) (told Modified has.modified) (record { kind = Removed; key = key }) later) [
      | inl second ↦ let e = (told_in Added has.added (record { kind = Removed; key = key }) second).0 in absurd cc
      | inr third ↦ let e = (told_in Modified has.modified (record { kind = Removed; key = key }) third).0 in absurd cc
    ]
  ]

  added_key : (key : List (List ℕ)) → IsTold Added changes key → Contains (keys_of has.added) key
  added_key key there = elim (Contains-append_cases (told Removed has.removed) (told Added has.added ++ told Modified has.modified) (record { kind = Added; key = key }) (subst (λ cs. Contains cs (record { kind = Added; key = key })) has.in_order there)) [
    | inl first ↦ let e = (told_in Removed has.removed (record { kind = Added; key = key }) first).0 in absurd cc
    | inr later ↦ elim (Contains-append_cases (told Added has.added) (told Modified has.modified) (record { kind = Added; key = key }) later) [
      | inl second ↦ (told_in Added has.added (record { kind = Added; key = key }) second).1
      | inr third ↦ let e = (told_in Modified has.modified (record { kind = Added; key = key }) third).0 in absurd cc
    ]
  ]

  modified_key : (key : List (List ℕ)) → IsTold Modified changes key → Contains (keys_of has.modified) key
  modified_key key there = elim (Contains-append_cases (told Removed has.removed) (told Added has.added ++ told Modified has.modified) (record { kind = Modified; key = key }) (subst (λ cs. Contains cs (record { kind = Modified; key = key })) has.in_order there)) [
    | inl first ↦ let e = (told_in Removed has.removed (record { kind = Modified; key = key }) first).0 in absurd cc
    | inr later ↦ elim (Contains-append_cases (told Added has.added) (told Modified has.modified) (record { kind = Modified; key = key }) later) [
      | inl second ↦ let e = (told_in Added has.added (record { kind = Modified; key = key }) second).0 in absurd cc
      | inr third ↦ (told_in Modified has.modified (record { kind = Modified; key = key }) third).1
    ]
  ]

  told_there : (c : Change) → Contains whole c → Contains changes c
  told_there c there = subst (λ cs. Contains cs c) (sym has.in_order) there

  removed_told : (key : List (List ℕ)) → Contains (keys_of has.removed) key → IsTold Removed changes key
  removed_told key there = told_there (record { kind = Removed; key = key }) (Contains-append_left (told Removed has.removed) (told Added has.added ++ told Modified has.modified) (record { kind = Removed; key = key }) (in_told Removed has.removed key there))

  added_told : (key : List (List ℕ)) → Contains (keys_of has.added) key → IsTold Added changes key
  added_told key there = told_there (record { kind = Added; key = key }) (Contains-append_right (told Removed has.removed) (told Added has.added ++ told Modified has.modified) (record { kind = Added; key = key })
      (Contains-append_left (told Added has.added) (told Modified has.modified) (record { kind = Added; key = key }) (in_told Added has.added key there)))

  modified_told : (key : List (List ℕ)) → Contains (keys_of has.modified) key → IsTold Modified changes key
  modified_told key there = told_there (record { kind = Modified; key = key }) (Contains-append_right (told Removed has.removed) (told Added has.added ++ told Modified has.modified) (record { kind = Modified; key = key })
      (Contains-append_right (told Added has.added) (told Modified has.modified) (record { kind = Modified; key = key }) (in_told Modified has.modified key there)))

  removed_is : (key : List (List ℕ)) → IsTold Removed changes key ↔ (Contains (keys_of old) key × (Contains (keys_of new) key → ⊥))
  removed_is key = (
    λ is.
        let r = row_there has.removed key (removed_key key is) in
        let p = picked_of old has.removed (row key r.0) has.removed_are r.1 in
        (key_there old (row key r.0) p.0, p.1),
    λ is.
        let r = row_there old key is.0 in
        removed_told key (key_there has.removed (row key r.0) (picked_if old has.removed (row key r.0) has.removed_are r.1 is.1)),
  )

  added_is : (key : List (List ℕ)) → IsTold Added changes key ↔ (Contains (keys_of new) key × (Contains (keys_of old) key → ⊥))
  added_is key = (
    λ is.
        let r = row_there has.added key (added_key key is) in
        let p = picked_of new has.added (row key r.0) has.added_are r.1 in
        (key_there new (row key r.0) p.0, p.1),
    λ is.
        let r = row_there new key is.0 in
        added_told key (key_there has.added (row key r.0) (picked_if new has.added (row key r.0) has.added_are r.1 is.1)),
  )

  modified_is : (key : List (List ℕ)) → IsTold Modified changes key ↔ IsInBoth old new key
  modified_is key = (
    λ is.
        let r = row_there has.modified key (modified_key key is) in
        let p = picked_of new has.modified (row key r.0) has.modified_are r.1 in
        record { was = p.1.document; is = r.0; there = p.1.there; here = p.0; other = p.1.other },
    λ both.
        modified_told key (key_there has.modified (row key both.is) (picked_if new has.modified (row key both.is) has.modified_are both.here (record { document = both.was; there = both.there; other = both.other }))),
  )

  kept_is : (key : List (List ℕ)) → (Contains (keys_of old) key × (IsTold Removed changes key → ⊥)) ↔ (Contains (keys_of new) key × (IsTold Added changes key → ⊥))
  kept_is key = (
    λ stays. elim (among (keys_of new) key) [
      | inl there ↦ (there, λ came. ((added_is key).0 came).1 stays.0)
      | inr never ↦ absurd (stays.1 ((removed_is key).1 (stays.0, never)))
    ],
    λ stays. elim (among (keys_of old) key) [
      | inl there ↦ (there, λ went. ((removed_is key).0 went).1 stays.0)
      | inr never ↦ absurd (stays.1 ((added_is key).1 (stays.0, never)))
    ],
  )

  -- what is told is among the keys that are
  told_key : (kind : Kind) (key : List (List ℕ)) → IsTold kind changes key → Contains (told_keys changes) key
  told_key kind key there = mapped (λ (c : Change). c.key) changes (record { kind = kind; key = key }) there

  keys_are : told_keys changes ≡ keys_of has.removed ++ (keys_of has.added ++ keys_of has.modified)
  keys_are =
      ap told_keys has.in_order ∙ map-append (λ (c : Change). c.key) (told Removed has.removed) (told Added has.added ++ told Modified has.modified)
      ∙ ap (λ ks. told_keys (told Removed has.removed) ++ ks) (map-append (λ (c : Change). c.key) (told Added has.added) (told Modified has.modified))
      ∙ (λ i. keys_told Removed has.removed i ++ (keys_told Added has.added i ++ keys_told Modified has.modified i))

  once_is : AllPairs ◌≢◌ (keys_of old) → AllPairs ◌≢◌ (keys_of new) → AllPairs ◌≢◌ (told_keys changes)
  once_is olds news = subst (AllPairs ◌≢◌) (sym keys_are)
      (pairs_appended ◌≢◌ (keys_of has.removed) (keys_of has.added ++ keys_of has.modified)
      (keys_apart old has.removed has.removed_are olds)
      (pairs_appended ◌≢◌ (keys_of has.added) (keys_of has.modified)
      (keys_apart new has.added has.added_are news)
      (keys_apart new has.modified has.modified_are news)
      (λ x y came differs same.
      let both = (modified_is y).0 (modified_told y differs) in
      ((added_is x).0 (added_told x came)).1 (subst (Contains (keys_of old)) (sym same) (key_there old (row y both.was) both.there))))
      (λ x y went later same. ((removed_is x).0 (removed_told x went)).1 (subst (Contains (keys_of new)) (sym same) (elim (Contains-append_cases (keys_of has.added) (keys_of has.modified) y later) [
        | inl came ↦ ((added_is y).0 (added_told y came)).0
        | inr differs ↦ let both = (modified_is y).0 (modified_told y differs) in key_there new (row y both.is) both.here
      ]))))

  -- two rows of a key that isn't told are one
  untold : (key : List (List ℕ)) (was is : Stored) → (Contains (told_keys changes) key → ⊥) → Contains old (row key was) → Contains new (row key is) → was ≡ is
  untold key was is never there here = stable stored_code was is (λ other. never (told_key Modified key ((modified_is key).1 (record { was = was; is = is; there = there; here = here; other = other }))))

  others_is : (r : Row) → (Contains (told_keys changes) r.key → ⊥) → Contains old r ↔ Contains new r
  others_is r never = (
    λ there. elim (among (keys_of new) r.key) [
      | inl here ↦ let n = row_there new r.key here in subst (λ d. Contains new (row r.key d)) (sym (untold r.key r.document n.0 never there n.1)) n.1
      | inr gone ↦ absurd (never (told_key Removed r.key ((removed_is r.key).1 (key_there old r there, gone))))
    ],
    λ here. elim (among (keys_of old) r.key) [
      | inl there ↦ let o = row_there old r.key there in subst (λ d. Contains old (row r.key d)) (untold r.key o.0 r.document never o.1 here) o.1
      | inr fresh ↦ absurd (never (told_key Added r.key ((added_is r.key).1 (key_there new r here, fresh))))
    ],
  )

pub changes_follow : ChangesFollow
changes_follow old new changes olds news has = record {
  removed = removed_is old new changes has;
  added = added_is old new changes has;
  modified = modified_is old new changes has;
  once = once_is old new changes has olds news;
  kept = kept_is old new changes has;
  others = others_is old new changes has;
}

pub changes_are_one : ChangesAreOne
changes_are_one old new changes others has too =
    has.in_order
    ∙ (λ i. told Removed (picked_once old has.removed too.removed has.removed_are too.removed_are i) ++ (told Added (picked_once new has.added too.added has.added_are too.added_are i) ++ told Modified (picked_once new has.modified too.modified has.modified_are too.modified_are i)))
    ∙ sym too.in_order
