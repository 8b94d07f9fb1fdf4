-- What the changes of a snapshot say to who applies them to what was shown before.
use Rattle.std.specs.Prelude.{◌≡◌, ◌≢◌, ◌↔◌, ℕ, List, map as each}
use Rattle.std.specs.List.{AllPairs, Contains}
use Rattle.value_model.specs.Documents.{Stored}
use Rattle.views.specs.declared.change.Change.{Change}
use Rattle.views.specs.declared.change.Kind.{Kind}
use Rattle.views.specs.declared.change.Kind.TheVariants.{Added, Removed, Modified}
use Rattle.views.specs.Changes.{HasChanges}
use Rattle.views.specs.Row.{Row, row, keys_of}

-- the key is told in a change of this kind
abbrev pub IsTold : Kind → List Change → List (List ℕ) → Type 0
IsTold kind changes key = Contains changes (record { kind = kind; key = key })

-- the keys that are told
abbrev pub told_keys : List Change → List (List (List ℕ))
told_keys changes = each (λ (c : Change). c.key) changes

-- the key is in both, and its document is printed otherwise
pub record IsInBoth (old new : List Row) (key : List (List ℕ)) : Type 0 where
  pub was : Stored
  pub is : Stored
  pub there : Contains old (row key was)
  pub here : Contains new (row key is)
  pub other : was ≢ is

-- What isn't removed of the old keys is what isn't added of the new ones; each other row is as it was; and no key is told
-- twice. So the rows after are the old ones without the removed keys, with the modified documents, the added ones among
-- them, in the new order.
pub record Follows (old new : List Row) (changes : List Change) : Type 0 where
  pub removed : (key : List (List ℕ)) → IsTold Removed changes key ↔ (Contains (keys_of old) key × (Contains (keys_of new) key → ⊥))
  pub added : (key : List (List ℕ)) → IsTold Added changes key ↔ (Contains (keys_of new) key × (Contains (keys_of old) key → ⊥))
  pub modified : (key : List (List ℕ)) → IsTold Modified changes key ↔ IsInBoth old new key
  pub once : AllPairs ◌≢◌ (told_keys changes)
  pub kept : (key : List (List ℕ)) → (Contains (keys_of old) key × (IsTold Removed changes key → ⊥)) ↔ (Contains (keys_of new) key × (IsTold Added changes key → ⊥))
  pub others : (r : Row) → (Contains (told_keys changes) r.key → ⊥) → Contains old r ↔ Contains new r

-- from the rows before, the changes lead to the rows after
abbrev pub ChangesFollow : Type 0
ChangesFollow = (old new : List Row) (changes : List Change) → AllPairs ◌≢◌ (keys_of old) → AllPairs ◌≢◌ (keys_of new) → HasChanges old new changes → Follows old new changes

-- the rows before and after determine the changes
abbrev pub ChangesAreOne : Type 0
ChangesAreOne = (old new : List Row) (changes others : List Change) → HasChanges old new changes → HasChanges old new others → changes ≡ others
