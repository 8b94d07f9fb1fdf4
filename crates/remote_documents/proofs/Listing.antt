-- the keys of all entries, gathered along the keys of all places
use Rattle.std.proofs.Common.{◌≡◌, ◌↔◌, inl, inr, List, ℕ, [], ◌∷◌, ◌++◌, ◌+◌, ◌<◌, IsTrue, take, length, get_or, sym, subst, arith}
use Rattle.std.specs.List.{Contains}
use Rattle.std.specs.Option.{is_some}
use Rattle.std.proofs.lemmas.List.{take_more}
use Rattle.std.proofs.lemmas.List.Elements.{Contains-append_left, Contains-push, Contains-push_cases}
use Rattle.document_keys.specs.KeySet.{Inserts}
use Rattle.key_table.specs.Table.{has_key}
use Rattle.remote_documents.specs.Table.{Table, entry_of}
use Rattle.remote_documents.proofs.Tables.{has_from_entry}

-- the keys that are gathered are those of the list that have an entry
abbrev pub AreHeld : Table → List (List (List ℕ)) → List (List (List ℕ)) → Type 0
AreHeld table all keys = (q : List (List ℕ)) → Contains keys q ↔ (Contains all q × IsTrue (is_some (entry_of table q)))

module _ (table : Table) (all keys : List (List (List ℕ))) (i : ℕ) (k : List (List ℕ)) (below : i < length all) (is : k ≡ get_or all i k) (so_far : AreHeld table (take i all) keys) where
  pushed : take (i + 1) all ≡ take i all ++ k ∷ []
  pushed = subst (λ x. take (i + 1) all ≡ take i all ++ x ∷ []) (sym is) (take_more all i k below)

  -- the key has no entry
  pub left_out : ¬ (IsTrue (is_some (entry_of table k))) → AreHeld table (take (i + 1) all) keys
  left_out none q = subst (λ l. Contains keys q ↔ (Contains l q × IsTrue (is_some (entry_of table q)))) (sym pushed) (
    λ there. (Contains-append_left (take i all) (k ∷ []) q (((so_far q).0 there).0), ((so_far q).0 there).1),
    λ both. elim (Contains-push_cases (take i all) k q both.0) [
      | inl old ↦ (so_far q).1 (old, both.1)
      | inr same ↦ absurd (none (subst (λ x. IsTrue (is_some (entry_of table x))) (sym same) both.1))
    ],
  )

  -- the key has one
  pub gathered : (after : List (List (List ℕ))) → Inserts k keys after → IsTrue (is_some (entry_of table k)) → AreHeld table (take (i + 1) all) after
  gathered after more some q = subst (λ l. Contains after q ↔ (Contains l q × IsTrue (is_some (entry_of table q)))) (sym pushed) (
    λ there. elim ((more q).0 there) [
      | inl same ↦ subst (λ x. Contains (take i all ++ k ∷ []) x × IsTrue (is_some (entry_of table x))) (sym same) (Contains-push (take i all) k, some)
      | inr old ↦ (Contains-append_left (take i all) (k ∷ []) q (((so_far q).0 old).0), ((so_far q).0 old).1)
    ],
    λ both. elim (Contains-push_cases (take i all) k q both.0) [
      | inl old ↦ (more q).1 (inr ((so_far q).1 (old, both.1)))
      | inr same ↦ (more q).1 (inl (sym same))
    ],
  )

-- none of an empty list
pub none_yet : (table : Table) (all keys : List (List (List ℕ))) → keys ≡ [] → all ≡ [] → AreHeld table all keys
none_yet table all keys none empty q = subst (λ l. Contains l q ↔ (Contains all q × IsTrue (is_some (entry_of table q)))) (sym none) (
  λ there. absurd (omega (arith, there.1)),
  λ both. subst (λ l. Contains l q) empty both.0,
)

-- those that have an entry are among the keys of all places
pub all_held : (table : Table) (all keys : List (List (List ℕ))) → ((q : List (List ℕ)) → Contains all q ↔ IsTrue (has_key table q)) → AreHeld table all keys → (q : List (List ℕ)) → Contains keys q ↔ IsTrue (is_some (entry_of table q))
all_held table all keys places are q = (
  λ there. ((are q).0 there).1,
  λ some. (are q).1 ((places q).1 (has_from_entry table q some), some),
)
