-- what a shelf holds
use Rattle.std.proofs.Common.{◌≡◌, ◌∙◌, inl, inr, ◌↔◌, ℕ, suc, ◌+◌, ◌<◌, true, false, cond, Ordering, Less, Equal, Greater, IsSome, is_some, Option, Some, None, List, [], ◌∷◌, ◌++◌, length, get_or, take, option_map, refl, sym, ap, subst, arith}
use Rattle.std.specs.Cmp.{tied_itself}
use Rattle.std.specs.Cmp.Lexicographic.{slice_cmp}
use Rattle.std.specs.Ordering.{nat_cmp, is_eq}
use Rattle.std.specs.FinMap as finite
use Rattle.std.specs.List.{Contains}
use Rattle.std.proofs.lemmas.List.{map_more}
use Rattle.std.proofs.lemmas.List.Elements.{Contains-append_left, Contains-push, Contains-push_cases}
use Rattle.std.proofs.lemmas.List.Recursion.{found_at, found_nowhere}
use Rattle.document_keys.proofs.Order.{paths_compute}
use Rattle.document_keys.specs.KeySet.{IsAscending, Inserts}
use Rattle.value_model.specs.Data.{Entries}
use Rattle.value_model.specs.Documents.{IsIn, ListsCollection}
use Rattle.queries.proofs.Counting.{first_or_rest}
use Rattle.query_tests.specs.declared.shelf.Held.{Held}
use Rattle.query_tests.specs.Shelf.{documents_of, find_in, stored_of, keys_of, Takes, KeepsIn}

outside : (b : _) (fields : Entries) (found : Option Entries) → cond b (Some (stored_of fields)) (option_map stored_of found) ≡ option_map stored_of (cond b (Some fields) found)
outside true fields found = refl
outside false fields found = refl

pub got : (documents : List Held) (key : List (List ℕ)) → finite.get (documents_of documents) key ≡ option_map stored_of (find_in documents key)
got [] key = finite.get-empty (slice_cmp (slice_cmp nat_cmp)) key
got (held ∷ rest) key =
    finite.get-insert paths_compute.total (documents_of rest) held.key (stored_of held.fields) key
    ∙ ap (cond (is_eq (slice_cmp (slice_cmp nat_cmp) key held.key)) (Some (stored_of held.fields))) (got rest key)
    ∙ outside (is_eq (slice_cmp (slice_cmp nat_cmp) key held.key)) held.fields (find_in rest key)

pub found_here : (documents : List Held) (key : List (List ℕ)) (i : ℕ) (d : Held) → i < length documents → ((k : ℕ) → k < i → is_eq (slice_cmp (slice_cmp nat_cmp) key (get_or documents k d).key) ≡ false) → is_eq (slice_cmp (slice_cmp nat_cmp) key (get_or documents i d).key) ≡ true → find_in documents key ≡ Some (get_or documents i d).fields
found_here documents key i d inside before here =
    found_at (λ hs. find_in hs key) (λ (h : Held). is_eq (slice_cmp (slice_cmp nat_cmp) key h.key)) (λ (h : Held). Some h.fields) None refl (λ x xs. refl) documents i d inside before here

pub found_none : (documents : List Held) (key : List (List ℕ)) (n : ℕ) → length documents ≡ n → ((k : ℕ) (d : Held) → k < n → is_eq (slice_cmp (slice_cmp nat_cmp) key (get_or documents k d).key) ≡ false) → find_in documents key ≡ None
found_none [] key n long none = refl
found_none (held ∷ rest) key n long none =
    found_nowhere (λ hs. find_in hs key) (λ (h : Held). is_eq (slice_cmp (slice_cmp nat_cmp) key h.key)) (λ (h : Held). Some h.fields) None refl (λ x xs. refl) (held ∷ rest) held (λ k below. none k held (omega arith))

-- a key is found where a document has it
by_order : (held : Held) (rest : List Held) (key : List (List ℕ)) (o : Ordering) → slice_cmp (slice_cmp nat_cmp) key held.key ≡ o → (IsSome (find_in rest key) ↔ Contains (keys_of rest) key) → IsSome (cond (is_eq o) (Some held.fields) (find_in rest key)) ↔ Contains (keys_of (held ∷ rest)) key
by_order held rest key Equal is more = (λ some. (0, omega arith, sym (paths_compute.exact key held.key is)), λ there. refl)
by_order held rest key Less is more = (
  λ some. let there = more.0 some in let inside = there.1 in (suc there.0, omega arith, there.2),
  λ there. elim (first_or_rest held.key (keys_of rest) key there) [
    | inl same ↦ absurd (let e : slice_cmp (slice_cmp nat_cmp) key held.key ≡ Equal = ap (slice_cmp (slice_cmp nat_cmp) key) same ∙ tied_itself paths_compute.total key in cc)
    | inr after ↦ more.1 after
  ],
)
by_order held rest key Greater is more = (
  λ some. let there = more.0 some in let inside = there.1 in (suc there.0, omega arith, there.2),
  λ there. elim (first_or_rest held.key (keys_of rest) key there) [
    | inl same ↦ absurd (let e : slice_cmp (slice_cmp nat_cmp) key held.key ≡ Equal = ap (slice_cmp (slice_cmp nat_cmp) key) same ∙ tied_itself paths_compute.total key in cc)
    | inr after ↦ more.1 after
  ],
)

pub is_found : (documents : List Held) (key : List (List ℕ)) → IsSome (find_in documents key) ↔ Contains (keys_of documents) key
is_found [] key = (λ some. let no : false ≡ true = some in cc, λ there. absurd (let inside = there.1 in omega arith))
is_found (held ∷ rest) key = by_order held rest key (slice_cmp (slice_cmp nat_cmp) key held.key) refl (is_found rest key)

stored_some : (found : Option Entries) → is_some (option_map stored_of found) ≡ is_some found
stored_some None = refl
stored_some (Some fields) = refl

pub has_key : (documents : List Held) (key : List (List ℕ)) → is_some (finite.get (documents_of documents) key) ≡ is_some (find_in documents key)
has_key documents key = ap is_some (got documents key) ∙ stored_some (find_in documents key)

pub none_kept : (collection : List (List ℕ)) (keys : List (List (List ℕ))) (documents : List Held) → keys ≡ [] → documents ≡ [] → KeepsIn collection documents keys
none_kept collection keys documents empty none k =
    (λ there. absurd (let inside = there.1 in let e = ap length empty in omega arith), λ both. absurd (let inside = both.1.1 in let e = ap (λ hs. length (keys_of hs)) none in omega arith))

pub one_kept : (collection : List (List ℕ)) (documents : List Held) (i : ℕ) (held : Held) (old new : List (List (List ℕ))) → i < length documents → held ≡ get_or documents i held → KeepsIn collection (take i documents) old → Takes collection held.key old new → KeepsIn collection (take (i + 1) documents) new
one_kept collection documents i held old new inside is keeps takes k =
    let more : keys_of (take (i + 1) documents) ≡ keys_of (take i documents) ++ held.key ∷ [] = map_more (λ (h : Held). h.key) documents i held inside ∙ ap (λ (h : Held). keys_of (take i documents) ++ h.key ∷ []) (sym is) in (
      λ there. elim ((takes k).0 there) [
        | inl both ↦ (both.0, subst (λ ks. Contains ks k) (sym more) (subst (Contains (keys_of (take i documents) ++ held.key ∷ [])) (sym both.1) (Contains-push (keys_of (take i documents)) held.key)))
        | inr before ↦ let both = (keeps k).0 before in (both.0, subst (λ ks. Contains ks k) (sym more) (Contains-append_left (keys_of (take i documents)) (held.key ∷ []) k both.1))
      ],
      λ both. elim (Contains-push_cases (keys_of (take i documents)) held.key k (subst (λ ks. Contains ks k) more both.1)) [
        | inl before ↦ (takes k).1 (inr ((keeps k).1 (both.0, before)))
        | inr same ↦ (takes k).1 (inl (both.0, sym same))
      ],
    )

pub taken : (collection key copy : List (List ℕ)) (old new : List (List (List ℕ))) → copy ≡ key → IsIn collection key → Inserts copy old new → Takes collection key old new
taken collection key copy old new is inside inserts k = (
  λ there. elim ((inserts k).0 there) [ inl same ↦ inl (subst (IsIn collection) (sym (same ∙ is)) inside, same ∙ is) | inr before ↦ inr before ],
  λ or. elim or [ inl both ↦ (inserts k).1 (inl (both.1 ∙ sym is)) | inr before ↦ (inserts k).1 (inr before) ],
)

pub lists : (collection : List (List ℕ)) (documents : List Held) (keys : List (List (List ℕ))) → IsAscending keys → KeepsIn collection documents keys → ListsCollection (documents_of documents) collection keys
lists collection documents keys ascending keeps = record {
  ascending = ascending;
  members = λ key. (
    λ there. let both = (keeps key).0 there in (both.0, has_key documents key ∙ (is_found documents key).1 both.1),
    λ both. (keeps key).1 (both.0, (is_found documents key).0 (sym (has_key documents key) ∙ both.1)),
  );
}
